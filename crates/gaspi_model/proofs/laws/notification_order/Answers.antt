use Rattle.gaspi_model.proofs.Ordered.Notifications.{order, read-order}
use Rattle.gaspi_model.proofs.Ordered.Posts.{posted-write, posted-read, posted-notify, posted-write_notify, posted-read_notify, posted-write_list, posted-read_list, posted-write_list_notify, posted-read_list_notify}
use Rattle.gaspi_model.proofs.laws.notification_order.Goals as goal

pub returns-clause-write : goal.returns-clause-write
returns-clause-write c = posted-write

pub returns-clause-notify : goal.returns-clause-notify
returns-clause-notify c = posted-notify

pub returns-clause-write_notify : goal.returns-clause-write_notify
returns-clause-write_notify c = posted-write_notify

pub returns-clause-read : goal.returns-clause-read
returns-clause-read c = posted-read

pub returns-clause-read_notify : goal.returns-clause-read_notify
returns-clause-read_notify c = posted-read_notify

pub returns-clause-order : goal.returns-clause-order
returns-clause-order c = order

pub returns-clause-read_order : goal.returns-clause-read_order
returns-clause-read_order c = read-order

pub returns-clause-write_list : goal.returns-clause-write_list
returns-clause-write_list c = posted-write_list

pub returns-clause-read_list : goal.returns-clause-read_list
returns-clause-read_list c = posted-read_list

pub returns-clause-write_list_notify : goal.returns-clause-write_list_notify
returns-clause-write_list_notify c = posted-write_list_notify

pub returns-clause-read_list_notify : goal.returns-clause-read_list_notify
returns-clause-read_list_notify c = posted-read_list_notify
