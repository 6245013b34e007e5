use Rattle.rank_node.specs.Lending.{call_footprint}
use Rattle.two_nodes.proofs.Parts.{footprint-as, alone-reaches, between-reaches, group-reaches, lent-alone, lent-between, lent-group, called-alone, called-between, called-on-group}
use Rattle.two_nodes.proofs.calls.call_of.Goals as goal

pub returns-in-Alone : goal.returns-in-Alone
returns-in-Alone c = λ s other parts declared.
    let caller = c.args.invocation.now.caller in
    let call = c.args.invocation.now.call.now in
    let footprint = footprint-as s caller call other c.args.places.now c.args.own.now c.args.peer.now c.args.group.now parts c.args.invocation.now.row c.footprint.result c.args.invocation.now.rowed c.footprint.ensures in
    let none = alone-reaches (call_footprint s.limits caller.rank call) c.footprint.result footprint c.in-Alone.is in
    called-alone s caller call other c.args.places.now c.args.own.now c.args.peer.now c.args.group.now parts declared c.look_alone.result c.look_alone.new.places c.look_alone.new.own none.0 none.1
    (c.look_alone.ensures s (lent-alone s caller call other c.args.places.now c.args.own.now c.args.peer.now c.args.group.now parts declared none.0 none.1))

pub returns-in-PeerMemory : goal.returns-in-PeerMemory
returns-in-PeerMemory c = λ s other parts declared.
    let caller = c.args.invocation.now.caller in
    let call = c.args.invocation.now.call.now in
    let footprint = footprint-as s caller call other c.args.places.now c.args.own.now c.args.peer.now c.args.group.now parts c.args.invocation.now.row c.footprint.result c.args.invocation.now.rowed c.footprint.ensures in
    let there = between-reaches (call_footprint s.limits caller.rank call) c.footprint.result footprint c.in-PeerMemory.is in
    called-between s caller call other c.args.places.now c.args.own.now c.args.peer.now c.args.group.now parts declared c.look_between.result c.look_between.new.places c.look_between.new.own c.look_between.new.peer there.0 there.1 there.2
    (c.look_between.ensures s (lent-between s caller call other c.args.places.now c.args.own.now c.args.peer.now c.args.group.now parts declared there.0 there.1 there.2))

pub returns-in-Group : goal.returns-in-Group
returns-in-Group c = λ s other parts declared.
    let caller = c.args.invocation.now.caller in
    let call = c.args.invocation.now.call.now in
    let footprint = footprint-as s caller call other c.args.places.now c.args.own.now c.args.peer.now c.args.group.now parts c.args.invocation.now.row c.footprint.result c.args.invocation.now.rowed c.footprint.ensures in
    let there = group-reaches (call_footprint s.limits caller.rank call) c.footprint.result footprint c.in-Group.is in
    called-on-group s caller call other c.args.places.now c.args.own.now c.args.peer.now c.args.group.now parts declared c.look_on_group.result c.look_on_group.new.places c.look_on_group.new.own c.look_on_group.new.group there.0 c.requires.driven there.1 there.2
    (c.look_on_group.ensures s (lent-group s caller call other c.args.places.now c.args.own.now c.args.peer.now c.args.group.now parts declared there.0 c.requires.driven there.1 there.2))
