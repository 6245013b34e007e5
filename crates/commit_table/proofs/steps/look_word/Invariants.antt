use Rattle.commit_table.proofs.steps.look_word.Given as goal

abbrev pub ghosts-look_counted : goal.ghosts-look_counted
ghosts-look_counted g a = record { passes = a.board.now.key.passes }
