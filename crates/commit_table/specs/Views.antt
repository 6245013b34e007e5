-- What a pass knows, in words, and what each call makes of it.
use Rattle.std.specs.Prelude.{ℕ, false, true, cond, eqb, ltb, List, [], ◌∷◌, ◌++◌, length, Option, None, Some}
use Rattle.commit_table.specs.declared.views.PassView.{PassView}
use Rattle.commit_table.specs.declared.views.SeatView.{SeatView}
use Rattle.commit_table.specs.declared.views.LockRecord.{LockRecord}
use Rattle.commit_table.specs.declared.views.LockOp.TheVariants as lock_op

module _ {E : Type 0} where
  -- what is held of a shard: the history that its value stands for, or none where the shard is not held
  abbrev pub held_at : List (ℕ × Option (List E)) → ℕ → Option (List E)
  held_at [] i = None
  held_at (x ∷ xs) i = cond (eqb i x.0) x.1 (held_at xs i)

  -- each of these shards is held with the history g
  abbrev pub holds_all : List ℕ → List E → List (ℕ × Option (List E)) → List (ℕ × Option (List E))
  holds_all [] g held = held
  holds_all (i ∷ is) g held = (i, Some g) ∷ holds_all is g held

  -- of two histories the longer one, which is the first where they are as long; and the other one
  abbrev pub longer : List E → List E → List E
  longer xs ys = cond (ltb (length xs) (length ys)) ys xs

  -- of two histories the other one
  abbrev pub shorter : List E → List E → List E
  shorter xs ys = cond (ltb (length xs) (length ys)) xs ys

  -- the events of a party that a pass committed, with one more where the event has a party
  abbrev pub mine_after : Option ℕ → List E → E → List E
  mine_after None mine e = mine
  mine_after (Some p) mine e = mine ++ e ∷ []

module _ {S E : Type 0} where
  -- the pass of a party before its first call, and a pass of no party that has seen a history
  abbrev pub new_pass : S → Option ℕ → List E → PassView S E
  new_pass start party seen = record { start = Some start; party = party; seen = seen; mine = []; commits = []; looks = []; held = []; missed = []; lock_operations = []; lock_history = [] }

  -- what a note of a pass knows: what the pass has seen, and no more
  abbrev pub noted : PassView S E → PassView S E
  noted v = record { start = v.start; party = None; seen = v.seen; mine = []; commits = []; looks = []; held = []; missed = []; lock_operations = []; lock_history = [] }

  -- another seat's history was taken over, where it is the longer one
  abbrev pub also_seen : PassView S E → List E → PassView S E
  also_seen v s = record v { seen = longer v.seen s }

  -- what a pass knows after it took a shard, whose value stands for g
  abbrev pub after_take : PassView S E → ℕ → List E → PassView S E
  after_take v i g = record v { held = (i, Some g) ∷ v.held; lock_operations = (i, lock_op.Took) ∷ v.lock_operations }

  -- after it missed a shard, with the lock operations of all passes up to that miss
  abbrev pub after_miss : PassView S E → ℕ → List LockRecord → PassView S E
  after_miss v i met = record v { missed = v.missed ++ i ∷ []; lock_operations = (i, lock_op.Missed) ∷ v.lock_operations; lock_history = met }

  -- after it gave a shard back
  abbrev pub after_give_back : PassView S E → ℕ → PassView S E
  after_give_back v i = record v { held = (i, None) ∷ v.held; lock_operations = (i, lock_op.GaveBack) ∷ v.lock_operations }

  -- the history h was seen
  abbrev pub after_look : PassView S E → List E → PassView S E
  after_look v h = record v { seen = h; looks = v.looks ++ length h ∷ [] }

  -- the event e of a party was committed after h, on these shards
  abbrev pub after_commit : PassView S E → List E → E → Option ℕ → List ℕ → PassView S E
  after_commit v h e party shards = record v { seen = h ++ e ∷ []; mine = mine_after party v.mine e; commits = v.commits ++ length h ∷ []; held = holds_all shards (h ++ e ∷ []) v.held }

  -- a seat between two calls: no slot is out, and nothing else is under way
  abbrev pub at_rest : PassView S E → SeatView S E
  at_rest v = record { known = v; slot_out = None; note_history = []; first_party = 0; end_party = 0; is_closer = false; joined_passes = []; closed = false }

  -- the slot of a shard is out with the seat
  abbrev pub with_slot_out : PassView S E → ℕ → SeatView S E
  with_slot_out v i = record (at_rest v) { slot_out = Some i }

  -- a seat that remembers a history beside what it has seen
  abbrev pub with_kept_history : PassView S E → List E → SeatView S E
  with_kept_history v h = record (at_rest v) { note_history = h }

  -- a seat that took in a note which had seen s: of the two histories it has seen the longer, and remembers the other
  abbrev pub with_note : PassView S E → List E → SeatView S E
  with_note v s = with_kept_history (also_seen v s) (shorter v.seen s)

  -- the seat that makes the passes from k on and below n
  abbrev pub splitting_seat : S → ℕ → ℕ → SeatView S E
  splitting_seat start k n = record (at_rest (new_pass start None [])) { first_party = k; end_party = n }

  -- the seat that takes in all passes to close the table, when it has seen a history
  abbrev pub closing_seat : S → List E → List (PassView S E) → SeatView S E
  closing_seat start seen passes = record (at_rest (new_pass start None seen)) { is_closer = true; joined_passes = passes }

  -- the same, when it has looked last
  abbrev pub closed_seat : S → List E → List (PassView S E) → SeatView S E
  closed_seat start h passes = record (closing_seat start h passes) { closed = true }

  -- it took in a pass: of the two histories the longer is now what it has seen, and it remembers the pass with its own
  abbrev pub with_pass : SeatView S E → PassView S E → SeatView S E
  with_pass v w = record v { known = also_seen v.known w.seen; joined_passes = v.joined_passes ++ w ∷ [] }

  -- what a seat that closed the table has seen and taken in, alone
  abbrev pub tally_of : SeatView S E → SeatView S E
  tally_of v = record (at_rest (noted v.known)) { joined_passes = v.joined_passes }

  -- what is left of a seat that another took in
  abbrev pub joined_seat : SeatView S E
  joined_seat = at_rest (record { start = None; party = None; seen = []; mine = []; commits = []; looks = []; held = []; missed = []; lock_operations = []; lock_history = [] })
