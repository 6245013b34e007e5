use Rattle.std.proofs.Common.{◌≡◌, List, ◌∷◌, ◌++◌, length, append-nil, sym, ap, ◌∙◌, subst, arith}
use Rattle.std.proofs.lemmas.List.{nil_from_length}
use Rattle.gaspi_types.specs.declared.events.PlacedEvent.{PlacedEvent}
use Rattle.gaspi_texts.specs.Merges.{joined, AreCutOf, AreRisingFrom}
use Rattle.gaspi_world.specs.Closing.{rank_journals}
use Rattle.gaspi_world.specs.declared.shards.WorldShard.{WorldShard}
use Rattle.gaspi_world.proofs.MergedJournals.{journals-are-cut, journals-rise, journals-fit, room-for-next}
use Rattle.gaspi_world.proofs.closing.merged.Goals as goal

-- where nothing is left of a list, all of it was seen
all-yielded : (seen rest all : List WorldShard) → seen ++ rest ≡ all → length rest ≡ 0 → seen ≡ all
all-yielded seen rest all is none = sym (append-nil seen) ∙ (ap (λ (l : List WorldShard). seen ++ l) (sym (nil_from_length rest none)) ∙ is)

pub add_journal-requires : goal.add_journal-requires
add_journal-requires c =
    let given = c.requires.room in
    let next : c.loop-shard.shard-iterator.rest.items ≡ c.in-Some.shard ∷ c.next.new.self.rest.items = c.in-Some.ensures.steps.0 in
    let whole = ap (λ (l : List WorldShard). c.loop-shard.yielded ++ l) (sym next) ∙ c.loop-shard.invariant.whole in
    let room = room-for-next given.0 given.1 given.2 given.4 c.args.shards.items given.3 c.loop-shard.yielded c.next.new.self.rest.items c.in-Some.shard whole in
    let lists = ap length c.loop-shard.invariant.lists in
    let ranks = c.loop-shard.invariant.ranks ∙ ap (λ r. r.ranks) given.5 in
    omega arith

pub merge-requires-clause-rising : goal.merge-requires-clause-rising
merge-requires-clause-rising c =
    let given = c.requires.room in
    let all : c.loop-shard.yielded ≡ c.args.shards.items = all-yielded c.loop-shard.yielded c.loop-shard.shard-iterator.rest.items c.args.shards.items c.loop-shard.invariant.whole (let len = c.loop-shard.shard-iterator.rest.ok in let none = c.in-None.ensures.steps.0 in cc) in
    subst (λ (l : List (List PlacedEvent)). AreRisingFrom 0 l) (sym (c.loop-shard.invariant.lists ∙ ap rank_journals all)) (journals-rise given.0 given.1 given.2 given.4 c.args.shards.items given.3)

pub merge-requires-clause-room : goal.merge-requires-clause-room
merge-requires-clause-room c =
    let given = c.requires.room in
    let all : c.loop-shard.yielded ≡ c.args.shards.items = all-yielded c.loop-shard.yielded c.loop-shard.shard-iterator.rest.items c.args.shards.items c.loop-shard.invariant.whole (let len = c.loop-shard.shard-iterator.rest.ok in let none = c.in-None.ensures.steps.0 in cc) in
    let fit = journals-fit given.0 given.1 given.2 given.4 c.args.shards.items given.3 in
    let lists = ap (λ (l : List (List PlacedEvent)). length (joined l)) (c.loop-shard.invariant.lists ∙ ap rank_journals all) in
    let events = c.loop-shard.invariant.events ∙ ap (λ r. r.events) given.5 in
    omega arith

pub merge-requires-clause-cut : goal.merge-requires-clause-cut
merge-requires-clause-cut c =
    let given = c.requires.room in
    let all : c.loop-shard.yielded ≡ c.args.shards.items = all-yielded c.loop-shard.yielded c.loop-shard.shard-iterator.rest.items c.args.shards.items c.loop-shard.invariant.whole (let len = c.loop-shard.shard-iterator.rest.ok in let none = c.in-None.ensures.steps.0 in cc) in
    (given.1, subst (λ (l : List (List PlacedEvent)). AreCutOf l given.1) (sym (c.loop-shard.invariant.lists ∙ ap rank_journals all)) (journals-are-cut given.0 given.1 given.2 given.4 c.args.shards.items given.3))

pub returns : goal.returns
returns c = λ w journal world are legal.
    let all : c.loop-shard.yielded ≡ c.args.shards.items = all-yielded c.loop-shard.yielded c.loop-shard.shard-iterator.rest.items c.args.shards.items c.loop-shard.invariant.whole (let len = c.loop-shard.shard-iterator.rest.ok in let none = c.in-None.ensures.steps.0 in cc) in
    c.merge.ensures journal (subst (λ (l : List (List PlacedEvent)). AreCutOf l journal) (sym (c.loop-shard.invariant.lists ∙ ap rank_journals all)) (journals-are-cut w journal world legal c.args.shards.items are))
