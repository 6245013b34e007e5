-- The entry that a lane has next is the one that the machine finds by its number.
use Rattle.std.proofs.Common.{◌≡◌, ℕ, ◌+◌, ◌<◌, true, nat_lt, List, Option, None, Some, refl, sym, ap, ◌∙◌, subst, arith, is_none}
use Rattle.std.specs.List.{slice_get}
use Rattle.std.specs.Option.{option_and_then, IfSome, IsSomeAnd}
use Rattle.gaspi_types.specs.Lanes.{is_posted, carried_count, may_take, position_of}
use Rattle.gaspi_types.specs.declared.entries.Entry.{Entry}
use Rattle.gaspi_types.specs.declared.entries.Queue.{Queue}
use Rattle.gaspi_types.specs.declared.events.Outcome.{Outcome}
use Rattle.gaspi_types.specs.declared.events.Outcome.TheVariants.{Applied, Failed}
use Rattle.gaspi_types.specs.declared.shapes.Limits.{Limits}
use Rattle.gaspi_model.specs.Sound.{IsSound, AreRising}
use Rattle.gaspi_model.specs.Transfers.{EntryPosition, same_outcome}
use Rattle.gaspi_model.specs.declared.states.Posts.{Posts}
use Rattle.gaspi_model.specs.declared.states.State.{State}
use Rattle.post_queue.specs.Places.{first_posted, first_carried}
use Rattle.post_queue.specs.Steps.{front_posted_in, front_carried_in, head_in}
use Rattle.rank_node.specs.Values.{PostsValue}
use Rattle.gaspi_types.proofs.Chains.{both}
use Rattle.gaspi_model.proofs.FoundEntries.{IsFound}
use Rattle.gaspi_model.proofs.Sound.Rising.{position_of-rising}

pub same-some : {A : Type 0} (o : Option A) (x y : A) → o ≡ Some x → o ≡ Some y → x ≡ y
same-some o x y a b = let both : ◌≡◌ {A = Option _} (Some x) (Some y) = sym a ∙ b in cc

-- a clause on what is there
pub if-there : {A : Type 0} (o : Option A) (x : A) (P : A → Type 0) → o ≡ Some x → IfSome o P → P x
if-there o x P is h = let here = subst (λ (o : Option _). IfSome o P) is h in here

pub some-and : {A : Type 0} (o : Option A) (P : A → Type 0) → IsSomeAnd o P → (x : A) × (o ≡ Some x) × P x
some-and (Some x) P h = (x, refl, h)
some-and None P h = absurd h

pub same-outcomes : (a b : Outcome) → same_outcome a b ≡ true → a ≡ b
same-outcomes Applied Applied h = refl
same-outcomes Failed Failed h = refl
same-outcomes Applied Failed h = absurd (let no : ⊥ = cc in no)
same-outcomes Failed Applied h = absurd (let no : ⊥ = cc in no)

-- the place of the entry that a lane has at a place
pub placed : (next number : ℕ) (lane : List Entry) (place there : ℕ) (e : Entry) → AreRising next lane → position_of lane number ≡ Some place → slice_get lane there ≡ Some e → e.number ≡ number → place ≡ there
placed next number lane place there e rising numbered at same =
    same-some (position_of lane number) place there numbered (subst (λ (k : ℕ). position_of lane k ≡ Some there) same (position_of-rising next lane there e rising at))

-- an entry of a lane by a choice
abbrev pub chosen : (List Entry → Option Entry) → Posts → ℕ → ℕ → Option Entry
chosen choose posts queue target = option_and_then (λ (q : Queue). option_and_then choose (slice_get q.lanes target)) (slice_get posts.queues queue)

pub chosen-found : (choose : List Entry → Option Entry) (posts : Posts) (queue target number : ℕ) (at : EntryPosition) → IsFound posts queue target number at → chosen choose posts queue target ≡ choose at.lane
chosen-found choose posts queue target number at is = rw (is.in_posts, is.in_queue) refl

pub take-next : (limits : Limits) (posts : Posts) (queue target number : ℕ) (at : EntryPosition) → IsFound posts queue target number at → is_none at.queue.broken ≡ true
    → may_take limits.depth at.lane at.entry ≡ true → first_posted at.lane ≡ Some at.entry → option_and_then (front_posted_in limits.depth target) (slice_get posts.queues queue) ≡ Some at.entry
take-next limits posts queue target number at is whole permitted first =
    let room = (both (is_posted at.entry) (nat_lt (carried_count at.lane) limits.depth) permitted).1 in
    rw (is.in_posts, whole, is.in_queue, room, first) refl

pub put-next : (posts : Posts) (queue target number : ℕ) (at : EntryPosition) → IsFound posts queue target number at → is_none at.queue.broken ≡ true
    → first_carried at.lane ≡ Some at.entry → option_and_then (front_carried_in target) (slice_get posts.queues queue) ≡ Some at.entry
put-next posts queue target number at is whole first = rw (is.in_posts, whole, is.in_queue, first) refl

pub head-found : (posts : Posts) (queue target number : ℕ) (at : EntryPosition) → IsFound posts queue target number at → option_and_then (head_in target) (slice_get posts.queues queue) ≡ slice_get at.lane 0
head-found posts queue target number at is = rw (is.in_posts, is.in_queue) refl

-- an event that is a step has room
pub room-for : (s t : State) (rank : ℕ) (p : PostsValue) (after : Posts) → IsSound t → t.limits ≡ s.limits → p.limits ≡ s.limits → slice_get t.posts rank ≡ Some after → after.events ≡ p.posts.events + 1
    → p.posts.events < p.limits.events
room-for s t rank p after sound kept limits there count =
    let room = (sound.posts rank after there).room in
    let same = ap (λ (l : Limits). l.events) limits in
    let stays = ap (λ (l : Limits). l.events) kept in
    omega arith
