-- What an event of the ring does to what is counted in a state.
use Rattle.std.proofs.Common.{◌≡◌, ℕ, ◌+◌, ◌*◌, ◌%◌, ◌<◌, ◌≤◌, Bool, true, false, ◌==◌, cond, List, [], Some, Ok, refl, sym, ap, ◌∙◌, subst, arith, ◌⊎◌, inl, inr}
use Rattle.std.specs.List.{slice_get}
use Rattle.std.proofs.lemmas.Bool.{eq-eqb, ne_eqb}
use Rattle.std.proofs.Math.Nat.{mod_self, mod-eq_of_lt}
use Rattle.std.proofs.lemmas.Option.{slice_get_within}
use Rattle.gaspi_types.specs.declared.events.Event.{Event}
use Rattle.gaspi_types.proofs.Items.{slice_get-set, same-or-not}
use Rattle.gaspi_model.specs.Step.{step, owner_of}
use Rattle.gaspi_model.specs.declared.states.Posts.{Posts}
use Rattle.gaspi_model.specs.declared.states.Memory.{Memory}
use Rattle.gaspi_model.specs.declared.states.State.{State}
use Rattle.gaspi_model.proofs.Sound.Steps.{steps, limits-stay}
use Rattle.rank_script.specs.Bench.{right_of}
use Rattle.call_journal.proofs.RingState.{HasZero, IsRingPosts, IsRing, IsOwn, IsSent, IsLocal, owed_of, notes_of, slot_of, word_of, owed_in, notes_in, slot_in, second_word, value_at, value-there, value-same, value-other, resets, posts_made, moves, counted_for}

-- the ring goes on
pub local-ring : (ranks : ℕ) (s t : State) (e : Event) → IsRing ranks s → step s e ≡ Ok t → IsLocal ranks s t e → IsRing ranks t
local-ring ranks s t e ring h l = record {
  sound = steps s t e ring.sound h;
  many = ap (λ (x : _). x.ranks) (limits-stay s t e h) ∙ ring.many;
  posts = λ rank p at. posts rank p (slice_get-set s.posts (owner_of e) rank l.p' p (sym (ap (λ (xs : List Posts). slice_get xs rank) l.moved.posts) ∙ at));
  memories = λ rank m at. memories rank m (slice_get-set s.memories l.x rank l.m' m (sym (ap (λ (xs : List Memory). slice_get xs rank) l.moved.memories) ∙ at));
}
  where
    posts : (rank : ℕ) (p : Posts) → ((rank ≡ owner_of e) × (p ≡ l.p')) ⊎ (slice_get s.posts rank ≡ Some p) → IsRingPosts ranks rank p.queues p.segments
    posts rank p (inl same) = rw (same.0, same.1) l.ring_posts
    posts rank p (inr was) = ring.posts rank p was

    memories : (rank : ℕ) (m : Memory) → ((rank ≡ l.x) × (m ≡ l.m')) ⊎ (slice_get s.memories rank ≡ Some m) → HasZero m
    memories rank m (inl same) = rw same.1 l.ring_memory
    memories rank m (inr was) = ring.memories rank m was

-- what is counted of an event for its own rank, and for another
pub counted-mine : (f : Event → ℕ) (e : Event) → counted_for f (owner_of e) e ≡ f e
counted-mine f e = rw (eq-eqb (owner_of e) (owner_of e) refl) refl

pub counted-other : (f : Event → ℕ) (rank : ℕ) (e : Event) → (owner_of e ≡ rank → ⊥) → counted_for f rank e ≡ 0
counted-other f rank e apart = rw (ne_eqb (owner_of e) rank apart) refl

-- what is counted of the posts of a rank
posts-mine : (ranks : ℕ) (s t : State) (e : Event) (f : Posts → ℕ) (l : IsLocal ranks s t e) → (value_at 0 f s.posts (owner_of e) ≡ f l.p) × (value_at 0 f t.posts (owner_of e) ≡ f l.p')
posts-mine ranks s t e f l = (
  value-there 0 f s.posts (owner_of e) l.p l.moved.posts_there,
  ap (λ (xs : List Posts). value_at 0 f xs (owner_of e)) l.moved.posts ∙ value-same 0 f s.posts (owner_of e) l.p l.p' l.moved.posts_there,
)

posts-other : (ranks : ℕ) (s t : State) (e : Event) (f : Posts → ℕ) (l : IsLocal ranks s t e) (rank : ℕ) → (owner_of e ≡ rank → ⊥) → value_at 0 f t.posts rank ≡ value_at 0 f s.posts rank
posts-other ranks s t e f l rank apart = ap (λ (xs : List Posts). value_at 0 f xs rank) l.moved.posts ∙ value-other 0 f s.posts (owner_of e) rank l.p' apart

memory-there : {B : Type 0} (ranks : ℕ) (s t : State) (e : Event) (none : B) (f : Memory → B) (l : IsLocal ranks s t e) → (value_at none f s.memories l.x ≡ f l.m) × (value_at none f t.memories l.x ≡ f l.m')
memory-there {B} ranks s t e none f l = (
  value-there none f s.memories l.x l.m l.moved.memory_there,
  ap (λ (xs : List Memory). value_at none f xs l.x) l.moved.memories ∙ value-same none f s.memories l.x l.m l.m' l.moved.memory_there,
)

memory-other : {B : Type 0} (ranks : ℕ) (s t : State) (e : Event) (none : B) (f : Memory → B) (l : IsLocal ranks s t e) (rank : ℕ) → (l.x ≡ rank → ⊥) → value_at none f t.memories rank ≡ value_at none f s.memories rank
memory-other {B} ranks s t e none f l rank apart = ap (λ (xs : List Memory). value_at none f xs rank) l.moved.memories ∙ value-other none f s.memories l.x rank l.m' apart

-- what a rank owes and has moved comes from its posts
pub local-owed : (ranks : ℕ) (s t : State) (e : Event) (rank : ℕ) → IsLocal ranks s t e
    → counted_for moves rank e + owed_in t rank ≡ owed_in s rank + 4 * counted_for posts_made rank e
local-owed ranks s t e rank l = same-or-not (owner_of e) rank mine other
  where
    mine : owner_of e ≡ rank → counted_for moves rank e + owed_in t rank ≡ owed_in s rank + 4 * counted_for posts_made rank e
    mine here =
        let both = posts-mine ranks s t e owed_of l in
        let a = counted-mine moves e in
        let b = counted-mine posts_made e in
        let owed = l.owed in
        subst (λ (r : ℕ). counted_for moves r e + owed_in t r ≡ owed_in s r + 4 * counted_for posts_made r e) here (rw (a, b, both.0, both.1) owed)

    other : (owner_of e ≡ rank → ⊥) → counted_for moves rank e + owed_in t rank ≡ owed_in s rank + 4 * counted_for posts_made rank e
    other apart =
        let same = posts-other ranks s t e owed_of l rank apart in
        let a = counted-other moves rank e apart in
        let b = counted-other posts_made rank e apart in
        rw (a, b, same) (omega arith)

-- The right neighbours of two ranks are apart.

right-cases : {P : Type 0} (ranks rank : ℕ) → rank < ranks → ((rank + 1 < ranks) → right_of ranks rank ≡ rank + 1 → P) → (rank + 1 ≡ ranks → right_of ranks rank ≡ 0 → P) → P
right-cases {P} ranks rank less inner last = same-or-not (rank + 1) ranks
    (λ is. last is (let none : ranks % ranks ≡ 0 = self in rw is none))
    (λ apart. inner (omega arith) (let below : rank + 1 < ranks = omega arith in small below))
  where
    self : ranks % ranks ≡ 0
    self = mod_self ranks

    small : rank + 1 < ranks → (rank + 1) % ranks ≡ rank + 1
    small below = mod-eq_of_lt below

pub right-apart : (ranks a b : ℕ) → a < ranks → b < ranks → right_of ranks a ≡ right_of ranks b → a ≡ b
right-apart ranks a b la lb same =
    right-cases ranks a la
    (λ ia ra. right-cases ranks b lb (λ ib rb. omega arith) (λ ib rb. absurd (let no : ⊥ = omega arith in no)))
    (λ ia ra. right-cases ranks b lb (λ ib rb. absurd (let no : ⊥ = omega arith in no)) (λ ib rb. omega arith))

pub owner-within : (ranks : ℕ) (s t : State) (e : Event) → IsRing ranks s → IsLocal ranks s t e → owner_of e < ranks
owner-within ranks s t e ring l =
    let within = slice_get_within s.posts (owner_of e) l.p l.moved.posts_there in
    let many = ring.many in
    let all = ring.sound.ranks in
    omega arith

-- What is reset at the right neighbour of a rank comes from the rank's posts.
pub local-slot : (ranks : ℕ) (s t : State) (e : Event) (rank right : ℕ) → IsRing ranks s → rank < ranks → right ≡ right_of ranks rank → IsLocal ranks s t e
    → counted_for resets right e + slot_in t right + notes_in t rank ≤ slot_in s right + notes_in s rank + counted_for posts_made rank e
local-slot ranks s t e rank right ring less is l = go l.effect
  where
    -- what stands in its lanes
    notes : notes_of l.p' ≤ notes_of l.p + posts_made e → notes_in t rank ≤ notes_in s rank + counted_for posts_made rank e
    notes more = same-or-not (owner_of e) rank
        (λ here.
        let both = posts-mine ranks s t e notes_of l in
        let b = counted-mine posts_made e in
        subst (λ (r : ℕ). notes_in t r ≤ notes_in s r + counted_for posts_made r e) here (rw (both.0, both.1, b) more))
        (λ apart. (let same = posts-other ranks s t e notes_of l rank apart in omega arith))

    own : IsOwn e (owner_of e) l.x l.p l.p' l.m l.m' → counted_for resets right e + slot_in t right ≤ slot_in s right
    own o = same-or-not (owner_of e) right
        (λ here.
        let both = memory-there ranks s t e 0 slot_of l in
        let r = counted-mine resets e in
        let slot = o.slot in
        let there : l.x ≡ right = o.place ∙ here in
        let before : slot_in s right ≡ slot_of l.m = subst (λ (k : ℕ). slot_in s k ≡ slot_of l.m) there both.0 in
        let after : slot_in t right ≡ slot_of l.m' = subst (λ (k : ℕ). slot_in t k ≡ slot_of l.m') there both.1 in
        let reset : counted_for resets right e ≡ resets e = subst (λ (k : ℕ). counted_for resets k e ≡ resets e) here r in
        omega arith)
        (λ apart.
        let same = memory-other ranks s t e 0 slot_of l right (λ there. apart (sym o.place ∙ there)) in
        let r = counted-other resets right e apart in
        omega arith)

    sent : IsSent ranks e (owner_of e) l.x l.p l.p' l.m l.m' → counted_for resets right e + slot_in t right + notes_in t rank ≤ slot_in s right + notes_in s rank + counted_for posts_made rank e
    sent o = same-or-not (owner_of e) rank
        (λ here.
        let memory = memory-there ranks s t e 0 slot_of l in
        let posts = posts-mine ranks s t e notes_of l in
        let there : l.x ≡ right = o.place ∙ ap (right_of ranks) here ∙ sym is in
        let before : slot_in s right ≡ slot_of l.m = subst (λ (k : ℕ). slot_in s k ≡ slot_of l.m) there memory.0 in
        let after : slot_in t right ≡ slot_of l.m' = subst (λ (k : ℕ). slot_in t k ≡ slot_of l.m') there memory.1 in
        let notes_before : notes_in s rank ≡ notes_of l.p = subst (λ (k : ℕ). notes_in s k ≡ notes_of l.p) here posts.0 in
        let notes_after : notes_in t rank ≡ notes_of l.p' = subst (λ (k : ℕ). notes_in t k ≡ notes_of l.p') here posts.1 in
        let none = never right in
        let slot = o.slot in
        omega arith)
        (λ apart.
        let within = owner-within ranks s t e ring l in
        let same = memory-other ranks s t e 0 slot_of l right (λ there. apart (right-apart ranks (owner_of e) rank within less (sym o.place ∙ there ∙ is))) in
        let posts = posts-other ranks s t e notes_of l rank apart in
        let none = never right in
        omega arith)
      where
        never : (k : ℕ) → counted_for resets k e ≡ 0
        never k = rw o.reset (by (owner_of e == k))
          where
            by : (b : Bool) → cond {A = ℕ} b 0 0 ≡ 0
            by true = refl
            by false = refl

    go : IsOwn e (owner_of e) l.x l.p l.p' l.m l.m' ⊎ IsSent ranks e (owner_of e) l.x l.p l.p' l.m l.m'
        → counted_for resets right e + slot_in t right + notes_in t rank ≤ slot_in s right + notes_in s rank + counted_for posts_made rank e
    go (inl o) = (let a = own o in let b = notes o.notes in omega arith)
    go (inr o) = sent o

-- Where nothing stands in the lanes of a rank and it posts nothing, nothing comes to stand there, and the word at its right neighbour stays.
pub local-quiet : (ranks : ℕ) (s t : State) (e : Event) (rank right : ℕ) → IsRing ranks s → rank < ranks → right ≡ right_of ranks rank → IsLocal ranks s t e
    → notes_in s rank ≡ 0 → counted_for posts_made rank e ≡ 0 → (notes_in t rank ≡ 0) × (second_word t right ≡ second_word s right)
local-quiet ranks s t e rank right ring less is l none posts = go l.effect
  where
    own : IsOwn e (owner_of e) l.x l.p l.p' l.m l.m' → (notes_in t rank ≡ 0) × (second_word t right ≡ second_word s right)
    own o = (
      same-or-not (owner_of e) rank
          (λ here.
          let both = posts-mine ranks s t e notes_of l in
          let b = counted-mine posts_made e in
          let made : posts_made e ≡ 0 = sym b ∙ subst (λ (k : ℕ). counted_for posts_made k e ≡ 0) (sym here) posts in
          let before : notes_in s rank ≡ notes_of l.p = subst (λ (k : ℕ). notes_in s k ≡ notes_of l.p) here both.0 in
          let after : notes_in t rank ≡ notes_of l.p' = subst (λ (k : ℕ). notes_in t k ≡ notes_of l.p') here both.1 in
          let more = o.notes in
          omega arith)
          (λ apart. posts-other ranks s t e notes_of l rank apart ∙ none),
      same-or-not l.x right
          (λ here.
          let both = memory-there ranks s t e [] word_of l in
          subst (λ (k : ℕ). second_word t k ≡ second_word s k) here (both.1 ∙ o.word ∙ sym both.0))
          (λ apart. memory-other ranks s t e [] word_of l right apart),
    )

    sent : IsSent ranks e (owner_of e) l.x l.p l.p' l.m l.m' → (notes_in t rank ≡ 0) × (second_word t right ≡ second_word s right)
    sent o = same-or-not (owner_of e) rank
        (λ here.
        let posts_mine = posts-mine ranks s t e notes_of l in
        let before : notes_in s rank ≡ notes_of l.p = subst (λ (k : ℕ). notes_in s k ≡ notes_of l.p) here posts_mine.0 in
        let some = o.some in
        absurd (let no : ⊥ = omega arith in no))
        (λ apart.
        let within = owner-within ranks s t e ring l in (
          posts-other ranks s t e notes_of l rank apart ∙ none,
          memory-other ranks s t e [] word_of l right (λ there. apart (right-apart ranks (owner_of e) rank within less (sym o.place ∙ there ∙ is))),
        ))

    go : IsOwn e (owner_of e) l.x l.p l.p' l.m l.m' ⊎ IsSent ranks e (owner_of e) l.x l.p l.p' l.m l.m' → (notes_in t rank ≡ 0) × (second_word t right ≡ second_word s right)
    go (inl o) = own o
    go (inr o) = sent o
