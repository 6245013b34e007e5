-- A caller is active until it has recorded its end, and its end is done then.
use Rattle.std.proofs.Common.{◌≡◌, ◌||◌, ℕ, zero, suc, ◌+◌, ◌<◌, ◌≤◌, Bool, true, false, ◌==◌, nat_lt, List, [], ◌∷◌, map, Option, None, Some, Ok, refl, ap, ◌∙◌, subst, arith}
use Rattle.std.specs.List.{slice_get, list_any, range_with_len}
use Rattle.std.specs.Option.{option_map}
use Rattle.std.proofs.lemmas.Bool.{eqb-true, ltb-true}
use Rattle.std.proofs.lemmas.Option.{slice_get-map}
use Rattle.gaspi_types.specs.CallRows.{is_end}
use Rattle.gaspi_types.specs.World.{ShapeValue, IsShape, is_caller}
use Rattle.gaspi_types.specs.declared.calls.Call.{Call}
use Rattle.gaspi_types.specs.declared.calls.Call.TheVariants.{End}
use Rattle.gaspi_types.specs.declared.events.Event.{Event}
use Rattle.gaspi_types.specs.declared.events.Event.TheVariants.{Called, Joined, Take, Put}
use Rattle.gaspi_types.specs.declared.replies.Ready.TheVariants as ready
use Rattle.gaspi_types.specs.declared.replies.Reply.TheVariants as replies
use Rattle.gaspi_types.specs.declared.shapes.CallerId.{CallerId}
use Rattle.gaspi_types.proofs.Chains.{both}
use Rattle.gaspi_model.specs.Sound.{IsSound}
use Rattle.gaspi_model.specs.State.{opening, opening_posts, opening_thread, is_running, thread_at}
use Rattle.gaspi_model.specs.Step.{after, reached, is_active, ends_caller, answer_in, used_room, lacks_room_in}
use Rattle.gaspi_model.specs.declared.states.Posts.{Posts}
use Rattle.gaspi_model.specs.declared.states.State.{State}
use Rattle.gaspi_model.proofs.Ended.Activity.{active}
use Rattle.gaspi_model.proofs.Histories.{after-first}
use Rattle.gaspi_run.specs.SoFar.{HasNoEnd}

-- At the start.

range-get : (a n i : ℕ) → i < n → slice_get (range_with_len a n) i ≡ Some (a + i)
range-get a zero i less = absurd (omega arith)
range-get a (suc n) zero less = ap (λ (k : ℕ). Some k) (let same : a ≡ a + 0 = omega arith in same)
range-get a (suc n) (suc i) less = range-get (a + 1) n i (omega arith) ∙ ap (λ (k : ℕ). Some k) (let same : a + 1 + i ≡ a + suc i = omega arith in same)

map-range-get : {A : Type 0} (f : ℕ → A) (n i : ℕ) → i < n → slice_get (map f (range_with_len 0 n)) i ≡ Some (f i)
map-range-get {A} f n i less =
    slice_get-map f (range_with_len 0 n) i ∙ ap (λ (o : Option ℕ). option_map f o) (range-get 0 n i less) ∙ ap (λ (k : ℕ). Some (f k)) (let same : 0 + i ≡ i = omega arith in same)

any-there : {A : Type 0} (p : A → Bool) (xs : List A) → list_any p xs ≡ true → (k : ℕ) × (x : A) × (slice_get xs k ≡ Some x) × (p x ≡ true)
any-there p [] any = absurd (let no : ⊥ = cc in no)
any-there {A} p (x ∷ xs) any = go (p x) refl any (any-there p xs)
  where
    go : (b : Bool) → p x ≡ b → (b || list_any p xs) ≡ true → (list_any p xs ≡ true → (k : ℕ) × (y : A) × (slice_get xs k ≡ Some y) × (p y ≡ true))
        → (k : ℕ) × (y : A) × (slice_get (x ∷ xs) k ≡ Some y) × (p y ≡ true)
    go true is h later = (0, x, refl, is)
    go false is h later = let there = later h in (suc there.0, there.1, there.2, there.3)

starts-active : (w : ShapeValue) (rank thread : ℕ) → IsShape w → list_any (is_caller rank thread) w.callers ≡ true → is_active (opening w) rank thread ≡ true
starts-active w rank thread world any =
    let there = any-there (is_caller rank thread) w.callers any in
    let within = world.within there.0 there.1 there.2 in
    let parts = both (there.1.rank == rank) (there.1.thread == thread) there.3 in
    let is_rank : there.1.rank ≡ rank = eqb-true there.1.rank rank parts.0 in
    let is_thread : there.1.thread ≡ thread = eqb-true there.1.thread thread parts.1 in
    let low = within.0 in
    let few = within.1 in
    let posts = map-range-get (opening_posts w) w.limits.ranks rank (omega arith) in
    let threads = map-range-get (opening_thread w rank) 4 thread (omega arith) in
    rw (posts, threads, any) refl

-- Until its end.

end-is : (call : Call) → is_end call ≡ true → call ≡ End
end-is End is = refl
end-is other is = absurd (let no : ⊥ = cc in no)

module _ (c : CallerId) where
  no-end-first : (e : Event) (events : List Event) → HasNoEnd c (e ∷ events) → ends_caller c.rank c.thread e ≡ false
  no-end-first (Called d call reply) events none = go (is_caller c.rank c.thread d) refl (is_end call) refl
    where
      go : (b : Bool) → is_caller c.rank c.thread d ≡ b → (x : Bool) → is_end call ≡ x → ends_caller c.rank c.thread (Called d call reply) ≡ false
      go false other x is = rw other refl
      go true mine false plain = rw (mine, plain) refl
      go true mine true ends = absurd (none 0 reply (rw mine (ap (λ (k : Call). Some (k, reply)) (end-is call ends))))
  no-end-first (Joined d id args) events none = refl
  no-end-first (Take origin queue target number outcome) events none = refl
  no-end-first (Put origin queue target number outcome) events none = refl

  no-end-rest : (e : Event) (events : List Event) → HasNoEnd c (e ∷ events) → HasNoEnd c events
  no-end-rest (Called d call reply) events none k given at = go (is_caller c.rank c.thread d) refl
    where
      go : (b : Bool) → is_caller c.rank c.thread d ≡ b → ⊥
      go true mine = none (suc k) given (rw mine at)
      go false other = none k given (rw other at)
  no-end-rest (Joined d id args) events none k given at = none k given at
  no-end-rest (Take origin queue target number outcome) events none k given at = none k given at
  no-end-rest (Put origin queue target number outcome) events none k given at = none k given at

  stays-active : (s t : State) (events : List Event) → after s events ≡ Ok t → HasNoEnd c events → is_active s c.rank c.thread ≡ true → is_active t c.rank c.thread ≡ true
  stays-active s t [] is none here = (let same : s ≡ t = cc in subst (λ (x : State). is_active x c.rank c.thread ≡ true) same here)
  stays-active s t (e ∷ events) is none here =
      let first = after-first s t e events is in
      stays-active first.0 t events first.2 (no-end-rest e events none) (active s first.0 e c.rank c.thread first.1 (no-end-first e events none) ∙ here)

  -- after a history without its end
  pub still-active : (w : ShapeValue) (history : List Event) (s : State) → IsShape w → list_any (is_caller c.rank c.thread) w.callers ≡ true → reached w history ≡ Ok s → HasNoEnd c history → is_active s c.rank c.thread ≡ true
  still-active w history s world declared is none = stays-active (opening w) s history is none (starts-active w c.rank c.thread world declared)

-- Its end then.

pub end-answer : (s : State) (rank thread : ℕ) → is_active s rank thread ≡ true → answer_in s rank thread End ≡ Some (ready.Reply replies.Done)
end-answer s rank thread here = go (slice_get s.posts rank) refl
  where
    go : (o : Option Posts) → slice_get s.posts rank ≡ o → answer_in s rank thread End ≡ Some (ready.Reply replies.Done)
    go None at = absurd (let never : false ≡ true = rw at at here in let no : ⊥ = cc in no)
    go (Some posts) at = let running : is_running (thread_at posts thread) ≡ true = rw at at here in rw (at, running) refl

room-none : (limit taken : ℕ) → taken ≤ limit → nat_lt limit (taken + 0) ≡ true → ⊥
room-none limit taken fits less = (let over = ltb-true limit (taken + 0) less in omega arith)

pub end-has-room : (s : State) (c : CallerId) → IsSound s → is_active s c.rank c.thread ≡ true → lacks_room_in s c End ≡ true → ⊥
end-has-room s c sound here full = go (slice_get s.posts c.rank) refl
  where
    go : (o : Option Posts) → slice_get s.posts c.rank ≡ o → ⊥
    go None at = (let never : false ≡ true = rw at at here in let no : ⊥ = cc in no)
    go (Some posts) at =
        let room = (sound.posts c.rank posts at).room in
        let taken : used_room s c.rank ≤ s.limits.events = rw at room in
        room-none s.limits.events (used_room s c.rank) taken (rw here at full)
