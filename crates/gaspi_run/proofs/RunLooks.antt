-- The looks of a run: how many each call made, and where there was no room.
use Rattle.std.proofs.Common.{◌≡◌, ◌⊎◌, ℕ, zero, suc, ◌+◌, ◌<◌, ◌≤◌, true, false, List, [], ◌∷◌, ◌++◌, map, length, length-append, Some, inl, inr, refl, sym, ap, ◌∙◌, subst, arith, append_assoc, append-nil}
use Rattle.std.specs.List.{slice_get, flat_map}
use Rattle.std.proofs.lemmas.List.{map-append}
use mathlib.Core.List.{IsPrefix}
use Rattle.gaspi_types.specs.World.{ShapeValue}
use Rattle.gaspi_types.specs.declared.calls.Call.{Call}
use Rattle.gaspi_types.specs.declared.calls.Timeout.{Timeout}
use Rattle.gaspi_types.specs.declared.events.Event.{Event}
use Rattle.gaspi_types.specs.declared.replies.Reply.{Reply}
use Rattle.gaspi_types.specs.declared.shapes.CallerId.{CallerId}
use Rattle.gaspi_model.specs.Step.{recorded_calls}
use Rattle.timeout_state.specs.Looks.{looks_of}
use Rattle.commit_table.specs.declared.views.PassView.{PassView}
use Rattle.commit_table.proofs.Lists.{prefix_trans, prefix_both}
use Rattle.rank_script.specs.Runs.{RunPosition, AtLine, RunEnded, at_first_line, advanced, Follows}
use Rattle.rank_script.specs.declared.scripts.ScriptLine.{ScriptLine}
use Rattle.gaspi_world.specs.Attempts.{lacks_room_after}
use Rattle.gaspi_world.specs.Calling.{HadRoomAtLooks, AreLooks}
use Rattle.gaspi_world.proofs.SpentLooks.{prefix-own}
use Rattle.gaspi_run.specs.Looks.{looks_in, bounded, AreWithin, AreByCall}
use Rattle.gaspi_run.specs.Runs.{WasFull}

abbrev Histories : Type 0
Histories = List (List Event)

-- the looks of all calls, one behind another
abbrev pub all : List Histories → Histories
all looks = flat_map (λ (ks : Histories). ks) looks

-- What stands in two lists, one behind the other.
pub at-both : {A : Type 0} (xs ys : List A) (k : ℕ) (y : A) → slice_get (xs ++ ys) k ≡ Some y → (slice_get xs k ≡ Some y) ⊎ ((j : ℕ) × (k ≡ length xs + j) × (slice_get ys j ≡ Some y))
at-both [] ys k y at = inr (k, (let same : k ≡ 0 + k = omega arith in same), at)
at-both (x ∷ xs) ys zero y at = inl at
at-both {A} (x ∷ xs) ys (suc k) y at = go (at-both xs ys k y at)
  where
    go : (slice_get xs k ≡ Some y) ⊎ ((j : ℕ) × (k ≡ length xs + j) × (slice_get ys j ≡ Some y)) → (slice_get (x ∷ xs) (suc k) ≡ Some y) ⊎ ((j : ℕ) × (suc k ≡ length (x ∷ xs) + j) × (slice_get ys j ≡ Some y))
    go (inl there) = inl there
    go (inr (j, is, there)) = inr (j, (let one : suc k ≡ suc (length xs) + j = omega arith in one), there)

-- what stands in a list of one
pub at-one : {A : Type 0} (x : A) (j : ℕ) (y : A) → slice_get (x ∷ []) j ≡ Some y → (j ≡ 0) × (y ≡ x)
at-one x zero y at = (refl, (let same : x ≡ y = cc in sym same))
at-one x (suc j) y at = absurd (let no : ⊥ = cc in no)

-- the last of a list
pub at-end : {A : Type 0} (xs : List A) (x : A) → slice_get (xs ++ x ∷ []) (length xs) ≡ Some x
at-end [] x = refl
at-end (y ∷ xs) x = at-end xs x

-- one call more
pub all-more : (looks : List Histories) (more : Histories) → all (looks ++ more ∷ []) ≡ all looks ++ more
all-more [] more = append-nil more
all-more (first ∷ looks) more = ap (λ (ks : Histories). first ++ ks) (all-more looks more) ∙ sym (append_assoc first (all looks) more)

pub within-one : (looks : List Histories) (numbers : List ℕ) (more : Histories) (number : ℕ) → length looks ≡ length numbers → AreWithin looks numbers → length more ≤ number → AreWithin (looks ++ more ∷ []) (numbers ++ number ∷ [])
within-one [] [] more number same within fits = (fits, tt)
within-one [] (n ∷ numbers) more number same within fits = absurd (let no : ⊥ = cc in no)
within-one (first ∷ looks) [] more number same within fits = absurd within
within-one (first ∷ looks) (n ∷ numbers) more number same within fits = (within.0, within-one looks numbers more number (let less : length looks ≡ length numbers = omega arith in less) within.1 fits)

pub within-more : (looks : List Histories) (numbers more : List ℕ) → AreWithin looks numbers → AreWithin looks (numbers ++ more)
within-more [] numbers more within = tt
within-more (first ∷ looks) [] more within = absurd within
within-more (first ∷ looks) (n ∷ numbers) more within = (within.0, within-more looks numbers more within.1)

-- calls lead to one point of a run
pub follows-one : (p : RunPosition) (pairs : List (Call × Reply)) (q r : RunPosition) → Follows p pairs q → Follows p pairs r → q ≡ r
follows-one p [] q r a b = a ∙ sym b
follows-one (RunEnded outcome) (pair ∷ pairs) q r a b = absurd a
follows-one (AtLine line made lines) (pair ∷ pairs) q r a b = follows-one (advanced (AtLine line made lines) pair.1) pairs q r a.1 b.1

-- Between what was seen, with all calls of a caller, and a history that has no more of them, there are no more.
pub same-between : (c : CallerId) (mine seen between upper : List Event) → IsPrefix (recorded_calls c.rank c.thread mine) (recorded_calls c.rank c.thread seen) → IsPrefix seen between → IsPrefix between upper
    → recorded_calls c.rank c.thread upper ≡ recorded_calls c.rank c.thread mine → recorded_calls c.rank c.thread between ≡ recorded_calls c.rank c.thread mine
same-between c mine seen between upper first more rest same =
    prefix_both (recorded_calls c.rank c.thread between) (recorded_calls c.rank c.thread mine)
    (subst (IsPrefix (recorded_calls c.rank c.thread between)) same (prefix-own c between upper rest))
    (prefix_trans (recorded_calls c.rank c.thread mine) (recorded_calls c.rank c.thread seen) (recorded_calls c.rank c.thread between) first (prefix-own c seen between more))

-- of one look there is none earlier
pub none-earlier : (earlier : Histories) → length earlier < 1 → earlier ≡ []
none-earlier [] few = refl
none-earlier (h ∷ earlier) few = absurd (omega arith)

-- no more looks than a line has
pub line-looks : (limit : ℕ) (timeout : Timeout) (earlier : Histories) (last : List Event) → ((most : ℕ) → looks_of (bounded limit timeout) ≡ Some most → length earlier < most) → length (earlier ++ last ∷ []) ≤ looks_in limit timeout
line-looks limit timeout earlier last within = (let few = within (looks_in limit timeout) refl in let long = length-append earlier (last ∷ []) in omega arith)

-- the looks of one call more
pub by-call-more : (c : CallerId) (before seen : List Event) (looks : List Histories) (more : Histories) (many : ℕ) → IsPrefix before seen → AreByCall c before looks → length looks ≡ many
    → ((j : ℕ) (h : List Event) → slice_get more j ≡ Some h → IsPrefix h seen × (length (recorded_calls c.rank c.thread h) ≡ many)) → AreByCall c seen (looks ++ more ∷ [])
by-call-more c before seen looks more many goes so_far count now i j ks h at there = go (at-both looks (more ∷ []) i ks at)
  where
    go : (slice_get looks i ≡ Some ks) ⊎ ((k : ℕ) × (i ≡ length looks + k) × (slice_get (more ∷ []) k ≡ Some ks)) → IsPrefix h seen × (length (recorded_calls c.rank c.thread h) ≡ i)
    go (inl old) = (let was = so_far i j ks h old there in (prefix_trans h before seen was.0 goes, was.1))
    go (inr (k, is, only)) =
        let one = at-one more k ks only in
        let new = now j h (subst (λ (x : Histories). slice_get x j ≡ Some h) one.1 there) in
        let zero_is = one.0 in
        let long = new.1 in
        (new.0, (let same : length (recorded_calls c.rank c.thread h) ≡ i = omega arith in same))

pub by-call-later : (c : CallerId) (before seen : List Event) (looks : List Histories) → IsPrefix before seen → AreByCall c before looks → AreByCall c seen looks
by-call-later c before seen looks goes so_far i j ks h at there = (let was = so_far i j ks h at there in (prefix_trans h before seen was.0 goes, was.1))

module _ {S : Type 0} (w : ShapeValue) (c : CallerId) where
  -- looks of two calls
  pub looks-both : (v m n : PassView S Event) (a b : Histories) → IsPrefix v.seen m.seen → IsPrefix m.seen n.seen → AreLooks w c v m a → AreLooks w c m n b → AreLooks w c v n (a ++ b)
  looks-both v m n a b first more before now = record {
    looks = now.looks ∙ (ap (λ (ks : List ℕ). ks ++ map length b) before.looks ∙ (append_assoc v.looks (map length a) (map length b) ∙ ap (λ (ks : List ℕ). v.looks ++ ks) (sym (map-append length a b))));
    between = λ k h at. go k h (at-both a b k h at);
  }
    where
      go : (k : ℕ) (h : List Event) → (slice_get a k ≡ Some h) ⊎ ((j : ℕ) × (k ≡ length a + j) × (slice_get b j ≡ Some h)) → IsPrefix v.seen h × IsPrefix h n.seen
      go k h (inl at) = ((before.between k h at).0, prefix_trans h m.seen n.seen (before.between k h at).1 more)
      go k h (inr (j, is, at)) = (prefix_trans v.seen m.seen h first (now.between j h at).0, (now.between j h at).1)

module _ (w : ShapeValue) (c : CallerId) (lines : List ScriptLine) (mine : List Event) (line : ScriptLine) (made : ℕ) (later : List ScriptLine)
    (there : Follows (at_first_line lines) (recorded_calls c.rank c.thread mine) (AtLine line made later)) where
  -- after a history with these calls alone the run had come to this line
  pub full-here : (h : List Event) (number : ℕ) → recorded_calls c.rank c.thread h ≡ recorded_calls c.rank c.thread mine → WasFull w c lines h number → (lacks_room_after w c line.call h ≡ true) × (line.number ≡ number)
  full-here h number same was =
      let one : AtLine was.line was.made was.later ≡ AtLine line made later =
      follows-one (at_first_line lines) (recorded_calls c.rank c.thread mine) (AtLine was.line was.made was.later) (AtLine line made later) (subst (λ (ps : List (Call × Reply)). Follows (at_first_line lines) ps (AtLine was.line was.made was.later)) same was.follows) there in
      let is : was.line ≡ line = cc in
      (ap (λ (l : ScriptLine). lacks_room_after w c l.call h) (sym is) ∙ was.full, ap (λ (l : ScriptLine). l.number) (sym is) ∙ was.is_line)

  pub not-full : (h : List Event) (number : ℕ) → recorded_calls c.rank c.thread h ≡ recorded_calls c.rank c.thread mine → lacks_room_after w c line.call h ≡ false → WasFull w c lines h number → ⊥
  not-full h number same room was = (let here = full-here h number same was in let no : true ≡ false = sym here.0 ∙ room in let never : ⊥ = cc in never)

  module _ (before : Histories) (earlier : Histories) (last : List Event) (same : (j : ℕ) (h : List Event) → slice_get (earlier ++ last ∷ []) j ≡ Some h → recorded_calls c.rank c.thread h ≡ recorded_calls c.rank c.thread mine)
      (so_far : (k : ℕ) (h : List Event) (number : ℕ) → slice_get before k ≡ Some h → WasFull w c lines h number → ⊥) (roomy : HadRoomAtLooks w c line.call earlier) where
    -- there was no room at the last look alone
    pub last-full : (k : ℕ) (h : List Event) (number : ℕ) → slice_get (before ++ (earlier ++ last ∷ [])) k ≡ Some h → WasFull w c lines h number
        → (lacks_room_after w c line.call last ≡ true) × ((line.number ≡ number) × (suc k ≡ length (before ++ (earlier ++ last ∷ []))))
    last-full k h number at was = go (at-both before (earlier ++ last ∷ []) k h at)
      where
        now : (j : ℕ) → k ≡ length before + j → slice_get (earlier ++ last ∷ []) j ≡ Some h → (slice_get earlier j ≡ Some h) ⊎ ((i : ℕ) × (j ≡ length earlier + i) × (slice_get (last ∷ []) i ≡ Some h))
            → (lacks_room_after w c line.call last ≡ true) × ((line.number ≡ number) × (suc k ≡ length (before ++ (earlier ++ last ∷ []))))
        now j is here (inl early) = absurd (not-full h number (same j h here) (roomy j h early) was)
        now j is here (inr (i, at_end, only)) =
            let one = at-one last i h only in
            let full = full-here h number (same j h here) was in
            let long = length-append before (earlier ++ last ∷ []) in
            let longer = length-append earlier (last ∷ []) in
            let zero_is = one.0 in
            (ap (lacks_room_after w c line.call) (sym one.1) ∙ full.0, (full.1, (let end : suc k ≡ length (before ++ (earlier ++ last ∷ [])) = omega arith in end)))

        go : (slice_get before k ≡ Some h) ⊎ ((j : ℕ) × (k ≡ length before + j) × (slice_get (earlier ++ last ∷ []) j ≡ Some h)) → (lacks_room_after w c line.call last ≡ true) × ((line.number ≡ number) × (suc k ≡ length (before ++ (earlier ++ last ∷ []))))
        go (inl old) = absurd (so_far k h number old was)
        go (inr (j, is, here)) = now j is here (at-both earlier (last ∷ []) j h here)
