-- What a look and a commit tell of the machine of the table's start.
use Rattle.std.proofs.Common.{◌≡◌, ℕ, ◌<◌, List, [], ◌∷◌, length, Option, Some, ap, sym, subst}
use mathlib.Core.List.{IsPrefix}
use Rattle.atomic_table.specs.Table.{Me}
use Rattle.commit_table.specs.declared.views.PassView.{PassView}
use Rattle.commit_table.specs.declared.views.SeatView.{SeatView}
use Rattle.commit_table.specs.Machine.{Machine}
use Rattle.commit_table.specs.Steps.{Of, LooksOnce, CommitsEvent}
use Rattle.commit_table.specs.Calls.{HasSoundView, Looked, Committed}
use Rattle.commit_table.specs.Views.{shorter, also_seen}
use Rattle.commit_table.proofs.Seen.{both_begin}

module _ {S X E : Type 0} (of : S → Machine X E) where
  abbrev pub Told : S → ℕ → PassView S E → List E → ℕ → PassView S E → Type 0
  Told start n v heard found w = (h : List E) × Looked (of start) v found h w × IsPrefix heard h × (found ≡ length h) × ((p : ℕ) → v.party ≡ Some p → p < n)

  seen_there : (start : S) (n : ℕ) (v : PassView S E) (heard : List E) (found : ℕ) (after : Me (Option X) (SeatView S E)) → v.start ≡ Some start → LooksOnce of n v heard found after → Told start n v heard found after.0.known
  seen_there start n v heard found after begun t =
      let s = t.2 start begun in (
        t.0,
        record {
          is = ap (λ (z : Me (Option X) (SeatView S E)). z.0.known) t.1;
          number_is = s.number;
          legal = s.legal;
          seen = s.seen;
          own = s.own;
          held = s.held;
        },
        s.told,
        s.number,
        t.3,
      )

  pub seen_of : (start : S) (n : ℕ) (v u : PassView S E) (heard other : List E) (found : ℕ) (after : Me (Option X) (SeatView S E)) → v ≡ u → heard ≡ other → u.start ≡ Some start → LooksOnce of n v heard found after → Told start n u other found after.0.known
  seen_of start n v u heard other found after same same_heard begun t =
      let at_u = subst (λ z. LooksOnce of n z heard found after) same t in
      seen_there start n u other found after begun (subst (λ z. LooksOnce of n u z found after) same_heard at_u)

  -- a look after a join goes on from what the seat had seen, and from what the other had
  pub seen_both : (start : S) (n : ℕ) (v : PassView S E) (s : List E) (found : ℕ) (w : PassView S E) → Told start n (also_seen v s) (shorter v.seen s) found w → Told start n v s found w
  seen_both start n v s found w t =
      let l = t.1 in
      let both = both_begin v.seen s t.0 l.seen t.2 in
      (t.0, record { is = l.is; number_is = l.number_is; legal = l.legal; seen = both.0; own = l.own; held = l.held }, both.1, t.3, t.4)

  pub sound_of : (start : S) (v u : PassView S E) → v ≡ u → u.start ≡ Some start → Of of v (λ m. HasSoundView m v) → HasSoundView (of start) u
  sound_of start v u same begun sound = (subst (λ z. Of of z (λ m. HasSoundView m z)) same sound) start begun

  -- the event that an addition added is the one that the call told
  one_seen : (told : List E) (e f : E) → told ≡ e ∷ [] → told ≡ f ∷ [] → f ≡ e
  one_seen told e f a b = cc

  pub commits_seen : (told : List E) (e : E) (v : PassView S E) (found : ℕ) (after : Me (Option X) (SeatView S E)) → told ≡ e ∷ [] → (f : E) → told ≡ f ∷ [] → CommitsEvent of v f found after → CommitsEvent of v e found after
  commits_seen told e v found after is f also t = subst (λ z. CommitsEvent of v z found after) (one_seen told e f is also) t

  committed_there : (start : S) (v : PassView S E) (e : E) (found : ℕ) (after : Me (Option X) (SeatView S E)) → v.start ≡ Some start → CommitsEvent of v e found after → (h : List E) × Committed (of start) v e found h after.0.known
  committed_there start v e found after begun t =
      let a = t.3 start begun in (
        t.0,
        subst (λ w. Committed (of start) v e found t.0 w) (sym (ap (λ (z : Me (Option X) (SeatView S E)). z.0.known) t.2)) (record {
          is = a.is;
          place_is = a.number;
          legal = a.legal;
          seen = a.seen;
          agrees = a.agrees;
          own = a.own;
          held = a.held;
        }),
      )

  pub committed_of : (start : S) (v u : PassView S E) (e : E) (found : ℕ) (after : Me (Option X) (SeatView S E)) → v ≡ u → u.start ≡ Some start → CommitsEvent of v e found after → (h : List E) × Committed (of start) u e found h after.0.known
  committed_of start v u e found after same begun t = committed_there start u e found after begun (subst (λ z. CommitsEvent of z e found after) same t)
