-- Transfers of a lane in one hold of the origin's shard, from the try of the first to the end.
use Rattle.std.proofs.Common.{◌≡◌, ℕ, true, [], ◌∷◌, length, Option, None, Some, refl, sym, ◌∙◌, subst, append-nil}
use Rattle.gaspi_types.specs.World.{ShapeValue}
use Rattle.gaspi_types.specs.declared.events.Event.{Event}
use Rattle.gaspi_model.specs.Step.{is_legal}
use Rattle.commit_table.specs.Attempts.{IsLookedOnly}
use Rattle.commit_table.specs.Views.{after_give_back}
use Rattle.commit_table.specs.declared.views.PassView.{PassView}
use Rattle.gaspi_world.specs.HeldShards.{Holds, left_by}
use Rattle.gaspi_world.specs.Transfers.{HasMoved, HasMovedOne, MovesOn}
use Rattle.gaspi_world.specs.WorldMachine.{world_machine}
use Rattle.gaspi_world.specs.declared.holding.HeldShards.{HeldShards}
use Rattle.gaspi_world.specs.declared.moving.Moving.TheVariants as moves
use Rattle.gaspi_world.proofs.Movings.{moved-then, one-then, then-one, moved-gave, same-prefix, more-prefix}

module _ {S : Type 0} (w : ShapeValue) (origin : ℕ) where
  looked-then : (v u : PassView S Event) → IsLookedOnly (world_machine w) v u → HasMoved w origin v u
  looked-then v u look = record {
    places = [];
    commits = look.commits ∙ sym (append-nil v.commits);
    each = λ k place at. absurd (let no : ⊥ = cc in no);
    seen = look.goes_on;
    looks = more-prefix v.looks u.looks (length u.seen ∷ []) look.looks;
    missed = same-prefix v.missed u.missed look.missed;
    mine = look.mine;
    party = look.party;
    start = look.start;
  }

  left-then : (z n : PassView S Event) (own : ℕ) (other : Option ℕ) → n ≡ left_by own other z → HasMoved w origin z n
  left-then z n own None is = moved-gave w origin z n own is
  left-then z n own (Some j) is = moved-then w origin z (after_give_back z j) n (moved-gave w origin z (after_give_back z j) j refl) (moved-gave w origin (after_give_back z j) n own is)

  left-legal : (h : HeldShards) (z n : PassView S Event) (own : ℕ) (other : Option ℕ) → Holds w h z → n ≡ left_by own other z → is_legal w n.seen ≡ true
  left-legal h z n own None holds is = subst (λ (k : PassView S Event). is_legal w k.seen ≡ true) (sym is) holds.shards.legal
  left-legal h z n own (Some j) holds is = subst (λ (k : PassView S Event). is_legal w k.seen ≡ true) (sym is) holds.shards.legal

  pub lane-moved : (h : HeldShards) (v u x z n : PassView S Event) (own : ℕ) (other : Option ℕ) → IsLookedOnly (world_machine w) v u → HasMovedOne w origin u x → HasMoved w origin x z → Holds w h z → n ≡ left_by own other z → MovesOn w origin v moves.Moved n
  lane-moved h v u x z n own other look first then holds is =
      (one-then w origin v z n (one-then w origin v x z (then-one w origin v u x (looked-then v u look) first) then) (left-then z n own other is), left-legal h z n own other holds is)
