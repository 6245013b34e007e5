-- The front of a lane of the rank whose node is held: its other shard, and the transfer once that is held.
use Rattle.std.proofs.Common.{◌≡◌, ℕ, Box, Global, Option, Some, sym, ap, ◌∙◌, subst}
use Rattle.gaspi_types.specs.World.{ShapeValue, IsShape}
use Rattle.gaspi_types.specs.declared.entries.Entry.{Entry}
use Rattle.gaspi_types.specs.declared.events.Event.{Event}
use Rattle.gaspi_types.specs.declared.events.Transfer.{Transfer}
use Rattle.commit_table.specs.declared.views.PassView.{PassView}
use Rattle.rank_node.specs.Fronts.{IsFront, front_entry, transfer_footprint}
use Rattle.rank_node.specs.declared.nodes.Node.{Node}
use Rattle.gaspi_world.specs.RankShards.{rank_other}
use Rattle.gaspi_world.specs.HeldShards.{Holds, IsOtherShard}
use Rattle.gaspi_world.specs.Transfers.{IsFrontHeld}
use Rattle.gaspi_world.specs.declared.holding.HeldShards.{HeldShards}
use Rattle.gaspi_world.proofs.CommittedNodes.{agrees-self, own-at}
use Rattle.gaspi_world.proofs.TransferTries.{front-of-node, other-of-node}
use Rattle.gaspi_world.proofs.Transferring.{front-other}

module _ {S : Type 0} (w : ShapeValue) (world : IsShape w) (h : HeldShards) (v : PassView S Event) (holds : Holds w h v) (t : Transfer) (n m : Node) (ranks : ℕ) (other : Option ℕ) (is : n ≡ h.nodes.own.value) (also : m ≡ h.nodes.own.value)
    (many : ranks ≡ w.limits.ranks) (front : IsFront n.posts t) (told : (e : Entry) → front_entry m.posts t ≡ Some e → other ≡ rank_other ranks (transfer_footprint ranks t e.kind)) where
  here : IsFront h.nodes.own.value.posts t
  here = front-of-node n h.nodes.own t is front

  of-own : t.origin ≡ h.own
  of-own = here.mine ∙ (own-at w world h v holds v.seen holds.shards.legal (agrees-self w world h v holds)).posts.me

  reaches : other ≡ rank_other w.limits.ranks (transfer_footprint w.limits.ranks t here.entry.kind)
  reaches = other-of-node m h.nodes.own t here.entry ranks w.limits.ranks other also many here.next told

  -- the other shard of the front is one beside that of the rank
  pub follows-other : IsOtherShard w h.own other
  follows-other = subst (λ (o : Option ℕ). IsOtherShard w h.own o) (sym reaches) (front-other w h.own t here.entry holds.own of-own)

  one-entry : (a b : Entry) → ◌≡◌ {A = Option Entry} (Some a) (Some b) → a ≡ b
  one-entry a b e = cc

  -- so it is the front of a lane of the node that is held, with that shard
  pub follows-front : (k : HeldShards) → (k.own ≡ h.own) × (k.nodes.own ≡ h.nodes.own) → k.other ≡ other → IsFrontHeld w t k
  follows-front k same some = record {
    front = subst (λ (b : Box Node Global). IsFront b.value.posts t) (sym same.1) here;
    own = same.0 ∙ sym of-own;
    other = λ e at.
        let entry : here.entry ≡ e = one-entry here.entry e (sym here.next ∙ subst (λ (b : Box Node Global). front_entry b.value.posts t ≡ Some e) same.1 at) in
        some ∙ (reaches ∙ ap (λ (x : Entry). rank_other w.limits.ranks (transfer_footprint w.limits.ranks t x.kind)) entry);
  }
