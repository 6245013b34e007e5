use Rattle.std.proofs.Common.{ℕ, refl, sym, subst}
use Rattle.rank_node.specs.Lending.{IsPostsOf}
use Rattle.two_nodes.specs.Transfers.{HasNoTransfer}
use Rattle.two_nodes.proofs.Parts.{alone-reaches, between-reaches}
use Rattle.two_nodes.proofs.TransferSteps.{move-alone, move-between, transferred-alone, transferred-between}
use Rattle.two_nodes.proofs.transfers.transfer_of.Goals as goal

pub returns-in_default : goal.returns-in_default
returns-in_default c = λ s me other parts.
    let p = c.args.own.now.posts in
    let there : IsPostsOf s p.me p = subst (λ (n : ℕ). IsPostsOf s n p) (sym parts.own_node.posts.me) parts.own_node.posts in
    let none : HasNoTransfer s me = subst (λ (n : ℕ). HasNoTransfer s n) parts.own_node.posts.me (c.in_default.ensures.none s there) in
    record { none = none; own_kept = refl; peer_kept = refl; next_kept = refl }

pub returns-in-PeerMemory : goal.returns-in-PeerMemory
returns-in-PeerMemory c = λ s me other parts.
    let law = c.front_footprints.ensures in
    let r = c.front_footprint-footprint.result in
    let front = c.in-Some.ensures.front in
    let there = between-reaches r r refl c.in-PeerMemory.is in
    transferred-between law s me other c.args.places.now c.args.own.now c.args.peer.now c.args.group.now c.in-Some.transfer r parts front (λ e at. rw at at c.front_footprint-footprint.ensures)
    c.transfer_between.new.places c.transfer_between.new.own c.transfer_between.new.peer there.0 there.1
    (c.transfer_between.ensures s (move-between law s me other c.args.places.now c.args.own.now c.args.peer.now c.args.group.now c.in-Some.transfer r parts front (λ e at. rw at at c.front_footprint-footprint.ensures) there.0 there.1))

pub returns-in-Alone : goal.returns-in-Alone
returns-in-Alone c = λ s me other parts.
    let law = c.front_footprints.ensures in
    let r = c.front_footprint-footprint.result in
    let front = c.in-Some.ensures.front in
    let none = alone-reaches r r refl c.in-Alone.is in
    transferred-alone law s me other c.args.places.now c.args.own.now c.args.peer.now c.args.group.now c.in-Some.transfer r parts front (λ e at. rw at at c.front_footprint-footprint.ensures)
    c.transfer_alone.new.places c.transfer_alone.new.own none.0
    (c.transfer_alone.ensures s (move-alone law s me other c.args.places.now c.args.own.now c.args.peer.now c.args.group.now c.in-Some.transfer r parts front (λ e at. rw at at c.front_footprint-footprint.ensures) none.0))
