use Rattle.std.proofs.Common.{◌≡◌, ℕ, None, sym, subst, ◌∙◌}
use Rattle.rank_node.specs.Fronts.{front_of}
use Rattle.rank_node.specs.Lending.{IsPostsOf}
use Rattle.two_nodes.proofs.transfers.first_front.Goals as goal

pub unreachable-requires : goal.unreachable-requires
unreachable-requires c =
    let p = c.args.own.now.posts in
    let s = c.requires.0 in
    let parts = c.requires.6 in
    let there : IsPostsOf s p.me p = subst (λ (n : ℕ). IsPostsOf s n p) (sym parts.own_node.posts.me) parts.own_node.posts in
    let some = c.movable_lanes_have_fronts.ensures.fronts s p c.in-Some.lane.0 c.in-Some.lane.1 parts.sound there c.in-Some.ensures.next.movable in
    let none : front_of p c.in-Some.lane.0 c.in-Some.lane.1 ≡ None = sym c.front.ensures.value ∙ c.in-None.is in
    let gone = rw none at some in
    let no : ⊥ = cc in
    no

pub returns-in_default-clause-none : goal.returns-in_default-clause-none
returns-in_default-clause-none c = λ s there t k listed mine. c.movable_lanes_have_fronts.ensures.none s c.args.own.now.posts t k there c.in_default.ensures.none listed mine
