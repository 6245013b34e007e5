-- The nodes of two ranks in either order.
use Rattle.std.proofs.Common.{◌≡◌, ℕ, ◌*◌, ◌<◌, ◌==◌, Bool, true, false, ◌++◌, Option, None, Some, Result, refl, sym, ap, ◌∙◌, subst, arith}
use Rattle.std.specs.List.{slice_get, list_any}
use Rattle.gaspi_types.proofs.Chains.{both}
use Rattle.std.proofs.lemmas.Bool.{eqb-true, eqb-false}
use Rattle.std.proofs.lemmas.Option.{slice_get_within}
use Rattle.gaspi_types.specs.declared.calls.Call.{Call}
use Rattle.gaspi_types.specs.declared.replies.Reply.{Reply}
use Rattle.gaspi_types.specs.declared.shapes.CallerId.{CallerId}
use Rattle.gaspi_types.specs.World.{ShapeValue, IsShape, is_caller}
use Rattle.gaspi_model.specs.State.{opening, opening_group, thread_at}
use Rattle.gaspi_model.specs.Sound.{events_left}
use Rattle.gaspi_model.specs.Step.{is_declared, is_there, transfer_event}
use Rattle.gaspi_model.proofs.Sections.{declared-opening, declared-step, declared-stays}
use Rattle.gaspi_model.specs.declared.states.Posts.{Posts}
use Rattle.gaspi_model.specs.declared.states.State.{State}
use Rattle.gaspi_model.proofs.Sound.Opening.{opens}
use Rattle.two_nodes.proofs.LookSteps.{looks-after}
use Rattle.rank_node.specs.Lending.{IsNodeOf, IsGroupNode, IsGroupOf}
use Rattle.rank_node.specs.Openings.{IsOpeningNode}
use Rattle.rank_node.specs.declared.nodes.GroupNode.{GroupNode}
use Rattle.rank_node.specs.declared.nodes.Node.{Node}
use Rattle.two_nodes.specs.Looks.{placed_of}
use Rattle.two_nodes.specs.Transfers.{HasNoTransfer, HasTransferred, Transfers}
use Rattle.two_nodes.specs.Worlds.{ArePartsOf, IsWorldOf, HasCalled, HasLookedAt, IsAtStart, HasTwoCallers, has_two_callers}
use Rattle.two_nodes.specs.declared.stops.CallStop.{CallStop}
use Rattle.two_nodes.specs.declared.two_nodes.TwoNodes.{TwoNodes}

one-left : (rank : ℕ) → rank < 2 → (rank == 0) ≡ false → rank ≡ 1
one-left rank less apart = (let other = eqb-false rank 0 apart in omega arith)

none-left : (rank : ℕ) → rank < 2 → (rank == 1) ≡ false → rank ≡ 0
none-left rank less apart = (let other = eqb-false rank 1 apart in omega arith)

pub as-second : (s : State) (first second : Node) (group : GroupNode) (places : ℕ) → ArePartsOf s 0 1 first second group places → ArePartsOf s 1 0 second first group places
as-second s first second group places is = record {
  sound = is.sound;
  two = is.two;
  others = none-left;
  apart = refl;
  own_node = is.peer_node;
  peer_node = is.own_node;
  group_node = is.group_node;
  counted = is.counted;
}

as-first : (s : State) (first second : Node) (group : GroupNode) (places : ℕ) → ArePartsOf s 1 0 second first group places → ArePartsOf s 0 1 first second group places
as-first s first second group places is = record {
  sound = is.sound;
  two = is.two;
  others = one-left;
  apart = refl;
  own_node = is.peer_node;
  peer_node = is.own_node;
  group_node = is.group_node;
  counted = is.counted;
}

-- a caller that has a section is of one of the two ranks
pub declared-within : (s : State) (rank thread : ℕ) (first second : Node) (group : GroupNode) (places : ℕ) → ArePartsOf s 0 1 first second group places → is_declared s rank thread ≡ true → rank < 2
declared-within s rank thread first second group places is declared = go (slice_get s.posts rank) refl
  where
    go : (o : Option Posts) → slice_get s.posts rank ≡ o → rank < 2
    go None at = absurd (let never : false ≡ true = rw at at declared in let no : ⊥ = cc in no)
    go (Some posts) at =
        let within = slice_get_within s.posts rank posts at in
        let ranks = is.sound.ranks in
        let two = is.two in
        omega arith

pub first-called : (s : State) (c : CallerId) (call : Call) (r : Result (Option Reply) CallStop) (old new : TwoNodes) → c.rank ≡ 0
    → HasCalled s c call r 1 old.places new.places old.first new.first old.second new.second new.group → HasLookedAt s c call r old new
first-called s c call r old new rank is = record {
  after = is.after;
  events = is.events;
  looks = is.looks;
  world = subst (λ (n : ℕ). ArePartsOf is.after n 1 new.first new.second new.group new.places) rank is.parts;
  recorded = record {
    places = is.next_is;
    first = is.journal ∙ ap (λ (n : ℕ). old.first.posts.journal ++ placed_of n old.places is.events) rank;
    second = is.peer_journal;
  };
  callers = λ n thread there. declared-stays s is.after is.events n thread (looks-after s is.after c call r is.events is.looks) there;
}

pub second-called : (s : State) (c : CallerId) (call : Call) (r : Result (Option Reply) CallStop) (old new : TwoNodes) → c.rank ≡ 1
    → HasCalled s c call r 0 old.places new.places old.second new.second old.first new.first new.group → HasLookedAt s c call r old new
second-called s c call r old new rank is = record {
  after = is.after;
  events = is.events;
  looks = is.looks;
  world = as-first is.after new.first new.second new.group new.places (subst (λ (n : ℕ). ArePartsOf is.after n 0 new.second new.first new.group new.places) rank is.parts);
  recorded = record {
    places = is.next_is;
    first = is.peer_journal;
    second = is.journal ∙ ap (λ (n : ℕ). old.second.posts.journal ++ placed_of n old.places is.events) rank;
  };
  callers = λ n thread there. declared-stays s is.after is.events n thread (looks-after s is.after c call r is.events is.looks) there;
}

-- a rank of two that is not the first is the second
pub the-other : (rank number : ℕ) → rank < 2 → number ≡ rank → (number ≡ 0 → ⊥) → rank ≡ 1
the-other rank number within same apart = omega (arith, apart)

-- A transfer of either rank.
same-nodes : (old new : TwoNodes) → new.first ≡ old.first → new.second ≡ old.second → new.group ≡ old.group → new.places ≡ old.places → new ≡ old
same-nodes old new first second group places =
    ap (λ (x : Node). (let d : TwoNodes = record { first = x; second = new.second; group = new.group; places = new.places } in d)) first
    ∙ ap (λ (x : Node). (let d : TwoNodes = record { first = old.first; second = x; group = new.group; places = new.places } in d)) second
    ∙ ap (λ (x : GroupNode). (let d : TwoNodes = record { first = old.first; second = old.second; group = x; places = new.places } in d)) group
    ∙ ap (λ (x : ℕ). (let d : TwoNodes = record { first = old.first; second = old.second; group = old.group; places = x } in d)) places

pub first-transferred : (s : State) (made : Bool) (rank : ℕ) (old new : TwoNodes) → rank ≡ 0 → new.group ≡ old.group
    → HasTransferred s made 0 1 old.places new.places old.first new.first old.second new.second new.group → Transfers s rank made old new
first-transferred s true rank old new zero kept is = record {
  transfer = is.transfer;
  mine = is.mine ∙ sym zero;
  after = is.after;
  is_step = is.is_step;
  world = is.parts;
  recorded = record { places = is.next_is; first = is.journal; second = is.peer_journal };
  callers = λ n thread there. declared-step s is.after (transfer_event s is.transfer) n thread is.is_step there;
}
first-transferred s false rank old new zero kept is = (subst (λ (n : ℕ). HasNoTransfer s n) (sym zero) is.none, same-nodes old new is.own_kept is.peer_kept kept is.next_kept)

pub second-transferred : (s : State) (made : Bool) (rank : ℕ) (old new : TwoNodes) → rank ≡ 1 → new.group ≡ old.group
    → HasTransferred s made 1 0 old.places new.places old.second new.second old.first new.first new.group → Transfers s rank made old new
second-transferred s true rank old new one kept is = record {
  transfer = is.transfer;
  mine = is.mine ∙ sym one;
  after = is.after;
  is_step = is.is_step;
  world = as-first is.after new.first new.second new.group new.places is.parts;
  recorded = record { places = is.next_is; first = is.peer_journal; second = is.journal };
  callers = λ n thread there. declared-step s is.after (transfer_event s is.transfer) n thread is.is_step there;
}
second-transferred s false rank old new one kept is = (subst (λ (n : ℕ). HasNoTransfer s n) (sym one) is.none, same-nodes old new is.peer_kept is.own_kept kept is.next_kept)

-- The nodes at the start.
opening-left : (w : ShapeValue) → w.limits.ranks ≡ 2 → events_left (opening w) ≡ 2 * w.limits.events
opening-left w two = rw two (omega arith)

abbrev GroupsAtStart : Type 0
GroupsAtStart = (w : ShapeValue) (id : ℕ) (n : GroupNode) → id < 8 → IsGroupNode (opening_group w.limits.ranks id) n → IsGroupOf (opening w) id n

pub at-start : GroupsAtStart → (w : ShapeValue) (first second : Node) (group : GroupNode) (one two id ranks : ℕ) → IsShape w → w.limits.ranks ≡ 2 → one ≡ 0 → two ≡ 1 → id ≡ 0 → ranks ≡ w.limits.ranks
    → IsOpeningNode w one first → IsOpeningNode w two second → IsGroupNode (opening_group ranks id) group → IsAtStart w (record { first = first; second = second; group = group; places = 0 })
at-start groups w first second group one two id ranks world both zero first_rank group_id same a b g =
    let left = opening-left w both in
    let first_node = subst (λ (n : ℕ). IsNodeOf (opening w) n first) zero a.node in
    let second_node = subst (λ (n : ℕ). IsNodeOf (opening w) n second) first_rank b.node in
    let node = subst (λ (n : ℕ). IsGroupNode (opening_group n 0) group) same (subst (λ (n : ℕ). IsGroupNode (opening_group ranks n) group) group_id g) in record {
      world = record {
        sound = opens w world;
        two = both;
        others = one-left;
        apart = refl;
        own_node = first_node;
        peer_node = second_node;
        group_node = groups w 0 group (omega arith) node;
        counted = (omega arith);
      };
      places = refl;
      first = a.journal;
      second = b.journal;
      callers = λ n thread mine. declared-opening w n thread world mine;
    }

-- Thread 0 of each rank.
two-threads : (w : ShapeValue) → has_two_callers w ≡ true → (list_any (is_caller 0 0) w.callers ≡ true) × (list_any (is_caller 1 0) w.callers ≡ true)
two-threads w is = (let rest = (both (w.limits.ranks == 2) _ is).1 in both (list_any (is_caller 0 0) w.callers) (list_any (is_caller 1 0) w.callers) rest)

pub callers-at-start : (w : ShapeValue) (d : TwoNodes) → IsAtStart w d → has_two_callers w ≡ true → HasTwoCallers d
callers-at-start w d start is = (let two = two-threads w is in record { state = opening w; world = start.world; first = start.callers 0 0 two.0; second = start.callers 1 0 two.1 })

-- whether a thread has a section is told by its rank's node
declared-by : (s : State) (rank thread : ℕ) (n : Node) → IsNodeOf s rank n → is_declared s rank thread ≡ is_there (thread_at n.posts.posts thread)
declared-by s rank thread n is = rw is.posts.posts refl

declared-as : (s t : State) (d : TwoNodes) (rank thread : ℕ) → IsWorldOf s d → IsWorldOf t d → is_declared s rank thread ≡ true → is_declared t rank thread ≡ true
declared-as s t d rank thread one other declared = go (rank == 0) refl
  where
    at : (n : ℕ) (node : Node) → rank ≡ n → IsNodeOf s n node → IsNodeOf t n node → is_declared t rank thread ≡ true
    at n node same here there =
        let was : is_declared s n thread ≡ true = subst (λ (k : ℕ). is_declared s k thread ≡ true) same declared in
        subst (λ (k : ℕ). is_declared t k thread ≡ true) (sym same) (declared-by t n thread node there ∙ sym (declared-by s n thread node here) ∙ was)

    go : (b : Bool) → (rank == 0) ≡ b → is_declared t rank thread ≡ true
    go true zero = at 0 d.first (eqb-true rank 0 zero) one.own_node other.own_node
    go false apart = at 1 d.second (one-left rank (declared-within s rank thread d.first d.second d.group d.places one declared) apart) one.peer_node other.peer_node

pub callers-after-look : (c : CallerId) (call : Call) (r : Result (Option Reply) CallStop) (old new : TwoNodes) → (s : State) → IsWorldOf s old → is_declared s c.rank c.thread ≡ true
    → ((t : State) → IsWorldOf t old → is_declared t c.rank c.thread ≡ true → HasLookedAt t c call r old new) → HasTwoCallers old → HasTwoCallers new
callers-after-look c call r old new s world declared looked two =
    let is = looked two.state two.world (declared-as s two.state old c.rank c.thread world two.world declared) in
    record { state = is.after; world = is.world; first = is.callers 0 0 two.first; second = is.callers 1 0 two.second }

pub callers-after-transfer : (rank : ℕ) (made : Bool) (old new : TwoNodes) → ((t : State) → IsWorldOf t old → Transfers t rank made old new) → HasTwoCallers old → HasTwoCallers new
callers-after-transfer rank true old new made two = (let is = made two.state two.world in record { state = is.after; world = is.world; first = is.callers 0 0 two.first; second = is.callers 1 0 two.second })
callers-after-transfer rank false old new made two = (let is = made two.state two.world in subst (λ (d : TwoNodes). HasTwoCallers d) (sym is.1) two)

-- such a thread is a caller
pub caller-of-two : (d : TwoNodes) (rank thread : ℕ) → HasTwoCallers d → rank < 2 → thread ≡ 0 → (s : State) × IsWorldOf s d × (is_declared s rank thread ≡ true)
caller-of-two d rank thread two within zero = (two.state, two.world, subst (λ (k : ℕ). is_declared two.state rank k ≡ true) (sym zero) (go (rank == 0) refl))
  where
    go : (b : Bool) → (rank == 0) ≡ b → is_declared two.state rank 0 ≡ true
    go true first = subst (λ (n : ℕ). is_declared two.state n 0 ≡ true) (sym (eqb-true rank 0 first)) two.first
    go false second = subst (λ (n : ℕ). is_declared two.state n 0 ≡ true) (sym (one-left rank within second)) two.second
