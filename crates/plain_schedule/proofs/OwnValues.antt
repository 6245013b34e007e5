-- What callers join in a legal history has the values that it says.
use Rattle.std.proofs.Common.{◌≡◌, List, [], ◌∷◌, ◌++◌, Ok}
use Rattle.std.proofs.lemmas.List.Elements.{All-nil, All-cons, All-append}
use Rattle.gaspi_types.specs.declared.events.Event.{Event}
use Rattle.gaspi_types.specs.declared.events.Event.TheVariants.{Called, Joined, Take, Put}
use Rattle.gaspi_texts.specs.EventText.{HasOwnValues}
use Rattle.gaspi_texts.specs.JournalText.{HaveOwnValues}
use Rattle.gaspi_model.specs.CollectiveCalls.{joining_call}
use Rattle.gaspi_model.specs.Step.{step, group_in}
use Rattle.gaspi_model.specs.declared.states.State.{State}
use Rattle.gaspi_model.proofs.CollectiveFinds.{join-found}
use Rattle.gaspi_model.proofs.GroupSteps.{step-joined}
use Rattle.gaspi_model.proofs.Sound.Joins.{join-whole}

pub step-has-own : (s t : State) (e : Event) → step s e ≡ Ok t → HasOwnValues e
step-has-own s t (Called c call reply) is = tt
step-has-own s t (Joined c id args) is =
    let made = step-joined s t c id args is in
    let found = join-found made.0 (group_in s id) c.rank c.thread id (joining_call id args) args made.2.is.joins in
    join-whole found.0.members id args found.1.args_is
step-has-own s t (Take origin queue target number outcome) is = tt
step-has-own s t (Put origin queue target number outcome) is = tt

pub own-more : (s t : State) (journal : List Event) (e : Event) → HaveOwnValues journal → step s e ≡ Ok t → HaveOwnValues (journal ++ e ∷ [])
own-more s t journal e own is = All-append HasOwnValues journal (e ∷ []) own (All-cons HasOwnValues e [] (step-has-own s t e is) (All-nil HasOwnValues))
