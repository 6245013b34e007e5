-- The event that a text's pieces spell, and its own text.
use Rattle.std.proofs.Common.{◌≡◌, ℕ, List, Option, Some, None, sym, ap, ◌∙◌}
use Rattle.gaspi_types.specs.declared.events.Event.{Event}
use Rattle.gaspi_texts.specs.EventReading.{event_of}
use Rattle.gaspi_texts.specs.EventText.{event_text, IsInEventRange}
use Rattle.call_texts.specs.Words.{pieces_of}

-- where the pieces spell none, the text is no event's
pub no_event : ((event : Event) → IsInEventRange event → event_of (pieces_of (event_text event)) ≡ Some event)
    → (text : List ℕ) (found : Option Event) → found ≡ event_of (pieces_of text) → found ≡ None
    → (event : Event) → IsInEventRange event → text ≡ event_text event → ⊥
no_event back text found reads none event range same =
    let spelled : event_of (pieces_of text) ≡ Some event = ap (λ (t : List ℕ). event_of (pieces_of t)) same ∙ back event range in
    let some : Some event ≡ None = sym spelled ∙ sym reads ∙ none in
    cc some
