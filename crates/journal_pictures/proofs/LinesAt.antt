-- The line of an event is told by what its rank has posted.
use Rattle.std.proofs.Common.{◌≡◌, ℕ, ◌<◌, ◌≤◌, true, List, get_or, take, length, Option, Some, Ok, refl, sym, ap, ◌∙◌, arith}
use Rattle.std.specs.List.{slice_get}
use Rattle.std.specs.Prelude.{nat_le}
use Rattle.std.proofs.lemmas.Bool.{leb-true}
use Rattle.std.proofs.lemmas.Option.{get_or_from_slice_get, slice_get_within}
use Rattle.gaspi_types.proofs.Chains.{both}
use Rattle.gaspi_types.proofs.Items.{there-within}
use Rattle.gaspi_types.specs.Ranges.{is_between}
use Rattle.gaspi_types.specs.World.{ShapeValue, IsShape, are_limits}
use Rattle.gaspi_types.specs.declared.shapes.Limits.{Limits}
use Rattle.gaspi_types.specs.declared.events.Event.{Event}
use Rattle.gaspi_types.specs.declared.events.Event.TheVariants.{Called, Joined, Take, Put}
use Rattle.gaspi_model.specs.Shards.{entry_after}
use Rattle.gaspi_model.specs.Step.{step, reached, is_legal}
use Rattle.gaspi_model.specs.Transfers.{EntryPosition}
use Rattle.gaspi_model.specs.declared.states.Posts.{Posts}
use Rattle.gaspi_model.specs.declared.states.State.{State}
use Rattle.gaspi_model.specs.declared.states.Why.TheVariants as whys
use Rattle.gaspi_model.proofs.FoundEntries.{IsFound, found-again}
use Rattle.gaspi_model.proofs.Histories.{reached-sound}
use Rattle.gaspi_model.proofs.Made.{step-take, step-put}
use Rattle.call_journal.proofs.Places.{step-at, stands-in}
use Rattle.journal_pictures.specs.Deliveries.{IsDeliveryTable, entry_delivery, delivery_for}
use Rattle.journal_pictures.specs.Diagram.{event_line, brought, entry_brings, line_at}
use Rattle.journal_pictures.specs.declared.deliveries.Delivery.{Delivery}
use Rattle.journal_pictures.proofs.Brought.{brought-at}

-- the item that is passed next
pub item-there : {A : Type 0} (xs : List A) (place : ℕ) (x : A) → place < length xs → x ≡ get_or xs place x → slice_get xs place ≡ Some x
item-there {A} xs place x within is =
    let y = there-within xs place within in
    let same : x ≡ y.0 = is ∙ get_or_from_slice_get xs place y.0 x y.1 in
    y.1 ∙ ap (λ (z : A). Some z) (sym same)

-- a world has few ranks
few-ranks : (limits : Limits) → are_limits limits ≡ true → limits.ranks ≤ 16
few-ranks limits h = leb-true limits.ranks 16 (both (nat_le 1 limits.ranks) (nat_le limits.ranks 16) (both (is_between 1 16 limits.ranks) _ h).0).1

module _ (w : ShapeValue) (world : IsShape w) (journal : List Event) (legal : is_legal w journal ≡ true) (place : ℕ) (e : Event) (there : slice_get journal place ≡ Some e) (table : List (List Delivery)) (is : IsDeliveryTable table (take place journal)) where
  -- of an entry that was found
  found-brought : (s : State) (origin queue target number : ℕ) (posts : Posts) (at : EntryPosition) → reached w (take place journal) ≡ Ok s → slice_get s.posts origin ≡ Some posts → IsFound posts queue target number at
      → entry_delivery (slice_get table origin) number ≡ entry_brings (entry_after s origin queue target number)
  found-brought s origin queue target number posts at before posts_there found =
      let found' = found-again posts queue target number at whys.Put found in
      let stands : entry_after s origin queue target number ≡ Some at.entry = rw (posts_there, found') refl in
      let i = stands-in s origin queue target number at.entry stands in
      let brings = (brought-at w world journal legal origin place (let within = slice_get_within journal place e there in omega arith) s before i.posts i.there).each queue target number at.entry.kind i.in_queues in
      let sound = reached-sound w (take place journal) s world before in
      let few = few-ranks s.limits sound.limits in
      let within = slice_get_within s.posts origin posts posts_there in
      let many = sound.ranks in
      let rows = is.ranks in
      let row = there-within table origin (omega arith) in
      let row_is = is.each origin row.0 row.1 in
      ap (λ (o : Option (List Delivery)). entry_delivery o number) row.1 ∙ ap (λ (ds : List Delivery). slice_get ds number) row_is ∙ brings
      ∙ ap entry_brings (sym stands)

  pub line-is : event_line place e (delivery_for table e) ≡ line_at w journal place
  line-is =
      let here = step-at w journal place e legal there in
      rw (there, here.before) (ap (event_line place e) (same here.s here.t e here.before here.step_is))
    where
      same : (s t : State) (x : Event) → reached w (take place journal) ≡ Ok s → step s x ≡ Ok t → delivery_for table x ≡ brought s x
      same s t (Called c call reply) before h = refl
      same s t (Joined c id args) before h = refl
      same s t (Take origin queue target number outcome) before h =
          let made = step-take s t origin queue target number outcome h in
          found-brought s origin queue target number made.0 made.3 before made.4.posts_there made.4.is.is
      same s t (Put origin queue target number outcome) before h =
          let made = step-put s t origin queue target number outcome h in
          found-brought s origin queue target number made.0 made.3 before made.4.posts_there made.4.is.is
