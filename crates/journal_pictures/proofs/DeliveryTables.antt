-- The tables of what entries bring, event by event.
use Rattle.std.proofs.Common.{◌≡◌, ℕ, List, [], ◌∷◌, ◌++◌, replicate, Option, None, Some, ◌⊎◌, inl, inr, refl, sym, ap, subst, ◌∙◌}
use Rattle.std.specs.List.{slice_get}
use Rattle.std.proofs.lemmas.Bool.{eq-eqb, ne_eqb}
use Rattle.std.proofs.lemmas.Grind.{flat_map-append}
use Rattle.std.proofs.lemmas.List.{append-nil, length-replicate}
use Rattle.gaspi_types.proofs.Items.{changed_at-found, length-changed_at, same-or-not, slice_get-set, slice_get-set_same, slice_get-replicate}
use Rattle.gaspi_types.specs.Tables.{changed_at}
use Rattle.gaspi_types.specs.declared.calls.Call.{Call}
use Rattle.gaspi_types.specs.declared.events.Event.{Event}
use Rattle.gaspi_types.specs.declared.events.Event.TheVariants.{Called, Joined, Take, Put}
use Rattle.gaspi_types.specs.declared.replies.Reply.TheVariants as replies
use Rattle.gaspi_types.specs.declared.shapes.CallerId.{CallerId}
use Rattle.journal_pictures.specs.Deliveries.{deliveries_of, posted_in, posted, IsDeliveryTable, table_after}
use Rattle.journal_pictures.specs.declared.deliveries.Delivery.{Delivery}

-- one event more
pub posted-more : (origin : ℕ) (history : List Event) (e : Event) → posted origin (history ++ e ∷ []) ≡ posted origin history ++ posted_in origin e
posted-more origin history e =
    flat_map-append (posted_in origin) history (e ∷ []) ∙ ap (λ (ds : List Delivery). posted origin history ++ ds) (append-nil (posted_in origin e))

pub posted-none : (origin : ℕ) (history : List Event) (e : Event) → posted_in origin e ≡ [] → posted origin (history ++ e ∷ []) ≡ posted origin history
posted-none origin history e none =
    posted-more origin history e ∙ ap (λ (ds : List Delivery). posted origin history ++ ds) none ∙ append-nil (posted origin history)

-- at the beginning
pub table-first : IsDeliveryTable (replicate 16 []) []
table-first = record {
  ranks = length-replicate {A = List Delivery} 16 [];
  each = λ rank row there. slice_get-replicate 16 [] row rank there;
}

-- after an event that posts nothing
same-table : (table : List (List Delivery)) (history : List Event) (e : Event) → ((rank : ℕ) → posted_in rank e ≡ []) → IsDeliveryTable table history → IsDeliveryTable table (history ++ e ∷ [])
same-table table history e none is = record {
  ranks = is.ranks;
  each = λ rank row there. is.each rank row there ∙ sym (posted-none rank history e (none rank));
}

-- after a call that is done
done-table : (table : List (List Delivery)) (history : List Event) (c : CallerId) (call : Call) → IsDeliveryTable table history
    → IsDeliveryTable (table_after (Called c call replies.Done) table) (history ++ Called c call replies.Done ∷ [])
done-table table history c call is = record {
  ranks = length-changed_at table c.rank change ∙ is.ranks;
  each = λ rank row there. same-or-not rank c.rank (mine rank row there) (other rank row there);
}
  where
    e : Event
    e = Called c call replies.Done

    change : List Delivery → List Delivery
    change row = row ++ deliveries_of call

    by-item : (rank : ℕ) (row : List Delivery) → slice_get (changed_at table c.rank change) rank ≡ Some row → (o : Option (List Delivery)) → slice_get table c.rank ≡ o
        → ((x : List Delivery) × (slice_get table c.rank ≡ Some x) × (rank ≡ c.rank) × (row ≡ change x)) ⊎ (slice_get table rank ≡ Some row)
    by-item rank row there None at = inr (rw at at there)
    by-item rank row there (Some x) at =
        elim (slice_get-set table c.rank rank (change x) row (subst (λ (ys : List (List Delivery)). slice_get ys rank ≡ Some row) (changed_at-found table c.rank x change at) there)) [
          | inl w ↦ inl (x, at, w.0, w.1)
          | inr w ↦ inr w
        ]

    mine-in : (rank : ℕ) → rank ≡ c.rank → posted_in rank e ≡ deliveries_of call
    mine-in rank same = rw (eq-eqb c.rank rank (sym same)) refl

    other-in : (rank : ℕ) → (rank ≡ c.rank → ⊥) → posted_in rank e ≡ []
    other-in rank apart = rw (ne_eqb c.rank rank (λ same. apart (sym same))) refl

    mine : (rank : ℕ) (row : List Delivery) → slice_get (changed_at table c.rank change) rank ≡ Some row → rank ≡ c.rank → row ≡ posted rank (history ++ e ∷ [])
    mine rank row there same = go (slice_get table c.rank) refl
      where
        go : (o : Option (List Delivery)) → slice_get table c.rank ≡ o → row ≡ posted rank (history ++ e ∷ [])
        go None at =
            let was : slice_get table rank ≡ Some row = rw at at there in
            absurd (let none : slice_get table rank ≡ None = ap (slice_get table) same ∙ at in let no : ⊥ = cc in no)
        go (Some x) at =
            let now : slice_get (changed_at table c.rank change) c.rank ≡ Some (change x) =
            ap (λ (ys : List (List Delivery)). slice_get ys c.rank) (changed_at-found table c.rank x change at) ∙ slice_get-set_same table c.rank x (change x) at in
            let here : slice_get (changed_at table c.rank change) c.rank ≡ Some row = subst (λ (k : ℕ). slice_get (changed_at table c.rank change) k ≡ Some row) same there in
            let is_row : row ≡ change x = (let some : ◌≡◌ {A = Option (List Delivery)} (Some row) (Some (change x)) = sym here ∙ now in cc) in
            let before : x ≡ posted rank history = is.each c.rank x at ∙ ap (λ (k : ℕ). posted k history) (sym same) in
            is_row ∙ ap change before
            ∙ ap (λ (ds : List Delivery). posted rank history ++ ds) (sym (mine-in rank same)) ∙ sym (posted-more rank history e)

    other : (rank : ℕ) (row : List Delivery) → slice_get (changed_at table c.rank change) rank ≡ Some row → (rank ≡ c.rank → ⊥) → row ≡ posted rank (history ++ e ∷ [])
    other rank row there apart =
        elim (by-item rank row there (slice_get table c.rank) refl) [
          | inl w ↦ absurd (apart w.2)
          | inr w ↦ is.each rank row w ∙ sym (posted-none rank history e (other-in rank apart))
        ]

pub table-more : (table : List (List Delivery)) (history : List Event) (e : Event) → IsDeliveryTable table history → IsDeliveryTable (table_after e table) (history ++ e ∷ [])
table-more table history (Called c call replies.Done) is = done-table table history c call is
table-more table history (Called c call other) is = same-table table history (Called c call other) (λ rank. refl) is
table-more table history (Joined c id args) is = same-table table history (Joined c id args) (λ rank. refl) is
table-more table history (Take origin queue target number outcome) is = same-table table history (Take origin queue target number outcome) (λ rank. refl) is
table-more table history (Put origin queue target number outcome) is = same-table table history (Put origin queue target number outcome) (λ rank. refl) is
