-- The tables of what is open, event by event.
use Rattle.std.proofs.Common.{◌≡◌, ◌⊎◌, ℕ, ◌+◌, ◌*◌, ◌≤◌, List, [], length, Some, inl, inr, ap, ◌∙◌, arith}
use Rattle.std.specs.List.{slice_get}
use Rattle.std.proofs.lemmas.List.{length-replicate}
use Rattle.gaspi_types.proofs.Items.{length-changed_at, slice_get-changed_at, slice_get-replicate}
use Rattle.gaspi_types.specs.declared.calls.Call.{Call}
use Rattle.gaspi_types.specs.declared.calls.Call.TheVariants.{Purge}
use Rattle.gaspi_types.specs.declared.events.Event.{Event}
use Rattle.gaspi_types.specs.declared.events.Event.TheVariants.{Called, Take, Put}
use Rattle.gaspi_types.specs.declared.events.Outcome.TheVariants.{Failed}
use Rattle.gaspi_types.specs.declared.replies.Reply.TheVariants as replies
use Rattle.gaspi_model.specs.Step.{owner_of}
use Rattle.gaspi_model.proofs.Sound.Accounts.{few-posted}
use Rattle.journal_pictures.specs.OpenEntries.{after_call, entries_after, rank_after}
use Rattle.journal_pictures.specs.Trace.{nothing_open}
use Rattle.journal_pictures.specs.declared.open_entries.RankEntries.{RankEntries}

-- there are 16 ranks, and no more than 257 entries were posted by each event so far
pub record IsShort (ranks : List RankEntries) (place : ℕ) : Type 0 where
  pub many : length ranks ≡ 16
  pub small : (rank : ℕ) (r : RankEntries) → slice_get ranks rank ≡ Some r → r.next ≤ 257 * place

pub short-first : IsShort nothing_open 0
short-first = record {
  many = length-replicate {A = RankEntries} 16 (record { next = 0; entries = [] });
  small = λ rank r there.
      let same = slice_get-replicate 16 (record { next = 0; entries = [] }) r rank there in
      let zero_next : r.next ≡ 0 = ap (λ (x : RankEntries). x.next) same in
      omega arith;
}

call-short : (call : Call) (r : RankEntries) → (after_call call r).next ≤ r.next + 257
call-short (Purge call) r = omega arith
call-short call r = let few = few-posted call in omega arith

event-short : (e : Event) (r : RankEntries) → (rank_after e r).next ≤ r.next + 257
event-short (Called c call replies.Done) r = call-short call r
event-short (Take origin queue target number Failed) r = omega arith
event-short (Put origin queue target number outcome) r = omega arith
event-short e r = omega arith

pub short-more : (ranks : List RankEntries) (place : ℕ) (e : Event) → IsShort ranks place → IsShort (entries_after e ranks) (place + 1)
short-more ranks place e is = record {
  many = length-changed_at ranks (owner_of e) (rank_after e) ∙ is.many;
  small = λ rank r there. go rank r (slice_get-changed_at ranks (owner_of e) (rank_after e) rank r there);
}
  where
    go : (rank : ℕ) (r : RankEntries) → (k : ℕ) × (x : RankEntries) × (slice_get ranks k ≡ Some x) × ((r ≡ x) ⊎ (r ≡ rank_after e x)) → r.next ≤ 257 * (place + 1)
    go rank r (k, x, at, inl same) =
        let before = is.small k x at in
        let next : r.next ≡ x.next = ap (λ (y : RankEntries). y.next) same in
        omega arith
    go rank r (k, x, at, inr changed) =
        let before = is.small k x at in
        let next : r.next ≡ (rank_after e x).next = ap (λ (y : RankEntries). y.next) changed in
        let few = event-short e x in
        omega arith
