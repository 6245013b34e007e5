-- Posts of lists: their checks, and then their entries.
use Rattle.std.proofs.Common.{◌≡◌, ℕ, not, ◌==◌, nat_lt, List, [], ◌∷◌, ◌++◌, length, Result, Ok, Err, refl, ◌∙◌}
use Rattle.gaspi_types.specs.Checks.{◌>>=◌, check, ok_or, check_each}
use Rattle.gaspi_types.specs.Posts.{is_list_length, has_segments, has_size, slot_in, transfers_of, checked_transfers, writes_with_notification, listed}
use Rattle.gaspi_types.specs.SegmentTables.{known_extent}
use Rattle.gaspi_types.specs.declared.calls.posts.Item.{Item}
use Rattle.gaspi_types.specs.declared.entries.Direction.{Direction}
use Rattle.gaspi_types.specs.declared.entries.Direction.TheVariants.{Outward}
use Rattle.gaspi_types.specs.declared.entries.Kind.{Kind}
use Rattle.gaspi_types.specs.declared.entries.Kind.TheVariants.{Notify}
use Rattle.gaspi_types.specs.declared.segments.Extent.{Extent}
use Rattle.gaspi_types.specs.declared.segments.SegmentTable.{SegmentTable}
use Rattle.gaspi_types.specs.declared.replies.Refusal.{Refusal}
use Rattle.gaspi_types.specs.declared.replies.Refusal.TheVariants.{Unregistered, BadNote, ZeroValue, BadCount}
use Rattle.segment_store.specs.PostKinds.{notification}
use Rattle.segment_store.specs.ListPosts.{list_checks, transfers_then}

-- the checks of a list before its ranges, and what is done with what they give
regrouped : {A : Type 0} (counted there : Result (Unit {0}) Refusal) (beside : Result A Refusal) (sized : Result (Unit {0}) Refusal) (kinds : Result (List Kind) Refusal)
    (after : A × List Kind → Result (List Kind) Refusal)
    → (counted >>= (λ c. (there >>= (λ t. beside >>= (λ known. sized >>= (λ s. kinds >>= (λ ks. Ok (known, ks)))))) >>= after))
    ≡ ((counted >>= (λ c. there >>= (λ t. beside >>= (λ known. sized >>= (λ s. Ok known))))) >>= (λ known. kinds >>= (λ ks. after (known, ks))))
regrouped (Err e) there beside sized kinds after = refl
regrouped (Ok c) (Err e) beside sized kinds after = refl
regrouped (Ok c) (Ok t) (Err e) sized kinds after = refl
regrouped (Ok c) (Ok t) (Ok known) (Err e) kinds after = refl
regrouped (Ok c) (Ok t) (Ok known) (Ok s) (Err e) after = refl
regrouped (Ok c) (Ok t) (Ok known) (Ok s) (Ok ks) after = refl

list-checked : {A : Type 0} (direction : Direction) (me : ℕ) (table : SegmentTable) (rank : ℕ) (items : List Item) (beside : Result A Refusal)
    (after : A × List Kind → Result (List Kind) Refusal)
    → listed items (checked_transfers direction me table rank items beside >>= after)
    ≡ (list_checks me table rank items beside >>= (λ known. transfers_of direction me table rank items >>= (λ ks. after (known, ks))))
list-checked direction me table rank items beside after =
    regrouped (check (is_list_length (length items)) BadCount) (check_each (has_segments me table rank) items) beside (check_each has_size items)
    (transfers_of direction me table rank items) after

-- what stands behind the transfers, put together first
put_together : {A : Type 0} (known : Result A Refusal) (kinds : Result (List Kind) Refusal) (noted valued : Result (Unit {0}) Refusal) (last : A → Kind)
    → (known >>= (λ k. kinds >>= (λ ks. noted >>= (λ n. valued >>= (λ v. Ok (ks ++ last k ∷ []))))))
    ≡ (known >>= (λ k. kinds >>= (λ ks. (noted >>= (λ n. valued >>= (λ v. Ok (last k)))) >>= (λ kind. Ok (ks ++ kind ∷ [])))))
put_together (Err e) kinds noted valued last = refl
put_together (Ok k) (Err e) noted valued last = refl
put_together (Ok k) (Ok ks) (Err e) valued last = refl
put_together (Ok k) (Ok ks) (Ok n) (Err e) last = refl
put_together (Ok k) (Ok ks) (Ok n) (Ok v) last = refl

pub list_noted_writes : (notes me : ℕ) (table : SegmentTable) (rank : ℕ) (items : List Item) (segment note value : ℕ)
    → listed items (writes_with_notification notes me table rank items segment note value)
    ≡ (list_checks me table rank items (ok_or (known_extent me table rank segment) Unregistered)
    >>= (λ theirs. transfers_then Outward me table rank items (notification notes theirs segment note value)))
list_noted_writes notes me table rank items segment note value =
    let beside : Result Extent Refusal = ok_or (known_extent me table rank segment) Unregistered in
    let noted : Result (Unit {0}) Refusal = check (nat_lt note notes) BadNote in
    let valued : Result (Unit {0}) Refusal = check (not (value == 0)) ZeroValue in
    list-checked Outward me table rank items beside (λ checked. noted >>= (λ n. valued >>= (λ v. Ok (checked.1 ++ Notify (slot_in checked.0 segment note) value ∷ []))))
    ∙ put_together (list_checks me table rank items beside) (transfers_of Outward me table rank items) noted valued (λ theirs. Notify (slot_in theirs segment note) value)
