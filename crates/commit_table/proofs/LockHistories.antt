-- The lock operations on shards, where a view changes, where a shard is taken or given back, and where a view is new.
use Rattle.std.proofs.Common.{◌≡◌, ℕ, ◌<◌, inl, inr, ⊎_elim, Bool, true, false, cond, eqb, eq-eqb, ne_eqb, List, [], ◌∷◌, ◌++◌, set, Option, None, Some, refl, ap, sym, subst, ◌∙◌, arith, append-nil}
use mathlib.Core.Logic.{dite}
use mathlib.Core.Option.{some}
use native.Mathlib.Decide.{ℕ_discrete}
use lib.ListN.{get_elem?}
use Rattle.atomic_table.proofs.Lists.{at_set, set_else, at_longer}
use Rattle.commit_table.specs.declared.views.LockRecord.{LockRecord}
use Rattle.commit_table.specs.declared.views.LockOp.{LockOp}
use Rattle.commit_table.specs.declared.views.LockOp.TheVariants.{Took, GaveBack, Missed}
use Rattle.commit_table.specs.declared.views.SeatView.{SeatView}
use Rattle.commit_table.specs.LockHistory.{holder_by, holder_in, lock_operations_by, Extends, HolderAgrees, KnowsLockRecords, AreLockOperations, LocksAgree}
use Rattle.commit_table.proofs.Lists.{at_here, one_there, at_end}

pub none_before : (records : List LockRecord) → Extends [] records
none_before records = (records, sym (append-nil records))

pub none_since : (records : List LockRecord) → Extends records records
none_since records = ([], refl)

pub one_since : (before records : List LockRecord) (t : LockRecord) → Extends before records → Extends before (t ∷ records)
one_since before records t g = (t ∷ g.0, ap (λ z. t ∷ z) g.1)

-- what a pass did that took a shard, or gave it back
abbrev pub op_of : Bool → LockOp
op_of true = Took
op_of false = GaveBack

-- a lock operation on another shard leaves who holds this one
holder_else : (records : List LockRecord) (i j p : ℕ) (op : LockOp) → (j ≡ i → ⊥) → holder_in (record { shard = i; party = p; op = op } ∷ records) j ≡ holder_in records j
holder_else records i j p op ne = subst (λ b. holder_by b op p (holder_in records j) ≡ holder_in records j) (sym (ne_eqb j i ne)) refl

holder_missed : (b : Bool) (p : ℕ) (o : Option ℕ) → holder_by b Missed p o ≡ o
holder_missed true p o = refl
holder_missed false p o = refl

module _ {S E : Type 0} where
  pub holders_kept : (views : List (SeatView S E)) (records : List LockRecord) (i id : ℕ) (v w : SeatView S E) → get_elem? views id ≡ some v → (o : Option ℕ)
      → (o ≡ Some id → (p : ℕ) → v.known.party ≡ Some p → w.known.party ≡ Some p) → HolderAgrees views records i o → HolderAgrees (set views id w) records i o
  holders_kept views records i id v w at None same r = r
  holders_kept views records i id v w at (Some k) same r = dite (ℕ_discrete k id)
      (λ is.
      let be : v ≡ r.0 = one_there views id v r.0 at (subst (λ (z : ℕ). get_elem? views z ≡ some r.0) is r.2) in
      (w, r.1, subst (λ (z : ℕ). get_elem? (set views id w) z ≡ some w) (sym is) (at_here views id w v at), same (ap Some is) r.1 (subst (λ (z : SeatView S E). z.known.party ≡ Some r.1) (sym be) r.3), r.4))
      (λ ne. (r.0, r.1, set_else views id k w ne ∙ r.2, r.3, r.4))

  holders_same : (views : List (SeatView S E)) (records more : List LockRecord) (i : ℕ) → holder_in more i ≡ holder_in records i → (o : Option ℕ) → HolderAgrees views records i o → HolderAgrees views more i o
  holders_same views records more i e None r = e ∙ r
  holders_same views records more i e (Some k) r = (r.0, r.1, r.2, r.3, e ∙ r.4)

  pub holders_grown : (views : List (SeatView S E)) (records : List LockRecord) (i : ℕ) (u : SeatView S E) (o : Option ℕ) → HolderAgrees views records i o → HolderAgrees (views ++ u ∷ []) records i o
  holders_grown views records i u None r = r
  holders_grown views records i u (Some k) r = (r.0, r.1, at_longer views (u ∷ []) k r.0 r.2, r.3, r.4)

  recalls_same : (records more : List LockRecord) (p : ℕ) (v : SeatView S E) → lock_operations_by p more ≡ lock_operations_by p records → KnowsLockRecords records v p → KnowsLockRecords more v p
  recalls_same records more p v e a = ⊎_elim (λ x. inl (x.0, e ∙ x.1)) (λ x. ⊎_elim (λ y. inr (inl (y.0, y.1, e ∙ y.2))) (λ y. inr (inr (y.0, y.1, y.2, y.3, y.4, e ∙ y.5))) x) a

  pub lock_records_kept : (views : List (SeatView S E)) (records more : List LockRecord) (p id : ℕ) (v w : SeatView S E) → get_elem? views id ≡ some v → (o : Option ℕ)
      → (o ≡ Some id → KnowsLockRecords records v p → KnowsLockRecords more w p) → lock_operations_by p more ≡ lock_operations_by p records → AreLockOperations views records p o → AreLockOperations (set views id w) more p o
  lock_records_kept views records more p id v w at None change same r = same ∙ r
  lock_records_kept views records more p id v w at (Some k) change same r = dite (ℕ_discrete k id)
      (λ is.
      let be : v ≡ r.0 = one_there views id v r.0 at (subst (λ (z : ℕ). get_elem? views z ≡ some r.0) is r.1) in
      (w, subst (λ (z : ℕ). get_elem? (set views id w) z ≡ some w) (sym is) (at_here views id w v at), change (ap Some is) (subst (λ (z : SeatView S E). KnowsLockRecords records z p) (sym be) r.2)))
      (λ ne. (r.0, set_else views id k w ne ∙ r.1, recalls_same records more p r.0 same r.2))

  pub lock_records_grown : (views : List (SeatView S E)) (records : List LockRecord) (p : ℕ) (u : SeatView S E) (o : Option ℕ) → AreLockOperations views records p o → AreLockOperations (views ++ u ∷ []) records p o
  lock_records_grown views records p u None r = r
  lock_records_grown views records p u (Some k) r = (r.0, at_longer views (u ∷ []) k r.0 r.1, r.2)

  -- a view is another, and no shard changes hands
  pub locks_kept : (n : ℕ) (views : List (SeatView S E)) (records : List LockRecord) (holder later seat : ℕ → Option ℕ) (id : ℕ) (v w : SeatView S E) → get_elem? views id ≡ some v → ((i : ℕ) → i < n → later i ≡ holder i)
      → ((i : ℕ) → i < n → holder i ≡ Some id → (p : ℕ) → v.known.party ≡ Some p → w.known.party ≡ Some p) → ((p : ℕ) → KnowsLockRecords records v p → KnowsLockRecords records w p) → Extends w.known.lock_history records
      → LocksAgree n views records holder seat → LocksAgree n (set views id w) records later seat
  locks_kept n views records holder later seat id v w at holders party recalls met r = record {
    holders = λ i lt. subst (λ o. HolderAgrees (set views id w) records i o) (sym (holders i lt)) (holders_kept views records i id v w at (holder i) (λ e. party i lt e) (r.holders i lt));
    parties = λ p. lock_records_kept views records records p id v w at (seat p) (λ e. recalls p) refl (r.parties p);
    met = λ k u there. ⊎_elim (λ t. subst (λ (z : SeatView S E). Extends z.known.lock_history records) t.1 met) (λ t. r.met k u t.1) (at_set views id k w u there);
  }

  -- a new view
  pub locks_grown : (n : ℕ) (views : List (SeatView S E)) (records : List LockRecord) (holder seat : ℕ → Option ℕ) (u : SeatView S E) → u.known.lock_history ≡ [] → LocksAgree n views records holder seat → LocksAgree n (views ++ u ∷ []) records holder seat
  locks_grown n views records holder seat u bare r = record {
    holders = λ i lt. holders_grown views records i u (holder i) (r.holders i lt);
    parties = λ p. lock_records_grown views records p u (seat p) (r.parties p);
    met = λ k w there. ⊎_elim (λ t. r.met k w t) (λ t. subst (λ (z : SeatView S E). Extends z.known.lock_history records) t.1 (subst (λ z. Extends z records) (sym bare) (none_before records))) (at_end views u w k there);
  }

  -- a pass's lock operations are all that its party has
  pub own_lock_operations : (views : List (SeatView S E)) (records : List LockRecord) (p id : ℕ) (v : SeatView S E) → get_elem? views id ≡ some v → v.end_party ≡ 0 → v.is_closer ≡ false → (o : Option ℕ) → o ≡ Some id
      → AreLockOperations views records p o → lock_operations_by p records ≡ v.known.lock_operations
  own_lock_operations views records p id v at rests alone o is r =
      let there : AreLockOperations views records p (Some id) = subst (λ z. AreLockOperations views records p z) is r in
      let be : v ≡ there.0 = one_there views id v there.0 at there.1 in
      ⊎_elim (λ x. x.1) (λ x. ⊎_elim (λ y. absurd (let lt = y.1 in omega (arith, lt, rests))) (λ y. absurd (let on = y.0 in cc)) x) (subst (λ (z : SeatView S E). KnowsLockRecords records z p) (sym be) there.2)

  -- a party whose pass is yet to be made has no lock operations
  pub unmade_lock_records : (views : List (SeatView S E)) (records : List LockRecord) (p id : ℕ) (v : SeatView S E) → get_elem? views id ≡ some v → v.known.party ≡ None → v.is_closer ≡ false → (o : Option ℕ) → o ≡ Some id
      → AreLockOperations views records p o → lock_operations_by p records ≡ []
  unmade_lock_records views records p id v at bare alone o is r =
      let there : AreLockOperations views records p (Some id) = subst (λ z. AreLockOperations views records p z) is r in
      let be : v ≡ there.0 = one_there views id v there.0 at there.1 in
      ⊎_elim (λ x. absurd (let its = x.0 in cc)) (λ x. ⊎_elim (λ y. y.2) (λ y. absurd (let on = y.0 in cc)) x) (subst (λ (z : SeatView S E). KnowsLockRecords records z p) (sym be) there.2)

  holders_new : (views : List (SeatView S E)) (records : List LockRecord) (i p id : ℕ) (v w : SeatView S E) → get_elem? views id ≡ some v → w.known.party ≡ Some p → (taken : Bool)
      → HolderAgrees (set views id w) (record { shard = i; party = p; op = op_of taken } ∷ records) i (cond taken (Some id) None)
  holders_new views records i p id v w at party true = (w, p, at_here views id w v at, party, subst (λ b. holder_by b Took p (holder_in records i) ≡ Some p) (sym (eq-eqb i i refl)) refl)
  holders_new views records i p id v w at party false = subst (λ b. holder_by b GaveBack p (holder_in records i) ≡ None) (sym (eq-eqb i i refl)) refl

  -- the lock operations of all parties, with one more of a pass
  parties_moved : (views : List (SeatView S E)) (records : List LockRecord) (seat : ℕ → Option ℕ) (i p id : ℕ) (v w : SeatView S E) (op : LockOp) → get_elem? views id ≡ some v
      → v.known.party ≡ Some p → w.known.party ≡ Some p → w.known.lock_operations ≡ (i, op) ∷ v.known.lock_operations → v.end_party ≡ 0 → v.is_closer ≡ false → seat p ≡ Some id
      → ((q : ℕ) → AreLockOperations views records q (seat q)) → (q : ℕ) → AreLockOperations (set views id w) (record { shard = i; party = p; op = op } ∷ records) q (seat q)
  parties_moved views records seat i p id v w op at party its made rests alone sits parties q =
      let t : LockRecord = record { shard = i; party = p; op = op } in
      let views' = set views id w in
      let own : lock_operations_by p records ≡ v.known.lock_operations = own_lock_operations views records p id v at rests alone (seat p) sits (parties p) in
      dite (ℕ_discrete q p)
      (λ same. subst (λ (z : ℕ). AreLockOperations views' (t ∷ records) z (seat z)) (sym same) (subst (λ z. AreLockOperations views' (t ∷ records) p z) (sym sits)
      (w, at_here views id w v at, inl (its, subst (λ b. cond {A = List (ℕ × LockOp)} b ((i, op) ∷ lock_operations_by p records) (lock_operations_by p records) ≡ (i, op) ∷ lock_operations_by p records) (sym (eq-eqb p p refl)) refl ∙ (ap (λ z. (i, op) ∷ z) own ∙ sym made)))))
      (λ ne. lock_records_kept views records (t ∷ records) q id v w at (seat q)
      (λ e a. ⊎_elim (λ x. absurd (ne (let has = x.0 in cc))) (λ x. ⊎_elim (λ y. absurd (let lt = y.1 in omega (arith, lt, rests))) (λ y. absurd (let on = y.0 in cc)) x) a)
      (subst (λ b. cond {A = List (ℕ × LockOp)} b ((i, op) ∷ lock_operations_by q records) (lock_operations_by q records) ≡ lock_operations_by q records) (sym (ne_eqb q p ne)) refl) (parties q))

  -- a pass takes a shard, or gives it back
  pub lock_record_made : (n : ℕ) (views : List (SeatView S E)) (records : List LockRecord) (holder seat : ℕ → Option ℕ) (i p id : ℕ) (v w : SeatView S E) (taken : Bool) → get_elem? views id ≡ some v
      → v.known.party ≡ Some p → w.known.party ≡ Some p → w.known.lock_operations ≡ (i, op_of taken) ∷ v.known.lock_operations → w.known.lock_history ≡ v.known.lock_history → v.end_party ≡ 0 → v.is_closer ≡ false → seat p ≡ Some id
      → LocksAgree n views records holder seat → LocksAgree n (set views id w) (record { shard = i; party = p; op = op_of taken } ∷ records) (λ j. cond (eqb j i) (cond taken (Some id) None) (holder j)) seat
  lock_record_made n views records holder seat i p id v w taken at party its made met rests alone sits r =
      let t : LockRecord = record { shard = i; party = p; op = op_of taken } in
      let o : Option ℕ = cond taken (Some id) None in
      let views' = set views id w in
      record {
        holders = λ j lt. dite (ℕ_discrete j i)
            (λ same. subst (λ (z : ℕ). HolderAgrees views' (t ∷ records) z (cond (eqb z i) o (holder z))) (sym same)
            (subst (λ b. HolderAgrees views' (t ∷ records) i (cond b o (holder i))) (sym (eq-eqb i i refl)) (holders_new views records i p id v w at its taken)))
            (λ ne. subst (λ b. HolderAgrees views' (t ∷ records) j (cond b o (holder j))) (sym (ne_eqb j i ne))
            (holders_same views' records (t ∷ records) j (holder_else records i j p (op_of taken) ne) (holder j)
            (holders_kept views records j id v w at (holder j) (λ e q has. its ∙ (sym party ∙ has)) (r.holders j lt))));
        parties = parties_moved views records seat i p id v w (op_of taken) at party its made rests alone sits r.parties;
        met = λ k u there. ⊎_elim
            (λ x. subst (λ (z : SeatView S E). Extends z.known.lock_history (t ∷ records)) x.1 (one_since w.known.lock_history records t (subst (λ z. Extends z records) (sym met) (r.met id v at))))
            (λ x. one_since u.known.lock_history records t (r.met k u x.1))
            (at_set views id k w u there);
      }

  -- a pass misses a shard, and no shard changes hands
  pub lock_record_missed : (n : ℕ) (views : List (SeatView S E)) (records : List LockRecord) (holder seat : ℕ → Option ℕ) (i p id : ℕ) (v w : SeatView S E) → get_elem? views id ≡ some v
      → v.known.party ≡ Some p → w.known.party ≡ Some p → w.known.lock_operations ≡ (i, Missed) ∷ v.known.lock_operations → w.known.lock_history ≡ record { shard = i; party = p; op = Missed } ∷ records → v.end_party ≡ 0 → v.is_closer ≡ false → seat p ≡ Some id
      → LocksAgree n views records holder seat → LocksAgree n (set views id w) (record { shard = i; party = p; op = Missed } ∷ records) holder seat
  lock_record_missed n views records holder seat i p id v w at party its made met rests alone sits r =
      let t : LockRecord = record { shard = i; party = p; op = Missed } in
      record {
        holders = λ j lt. holders_same (set views id w) records (t ∷ records) j (holder_missed (eqb j i) p (holder_in records j)) (holder j)
            (holders_kept views records j id v w at (holder j) (λ e q has. its ∙ (sym party ∙ has)) (r.holders j lt));
        parties = parties_moved views records seat i p id v w Missed at party its made rests alone sits r.parties;
        met = λ k u there. ⊎_elim
            (λ x. subst (λ (z : SeatView S E). Extends z.known.lock_history (t ∷ records)) x.1 (subst (λ z. Extends z (t ∷ records)) (sym met) (none_since (t ∷ records))))
            (λ x. one_since u.known.lock_history records t (r.met k u x.1))
            (at_set views id k w u there);
      }
