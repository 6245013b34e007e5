-- Transfers are listed by origin, queue, target and number.
use Rattle.std.proofs.Common.{◌≡◌, ℕ, zero, suc, ◌+◌, ◌<◌, Bool, true, false, ◌==◌, ◌&&◌, ◌||◌, List, [], ◌∷◌, ◌++◌, length, Some, refl, sym, ◌∙◌, subst, arith, is_none, ◌⊎◌, inl, inr}
use Rattle.std.specs.List.{slice_get, flat_map, enumerate_from}
use Rattle.std.proofs.lemmas.Bool.{lt-ltb, eq-eqb}
use Rattle.std.proofs.lemmas.Option.{slice_get_within}
use Rattle.gaspi_types.specs.Lanes.{may_take, may_put}
use Rattle.gaspi_types.specs.declared.entries.Entry.{Entry}
use Rattle.gaspi_types.specs.declared.events.Transfer.{Transfer}
use Rattle.gaspi_types.specs.declared.shapes.Limits.{Limits}
use Rattle.gaspi_model.specs.Transfers.{transfer_of, lane_transfers, queue_transfers, rank_transfers, transfers, is_earlier}
use Rattle.gaspi_model.specs.Sound.{IsSound, IsSoundPosts, AreRising, AreAbove}
use Rattle.gaspi_types.specs.declared.entries.Queue.{Queue}
use Rattle.gaspi_model.specs.declared.states.Posts.{Posts}
use Rattle.gaspi_model.specs.declared.states.State.{State}
use Rattle.gaspi_types.proofs.Items.{flat_map-parts, enumerate-at}

-- what comes earlier in a list comes before what comes later
abbrev IsOrdered : (T : Type 0) → (T → T → Bool) → List T → Type 0
IsOrdered T before xs = (j k : ℕ) (a b : T) → j < k → slice_get xs j ≡ Some a → slice_get xs k ≡ Some b → before a b ≡ true

-- an item of two lists that are joined stands in the first, or behind it
split : {T : Type 0} (xs ys : List T) (k : ℕ) (a : T) → slice_get (xs ++ ys) k ≡ Some a → (slice_get xs k ≡ Some a) ⊎ ((n : ℕ) × (k ≡ length xs + n) × (slice_get ys n ≡ Some a))
split [] ys k a at = inr (k, omega arith, at)
split (x ∷ xs) ys zero a at = inl at
split (x ∷ xs) ys (suc k) a at = shift (split xs ys k a at)
  where
    shift : (slice_get xs k ≡ Some a) ⊎ ((n : ℕ) × (k ≡ length xs + n) × (slice_get ys n ≡ Some a)) → (slice_get xs k ≡ Some a) ⊎ ((n : ℕ) × (suc k ≡ length (x ∷ xs) + n) × (slice_get ys n ≡ Some a))
    shift (inl h) = inl h
    shift (inr (n, is, h)) = inr (n, omega arith, h)

-- parts that are ordered, one behind another, are ordered
flat-ordered : {A T : Type 0} (before : T → T → Bool) (f : A → List T) (xs : List A) → ((i : ℕ) (x : A) → slice_get xs i ≡ Some x → IsOrdered T before (f x))
    → ((i j : ℕ) (x y : A) (m n : ℕ) (a b : T) → i < j → slice_get xs i ≡ Some x → slice_get xs j ≡ Some y → slice_get (f x) m ≡ Some a → slice_get (f y) n ≡ Some b → before a b ≡ true)
    → IsOrdered T before (flat_map f xs)
flat-ordered before f [] each across j k a b less hj hk = absurd (let no : ⊥ = cc in no)
flat-ordered {A} {T} before f (x ∷ xs) each across j k a b less hj hk =
    go (split (f x) (flat_map f xs) j a hj) (split (f x) (flat_map f xs) k b hk)
    (λ m n less' hm hn. flat-ordered before f xs (λ i y at. each (suc i) y at) (λ i i' y y' m' n' a' b' l h h' u u'. across (suc i) (suc i') y y' m' n' a' b' (omega arith) h h' u u') m n a b less' hm hn)
  where
    go : (slice_get (f x) j ≡ Some a) ⊎ ((m : ℕ) × (j ≡ length (f x) + m) × (slice_get (flat_map f xs) m ≡ Some a))
        → (slice_get (f x) k ≡ Some b) ⊎ ((n : ℕ) × (k ≡ length (f x) + n) × (slice_get (flat_map f xs) n ≡ Some b))
        → ((m n : ℕ) → m < n → slice_get (flat_map f xs) m ≡ Some a → slice_get (flat_map f xs) n ≡ Some b → before a b ≡ true) → before a b ≡ true
    go (inl hj') (inl hk') rest = each 0 x refl j k a b less hj' hk'
    go (inl hj') (inr (n, is, hk')) rest =
        let p = flat_map-parts f xs n b hk' in
        across 0 (suc p.0) x p.1 j p.2 a b (omega arith) refl p.3 hj' p.4
    go (inr (m, is, hj')) (inl hk') rest = absurd (let within = slice_get_within (f x) k b hk' in let no : ⊥ = omega arith in no)
    go (inr (m, is, hj')) (inr (n, is', hk')) rest = rest m n (omega arith) hj' hk'

-- Which lane and number a transfer has.
record IsOf (t : Transfer) (origin queue target number : ℕ) : Type 0 where
  origin_is : t.origin ≡ origin
  queue_is : t.queue ≡ queue
  target_is : t.target ≡ target
  number_is : t.number ≡ number

single-is : (x y : Transfer) (j : ℕ) → slice_get (x ∷ []) j ≡ Some y → (x ≡ y) × (j ≡ 0)
single-is x y zero at = ((let same : x ≡ y = cc in same), refl)
single-is x y (suc j) at = absurd (let no : ⊥ = cc in no)

entry-transfer : (limits : Limits) (lane : List Entry) (e : Entry) (origin queue target : ℕ) (j : ℕ) (t : Transfer) → slice_get (transfer_of origin queue target limits lane e) j ≡ Some t
    → IsOf t origin queue target e.number × (j ≡ 0)
entry-transfer limits lane e origin queue target j t at = go (may_take limits.depth lane e) refl (may_put lane e) refl
  where
    of-it : (x : Transfer) → IsOf x origin queue target e.number → (x ≡ t) × (j ≡ 0) → IsOf t origin queue target e.number × (j ≡ 0)
    of-it x is same = (subst (λ (y : Transfer). IsOf y origin queue target e.number) same.0 is, same.1)

    go : (b : Bool) → may_take limits.depth lane e ≡ b → (c : Bool) → may_put lane e ≡ c → IsOf t origin queue target e.number × (j ≡ 0)
    go true take c put =
        of-it (record { origin = origin; queue = queue; target = target; number = e.number; put = false }) (record { origin_is = refl; queue_is = refl; target_is = refl; number_is = refl })
        (single-is (record { origin = origin; queue = queue; target = target; number = e.number; put = false }) t j (rw take at at))
    go false take true put =
        of-it (record { origin = origin; queue = queue; target = target; number = e.number; put = true }) (record { origin_is = refl; queue_is = refl; target_is = refl; number_is = refl })
        (single-is (record { origin = origin; queue = queue; target = target; number = e.number; put = true }) t j (rw (take, put) at at))
    go false take false put = absurd (let none = rw (take, put) at at in let no : ⊥ = cc in no)

-- the numbers of a lane rise
above-all : (n : ℕ) (lane : List Entry) (k : ℕ) (e : Entry) → AreAbove n lane → slice_get lane k ≡ Some e → n < e.number
above-all n [] k e above at = absurd (let no : ⊥ = cc in no)
above-all n (x ∷ lane) zero e above at = let same : x ≡ e = cc in rw (sym same) above.0
above-all n (x ∷ lane) (suc k) e above at = above-all n lane k e above.1 at

rises : (next : ℕ) (lane : List Entry) (j k : ℕ) (a b : Entry) → AreRising next lane → j < k → slice_get lane j ≡ Some a → slice_get lane k ≡ Some b → a.number < b.number
rises next [] j k a b rising less hj hk = absurd (let no : ⊥ = cc in no)
rises next (x ∷ lane) zero zero a b rising less hj hk = absurd (let no : ⊥ = omega arith in no)
rises next (x ∷ lane) zero (suc k) a b rising less hj hk = let same : x ≡ a = cc in rw (sym same) (above-all x.number lane k b rising.1 hk)
rises next (x ∷ lane) (suc j) zero a b rising less hj hk = absurd (let no : ⊥ = omega arith in no)
rises next (x ∷ lane) (suc j) (suc k) a b rising less hj hk = rises next lane j k a b rising.2 (omega arith) hj hk

-- by what one transfer comes before another
later-or : (b c : Bool) → c ≡ true → (b || c) ≡ true
later-or true c h = refl
later-or false c h = h

both-true : (b c : Bool) → b ≡ true → c ≡ true → (b && c) ≡ true
both-true b c hb hc = rw hb hc

same-number : (m n k : ℕ) → m ≡ k → n ≡ k → (m == n) ≡ true
same-number m n k hm hn = eq-eqb m n (hm ∙ sym hn)

by-number : (a b : Transfer) (origin queue target m n : ℕ) → IsOf a origin queue target m → IsOf b origin queue target n → m < n → is_earlier a b ≡ true
by-number a b origin queue target m n ha hb less =
    later-or _ _ (both-true _ _ (same-number a.origin b.origin origin ha.origin_is hb.origin_is)
    (later-or _ _ (both-true _ _ (same-number a.queue b.queue queue ha.queue_is hb.queue_is)
    (later-or _ _ (both-true _ _ (same-number a.target b.target target ha.target_is hb.target_is)
    (let x = ha.number_is in let y = hb.number_is in lt-ltb a.number b.number (omega arith)))))))

first-or : (b c : Bool) → b ≡ true → (b || c) ≡ true
first-or b c h = rw h refl

by-target : (a b : Transfer) (origin queue s t m n : ℕ) → IsOf a origin queue s m → IsOf b origin queue t n → s < t → is_earlier a b ≡ true
by-target a b origin queue s t m n ha hb less =
    later-or _ _ (both-true _ _ (same-number a.origin b.origin origin ha.origin_is hb.origin_is)
    (later-or _ _ (both-true _ _ (same-number a.queue b.queue queue ha.queue_is hb.queue_is)
    (first-or _ _ (let x = ha.target_is in let y = hb.target_is in lt-ltb a.target b.target (omega arith))))))

by-queue : (a b : Transfer) (origin p q s t m n : ℕ) → IsOf a origin p s m → IsOf b origin q t n → p < q → is_earlier a b ≡ true
by-queue a b origin p q s t m n ha hb less =
    later-or _ _ (both-true _ _ (same-number a.origin b.origin origin ha.origin_is hb.origin_is)
    (first-or _ _ (let x = ha.queue_is in let y = hb.queue_is in lt-ltb a.queue b.queue (omega arith))))

by-origin : (a b : Transfer) (o r p q s t m n : ℕ) → IsOf a o p s m → IsOf b r q t n → o < r → is_earlier a b ≡ true
by-origin a b o r p q s t m n ha hb less = first-or _ _ (let x = ha.origin_is in let y = hb.origin_is in lt-ltb a.origin b.origin (omega arith))

-- The transfers of a lane, of a queue, of a rank.

lane-of : (limits : Limits) (origin queue target : ℕ) (lane : List Entry) (j : ℕ) (t : Transfer) → slice_get (lane_transfers origin queue limits (target, lane)) j ≡ Some t
    → (number : ℕ) × IsOf t origin queue target number
lane-of limits origin queue target lane j t at =
    let p = flat_map-parts (transfer_of origin queue target limits lane) lane j t at in
    (p.1.number, (entry-transfer limits lane p.1 origin queue target p.2 t p.4).0)

lane-ordered : (limits : Limits) (origin queue target next : ℕ) (lane : List Entry) → AreRising next lane → IsOrdered Transfer is_earlier (lane_transfers origin queue limits (target, lane))
lane-ordered limits origin queue target next lane rising =
    flat-ordered is_earlier (transfer_of origin queue target limits lane) lane
    (λ i e at j k a b less hj hk.
    absurd (let first = (entry-transfer limits lane e origin queue target j a hj).1 in let second = (entry-transfer limits lane e origin queue target k b hk).1 in let no : ⊥ = omega arith in no))
    (λ i j x y m n a b less hx hy ha hb.
    by-number a b origin queue target x.number y.number (entry-transfer limits lane x origin queue target m a ha).0 (entry-transfer limits lane y origin queue target n b hb).0
    (rises next lane i j x y rising less hx hy))

queue-of : (limits : Limits) (origin queue : ℕ) (q : Queue) (j : ℕ) (t : Transfer) → slice_get (queue_transfers origin limits (queue, q)) j ≡ Some t
    → (target number : ℕ) × IsOf t origin queue target number
queue-of limits origin queue q j t at = go (is_none q.broken) refl
  where
    go : (b : Bool) → is_none q.broken ≡ b → (target number : ℕ) × IsOf t origin queue target number
    go true whole =
        let p = flat_map-parts (lane_transfers origin queue limits) (enumerate_from 0 q.lanes) j t (rw whole at at) in
        let of = lane-of limits origin queue p.1.0 p.1.1 p.2 t p.4 in
        (p.1.0, of.0, of.1)
    go false broken = absurd (let none = rw broken at at in let no : ⊥ = cc in no)

enumerated : {A : Type 0} (xs : List A) (i : ℕ) (p : ℕ × A) → slice_get (enumerate_from 0 xs) i ≡ Some p → (p.0 ≡ i) × (slice_get xs i ≡ Some p.1)
enumerated xs i p at = let e = enumerate-at 0 xs i p at in (e.0 ∙ omega arith, e.1)

queue-ordered : (limits : Limits) (posts : Posts) (origin queue : ℕ) (q : Queue) → IsSoundPosts limits posts → slice_get posts.queues queue ≡ Some q
    → IsOrdered Transfer is_earlier (queue_transfers origin limits (queue, q))
queue-ordered limits posts origin queue q sound hq = go (is_none q.broken) refl
  where
    lanes : IsOrdered Transfer is_earlier (flat_map (lane_transfers origin queue limits) (enumerate_from 0 q.lanes))
    lanes = flat-ordered is_earlier (lane_transfers origin queue limits) (enumerate_from 0 q.lanes)
        (λ i p at. let e = enumerated q.lanes i p at in lane-ordered limits origin queue p.0 posts.next p.1 (sound.rising queue q hq i p.1 e.1))
        (λ i j x y m n a b less hx hy ha hb.
        let ex = enumerated q.lanes i x hx in
        let ey = enumerated q.lanes j y hy in
        let of = lane-of limits origin queue x.0 x.1 m a ha in
        let of' = lane-of limits origin queue y.0 y.1 n b hb in
        by-target a b origin queue x.0 y.0 of.0 of'.0 of.1 of'.1 (let p = ex.0 in let p' = ey.0 in omega arith))

    go : (b : Bool) → is_none q.broken ≡ b → IsOrdered Transfer is_earlier (queue_transfers origin limits (queue, q))
    go true whole = rw whole lanes
    go false broken = rw broken (λ j k a b less hj hk. absurd (let no : ⊥ = cc in no))

rank-of : (limits : Limits) (origin : ℕ) (posts : Posts) (j : ℕ) (t : Transfer) → slice_get (rank_transfers limits (origin, posts)) j ≡ Some t
    → (queue target number : ℕ) × IsOf t origin queue target number
rank-of limits origin posts j t at =
    let p = flat_map-parts (queue_transfers origin limits) (enumerate_from 0 posts.queues) j t at in
    let of = queue-of limits origin p.1.0 p.1.1 p.2 t p.4 in
    (p.1.0, of.0, of.1, of.2)

rank-ordered : (limits : Limits) (origin : ℕ) (posts : Posts) → IsSoundPosts limits posts → IsOrdered Transfer is_earlier (rank_transfers limits (origin, posts))
rank-ordered limits origin posts sound =
    flat-ordered is_earlier (queue_transfers origin limits) (enumerate_from 0 posts.queues)
    (λ i p at. let e = enumerated posts.queues i p at in
    queue-ordered limits posts origin p.0 p.1 sound (subst (λ (n : ℕ). slice_get posts.queues n ≡ Some p.1) (sym e.0) e.1))
    (λ i j x y m n a b less hx hy ha hb.
    let ex = enumerated posts.queues i x hx in
    let ey = enumerated posts.queues j y hy in
    let of = queue-of limits origin x.0 x.1 m a ha in
    let of' = queue-of limits origin y.0 y.1 n b hb in
    by-queue a b origin x.0 y.0 of.0 of'.0 of.1 of'.1 of.2 of'.2 (let p = ex.0 in let p' = ey.0 in omega arith))

pub listed-ordered : (s : State) → IsSound s → IsOrdered Transfer is_earlier (transfers s.limits s.posts)
listed-ordered s sound =
    flat-ordered is_earlier (rank_transfers s.limits) (enumerate_from 0 s.posts)
    (λ i p at. let e = enumerated s.posts i p at in rank-ordered s.limits p.0 p.1 (sound.posts i p.1 e.1))
    (λ i j x y m n a b less hx hy ha hb.
    let ex = enumerated s.posts i x hx in
    let ey = enumerated s.posts j y hy in
    let of = rank-of s.limits x.0 x.1 m a ha in
    let of' = rank-of s.limits y.0 y.1 n b hb in
    by-origin a b x.0 y.0 of.0 of'.0 of.1 of'.1 of.2 of'.2 of.3 of'.3 (let p = ex.0 in let p' = ey.0 in omega arith))
