-- What a commit table asks of the machine whose events its threads commit.
use Rattle.std.specs.Prelude.{◌≡◌, ℕ, ◌^◌, ◌<◌, ◌≤◌, Bool, true, false, cond, eqb, List, [], ◌∷◌, ◌++◌, length, Option, None, Some}
use Rattle.std.specs.List.{list_any}

-- A machine whose state lies in shards. X is what a shard's value is, E an event; a history is a list of events
pub record Machine (X E : Type 0) : Type 1 where
  -- how many shards there are, with numbers from 0
  pub shards : ℕ
  -- the histories that the machine may have
  pub Legal : List E → Type 0
  -- a value of a shard stands for a history there
  pub Stands : ℕ → X → List E → Type 0
  -- two histories agree on a shard
  pub Agree : ℕ → List E → List E → Type 0
  -- the shards that an event acts on, after a history
  pub shards_of : List E → E → List ℕ
  -- the shard that an event belongs to
  pub owner : E → ℕ
  -- the number of the one pass that may commit an event, or none where every pass may
  pub party : E → Option ℕ

-- what every machine keeps
pub record Laws {X E : Type 0} (m : Machine X E) : Type 0 where
  pub bounded : (h : List E) → m.Legal h → length h < 2 ^ 64
  pub opening : m.Legal []
  pub beginning : (h rest : List E) → m.Legal (h ++ rest) → m.Legal h
  -- agreement on a shard is an equivalence, and what stands for a history stands for each that agrees with it
  pub agree_self : (i : ℕ) (h : List E) → m.Agree i h h
  pub agree_back : (i : ℕ) (h k : List E) → m.Agree i h k → m.Agree i k h
  pub agree_through : (i : ℕ) (h k l : List E) → m.Agree i h k → m.Agree i k l → m.Agree i h l
  pub stands : (i : ℕ) (x : X) (h k : List E) → m.Stands i x h → m.Agree i h k → m.Stands i x k
  -- an event leaves every shard as it is but its own
  pub frame : (h : List E) (e : E) (i : ℕ) → m.Legal (h ++ e ∷ []) → list_any (eqb i) (m.shards_of h e) ≡ false → m.Agree i h (h ++ e ∷ [])
  -- whether an event may follow depends on its shards alone
  pub follows : (h k : List E) (e : E) → m.Legal (h ++ e ∷ []) → m.Legal k → length h ≤ length k
      → ((i : ℕ) → list_any (eqb i) (m.shards_of h e) ≡ true → m.Agree i h k) → m.Legal (k ++ e ∷ [])
  -- an event's owner is among its shards, and which these are depends on the owner's shard alone
  pub owned : (h : List E) (e : E) → m.Legal h → list_any (eqb (m.owner e)) (m.shards_of h e) ≡ true
  pub same_shards : (h k : List E) (e : E) → m.Legal h → m.Legal k → m.Agree (m.owner e) h k → m.shards_of h e ≡ m.shards_of k e

-- whether an event is the party's
abbrev pub is_party : ℕ → Option ℕ → Bool
is_party p None = false
is_party p (Some q) = eqb p q

-- the events of a party in a history, in order
abbrev pub events_by : {E : Type 0} → (E → Option ℕ) → ℕ → List E → List E
events_by party p [] = []
events_by party p (e ∷ es) = cond (is_party p (party e)) (e ∷ events_by party p es) (events_by party p es)

-- the events of a pass's party are the pass's own; a pass that has none says nothing
abbrev pub IsOwn : {X E : Type 0} → Machine X E → Option ℕ → List E → List E → Type 0
IsOwn m party seen mine = (p : ℕ) → party ≡ Some p → events_by m.party p seen ≡ mine
