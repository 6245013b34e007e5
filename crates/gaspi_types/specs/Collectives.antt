-- Collectives: what ranks contribute to the rounds of a group, when a round is full, and what its reduction is. Most
-- definitions are of one round, by the contribution of each rank to it (`given`), so that they hold for lists of rounds and for
-- two buffers of rounds. (GASPI: collectives)
use Rattle.std.specs.Prelude.{◌≡◌, ℕ, ◌+◌, ◌^◌, ℤ, pos, ◌+ℤ◌, Bool, true, false, not, ◌==◌, ◌&&◌, nat_eq, List, [], ◌∷◌, ◌++◌, length, map, filter, Option, None, Some, is_some, Result, Ok, slice_get}
use Rattle.std.specs.Cmp.Lexicographic.{pointwise}
use Rattle.std.specs.Int.{int_min, int_max, int_wrap, int_rem_euclid, w32, w64}
use Rattle.std.specs.List.{list_all, range_with_len}
use Rattle.gaspi_types.specs.Checks.{◌>>=◌, check}
use Rattle.gaspi_types.specs.Masks.{is_member}
use Rattle.gaspi_types.specs.NumberTypes.{TypedNumbers}
use Rattle.gaspi_types.specs.Ranges.{is_between}
use Rattle.gaspi_types.specs.Replies.{coll_fields, same_numbers}
use Rattle.gaspi_types.specs.Tables.{changed_at}
use Rattle.gaspi_types.specs.declared.collectives.Coll.{Coll}
use Rattle.gaspi_types.specs.declared.collectives.Coll.TheVariants.{Barrier, Allreduce, Create, Commit}
use Rattle.gaspi_types.specs.declared.collectives.NumType.{NumType}
use Rattle.gaspi_types.specs.declared.collectives.NumType.TheVariants.{Int, Uint, Long, Ulong, Float, Double}
use Rattle.gaspi_types.specs.declared.collectives.Op.{Op}
use Rattle.gaspi_types.specs.declared.collectives.Op.TheVariants.{Min, Max, Sum}
use Rattle.gaspi_types.specs.declared.groups.Args.{Args}
use Rattle.gaspi_types.specs.declared.groups.Contribution.{Contribution}
use Rattle.gaspi_types.specs.declared.groups.Group.{Group}
use Rattle.gaspi_types.specs.declared.groups.MemberSegment.{MemberSegment}
use Rattle.gaspi_types.specs.declared.groups.RankContributions.{RankContributions}
use Rattle.gaspi_types.specs.declared.groups.PendingCollective.{PendingCollective}
use Rattle.gaspi_types.specs.declared.groups.Resume.{Resume}
use Rattle.gaspi_types.specs.declared.groups.Resume.TheVariants.{Fresh, Same}
use Rattle.gaspi_types.specs.declared.replies.Refusal.{Refusal}
use Rattle.gaspi_types.specs.declared.replies.Refusal.TheVariants.{ActiveCollective, ResumeOther, CollectiveMismatch, BadCount, FloatType}

-- Numbers reduced. (GASPI: allreduce)

-- a number wrapped in the bits of a type; that of FLOAT and DOUBLE is as of LONG
abbrev pub wrapped : NumType → ℤ → ℤ
wrapped Int z = int_wrap w32 z
wrapped Uint z = int_rem_euclid z (pos (2 ^ 32))
wrapped Long z = int_wrap w64 z
wrapped Ulong z = int_rem_euclid z (pos (2 ^ 64))
wrapped Float z = int_wrap w64 z
wrapped Double z = int_wrap w64 z

-- the lesser, the greater, or the sum, which wraps
abbrev pub reduced : Op → NumType → ℤ → ℤ → ℤ
reduced Min t a b = int_min a b
reduced Max t a b = int_max a b
reduced Sum t a b = wrapped t (a +ℤ b)

-- the same of two lists, item by item
abbrev pub combined : Op → NumType → List ℤ → List ℤ → List ℤ
combined op t (a ∷ total) (b ∷ values) = reduced op t a b ∷ combined op t total values
combined op t total values = []

-- own choice: how many elements an allreduce may have
abbrev pub is_element_count : ℕ → Bool
is_element_count count = is_between 1 255 count

-- whether a type is FLOAT or DOUBLE, which no allreduce may have
abbrev pub is_float : NumType → Bool
is_float Int = false
is_float Uint = false
is_float Long = false
is_float Ulong = false
is_float Float = true
is_float Double = true

-- what an allreduce is refused for, whatever its group: how many elements it has
abbrev pub count_checks : ℕ → Result (Unit {0}) Refusal
count_checks count = check (is_element_count count) BadCount

-- and their type
abbrev pub type_checks : NumType → Result (Unit {0}) Refusal
type_checks t = check (not (is_float t)) FloatType

-- the values of a collective that is no allreduce
abbrev pub no_values : TypedNumbers
no_values = record { num_type = Int; items = [] }

-- the values of a collective: those of an allreduce are of its type, and as many as it says; any other has none
abbrev pub AreValuesOf : Coll → TypedNumbers → Type 0
AreValuesOf (Allreduce op num_type count) values = (values.num_type ≡ num_type) × (length values.items ≡ count)
AreValuesOf Barrier values = values ≡ no_values
AreValuesOf (Create segment size) values = values ≡ no_values
AreValuesOf (Commit mask) values = values ≡ no_values

-- the values of arguments are those of their collective
abbrev pub HaveOwnValues : Args → Type 0
HaveOwnValues args = AreValuesOf args.coll args.values

-- Arguments compared, and a pending collective resumed. (GASPI: timeouts)

-- whether collectives are the same, values aside
abbrev pub same_coll : Coll → Coll → Bool
same_coll a b = pointwise nat_eq (coll_fields a) (coll_fields b)

-- whether arguments are the same, values included
abbrev pub same_args : Args → Args → Bool
same_args a b = same_coll a.coll b.coll && same_numbers a.values b.values

-- whether the arguments of a call, where it has any, are those that are pending (`kept`)
abbrev pub has_same_args : Option Args → Args → Bool
has_same_args None kept = false
has_same_args (Some args) kept = same_args args kept

-- What a look at a collective of a thread finds pending on the group: no collective of the rank; or this very one, which it
-- resumes; or else a refusal, since one of another thread is pending, or one that differs from it in kind, arguments or values.
abbrev pub resume : Option PendingCollective → ℕ → Option Args → Result Resume Refusal
resume None thread args = Ok Fresh
resume (Some p) thread args = do
  mine ← check (p.thread == thread) (ActiveCollective p.thread)
  same ← check (has_same_args args p.args) (ResumeOther p.args.coll)
  Ok Same

-- One round, by the contribution of each rank to it.

-- the ranks of a set, by rising number
abbrev pub members_of : ℕ → List ℕ
members_of mask = filter (is_member mask) (range_with_len 0 16)

-- every member has contributed
abbrev pub is_full : (ℕ → Option Contribution) → List ℕ → Bool
is_full given members = list_all (λ m. is_some (given m)) members

-- the first of two contributions that is there
abbrev pub or_later : Option Contribution → Option Contribution → Option Contribution
or_later None later = later
or_later (Some c) later = Some c

-- the contribution of the first of the members that has contributed
abbrev pub first_contribution : (ℕ → Option Contribution) → List ℕ → Option Contribution
first_contribution given [] = None
first_contribution given (m ∷ members) = or_later (given m) (first_contribution given members)

-- a collective fits a round where the first contribution to it is of that kind and with those arguments, values aside
abbrev pub fits : Option Contribution → Coll → Result (Unit {0}) Refusal
fits None coll = Ok tt
fits (Some c) coll = check (same_coll c.args.coll coll) (CollectiveMismatch c.args.coll)

-- the values of a contribution; none where there is no contribution
abbrev pub values_in : Option Contribution → List ℤ
values_in None = []
values_in (Some c) = c.args.values.items

-- a total, and with it the values of more members, in the order of their ranks (allreduce)
abbrev pub reduced_onto : (ℕ → Option Contribution) → Op → NumType → List ℤ → List ℕ → List ℤ
reduced_onto given op t total [] = total
reduced_onto given op t total (m ∷ members) = reduced_onto given op t (combined op t total (values_in (given m))) members

-- the reduction of all members' values, in the order of their ranks (allreduce)
abbrev pub reduced_values : (ℕ → Option Contribution) → Op → NumType → List ℕ → List ℤ
reduced_values given op t [] = []
reduced_values given op t (m ∷ members) = reduced_onto given op t (values_in (given m)) members

-- the same, with its type
abbrev pub reduction_of : (ℕ → Option Contribution) → Op → NumType → List ℕ → TypedNumbers
reduction_of given op t members = record { num_type = t; items = reduced_values given op t members }

-- the generation of a contribution; 0 where there is no contribution
abbrev pub generation_in : Option Contribution → ℕ
generation_in None = 0
generation_in (Some c) = c.generation

-- in which generation each member has made its segment (segment_create)
abbrev pub made_by : (ℕ → Option Contribution) → List ℕ → List MemberSegment
made_by given members = map (λ m. record { rank = m; generation = generation_in (given m) }) members

-- A group of the whole world: lists of rounds that only grow.

-- a rank that has contributed nothing
abbrev pub no_contributions : RankContributions
no_contributions = record { contributions = []; completed = 0 }

-- the contributions of a rank
abbrev pub contributions_of : Group → ℕ → RankContributions
contributions_of g rank = part_or_none (slice_get g.contributions rank)
  where
    part_or_none : Option RankContributions → RankContributions
    part_or_none None = no_contributions
    part_or_none (Some part) = part

-- the contribution of a rank to a round
abbrev pub contribution_in : Group → ℕ → ℕ → Option Contribution
contribution_in g round rank = slice_get (contributions_of g rank).contributions round

-- the member list; nobody where none is fixed
abbrev pub members_in : Group → List ℕ
members_in g = members_or_none g.members
  where
    members_or_none : Option ℕ → List ℕ
    members_or_none None = []
    members_or_none (Some mask) = members_of mask

-- the round of a rank: the first that it has not completed
abbrev pub round_of : Group → ℕ → ℕ
round_of g rank = (contributions_of g rank).completed

-- whether the round of a rank is full
abbrev pub is_round_full : Group → ℕ → Bool
is_round_full g rank = is_full (contribution_in g (round_of g rank)) (members_in g)

-- whether a collective fits the round of a rank
abbrev pub round_checks : Group → ℕ → Coll → Result (Unit {0}) Refusal
round_checks g rank coll = fits (first_contribution (contribution_in g (round_of g rank)) (members_in g)) coll

-- the reduction of the round of a rank
abbrev pub round_reduction : Group → ℕ → Op → NumType → TypedNumbers
round_reduction g rank op t = reduction_of (contribution_in g (round_of g rank)) op t (members_in g)

-- the segments that the members have made in the round of a rank
abbrev pub round_segments : Group → ℕ → List MemberSegment
round_segments g rank = made_by (contribution_in g (round_of g rank)) (members_in g)

-- own choice: the first group commit fixes the member list
abbrev pub fixed_by : Option ℕ → Coll → Option ℕ
fixed_by (Some mask) coll = Some mask
fixed_by None (Commit mask) = Some mask
fixed_by None coll = None

-- the group after a join: the contribution of the rank follows its others, and a first group commit fixes the member list
abbrev pub with_joined : Group → ℕ → Contribution → Group
with_joined g rank c = record {
  members = fixed_by g.members c.args.coll;
  contributions = changed_at g.contributions rank (λ (p : RankContributions). record p { contributions = p.contributions ++ c ∷ [] });
}

-- the group after a completion: the rank has completed one round more
abbrev pub with_completed : Group → ℕ → Group
with_completed g rank = record g { contributions = changed_at g.contributions rank (λ (p : RankContributions). record p { completed = p.completed + 1 }) }
