-- The text of an object whose texts are plain, from its front to its end.
use Rattle.std.proofs.Common.{◌≡◌, ℕ, List, [], ◌∷◌, ◌++◌, Bool, true, false, codes, refl, sym, ap, ◌∙◌, append_assoc, append-nil}
use Rattle.json.specs.Print.{escape_byte, quoted}
use Rattle.serde_json.specs.Data.{Data, null, boolean, number, string, array, object, Members, no_members, member}
use Rattle.serde_json.specs.Written.{comma_if, compact_text, members_text}
use Rattle.journal_pictures.specs.JsonLines.{IsPlain, line, line_front}

-- the texts of these members are plain, and so are those of objects in them
abbrev pub ArePlain : Members → Type 0
ArePlain no_members = Unit {0}
ArePlain (member k (string s) ms) = IsPlain s × ArePlain ms
ArePlain (member k (object inner) ms) = ArePlain inner × ArePlain ms
ArePlain (member k d ms) = ArePlain ms

-- the text of members with what stands behind them
abbrev pub members_onto : Bool → Members → List ℕ → List ℕ
members_onto later no_members rest = 125 ∷ rest
members_onto later (member k (string s) ms) rest = comma_if later ++ (quoted k ++ 58 ∷ 34 ∷ (s ++ 34 ∷ members_onto true ms rest))
members_onto later (member k (object inner) ms) rest = comma_if later ++ (quoted k ++ 58 ∷ 123 ∷ members_onto false inner (members_onto true ms rest))
members_onto later (member k d ms) rest = comma_if later ++ (quoted k ++ 58 ∷ (compact_text d ++ members_onto true ms rest))

-- a member, and what stands behind it
behind-member : (comma key text more rest onto : List ℕ) → text ++ (more ++ rest) ≡ onto → (comma ++ (key ++ 58 ∷ (text ++ more))) ++ rest ≡ comma ++ (key ++ 58 ∷ onto)
behind-member comma key text more rest onto is =
    append_assoc comma (key ++ 58 ∷ (text ++ more)) rest
    ∙ ap (λ (t : List ℕ). comma ++ t) (append_assoc key (58 ∷ (text ++ more)) rest)
    ∙ ap (λ (t : List ℕ). comma ++ (key ++ 58 ∷ t)) (append_assoc text more rest ∙ is)

-- a plain text between quotes
behind-text : (s rest : List ℕ) → IsPlain s → quoted s ++ rest ≡ 34 ∷ (s ++ 34 ∷ rest)
behind-text s rest plain = ap (λ (t : List ℕ). 34 ∷ ((t ++ 34 ∷ []) ++ rest)) plain ∙ ap (λ (t : List ℕ). 34 ∷ t) (append_assoc s (34 ∷ []) rest)

other : (later : Bool) (k : List ℕ) (d : Data) (ms : Members) (rest : List ℕ) → members_text true ms ++ rest ≡ members_onto true ms rest
    → members_text later (member k d ms) ++ rest ≡ comma_if later ++ (quoted k ++ 58 ∷ (compact_text d ++ members_onto true ms rest))
other later k d ms rest more = behind-member (comma_if later) (quoted k) (compact_text d) (members_text true ms) rest _ (ap (λ (t : List ℕ). compact_text d ++ t) more)

pub members-onto : (later : Bool) (ms : Members) (rest : List ℕ) → ArePlain ms → members_text later ms ++ rest ≡ members_onto later ms rest
members-onto later no_members rest plain = refl
members-onto later (member k (string s) ms) rest plain =
    behind-member (comma_if later) (quoted k) (quoted s) (members_text true ms) rest _ (ap (λ (t : List ℕ). quoted s ++ t) (members-onto true ms rest plain.1) ∙ behind-text s (members_onto true ms rest) plain.0)
members-onto later (member k (object inner) ms) rest plain =
    behind-member (comma_if later) (quoted k) (123 ∷ members_text false inner) (members_text true ms) rest _
    (ap (λ (t : List ℕ). 123 ∷ (members_text false inner ++ t)) (members-onto true ms rest plain.1) ∙ ap (λ (t : List ℕ). 123 ∷ t) (members-onto false inner (members_onto true ms rest) plain.0))
members-onto later (member k null ms) rest plain = other later k null ms rest (members-onto true ms rest plain)
members-onto later (member k (boolean b) ms) rest plain = other later k (boolean b) ms rest (members-onto true ms rest plain)
members-onto later (member k (number n) ms) rest plain = other later k (number n) ms rest (members-onto true ms rest plain)
members-onto later (member k (array ds) ms) rest plain = other later k (array ds) ms rest (members-onto true ms rest plain)

pub object-text : (ms : Members) → ArePlain ms → 123 ∷ members_onto false ms [] ≡ compact_text (object ms)
object-text ms plain = ap (λ (t : List ℕ). 123 ∷ t) (sym (members-onto false ms [] plain) ∙ append-nil (members_text false ms))

-- a line that ends behind its arguments
pub end-line : (arguments more : Members) (before old new : List ℕ) → ArePlain more → old ≡ before ++ line_front arguments → new ≡ old ++ members_onto true more []
    → new ≡ before ++ line (object (member (codes "args") (object arguments) more))
unfolding escape_byte
end-line arguments more before old new plain front added =
    added ∙ ap (λ (t : List ℕ). t ++ members_onto true more []) front
    ∙ append_assoc before (line_front arguments) (members_onto true more [])
    ∙ ap (λ (t : List ℕ). before ++ (line_front arguments ++ t)) (sym (members-onto true more [] plain) ∙ append-nil (members_text true more))
