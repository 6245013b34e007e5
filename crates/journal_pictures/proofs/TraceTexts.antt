-- The texts of a trace, put together.
use Rattle.std.proofs.Common.{◌≡◌, ℕ, List, [], ◌∷◌, ◌++◌, sym, ap, ◌∙◌, append_assoc, append-nil}
use Rattle.serde_json.specs.Data.{Data}
use Rattle.journal_pictures.specs.JsonLines.{line, lines}
use Rattle.journal_pictures.proofs.Lines.{lines-append}

-- a text behind a text behind a text
pub behind : (t t' t'' a b : List ℕ) → t' ≡ t ++ a → t'' ≡ t' ++ b → t'' ≡ t ++ (a ++ b)
behind t t' t'' a b first second = second ∙ ap (λ (x : List ℕ). x ++ b) first ∙ append_assoc t a b

pub one-line : (t t' : List ℕ) (d : Data) → t' ≡ t ++ line d → t' ≡ t ++ lines (d ∷ [])
one-line t t' d added = added ∙ ap (λ (x : List ℕ). t ++ x) (sym (append-nil (line d)))

pub two-lines : (t t' t'' : List ℕ) (d e : Data) → t' ≡ t ++ line d → t'' ≡ t' ++ line e → t'' ≡ t ++ lines (d ∷ e ∷ [])
two-lines t t' t'' d e first second = behind t t' t'' (line d) (lines (e ∷ [])) first (one-line t' t'' e second)

pub line-and-lists : (t t' t'' t''' : List ℕ) (d : Data) (xs ys : List Data) → t' ≡ t ++ line d → t'' ≡ t' ++ lines xs → t''' ≡ t'' ++ lines ys → t''' ≡ t ++ lines (d ∷ (xs ++ ys))
line-and-lists t t' t'' t''' d xs ys first second third =
    behind t t' t''' (line d) (lines (xs ++ ys)) first (behind t' t'' t''' (lines xs) (lines ys) second third ∙ ap (λ (x : List ℕ). t' ++ x) (sym (lines-append xs ys)))

pub three-lists : (t t' t'' t''' : List ℕ) (xs ys zs : List Data) → t' ≡ t ++ lines xs → t'' ≡ t' ++ lines ys → t''' ≡ t'' ++ lines zs → t''' ≡ t ++ lines (xs ++ (ys ++ zs))
three-lists t t' t'' t''' xs ys zs first second third =
    behind t t' t''' (lines xs) (lines (ys ++ zs)) first (behind t' t'' t''' (lines ys) (lines zs) second third ∙ ap (λ (x : List ℕ). t' ++ x) (sym (lines-append ys zs)))
    ∙ ap (λ (x : List ℕ). t ++ x) (sym (lines-append xs (ys ++ zs)))

-- the head of a trace
pub head-text : (t1 t2 t3 t4 t5 a b : List ℕ) (xs ys zs : List Data) → t1 ≡ a → t2 ≡ t1 ++ b → t3 ≡ t2 ++ lines xs → t4 ≡ t3 ++ lines ys → t5 ≡ t4 ++ lines zs → t5 ≡ a ++ (b ++ lines (xs ++ (ys ++ zs)))
head-text t1 t2 t3 t4 t5 a b xs ys zs begun first second third fourth =
    behind t1 t2 t5 b (lines (xs ++ (ys ++ zs))) first (three-lists t2 t3 t4 t5 xs ys zs second third fourth)
    ∙ ap (λ (x : List ℕ). x ++ (b ++ lines (xs ++ (ys ++ zs)))) begun

-- and its end
pub ended-text : (t t' a b n o z : List ℕ) → t ≡ (a ++ (b ++ n)) ++ o → t' ≡ t ++ z → t' ≡ a ++ (b ++ (n ++ (o ++ z)))
ended-text t t' a b n o z text ended =
    ended ∙ ap (λ (x : List ℕ). x ++ z) text ∙ append_assoc (a ++ (b ++ n)) o z ∙ append_assoc a (b ++ n) (o ++ z)
    ∙ ap (λ (x : List ℕ). a ++ x) (append_assoc b n (o ++ z))
