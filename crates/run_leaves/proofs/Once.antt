-- Names of which none stands twice, in one list behind another.
use Rattle.std.proofs.Common.{◌≡◌, Bool, true, false, List, [], ◌∷◌, ◌++◌, refl, sym, ◌∙◌, subst}
use Rattle.std.specs.Prelude.{◌||◌}
use Rattle.std.specs.Str.{bytes_eq}
use Rattle.std.proofs.lemmas.Bool.{false≢true, true≢false, or_left, or_right, or_parts, or_from}
use Rattle.std.proofs.lemmas.Slice.Eq.{bytes_eq-Decides}
use Rattle.quantity.specs.Bytes.{is_among, has_repeat}
use Rattle.model_tree.specs.Tree.{Word}

-- one of two tests holds
pub one-holds : (P : Type 0) (a b : Bool) → (a || b) ≡ true → (a ≡ true → P) → (b ≡ true → P) → P
one-holds P true b e left right = left refl
one-holds P false b e left right = right e

pub same-word : (t u : Word) → bytes_eq t u ≡ true → t ≡ u
same-word t u e = (bytes_eq-Decides t u).0 e

pub word-is-itself : (t : Word) → bytes_eq t t ≡ true
word-is-itself t = (bytes_eq-Decides t t).1 refl

pub among-left : (xs ys : List Word) (t : Word) → is_among xs t ≡ true → is_among (xs ++ ys) t ≡ true
among-left [] ys t e = absurd (false≢true e)
among-left (x ∷ xs) ys t e =
    one-holds (is_among (x ∷ (xs ++ ys)) t ≡ true) (bytes_eq t x) (is_among xs t) e (λ h. or_left (bytes_eq t x) (is_among (xs ++ ys) t) h)
    (λ h. or_right (bytes_eq t x) (is_among (xs ++ ys) t) (among-left xs ys t h))

pub among-right : (xs ys : List Word) (t : Word) → is_among ys t ≡ true → is_among (xs ++ ys) t ≡ true
among-right [] ys t e = e
among-right (x ∷ xs) ys t e = or_right (bytes_eq t x) (is_among (xs ++ ys) t) (among-right xs ys t e)

not-true : (b : Bool) → (b ≡ true → ⊥) → b ≡ false
not-true true h = absurd (h refl)
not-true false h = refl

pub once-left : (xs ys : List Word) → has_repeat (xs ++ ys) ≡ false → has_repeat xs ≡ false
once-left [] ys e = refl
once-left (x ∷ xs) ys e =
    let parts = or_parts (is_among (xs ++ ys) x) (has_repeat (xs ++ ys)) e in
    or_from (is_among xs x) (has_repeat xs) (not-true (is_among xs x) (λ h. true≢false (sym (among-left xs ys x h) ∙ parts.0))) (once-left xs ys parts.1)

pub once-right : (xs ys : List Word) → has_repeat (xs ++ ys) ≡ false → has_repeat ys ≡ false
once-right [] ys e = e
once-right (x ∷ xs) ys e = once-right xs ys (or_parts (is_among (xs ++ ys) x) (has_repeat (xs ++ ys)) e).1

-- no name stands in both
pub stand-apart : (xs ys : List Word) (t : Word) → has_repeat (xs ++ ys) ≡ false → is_among xs t ≡ true → is_among ys t ≡ true → ⊥
stand-apart [] ys t e left right = false≢true left
stand-apart (x ∷ xs) ys t e left right =
    let parts = or_parts (is_among (xs ++ ys) x) (has_repeat (xs ++ ys)) e in
    one-holds ⊥ (bytes_eq t x) (is_among xs t) left
    (λ h. true≢false (sym (subst (λ (u : Word). is_among (xs ++ ys) u ≡ true) (same-word t x h) (among-right xs ys t right)) ∙ parts.0))
    (λ h. stand-apart xs ys t parts.1 h right)
