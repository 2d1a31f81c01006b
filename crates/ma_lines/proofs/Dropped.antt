-- Comments and carriage returns are dropped.
use Rattle.std.proofs.Common.{◌≡◌, ℕ, suc, ◌+◌, Bool, true, false, cond, [], ◌∷◌, ◌++◌, refl, ap, ◌∙◌, arith}
use Rattle.std.specs.Prelude.{not, take, reverse, ◌||◌}
use Rattle.std.specs.List.{list_any, position_or_len}
use Rattle.std.proofs.lemmas.List.{reverse-append, reverse-reverse}
use Rattle.quantity.specs.Bytes.{Bytes, is_byte}
use Rattle.source_text.specs.Lines.{without_first}
use Rattle.ma_lines.specs.Sections.{sections_of, unless_refused, lines_refused}
use Rattle.ma_lines.specs.Laws.{StandsOnLines, DropsReturns, DropsComments}

pub stands_on_lines : StandsOnLines
unfolding sections_of
stands_on_lines a b e = ap (λ ls. unless_refused (lines_refused ls) ls) e

pub drops_returns : DropsReturns
drops_returns line =
    ap (λ xs. reverse (without_first 13 xs)) (reverse-append line (13 ∷ [])) ∙ reverse-reverse line

both_false : (a b : Bool) → (a || b) ≡ false → (a ≡ false) × (b ≡ false)
both_false true b e = cc
both_false false b e = (refl, e)

pub one_more : (c : ℕ) (xs : Bytes) (k : ℕ) → take (1 + k) (c ∷ xs) ≡ c ∷ take k xs
one_more c xs k = ap (λ n. take n (c ∷ xs)) (let same : 1 + k ≡ suc k = omega arith in same)

pub drops_comments : DropsComments
drops_comments [] more h = refl
drops_comments (c ∷ cs) more h =
    let p = both_false (is_byte 37 c) (list_any (is_byte 37) cs) h in
    ap (λ b. take (cond (not b) (1 + position_or_len (is_byte 37) (cs ++ 37 ∷ more)) 0) (c ∷ cs ++ 37 ∷ more)) p.0
    ∙ one_more c (cs ++ 37 ∷ more) (position_or_len (is_byte 37) (cs ++ 37 ∷ more)) ∙ ap (λ xs. c ∷ xs) (drops_comments cs more p.1)
