-- Texts that are appended one after another.
use Rattle.std.proofs.Common.{◌≡◌, ℕ, ◌+◌, List, [], ◌∷◌, ◌++◌, refl, sym, ap, ◌∙◌, arith, length, map, take}
use Rattle.std.specs.List.{range_with_len}
use Rattle.std.proofs.lemmas.List.FromFn.{map-range_with_len_more}
use Rattle.std.proofs.lemmas.List.{length-take, take-take, append_assoc}
use Rattle.quantity.specs.Bytes.{Bytes}
use Rattle.source_text.specs.Lines.{file}

-- what is kept twice is kept
pub kept_on : (a b c : Bytes) → take (length a) b ≡ a → take (length b) c ≡ b → take (length a) c ≡ a
kept_on a b c h k =
    sym (take-take (length a) (length b) c (omega (arith, ap length h, length-take (length a) b))) ∙ ap (take (length a)) k ∙ h

-- one more behind those of the numbers before it
pub one_more : {A : Type 0} (f : ℕ → A) (n : ℕ) → map f (range_with_len 0 (n + 1)) ≡ map f (range_with_len 0 n) ++ f n ∷ []
one_more f n = map-range_with_len_more f 0 n n (omega arith)

pub file_join : (xs ys : List Bytes) → file (xs ++ ys) ≡ file xs ++ file ys
file_join [] ys = refl
file_join (x ∷ xs) ys = ap (λ t. x ++ 10 ∷ t) (file_join xs ys) ∙ sym (append_assoc x (10 ∷ file xs) (file ys))
