-- Texts that are written behind the first bytes of a row.
use Rattle.std.proofs.Common.{◌≡◌, ℕ, ◌+◌, ◌/◌, ◌%◌, ◌<◌, ◌≤◌, ◌^◌, [], ◌∷◌, ◌++◌, refl, sym, ap, ◌∙◌, subst, suc, append_assoc, arith, lit<, length, length-append, length-take-le, take, take-take, codes, decimal}
use Rattle.std.proofs.Math.Seq.{take-append_seam}
use Rattle.std.proofs.lemmas.Fmt.{decimal_digit, decimal_step, length-decimal-le}
use Rattle.quantity.specs.Bytes.{Bytes}
use Rattle.text_forms.specs.Placed.{Placed}

-- one text behind another
pub placed_then : (a b c : Bytes) (at mid end : ℕ) (xs ys : Bytes) → Placed a b at xs mid → Placed b c mid ys end → Placed a c at (xs ++ ys) end
placed_then a b c at mid end xs ys p q =
    let n = length-append xs ys in
    record {
      bytes = q.bytes ∙ ap (λ (x : Bytes). x ++ ys) p.bytes ∙ append_assoc (take at a) xs ys;
      moved = omega (arith, p.moved, q.moved, n);
      len = q.len ∙ p.len;
    }

-- the same text by another name
pub placed_as : (a b : Bytes) (at end : ℕ) (xs ys : Bytes) → xs ≡ ys → Placed a b at xs end → Placed a b at ys end
placed_as a b at end xs ys e p = subst (λ (x : Bytes). Placed a b at x end) e p

-- the first bytes stay
pub placed_keeps : (a b : Bytes) (at end : ℕ) (xs : Bytes) → at ≤ length a → Placed a b at xs end → take at b ≡ take at a
placed_keeps a b at end xs within p =
    let n : length (take at a) ≡ at = length-take-le at a within in
    let far : at ≤ end = omega (arith, p.moved) in
    sym (take-take at end b far) ∙ ap (take at) p.bytes ∙ ap (λ (k : ℕ). take k (take at a ++ xs)) (sym n) ∙ take-append_seam (take at a) xs

take_behind : (ys xs : Bytes) (k n : ℕ) → k ≡ length ys + n → take k (ys ++ xs) ≡ ys ++ take n xs
take_behind [] xs k n e =
    let is : k ≡ n = omega (arith, e) in
    ap (λ (i : ℕ). take i xs) is
take_behind (y ∷ ys) xs k n e =
    let is : k ≡ suc (length ys + n) = omega (arith, e) in
    ap (λ (i : ℕ). take i (y ∷ (ys ++ xs))) is ∙ ap (λ (zs : Bytes). y ∷ zs) (take_behind ys xs (length ys + n) n refl)

-- the first bytes of a text
pub placed_part : (a b : Bytes) (at end n : ℕ) (xs : Bytes) → at ≤ length a → n ≤ length xs → Placed a b at xs end → Placed a b at (take n xs) (at + n)
placed_part a b at end n xs within short p =
    let long : length (take at a) ≡ at = length-take-le at a within in
    let part : length (take n xs) ≡ n = length-take-le n xs short in
    let far : at + n ≤ end = omega (arith, p.moved, short) in
    record {
      bytes = sym (take-take (at + n) end b far) ∙ ap (take (at + n)) p.bytes
          ∙ take_behind (take at a) xs (at + n) n (omega (arith, long));
      moved = omega (arith, part);
      len = p.len;
    }

-- ---- numbers of at most three digits

pub two_digits : (n : ℕ) → 10 ≤ n → n < 100 → (48 + n / 10) ∷ (48 + n % 10) ∷ [] ≡ decimal n
two_digits n some few =
    let tens : n / 10 < 10 = omega arith in
    let wide : n < 2 ^ 64 = omega arith in
    ap (λ (x : Bytes). x ++ (48 + n % 10) ∷ []) (sym (decimal_digit (n / 10) tens)) ∙ sym (decimal_step n some wide)

pub three_digits : (n : ℕ) → 100 ≤ n → n < 1000 → decimal (n / 10) ++ (48 + n % 10) ∷ [] ≡ decimal n
three_digits n some few =
    let more : 10 ≤ n = omega arith in
    let wide : n < 2 ^ 64 = omega arith in
    sym (decimal_step n more wide)

pub two_at_most : (n : ℕ) → n < 100 → length (decimal n) ≤ 2
two_at_most n few = length-decimal-le 2 n (lit< tt) (omega arith) (omega arith)

pub three_at_most : (n : ℕ) → n < 1000 → length (decimal n) ≤ 3
three_at_most n few = length-decimal-le 3 n (lit< tt) (omega arith) (omega arith)

-- ---- coordinates

pub place_joined : (row column : Bytes) → ((row ++ 44 ∷ []) ++ column) ++ codes ") / " ≡ row ++ 44 ∷ (column ++ codes ") / ")
place_joined row column = simp append_assoc
