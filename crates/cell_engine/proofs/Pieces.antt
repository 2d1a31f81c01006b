-- Values of equal numbers, one cell after another, are read back piece by piece.
use Rattle.std.proofs.Common.{◌≡◌, ℕ, suc, ◌+◌, ◌*◌, List, [], ◌∷◌, ◌++◌, map, length, take, drop, refl, sym, ◌∙◌, ap, arith}
use Rattle.std.specs.List.{All, flat_map, range_with_len}
use Rattle.std.proofs.lemmas.List.{append_assoc, drop_at, take_at, length-append}
use Rattle.std.proofs.Math.Nat.{add-mul}
use Rattle.quantity.specs.declared.value.Value.{Value}
use Rattle.rule_eval.specs.Seen.{piece}

-- of each item there are so many values
abbrev pub AreLong : {A : Type 0} → (A → List Value) → ℕ → List A → Type 0
AreLong {A} f w xs = All (λ (x : A). length (f x) ≡ w) xs

behind : {A : Type 0} (f : A → List Value) (w : ℕ) (x : A) (xs : List A) → AreLong f w (x ∷ xs) → AreLong f w xs
behind f w x xs long j d lt = long (suc j) d (omega (arith, lt))

pub pieces_from : {A : Type 0} (f : A → List Value) (w : ℕ) (xs : List A) (before : List Value) (b : ℕ) → length before ≡ b * w → AreLong f w xs
    → map (piece (before ++ flat_map f xs) w) (range_with_len b (length xs)) ≡ map f xs
pieces_from f w [] before b h long = refl
pieces_from f w (x ∷ xs) before b h long =
    let rest = flat_map f xs in
    let here : length (f x) ≡ w = long 0 x (omega arith) in
    let head : take w (drop (b * w) (before ++ (f x ++ rest))) ≡ f x = ap (take w) (drop_at before (f x ++ rest) (b * w) h) ∙ take_at (f x) rest w here in
    let joined : before ++ (f x ++ rest) ≡ before ++ f x ++ rest = sym (append_assoc before (f x) rest) in
    let next : length (before ++ f x) ≡ (b + 1) * w = omega (arith, length-append before (f x), h, here, add-mul b 1 w) in
    let tail = ap (λ vs. map (piece vs w) (range_with_len (b + 1) (length xs))) joined ∙ pieces_from f w xs (before ++ f x) (b + 1) next (behind f w x xs long) in
    λ i. head i ∷ tail i

pub pieces_long : {A : Type 0} (f : A → List Value) (w : ℕ) (xs : List A) → AreLong f w xs → length (flat_map f xs) ≡ length xs * w
pieces_long f w [] long = omega arith
pieces_long f w (x ∷ xs) long =
    let here : length (f x) ≡ w = long 0 x (omega arith) in
    let rest = pieces_long f w xs (behind f w x xs long) in
    omega (arith, length-append (f x) (flat_map f xs), here, rest, add-mul (length xs) 1 w)
