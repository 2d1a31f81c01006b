-- Lists in pieces of one width.
use Rattle.std.proofs.Common.{◌≡◌, ℕ, ◌+◌, ◌*◌, ◌<◌, ◌≤◌, Bool, cond, List, [], ◌∷◌, ◌++◌, length, take, suc, zero, add-zero, add-one, mul-one, refl, subst, count_by, get_or, drop, map, sym, ap, ◌∙◌, arith, inl, inr}
use Rattle.std.specs.Prelude.{slice_get, ℤ}
use Rattle.std.specs.Option.{unwrap_or}
use Rattle.std.specs.List.{range_with_len}
use Rattle.std.proofs.lemmas.List.{take_more, take_all, get_or-take, get_or-drop, get_or_past, length-take, map-append}
use Rattle.std.proofs.lemmas.List.Sums.{sum_by-append}
use Rattle.std.proofs.lemmas.List.FromFn.{get_or-map-range_with_len, length-map-range_with_len, map-range_with_len_more}
use Rattle.std.proofs.lemmas.Bool.{cases_lt}
use Rattle.std.proofs.Math.Nat.{mul-le-mul_right}
use Rattle.std.proofs.lemmas.Option.{unwrap_or-slice_get}
use Rattle.quantity.specs.declared.value.Value.{Value}
use Rattle.quantity.specs.declared.value.Value.TheVariants.{Undefined, Num}
use Rattle.quantity.specs.Arithmetic.{same_value}
use Rattle.rule_tree.specs.Meaning.{value_at, how_many, whole, state_count}
use Rattle.rule_eval.specs.Seen.{piece}

-- so many pieces of one width
abbrev pub pieces_of : List Value → ℕ → ℕ → List (List Value)
pieces_of values width pieces = map (piece values width) (range_with_len 0 pieces)

-- the first value of each
abbrev pub firsts_of : List Value → ℕ → ℕ → List Value
firsts_of values width pieces = map (λ vs. value_at vs 0) (pieces_of values width pieces)

-- the value at a place of a piece
abbrev pub in_piece : List Value → ℕ → ℕ → ℕ → ℕ → Value
in_piece values width pieces k p =
    value_at (unwrap_or (slice_get (pieces_of values width pieces) k) []) p

piece_of : (values : List Value) (width pieces k : ℕ) → k < pieces
    → unwrap_or (slice_get (pieces_of values width pieces) k) [] ≡ piece values width k
piece_of values width pieces k h =
    unwrap_or-slice_get (pieces_of values width pieces) k []
    ∙ get_or-map-range_with_len (piece values width) 0 pieces k k [] h (omega arith)

no_piece : (values : List Value) (width pieces k : ℕ) → pieces ≤ k
    → unwrap_or (slice_get (pieces_of values width pieces) k) [] ≡ []
no_piece values width pieces k h =
    let many = length-map-range_with_len (piece values width) 0 pieces in
    unwrap_or-slice_get (pieces_of values width pieces) k []
    ∙ get_or_past (pieces_of values width pieces) k [] (omega (arith, many))

value_at-get : (values : List Value) (k : ℕ) → value_at values k ≡ get_or values k Undefined
value_at-get values k = unwrap_or-slice_get values k Undefined

in_whole_piece : (values : List Value) (width k p : ℕ) → p < width
    → value_at (piece values width k) p ≡ value_at values (k * width + p)
in_whole_piece values width k p h =
    value_at-get (piece values width k) p
    ∙ get_or-take width (drop (k * width) values) p Undefined h
    ∙ get_or-drop (k * width) values p Undefined
    ∙ sym (value_at-get values (k * width + p))

-- a place within the width
pub in_piece_within : (values : List Value) (width pieces k p : ℕ) → p < width
    → length values ≡ pieces * width
    → value_at values (k * width + p) ≡ in_piece values width pieces k p
in_piece_within values width pieces k p h whole =
    elim (cases_lt k pieces) [
      | inl below ↦
          let here = piece_of values width pieces k below in
          sym (ap (λ (vs : List Value). value_at vs p) here ∙ in_whole_piece values width k p h)
      | inr above ↦
          let most = mul-le-mul_right width above in
          let none = no_piece values width pieces k above in
          value_at-get values (k * width + p)
          ∙ get_or_past values (k * width + p) Undefined (omega (arith, most, whole))
          ∙ sym (ap (λ (vs : List Value). value_at vs p) none)
    ]

-- a place where pieces have one value
pub in_single_piece : (values : List Value) (width pieces k p : ℕ) → width ≡ 1 → p ≡ 0
    → length values ≡ pieces * width → value_at values k ≡ in_piece values width pieces k p
in_single_piece values width pieces k p one first whole =
    let here : k * width + p ≡ k =
    ap (λ w. k * w + p) one ∙ ap (λ q. k * 1 + q) first ∙ add-zero (k * 1) ∙ mul-one k in
    ap (value_at values) (sym here) ∙ in_piece_within values width pieces k p (omega arith) whole

-- a place past the width
pub in_piece_past : (values : List Value) (width pieces k p : ℕ) → width ≤ p
    → Undefined ≡ in_piece values width pieces k p
in_piece_past values width pieces k p h =
    elim (cases_lt k pieces) [
      | inl below ↦
          let here = piece_of values width pieces k below in
          let short = length-take width (drop (k * width) values) in
          sym (ap (λ (vs : List Value). value_at vs p) here
          ∙ value_at-get (piece values width k) p
          ∙ get_or_past (piece values width k) p Undefined (omega (arith, short)))
      | inr above ↦
          sym (ap (λ (vs : List Value). value_at vs p) (no_piece values width pieces k above))
    ]

-- the first of one more piece is counted too
pub first_more : (values : List Value) (width k : ℕ) → 0 < width
    → firsts_of values width (k + 1)
    ≡ firsts_of values width k ++ value_at values (k * width) ∷ []
first_more values width k h =
    let first : List Value → Value = λ vs. value_at vs 0 in
    let here = in_whole_piece values width k 0 h ∙ ap (value_at values) (add-zero (k * width)) in
    ap (map first) (map-range_with_len_more (piece values width) 0 k k (omega arith))
    ∙ map-append first (pieces_of values width k) (piece values width k ∷ [])
    ∙ ap (λ (v : Value). firsts_of values width k ++ v ∷ []) here

-- one more value is counted where it passes the test
pub counted_more : (p : Value → Bool) (vs : List Value) (v : Value)
    → count_by p (vs ++ v ∷ []) ≡ count_by p vs + cond (p v) 1 0
counted_more p vs v = omega (arith, sum_by-append (λ x. cond (p x) 1 0) vs (v ∷ []))

-- the neighbours that give a value are counted one by one
pub counts_here : (wanted : Value) (values : List Value) (width k count : ℕ) (b : Bool)
    → 0 < width → count ≡ how_many wanted (firsts_of values width k)
    → b ≡ same_value wanted (value_at values (k * width))
    → count + cond b 1 0 ≡ how_many wanted (firsts_of values width (k + 1))
counts_here wanted values width k count b h so_far is =
    let before = firsts_of values width k in
    let more = counted_more (same_value wanted) before (value_at values (k * width)) in
    ap (λ n. n + cond b 1 0) so_far ∙ ap (λ t. how_many wanted before + cond t 1 0) is
    ∙ sym (ap (how_many wanted) (first_more values width k h) ∙ more)

-- a number's count
pub counted_number : (v : Value) (x : ℤ) (vs : List Value) → v ≡ Num x
    → state_count v vs ≡ whole (how_many v vs)
counted_number v x vs is =
    ap (λ (w : Value). state_count w vs) is
    ∙ ap (λ (w : Value). whole (how_many w vs)) (sym is)

firsts_taken : (values : List Value) (k : ℕ) → k ≤ length values
    → firsts_of values 1 k ≡ take k values
firsts_taken values zero h = refl
firsts_taken values (suc k) h =
    let P : ℕ → Type 0 = λ n. firsts_of values 1 n ≡ take n values in
    let here = ap (value_at values) (mul-one k) ∙ value_at-get values k in
    subst P (add-one k)
    (first_more values 1 k (omega arith)
    ∙ ap (λ (vs : List Value). vs ++ value_at values (k * 1) ∷ [])
    (firsts_taken values k (omega arith))
    ∙ ap (λ (v : Value). take k values ++ v ∷ []) here
    ∙ sym (take_more values k Undefined (omega arith)))

-- the firsts of pieces of one value are all values
pub all_firsts : (values : List Value) (width pieces : ℕ) → width ≡ 1
    → length values ≡ pieces * width → firsts_of values width pieces ≡ values
all_firsts values width pieces one whole =
    let few : length values ≡ pieces =
    whole ∙ ap (λ w. pieces * w) one ∙ mul-one pieces in
    ap (λ w. firsts_of values w pieces) one
    ∙ firsts_taken values pieces (omega arith) ∙ ap (λ k. take k values) (sym few)
    ∙ take_all (length values) values (omega arith)
