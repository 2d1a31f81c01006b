-- The made text isn't long.
use Rattle.std.proofs.Common.{◌≡◌, ℕ, zero, suc, ◌+◌, ◌*◌, ◌≤◌, List, [], ◌∷◌, ◌++◌, length, map, arith}
use Rattle.std.specs.Prelude.{codes, decimal}
use Rattle.std.specs.List.{range_with_len}
use Rattle.std.proofs.lemmas.Fmt.{length-decimal-le}
use Rattle.std.proofs.lemmas.List.{length-append}
use Rattle.std.proofs.lemmas.List.FromFn.{length-map-range_with_len}
use Rattle.quantity.specs.Bytes.{Bytes}
use Rattle.source_text.specs.Lines.{file}
use Rattle.model_text.specs.LifeModel.{life_model, made_digit, made_row, made_text}

file_append : (xs ys : List Bytes) → length (file (xs ++ ys)) ≡ length (file xs) + length (file ys)
file_append [] ys = omega arith
file_append (l ∷ xs) ys =
    let more = length-append l (10 ∷ file (xs ++ ys)) in
    let less = length-append l (10 ∷ file xs) in
    omega (arith, more, less, file_append xs ys)

line_first : (l : Bytes) (ls : List Bytes) → length (file (l ∷ ls)) ≡ length l + (1 + length (file ls))
line_first l ls =
    let all = length-append l (10 ∷ file ls) in
    omega (arith, all)

-- a number of rows has at most four digits
short_number : (n : ℕ) → n ≤ 1000 → length (decimal n) ≤ 4
short_number n few = length-decimal-le 4 n (omega arith) (omega (arith, few)) (omega (arith, few))

row_short : (n i : ℕ) → n ≤ 1000 → i ≤ 1000 → length (made_row n i) ≤ 1023
row_short n i few low =
    let digits = 32 ∷ map (made_digit i) (range_with_len 0 n) in
    let all = length-append (codes "initialrowvalue : ") (decimal i ++ digits) in
    let behind = length-append (decimal i) digits in
    omega (arith, all, behind, length-map-range_with_len (made_digit i) 0 n, short_number i low, few)

rows_short : (n i count : ℕ) → n ≤ 1000 → i + count ≤ 1000 → length (file (map (made_row n) (range_with_len i count))) ≤ count * 1024
rows_short n i zero few low = omega arith
rows_short n i (suc count) few low =
    let first = line_first (made_row n i) (map (made_row n) (range_with_len (i + 1) count)) in
    let rest = rows_short n (i + 1) count few (omega (arith, low)) in
    omega (arith, first, rest, row_short n i few (omega (arith, low)))

abbrev before : List Bytes
before = codes "[Top]" ∷ codes "components : Life" ∷ codes "[Life]          % Conway" ∷ codes "type : cell" ∷ []

abbrev middle : List Bytes
middle = codes "delay : transport" ∷ codes "defaultDelayTime : 100" ∷ codes "border : wrapped" ∷ codes "neighbors : life(-1,-1) life(-1,0) life(-1,1)" ∷ codes "neighbors : life(0,-1) life(0,0) life(0,1)" ∷ codes "neighbors : life(1,-1) life(1,0) life(1,1)" ∷ codes "initialvalue : 0" ∷ []

abbrev behind : List Bytes
behind = codes "localtransition : life-rule" ∷ codes "[life-rule]" ∷ codes "rule : 1 100 { (0,0) = 1 and" ∷ codes "   (trueCount = 3 or trueCount = 4) }" ∷ codes "rule : 1 100 { (0,0) = 0 and trueCount = 3 }" ∷ codes "rule : 0 100 { t }" ∷ []

life_short : (size : Bytes) (rows : List Bytes) → length (file (life_model size rows)) ≡ 458 + 2 * length size + length (file rows)
life_short size rows =
    let wide = codes "width : " ++ size in
    let high = codes "height : " ++ size in
    let last = file_append rows behind in
    let inner = file_append middle (rows ++ behind) in
    let low = line_first high (middle ++ (rows ++ behind)) in
    let up = line_first wide (high ∷ (middle ++ (rows ++ behind))) in
    let all = file_append before (wide ∷ high ∷ (middle ++ (rows ++ behind))) in
    omega (arith, last, inner, low, up, all, length-append (codes "width : ") size, length-append (codes "height : ") size)

pub made_short : (n : ℕ) → n ≤ 1000 → length (made_text n) ≤ 16777216
unfolding made_text
made_short n few =
    let rows = rows_short n 0 n few (omega (arith, few)) in
    omega (arith, life_short (decimal n) (map (made_row n) (range_with_len 0 n)), rows, short_number n few, few)
