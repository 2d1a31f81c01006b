-- The text of the model that `-G` runs: Life on a wrapped square.
use Rattle.std.specs.Prelude.{ℕ, ◌%◌, ◌==◌, ◌&&◌, ◌||◌, List, ◌∷◌, ◌++◌, map, codes, decimal, if◌then◌else◌, []}
use Rattle.std.specs.List.{range_with_len}
use Rattle.quantity.specs.Bytes.{Bytes}
use Rattle.source_text.specs.Lines.{file}

-- Life in a space of these sizes, with these lines for its first values
abbrev pub life_model : Bytes → List Bytes → List Bytes
life_model size rows =
    codes "[Top]" ∷ codes "components : Life" ∷ codes "[Life]          % Conway"
    ∷ codes "type : cell" ∷ (codes "width : " ++ size)
    ∷ (codes "height : " ++ size) ∷ codes "delay : transport" ∷ codes "defaultDelayTime : 100"
    ∷ codes "border : wrapped"
    ∷ codes "neighbors : life(-1,-1) life(-1,0) life(-1,1)"
    ∷ codes "neighbors : life(0,-1) life(0,0) life(0,1)"
    ∷ codes "neighbors : life(1,-1) life(1,0) life(1,1)" ∷ codes "initialvalue : 0"
    ∷ (rows
    ++ (codes "localtransition : life-rule" ∷ codes "[life-rule]"
    ∷ codes "rule : 1 100 { (0,0) = 1 and"
    ∷ codes "   (trueCount = 3 or trueCount = 4) }"
    ∷ codes "rule : 1 100 { (0,0) = 0 and trueCount = 3 }" ∷ codes "rule : 0 100 { t }" ∷ []))

-- the digit of a cell of the made model by its row and column: 1 for three in a row in each square
-- of five by five
abbrev pub made_digit : ℕ → ℕ → ℕ
made_digit i j = if (i % 5 == 2) && ((j % 5 == 1) || (j % 5 == 2) || (j % 5 == 3)) then 49 else 48

-- the line of this row in a space of so many columns
abbrev pub made_row : ℕ → ℕ → Bytes
made_row n i =
    codes "initialrowvalue : " ++ decimal i ++ (32 ∷ map (made_digit i) (range_with_len 0 n))

-- the text of Life with so many rows and columns
unfoldable pub made_text : ℕ → Bytes
made_text n = file (life_model (decimal n) (map (made_row n) (range_with_len 0 n)))
