-- The functions of the language. Each is one row: its word, the sorts that it takes and gives, and
-- what it makes of a value for each of them, over what a cell sees.
use Rattle.std.specs.Prelude.{ℕ, ◌/◌, ◌%◌, ◌&&◌, ◌==◌, nat_lt, Option, Some, List, [], ◌∷◌, slice_get, pos, negsuc, if◌then◌else◌, codes}
use Rattle.std.specs.Option.{unwrap_or, option_map}
use Rattle.quantity.specs.declared.place.Place.{Place}
use Rattle.quantity.specs.declared.truth.Tri.{Tri}
use Rattle.quantity.specs.declared.truth.Tri.TheVariants.{True, False, Undef}
use Rattle.quantity.specs.declared.value.Value.{Value}
use Rattle.quantity.specs.declared.value.Value.TheVariants.{Undefined, Num}
use Rattle.quantity.specs.Arithmetic.{remainder_of, least_of, greatest_of, size_of, sign_of, root_of, whole_part, nearest_whole, fraction_of, is_even, is_odd, is_whole, test_of}
use Rattle.quantity.specs.Bytes.{Bytes}
use Rattle.rule_tree.specs.declared.outcome.Answer.{Answer}
use Rattle.rule_tree.specs.declared.outcome.Answer.TheVariants.{Num as Number', Logic}
use Rattle.rule_tree.specs.declared.function.Sort.{Sort}
use Rattle.rule_tree.specs.declared.function.Sort.TheVariants.{Number, Truth}
use Rattle.rule_tree.specs.declared.function.Function.{Function}
use Rattle.rule_tree.specs.declared.function.Function.TheVariants.{StateCount, CellPos, If, Ifu, Abs, Sign, Sqrt, Trunc, Fractional, Round, Min, Max, Remainder, Even, Odd, IsInt, IsUndefined}
use Rattle.rule_tree.specs.Sight.{Sight, outs, whole, how_many, number_answered, truth_in}

-- ---- what some functions make

-- a choice by a truth value: at T, at F, at ?
abbrev pub by_truth : Tri → Value → Value → Value → Value
by_truth True a b u = a
by_truth False a b u = b
by_truth Undef a b u = u

-- how many of these values are this one, or ? where it is ?
abbrev pub state_count : Value → List Value → Value
state_count Undefined vs = Undefined
state_count (Num x) vs = whole (how_many (Num x) vs)

-- row, column and plane
abbrev pub coordinates : Place → List ℕ
coordinates p = p.row ∷ p.column ∷ p.plane ∷ []

-- coordinate number k of the cell, or ? where k is none
abbrev pub cell_position : Value → Sight → Value
cell_position Undefined s = Undefined
cell_position (Num (pos n)) s =
    if (n % 100000 == 0) && nat_lt (n / 100000) s.dims
    then whole (unwrap_or (slice_get (coordinates s.place) (n / 100000)) 0)
    else Undefined
cell_position (Num (negsuc n)) s = Undefined

-- whether a value is undefined
abbrev pub is_undefined : Value → Tri
is_undefined Undefined = True
is_undefined (Num x) = False

-- ---- rows

-- what an expression of a sort is: a value or a truth value
abbrev pub Of : Sort → Type 0
Of Number = Value
Of Truth = Tri

-- what makes one thing of a sort from things of these sorts, where it isn't too large
abbrev pub Maker : List Sort → Sort → Type 0
Maker [] gives = Option (Of gives)
Maker (a ∷ more) gives = Of a → Maker more gives

-- an operand of this sort
abbrev pub operand_of_sort : (a : Sort) → Answer → Of a
operand_of_sort Number x = number_answered x
operand_of_sort Truth x = truth_in x

-- an answer of this sort
abbrev pub answer_of_sort : (a : Sort) → Of a → Answer
answer_of_sort Number v = Number' v
answer_of_sort Truth t = Logic t

-- a number of arguments that no sound rule has means ?
abbrev pub wrong_count_answer : Option Answer
wrong_count_answer = Some (Number' Undefined)

-- what a maker makes of arguments, the first of them first
abbrev pub maker_answer : (takes : List Sort) (gives : Sort) → Maker takes gives → List Answer
    → Option Answer
maker_answer [] gives maker [] = option_map (answer_of_sort gives) maker
maker_answer [] gives maker (x ∷ xs) = wrong_count_answer
maker_answer (a ∷ takes) gives maker [] = wrong_count_answer
maker_answer (a ∷ takes) gives maker (x ∷ xs) =
    maker_answer takes gives (maker (operand_of_sort a x)) xs

-- a function of the language: its word, the sorts that it takes and gives, and what it makes of
-- arguments over what a cell sees, where that is not too large
pub record Row : Type 0 where
  pub word : Bytes
  pub takes : List Sort
  pub gives : Sort
  pub makes : Sight → List Answer → Option Answer

-- the row of a function that makes this of what a cell sees and of things of the sorts that it
-- takes
abbrev pub made_row : Bytes → (takes : List Sort) (gives : Sort) → (Sight → Maker takes gives) → Row
made_row word takes gives maker =
    record {
      word = word;
      takes = takes;
      gives = gives;
      makes = λ s xs. maker_answer takes gives (maker s) xs;
    }

-- a number of a number
abbrev pub of_number : Bytes → (Value → Value) → Row
of_number word f = made_row word (Number ∷ []) Number (λ s v. Some (f v))

-- a number of a number and of what the cell sees
abbrev pub of_sight : Bytes → (Value → Sight → Value) → Row
of_sight word f = made_row word (Number ∷ []) Number (λ s v. Some (f v s))

-- a truth value of a number
abbrev pub of_test : Bytes → (Value → Tri) → Row
of_test word f = made_row word (Number ∷ []) Truth (λ s v. Some (f v))

-- a number of two numbers
abbrev pub of_two_numbers : Bytes → (Value → Value → Value) → Row
of_two_numbers word f = made_row word (Number ∷ Number ∷ []) Number (λ s v w. Some (f v w))

-- the row of a function: its word, what it takes and gives, and its meaning
abbrev pub row : Function → Row
row StateCount = of_sight (codes "statecount") (λ v s. state_count v (outs s))
row CellPos = of_sight (codes "cellpos") cell_position
row If =
    made_row (codes "if") (Truth ∷ Number ∷ Number ∷ []) Number (λ s t a b. Some (by_truth t a b b))
row Ifu =
    made_row (codes "ifu") (Truth ∷ Number ∷ Number ∷ Number ∷ []) Number
    (λ s t a b u. Some (by_truth t a b u))
row Abs = of_number (codes "abs") size_of
row Sign = of_number (codes "sign") sign_of
row Sqrt = of_number (codes "sqrt") root_of
row Trunc = of_number (codes "trunc") whole_part
row Fractional = of_number (codes "fractional") fraction_of
row Round = of_number (codes "round") nearest_whole
row Min = of_two_numbers (codes "min") least_of
row Max = of_two_numbers (codes "max") greatest_of
row Remainder = of_two_numbers (codes "remainder") remainder_of
row Even = of_test (codes "even") (test_of is_even)
row Odd = of_test (codes "odd") (test_of is_odd)
row IsInt = of_test (codes "isint") (test_of is_whole)
row IsUndefined = of_test (codes "isundefined") is_undefined

-- a function of its arguments; None where it is too large
abbrev pub call_meaning : Function → List Answer → Sight → Option Answer
call_meaning f xs s = (row f).makes s xs
