-- What an expression with bounded numbers means over bounded values is bounded.
use Rattle.std.proofs.Common.{ℕ, zero, suc, ◌/◌, ◌%◌, ◌≤◌, Bool, true, false, Option, Some, None, List, [], ◌∷◌, length, arith}
use Rattle.std.specs.Prelude.{IfSome, ⊤, if◌then◌else◌, ◌&&◌, ◌==◌, nat_lt, pos, negsuc, slice_get, unwrap_or}
use Rattle.std.specs.List.{All}
use Rattle.std.specs.Option.{option_map}
use Rattle.std.proofs.lemmas.List.{length-map}
use Rattle.std.proofs.lemmas.List.Elements.{All-nil, All-cons, All-head, All-tail}
use Rattle.std.proofs.lemmas.List.Sums.{count_by-le-length}
use Rattle.quantity.specs.declared.truth.Tri.{Tri}
use Rattle.quantity.specs.declared.truth.Tri.TheVariants.{True, False, Undef}
use Rattle.quantity.specs.declared.value.Value.{Value}
use Rattle.quantity.specs.declared.value.Value.TheVariants.{Undefined, Num}
use Rattle.quantity.specs.Roots.{IsBounded}
use Rattle.quantity.specs.Arithmetic.{same_value, remainder_of, least_of, greatest_of, size_of, sign_of, root_of, whole_part, nearest_whole, fraction_of, is_even, is_odd, is_whole, test_of}
use Rattle.rule_tree.specs.declared.outcome.Answer.{Answer}
use Rattle.rule_tree.specs.declared.outcome.Answer.TheVariants.{Num as Number', Logic}
use Rattle.rule_tree.specs.declared.node.Unary.{Unary}
use Rattle.rule_tree.specs.declared.node.Unary.TheVariants.{Plus, Minus, Not}
use Rattle.rule_tree.specs.declared.node.Binary.{Binary}
use Rattle.rule_tree.specs.declared.node.Binary.TheVariants.{Imp, Eqv, Or, Xor, And, Cmp, Add, Sub, Mul, Div}
use Rattle.rule_tree.specs.declared.node.Count.{Count}
use Rattle.rule_tree.specs.declared.node.Count.TheVariants.{Ones, Zeros, Undefs}
use Rattle.rule_tree.specs.declared.function.Sort.{Sort}
use Rattle.rule_tree.specs.declared.function.Sort.TheVariants.{Number, Truth}
use Rattle.rule_tree.specs.declared.function.Function.{Function}
use Rattle.rule_tree.specs.declared.function.Function.TheVariants.{StateCount, CellPos, If, Ifu, Abs, Sign, Sqrt, Trunc, Round, Fractional, Min, Max, Remainder, Even, Odd, IsInt, IsUndefined}
use Rattle.rule_tree.specs.Expression as E
use Rattle.rule_tree.specs.Expression.{Expr, Exprs}
use Rattle.rule_tree.specs.Functions.{Of, Maker, operand_of_sort, answer_of_sort, maker_answer, is_undefined}
use Rattle.rule_tree.specs.Meaning.{Sight, value_at, outs, whole, number_answered, as_answer, how_many, neighbour_count, one_meaning, two_meaning, by_truth, state_count, coordinates, cell_position, call_meaning, answer_in_front, meaning, meanings}
use Rattle.quantity.specs.TimeBounds.{IsDelay}
use Rattle.quantity.specs.Written.{for_some}
use Rattle.run_model.specs.Bounds.{HasBoundedNumbers, HaveBoundedNumbers}
use Rattle.run_model.proofs.BoundedValues.{sum-is, difference-is, product-is, quotient-is, remainder-is, least-is, greatest-is, negative-is, size-is, sign-is, whole_part-is, fraction-is, rounded-is, root-is}

abbrev pub IsBoundedAnswer : Answer → Type 0
IsBoundedAnswer (Number' v) = IsBounded v
IsBoundedAnswer (Logic t) = ⊤

-- what a cell sees, where all values that it sees are bounded
pub record IsBoundedSight (s : Sight) : Type 0 where
  pub time : IsDelay s.time
  pub place : (k : ℕ) → unwrap_or (slice_get (coordinates s.place) k) 0 ≤ 1048576
  pub neighbours : All (All IsBounded) s.neighbours
  pub few : length s.neighbours ≤ 128
  pub port : IsBounded s.port
  pub variables : All IsBounded s.variables

pub at_or : {X : Type 0} (P : X → Type 0) (xs : List X) (k : ℕ) (d : X) → P d → All P xs → P (unwrap_or (slice_get xs k) d)
at_or P [] k d none h = none
at_or P (x ∷ xs) zero d none h = All-head P x xs h
at_or P (x ∷ xs) (suc k) d none h = at_or P xs k d none (All-tail P x xs h)

whole-is : (n : ℕ) → n ≤ 10000000000 → IsBounded (whole n)
whole-is n le = omega (arith, le)

number-is : (a : Answer) → IsBoundedAnswer a → IsBounded (number_answered a)
number-is (Number' v) h = h
number-is (Logic t) h = tt

as_answer-is : (o : Option Value) → IfSome o IsBounded → IfSome (as_answer o) IsBoundedAnswer
as_answer-is None h = tt
as_answer-is (Some v) h = h

how_many-is : (v : Value) (s : Sight) → IsBoundedSight s → IsBounded (whole (how_many v (outs s)))
how_many-is v s see =
    whole-is (how_many v (outs s)) (omega (arith, count_by-le-length (λ w. same_value v w) (outs s), length-map s.neighbours (λ vs. value_at vs 0), see.few))

counted-is : (c : Count) (s : Sight) → IsBoundedSight s → IsBounded (whole (neighbour_count c (outs s)))
counted-is Ones s see = how_many-is (whole 1) s see
counted-is Zeros s see = how_many-is (whole 0) s see
counted-is Undefs s see = how_many-is Undefined s see

one-is : (u : Unary) (a : Answer) → IsBoundedAnswer a → IfSome (one_meaning u a) IsBoundedAnswer
one-is Plus a h = number-is a h
one-is Minus a h = negative-is (number_answered a) (number-is a h)
one-is Not a h = tt

two-is : (b : Binary) (x y : Answer) → IfSome (two_meaning b x y) IsBoundedAnswer
two-is Imp x y = tt
two-is Eqv x y = tt
two-is Or x y = tt
two-is Xor x y = tt
two-is And x y = tt
two-is (Cmp how) x y = tt
two-is Add x y = as_answer-is _ (sum-is (number_answered x) (number_answered y))
two-is Sub x y = as_answer-is _ (difference-is (number_answered x) (number_answered y))
two-is Mul x y = as_answer-is _ (product-is (number_answered x) (number_answered y))
two-is Div x y = as_answer-is _ (quotient-is (number_answered x) (number_answered y))

by_truth-is : (t : Tri) (a b u : Value) → IsBounded a → IsBounded b → IsBounded u → IsBounded (by_truth t a b u)
by_truth-is True a b u h k l = h
by_truth-is False a b u h k l = k
by_truth-is Undef a b u h k l = l

state_count-is : (v : Value) (s : Sight) → IsBoundedSight s → IsBounded (state_count v (outs s))
state_count-is Undefined s see = tt
state_count-is (Num x) s see = how_many-is (Num x) s see

cell_position-is : (v : Value) (s : Sight) → IsBoundedSight s → IsBounded (cell_position v s)
cell_position-is Undefined s see = tt
cell_position-is (Num (pos n)) s see = test ((n % 100000 == 0) && nat_lt (n / 100000) s.dims)
  where
    test : (b : Bool) → IsBounded (if b then whole (unwrap_or (slice_get (coordinates s.place) (n / 100000)) 0) else Undefined)
    test true = whole-is (unwrap_or (slice_get (coordinates s.place) (n / 100000)) 0) (omega (arith, see.place (n / 100000)))
    test false = tt
cell_position-is (Num (negsuc n)) s see = tt

abbrev IsBoundedOf : (a : Sort) → Of a → Type 0
IsBoundedOf Number v = IsBounded v
IsBoundedOf Truth t = ⊤

-- what a maker makes of bounded values is bounded
abbrev MakesBounded : (takes : List Sort) (gives : Sort) → Maker takes gives → Type 0
MakesBounded [] gives maker = IfSome maker (IsBoundedOf gives)
MakesBounded (a ∷ takes) gives maker = (x : Of a) → IsBoundedOf a x → MakesBounded takes gives (maker x)

taken-is : (a : Sort) (x : Answer) → IsBoundedAnswer x → IsBoundedOf a (operand_of_sort a x)
taken-is Number x h = number-is x h
taken-is Truth x h = tt

given-is : (a : Sort) (o : Option (Of a)) → IfSome o (IsBoundedOf a) → IfSome (option_map (answer_of_sort a) o) IsBoundedAnswer
given-is a None h = tt
given-is Number (Some v) h = h
given-is Truth (Some t) h = tt

made-is : (takes : List Sort) (gives : Sort) (maker : Maker takes gives) (xs : List Answer) → MakesBounded takes gives maker → All IsBoundedAnswer xs
    → IfSome (maker_answer takes gives maker xs) IsBoundedAnswer
made-is [] gives maker [] m h = given-is gives maker m
made-is [] gives maker (x ∷ xs) m h = tt
made-is (a ∷ takes) gives maker [] m h = tt
made-is (a ∷ takes) gives maker (x ∷ xs) m h =
    made-is takes gives (maker (operand_of_sort a x)) xs (m (operand_of_sort a x) (taken-is a x (All-head IsBoundedAnswer x xs h))) (All-tail IsBoundedAnswer x xs h)

of_number-is : (f : Value → Value) (xs : List Answer) → ((v : Value) → IsBounded v → IsBounded (f v)) → All IsBoundedAnswer xs
    → IfSome (maker_answer (Number ∷ []) Number (λ v. Some (f v)) xs) IsBoundedAnswer
of_number-is f xs k h = made-is (Number ∷ []) Number (λ v. Some (f v)) xs k h

of_test-is : (f : Value → Tri) (xs : List Answer) → All IsBoundedAnswer xs → IfSome (maker_answer (Number ∷ []) Truth (λ v. Some (f v)) xs) IsBoundedAnswer
of_test-is f xs h = made-is (Number ∷ []) Truth (λ v. Some (f v)) xs (λ v k. tt) h

of_two_numbers-is : (f : Value → Value → Value) (xs : List Answer) → ((v w : Value) → IsBounded v → IsBounded w → IsBounded (f v w)) → All IsBoundedAnswer xs
    → IfSome (maker_answer (Number ∷ Number ∷ []) Number (λ v w. Some (f v w)) xs) IsBoundedAnswer
of_two_numbers-is f xs k h = made-is (Number ∷ Number ∷ []) Number (λ v w. Some (f v w)) xs (λ v i w j. k v w i j) h

call-is : (f : Function) (xs : List Answer) (s : Sight) → All IsBoundedAnswer xs → IsBoundedSight s → IfSome (call_meaning f xs s) IsBoundedAnswer
call-is StateCount xs s h see = of_number-is (λ v. state_count v (outs s)) xs (λ v k. state_count-is v s see) h
call-is CellPos xs s h see = of_number-is (λ v. cell_position v s) xs (λ v k. cell_position-is v s see) h
call-is If xs s h see = made-is (Truth ∷ Number ∷ Number ∷ []) Number (λ t a b. Some (by_truth t a b b)) xs (λ t i a j b k. by_truth-is t a b b j k k) h
call-is Ifu xs s h see =
    made-is (Truth ∷ Number ∷ Number ∷ Number ∷ []) Number (λ t a b u. Some (by_truth t a b u)) xs (λ t i a j b k u l. by_truth-is t a b u j k l) h
call-is Abs xs s h see = of_number-is size_of xs size-is h
call-is Sign xs s h see = of_number-is sign_of xs sign-is h
call-is Sqrt xs s h see = of_number-is root_of xs root-is h
call-is Trunc xs s h see = of_number-is whole_part xs whole_part-is h
call-is Fractional xs s h see = of_number-is fraction_of xs fraction-is h
call-is Round xs s h see = of_number-is nearest_whole xs rounded-is h
call-is Min xs s h see = of_two_numbers-is least_of xs least-is h
call-is Max xs s h see = of_two_numbers-is greatest_of xs greatest-is h
call-is Remainder xs s h see = of_two_numbers-is remainder_of xs remainder-is h
call-is Even xs s h see = of_test-is (test_of is_even) xs h
call-is Odd xs s h see = of_test-is (test_of is_odd) xs h
call-is IsInt xs s h see = of_test-is (test_of is_whole) xs h
call-is IsUndefined xs s h see = of_test-is is_undefined xs h

for_answer-is : (o : Option Answer) (go : Answer → Option Answer) → IfSome o IsBoundedAnswer → ((a : Answer) → IsBoundedAnswer a → IfSome (go a) IsBoundedAnswer) → IfSome (for_some o go) IsBoundedAnswer
for_answer-is None go h goes = tt
for_answer-is (Some a) go h goes = goes a h

for_answers-is : (o : Option (List Answer)) (go : List Answer → Option Answer) → IfSome o (All IsBoundedAnswer) → ((xs : List Answer) → All IsBoundedAnswer xs → IfSome (go xs) IsBoundedAnswer) → IfSome (for_some o go) IsBoundedAnswer
for_answers-is None go h goes = tt
for_answers-is (Some xs) go h goes = goes xs h

in_front-is : (o : Option Answer) (rest : Option (List Answer)) → IfSome o IsBoundedAnswer → IfSome rest (All IsBoundedAnswer) → IfSome (for_some o (λ x. answer_in_front x rest)) (All IsBoundedAnswer)
in_front-is None rest h k = tt
in_front-is (Some a) None h k = tt
in_front-is (Some a) (Some xs) h k = All-cons IsBoundedAnswer a xs h k

mutual
  pub meaning-is : (e : Expr) (s : Sight) → HasBoundedNumbers e → IsBoundedSight s → IfSome (meaning e s) IsBoundedAnswer
  meaning-is (E.number v) s h see = h
  meaning-is (E.truth t) s h see = tt
  meaning-is (E.neighbour k p) s h see =
      at_or IsBounded (unwrap_or (slice_get s.neighbours k) []) p Undefined tt (at_or (All IsBounded) s.neighbours k [] (All-nil IsBounded) see.neighbours)
  meaning-is (E.variable k) s h see = at_or IsBounded s.variables k Undefined tt see.variables
  meaning-is E.now s h see = whole-is s.time (omega (arith, see.time))
  meaning-is E.port_value s h see = see.port
  meaning-is (E.counted c) s h see = counted-is c s see
  meaning-is (E.one u a) s h see = for_answer-is (meaning a s) (one_meaning u) (meaning-is a s h see) (one-is u)
  meaning-is (E.two b a c) s h see =
      for_answer-is (meaning a s) (λ x. for_some (meaning c s) (two_meaning b x)) (meaning-is a s h.0 see)
      (λ x k. for_answer-is (meaning c s) (two_meaning b x) (meaning-is c s h.1 see) (λ y l. two-is b x y))
  meaning-is (E.call f args) s h see = for_answers-is (meanings args s) (λ xs. call_meaning f xs s) (meanings-are args s h see) (λ xs k. call-is f xs s k see)

  meanings-are : (es : Exprs) (s : Sight) → HaveBoundedNumbers es → IsBoundedSight s → IfSome (meanings es s) (All IsBoundedAnswer)
  meanings-are E.nil s h see = All-nil IsBoundedAnswer
  meanings-are (E.cons a rest) s h see = in_front-is (meaning a s) (meanings rest s) (meaning-is a s h.0 see) (meanings-are rest s h.1 see)
