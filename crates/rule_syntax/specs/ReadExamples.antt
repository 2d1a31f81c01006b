-- Texts and the rules that they are, computed.
use Rattle.std.specs.Prelude.{◌≡◌, ℕ, [], ◌∷◌, ◌++◌, pos, negsuc, codes}
use Rattle.std.specs.declared.result.Result.TheVariants.{Ok, Err}
use Rattle.quantity.specs.Bytes.{Bytes}
use Rattle.quantity.specs.declared.truth.Tri.TheVariants.{True, False}
use Rattle.quantity.specs.declared.value.Value.TheVariants.{Undefined, Num}
use Rattle.quantity.specs.declared.value.Compare.TheVariants.{Equal, Unequal, Less, LessEqual}
use Rattle.quantity.specs.declared.value.Compare.TheVariants.{Greater, GreaterEqual}
use Rattle.rule_tree.specs.declared.function.Function.TheVariants.{StateCount, CellPos, If, Ifu}
use Rattle.rule_tree.specs.declared.function.Function.TheVariants.{Abs, Sign, Sqrt, Trunc}
use Rattle.rule_tree.specs.declared.function.Function.TheVariants.{Fractional, Round, Min, Max}
use Rattle.rule_tree.specs.declared.function.Function.TheVariants.{Remainder, Even, Odd, IsInt}
use Rattle.rule_tree.specs.declared.function.Function.TheVariants.{IsUndefined}
use Rattle.rule_tree.specs.declared.node.Unary.TheVariants.{Plus, Minus, Not}
use Rattle.rule_tree.specs.declared.node.Binary.TheVariants.{Imp, Eqv, Or, Xor, And, Cmp, Add, Sub}
use Rattle.rule_tree.specs.declared.node.Binary.TheVariants.{Mul, Div}
use Rattle.rule_tree.specs.declared.node.Count.TheVariants.{Ones, Zeros, Undefs}
use Rattle.rule_tree.specs.Expression.{Expr, Rule, nil, cons, number, truth, neighbour, variable}
use Rattle.rule_tree.specs.Expression.{now, port_value, counted, one, two, call}
use Rattle.rule_tree.specs.Scope.{Names}
use Rattle.rule_tree.specs.Sight.{whole}
use Rattle.rule_words.specs.declared.refusal.RuleRefusal.TheVariants.{NotANeighbour}
use Rattle.rule_words.specs.RuleOf.{rule_of_text}
use Rattle.rule_syntax.specs.RefusalExamples.{group}
use Rattle.rule_syntax.specs.TextExamples.{always, with_names}

abbrev pub tab : ℕ
tab = 9

-- a text is this rule in a line of cells with the variables a and b and the port p
abbrev pub reads : Bytes → Rule → Type 0
reads text rule = rule_of_text group text ≡ Ok rule

-- an expression as the value that a rule gives
abbrev pub gives : Bytes → Expr → Type 0
gives text value = reads (codes "{ " ++ text ++ codes " } 100 { t }") (always value)

-- an expression as a rule's condition
abbrev pub holds : Bytes → Expr → Type 0
holds text condition =
    reads (codes "1 100 { " ++ text ++ codes " }")
    (record (always (number (whole 1))) { condition = condition })

-- a group whose variables and ports are called by words of the language
abbrev pub words : Names
words =
    with_names (codes "and" ∷ codes "t" ∷ codes "uniform" ∷ [])
    (codes "not" ∷ codes "time" ∷ codes "power" ∷ [])

abbrev pub ReadsAsRule : Bytes → Rule → Type 0
ReadsAsRule text rule = rule_of_text words text ≡ Ok rule

-- a space of three dimensions, with the cell above and the one to the right
abbrev pub space : Names
space =
    record {
      offsets = record { row = pos 0; column = pos 0; plane = negsuc 0 }
          ∷ record { row = pos 0; column = pos 1; plane = pos 0 } ∷ [];
      dims = 3;
      variables = [];
      ports = [];
    }

-- words join by precedence
abbrev pub WordsJoinByPrecedence : Type 0
WordsJoinByPrecedence =
    holds (codes "not 1 = 2") (one Not (two (Cmp Equal) (number (whole 1)) (number (whole 2))))
    × holds (codes "1 = 2 and t or f imp t")
    (two Imp (two Or (two And (two (Cmp Equal) (number (whole 1)) (number (whole 2))) (truth True))
    (truth False)) (truth True))
    × holds (codes "t imp f or t") (two Imp (truth True) (two Or (truth False) (truth True)))
    × holds (codes "t xor f and t") (two Xor (truth True) (two And (truth False) (truth True)))
    × holds (codes "t or f and t") (two Or (truth True) (two And (truth False) (truth True)))
    × holds (codes "not t and f") (two And (one Not (truth True)) (truth False))
    × holds (codes "t and not f or t")
    (two Or (two And (truth True) (one Not (truth False))) (truth True))
    × holds (codes "not not t") (one Not (one Not (truth True)))
    × holds (codes "not 1 < 2 and not t")
    (two And (one Not (two (Cmp Less) (number (whole 1)) (number (whole 2))))
    (one Not (truth True)))
    × holds (codes "1 + 2 < 3 * 4") (two (Cmp Less) (two Add (number (whole 1)) (number (whole 2)))
    (two Mul (number (whole 3)) (number (whole 4))))
    × holds (codes "1 < 2 or 2 >= 3") (two Or (two (Cmp Less) (number (whole 1)) (number (whole 2)))
    (two (Cmp GreaterEqual) (number (whole 2)) (number (whole 3))))

-- words join to the left
abbrev pub WordsJoinToTheLeft : Type 0
WordsJoinToTheLeft =
    holds (codes "t imp f eqv t") (two Eqv (two Imp (truth True) (truth False)) (truth True))
    × holds (codes "t eqv f imp t") (two Imp (two Eqv (truth True) (truth False)) (truth True))
    × holds (codes "t or f xor t or f")
    (two Or (two Xor (two Or (truth True) (truth False)) (truth True)) (truth False))
    × holds (codes "t and f and t") (two And (two And (truth True) (truth False)) (truth True))
    × holds (codes "(t or f) and t") (two And (two Or (truth True) (truth False)) (truth True))
    × holds (codes "t and (f imp t)") (two And (truth True) (two Imp (truth False) (truth True)))
    × holds (codes "t imp (f imp t)") (two Imp (truth True) (two Imp (truth False) (truth True)))
    × holds (codes "not (t or f)") (one Not (two Or (truth True) (truth False)))
    × holds (codes "((t))") (truth True)
    × holds (codes "f") (truth False)

-- numbers are compared
abbrev pub NumbersAreCompared : Type 0
NumbersAreCompared =
    holds (codes "1 = 2") (two (Cmp Equal) (number (whole 1)) (number (whole 2)))
    × holds (codes "1 != 2") (two (Cmp Unequal) (number (whole 1)) (number (whole 2)))
    × holds (codes "1 < 2") (two (Cmp Less) (number (whole 1)) (number (whole 2)))
    × holds (codes "1 <= 2") (two (Cmp LessEqual) (number (whole 1)) (number (whole 2)))
    × holds (codes "1 > 2") (two (Cmp Greater) (number (whole 1)) (number (whole 2)))
    × holds (codes "1 >= 2") (two (Cmp GreaterEqual) (number (whole 1)) (number (whole 2)))
    × holds (codes "1<=-2") (two (Cmp LessEqual) (number (whole 1)) (one Minus (number (whole 2))))
    × holds (codes "(1 = 2)") (two (Cmp Equal) (number (whole 1)) (number (whole 2)))
    × holds (codes "(0,0) = 1 and (0,-1) != ?")
    (two And (two (Cmp Equal) (neighbour 1 0) (number (whole 1)))
    (two (Cmp Unequal) (neighbour 0 0) (number Undefined)))
    × holds (codes "truecount = 1 and falsecount < undefcount")
    (two And (two (Cmp Equal) (counted Ones) (number (whole 1)))
    (two (Cmp Less) (counted Zeros) (counted Undefs)))
    × holds (codes "if(t, 1, 2) = 1") (two (Cmp Equal)
    (call If (cons (truth True) (cons (number (whole 1)) (cons (number (whole 2)) nil))))
    (number (whole 1)))

-- numbers are reckoned
abbrev pub NumbersAreReckoned : Type 0
NumbersAreReckoned =
    gives (codes "1 - 2 - 3") (two Sub (two Sub (number (whole 1)) (number (whole 2)))
    (number (whole 3)))
    × gives (codes "1 - 2 * 3") (two Sub (number (whole 1))
    (two Mul (number (whole 2)) (number (whole 3))))
    × gives (codes "1 * 2 - 3") (two Sub (two Mul (number (whole 1)) (number (whole 2)))
    (number (whole 3)))
    × gives (codes "1 * 2 / 3 * 4") (two Mul
    (two Div (two Mul (number (whole 1)) (number (whole 2))) (number (whole 3))) (number (whole 4)))
    × gives (codes "1 + 2 - 3 + 4") (two Add
    (two Sub (two Add (number (whole 1)) (number (whole 2))) (number (whole 3))) (number (whole 4)))
    × gives (codes "1 - (2 - 3)") (two Sub (number (whole 1))
    (two Sub (number (whole 2)) (number (whole 3))))
    × gives (codes "(1 + 2) * 3") (two Mul (two Add (number (whole 1)) (number (whole 2)))
    (number (whole 3)))
    × gives (codes "1-2") (two Sub (number (whole 1)) (number (whole 2)))
    × gives (codes "1 -2") (two Sub (number (whole 1)) (number (whole 2)))

-- signs hold one operand
abbrev pub SignsHoldOneOperand : Type 0
SignsHoldOneOperand =
    gives (codes "-1") (one Minus (number (whole 1)))
    × gives (codes "- 1 * 2") (two Mul (one Minus (number (whole 1))) (number (whole 2)))
    × gives (codes "1 * - 2") (two Mul (number (whole 1)) (one Minus (number (whole 2))))
    × gives (codes "+ 1 + + 2") (two Add (one Plus (number (whole 1)))
    (one Plus (number (whole 2))))
    × gives (codes "1 - - 2") (two Sub (number (whole 1)) (one Minus (number (whole 2))))
    × gives (codes "- - 1") (one Minus (one Minus (number (whole 1))))
    × gives (codes "--+1") (one Minus (one Minus (one Plus (number (whole 1)))))
    × gives (codes "-(1 + 2)") (one Minus (two Add (number (whole 1)) (number (whole 2))))
    × gives (codes "-$a") (one Minus (variable 0))
    × gives (codes "-abs(-1)") (one Minus (call Abs (cons (one Minus (number (whole 1))) nil)))

-- what stands alone
abbrev pub WhatStandsAlone : Type 0
WhatStandsAlone =
    gives (codes "?") (number Undefined)
    × gives (codes "01") (number (whole 1))
    × gives (codes "1.") (number (whole 1))
    × gives (codes ".5") (number (Num (pos 50000)))
    × gives (codes "1.5") (number (Num (pos 150000)))
    × gives (codes "0.123456") (number (Num (pos 12345)))
    × gives (codes "9999999999") (number (whole 9999999999))
    × gives (codes "time") (now)
    × gives (codes "truecount") (counted Ones)
    × gives (codes "falsecount") (counted Zeros)
    × gives (codes "undefcount") (counted Undefs)
    × gives (codes "portvalue(thisport)") (port_value)
    × gives (codes "portvalue ( thisport ) + 1") (two Add port_value (number (whole 1)))
    × gives (codes "$a + $b") (two Add (variable 0) (variable 1))
    × gives (codes "$ a") (variable 0)
    × gives (codes "(((1)))") (number (whole 1))

-- cells have a place and a port
abbrev pub CellsHaveAPlaceAndAPort : Type 0
CellsHaveAPlaceAndAPort =
    gives (codes "(0,-1)") (neighbour 0 0)
    × gives (codes "(0,0)") (neighbour 1 0)
    × gives (codes "(0,1)") (neighbour 2 0)
    × gives (codes "( - 0 , + 1 )") (neighbour 2 0)
    × gives (codes "(0,1)~p") (neighbour 2 1)
    × gives (codes "(0,1) ~ p") (neighbour 2 1)
    × gives (codes "(0,1)~out") (neighbour 2 0)
    × gives (codes "((0,0))") (neighbour 1 0)
    × gives (codes "((0,0)~p)") (neighbour 1 1)
    × gives (codes "(0,0) - (0,-1)") (two Sub (neighbour 1 0) (neighbour 0 0))

-- functions have their arguments
abbrev pub FunctionsHaveTheirArguments : Type 0
FunctionsHaveTheirArguments =
    gives (codes "statecount(1)") (call StateCount (cons (number (whole 1)) nil))
    × gives (codes "cellpos(0)") (call CellPos (cons (number (whole 0)) nil))
    × gives (codes "if(1 < 2, 3, 4)") (call If
    (cons (two (Cmp Less) (number (whole 1)) (number (whole 2)))
    (cons (number (whole 3)) (cons (number (whole 4)) nil))))
    × gives (codes "ifu(t or f, 1, 2, 3)")
    (call Ifu (cons (two Or (truth True) (truth False))
    (cons (number (whole 1)) (cons (number (whole 2)) (cons (number (whole 3)) nil)))))
    × gives (codes "abs(1)") (call Abs (cons (number (whole 1)) nil))
    × gives (codes "sign(1)") (call Sign (cons (number (whole 1)) nil))
    × gives (codes "sqrt(1)") (call Sqrt (cons (number (whole 1)) nil))
    × gives (codes "trunc(1)") (call Trunc (cons (number (whole 1)) nil))
    × gives (codes "round(1)") (call Round (cons (number (whole 1)) nil))
    × gives (codes "fractional(1)") (call Fractional (cons (number (whole 1)) nil))
    × gives (codes "min((0,0), 1 + 2)")
    (call Min (cons (neighbour 1 0) (cons (two Add (number (whole 1)) (number (whole 2))) nil)))
    × gives (codes "max(1, min(2, 3))")
    (call Max (cons (number (whole 1))
    (cons (call Min (cons (number (whole 2)) (cons (number (whole 3)) nil))) nil)))
    × gives (codes "remainder (7,3)") (call Remainder
    (cons (number (whole 7)) (cons (number (whole 3)) nil)))
    × gives (codes "min((1),(2)) * 3")
    (two Mul (call Min (cons (number (whole 1)) (cons (number (whole 2)) nil))) (number (whole 3)))

-- tests are conditions
abbrev pub TestsAreConditions : Type 0
TestsAreConditions =
    holds (codes "even(2)") (call Even (cons (number (whole 2)) nil))
    × holds (codes "odd(2)") (call Odd (cons (number (whole 2)) nil))
    × holds (codes "isint(2)") (call IsInt (cons (number (whole 2)) nil))
    × holds (codes "isundefined(?)") (call IsUndefined (cons (number Undefined) nil))
    × holds (codes "even(2) or odd(3) and not isint(1)")
    (two Or (call Even (cons (number (whole 2)) nil))
    (two And (call Odd (cons (number (whole 3)) nil))
    (one Not (call IsInt (cons (number (whole 1)) nil)))))

-- a value is plain or a block
abbrev pub AValueIsPlainOrABlock : Type 0
AValueIsPlainOrABlock =
    reads (codes "1 100 { t }") (record {
      gives = (0, number (whole 1)) ∷ [];
      delay = number (whole 100);
      condition = truth True;
      sets = [];
    })
    × reads (codes "{1}100{t}") (record {
      gives = (0, number (whole 1)) ∷ [];
      delay = number (whole 100);
      condition = truth True;
      sets = [];
    })
    × reads (codes "1" ++ (tab ∷ codes "100") ++ (tab ∷ codes "{") ++ (tab ∷ codes "t")
    ++ (tab ∷ codes "}")) (record {
      gives = (0, number (whole 1)) ∷ [];
      delay = number (whole 100);
      condition = truth True;
      sets = [];
    })
    × reads (codes "  1 100 { t }  ") (record {
      gives = (0, number (whole 1)) ∷ [];
      delay = number (whole 100);
      condition = truth True;
      sets = [];
    })
    × reads (codes "-1 100 { t }") (record {
      gives = (0, number (Num (negsuc 99999))) ∷ [];
      delay = number (whole 100);
      condition = truth True;
      sets = [];
    })
    × reads (codes "- 1 100 { t }") (record {
      gives = (0, number (Num (negsuc 99999))) ∷ [];
      delay = number (whole 100);
      condition = truth True;
      sets = [];
    })
    × reads (codes "+1.5 100 { t }") (record {
      gives = (0, number (Num (pos 150000))) ∷ [];
      delay = number (whole 100);
      condition = truth True;
      sets = [];
    })
    × reads (codes "-.5 100 { t }") (record {
      gives = (0, number (Num (negsuc 49999))) ∷ [];
      delay = number (whole 100);
      condition = truth True;
      sets = [];
    })
    × reads (codes "? 100 { t }") (record {
      gives = (0, number Undefined) ∷ [];
      delay = number (whole 100);
      condition = truth True;
      sets = [];
    })
    × reads (codes "(0,-1) 100 { t }")
    (record {
      gives = (0, neighbour 0 0) ∷ [];
      delay = number (whole 100);
      condition = truth True;
      sets = [];
    })
    × reads (codes "(0,0)~p 100 { t }")
    (record {
      gives = (0, neighbour 1 1) ∷ [];
      delay = number (whole 100);
      condition = truth True;
      sets = [];
    })
    × reads (codes "{ (0,0)~p } 100 { t }")
    (record {
      gives = (0, neighbour 1 1) ∷ [];
      delay = number (whole 100);
      condition = truth True;
      sets = [];
    })
    × reads (codes "{ ~out := 1; } 100 { t }")
    (record {
      gives = (0, number (whole 1)) ∷ [];
      delay = number (whole 100);
      condition = truth True;
      sets = [];
    })

-- a delay is a number or a block
abbrev pub ADelayIsANumberOrABlock : Type 0
ADelayIsANumberOrABlock =
    reads (codes "1 0.5 { t }") (record {
      gives = (0, number (whole 1)) ∷ [];
      delay = number (Num (pos 50000));
      condition = truth True;
      sets = [];
    })
    × reads (codes "1 -5 { t }") (record {
      gives = (0, number (whole 1)) ∷ [];
      delay = number (Num (negsuc 499999));
      condition = truth True;
      sets = [];
    })
    × reads (codes "1 +5 { t }") (record {
      gives = (0, number (whole 1)) ∷ [];
      delay = number (whole 5);
      condition = truth True;
      sets = [];
    })
    × reads (codes "1 { ? } { t }") (record {
      gives = (0, number (whole 1)) ∷ [];
      delay = number Undefined;
      condition = truth True;
      sets = [];
    })
    × reads (codes "1 { -5 } { t }") (record {
      gives = (0, number (whole 1)) ∷ [];
      delay = one Minus (number (whole 5));
      condition = truth True;
      sets = [];
    })
    × reads (codes "{ portvalue(thisport) } { 110 - time } { t }")
    (record {
      gives = (0, port_value) ∷ [];
      delay = two Sub (number (whole 110)) now;
      condition = truth True;
      sets = [];
    })
    × reads (codes "1 { $a := 1; } { $a } { t }")
    (record {
      gives = (0, number (whole 1)) ∷ [];
      delay = variable 0;
      condition = truth True;
      sets = (0, number (whole 1)) ∷ [];
    })
    × reads (codes "{ $b } { 3 } { t }")
    (record {
      gives = (0, variable 1) ∷ [];
      delay = number (whole 3);
      condition = truth True;
      sets = [];
    })

-- gives and sets keep their order
abbrev pub GivesAndSetsKeepTheirOrder : Type 0
GivesAndSetsKeepTheirOrder =
    reads (codes "{ $b } { $a := $a + 1; $b := $a; } 100 { time < 300 }")
    (record {
      gives = (0, variable 1) ∷ [];
      delay = number (whole 100);
      condition = two (Cmp Less) now (number (whole 300));
      sets = (0, two Add (variable 0) (number (whole 1))) ∷ (1, variable 0) ∷ [];
    })
    × reads (codes "{ ~p := (0,0)~p + 1; ~out := (0,0) + (0,0)~p; } 100 { time < 200 }")
    (record {
      gives = (1, two Add (neighbour 1 1) (number (whole 1)))
          ∷ (0, two Add (neighbour 1 0) (neighbour 1 1))
          ∷ [];
      delay = number (whole 100);
      condition = two (Cmp Less) now (number (whole 200));
      sets = [];
    })
    × reads (codes "{ ~p := 1; } { $b := 2; $b := 3; } 100 { f }")
    (record {
      gives = (1, number (whole 1)) ∷ [];
      delay = number (whole 100);
      condition = truth False;
      sets = (1, number (whole 2)) ∷ (1, number (whole 3)) ∷ [];
    })
    × reads (codes "1{$a:=-1;}100{t}")
    (record {
      gives = (0, number (whole 1)) ∷ [];
      delay = number (whole 100);
      condition = truth True;
      sets = (0, one Minus (number (whole 1))) ∷ [];
    })
    × reads (codes "(0,1) { $b := (0,1); } 100 { $b = 1 }")
    (record {
      gives = (0, neighbour 2 0) ∷ [];
      delay = number (whole 100);
      condition = two (Cmp Equal) (variable 1) (number (whole 1));
      sets = (1, neighbour 2 0) ∷ [];
    })

-- names may be words of the language
abbrev pub NamesMayBeWordsOfTheLanguage : Type 0
NamesMayBeWordsOfTheLanguage =
    ReadsAsRule (codes "{ $and + $t * $uniform } 100 { (0,0)~not = 1 and (0,0)~time = 2 }")
    (record {
      gives = (0, two Add (variable 0) (two Mul (variable 1) (variable 2))) ∷ [];
      delay = number (whole 100);
      condition = two And
          (two (Cmp Equal) (neighbour 1 1) (number (whole 1)))
          (two (Cmp Equal) (neighbour 1 2) (number (whole 2)));
      sets = [];
    })
    × ReadsAsRule
    (codes "{ ~power := 1; ~not := 2; ~out := 3; } { $t := 4; $and := 5; } 100 { not t }")
    (record {
      gives = (3, number (whole 1)) ∷ (1, number (whole 2)) ∷ (0, number (whole 3)) ∷ [];
      delay = number (whole 100);
      condition = one Not (truth True);
      sets = (1, number (whole 4)) ∷ (0, number (whole 5)) ∷ [];
    })

-- a space may have planes
abbrev pub ASpaceMayHavePlanes : Type 0
ASpaceMayHavePlanes =
    (rule_of_text space (codes "{ (0,0,-1) + (0,1,0) } 100 { t }")
    ≡ Ok (always (two Add (neighbour 0 0) (neighbour 1 0))))
    × (rule_of_text space (codes "{ (0,1) } 100 { t }") ≡ Err NotANeighbour)
    × (rule_of_text space (codes "{ (0,0,1) } 100 { t }") ≡ Err NotANeighbour)

pub record TextsAreRead : Type 0 where
  pub words_join_by_precedence : WordsJoinByPrecedence
  pub words_join_to_the_left : WordsJoinToTheLeft
  pub numbers_are_compared : NumbersAreCompared
  pub numbers_are_reckoned : NumbersAreReckoned
  pub signs_hold_one_operand : SignsHoldOneOperand
  pub what_stands_alone : WhatStandsAlone
  pub cells_have_a_place_and_a_port : CellsHaveAPlaceAndAPort
  pub functions_have_their_arguments : FunctionsHaveTheirArguments
  pub tests_are_conditions : TestsAreConditions
  pub a_value_is_plain_or_a_block : AValueIsPlainOrABlock
  pub a_delay_is_a_number_or_a_block : ADelayIsANumberOrABlock
  pub gives_and_sets_keep_their_order : GivesAndSetsKeepTheirOrder
  pub names_may_be_words_of_the_language : NamesMayBeWordsOfTheLanguage
  pub a_space_may_have_planes : ASpaceMayHavePlanes
