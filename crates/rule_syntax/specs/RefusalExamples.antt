-- Texts that are refused, computed: each table by its reason, and the last ones by which of two
-- reasons is told.
use Rattle.std.specs.Prelude.{◌≡◌, [], ◌∷◌, codes}
use Rattle.std.specs.declared.result.Result.TheVariants.{Err}
use Rattle.quantity.specs.Bytes.{Bytes}
use Rattle.rule_words.specs.declared.refusal.RuleRefusal.{RuleRefusal}
use Rattle.rule_words.specs.declared.refusal.RuleRefusal.TheVariants.{BadRule, BadSort}
use Rattle.rule_words.specs.declared.refusal.RuleRefusal.TheVariants.{RandomRefused}
use Rattle.rule_words.specs.declared.refusal.RuleRefusal.TheVariants.{UnknownFunction}
use Rattle.rule_words.specs.declared.refusal.RuleRefusal.TheVariants.{NotANeighbour}
use Rattle.rule_words.specs.declared.refusal.RuleRefusal.TheVariants.{UnknownVariable}
use Rattle.rule_words.specs.declared.refusal.RuleRefusal.TheVariants.{UnknownNeighbourPort}
use Rattle.rule_tree.specs.Scope.{Names}
use Rattle.rule_words.specs.RuleOf.{rule_of_text}
use Rattle.rule_syntax.specs.TextExamples.{with_names}

-- a line of cells with the variables a and b and the port p
abbrev pub group : Names
group = with_names (codes "a" ∷ codes "b" ∷ []) (codes "p" ∷ [])

abbrev pub refuses : Bytes → RuleRefusal → Type 0
refuses text why = rule_of_text group text ≡ Err why

-- pieces that are no tokens
abbrev pub PiecesThatAreNoTokens : Type 0
PiecesThatAreNoTokens =
    refuses (codes "1a 100 { t }") BadRule
    × refuses (codes "1 100 { 1 < 2and t }") BadRule
    × refuses (codes "1 100 { _x }") BadRule
    × refuses (codes "{ $_a } 100 { t }") BadRule
    × refuses (codes "1.5.2 100 { t }") BadRule
    × refuses (codes ". 100 { t }") BadRule
    × refuses (codes "{ t. } 100 { t }") BadRule
    × refuses (codes "{ abs5.5.5 } 100 { t }") BadRule
    × refuses (codes "12345678901 100 { t }") BadRule
    × refuses (codes "1 100 { t } #") BadRule
    × refuses (codes "1 100 { t & f }") BadRule
    × refuses (codes "1 100 { ! t }") BadRule
    × refuses (codes "1 { $a : = 1; } 100 { t }") BadRule
    × refuses (codes "1 100 { 1 ! = 2 }") BadRule

-- words that are random functions
abbrev pub WordsThatAreRandomFunctions : Type 0
WordsThatAreRandomFunctions =
    refuses (codes "{ uniform(0,1) } 100 { t }") RandomRefused
    × refuses (codes "{ random } 100 { t }") RandomRefused
    × refuses (codes "{ randint(5) } 100 { t }") RandomRefused
    × refuses (codes "{ randsign } 100 { t }") RandomRefused
    × refuses (codes "{ normal(0,1) } 100 { t }") RandomRefused
    × refuses (codes "{ exponential(1) } 100 { t }") RandomRefused
    × refuses (codes "{ poisson(1) } 100 { t }") RandomRefused
    × refuses (codes "{ binomial(1,0.5) } 100 { t }") RandomRefused
    × refuses (codes "{ beta(1,1) } 100 { t }") RandomRefused
    × refuses (codes "{ gamma(1,1) } 100 { t }") RandomRefused
    × refuses (codes "{ chi(1) } 100 { t }") RandomRefused
    × refuses (codes "1 { exponential(100) } { t }") RandomRefused
    × refuses (codes "1 100 { random > 0.5 }") RandomRefused
    × refuses (codes "1 { $a := random; } 100 { t }") RandomRefused
    × refuses (codes "{ ~p := random; } 100 { t }") RandomRefused

-- words that are none of the language
abbrev pub WordsThatAreNoneOfTheLanguage : Type 0
WordsThatAreNoneOfTheLanguage =
    refuses (codes "{ power(2,3) } 100 { t }") UnknownFunction
    × refuses (codes "1 100 { T }") UnknownFunction
    × refuses (codes "{ Uniform(0,1) } 100 { t }") UnknownFunction
    × refuses (codes "{ out } 100 { t }") UnknownFunction
    × refuses (codes "{ a } 100 { t }") UnknownFunction
    × refuses (codes "{ a.5 } 100 { t }") UnknownFunction
    × refuses (codes "{ p := 1; } 100 { t }") UnknownFunction
    × refuses (codes "{ time_ } 100 { t }") UnknownFunction
    × refuses (codes "{ abs2(1) } 100 { t }") UnknownFunction
    × refuses (codes "{ randomsign } 100 { t }") UnknownFunction
    × refuses (codes "{ portvalue(out) } 100 { t }") UnknownFunction
    × refuses (codes "true 100 { t }") UnknownFunction

-- rules with missing parts
abbrev pub RulesWithMissingParts : Type 0
RulesWithMissingParts =
    refuses (codes "") BadRule
    × refuses (codes "1") BadRule
    × refuses (codes "1 100") BadRule
    × refuses (codes "1 100 { t") BadRule
    × refuses (codes "1 100 t }") BadRule
    × refuses (codes "1 { t }") BadRule
    × refuses (codes "100 { t }") BadRule
    × refuses (codes "1 100 { }") BadRule
    × refuses (codes "1 { } { t }") BadRule
    × refuses (codes "{ } 100 { t }") BadRule
    × refuses (codes "1 100 t") BadRule
    × refuses (codes "{ 1 100 { t }") BadRule
    × refuses (codes "1 100 { t } { t }") BadRule
    × refuses (codes "1 100 { t } 1") BadRule
    × refuses (codes "1 2 3 { t }") BadRule
    × refuses (codes "1 100 { t; }") BadRule

-- values and delays of no form
abbrev pub ValuesAndDelaysOfNoForm : Type 0
ValuesAndDelaysOfNoForm =
    refuses (codes "t 100 { t }") BadRule
    × refuses (codes "time 100 { t }") BadRule
    × refuses (codes "$a 100 { t }") BadRule
    × refuses (codes "~p 100 { t }") BadRule
    × refuses (codes "--1 100 { t }") BadRule
    × refuses (codes "-? 100 { t }") BadRule
    × refuses (codes "-(0,0) 100 { t }") BadRule
    × refuses (codes "(1) 100 { t }") BadRule
    × refuses (codes "1 + 2 100 { t }") BadRule
    × refuses (codes "1 time { t }") BadRule
    × refuses (codes "1 ? { t }") BadRule
    × refuses (codes "1 (0,0) { t }") BadRule
    × refuses (codes "1 - - 5 { t }") BadRule

-- expressions of no form
abbrev pub ExpressionsOfNoForm : Type 0
ExpressionsOfNoForm =
    refuses (codes "1 100 { 1 < 2 < 3 }") BadRule
    × refuses (codes "1 100 { 1 = 2 != 3 }") BadRule
    × refuses (codes "1 100 { 1 = not t }") BadRule
    × refuses (codes "1 100 { t and }") BadRule
    × refuses (codes "1 100 { and t }") BadRule
    × refuses (codes "1 100 { t not f }") BadRule
    × refuses (codes "1 100 { t t }") BadRule
    × refuses (codes "1 100 { 1 => 2 }") BadRule
    × refuses (codes "1 100 { 1 = = 2 }") BadRule
    × refuses (codes "{ 1 2 } 100 { t }") BadRule
    × refuses (codes "{ 1 + } 100 { t }") BadRule
    × refuses (codes "{ * 1 } 100 { t }") BadRule
    × refuses (codes "{ 1 * / 2 } 100 { t }") BadRule
    × refuses (codes "{ ? ? } 100 { t }") BadRule
    × refuses (codes "{ t.5 } 100 { t }") BadRule
    × refuses (codes "{ $a.5 } 100 { t }") BadRule
    × refuses (codes "{ 1 { 2 } } 100 { t }") BadRule

-- parentheses of no form
abbrev pub ParenthesesOfNoForm : Type 0
ParenthesesOfNoForm =
    refuses (codes "{ (1 } 100 { t }") BadRule
    × refuses (codes "{ 1) } 100 { t }") BadRule
    × refuses (codes "{ )1( } 100 { t }") BadRule
    × refuses (codes "{ () } 100 { t }") BadRule
    × refuses (codes "{ (1)(2) } 100 { t }") BadRule
    × refuses (codes "{ (1)2 } 100 { t }") BadRule
    × refuses (codes "{ 1, 2 } 100 { t }") BadRule
    × refuses (codes "{ (0,0.5) } 100 { t }") BadRule
    × refuses (codes "{ (0,1+1) } 100 { t }") BadRule
    × refuses (codes "{ (0,--1) } 100 { t }") BadRule
    × refuses (codes "{ (0,0,0,0) } 100 { t }") BadRule
    × refuses (codes "{ (0,) } 100 { t }") BadRule
    × refuses (codes "{ (0,0)~ } 100 { t }") BadRule
    × refuses (codes "{ (0,0)~1 } 100 { t }") BadRule
    × refuses (codes "{ (0,0)~p~p } 100 { t }") BadRule
    × refuses (codes "{ ((0,0))~p } 100 { t }") BadRule
    × refuses (codes "{ $ } 100 { t }") BadRule
    × refuses (codes "{ $1 } 100 { t }") BadRule

-- calls of no form
abbrev pub CallsOfNoForm : Type 0
CallsOfNoForm =
    refuses (codes "{ abs(1,2) } 100 { t }") BadRule
    × refuses (codes "{ abs() } 100 { t }") BadRule
    × refuses (codes "{ abs } 100 { t }") BadRule
    × refuses (codes "{ abs 1 } 100 { t }") BadRule
    × refuses (codes "{ min(1) } 100 { t }") BadRule
    × refuses (codes "{ min(1,2,3) } 100 { t }") BadRule
    × refuses (codes "{ min(1,) } 100 { t }") BadRule
    × refuses (codes "{ min(,1) } 100 { t }") BadRule
    × refuses (codes "{ min((1,2)) } 100 { t }") BadRule
    × refuses (codes "{ if(t,1) } 100 { t }") BadRule
    × refuses (codes "{ if(t,1,2,3) } 100 { t }") BadRule
    × refuses (codes "{ ifu(t,1,2) } 100 { t }") BadRule
    × refuses (codes "{ truecount() } 100 { t }") BadRule
    × refuses (codes "{ time() } 100 { t }") BadRule
    × refuses (codes "{ portvalue } 100 { t }") BadRule
    × refuses (codes "{ portvalue(time) } 100 { t }") BadRule
    × refuses (codes "{ portvalue((thisport)) } 100 { t }") BadRule
    × refuses (codes "{ thisport } 100 { t }") BadRule
    × refuses (codes "{ imp } 100 { t }") BadRule
    × refuses (codes "{ not() } 100 { t }") BadRule

-- gives and sets of no form
abbrev pub GivesAndSetsOfNoForm : Type 0
GivesAndSetsOfNoForm =
    refuses (codes "{ ~p := 1 } 100 { t }") BadRule
    × refuses (codes "{ ~p = 1; } 100 { t }") BadRule
    × refuses (codes "{ ~p := 1; 2; } 100 { t }") BadRule
    × refuses (codes "{ ~p := 1;; } 100 { t }") BadRule
    × refuses (codes "{ ~p := ; } 100 { t }") BadRule
    × refuses (codes "{ ~p 1; } 100 { t }") BadRule
    × refuses (codes "{ ~ := 1; } 100 { t }") BadRule
    × refuses (codes "{ ~p := 1; $a := 2; } 100 { t }") BadRule
    × refuses (codes "{ $a := 1; } 100 { t }") BadRule
    × refuses (codes "{ 1; } 100 { t }") BadRule
    × refuses (codes "~p := 1; 100 { t }") BadRule
    × refuses (codes "1 { $a := 1 } 100 { t }") BadRule
    × refuses (codes "1 { $a = 1; } 100 { t }") BadRule
    × refuses (codes "1 { $a := 1; ~p := 1; } 100 { t }") BadRule
    × refuses (codes "1 { ~p := 1; } 100 { t }") BadRule
    × refuses (codes "1 { 2 := 1; } 100 { t }") BadRule
    × refuses (codes "1 { $a := 1; } { $b := 1; } 100 { t }") BadRule
    × refuses (codes "1 100 { $a := 1; } { t }") BadRule
    × refuses (codes "{ ~out := 1; ~out := 2; } 100 { t }") BadRule
    × refuses (codes "{ ~p := 1; ~out := 2; ~p := 3; } 100 { t }") BadRule

-- cells that are no neighbours
abbrev pub CellsThatAreNoNeighbours : Type 0
CellsThatAreNoNeighbours =
    refuses (codes "{ (0,2) } 100 { t }") NotANeighbour
    × refuses (codes "{ (0,-2) } 100 { t }") NotANeighbour
    × refuses (codes "{ (1,0) } 100 { t }") NotANeighbour
    × refuses (codes "{ (0,0,0) } 100 { t }") NotANeighbour
    × refuses (codes "{ (0,256) } 100 { t }") NotANeighbour
    × refuses (codes "{ (0,9999999999) } 100 { t }") NotANeighbour
    × refuses (codes "(0,2) 100 { t }") NotANeighbour
    × refuses (codes "{ (0,2)~p } 100 { t }") NotANeighbour
    × refuses (codes "{ ~p := (0,2); } 100 { t }") NotANeighbour
    × refuses (codes "1 { (0,2) } { t }") NotANeighbour
    × refuses (codes "1 100 { (0,2) = 1 }") NotANeighbour
    × refuses (codes "1 { $a := (0,2); } 100 { t }") NotANeighbour
    × refuses (codes "{ max(1, (0,2)) } 100 { t }") NotANeighbour

-- variables that are unknown
abbrev pub VariablesThatAreUnknown : Type 0
VariablesThatAreUnknown =
    refuses (codes "{ $z } 100 { t }") UnknownVariable
    × refuses (codes "{ $A } 100 { t }") UnknownVariable
    × refuses (codes "{ $p } 100 { t }") UnknownVariable
    × refuses (codes "{ $power } 100 { t }") UnknownVariable
    × refuses (codes "{ $uniform } 100 { t }") UnknownVariable
    × refuses (codes "{ ~p := $z; } 100 { t }") UnknownVariable
    × refuses (codes "1 { $z } { t }") UnknownVariable
    × refuses (codes "1 100 { $z = 1 }") UnknownVariable
    × refuses (codes "1 { $z := 1; } 100 { t }") UnknownVariable
    × refuses (codes "1 { $a := $z; } 100 { t }") UnknownVariable

-- ports that are unknown
abbrev pub PortsThatAreUnknown : Type 0
PortsThatAreUnknown =
    refuses (codes "{ ~q := 1; } 100 { t }") UnknownNeighbourPort
    × refuses (codes "{ ~P := 1; } 100 { t }") UnknownNeighbourPort
    × refuses (codes "{ ~a := 1; } 100 { t }") UnknownNeighbourPort
    × refuses (codes "{ ~random := 1; } 100 { t }") UnknownNeighbourPort
    × refuses (codes "{ (0,0)~q } 100 { t }") UnknownNeighbourPort
    × refuses (codes "(0,0)~q 100 { t }") UnknownNeighbourPort
    × refuses (codes "1 { (0,0)~q } { t }") UnknownNeighbourPort
    × refuses (codes "1 100 { (0,0)~q = 1 }") UnknownNeighbourPort
    × refuses (codes "1 { $a := (0,0)~q; } 100 { t }") UnknownNeighbourPort

-- operands of a wrong sort
abbrev pub OperandsOfAWrongSort : Type 0
OperandsOfAWrongSort =
    refuses (codes "{ (0,0) + t } 100 { t }") BadSort
    × refuses (codes "{ t * 1 } 100 { t }") BadSort
    × refuses (codes "{ - t } 100 { t }") BadSort
    × refuses (codes "1 100 { not 1 }") BadSort
    × refuses (codes "1 100 { 1 and t }") BadSort
    × refuses (codes "1 100 { t imp 1 }") BadSort
    × refuses (codes "1 100 { t = t }") BadSort
    × refuses (codes "1 100 { (1 < 2) = t }") BadSort
    × refuses (codes "{ abs(t) } 100 { t }") BadSort
    × refuses (codes "{ min(1, t) } 100 { t }") BadSort
    × refuses (codes "{ if(1, 2, 3) } 100 { t }") BadSort
    × refuses (codes "{ if(t, t, 2) } 100 { t }") BadSort
    × refuses (codes "{ ifu(t, 1, 2, t) } 100 { t }") BadSort
    × refuses (codes "1 100 { even(t) }") BadSort

-- parts of a wrong sort
abbrev pub PartsOfAWrongSort : Type 0
PartsOfAWrongSort =
    refuses (codes "{ t } 100 { t }") BadSort
    × refuses (codes "{ even(1) } 100 { t }") BadSort
    × refuses (codes "{ 1 = 1 } 100 { t }") BadSort
    × refuses (codes "{ ~p := t; } 100 { t }") BadSort
    × refuses (codes "{ ~p := 1; ~out := f; } 100 { t }") BadSort
    × refuses (codes "1 { t } { t }") BadSort
    × refuses (codes "1 100 { 1 }") BadSort
    × refuses (codes "1 100 { $a }") BadSort
    × refuses (codes "1 100 { if(t, 1, 2) }") BadSort
    × refuses (codes "1 { $a := t; } 100 { t }") BadSort
    × refuses (codes "1 { $a := 1; $b := 1 = 1; } 100 { t }") BadSort

-- a piece that is no token comes first
abbrev pub APieceThatIsNoTokenComesFirst : Type 0
APieceThatIsNoTokenComesFirst =
    refuses (codes "{ power(2,3) } 1a { t }") BadRule
    × refuses (codes "{ uniform(0,1) } 100 { 1a }") BadRule
    × refuses (codes "{ (0,2) } 1a { t }") BadRule
    × refuses (codes "{ $z } 1a { t }") BadRule
    × refuses (codes "{ ~q := 1; } 1a { t }") BadRule
    × refuses (codes "{ t } 1a { t }") BadRule

-- the first strange word comes next
abbrev pub TheFirstStrangeWordComesNext : Type 0
TheFirstStrangeWordComesNext =
    refuses (codes "{ power(uniform(0,1),2) } 100 { t }") UnknownFunction
    × refuses (codes "{ uniform(power(0,1),2) } 100 { t }") RandomRefused
    × refuses (codes "{ uniform(0,1) } 100 { T }") RandomRefused
    × refuses (codes "{ 1 } 100 { T or random > 1 }") UnknownFunction
    × refuses (codes "{ $power + uniform(0,1) } 100 { t }") RandomRefused
    × refuses (codes "{ $uniform + power(0,1) } 100 { t }") UnknownFunction
    × refuses (codes "{ (0,0)~power + uniform(0,1) } 100 { t }") RandomRefused
    × refuses (codes "{ abs(power) } 100 { random }") UnknownFunction
    × refuses (codes "power") UnknownFunction
    × refuses (codes "random 100") RandomRefused
    × refuses (codes "1 100 { t } uniform") RandomRefused
    × refuses (codes "{ ~p := 1; ~p := power; } 100 { t }") UnknownFunction
    × refuses (codes "{ (0,2) + power(1,2) } 100 { t }") UnknownFunction
    × refuses (codes "{ (0,2) + random } 100 { t }") RandomRefused
    × refuses (codes "{ $z + power } 100 { t }") UnknownFunction
    × refuses (codes "{ $z + random } 100 { t }") RandomRefused
    × refuses (codes "{ ~q := power; } 100 { t }") UnknownFunction
    × refuses (codes "{ ~q := random; } 100 { t }") RandomRefused
    × refuses (codes "{ t + power } 100 { t }") UnknownFunction
    × refuses (codes "{ t + random } 100 { t }") RandomRefused

-- tokens that are no rule come before names
abbrev pub TokensThatAreNoRuleComeBeforeNames : Type 0
TokensThatAreNoRuleComeBeforeNames =
    refuses (codes "{ (0,2) } 100") BadRule
    × refuses (codes "{ $z } 100") BadRule
    × refuses (codes "{ ~q := 1 } 100 { t }") BadRule
    × refuses (codes "{ (0,0)~q } 100") BadRule
    × refuses (codes "{ t } 100") BadRule
    × refuses (codes "{ abs((0,2), 1) } 100 { t }") BadRule
    × refuses (codes "{ ~p := (0,2); ~p := 1; } 100 { t }") BadRule
    × refuses (codes "{ ~p := $z; ~p := 1; } 100 { t }") BadRule
    × refuses (codes "{ ~p := (0,0)~q; ~p := 1; } 100 { t }") BadRule
    × refuses (codes "{ ~q := 1; ~q := 1; } 100 { t }") BadRule
    × refuses (codes "{ ~p := t; ~p := 1; } 100 { t }") BadRule

-- names come by kind before sorts
abbrev pub NamesComeByKindBeforeSorts : Type 0
NamesComeByKindBeforeSorts =
    refuses (codes "{ $z + (0,2) } 100 { t }") NotANeighbour
    × refuses (codes "{ $z } 100 { (0,2) = 1 }") NotANeighbour
    × refuses (codes "1 { $z := (0,2); } 100 { t }") NotANeighbour
    × refuses (codes "{ (0,2)~q } 100 { t }") NotANeighbour
    × refuses (codes "{ ~q := (0,2); } 100 { t }") NotANeighbour
    × refuses (codes "{ (0,0)~q } 100 { (0,2) = 1 }") NotANeighbour
    × refuses (codes "{ t + (0,2) } 100 { t }") NotANeighbour
    × refuses (codes "{ t } 100 { (0,2) = 1 }") NotANeighbour
    × refuses (codes "{ ~q := $z; } 100 { t }") UnknownVariable
    × refuses (codes "{ (0,0)~q + $z } 100 { t }") UnknownVariable
    × refuses (codes "{ ~q := 1; } { $z := 1; } 100 { t }") UnknownVariable
    × refuses (codes "{ t + $z } 100 { t }") UnknownVariable
    × refuses (codes "1 { $z := t; } 100 { t }") UnknownVariable
    × refuses (codes "{ ~q := t; } 100 { t }") UnknownNeighbourPort
    × refuses (codes "{ (0,0)~q + t } 100 { t }") UnknownNeighbourPort
    × refuses (codes "{ t } 100 { (0,0)~q = 1 }") UnknownNeighbourPort

pub record TextsAreRefused : Type 0 where
  pub pieces_that_are_no_tokens : PiecesThatAreNoTokens
  pub words_that_are_random_functions : WordsThatAreRandomFunctions
  pub words_that_are_none_of_the_language : WordsThatAreNoneOfTheLanguage
  pub rules_with_missing_parts : RulesWithMissingParts
  pub values_and_delays_of_no_form : ValuesAndDelaysOfNoForm
  pub expressions_of_no_form : ExpressionsOfNoForm
  pub parentheses_of_no_form : ParenthesesOfNoForm
  pub calls_of_no_form : CallsOfNoForm
  pub gives_and_sets_of_no_form : GivesAndSetsOfNoForm
  pub cells_that_are_no_neighbours : CellsThatAreNoNeighbours
  pub variables_that_are_unknown : VariablesThatAreUnknown
  pub ports_that_are_unknown : PortsThatAreUnknown
  pub operands_of_a_wrong_sort : OperandsOfAWrongSort
  pub parts_of_a_wrong_sort : PartsOfAWrongSort
  pub a_piece_that_is_no_token_comes_first : APieceThatIsNoTokenComesFirst
  pub the_first_strange_word_comes_next : TheFirstStrangeWordComesNext
  pub tokens_that_are_no_rule_come_before_names : TokensThatAreNoRuleComeBeforeNames
  pub names_come_by_kind_before_sorts : NamesComeByKindBeforeSorts
