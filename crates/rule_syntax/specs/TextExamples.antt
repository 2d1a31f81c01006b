-- Rules that are read and refused.
use Rattle.std.specs.Prelude.{◌++◌, replicate, ◌≡◌, ℕ, zero, suc, true, false, Some, None, List, []}
use Rattle.std.specs.Prelude.{◌∷◌, ℤ, pos, negsuc, codes}
use Rattle.std.specs.declared.result.Result.TheVariants.{Ok, Err}
use Rattle.quantity.specs.declared.place.Offset.{Offset}
use Rattle.quantity.specs.declared.truth.Tri.TheVariants.{True}
use Rattle.quantity.specs.declared.value.Value.TheVariants.{Num}
use Rattle.quantity.specs.declared.value.Compare.TheVariants.{Equal, Greater}
use Rattle.rule_tree.specs.declared.node.Unary.TheVariants.{Plus, Minus, Not}
use Rattle.rule_tree.specs.declared.node.Binary.TheVariants.{Imp, Or, And, Cmp, Add, Sub, Mul}
use Rattle.rule_tree.specs.declared.node.Count.TheVariants.{Ones}
use Rattle.rule_tree.specs.declared.function.Function.TheVariants.{Min}
use Rattle.rule_tree.specs.Expression.{Expr, Rule, number, truth, neighbour, variable, now, counted}
use Rattle.rule_tree.specs.Expression.{one, two, call, nil, cons}
use Rattle.rule_tree.specs.Meaning.{whole}
use Rattle.quantity.specs.Bytes.{Bytes}
use Rattle.rule_words.specs.declared.refusal.RuleRefusal.{RuleRefusal}
use Rattle.rule_words.specs.declared.refusal.RuleRefusal.TheVariants.{TooLarge, BadRule, BadSort}
use Rattle.rule_words.specs.declared.refusal.RuleRefusal.TheVariants.{RandomRefused}
use Rattle.rule_words.specs.declared.refusal.RuleRefusal.TheVariants.{UnknownFunction}
use Rattle.rule_words.specs.declared.refusal.RuleRefusal.TheVariants.{NotANeighbour}
use Rattle.rule_words.specs.declared.refusal.RuleRefusal.TheVariants.{UnknownVariable}
use Rattle.rule_words.specs.declared.refusal.RuleRefusal.TheVariants.{UnknownNeighbourPort}
use Rattle.rule_words.specs.Tokens.{word, number as number', mark, tokens, is_large}
use Rattle.rule_tree.specs.Scope.{Names}
use Rattle.rule_words.specs.RuleOf.{rule_of_text}

abbrev pub offset : ℤ → ℤ → Offset
offset row column = record { row = row; column = column; plane = pos 0 }

-- a line of cells that see the one to the left, themselves and the one to the right
abbrev pub line : Names
line =
    record {
      offsets = offset (pos 0) (negsuc 0) ∷ offset (pos 0) (pos 0) ∷ offset (pos 0) (pos 1) ∷ [];
      dims = 2;
      variables = [];
      ports = [];
    }

abbrev pub with_names : List Bytes → List Bytes → Names
with_names variables ports = record line { variables = variables; ports = ports }

abbrev pub always : Expr → Rule
always v =
    record { gives = (0, v) ∷ []; delay = number (whole 100); condition = truth True; sets = [] }

abbrev pub refuses : Bytes → RuleRefusal → Type 0
refuses text kind = rule_of_text line text ≡ Err kind

-- 1 in so many parentheses
abbrev pub nested_text : ℕ → Bytes
nested_text n = codes "{ " ++ replicate n 40 ++ codes "1" ++ replicate n 41 ++ codes " } 100 { t }"

pub record DepthIsBounded : Type 0 where
  pub many : rule_of_text line (nested_text 12) ≡ Ok (always (number (whole 1)))
  pub too_many : refuses (nested_text 65) TooLarge
  pub most_and_no_rule : refuses (nested_text 64 ++ codes "1") BadRule

-- so many times + 1
abbrev pub added_ones : ℕ → Bytes
added_ones zero = []
added_ones (suc n) = codes " + 1" ++ added_ones n

abbrev pub in_braces : Bytes → Bytes
in_braces value = codes "{" ++ value ++ codes " } 100 { t }"

-- the sum of so many ones, grouped to the left, behind a sign
abbrev pub sum_of_ones : ℕ → Expr
sum_of_ones zero = one Plus (number (whole 1))
sum_of_ones (suc n) = two Add (sum_of_ones n) (number (whole 1))

pub record TokensAreBounded : Type 0 where
  pub many : rule_of_text line (in_braces (added_ones 40)) ≡ Ok (always (sum_of_ones 39))
  pub too_many : refuses (in_braces (codes " 1" ++ added_ones 2045)) TooLarge
  pub most : is_large (replicate 4096 (word (codes "t"))) ≡ false
  pub one_more : is_large (replicate 4097 (word (codes "t"))) ≡ true

pub record RulesAreRead : Type 0 where
  pub pieces : tokens (codes "a1.5<=$b :=1.")
      ≡ Some (word (codes "a1") ∷ number' (codes ".5") ∷ mark (codes "<=") ∷ mark (codes "$")
      ∷ word (codes "b") ∷ mark (codes ":=") ∷ number' (codes "1.") ∷ [])
  pub no_piece : tokens (codes "1a") ≡ None
  pub plain : rule_of_text line (codes "1 100 { t }") ≡ Ok (always (number (whole 1)))
  pub minus : rule_of_text line (codes "-1 100 { t }") ≡ Ok (always (number (Num (negsuc 99999))))
  pub cell : rule_of_text line (codes "(0,-1) 100 { t }") ≡ Ok (always (neighbour 0 0))
  pub to_the_left : rule_of_text line (codes "{ 1 - 2 - -3 * 4 } 100 { t }") ≡ Ok (always
      (two Sub (two Sub (number (whole 1)) (number (whole 2)))
      (two Mul (one Minus (number (whole 3))) (number (whole 4)))))
  pub logic : rule_of_text line (codes "1 100 { not t and time > 3 or t imp t }") ≡ Ok (record {
    gives = (0, number (whole 1)) ∷ [];
    delay = number (whole 100);
    sets = [];
    condition =
        two Imp (two Or (two And (one Not (truth True)) (two (Cmp Greater) now (number (whole 3))))
        (truth True)) (truth True);
  })
  pub counts : rule_of_text line (codes "1 100 { truecount = 1 }") ≡ Ok (record {
    gives = (0, number (whole 1)) ∷ [];
    delay = number (whole 100);
    sets = [];
    condition = two (Cmp Equal) (counted Ones) (number (whole 1));
  })
  pub calls : rule_of_text line (codes "{ min((0,0), (1 + 2)) } 100 { t }")
      ≡ Ok (always (call Min (cons (neighbour 1 0)
      (cons (two Add (number (whole 1)) (number (whole 2))) nil))))
  pub sets : rule_of_text (with_names (codes "and" ∷ codes "b" ∷ []) [])
      (codes "{ $b + $and } { $and := $and + 1; $b := $and; } 100 { t }") ≡
      Ok (record (always (two Add (variable 1) (variable 0))) {
        sets = (0, two Add (variable 0) (number (whole 1))) ∷ (1, variable 0) ∷ [];
      })
  pub gives : rule_of_text (with_names [] (codes "p" ∷ []))
      (codes "{ ~p := (0,0)~p + 1; ~out := (0,0) + (0,0)~p; } 100 { t }") ≡
      Ok (record (always now) {
        gives = (1, two Add (neighbour 1 1) (number (whole 1)))
            ∷ (0, two Add (neighbour 1 0) (neighbour 1 1)) ∷ [];
      })
  pub random : refuses (codes "{ uniform(0,1) } 100 { t }") RandomRefused
  pub stranger : refuses (codes "{ (0,2) } 100 { t }") NotANeighbour
  pub deep : refuses (codes "{ (0,0,0) } 100 { t }") NotANeighbour
  pub sort : refuses (codes "{ (0,0) + t } 100 { t }") BadSort
  pub unknown : refuses (codes "{ power(2,3) } 100 { t }") UnknownFunction
  pub short : refuses (codes "1 100") BadRule
  pub no_token : refuses (codes "{ power } 1a { t }") BadRule
  pub no_variable : refuses (codes "{ $z } 100 { t }") UnknownVariable
  pub no_port : refuses (codes "{ ~q := 1; } 100 { t }") UnknownNeighbourPort
  pub twice : refuses (codes "{ ~q := 1; ~q := 2; } 100 { t }") BadRule
  pub arguments : refuses (codes "{ abs(1,2) } 100 { t }") BadRule
  pub compared_twice : refuses (codes "1 100 { 1 < 2 < 3 }") BadRule
