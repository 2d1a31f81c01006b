-- What is known of a rule, by what is known of its parts.
use Rattle.std.proofs.Common.{◌≡◌, Option, Some, None, List, map, subst}
use Rattle.std.specs.Prelude.{IfSome, is_some}
use Rattle.rule_tree.specs.Meaning.{Sight}
use Rattle.rule_forms.specs.declared.forms.Form.{Form}
use Rattle.rule_forms.specs.declared.numbered.NumberedForm.{NumberedForm}
use Rattle.rule_forms.specs.declared.known.Constant.{Constant}
use Rattle.rule_forms.specs.Forms.{expr_of_form}
use Rattle.rule_forms.specs.Numbered.{numbered_expression, rule_of_forms}
use Rattle.rule_forms.specs.Known.{AlwaysMakes, is_constant}
use Rattle.rule_forms.specs.Puts.{AlwaysPuts}
use Rattle.rule_forms.proofs.Puts.{always_gives}

-- what is put whatever a cell sees is given so, under any condition
makes : (gives : List NumberedForm) (delay condition : Form) (sets : List NumberedForm) (c : Constant)
    → AlwaysPuts (map numbered_expression gives) (expr_of_form delay) (map numbered_expression sets) c
    → AlwaysMakes (rule_of_forms gives delay condition sets) c
makes gives delay condition sets c puts =
    record {
      made = λ (s : Sight). always_gives (rule_of_forms gives delay condition sets) s c.given c.delay (puts.values s) (puts.waits.delay s) (puts.variables s);
      bounded = puts.waits.bounded;
    }

pub for_a_condition : (known : Option Constant) (lent gives : List NumberedForm)
    (delay condition : Form) (lent_sets sets : List NumberedForm)
    → lent ≡ gives → lent_sets ≡ sets
    → IfSome known (AlwaysPuts (map numbered_expression lent) (expr_of_form delay) (map numbered_expression lent_sets))
    → IfSome known (AlwaysMakes (rule_of_forms gives delay condition sets))
for_a_condition None lent gives delay condition lent_sets sets same same_sets h = h
for_a_condition (Some c) lent gives delay condition lent_sets sets same same_sets h =
    let P : List NumberedForm → Type 0 =
    λ gs. AlwaysMakes (rule_of_forms gs delay condition sets) c in
    let Q : List NumberedForm → Type 0 =
    λ xs. AlwaysMakes (rule_of_forms lent delay condition xs) c in
    subst P same (subst Q same_sets (makes lent delay condition lent_sets c h))

-- so is whether anything is known
pub each_condition : (known : Option Constant) (lent gives : List NumberedForm)
    (delay condition : Form) (lent_sets sets : List NumberedForm)
    → lent ≡ gives → lent_sets ≡ sets
    → ((other : Form) → is_some known ≡ is_constant (rule_of_forms lent delay other lent_sets))
    → is_some known ≡ is_constant (rule_of_forms gives delay condition sets)
each_condition known lent gives delay condition lent_sets sets same same_sets h =
    let P : List NumberedForm → Type 0 =
    λ gs. is_some known ≡ is_constant (rule_of_forms gs delay condition sets) in
    let Q : List NumberedForm → Type 0 =
    λ xs. is_some known ≡ is_constant (rule_of_forms lent delay condition xs) in
    subst P same (subst Q same_sets (h condition))
