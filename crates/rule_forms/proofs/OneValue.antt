-- One value that is given alone.
use Rattle.std.proofs.Common.{◌≡◌, ℕ, Option, Some, None, List, [], ◌∷◌, map, length, refl, sym, ◌∙◌, ap, arith}
use Rattle.std.specs.Prelude.{◌==◌, Bool, true, false, IfSome}
use Rattle.std.specs.Borrow.{Bor}
use Rattle.std.proofs.lemmas.Bool.Decides.{nat_tests}
use Rattle.rule_tree.specs.Expression.{Expr}
use Rattle.rule_forms.specs.declared.forms.Form.{Form}
use Rattle.rule_forms.specs.declared.numbered.NumberedForm.{NumberedForm}
use Rattle.rule_forms.specs.Forms.{expr_of_form}
use Rattle.rule_forms.specs.Numbered.{numbered_expression}
use Rattle.rule_forms.specs.Known.{StandsAlone, is_alone_in, is_out_alone}

nothing_set : (sets : List NumberedForm) → (length sets == 0) ≡ true → map numbered_expression sets ≡ []
nothing_set [] h = refl
nothing_set (x ∷ sets) h = absurd (grind (arith, nat_tests))

pub something_set : (gives : List (ℕ × Expr)) (sets : List NumberedForm) → (length sets == 0) ≡ false
    → (let b : Bool = false in b ≡ is_alone_in gives (map numbered_expression sets))
something_set gives [] h = absurd cc
something_set gives (x ∷ sets) h = refl

-- where nothing is set the value stands alone
pub stands_alone : (o : Option (Bor Form)) (gives : List (ℕ × Expr)) (sets : List NumberedForm) → (length sets == 0) ≡ true
    → IfSome o (λ f. gives ≡ (0, expr_of_form f.now) ∷ [])
    → IfSome o (λ f. StandsAlone (expr_of_form f.now) gives (map numbered_expression sets))
stands_alone None gives sets none h = tt
stands_alone (Some f) gives sets none h = record { alone = h; nothing = nothing_set sets none }

pub each_alone : (b : Bool) (gives : List (ℕ × Expr)) (sets : List NumberedForm) → (length sets == 0) ≡ true
    → b ≡ is_out_alone gives → b ≡ is_alone_in gives (map numbered_expression sets)
each_alone b gives sets none h =
    h ∙ sym (ap (λ (xs : List (ℕ × Expr)). is_alone_in gives xs) (nothing_set sets none))
