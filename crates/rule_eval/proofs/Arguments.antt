-- Arguments of functions on the stack, one after another.
use Rattle.std.proofs.Common.{◌≡◌, ℕ, ◌+◌, ◌<◌, Option, Some, None, List, [], ◌∷◌, ◌++◌, length, drop, get_or, refl, sym, ap, ◌∙◌, append_assoc}
use Rattle.std.specs.Option.{unwrap_or}
use Rattle.std.proofs.Math.Seq.{drop-append_seam}
use Rattle.quantity.specs.Written.{for_some}
use Rattle.rule_tree.specs.declared.outcome.Answer.{Answer}
use Rattle.rule_tree.specs.Expression as E
use Rattle.rule_tree.specs.Expression.{Exprs}
use Rattle.rule_tree.specs.Meaning.{Sight, answer_in_front, meaning, meanings}
use Rattle.rule_forms.specs.declared.forms.Form.{Form}
use Rattle.rule_forms.specs.Forms.{expr_of_form, exprs_of_forms}
use Rattle.rule_eval.specs.Stacked.{stack_with_answers}
use Rattle.rule_forms.proofs.Stacks.{drop_here}

-- the expressions of forms from one of them on
pub forms_here : (forms : List Form) (i : ℕ) (f : Form) → i < length forms → f ≡ get_or forms i f → exprs_of_forms (drop i forms) ≡ E.cons (expr_of_form f) (exprs_of_forms (drop (i + 1) forms))
forms_here forms i f h is = ap exprs_of_forms (drop_here forms i f h is)

-- one argument more
pub one_stacked : (below : List Answer) (x : Answer) (o : Option (List Answer)) → stack_with_answers below (answer_in_front x o) ≡ stack_with_answers (below ++ x ∷ []) o
one_stacked below x None = refl
one_stacked below x (Some xs) = ap Some (sym (append_assoc below (x ∷ []) xs))

pub stacked_here : (forms : List Form) (i : ℕ) (f : Form) (s : Sight) (below : List Answer) (x : Answer) → i < length forms → f ≡ get_or forms i f → Some x ≡ meaning (expr_of_form f) s
    → stack_with_answers below (meanings (exprs_of_forms (drop i forms)) s) ≡ stack_with_answers (below ++ x ∷ []) (meanings (exprs_of_forms (drop (i + 1) forms)) s)
stacked_here forms i f s below x h is means =
    let rest = meanings (exprs_of_forms (drop (i + 1) forms)) s in
    ap (λ (es : Exprs). stack_with_answers below (meanings es s)) (forms_here forms i f h is)
    ∙ ap (λ (o : Option Answer). stack_with_answers below (for_some o (λ y. answer_in_front y rest))) (sym means) ∙ one_stacked below x rest

none_some : {A : Type 0} {x : A} → None ≡ Some x → ⊥
none_some e = cc

-- the arguments and what stands below them
pub arguments_above : (below after : List Answer) (o : Option (List Answer)) → stack_with_answers below o ≡ Some after → o ≡ Some (drop (length below) after)
arguments_above below after None h = absurd (none_some h)
arguments_above below after (Some xs) h =
    let same : below ++ xs ≡ after = ap (λ (p : Option (List Answer)). unwrap_or p []) h in ap Some (sym (drop-append_seam below xs) ∙ ap (drop (length below)) same)

pub no_arguments : (below : List Answer) (o : Option (List Answer)) → stack_with_answers below o ≡ None → o ≡ None
no_arguments below None h = refl
no_arguments below (Some xs) h = absurd (none_some (sym h))
