use Rattle.std.proofs.Common.{◌≡◌, ◌+◌, ◌≤◌, Some, None, Err, List, vec_len, vec_capacity, subst, sym, ap, ◌∙◌, rules, refl}
use Rattle.std.specs.Option.{option_map}
use Rattle.std.specs.Result.{result_ok}
use Rattle.quantity.specs.declared.value.Value.{Value}
use Rattle.rule_tree.specs.Expression as E
use Rattle.rule_tree.specs.Expression.{Expr}
use Rattle.rule_tree.specs.Meaning.{number_answered}
use Rattle.rule_forms.specs.declared.forms.PortAt.{PortAt}
use Rattle.rule_forms.specs.declared.forms.Form.{Form}
use Rattle.rule_forms.specs.declared.forms.Form.TheViews.{the_lemmas}
use Rattle.rule_eval.specs.Seen.{neighbours_of, sight_with}
use Rattle.rule_eval.specs.Numbers.{number_meant}
use Rattle.rule_forms.specs.Depth.{depth_of}
use Rattle.rule_forms.specs.Forms.{expr_of_form}
use Rattle.rule_eval.specs.Sums.{port_value_at, sum_from}
use Rattle.rule_eval.proofs.FormSums.{sum_means}
use Rattle.rule_eval.proofs.ByNumbers.{number_back, number_two, left_too_large}
use Rattle.rule_eval.proofs.Rooms.{left_room, right_room, moved_room, same_height}
use Rattle.rule_eval.proofs.numbers.+number_of.Goals as goal

pub number_of-requires : goal.number_of-requires
number_of-requires t c =
    let h = vec_len c.args.answers.now in
    let room = vec_capacity c.args.answers.now in
    let part = left_room c.in-Two.operator (expr_of_form c.args.form.now) (expr_of_form c.in-Two.a.value) (expr_of_form c.in-Two.c.value) h room (ap expr_of_form c.in-Two.is) c.requires.room in
    let fits = subst (λ (f : Form). h + depth_of (expr_of_form f) ≤ room) (sym c.deref-in-Two.ensures) part in
    (search (rules, the_lemmas), (c.requires.view, (c.requires.counts, fits)))

pub number_of-requires-in-None : goal.number_of-requires-in-None
number_of-requires-in-None t c =
    let before = c.args.answers.now in
    let now = c.number_of.new.answers in
    let part = right_room c.in-Two.operator (expr_of_form c.args.form.now) (expr_of_form c.in-Two.a.value) (expr_of_form c.in-Two.c.value) (vec_len before) (vec_capacity before) (ap expr_of_form c.in-Two.is) c.requires.room in
    let moved = moved_room (depth_of (expr_of_form c.in-Two.c.value)) (vec_len before) (vec_len now) (vec_capacity before) (vec_capacity now) (same_height before now c.in_ok-a-in-Two.ensures.stack) c.in_ok-a-in-Two.ensures.capacity part in
    let fits = subst (λ (f : Form). vec_len now + depth_of (expr_of_form f) ≤ vec_capacity now) (sym c.deref-in-None.ensures) moved in
    (search (rules, the_lemmas), (c.requires.view, (c.in_ok-a-in-Two.ensures.counts, fits)))

pub returns-in-Neighbour-clause-value : goal.returns-in-Neighbour-clause-value
returns-in-Neighbour-clause-value t c =
    let s = sight_with c.args.view.now c.args.variables.now in
    ap (λ (v : Value). Some v) c.neighbour.ensures
    ∙ sym (ap (λ (f : Form). number_meant (expr_of_form f) s) c.in-Neighbour.is)

pub returns-in-Sum-clause-value : goal.returns-in-Sum-clause-value
returns-in-Sum-clause-value t c =
    let s = sight_with c.args.view.now c.args.variables.now in
    let nbs = neighbours_of c.args.view.now in
    let first = port_value_at nbs c.in-Sum.k c.in-Sum.port in
    let total = sum_from first c.in-Sum.more.items nbs in
    c.sum.ensures ∙ ap (λ (v : Value). sum_from v c.deref.result.now nbs) c.neighbour-in-Sum.ensures ∙ ap (λ (ns : List PortAt). sum_from first ns nbs) c.deref.ensures.value
    ∙ sym (ap (λ (f : Form). number_meant (expr_of_form f) s) c.in-Sum.is
    ∙ ap (option_map number_answered) (sum_means c.in-Sum.more.items (E.neighbour c.in-Sum.k c.in-Sum.port) first s refl) ∙ number_back total)

pub returns-in_err-a-in-Two-clause-value : goal.returns-in_err-a-in-Two-clause-value
returns-in_err-a-in-Two-clause-value t c =
    let s = sight_with c.args.view.now c.args.variables.now in
    let own = c.in_err-a-in-Two.ensures.value ∙ ap (λ (f : Form). number_meant (expr_of_form f) s) c.deref-in-Two.ensures in
    let stops : c.from_residual.result ≡ Err c.in_err-a-in-Two.field-0.0 = search rules in
    ap result_ok stops
    ∙ sym (ap (λ (f : Form). number_meant (expr_of_form f) s) c.in-Two.is ∙ left_too_large c.in-Two.operator (expr_of_form c.in-Two.a.value) (expr_of_form c.in-Two.c.value) s own)

pub returns-in-Some-clause-value : goal.returns-in-Some-clause-value
returns-in-Some-clause-value t c =
    let s = sight_with c.args.view.now c.args.variables.now in
    let left = c.in_ok-a-in-Two.ensures.value ∙ ap (λ (f : Form). number_meant (expr_of_form f) s) c.deref-in-Two.ensures in
    let right = sym (ap (λ (e : Expr). number_meant e s) c.in-Some.ensures.value) ∙ ap (λ (f : Form). number_meant (expr_of_form f) s) c.deref-in-Two-2.ensures in
    c.arithmetic.ensures
    ∙ sym (ap (λ (f : Form). number_meant (expr_of_form f) s) c.in-Two.is ∙ number_two c.in-Two.operator (expr_of_form c.in-Two.a.value) (expr_of_form c.in-Two.c.value) s c.in_ok-a-in-Two.a (Some c.in-Some.number) left right)

pub returns-in_err-c-in-None-clause-value : goal.returns-in_err-c-in-None-clause-value
returns-in_err-c-in-None-clause-value t c =
    let s = sight_with c.args.view.now c.args.variables.now in
    let left = c.in_ok-a-in-Two.ensures.value ∙ ap (λ (f : Form). number_meant (expr_of_form f) s) c.deref-in-Two.ensures in
    let right = c.in_err-c-in-None.ensures.value ∙ ap (λ (f : Form). number_meant (expr_of_form f) s) c.deref-in-None.ensures in
    let stops : c.from_residual-in_err-c-in-None.result ≡ Err c.in_err-c-in-None.field-0.0 = search rules in
    ap result_ok stops
    ∙ sym (ap (λ (f : Form). number_meant (expr_of_form f) s) c.in-Two.is ∙ number_two c.in-Two.operator (expr_of_form c.in-Two.a.value) (expr_of_form c.in-Two.c.value) s c.in_ok-a-in-Two.a None left right)

pub returns-in_ok-c-in-None-clause-value : goal.returns-in_ok-c-in-None-clause-value
returns-in_ok-c-in-None-clause-value t c =
    let s = sight_with c.args.view.now c.args.variables.now in
    let left = c.in_ok-a-in-Two.ensures.value ∙ ap (λ (f : Form). number_meant (expr_of_form f) s) c.deref-in-Two.ensures in
    let right = c.in_ok-c-in-None.ensures.value ∙ ap (λ (f : Form). number_meant (expr_of_form f) s) c.deref-in-None.ensures in
    c.arithmetic-in-None.ensures
    ∙ sym (ap (λ (f : Form). number_meant (expr_of_form f) s) c.in-Two.is ∙ number_two c.in-Two.operator (expr_of_form c.in-Two.a.value) (expr_of_form c.in-Two.c.value) s c.in_ok-a-in-Two.a (Some c.in_ok-c-in-None.c) left right)
