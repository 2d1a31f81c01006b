use Rattle.std.proofs.Common.{◌≡◌, ◌+◌, ◌≤◌, Option, Some, None, Ok, Err, List, [], ◌∷◌, ◌++◌, length, drop, vec_len, vec_capacity, subst, sym, ap, ◌∙◌, rules, arith, refl}
use Rattle.std.specs.Prelude.{OnOk}
use Rattle.std.proofs.lemmas.Grind.{common_steps}
use Rattle.std.proofs.lemmas.Result.{IfOk-from_err, on_ok_weaker}
use Rattle.std.specs.declared.result.Result.{Result}
use Rattle.std.specs.Result.{result_ok}
use Rattle.quantity.specs.declared.value.Value.{Value}
use Rattle.quantity.specs.declared.truth.Tri.{Tri}
use Rattle.quantity.specs.Written.{for_some}
use Rattle.rule_tree.specs.declared.outcome.Answer.{Answer}
use Rattle.rule_tree.specs.declared.outcome.Answer.TheVariants.{Num, Logic}
use Rattle.rule_tree.specs.declared.node.Unary.{Unary}
use Rattle.rule_tree.specs.declared.node.Binary.{Binary}
use Rattle.rule_tree.specs.Expression as E
use Rattle.rule_tree.specs.Expression.{Expr}
use Rattle.rule_tree.specs.Meaning.{Sight, call_meaning, as_answer, value_at, whole, one_meaning, two_meaning, meaning, meanings}
use Rattle.rule_forms.specs.declared.forms.PortAt.{PortAt}
use Rattle.rule_forms.specs.declared.forms.Form.{Form}
use Rattle.rule_forms.specs.declared.forms.Form.TheViews.{the_lemmas}
use Rattle.rule_eval.specs.Stacked.{stack_with_answers}
use Rattle.rule_eval.specs.Seen.{neighbours_of, sight_with}
use Rattle.rule_forms.specs.Depth.{depth_of, depth_of_all}
use Rattle.rule_forms.specs.Forms.{expr_of_form, exprs_of_forms}
use Rattle.rule_eval.specs.Sums.{port_value_at, sum_from}
use Rattle.rule_forms.proofs.Stacks.{slice_rest}
use Rattle.rule_forms.proofs.FormTrees.{form_call}
use Rattle.rule_eval.proofs.FormSums.{sum_means}
use Rattle.rule_eval.proofs.FormTests.{test_means}
use Rattle.rule_eval.proofs.Rooms.{operand_room, left_room, right_room, arguments_room, first_room, rest_room, above_room, moved_room, same_height, one_higher}
use Rattle.rule_eval.proofs.Arguments.{forms_here, stacked_here, arguments_above, no_arguments}
use Rattle.rule_eval.proofs.answers.+answer.Goals as goal

-- operators over what their operands answer

one_means : (u : Unary) (a : Expr) (s : Sight) (o : Option Answer) → o ≡ meaning a s → meaning (E.one u a) s ≡ for_some o (one_meaning u)
one_means u a s o is = ap (λ (p : Option Answer). for_some p (one_meaning u)) (sym is)

-- a left operand that answers leaves what its right one answers
left_answers : (b : Binary) (a c : Expr) (s : Sight) (x : Answer) → Some x ≡ meaning a s → meaning (E.two b a c) s ≡ for_some (meaning c s) (two_meaning b x)
left_answers b a c s x left = ap (λ (p : Option Answer). for_some p (λ y. for_some (meaning c s) (two_meaning b y))) (sym left)

left_stops : (b : Binary) (a c : Expr) (s : Sight) → None ≡ meaning a s → meaning (E.two b a c) s ≡ None
left_stops b a c s none = ap (λ (p : Option Answer). for_some p (λ y. for_some (meaning c s) (two_meaning b y))) (sym none)

pub answer-answer-requires : goal.answer-answer-requires
answer-answer-requires t c =
    let h = vec_len c.args.answers.now in
    let room = vec_capacity c.args.answers.now in
    let part = operand_room c.in-One.operator (expr_of_form c.args.form.now) (expr_of_form c.in-One.a.value) h room (ap expr_of_form c.in-One.is) c.requires.room in
    let fits = subst (λ (f : Form). h + depth_of (expr_of_form f) ≤ room) (sym c.deref-in-One.ensures) part in
    (search (rules, the_lemmas), (c.requires.view, (c.requires.counts, fits)))

pub answer-answer-requires-in-Two : goal.answer-answer-requires-in-Two
answer-answer-requires-in-Two t c =
    let h = vec_len c.args.answers.now in
    let room = vec_capacity c.args.answers.now in
    let part = left_room c.in-Two.operator (expr_of_form c.args.form.now) (expr_of_form c.in-Two.a.value) (expr_of_form c.in-Two.c.value) h room (ap expr_of_form c.in-Two.is) c.requires.room in
    let fits = subst (λ (f : Form). h + depth_of (expr_of_form f) ≤ room) (sym c.deref-in-Two.ensures) part in
    (search (rules, the_lemmas), (c.requires.view, (c.requires.counts, fits)))

pub answer-answer_behind-requires : goal.answer-answer_behind-requires
answer-answer_behind-requires t c =
    let before = c.args.answers.now in
    let now = c.answer-in-Two.new.answers in
    let part = right_room c.in-Two.operator (expr_of_form c.args.form.now) (expr_of_form c.in-Two.a.value) (expr_of_form c.in-Two.c.value) (vec_len before) (vec_capacity before) (ap expr_of_form c.in-Two.is) c.requires.room in
    let moved = moved_room (depth_of (expr_of_form c.in-Two.c.value)) (vec_len before) (vec_len now) (vec_capacity before) (vec_capacity now) (same_height before now c.in_ok-a-in-Two.ensures.stack) c.in_ok-a-in-Two.ensures.capacity part in
    let fits = subst (λ (f : Form). vec_len now + depth_of (expr_of_form f) ≤ vec_capacity now) (sym c.deref-in-Two-2.ensures) moved in
    (search (rules, the_lemmas), (c.requires.view, (c.in_ok-a-in-Two.ensures.counts, fits)))

pub answer-stack_answers-requires : goal.answer-stack_answers-requires
answer-stack_answers-requires t c =
    let h = vec_len c.args.answers.now in
    let room = vec_capacity c.args.answers.now in
    let is = ap expr_of_form c.in-Call.is ∙ form_call c.in-Call.function c.in-Call.arguments in
    let part = arguments_room c.in-Call.function (expr_of_form c.args.form.now) (exprs_of_forms c.in-Call.arguments.items) h room is c.requires.room in
    let fits = subst (λ (fs : List Form). h + depth_of_all (exprs_of_forms fs) ≤ room) (sym c.deref-in-Call.ensures.value) part in
    (search (rules, the_lemmas), (c.requires.view, (c.requires.counts, fits)))

pub answer-returns-in_err-stack_answers-in-Call-clause-value : goal.answer-returns-in_err-stack_answers-in-Call-clause-value
answer-returns-in_err-stack_answers-in-Call-clause-value t c =
    let s = sight_with c.args.view.now c.args.variables.now in
    let f = c.in-Call.function in
    let is = ap expr_of_form c.in-Call.is ∙ form_call f c.in-Call.arguments in
    let given = ap (λ (fs : List Form). meanings (exprs_of_forms fs) s) c.deref-in-Call.ensures.value in
    let too_large = no_arguments c.args.answers.now.items (meanings (exprs_of_forms c.deref-in-Call.result.now) s) c.in_err-stack_answers-in-Call.ensures.value in
    let none : meaning (expr_of_form c.args.form.now) s ≡ None = ap (λ (e : Expr). meaning e s) is ∙ ap (λ (o : Option (List Answer)). for_some o (λ xs. call_meaning f xs s)) (sym given ∙ too_large) in
    let stops : result_ok c.from_residual-in_err-stack_answers-in-Call.result ≡ None = first_of (search rules, grind (arith, common_steps)) in
    stops ∙ sym none

pub answer-returns-in-Test-clause-value : goal.answer-returns-in-Test-clause-value
answer-returns-in-Test-clause-value t c =
    let s = sight_with c.args.view.now c.args.variables.now in
    ap (λ (t : Tri). Some (Logic t)) c.truth.ensures.value
    ∙ sym (ap (λ (f : Form). meaning (expr_of_form f) s) c.in-Test.is ∙ test_means c.in-Test.test s)

pub answer-returns-in-Sum-clause-value : goal.answer-returns-in-Sum-clause-value
answer-returns-in-Sum-clause-value t c =
    let s = sight_with c.args.view.now c.args.variables.now in
    let nbs = neighbours_of c.args.view.now in
    let first = port_value_at nbs c.in-Sum.k c.in-Sum.port in
    c.as_answer.ensures
    ∙ ap as_answer (c.sum.ensures ∙ ap (λ (v : Value). sum_from v c.deref.result.now nbs) c.neighbour-in-Sum.ensures ∙ ap (λ (ns : List PortAt). sum_from first ns nbs) c.deref.ensures.value)
    ∙ sym (ap (λ (f : Form). meaning (expr_of_form f) s) c.in-Sum.is ∙ sum_means c.in-Sum.more.items (E.neighbour c.in-Sum.k c.in-Sum.port) first s refl)

pub answer-returns-in_ok-stack_answers-in-Call-clause-value : goal.answer-returns-in_ok-stack_answers-in-Call-clause-value
answer-returns-in_ok-stack_answers-in-Call-clause-value t c =
    let s = sight_with c.args.view.now c.args.variables.now in
    let f = c.in-Call.function in
    let before = c.args.answers.now in
    let now = c.stack_answers.new.answers in
    let k = c.len-below.result in
    let is = ap expr_of_form c.in-Call.is ∙ form_call f c.in-Call.arguments in
    let given = ap (λ (fs : List Form). meanings (exprs_of_forms fs) s) c.deref-in-Call.ensures.value in
    let above = arguments_above before.items now.items (meanings (exprs_of_forms c.deref-in-Call.result.now) s) c.in_ok-stack_answers-in-Call.ensures.value in
    let height : length before.items ≡ k = sym before.ok.0 ∙ sym c.len-below.ensures in
    let slice = slice_rest c.deref-in-Call-2.result.now k ∙ ap (drop k) c.deref-in-Call-2.ensures.value in
    let arguments = sym given ∙ above ∙ ap (λ n. Some (drop n now.items)) height ∙ ap Some (sym slice) in
    sym (ap (λ (e : Expr). meaning e s) is ∙ ap (λ (o : Option (List Answer)). for_some o (λ xs. call_meaning f xs s)) arguments ∙ c.apply_function-made.ensures c.args.variables.now)

pub answer-returns-in-Number-clause-value : goal.answer-returns-in-Number-clause-value
answer-returns-in-Number-clause-value t c =
    let s = sight_with c.args.view.now c.args.variables.now in
    sym (ap (λ (f : Form). meaning (expr_of_form f) s) c.in-Number.is)

pub answer-returns-in-Neighbour-clause-value : goal.answer-returns-in-Neighbour-clause-value
answer-returns-in-Neighbour-clause-value t c =
    let s = sight_with c.args.view.now c.args.variables.now in
    ap (λ (v : Value). Some (Num v)) c.neighbour.ensures ∙ sym (ap (λ (f : Form). meaning (expr_of_form f) s) c.in-Neighbour.is)

pub answer-returns-in-Variable-clause-value : goal.answer-returns-in-Variable-clause-value
answer-returns-in-Variable-clause-value t c =
    let s = sight_with c.args.view.now c.args.variables.now in
    ap (λ (v : Value). Some (Num v)) (c.value_at.ensures ∙ ap (value_at c.args.variables.now) c.from.ensures) ∙ sym (ap (λ (f : Form). meaning (expr_of_form f) s) c.in-Variable.is)

pub answer-returns-in-Now-clause-value : goal.answer-returns-in-Now-clause-value
answer-returns-in-Now-clause-value t c =
    let s = sight_with c.args.view.now c.args.variables.now in
    ap (λ (v : Value). Some (Num v)) (c.whole.ensures ∙ ap whole (c.from-in-Now.ensures ∙ c.ms.ensures.value)) ∙ sym (ap (λ (f : Form). meaning (expr_of_form f) s) c.in-Now.is)

pub answer-returns-in-Counted-clause-value : goal.answer-returns-in-Counted-clause-value
answer-returns-in-Counted-clause-value t c =
    let s = sight_with c.args.view.now c.args.variables.now in
    ap (λ (v : Value). Some (Num v)) c.number_counted.ensures.value ∙ sym (ap (λ (f : Form). meaning (expr_of_form f) s) c.in-Counted.is)

pub answer-returns-in_err-a-in-One-clause-value : goal.answer-returns-in_err-a-in-One-clause-value
answer-returns-in_err-a-in-One-clause-value t c =
    let s = sight_with c.args.view.now c.args.variables.now in
    let own = c.in_err-a-in-One.ensures.value ∙ ap (λ (f : Form). meaning (expr_of_form f) s) c.deref-in-One.ensures in
    let stops : c.from_residual.result ≡ Err c.in_err-a-in-One.field-0.0 = search rules in
    ap result_ok stops
    ∙ sym (ap (λ (f : Form). meaning (expr_of_form f) s) c.in-One.is ∙ one_means c.in-One.operator (expr_of_form c.in-One.a.value) s None own)

pub answer-returns-in_ok-a-in-One-clause-value : goal.answer-returns-in_ok-a-in-One-clause-value
answer-returns-in_ok-a-in-One-clause-value t c =
    let s = sight_with c.args.view.now c.args.variables.now in
    let own = c.in_ok-a-in-One.ensures.value ∙ ap (λ (f : Form). meaning (expr_of_form f) s) c.deref-in-One.ensures in
    sym (ap (λ (f : Form). meaning (expr_of_form f) s) c.in-One.is ∙ one_means c.in-One.operator (expr_of_form c.in-One.a.value) s (Some c.in_ok-a-in-One.a) own ∙ c.apply_unary.ensures)

pub answer-returns-in_err-a-in-Two-clause-value : goal.answer-returns-in_err-a-in-Two-clause-value
answer-returns-in_err-a-in-Two-clause-value t c =
    let s = sight_with c.args.view.now c.args.variables.now in
    let own = c.in_err-a-in-Two.ensures.value ∙ ap (λ (f : Form). meaning (expr_of_form f) s) c.deref-in-Two.ensures in
    let stops : c.from_residual-in_err-a-in-Two.result ≡ Err c.in_err-a-in-Two.field-0.0 = search rules in
    ap result_ok stops
    ∙ sym (ap (λ (f : Form). meaning (expr_of_form f) s) c.in-Two.is ∙ left_stops c.in-Two.operator (expr_of_form c.in-Two.a.value) (expr_of_form c.in-Two.c.value) s own)

pub answer-returns-in_ok-a-in-Two-clause-value : goal.answer-returns-in_ok-a-in-Two-clause-value
answer-returns-in_ok-a-in-Two-clause-value t c =
    let s = sight_with c.args.view.now c.args.variables.now in
    let left = c.in_ok-a-in-Two.ensures.value ∙ ap (λ (f : Form). meaning (expr_of_form f) s) c.deref-in-Two.ensures in
    c.answer_behind.ensures.value
    ∙ ap (λ (f : Form). for_some (meaning (expr_of_form f) s) (two_meaning c.in-Two.operator c.in_ok-a-in-Two.a)) c.deref-in-Two-2.ensures
    ∙ sym (ap (λ (f : Form). meaning (expr_of_form f) s) c.in-Two.is ∙ left_answers c.in-Two.operator (expr_of_form c.in-Two.a.value) (expr_of_form c.in-Two.c.value) s c.in_ok-a-in-Two.a left)

pub answer_behind-returns-in-Some-clause-value : goal.answer_behind-returns-in-Some-clause-value
answer_behind-returns-in-Some-clause-value t c =
    let s = sight_with c.args.view.now c.args.variables.now in
    c.apply_binary.ensures
    ∙ sym (ap (λ (e : Expr). for_some (meaning e s) (two_meaning c.args.operator c.args.left)) c.in-Some.ensures.value)

pub answer_behind-returns-in_err-right-in-None-clause-value : goal.answer_behind-returns-in_err-right-in-None-clause-value
answer_behind-returns-in_err-right-in-None-clause-value t c =
    let stops : c.from_residual.result ≡ Err c.in_err-right-in-None.field-0.0 = search rules in
    ap result_ok stops
    ∙ ap (λ (o : Option Answer). for_some o (two_meaning c.args.operator c.args.left)) c.in_err-right-in-None.ensures.value

pub answer_behind-returns-in_ok-right-in-None-clause-value : goal.answer_behind-returns-in_ok-right-in-None-clause-value
answer_behind-returns-in_ok-right-in-None-clause-value t c =
    c.apply_binary-in-None.ensures
    ∙ ap (λ (o : Option Answer). for_some o (two_meaning c.args.operator c.args.left)) c.in_ok-right-in-None.ensures.value

pub stack_answers-answer-requires : goal.stack_answers-answer-requires
stack_answers-answer-requires t c =
    let now = c.loop-form.answers in
    let here = forms_here c.args.forms.now c.loop-form.form-index c.form-item.result c.loop-form-test.true c.form-item.is in
    let fits = first_room (exprs_of_forms (drop c.loop-form.form-index c.args.forms.now)) (expr_of_form c.form-item.result) (exprs_of_forms (drop (c.loop-form.form-index + 1) c.args.forms.now)) (vec_len now) (vec_capacity now) here c.loop-form.invariant.room in
    (search (rules, the_lemmas), (c.requires.view, (c.loop-form.invariant.counts, fits)))

pub stack_answers-push-requires : goal.stack_answers-push-requires
stack_answers-push-requires t c =
    let now = c.loop-form.answers in
    let here = forms_here c.args.forms.now c.loop-form.form-index c.form-item.result c.loop-form-test.true c.form-item.is in
    let rest = exprs_of_forms (drop (c.loop-form.form-index + 1) c.args.forms.now) in
    let behind = rest_room (exprs_of_forms (drop c.loop-form.form-index c.args.forms.now)) (expr_of_form c.form-item.result) rest (vec_len now) (vec_capacity now) here c.loop-form.invariant.room in
    let above = above_room rest (vec_len now + 1) (vec_capacity now) behind in
    let height = same_height now c.answer.new.answers c.in_ok-argument.ensures.stack in
    let capacity = c.in_ok-argument.ensures.capacity in omega (arith, above, height, capacity)

pub stack_answers-loop-form-preserved : goal.stack_answers-loop-form-preserved
stack_answers-loop-form-preserved t c =
    let s = sight_with c.args.view.now c.args.variables.now in
    let now = c.loop-form.answers in
    let i = c.loop-form.form-index in
    let argument = c.in_ok-argument.argument in
    let rest = exprs_of_forms (drop (i + 1) c.args.forms.now) in
    let here = forms_here c.args.forms.now i c.form-item.result c.loop-form-test.true c.form-item.is in
    let behind = rest_room (exprs_of_forms (drop i c.args.forms.now)) (expr_of_form c.form-item.result) rest (vec_len now) (vec_capacity now) here c.loop-form.invariant.room in
    let grown = c.push.ensures.stack ∙ ap (λ (st : List Answer). st ++ argument ∷ []) c.in_ok-argument.ensures.stack in
    let capacity = c.push.ensures.capacity ∙ c.in_ok-argument.ensures.capacity in
    let step = stacked_here c.args.forms.now i c.form-item.result s now.items argument c.loop-form-test.true c.form-item.is c.in_ok-argument.ensures.value in
    record {
      same = ap (λ (st : List Answer). stack_with_answers st (meanings rest s)) grown ∙ sym step ∙ c.loop-form.invariant.same;
      room = moved_room (depth_of_all rest) (vec_len now + 1) (vec_len c.push.new.answers) (vec_capacity now) (vec_capacity c.push.new.answers) (one_higher now c.push.new.answers argument grown) capacity behind;
      capacity = capacity ∙ c.loop-form.invariant.capacity;
      counts = c.in_ok-argument.ensures.counts;
    }

-- what stays as it was, return by return

in-any-case : {T E P : Type 0} (r : Result T E) → P → OnOk r P
in-any-case (Ok x) p = p
in-any-case (Err e) p = tt

pub answer-returns-in-Number-clause-stack : goal.answer-returns-in-Number-clause-stack
answer-returns-in-Number-clause-stack t c = refl

pub answer-returns-in-Number-clause-capacity : goal.answer-returns-in-Number-clause-capacity
answer-returns-in-Number-clause-capacity t c = refl

pub answer-returns-in-Number-clause-counts : goal.answer-returns-in-Number-clause-counts
answer-returns-in-Number-clause-counts t c = c.requires.counts

pub answer-returns-in-Neighbour-clause-stack : goal.answer-returns-in-Neighbour-clause-stack
answer-returns-in-Neighbour-clause-stack t c = refl

pub answer-returns-in-Neighbour-clause-capacity : goal.answer-returns-in-Neighbour-clause-capacity
answer-returns-in-Neighbour-clause-capacity t c = refl

pub answer-returns-in-Neighbour-clause-counts : goal.answer-returns-in-Neighbour-clause-counts
answer-returns-in-Neighbour-clause-counts t c = c.requires.counts

pub answer-returns-in-Variable-clause-stack : goal.answer-returns-in-Variable-clause-stack
answer-returns-in-Variable-clause-stack t c = refl

pub answer-returns-in-Variable-clause-capacity : goal.answer-returns-in-Variable-clause-capacity
answer-returns-in-Variable-clause-capacity t c = refl

pub answer-returns-in-Variable-clause-counts : goal.answer-returns-in-Variable-clause-counts
answer-returns-in-Variable-clause-counts t c = c.requires.counts

pub answer-returns-in-Now-clause-stack : goal.answer-returns-in-Now-clause-stack
answer-returns-in-Now-clause-stack t c = refl

pub answer-returns-in-Now-clause-capacity : goal.answer-returns-in-Now-clause-capacity
answer-returns-in-Now-clause-capacity t c = refl

pub answer-returns-in-Now-clause-counts : goal.answer-returns-in-Now-clause-counts
answer-returns-in-Now-clause-counts t c = c.requires.counts

pub answer-returns-in-PortValue-clause-stack : goal.answer-returns-in-PortValue-clause-stack
answer-returns-in-PortValue-clause-stack t c = refl

pub answer-returns-in-PortValue-clause-capacity : goal.answer-returns-in-PortValue-clause-capacity
answer-returns-in-PortValue-clause-capacity t c = refl

pub answer-returns-in-PortValue-clause-counts : goal.answer-returns-in-PortValue-clause-counts
answer-returns-in-PortValue-clause-counts t c = c.requires.counts

pub answer-returns-in-Counted-clause-stack : goal.answer-returns-in-Counted-clause-stack
answer-returns-in-Counted-clause-stack t c = refl

pub answer-returns-in-Counted-clause-capacity : goal.answer-returns-in-Counted-clause-capacity
answer-returns-in-Counted-clause-capacity t c = refl

pub answer-returns-in-Counted-clause-counts : goal.answer-returns-in-Counted-clause-counts
answer-returns-in-Counted-clause-counts t c = c.number_counted.ensures.counts

pub answer-returns-in-Test-clause-stack : goal.answer-returns-in-Test-clause-stack
answer-returns-in-Test-clause-stack t c = refl

pub answer-returns-in-Test-clause-capacity : goal.answer-returns-in-Test-clause-capacity
answer-returns-in-Test-clause-capacity t c = refl

pub answer-returns-in-Test-clause-counts : goal.answer-returns-in-Test-clause-counts
answer-returns-in-Test-clause-counts t c = c.truth.ensures.counts

pub answer-returns-in-Sum-clause-stack : goal.answer-returns-in-Sum-clause-stack
answer-returns-in-Sum-clause-stack t c = in-any-case c.as_answer.result refl

pub answer-returns-in-Sum-clause-capacity : goal.answer-returns-in-Sum-clause-capacity
answer-returns-in-Sum-clause-capacity t c = refl

pub answer-returns-in-Sum-clause-counts : goal.answer-returns-in-Sum-clause-counts
answer-returns-in-Sum-clause-counts t c = c.requires.counts

pub answer-returns-in_err-a-in-One-clause-stack : goal.answer-returns-in_err-a-in-One-clause-stack
answer-returns-in_err-a-in-One-clause-stack t c = IfOk-from_err c.from_residual.result _ c.from_residual.ensures.0

pub answer-returns-in_err-a-in-One-clause-capacity : goal.answer-returns-in_err-a-in-One-clause-capacity
answer-returns-in_err-a-in-One-clause-capacity t c = c.in_err-a-in-One.ensures.capacity

pub answer-returns-in_err-a-in-One-clause-counts : goal.answer-returns-in_err-a-in-One-clause-counts
answer-returns-in_err-a-in-One-clause-counts t c = c.in_err-a-in-One.ensures.counts

pub answer-returns-in_ok-a-in-One-clause-stack : goal.answer-returns-in_ok-a-in-One-clause-stack
answer-returns-in_ok-a-in-One-clause-stack t c = c.in_ok-a-in-One.ensures.stack

pub answer-returns-in_ok-a-in-One-clause-capacity : goal.answer-returns-in_ok-a-in-One-clause-capacity
answer-returns-in_ok-a-in-One-clause-capacity t c = c.in_ok-a-in-One.ensures.capacity

pub answer-returns-in_ok-a-in-One-clause-counts : goal.answer-returns-in_ok-a-in-One-clause-counts
answer-returns-in_ok-a-in-One-clause-counts t c = c.in_ok-a-in-One.ensures.counts

pub answer-returns-in_err-a-in-Two-clause-stack : goal.answer-returns-in_err-a-in-Two-clause-stack
answer-returns-in_err-a-in-Two-clause-stack t c = IfOk-from_err c.from_residual-in_err-a-in-Two.result _ c.from_residual-in_err-a-in-Two.ensures.0

pub answer-returns-in_err-a-in-Two-clause-capacity : goal.answer-returns-in_err-a-in-Two-clause-capacity
answer-returns-in_err-a-in-Two-clause-capacity t c = c.in_err-a-in-Two.ensures.capacity

pub answer-returns-in_err-a-in-Two-clause-counts : goal.answer-returns-in_err-a-in-Two-clause-counts
answer-returns-in_err-a-in-Two-clause-counts t c = c.in_err-a-in-Two.ensures.counts

pub answer-returns-in_ok-a-in-Two-clause-stack : goal.answer-returns-in_ok-a-in-Two-clause-stack
answer-returns-in_ok-a-in-Two-clause-stack t c =
    on_ok_weaker c.answer_behind.result (λ same. same ∙ c.in_ok-a-in-Two.ensures.stack) c.answer_behind.ensures.stack

pub answer-returns-in_ok-a-in-Two-clause-capacity : goal.answer-returns-in_ok-a-in-Two-clause-capacity
answer-returns-in_ok-a-in-Two-clause-capacity t c = c.answer_behind.ensures.capacity ∙ c.in_ok-a-in-Two.ensures.capacity

pub answer-returns-in_ok-a-in-Two-clause-counts : goal.answer-returns-in_ok-a-in-Two-clause-counts
answer-returns-in_ok-a-in-Two-clause-counts t c = c.answer_behind.ensures.counts

pub answer_behind-returns-in-Some-clause-stack : goal.answer_behind-returns-in-Some-clause-stack
answer_behind-returns-in-Some-clause-stack t c = in-any-case c.apply_binary.result refl

pub answer_behind-returns-in_err-right-in-None-clause-stack : goal.answer_behind-returns-in_err-right-in-None-clause-stack
answer_behind-returns-in_err-right-in-None-clause-stack t c = IfOk-from_err c.from_residual.result _ c.from_residual.ensures.0

pub answer_behind-returns-in_ok-right-in-None-clause-stack : goal.answer_behind-returns-in_ok-right-in-None-clause-stack
answer_behind-returns-in_ok-right-in-None-clause-stack t c = in-any-case c.apply_binary-in-None.result c.in_ok-right-in-None.ensures.stack

pub answer-returns-in_err-stack_answers-in-Call-clause-stack : goal.answer-returns-in_err-stack_answers-in-Call-clause-stack
answer-returns-in_err-stack_answers-in-Call-clause-stack t c = IfOk-from_err c.from_residual-in_err-stack_answers-in-Call.result _ c.from_residual-in_err-stack_answers-in-Call.ensures.0

pub answer-returns-in_err-stack_answers-in-Call-clause-capacity : goal.answer-returns-in_err-stack_answers-in-Call-clause-capacity
answer-returns-in_err-stack_answers-in-Call-clause-capacity t c = c.in_err-stack_answers-in-Call.ensures.capacity

pub answer-returns-in_err-stack_answers-in-Call-clause-counts : goal.answer-returns-in_err-stack_answers-in-Call-clause-counts
answer-returns-in_err-stack_answers-in-Call-clause-counts t c = c.in_err-stack_answers-in-Call.ensures.counts

pub answer-returns-in_ok-stack_answers-in-Call-clause-counts : goal.answer-returns-in_ok-stack_answers-in-Call-clause-counts
answer-returns-in_ok-stack_answers-in-Call-clause-counts t c = c.in_ok-stack_answers-in-Call.ensures.counts

pub answer-number_counted-requires : goal.answer-number_counted-requires
answer-number_counted-requires t c = record { view = c.requires.view; counts = c.requires.counts }

pub answer-truth-requires : goal.answer-truth-requires
answer-truth-requires t c = record { view = c.requires.view; counts = c.requires.counts }

pub answer-neighbour-requires : goal.answer-neighbour-requires
answer-neighbour-requires t c = c.requires.view

pub answer-neighbour-requires-in-Sum : goal.answer-neighbour-requires-in-Sum
answer-neighbour-requires-in-Sum t c = c.requires.view

pub answer-sum-requires : goal.answer-sum-requires
answer-sum-requires t c = c.requires.view

pub answer-apply_function-made-requires : goal.answer-apply_function-made-requires
answer-apply_function-made-requires t c = c.requires.view
