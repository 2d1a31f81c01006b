use Rattle.std.proofs.Common.{◌≡◌, ◌∙◌, ◌+◌, Err, List, map, drop, sym, ap, subst, arith, rules}
use Rattle.std.specs.declared.result.Result.{Result}
use Rattle.std.proofs.lemmas.List.{drop_all}
use Rattle.rule_tree.specs.declared.outcome.RuleStop.{RuleStop}
use Rattle.rule_eval.specs.Evaluated.{GivesValues, given_unless_stop}
use Rattle.rule_eval.specs.Seen.{sight_of_view}
use Rattle.rule_forms.specs.declared.numbered.NumberedForm.{NumberedForm}
use Rattle.rule_tree.specs.Chosen.{values_of}
use Rattle.rule_forms.specs.Numbered.{numbered_expression}
use Rattle.rule_forms.specs.Puts.{put_by}
use Rattle.rule_eval.proofs.Making.{deepest_here, give_goes, give_stops, values_given, values_stopped}
use Rattle.rule_eval.proofs.evaluation.give_values.Goals as goal

pub number-requires : goal.number-requires
number-requires c =
    let here = deepest_here c.args.gives.now c.loop-give.give-index c.give-item.result c.loop-give-test.true c.give-item.is in
    record { view = c.requires.view; counts = c.loop-give.invariant.counts; room = omega (arith, here, c.loop-give.invariant.room) }

pub loop-give-preserved : goal.loop-give-preserved
loop-give-preserved c =
    let gives = c.args.gives.now in
    let i = c.loop-give.give-index in
    let give = c.give-item.result in
    let s = sight_of_view c.args.view.now in
    let here = deepest_here gives i give c.loop-give-test.true c.give-item.is in
    let goes = give_goes gives i give s c.loop-give.given.values c.in_ok-value.value c.loop-give-test.true c.give-item.is c.in_ok-value.ensures.value in
    record {
      same = ap (λ vs. put_by (map numbered_expression (drop (i + 1) gives)) s vs) c.put.ensures ∙ sym goes ∙ c.loop-give.invariant.same;
      room = omega (arith, here, c.loop-give.invariant.room, c.number.ensures.capacity);
      capacity = c.number.ensures.capacity ∙ c.loop-give.invariant.capacity;
      counts = c.number.ensures.counts;
    }

pub returns-in_err-value : goal.returns-in_err-value
returns-in_err-value c =
    let stop = c.in_err-value.field-0.0 in
    let is : c.from_residual.result ≡ Err stop = search rules in
    let stops = give_stops c.args.gives.now c.loop-give.give-index c.give-item.result (sight_of_view c.args.view.now) c.loop-give.given.values stop c.loop-give-test.true c.give-item.is c.in_err-value.ensures.value in
    let given = c.loop-give.given in
    let all = map numbered_expression c.args.gives.now in
    let s = sight_of_view c.args.view.now in
    let Q : Result (Unit {0}) RuleStop → Type 0 = λ r. GivesValues (values_of all s) (given_unless_stop given r) in
    record {
      value = subst Q (sym is) (values_stopped all s stop (sym c.loop-give.invariant.same ∙ stops));
      capacity = c.number.ensures.capacity ∙ c.loop-give.invariant.capacity;
      counts = c.number.ensures.counts;
    }

pub returns : goal.returns
returns c =
    let s = sight_of_view c.args.view.now in
    let given = c.loop-give.given in
    let none = ap (λ (gs : List NumberedForm). put_by (map numbered_expression gs) s given.values) (drop_all c.loop-give.give-index c.args.gives.now c.loop-give-test.false) in
    record {
      value = values_given (map numbered_expression c.args.gives.now) s given (sym none ∙ c.loop-give.invariant.same);
      capacity = c.loop-give.invariant.capacity;
      counts = c.loop-give.invariant.counts;
    }
