use Rattle.std.proofs.Common.{◌≡◌, ◌++◌, ◌∙◌, ◌+◌, ◌≤◌, List, map, ap, sym, subst, arith, get_or-drop, length-drop}
use Rattle.std.specs.Prelude.{OnOk}
use Rattle.std.specs.List.{All}
use Rattle.std.specs.List.Sorted.{IsNonDecreasingBy}
use Rattle.std.proofs.lemmas.List.{take_rest}
use Rattle.std.proofs.lemmas.List.Sorted.{IsNonDecreasingBy-drop}
use Rattle.quantity.specs.declared.value.Value.{Value}
use Rattle.text_forms.specs.declared.records.YRecord.{YRecord}
use Rattle.text_forms.specs.Held.{x_at, out_at}
use Rattle.sparse_cycle.specs.Feed.{values_of_leaf}
use Rattle.cycle_steps.specs.Untimed.{y_records}
use Rattle.cycle_steps.specs.Routed.{fed_to, out_to}
use Rattle.cycle_steps.proofs.Runs.{none-before}
use Rattle.cycle_steps.proofs.feed.append_from_leaf.Goals as goal

pub returns-clause-x : goal.returns-clause-x
returns-clause-x c =
    let y = c.args.y.now in
    let first = c.first_of-first.result in
    subst (λ (vs : List Value). OnOk c.append_run.result (c.append_run.new.x.items ≡ c.args.x.now.items ++ map (x_at c.args.t) (fed_to c.args.to vs)))
    (ap (λ ys. values_of_leaf (y_records ys) c.args.leaf) (take_rest y first) ∙ none-before c.args.leaf first y c.first_of-first.ensures.within c.first_of-first.ensures.before) c.append_run.ensures.x

pub returns-clause-out : goal.returns-clause-out
returns-clause-out c =
    let y = c.args.y.now in
    let first = c.first_of-first.result in
    subst (λ (vs : List Value). OnOk c.append_run.result (c.append_run.new.out.items ≡ c.args.out.now.items ++ map (out_at c.args.t) (out_to c.args.to vs)))
    (ap (λ ys. values_of_leaf (y_records ys) c.args.leaf) (take_rest y first) ∙ none-before c.args.leaf first y c.first_of-first.ensures.within c.first_of-first.ensures.before) c.append_run.ensures.out

pub append_run-requires : goal.append_run-requires
append_run-requires c =
    let y = c.args.y.now in
    let first = c.first_of-first.result in
    record {
      rise = subst (IsNonDecreasingBy (λ (r : YRecord). r.leaf)) (sym (take_rest y first)) (IsNonDecreasingBy-drop (λ (r : YRecord). r.leaf) first y c.requires);
      above = subst (All (λ (r : YRecord). c.args.leaf ≤ r.leaf)) (sym (take_rest y first))
          (λ k d lt. rw (get_or-drop first y k d) (c.first_of-first.ensures.above (first + k) d (omega arith) (omega (arith, lt, length-drop first y))));
    }
