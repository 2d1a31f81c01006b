use Rattle.std.proofs.Common.{◌++◌, ◌∙◌, ◌+◌, ◌-◌, ◌≤◌, ap, sym, subst, arith, length, get_or-drop, length-drop, take, drop}
use Rattle.std.specs.List.{All}
use Rattle.std.specs.List.Sorted.{IsNonDecreasingBy}
use Rattle.std.proofs.lemmas.List.{take_rest}
use Rattle.std.proofs.lemmas.List.Sorted.{IsNonDecreasingBy-drop}
use Rattle.text_forms.specs.declared.records.XRecord.{XRecord}
use Rattle.sparse_cycle.specs.Sparse.{bag_in}
use Rattle.cycle_steps.specs.Untimed.{x_records}
use Rattle.cycle_steps.proofs.Bags.{none-before}
use Rattle.cycle_steps.proofs.bag.bag_at.Goals as goal

pub returns-clause-ok : goal.returns-clause-ok
returns-clause-ok c =
    let x = c.args.x.now in
    let first = c.first_fed-first.result in
    c.in-Ok.ensures ∙ ap (λ items. items ++ bag_in (x_records (take (length x - first) (drop first x))) c.args.leaf) c.requires.empty
    ∙ ap (λ rs. bag_in (x_records rs) c.args.leaf) (take_rest x first) ∙ none-before c.args.leaf first x c.first_fed-first.ensures.within c.first_fed-first.ensures.before

pub append_bag-requires : goal.append_bag-requires
append_bag-requires c =
    let x = c.args.x.now in
    let first = c.first_fed-first.result in
    record {
      rise = subst (IsNonDecreasingBy (λ (r : XRecord). r.leaf)) (sym (take_rest x first)) (IsNonDecreasingBy-drop (λ (r : XRecord). r.leaf) first x c.requires.rise);
      above = subst (All (λ (r : XRecord). c.args.leaf ≤ r.leaf)) (sym (take_rest x first))
          (λ k d lt. rw (get_or-drop first x k d) (c.first_fed-first.ensures.above (first + k) d (omega arith) (omega (arith, lt, length-drop first x))));
    }
