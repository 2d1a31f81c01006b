use Rattle.std.proofs.Common.{◌≡◌, ◌+◌, ℕ, List, [], Some, map, sym, ap, ◌∙◌, arith}
use Rattle.model_tree.specs.declared.component.Component.{Component}
use Rattle.model_leaves.specs.declared.table.Row.{Row}
use Rattle.model_leaves.specs.Table.{Seat, seats}
use Rattle.model_leaves.specs.Growing.{seats_of_all, groups_in_all}
use Rattle.model_leaves.proofs.Rows.{seats_from-Coupled, groups_in-Coupled}
use Rattle.model_leaves.proofs.Shown.{shown-whole}
use Rattle.model_leaves.proofs.table.Model.new.Goals as goal

pub invariant_of-result-clause-right : goal.invariant_of-result-clause-right
invariant_of-result-clause-right c =
    ap (λ (rs : List Row). seats c.put_all.new.table.parts.items c.put_all.new.table.ports.items rs) (c.in_ok-rows.ensures ∙ c.deref-2.ensures.value)
    ∙ shown-whole c.put_all.new.table _ (c.in_ok-put_all.ensures.ok [] c.new-table.ensures.shows)
    ∙ ap (λ (ss : List Seat). map Some ss)
    (ap (λ (cs : List Component). seats_of_all cs c.new-table.result.groups) c.deref.ensures.value
    ∙ ap (λ (n : ℕ). seats_of_all c.args.top.children.items n) c.new-table.ensures.groups
    ∙ sym (seats_from-Coupled c.args.top 0))

pub invariant_of-result-clause-counted : goal.invariant_of-result-clause-counted
invariant_of-result-clause-counted c =
    c.in_ok-put_all.ensures.groups
    ∙ ap (λ (n : ℕ). n + groups_in_all c.deref.result.now) c.new-table.ensures.groups
    ∙ ap (λ (cs : List Component). 0 + groups_in_all cs) c.deref.ensures.value
    ∙ (let zero : 0 + groups_in_all c.args.top.children.items ≡ groups_in_all c.args.top.children.items = omega arith in zero)
    ∙ sym (groups_in-Coupled c.args.top)
