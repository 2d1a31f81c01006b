use Rattle.std.proofs.Common.{FitsSigned, w64, ap, ◌∙◌}
use Rattle.std.specs.Option.{is_some}
use Rattle.std.proofs.lemmas.Int.{to_z-of_z}
use Rattle.state_tables.proofs.Plain.{held_rightly, held_wrongly, three_same}
use Rattle.state_tables.proofs.table.TableModel.standing_of.Goals as goal

pub returns-in_err-due_if : goal.returns-in_err-due_if
returns-in_err-due_if c =
    let state_fits : FitsSigned w64 c.args.state = c.ranges.state in
    let due_fits : FitsSigned w64 c.args.due = c.ranges.due in
    let state = simp to_z-of_z at c.in_ok-state.ensures in
    let due = simp to_z-of_z at c.in_err-due_if.ensures in
    let has = c.is_some-has_hold.ensures ∙ ap is_some c.hold_of.ensures in
    rw c.from_residual-in_err-due_if.ensures
    (held_wrongly c.args.self.now.settings c.in_ok-state.state c.args.state c.args.due c.args.last c.is_some-has_hold.result state has due)

pub returns : goal.returns
returns c =
    let state_fits : FitsSigned w64 c.args.state = c.ranges.state in
    let due_fits : FitsSigned w64 c.args.due = c.ranges.due in
    let last_fits : FitsSigned w64 c.args.last = c.ranges.last in
    let state = simp to_z-of_z at c.in_ok-state.ensures in
    let due = simp to_z-of_z at c.in_ok-due_if.ensures in
    let last = simp to_z-of_z at c.in_ok-value_of.ensures in
    let has = c.is_some-has_hold.ensures ∙ ap is_some c.hold_of.ensures in (
      held_rightly c.args.self.now.settings c.in_ok-state.state c.args.state c.args.due c.args.last c.is_some-has_hold.result state has due.0 last.0,
      three_same state.1 due.1 last.1,
    )
