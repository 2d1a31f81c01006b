use Rattle.std.proofs.Common.{◌++◌, sym, ap, ◌∙◌}
use Rattle.std.specs.Option.{option_map}
use Rattle.run_model.specs.Cycle.{cell_state}
use Rattle.cell_table.specs.Saved.{cell_of_saved}
use Rattle.text_forms.specs.StateText.{leaf_line}
use Rattle.state_lines.specs.Left.{cell_in}
use Rattle.state_lines.proofs.Compared.{its_line, no_line}
use Rattle.state_lines.proofs.compare.cell_in_line.Goals as goal

pub returns-then-same_bytes-clause-found : goal.returns-then-same_bytes-clause-found
returns-then-same_bytes-clause-found c = λ settings l there h.
    its_line c.args.t c.args.ports c.args.variables l c.args.line.now c.deref.result.now
    (cell_of_saved c.in-Some.state) h
    (ap (λ ws. cell_in c.args.ports ws) (sym c.state_words-words.ensures) ∙ c.in_ok-state.ensures
    ∙ ap (option_map cell_of_saved) c.in-Some.is)
    (sym c.is_cell_state.ensures ∙ c.if-not-is_cell_state.false)
    (c.deref.ensures.value ∙ c.in_ok-put_cell.ensures.ok settings l there
    ∙ ap (λ x. x ++ leaf_line l (cell_state (cell_of_saved c.in-Some.state)))
    c.clear.ensures.items)
    (sym c.same_bytes.ensures ∙ c.if-same_bytes.true)

pub returns-else-same_bytes-clause-found : goal.returns-else-same_bytes-clause-found
returns-else-same_bytes-clause-found c = λ settings l there h.
    no_line c.args.t c.args.ports c.args.variables l c.args.line.now c.deref.result.now
    (cell_of_saved c.in-Some.state) h
    (ap (λ ws. cell_in c.args.ports ws) (sym c.state_words-words.ensures) ∙ c.in_ok-state.ensures
    ∙ ap (option_map cell_of_saved) c.in-Some.is)
    (sym c.is_cell_state.ensures ∙ c.if-not-is_cell_state.false)
    (c.deref.ensures.value ∙ c.in_ok-put_cell.ensures.ok settings l there
    ∙ ap (λ x. x ++ leaf_line l (cell_state (cell_of_saved c.in-Some.state)))
    c.clear.ensures.items)
    (sym c.same_bytes.ensures ∙ c.if-same_bytes.false)
