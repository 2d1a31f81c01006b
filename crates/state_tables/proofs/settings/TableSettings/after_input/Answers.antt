use Rattle.std.proofs.Common.{None, Some, sym, ◌∙◌}
use Rattle.state_tables.proofs.Plain.{input_taken}
use Rattle.state_tables.proofs.settings.TableSettings.after_input.Goals as goal

pub returns-in-Some : goal.returns-in-Some
returns-in-Some c =
    c.entered.ensures ∙ sym (input_taken c.args.self.now c.args.now c.args.at.now c.args.input.now (Some c.in-Some.take) c.in-Some.ensures)

pub returns-in-None : goal.returns-in-None
returns-in-None c =
    sym (input_taken c.args.self.now c.args.now c.args.at.now c.args.input.now None c.in-None.ensures)
