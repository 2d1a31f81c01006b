use Rattle.std.proofs.Common.{◌∙◌}
use Rattle.model_walk.proofs.Read.{form_in_rows}
use Rattle.model_walk.proofs.read_section.form_among.Goals as goal

pub returns : goal.returns
returns c = c.found_form.ensures ∙ form_in_rows c.args.keys.now c.args.word.now
