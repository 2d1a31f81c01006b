use Rattle.std.proofs.Common.{◌≡◌, None, ◌∙◌}
use Rattle.std.specs.Str.{bytes_eq}
use Rattle.source_text.specs.Shown.{texts}
use Rattle.atomic_face.specs.TableSettings.{number_of_name}
use Rattle.state_tables.proofs.Names.{position_texts}
use Rattle.state_tables.proofs.read.names.number_in.Goals as goal

pub returns-in_err-place-clause-value : goal.returns-in_err-place-clause-value
returns-in_err-place-clause-value c =
    let e : None ≡ number_of_name (texts c.args.names.now) c.args.text.now = c.in_err-place.ensures.value ∙ position_texts (bytes_eq c.args.text.now) c.args.names.now in
    cc

pub returns-clause-value : goal.returns-clause-value
returns-clause-value c = c.in_ok-place.ensures.value ∙ position_texts (bytes_eq c.args.text.now) c.args.names.now
