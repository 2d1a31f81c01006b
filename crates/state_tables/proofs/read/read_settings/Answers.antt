use Rattle.std.proofs.Common.{◌≡◌, Some, sym, ap, ◌∙◌}
use Rattle.atomic_face.specs.declared.class.Class.TheVariants.{Table}
use Rattle.atomic_face.specs.Settings.{first_line_off}
use Rattle.atomic_face.specs.TableSettings.{states_of}
use Rattle.source_text.specs.Shown.{texts}
use Rattle.state_tables.proofs.Whole.{lines_from, settings_from}
use Rattle.state_tables.proofs.read.read_settings.Goals as goal

pub returns-in-Some-clause-bad : goal.returns-in-Some-clause-bad
returns-in-Some-clause-bad c line e =
    let es = c.args.entries.now in
    let states = c.as_slice-states.result.now in
    let are : states_of es ≡ Some (texts states) = c.in_ok-names.ensures.names ∙ ap (λ ns. Some (texts ns)) (sym c.as_slice-states.ensures.value) in
    let lines = lines_from es (texts states) c.initial_off.result c.in_ok-holds.hold_off c.in_ok-takes.take_off c.one_too_many.result are c.initial_off.ensures c.in_ok-holds.ensures.line c.in_ok-takes.ensures.line c.one_too_many.ensures in
    let read : c.least-2.result ≡ first_line_off Table es = rw (c.least-2.ensures, c.least-in_order.ensures, c.least.ensures) lines in
    let same : c.in-Some.line ≡ line = cc in
    sym read ∙ c.in-Some.is ∙ ap (λ n. Some n) same

pub returns-clause-settings : goal.returns-clause-settings
returns-clause-settings c =
    let es = c.args.entries.now in
    let states = c.as_slice-states.result.now in
    let are : states_of es ≡ Some (texts states) = c.in_ok-names.ensures.names ∙ ap (λ ns. Some (texts ns)) (sym c.as_slice-states.ensures.value) in
    settings_from es states c.initial_in.result c.in_ok-holds.holds.items c.in_ok-takes.takes.items are c.initial_in.ensures.value c.in_ok-holds.ensures.count c.in_ok-holds.ensures.holds c.in_ok-takes.ensures.takes

pub returns-clause-right : goal.returns-clause-right
returns-clause-right c =
    let es = c.args.entries.now in
    let states = c.as_slice-states.result.now in
    let are : states_of es ≡ Some (texts states) = c.in_ok-names.ensures.names ∙ ap (λ ns. Some (texts ns)) (sym c.as_slice-states.ensures.value) in
    let lines = lines_from es (texts states) c.initial_off.result c.in_ok-holds.hold_off c.in_ok-takes.take_off c.one_too_many.result are c.initial_off.ensures c.in_ok-holds.ensures.line c.in_ok-takes.ensures.line c.one_too_many.ensures in
    let read : c.least-2.result ≡ first_line_off Table es = rw (c.least-2.ensures, c.least-in_order.ensures, c.least.ensures) lines in
    sym read ∙ c.in_default.is
