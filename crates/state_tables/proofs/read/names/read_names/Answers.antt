use Rattle.std.proofs.Common.{◌≡◌, Some, false, sym, ap, ◌∙◌, arith}
use Rattle.std.proofs.lemmas.Bool.Decides.{nat_tests}
use Rattle.source_text.specs.Shown.{texts}
use Rattle.quantity.specs.Bytes.{words}
use Rattle.atomic_face.specs.TableSettings.{are_states}
use Rattle.state_tables.proofs.Entries.{states_off}
use Rattle.state_tables.proofs.read.names.read_names.Goals as goal

pub returns-then-not-are_states-clause-bad : goal.returns-then-not-are_states-clause-bad
returns-then-not-are_states-clause-bad c line e =
    let same : c.in-Some.entry.now.line ≡ line = cc in
    let no : c.are_states.result ≡ false = first_of (cc, grind (arith, nat_tests)) in
    let off : are_states (words c.in-Some.entry.now.value) ≡ false =
    ap are_states (sym (ap texts c.deref.ensures.value ∙ c.in_ok-names.ensures.words ∙ ap words c.as_bytes.ensures)) ∙ sym c.are_states.ensures ∙ no in
    states_off c.args.entries.now c.in-Some.entry.now c.in-Some.ensures off ∙ ap (λ n. Some n) same
