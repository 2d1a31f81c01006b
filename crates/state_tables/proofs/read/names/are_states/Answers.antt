use Rattle.std.proofs.Common.{◌≡◌, not, length, sym, ◌∙◌, arith}
use Rattle.std.specs.Prelude.{◌&&◌}
use Rattle.std.specs.Borrow.{Bor}
use Rattle.std.specs.List.{list_all}
use Rattle.std.proofs.lemmas.Grind.{common_steps}
use Rattle.quantity.specs.Bytes.{Bytes, has_repeat}
use Rattle.quantity.specs.Digits.{is_between}
use Rattle.quantity.specs.Names.{is_name}
use Rattle.source_text.specs.Shown.{texts}
use Rattle.state_tables.proofs.Names.{are_states_by}
use Rattle.state_tables.proofs.read.names.are_states.Goals as goal

pub returns-then-all_are_names : goal.returns-then-all_are_names
returns-then-all_are_names c =
    let here : not c.has_repeat.result ≡ (is_between 1 64 (length c.args.names.now) && list_all (λ (r : Bor Bytes). is_name r.now) c.args.names.now && not (has_repeat (texts c.args.names.now))) = grind (arith, common_steps) in
    here ∙ sym (are_states_by c.args.names.now)

pub returns-else-all_are_names : goal.returns-else-all_are_names
returns-else-all_are_names c =
    let here : c.if-names-le64.value ≡ (is_between 1 64 (length c.args.names.now) && list_all (λ (r : Bor Bytes). is_name r.now) c.args.names.now && not (has_repeat (texts c.args.names.now))) = grind (arith, common_steps) in
    here ∙ sym (are_states_by c.args.names.now)
