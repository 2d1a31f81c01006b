use Rattle.std.proofs.Common.{◌≡◌, true, false, rules, tests, sym, ap, ◌∙◌, subst}
use Rattle.std.specs.Prelude.{codes}
use Rattle.std.specs.Str.{bytes_eq}
use Rattle.quantity.specs.Bytes.{words}
use Rattle.atomic_face.specs.TableSettings.{hold_of_words}
use Rattle.source_text.specs.Shown.{texts}
use Rattle.state_tables.specs.Reading.{HasHolds}
use Rattle.state_tables.proofs.Holds.{hold_line, one_more, other_key}
use Rattle.state_tables.proofs.read.holds.read_hold.Goals as goal

pub returns-then-ne-clause-holds : goal.returns-then-ne-clause-holds
returns-then-ne-clause-holds c before has =
    let other : bytes_eq c.args.entry.now.key (codes "hold") ≡ false = search (rules, tests) in
    subst (HasHolds c.args.holds.now.items) (sym (other_key (texts c.args.names.now) before c.args.entry.now other).0) has

pub returns-then-ne-clause-line : goal.returns-then-ne-clause-line
returns-then-ne-clause-line c before has =
    let other : bytes_eq c.args.entry.now.key (codes "hold") ≡ false = search (rules, tests) in
    sym (other_key (texts c.args.names.now) before c.args.entry.now other).1

pub returns-then-add_hold-clause-holds : goal.returns-then-add_hold-clause-holds
returns-then-add_hold-clause-holds c before has =
    let key : bytes_eq c.args.entry.now.key (codes "hold") ≡ true = search (rules, tests) in
    let text : c.as_bytes-2.result.now ≡ c.args.entry.now.value = search rules in
    one_more (texts c.args.names.now) before c.args.entry.now _ _ key (c.hold_of.ensures.value ∙ ap (λ text. hold_of_words (texts c.args.names.now) (words text)) text) (c.add_hold.ensures.holds before has)

pub returns-then-add_hold-clause-line : goal.returns-then-add_hold-clause-line
returns-then-add_hold-clause-line c before has =
    let key : bytes_eq c.args.entry.now.key (codes "hold") ≡ true = search (rules, tests) in
    let text : c.as_bytes-2.result.now ≡ c.args.entry.now.value = search rules in
    hold_line (texts c.args.names.now) before c.args.entry.now _ true key (c.hold_of.ensures.value ∙ ap (λ text. hold_of_words (texts c.args.names.now) (words text)) text) (sym c.if-add_hold.true ∙ c.add_hold.ensures.is_new before has)

pub returns-else-add_hold-clause-holds : goal.returns-else-add_hold-clause-holds
returns-else-add_hold-clause-holds c before has =
    let key : bytes_eq c.args.entry.now.key (codes "hold") ≡ true = search (rules, tests) in
    let text : c.as_bytes-2.result.now ≡ c.args.entry.now.value = search rules in
    one_more (texts c.args.names.now) before c.args.entry.now _ _ key (c.hold_of.ensures.value ∙ ap (λ text. hold_of_words (texts c.args.names.now) (words text)) text) (c.add_hold.ensures.holds before has)

pub returns-else-add_hold-clause-line : goal.returns-else-add_hold-clause-line
returns-else-add_hold-clause-line c before has =
    let key : bytes_eq c.args.entry.now.key (codes "hold") ≡ true = search (rules, tests) in
    let text : c.as_bytes-2.result.now ≡ c.args.entry.now.value = search rules in
    hold_line (texts c.args.names.now) before c.args.entry.now _ false key (c.hold_of.ensures.value ∙ ap (λ text. hold_of_words (texts c.args.names.now) (words text)) text) (sym c.if-add_hold.false ∙ c.add_hold.ensures.is_new before has)
