use Rattle.std.proofs.Common.{◌≡◌, ◌++◌, None, Some, [], ◌∷◌, true, false, rules, tests, sym, ap, ◌∙◌}
use Rattle.std.specs.Prelude.{codes}
use Rattle.std.specs.List.{flat_map}
use Rattle.std.specs.Option.{option_map}
use Rattle.std.specs.Str.{bytes_eq}
use Rattle.std.proofs.lemmas.List.{append-nil}
use Rattle.std.proofs.lemmas.List.Concat.{flat_map-append}
use Rattle.quantity.specs.Bytes.{words}
use Rattle.atomic_face.specs.TableSettings.{take_in, take_of_words}
use Rattle.source_text.specs.Shown.{texts}
use Rattle.state_tables.specs.Settings.{take_words}
use Rattle.state_tables.proofs.Takes.{other_key, take_key}
use Rattle.state_tables.proofs.read.takes.read_take.Goals as goal

pub returns-then-ne-clause-takes : goal.returns-then-ne-clause-takes
returns-then-ne-clause-takes c =
    let other : bytes_eq c.args.entry.now.key (codes "take") ≡ false = search (rules, tests) in
    sym (ap (λ ws. flat_map take_words c.args.takes.now.items ++ ws) (other_key (texts c.args.names.now) c.args.entry.now other).0 ∙ append-nil (flat_map take_words c.args.takes.now.items))

pub returns-then-ne-clause-line : goal.returns-then-ne-clause-line
returns-then-ne-clause-line c =
    let other : bytes_eq c.args.entry.now.key (codes "take") ≡ false = search (rules, tests) in
    sym (other_key (texts c.args.names.now) c.args.entry.now other).1

pub returns-in_default-clause-takes : goal.returns-in_default-clause-takes
returns-in_default-clause-takes c =
    let key : bytes_eq c.args.entry.now.key (codes "take") ≡ true = search (rules, tests) in
    let none : None ≡ take_in (texts c.args.names.now) c.args.entry.now = ap (option_map take_words) (sym c.in_default.is) ∙ c.take_of.ensures.value ∙ ap (λ text. take_of_words (texts c.args.names.now) (words text)) c.as_bytes-2.ensures in
    sym (ap (λ ws. flat_map take_words c.args.takes.now.items ++ ws) (take_key (texts c.args.names.now) c.args.entry.now None key none).0 ∙ append-nil (flat_map take_words c.args.takes.now.items))

pub returns-in_default-clause-line : goal.returns-in_default-clause-line
returns-in_default-clause-line c =
    let key : bytes_eq c.args.entry.now.key (codes "take") ≡ true = search (rules, tests) in
    let none : None ≡ take_in (texts c.args.names.now) c.args.entry.now = ap (option_map take_words) (sym c.in_default.is) ∙ c.take_of.ensures.value ∙ ap (λ text. take_of_words (texts c.args.names.now) (words text)) c.as_bytes-2.ensures in
    sym (take_key (texts c.args.names.now) c.args.entry.now None key none).1

pub returns-in-Ok-clause-takes : goal.returns-in-Ok-clause-takes
returns-in-Ok-clause-takes c =
    let key : bytes_eq c.args.entry.now.key (codes "take") ≡ true = search (rules, tests) in
    let take : Some (take_words c.in-Some.take) ≡ take_in (texts c.args.names.now) c.args.entry.now = ap (option_map take_words) (sym c.in-Some.is) ∙ c.take_of.ensures.value ∙ ap (λ text. take_of_words (texts c.args.names.now) (words text)) c.as_bytes-2.ensures in
    ap (flat_map take_words) c.in-Ok.ensures.items ∙ flat_map-append take_words c.args.takes.now.items (c.in-Some.take ∷ [])
    ∙ ap (λ ws. flat_map take_words c.args.takes.now.items ++ ws) (append-nil (take_words c.in-Some.take) ∙ sym (take_key (texts c.args.names.now) c.args.entry.now (Some (take_words c.in-Some.take)) key take).0)

pub returns-in-Ok-clause-line : goal.returns-in-Ok-clause-line
returns-in-Ok-clause-line c =
    let key : bytes_eq c.args.entry.now.key (codes "take") ≡ true = search (rules, tests) in
    let take : Some (take_words c.in-Some.take) ≡ take_in (texts c.args.names.now) c.args.entry.now = ap (option_map take_words) (sym c.in-Some.is) ∙ c.take_of.ensures.value ∙ ap (λ text. take_of_words (texts c.args.names.now) (words text)) c.as_bytes-2.ensures in
    sym (take_key (texts c.args.names.now) c.args.entry.now (Some (take_words c.in-Some.take)) key take).1
