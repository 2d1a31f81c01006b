use Rattle.std.proofs.Common.{◌≡◌, Some, cond, [], ◌∷◌, sym, ap, ◌∙◌, rules}
use Rattle.std.specs.Prelude.{◌||◌}
use Rattle.std.specs.List.{cons_option, filter_map, list_any}
use Rattle.model_text.specs.Spaces.{PortPlace, port_place, same_place}
use Rattle.model_spaces.specs.Ported.{is_seen, is_unseen}
use Rattle.model_spaces.proofs.Entries.{one_seen}
use Rattle.model_spaces.proofs.ports.add_rule.Goals as goal

pub returns-clause-is_new : goal.returns-clause-is_new
returns-clause-is_new c =
    let text = c.in-Some.text in
    let place : Some (let p : PortPlace = record { port = text.port.now; cell = Some c.in-Some-cell_in.cell; rules = text.rules.now } in p) ≡ port_place c.args.section.now c.args.read.now.entry.now = search rules in
    c.in-Ok.ensures.added ∙ ap (is_unseen c.args.seen.now.keys) place

pub returns-clause-seen : goal.returns-clause-seen
returns-clause-seen c = λ q.
    let text = c.in-Some.text in
    let place : Some (let p : PortPlace = record { port = text.port.now; cell = Some c.in-Some-cell_in.cell; rules = text.rules.now } in p) ≡ port_place c.args.section.now c.args.read.now.entry.now = search rules in
    ap (λ ks. is_seen ks q) c.in-Ok.ensures.keys ∙ one_seen c.args.seen.now.keys (record { port = text.port; cell = c.in-Some-cell_in.cell }) q
    ∙ ap (λ o. is_seen c.args.seen.now.keys q || list_any (same_place q) (cons_option o [])) place
    ∙ ap (λ b. is_seen c.args.seen.now.keys q || list_any (same_place q) (filter_map (port_place c.args.section.now) (cond b (c.args.read.now.entry.now ∷ []) []))) (sym c.requires.key)
