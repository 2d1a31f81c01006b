use Rattle.std.proofs.Common.{rules, ◌≡◌, [], ◌∷◌, ◌++◌, map, refl, ◌∙◌, ap}
use Rattle.std.proofs.lemmas.List.{map_push}
use Rattle.tree_mail.specs.Notes.{Note, note_of, notes_of, nothing_noted, fresh_note}
use Rattle.tree_mail.proofs.Rest.{further, all-made}
use Rattle.tree_mail.proofs.kept.keep_nothing.Goals as goal

pub loop-entry-init : goal.loop-entry-init
loop-entry-init c = ap (λ ks. notes_of ks ++ map fresh_note c.args.entries.now) c.clear.ensures.items

pub loop-entry-preserved : goal.loop-entry-preserved
loop-entry-preserved c =
    let es = c.args.entries.now in
    let e = c.entry-item.result in
    let pushed : c.push.new.self.items ≡ c.loop-entry.kept.items ++ c.nothing-nothing.result ∷ [] = search rules in
    further (map fresh_note) (map fresh_note) es c.loop-entry.entry-index e e c.loop-entry-test.true c.entry-item.is (fresh_note e ∷ []) refl
    (notes_of c.loop-entry.kept.items) (notes_of c.push.new.self.items) (map fresh_note es)
    (ap notes_of pushed ∙ map_push note_of c.loop-entry.kept.items c.nothing-nothing.result ∙ ap (λ (k : Note). notes_of c.loop-entry.kept.items ++ k ∷ []) (c.nothing-nothing.ensures ∙ ap nothing_noted (c.len.ensures ∙ e.children.ok.0)))
    c.loop-entry.invariant

pub returns : goal.returns
returns c =
    all-made (map fresh_note) c.args.entries.now c.loop-entry.entry-index c.loop-entry-test.false refl (notes_of c.loop-entry.kept.items) (map fresh_note c.args.entries.now) c.loop-entry.invariant
