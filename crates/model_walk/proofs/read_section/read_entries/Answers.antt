use Rattle.std.proofs.Common.{◌≡◌, List, [], ◌∷◌, ◌++◌, take, subst, sym, ap, ◌∙◌, rules}
use Rattle.std.proofs.lemmas.List.{take_all, take_more}
use Rattle.ma_lines.specs.declared.section.Entry.{Entry}
use Rattle.model_walk.specs.ReadValues.{AreRead}
use Rattle.model_walk.proofs.Read.{read_more}
use Rattle.model_walk.proofs.read_section.read_entries.Goals as goal

pub loop-entry-preserved : goal.loop-entry-preserved
loop-entry-preserved c =
    let es = c.deref-entry-items.result.now in
    let i = c.loop-entry.entry-index in
    let e = c.entry-item.result in
    let name = c.args.section.now.name in
    let pushed : c.push.new.self.items ≡ c.loop-entry.entries.items ++ c.in_ok-read.read ∷ [] = search rules in
    subst (λ (es : List Entry). AreRead name es c.push.new.self.items) (sym (take_more es i e c.loop-entry-test.true ∙ ap (λ x. take i es ++ x ∷ []) (sym c.entry-item.is)))
    (read_more name (take i es) e c.loop-entry.entries.items c.push.new.self.items c.in_ok-read.read pushed (ap (λ r. r.now) c.in_ok-read.ensures.entry) (search rules) c.loop-entry.invariant)

pub returns : goal.returns
returns c =
    subst (λ (es : List Entry). AreRead c.args.section.now.name es c.loop-entry.entries.items)
    (take_all c.loop-entry.entry-index c.deref-entry-items.result.now c.loop-entry-test.false ∙ c.deref-entry-items.ensures.value) c.loop-entry.invariant
