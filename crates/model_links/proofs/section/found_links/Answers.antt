use Rattle.std.proofs.Common.{◌∙◌, List, [], ◌∷◌, ◌++◌, map, ap}
use Rattle.std.proofs.lemmas.List.{take_all}
use Rattle.ma_lines.specs.declared.section.Entry.{Entry}
use Rattle.model_walk.specs.declared.read_section.ReadEntry.{ReadEntry}
use Rattle.model_links.specs.Judged.{links_among, found_at}
use Rattle.model_links.proofs.Judging.{entries_in, entries_step, read_at}
use Rattle.model_links.proofs.section.found_links.Goals as goal

pub add_entry-requires-clause-read : goal.add_entry-requires-clause-read
add_entry-requires-clause-read c =
    read_at c.args.section.now.name c.args.section.now.entries c.entries-read-items.result.now c.loop-read.read-index c.read-item.result c.entries-read-items.ensures c.loop-read-test.true c.read-item.is

pub loop-read-preserved : goal.loop-read-preserved
loop-read-preserved c =
    let s = c.args.section.now in
    let before = c.loop-read.found.items in
    entries_step s c.entries-read-items.result.now c.loop-read.read-index c.read-item.result before c.add_entry.new.found.items c.loop-read-test.true
    (c.in_ok-add_entry.ensures ∙ ap (λ (r : ReadEntry). before ++ map (found_at s) (links_among (r.entry.now ∷ []))) c.read-item.is) c.loop-read.invariant

pub returns : goal.returns
returns c =
    let s = c.args.section.now in
    c.loop-read.invariant
    ∙ ap (λ (rs : List ReadEntry). map (found_at s) (links_among (entries_in rs))) (take_all c.loop-read.read-index c.entries-read-items.result.now c.loop-read-test.false)
    ∙ ap (λ (es : List Entry). map (found_at s) (links_among es)) c.entries-read-items.ensures.entries
