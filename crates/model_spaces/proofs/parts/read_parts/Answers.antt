use Rattle.std.proofs.Common.{List, take, subst, sym, ap, ◌∙◌}
use Rattle.std.proofs.lemmas.List.{take_all}
use Rattle.ma_lines.specs.declared.section.Entry.{Entry}
use Rattle.model_spaces.specs.Right.{AreParts}
use Rattle.model_spaces.proofs.Entries.{entry_more}
use Rattle.model_walk.proofs.Read.{entries_at, entries_more, is_read}
use Rattle.model_spaces.proofs.parts.read_parts.Goals as goal

pub add_entry-requires-clause-is_read : goal.add_entry-requires-clause-is_read
add_entry-requires-clause-is_read c =
    is_read c.args.section.now.name c.entries-read-items.result.now c.loop-read.read-index c.read-item.result c.loop-read-test.true c.read-item.is c.entries-read-items.ensures.values

pub loop-read-preserved : goal.loop-read-preserved
loop-read-preserved c =
    let s = c.args.section.now in
    let list = c.entries-read-items.result.now in
    let i = c.loop-read.read-index in
    let r = c.read-item.result in
    record {
      read =
          subst (λ (es : List Entry). AreParts s es c.add_entry.new.parts) (sym (entries_more list i r c.loop-read-test.true c.read-item.is))
          (entry_more s (entries_at (take i list)) r.entry.now c.loop-read.parts c.add_entry.new.parts c.loop-read.invariant.read c.in_ok-add_entry.ensures.added);
      fit = c.in_ok-add_entry.ensures.length;
    }

pub returns : goal.returns
returns c =
    subst (λ (es : List Entry). AreParts c.args.section.now es c.loop-read.parts)
    (ap entries_at (take_all c.loop-read.read-index c.entries-read-items.result.now c.loop-read-test.false) ∙ c.entries-read-items.ensures.entries) c.loop-read.invariant.read
