use Rattle.std.proofs.Common.{◌≡◌, ◌++◌, ◌∷◌, [], ◌∙◌, rules, arith}
use Rattle.std.proofs.lemmas.List.{take_all}
use Rattle.ma_lines.specs.InCode.{section_of}
use Rattle.model_walk.proofs.Named.{sections_more}
use Rattle.model_walk.proofs.read_sections.read_all.Goals as goal

pub loop-at-preserved : goal.loop-at-preserved
loop-at-preserved c =
    let pushed : c.push.new.self.items ≡ c.loop-at.all.items ++ c.in_ok-read.read ∷ [] = search rules in
    sections_more c.args.sections.now c.loop-at.at c.loop-at.all.items c.push.new.self.items (section_of c.section.result.now) c.in_ok-read.read (omega arith) c.loop-at.invariant pushed c.in_ok-read.ensures c.section.ensures

pub returns : goal.returns
returns c = c.loop-at.invariant ∙ take_all c.loop-at.at c.args.sections.now (omega arith)
