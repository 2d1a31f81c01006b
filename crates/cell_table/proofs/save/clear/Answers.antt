use Rattle.std.proofs.Common.{◌≡◌, ◌<◌, ◌∙◌, [], length, get_or, set, drop, ap, sym, arith}
use Rattle.std.proofs.lemmas.List.{get_or-set_same, length-set}
use Rattle.delay_lines.specs.Lists.{list_of}
use Rattle.cell_table.proofs.Waits.{changed_again, is_empty}
use Rattle.cell_table.proofs.save.clear.Goals as goal

pub loop-delays-preserved : goal.loop-delays-preserved
loop-delays-preserved c =
    let here = c.loop-delays.invariant in
    let old = c.args.delays.now.lists in
    let lists = c.loop-delays.delays.lists in
    let list = list_of c.loop-delays.delays c.args.port in
    let long = ap length here.others ∙ length-set old c.args.port list in
    let within : c.args.port < length lists = omega (arith, c.requires.exists, long) in
    let at : list_of c.take_first.new.self c.args.port ≡ drop 1 list = ap (λ xs. get_or xs c.args.port []) c.take_first.ensures.list ∙ get_or-set_same lists c.args.port (drop 1 list) [] within in
    record {
      others = changed_again old lists c.take_first.new.self.lists c.args.port list (drop 1 list) here.others c.take_first.ensures.list ∙ ap (set old c.args.port) (sym at);
      spare = omega (arith, here.spare, c.take_first.ensures.spare);
    }

pub returns-clause-list : goal.returns-clause-list
returns-clause-list c =
    let none = is_empty (list_of c.loop-delays.delays c.args.port) c.first.result c.first.ensures.pair (sym c.is_some.ensures ∙ c.loop-delays-test.false) in
    c.loop-delays.invariant.others ∙ ap (set c.args.delays.now.lists c.args.port) none
