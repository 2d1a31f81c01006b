use Rattle.std.proofs.Common.{rules, ◌∙◌}
use Rattle.state_lines.specs.Left.{all_left, pair_in}
use Rattle.state_lines.proofs.Taken.{one_less, none_left, at_end, pairs_are}
use Rattle.state_lines.proofs.read.read_pairs.Goals as goal

pub returns-in_default : goal.returns-in_default
returns-in_default c =
    pairs_are c.args.count (all_left c.args.words.now) ∙ c.loop-missing.invariant
    ∙ none_left pair_in c.loop-missing.missing (all_left c.loop-missing.words)
    c.loop-missing.pairs.items c.loop-missing-test.true c.in_default.ensures

pub loop-missing-preserved : goal.loop-missing-preserved
loop-missing-preserved c =
    c.loop-missing.invariant
    ∙ one_less pair_in c.loop-missing.missing (all_left c.loop-missing.words)
    (all_left c.next_pair.new.words) c.loop-missing.pairs.items c.push.new.self.items
    c.in-Some.pair c.loop-missing-test.true c.in-Some.ensures (search rules)

pub returns : goal.returns
returns c =
    pairs_are c.args.count (all_left c.args.words.now) ∙ c.loop-missing.invariant
    ∙ at_end pair_in c.loop-missing.missing (all_left c.loop-missing.words)
    c.loop-missing.pairs.items c.loop-missing-test.false
