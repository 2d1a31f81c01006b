use Rattle.std.proofs.Common.{◌≡◌, ◌∙◌, ap, map, subst, arith}
use Rattle.run_loop.specs.Counts.{Counts, ones_after, counts_after}
use Rattle.run_loop.specs.Showing.{plain}
use Rattle.run_loop.proofs.Counting.{counts_added}
use Rattle.run_loop.proofs.counted.Counted.add.Goals as goal

pub returns-clause-ok : goal.returns-clause-ok
returns-clause-ok c = λ cycle h.
    let k = c.self.inside in
    let was : Counts = record { y = k.y; s = k.s; ones = k.ones.items } in
    let now : Counts = record { y = c.in_ok-y.y; s = c.in_ok-s.s; ones = c.mark.new.ones.items } in
    subst (λ (x : Counts). now ≡ counts_after cycle x) c.self.view_is
    (counts_added cycle c.args.records.now was c.in_ok-y.y c.in_ok-s.s c.mark.new.ones.items h
    (omega (arith, c.in_ok-y.ensures, c.len.ensures, c.args.records.now.y.ok.0)) (omega (arith, c.in_ok-s.ensures, c.len-2.ensures, c.args.records.now.s.ok.0))
    (c.mark.ensures ∙ ap (λ rs. ones_after k.ones.items (map plain rs)) c.deref.ensures.value))
