use Rattle.std.proofs.Common.{refl}
use Rattle.std.specs.Prelude.{codes}
use Rattle.run_loop.proofs.Numbers.{put_more}
use Rattle.run_loop.proofs.lines.made_line.Goals as goal

pub returns : goal.returns
returns c =
    put_more _ _ _ (codes " ones ") _ _ c.in_ok-put_number-6.ensures c.ones.ensures
    (put_more _ _ _ (codes " s ") _ _ c.in_ok-put_number-5.ensures c.s.ensures
    (put_more _ _ _ (codes " y ") _ _ c.in_ok-put_number-4.ensures c.y.ensures
    (put_more _ _ _ (codes " cycles ") _ _ c.in_ok-put_number-3.ensures refl
    (put_more _ _ _ (codes " cells ") _ _ c.in_ok-put_number-2.ensures c.from-2.ensures
    (put_more _ _ _ (codes "made ") _ _ c.in_ok-put_number.ensures c.from.ensures
    c.new-line.ensures.items)))))
