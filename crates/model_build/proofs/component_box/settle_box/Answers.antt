use Rattle.std.proofs.Common.{sym, ap, subst, slice_index_or}
use Rattle.std.specs.Prelude.{IsTrue, List}
use Rattle.atomic_face.specs.Held.{Held}
use Rattle.atomic_face.specs.declared.params.Param.{Param}
use Rattle.atomic_face.specs.Once.{are_once}
use Rattle.model_build.proofs.Stocks.{change-keeps}
use Rattle.model_build.proofs.component_box.settle_box.Goals as goal

pub settle-requires-clause-once : goal.settle-requires-clause-once
settle-requires-clause-once g c = λ d.
    subst (λ (ps : List Param). IsTrue (are_once (slice_index_or c.args.stock.now c.args.at.0 d).box.kind ps)) (sym c.in_ok-params.ensures) (c.requires.once d)

pub returns-in-Ok-clause-classes : goal.returns-in-Ok-clause-classes
returns-in-Ok-clause-classes g c = change-keeps c.args.at.0 c.args.stock.now c.settle.new.self c.in-Ok.ensures.settles (λ a b r. ap (λ (h : Held). h.kind) r.1)
