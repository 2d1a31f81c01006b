use Rattle.std.proofs.Common.{[], false}
use Rattle.std.proofs.lemmas.List.{length-set}
use Rattle.std.proofs.lemmas.List.Quantifiers.{position-Some}
use Rattle.atomic_face.specs.declared.class.Class.TheVariants.{Queue}
use Rattle.atomic_face.specs.Stocked.{Stocked, is_free}
use Rattle.model_runs.proofs.classes.taken.Goals as goal

some_box : Stocked
some_box = record { box = record { kind = Queue; settings = []; state = [] }; taken = false }

pub returns : goal.returns
returns g c =
    rw (c.in_ok-take.ensures.1 some_box, length-set) (position-Some (is_free c.args.class) c.args.stock.now c.in_ok-take.field-0.0 some_box c.in_ok-take.ensures.0).0
