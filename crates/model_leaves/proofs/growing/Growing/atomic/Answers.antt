use Rattle.std.proofs.Common.{rules, ◌≡◌, refl, List, [], ◌∷◌}
use Rattle.std.proofs.lemmas.Result.{on_ok_weaker}
use Rattle.model_tree.specs.Pull.{class_ports}
use Rattle.model_leaves.specs.Table.{Seat, box_seat}
use Rattle.model_leaves.proofs.Shown.{grown-on, grown-as}
use Rattle.model_leaves.proofs.growing.Growing.atomic.Goals as goal

pub returns-clause-ok : goal.returns-clause-ok
returns-clause-ok c =
    let name : c.in_ok-name.name ≡ c.args.atomic.now.name = search rules in
    let names : c.deref.result.now ≡ class_ports c.args.atomic.now.class = search rules in
    let one : ◌≡◌ {A = List Seat} (box_seat c.in_ok-name.name c.args.atomic.now.at c.deref.result.now ∷ []) (box_seat c.args.atomic.now.name c.args.atomic.now.at (class_ports c.args.atomic.now.class) ∷ []) = rw (name, names) refl in
    on_ok_weaker c.seat.result
    (λ h. grown-as c.args.self.now c.seat.new.self _ _ one (grown-on c.args.self.now c.part.new.self c.seat.new.self [] (box_seat c.in_ok-name.name c.args.atomic.now.at c.deref.result.now ∷ []) c.in_ok-part.ensures.grows (h _ c.in_ok-part.ensures.part)))
    c.seat.ensures.ok
