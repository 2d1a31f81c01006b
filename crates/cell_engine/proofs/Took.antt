-- What a rule gives is taken port by port.
use Rattle.std.proofs.Common.{◌≡◌, ℕ, zero, suc, ◌≤◌, true, List, [], ◌∷◌, map, length, refl, ◌∙◌, ap}
use Rattle.quantity.specs.declared.value.Value.{Value}
use Rattle.rule_tree.specs.Scope.{differ}
use Rattle.rule_tree.specs.Ports.{changed_at, taken_in_order, taken_by_port, by_port}
use Rattle.rule_tree.proofs.Taken.{is_taken_by_port}
use Rattle.quantity.specs.declared.delay.DelayKind.{DelayKind}
use Rattle.run_model.specs.CellStep.{PortState, took_at, took, port_took}

same_change : (p : ℕ) (f : PortState → PortState) (ps : List PortState) → took_at p f ps ≡ changed_at p f ps
same_change p f [] = refl
same_change zero f (q ∷ qs) = refl
same_change (suc p) f (q ∷ qs) = ap (λ rs. q ∷ rs) (same_change p f qs)

in_order : (kind : DelayKind) (at : ℕ) (gs : List (ℕ × Value)) (ps : List PortState) → took kind at gs ps ≡ taken_in_order (port_took kind at) gs ps
in_order kind at [] ps = refl
in_order kind at (g ∷ gs) ps =
    in_order kind at gs (took_at g.0 (port_took kind at g.1) ps)
    ∙ ap (taken_in_order (port_took kind at) gs) (same_change g.0 (port_took kind at g.1) ps)

pub took_by_port : (kind : DelayKind) (at : ℕ) (gs : List (ℕ × Value)) (ps : List PortState) → differ (map (λ (g : ℕ × Value). g.0) gs) ≡ true → length ps ≤ 4
    → took kind at gs ps ≡ taken_by_port (port_took kind at) (by_port gs) ps
took_by_port kind at gs ps d few = in_order kind at gs ps ∙ is_taken_by_port PortState (port_took kind at) gs ps d few
