use Rattle.std.proofs.Common.{◌≡◌, ℕ, List, [], ◌∷◌, length, map, sym, ap, ◌∙◌, subst, arith}
use Rattle.std.specs.List.{All}
use Rattle.std.proofs.lemmas.List.Elements.{All-nil, All-cons}
use Rattle.quantity.specs.declared.value.Value.{Value}
use Rattle.run_model.specs.CellStep.{PortState}
use Rattle.run_model.specs.Waiting.{RisesFrom}
use Rattle.cell_table.specs.declared.state.PortState as saved
use Rattle.cell_table.specs.Saved.{port_of_saved}
use Rattle.cell_engine.specs.Layout.{Layout}
use Rattle.cell_engine.specs.Cells.{CanBePut}
use Rattle.layer_runs.proofs.stores.is_put.Goals as goal

-- one port, of which one value waits
one-waits : (l : Layout) (port : saved.PortState) (pair : ℕ × Value) (ports : List saved.PortState) (variables : List Value) → ports ≡ port ∷ [] → port.pairs.items ≡ pair ∷ [] → variables ≡ []
    → l.ports ≡ 0 → l.variables ≡ 0 → CanBePut l (record { ports = map port_of_saved ports; variables = variables })
one-waits l port pair ports variables one waits none few bare =
    let rises = λ (p : PortState). RisesFrom 0 p.pairs in
    let number : length (map port_of_saved ports) ≡ 1 = ap (λ ps. length (map port_of_saved ps)) one in
    let here : RisesFrom 0 port.pairs.items = subst (RisesFrom 0) (sym waits) (omega arith, tt) in
    record {
      ports = omega (arith, number, few);
      variables = ap length none ∙ sym bare;
      rising = subst (λ (ps : List saved.PortState). All rises (map port_of_saved ps)) (sym one) (All-cons rises (port_of_saved port) [] here (All-nil rises));
    }

pub put-requires-clause-state : goal.put-requires-clause-state
put-requires-clause-state g c =
    one-waits c.args.store.now.layout _ _ c.in_ok-vec-2.field-0.items c.new.result.items c.in_ok-vec-2.ensures.items c.in_ok-vec.ensures.items c.new.ensures.items c.requires.ports c.requires.variables
