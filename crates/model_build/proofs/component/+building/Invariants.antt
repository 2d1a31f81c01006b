use Rattle.std.proofs.Common.{drop, take}
use Rattle.model_build.specs.Ahead.{BuildsItems, Boxes, ItemsAhead}
use Rattle.model_build.proofs.component.+building.Given as goal

abbrev pub invariant-components-loop-component : goal.invariant-components-loop-component
invariant-components-loop-component l = record {
  built : BuildsItems (take l.component-index l.met) l.fn.parts l.all.items l.parts;
  boxes : Boxes l.fn.parts l.all.items l.parts;
  ahead : ItemsAhead (drop l.component-index l.met) l.parts;
}
