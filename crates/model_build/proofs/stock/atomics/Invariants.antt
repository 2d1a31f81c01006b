use Rattle.std.proofs.Common.{◌≡◌, map, take}
use Rattle.model_text.specs.Walk.{atomics}
use Rattle.model_walk.specs.Shown.{item_of}
use Rattle.model_build.specs.Settled.{classes_of}
use Rattle.model_build.specs.Taken.{Stands}
use Rattle.model_build.proofs.stock.atomics.Given as goal

abbrev pub invariant-loop-item : goal.invariant-loop-item
invariant-loop-item g l = record {
  all : map item_of l.item-items ≡ atomics l.sections;
  stands : Stands l.sections (classes_of l.fn.stock) l.stock l.found.items (map item_of (take l.item-index l.item-items));
}
