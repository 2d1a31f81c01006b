use Rattle.std.proofs.Common.{◌≡◌, map, drop}
use Rattle.std.specs.Option.{ForSome}
use Rattle.run_loop.specs.Showing.{took, plain}
use Rattle.run_loop.proofs.drawn.Drawn.take.Given as goal

abbrev pub invariant-loop-one : goal.invariant-loop-one
invariant-loop-one l = record {
  taken : took l.at (map plain (drop l.one-index l.given)) l.self ≡ took l.at (map plain l.given) l.fn.self;
  begun : ForSome l.self.drawing.begun (λ t. t ≡ l.at);
}
