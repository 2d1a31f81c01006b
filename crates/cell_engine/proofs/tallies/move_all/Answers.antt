use Rattle.std.proofs.Common.{◌≡◌, ◌<◌, ◌≤◌, ℕ, Option, None, List, map, length, get_or, set, ◌∙◌, ap, arith}
use Rattle.std.proofs.lemmas.List.{length-map}
use Rattle.cell_grid.specs.Space.{neighbour}
use Rattle.cell_grid.specs.Watched.{opposite}
use Rattle.cell_engine.specs.Step.{near}
use Rattle.cell_engine.specs.Tallied.{last_value_shown, outs_of}
use Rattle.cell_engine.proofs.Tallying.{midway_more, within_at, can_at, all_moved}
use Rattle.cell_engine.proofs.tallies.move_all.Goals as goal

pub loop-watcher-init : goal.loop-watcher-init
loop-watcher-init c = c.requires.tallies

pub move_for-requires : goal.move_for-requires
move_for-requires c =
    let l = c.args.plan.now in
    let tb = c.args.table.now in
    let i = c.args.i in
    let k = c.loop-watcher.watcher-index in
    let ws = c.args.watchers.now in
    let ts = c.loop-watcher.tallies in
    let long = length-map tb.cells last_value_shown ∙ c.requires.cells in
    let many : length ws ≡ length l.offsets = ap length c.requires.watchers ∙ length-map (map opposite l.offsets) (neighbour l.space i) ∙ length-map l.offsets opposite in
    let lt : k < length l.offsets = omega (arith, c.loop-watcher-test.true, many) in
    let whole = c.loop-watcher.auto.tallies ∙ c.requires.whole in
    let at = ap (λ (ms : List (Option ℕ)). get_or ms k None) c.requires.watchers in
    record {
      within = within_at (near l) (outs_of tb) i c.args.before.now c.args.gone c.args.come c.requires.cell long c.requires.gone c.requires.come ts k (get_or ws k None) lt whole at;
      can = can_at (near l) (outs_of tb) i c.args.before.now c.args.gone c.args.come c.requires.cell long c.requires.gone c.requires.come ts k (get_or ws k None) lt c.requires.few whole at c.loop-watcher.invariant;
    }

pub loop-watcher-preserved : goal.loop-watcher-preserved
loop-watcher-preserved c =
    let l = c.args.plan.now in
    let tb = c.args.table.now in
    let i = c.args.i in
    let k = c.loop-watcher.watcher-index in
    let ws = c.args.watchers.now in
    let long = length-map tb.cells last_value_shown ∙ c.requires.cells in
    let many : length ws ≡ length l.offsets = ap length c.requires.watchers ∙ length-map (map opposite l.offsets) (neighbour l.space i) ∙ length-map l.offsets opposite in
    let lt : k < length l.offsets = omega (arith, c.loop-watcher-test.true, many) in
    let whole = c.loop-watcher.auto.tallies ∙ c.requires.whole in
    let at = ap (λ (ms : List (Option ℕ)). get_or ms k None) c.requires.watchers in
    midway_more (near l) (outs_of tb) i c.args.before.now c.args.gone c.args.come c.requires.cell long c.requires.gone c.requires.come c.loop-watcher.tallies c.move_for.new.tallies k (get_or ws k None)
    lt whole at c.move_for.ensures c.move_for.auto.tallies c.loop-watcher.invariant

pub returns : goal.returns
returns c =
    let l = c.args.plan.now in
    let es = outs_of c.args.table.now in
    let k = c.loop-watcher.watcher-index in
    let many : length c.args.watchers.now ≡ length l.offsets =
    ap length c.requires.watchers ∙ length-map (map opposite l.offsets) (neighbour l.space c.args.i) ∙ length-map l.offsets opposite in
    let past : length l.offsets ≤ k = omega (arith, c.loop-watcher-test.false, many) in
    all_moved (near l) (set es c.args.i c.args.before.now) es k c.loop-watcher.tallies past c.loop-watcher.invariant
