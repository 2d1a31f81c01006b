use Rattle.std.proofs.Common.{rules, ◌≡◌, ◌≤◌, ◌+◌, ◌-◌, ℕ, List, take, drop, length, sym, ap, ◌∙◌, arith}
use Rattle.model_tree.specs.Tree.{Word}
use Rattle.model_leaves.specs.Leaves.{no_settings}
use Rattle.model_leaves.proofs.Read.{rows-length, row-got, found-tells, part-within, names-within}
use Rattle.model_leaves.proofs.table.Model.found.Goals as goal

pub at-row-requires : goal.at-row-requires
at-row-requires c = omega (arith, rows-length c.args.self.now no_settings, c.requires)

pub index-requires : goal.index-requires
index-requires c =
    let got = row-got c.args.self.now c.args.leaf c.at-row.result c.requires c.at-row.ensures in
    omega (arith, part-within c.args.self.now c.args.leaf c.at-row.result got, c.args.self.now.parts.ok.0)

pub slice_bounds-result-end : goal.slice_bounds-result-end
slice_bounds-result-end c =
    let got = row-got c.args.self.now c.args.leaf c.at-row.result c.requires c.at-row.ensures in
    let within : c.at-row.result.first_port + c.at-row.result.ports ≤ length c.args.self.now.ports.items = names-within c.args.self.now c.args.leaf c.at-row.result got in
    let same : length c.deref.result.now ≡ length c.args.self.now.ports.items = ap length c.deref.ensures.value in
    search rules

pub returns : goal.returns
returns c =
    let got = row-got c.args.self.now c.args.leaf c.at-row.result c.requires c.at-row.ensures in
    let count : (c.at-row.result.first_port + c.at-row.result.ports) - c.at-row.result.first_port ≡ c.at-row.result.ports = omega arith in
    found-tells c.args.self.now c.args.leaf c.at-row.result c.index.result.now _ got c.index.ensures
    (ap (λ (n : ℕ). take n (drop c.at-row.result.first_port c.args.self.now.ports.items)) (sym count) ∙ ap (λ (xs : List Word). take (c.at-row.result.first_port + c.at-row.result.ports - c.at-row.result.first_port) (drop c.at-row.result.first_port xs)) (sym c.deref.ensures.value))
