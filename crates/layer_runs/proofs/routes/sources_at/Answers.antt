use Rattle.std.proofs.Common.{◌≡◌, ℕ, ℤ, [], List, length, sym, ap, ◌∙◌, arith}
use Rattle.std.proofs.lemmas.List.{length-map}
use Rattle.model_tree.specs.Tree.{leaf_count, leaves}
use Rattle.model_leaves.specs.LeafTexts.{in_ports}
use Rattle.model_leaves.specs.Models.{tree_of}
use Rattle.model_leaves.proofs.Read.{leaves-length}
use Rattle.layer_runs.proofs.routes.sources_at.Goals as goal

pub ports-requires : goal.ports-requires
ports-requires c =
    let none : ℕ → List ℤ = λ _. [] in
    let t = tree_of c.args.model.now none in
    let covers = c.each_port_has_its_list.ensures t c.args.routes.now (c.requires none) in
    let long : length c.args.routes.now.ports ≡ leaf_count t =
    sym (length-map c.args.routes.now.ports length) ∙ ap length covers.ports ∙ length-map (leaves t) (λ l. length (in_ports l)) ∙ leaves-length t 0 in
    let counted = c.leaves.ensures none in
    omega (arith, long, counted)

pub sources-requires-clause-port : goal.sources-requires-clause-port
sources-requires-clause-port c = λ d. omega (arith, c.ports.ensures d)

pub sources-requires-clause-leaf : goal.sources-requires-clause-leaf
sources-requires-clause-leaf c =
    let none : ℕ → List ℤ = λ _. [] in
    let t = tree_of c.args.model.now none in
    let covers = c.each_port_has_its_list.ensures t c.args.routes.now (c.requires none) in
    let long : length c.args.routes.now.ports ≡ leaf_count t =
    sym (length-map c.args.routes.now.ports length) ∙ ap length covers.ports ∙ length-map (leaves t) (λ l. length (in_ports l)) ∙ leaves-length t 0 in
    let counted = c.leaves.ensures none in
    omega (arith, long, counted)
