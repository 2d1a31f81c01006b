use Rattle.std.proofs.Common.{ℕ, ℤ, [], List, ap, ◌∙◌}
use Rattle.model_tree.specs.Tree.{Word}
use Rattle.port_net.specs.Named.{kept_for}
use Rattle.port_net.proofs.Called.{found-within}
use Rattle.port_net.proofs.children.Children.place.Goals as goal

pub returns-clause-place : goal.returns-clause-place
returns-clause-place c = λ settings.
    let children = c.args.self.now in
    c.copied.ensures ∙ c.get.ensures.value
    ∙ ap (λ (w : Word). kept_for children.places.entries w) c.as_bytes.ensures.bytes ∙ children.first settings c.args.name.now

pub returns-clause-within : goal.returns-clause-within
returns-clause-within c =
    let children = c.args.self.now in
    let none : ℕ → List ℤ = λ _. [] in
    found-within children.list.now none c.args.name.now c.copied.result
    (c.copied.ensures ∙ c.get.ensures.value ∙ ap (λ (w : Word). kept_for children.places.entries w) c.as_bytes.ensures.bytes ∙ children.first none c.args.name.now)
