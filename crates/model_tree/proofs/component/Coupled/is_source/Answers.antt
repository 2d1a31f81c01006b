use Rattle.std.proofs.Common.{◌≡◌, None, Some, List, sym, ap, ◌∙◌}
use Rattle.model_tree.specs.declared.component.Component.{Component}
use Rattle.model_tree.specs.Stands.{part_of}
use Rattle.model_tree.specs.Causes.{child_in}
use Rattle.model_tree.proofs.Judged.{source-child}
use Rattle.model_tree.proofs.component.Coupled.is_source.Goals as goal

pub returns-in-None : goal.returns-in-None
returns-in-None c = λ settings.
    let found : child_in c.args.self.now.children.items settings c.in-Child.child ≡ None =
    ap (λ (cs : List Component). child_in cs settings c.in-Child.child) (sym c.deref-in-Child.ensures.value) ∙ c.in-None.ensures settings in
    sym (source-child c.args.self.now settings c.args.end.now c.in-Child.port c.in-Child.child None c.in-Child.is found)

pub returns-in-Some : goal.returns-in-Some
returns-in-Some c = λ settings.
    let found : child_in c.args.self.now.children.items settings c.in-Child.child ≡ Some (part_of c.in-Some.found.now settings) =
    ap (λ (cs : List Component). child_in cs settings c.in-Child.child) (sym c.deref-in-Child.ensures.value) ∙ c.in-Some.ensures settings in
    c.gives.ensures settings ∙ sym (source-child c.args.self.now settings c.args.end.now c.in-Child.port c.in-Child.child _ c.in-Child.is found)
