-- What a coupled component's face says of the ports of its children.
use Rattle.std.proofs.Common.{◌≡◌, ℕ, List, ℤ, Option, ap, ◌∙◌}
use Rattle.quantity.specs.Bytes.{is_among}
use Rattle.model_tree.specs.declared.component.Coupled.{Coupled}
use Rattle.model_tree.specs.declared.component.Component.TheVariants.{Coupled as in_tree}
use Rattle.model_tree.specs.declared.link.End.{End}
use Rattle.model_tree.specs.declared.link.End.TheVariants.{Child}
use Rattle.model_tree.specs.Tree.{Word, Tree}
use Rattle.model_tree.specs.Faces.{is_source, is_target, inputs_of, outputs_of}
use Rattle.model_tree.specs.Linked.{face_of}
use Rattle.model_tree.specs.Stands.{part_of}
use Rattle.model_tree.specs.Causes.{child_in}
use Rattle.model_tree.proofs.Children.{child_of-Coupled}

pub source-child : (c : Coupled) (settings : ℕ → List ℤ) (e : End) (port child : Word) (o : Option Tree) → e ≡ Child port child → child_in c.children.items settings child ≡ o → is_source (face_of (part_of (in_tree c) settings)) e ≡ is_among (outputs_of o) port
source-child c settings e port child o same found =
    ap (is_source (face_of (part_of (in_tree c) settings))) same ∙ ap (λ (x : Option Tree). is_among (outputs_of x) port) (child_of-Coupled c settings child ∙ found)

pub target-child : (c : Coupled) (settings : ℕ → List ℤ) (e : End) (port child : Word) (o : Option Tree) → e ≡ Child port child → child_in c.children.items settings child ≡ o → is_target (face_of (part_of (in_tree c) settings)) e ≡ is_among (inputs_of o) port
target-child c settings e port child o same found =
    ap (is_target (face_of (part_of (in_tree c) settings))) same ∙ ap (λ (x : Option Tree). is_among (inputs_of x) port) (child_of-Coupled c settings child ∙ found)
