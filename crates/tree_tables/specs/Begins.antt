-- Private: where links begin, among components as they are listed.
use Rattle.std.specs.Prelude.{ℕ, ℤ, Option, None, List, [], ◌∷◌, if◌then◌else◌}
use Rattle.std.specs.List.{position}
use Rattle.std.specs.Option.{option_map}
use Rattle.std.specs.Str.{bytes_eq}
use Rattle.model_tree.specs.declared.component.Component.{Component}
use Rattle.model_tree.specs.declared.link.End.{End}
use Rattle.model_tree.specs.declared.link.End.TheVariants.{Own, Child, Cell}
use Rattle.model_tree.specs.Tree.{Word, name_of}
use Rattle.model_tree.specs.Stands.{part_of}
use Rattle.served_tree.specs.Processors.{out_number}
use Rattle.served_tree.specs.Places.{node_of}
use Rattle.served_tree.specs.Rows.{Ref, own_input, output_of, group_ref}
use Rattle.tree_tables.specs.declared.begins.Inside.{Inside}
use Rattle.tree_tables.specs.declared.begins.Inside.TheVariants as inside

-- the output port of the first of these components, with these numbers, that has this name
abbrev pub child_begin_in : List Component → (ℕ → List ℤ) → List ℕ → Word → Word → Option Ref
child_begin_in [] settings numbers port child = None
child_begin_in (c ∷ cs) settings [] port child = None
child_begin_in (c ∷ cs) settings (n ∷ ns) port child =
    if bytes_eq (name_of (part_of c settings)) child
    then option_map (output_of n) (out_number (node_of (part_of c settings) 0) port)
    else child_begin_in cs settings ns port child

-- where a link of a coupled component begins
abbrev pub coupled_begin : List Component → (ℕ → List ℤ) → List ℕ → List Word → End → Option Ref
coupled_begin cs settings numbers ins (Own p) =
    option_map own_input (position (bytes_eq p) ins)
coupled_begin cs settings numbers ins (Child p c) = child_begin_in cs settings numbers p c
coupled_begin cs settings numbers ins (Cell p n) = None

-- where a link begins, by what is inside
abbrev pub begin_in : Inside → (ℕ → List ℤ) → List ℕ → List Word → End → Option Ref
begin_in (inside.Children cs) settings numbers ins e =
    coupled_begin cs.now.list.now settings numbers ins e
begin_in inside.Cells settings numbers ins e = group_ref numbers ins e
