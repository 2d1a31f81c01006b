-- What a component in code shows to the links in it.
use Rattle.std.specs.Prelude.{Option, Some, None, List, if◌then◌else◌, []}
use Rattle.std.specs.Str.{bytes_eq}
use Rattle.cell_grid.specs.Space.{cell_count}
use Rattle.model_tree.specs.Tree.{Word, Group, Tree, Trees, cells, nil, cons, name_of}
use Rattle.model_tree.specs.Faces.{Face, inputs_of, outputs_of}

-- the first of that name
abbrev pub child_of : Trees → Word → Option Tree
child_of nil name = None
child_of (cons t ts) name = if bytes_eq (name_of t) name then Some t else child_of ts name

-- the ports that links inside a coupled component may use
abbrev pub face_of_coupled : List Word → List Word → Trees → Face
face_of_coupled ins outs children =
    record {
      ins = ins;
      outs = outs;
      inputs_of = λ child. inputs_of (child_of children child);
      outputs_of = λ child. outputs_of (child_of children child);
      cells = 0;
    }

-- the ports that links inside a group may use
abbrev pub face_of_group : Group → Face
face_of_group g =
    record {
      ins = g.ins;
      outs = g.outs;
      inputs_of = λ child. [];
      outputs_of = λ child. [];
      cells = cell_count g.space;
    }
