-- What is drawn of a model: a plane of a cell group.
use Rattle.std.specs.Prelude.{ℕ, Bool, false, nat_lt, Option, Some, None, if◌then◌else◌}
use Rattle.std.specs.List.{find}
use Rattle.std.specs.Str.{bytes_eq}
use Rattle.quantity.specs.Bytes.{Bytes}
use Rattle.cell_grid.specs.Space.{plane_count}
use Rattle.model_tree.specs.Tree.{Tree, Group, groups}
use Rattle.model_text.specs.declared.kind.Kind.TheVariants.{NoSuchPlane}
use Rattle.model_text.specs.Refusals.{Refusal, refusal}

-- a plane of a group that is drawn
pub record Drawing : Type 0 where
  pub group : Bytes
  pub plane : ℕ

-- the first group of this name
abbrev pub group_named : Bytes → Tree → Option Group
group_named name t = find (λ (g : Group). bytes_eq g.name name) (groups t)

-- a group that is there has the plane
abbrev pub has_plane : ℕ → Option Group → Bool
has_plane plane None = false
has_plane plane (Some g) = nat_lt plane (plane_count g.space)

-- the refusal of a drawing whose group or plane is not there
abbrev pub drawing_refused : Option Drawing → Tree → Option Refusal
drawing_refused None t = None
drawing_refused (Some d) t =
    if has_plane d.plane (group_named d.group t) then None else Some (refusal 0 NoSuchPlane)
