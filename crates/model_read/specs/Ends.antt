-- Private: what the phases behind the limit of links give.
use Rattle.std.specs.Prelude.{◌≡◌, ℕ, ◌<◌, ◌≤◌, Bool, true, false, nat_lt, Option, Some, None, List, ⊤}
use Rattle.std.specs.declared.result.Result.{Result}
use Rattle.std.specs.declared.result.Result.TheVariants.{Ok, Err}
use Rattle.std.specs.List.{find}
use Rattle.std.specs.Str.{bytes_eq}
use Rattle.quantity.specs.declared.bounds.TheConstants.{MAX_PATHS}
use Rattle.ma_lines.specs.Sections.{Section}
use Rattle.cell_grid.specs.Space.{plane_count}
use Rattle.model_leaves.specs.declared.table.Model.{Model}
use Rattle.model_leaves.specs.Leaves.{OfTree, Settings}
use Rattle.model_leaves.specs.Models as code
use Rattle.model_tree.specs.Paths.{path_count}
use Rattle.route_flat.specs.declared.routes.Routes.{Routes}
use Rattle.route_flat.specs.Nets.{RoutesOf}
use Rattle.model_text.specs.declared.kind.Kind.TheVariants.{TooManyRoutes}
use Rattle.model_text.specs.Drawings.{Drawing}
use Rattle.model_text.specs.Trees.{tree_of_sections, no_files}
use Rattle.model_build.specs.Blank.{blanked}
use Rattle.model_read.specs.declared.group_space.GroupSpace.{GroupSpace}
use Rattle.model_read.specs.declared.refusal.ModelRefusal.{ModelRefusal}
use Rattle.model_read.specs.declared.refusal.ModelRefusal.TheVariants as why

-- the routes of a model with at most `MAX_PATHS` paths; TooManyRoutes where there are more
abbrev pub RoutesGive : Model → Result Routes ModelRefusal → Type 0
RoutesGive m (Ok routes) = OfTree m (λ t. RoutesOf t routes) × OfTree m (λ t. path_count t ≤ MAX_PATHS)
RoutesGive m (Err (why.Refused line kind)) =
    (line ≡ 0) × (kind ≡ TooManyRoutes) × OfTree m (λ t. MAX_PATHS < path_count t)
RoutesGive m (Err why.Memory) = ⊤
RoutesGive m (Err (why.Missing name)) = ⊥
RoutesGive m (Err (why.ReadFault name)) = ⊥

-- under some settings the model is the tree of the sections, with ? in each cell
abbrev pub IsBlank : List Section → Model → Type 0
IsBlank ss m =
    (settings : Settings) × (code.tree_of m settings ≡ blanked (tree_of_sections no_files ss))

-- a group that is there has the plane
abbrev pub has_plane : ℕ → Option GroupSpace → Bool
has_plane plane None = false
has_plane plane (Some g) = nat_lt plane (plane_count g.grid)

-- nothing is drawn, or a plane that there is
abbrev pub can_draw : Option Drawing → List GroupSpace → Bool
can_draw None gs = true
can_draw (Some d) gs =
    has_plane d.plane (find (λ (g : GroupSpace). bytes_eq g.section.now.name d.group) gs)
