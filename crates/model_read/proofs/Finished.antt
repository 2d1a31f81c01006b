-- What the phases behind the limit of links come to, from the model with ? in each cell.
use Rattle.std.proofs.Common.{◌≡◌, ◌<◌, ◌≤◌, true, false, Option, Some, None, List, map, Ok, Err, IfSome, sym, ap, ◌∙◌, subst}
use Rattle.quantity.specs.declared.value.Value.{Value}
use Rattle.source_text.specs.Lines.{Files}
use Rattle.ma_lines.specs.Sections.{Section}
use Rattle.atomic_face.specs.StockView.{Stocked}
use Rattle.atomic_face.specs.declared.class.Class.{Class}
use Rattle.room_edge.specs.Outside.{Outside}
use Rattle.model_tree.specs.declared.component.Coupled.{Coupled}
use Rattle.model_leaves.specs.declared.table.Model.{Model}
use Rattle.model_leaves.specs.Laid.{tree_with_values}
use Rattle.model_leaves.specs.Leaves.{Settings, IsModelOf, OfTree}
use Rattle.model_leaves.specs.Models as code
use Rattle.model_tree.specs.Paths.{path_count}
use Rattle.model_tree.specs.Sound.{is_sound_model}
use Rattle.route_flat.specs.declared.routes.Routes.{Routes}
use Rattle.route_flat.specs.Nets.{RoutesOf}
use Rattle.model_text.specs.declared.kind.Kind.TheVariants.{TooManyRoutes, NoSuchPlane}
use Rattle.model_text.specs.BuildLaws.{PassedLinks, FilesAreLaid, TotalsAreWithinLimits}
use Rattle.model_text.specs.Drawings.{Drawing, drawing_refused}
use Rattle.model_text.specs.InitialFiles.{initial_files}
use Rattle.model_text.specs.Refusals.{refusal}
use Rattle.model_text.specs.Trees.{initial_of, tree_of_sections, no_files}
use Rattle.model_text.specs.Walk.{groups}
use Rattle.model_build.specs.Built.{IsBuilt}
use Rattle.model_read.specs.declared.group_space.GroupSpace.{GroupSpace}
use Rattle.model_read.specs.declared.refusal.ModelRefusal.{ModelRefusal}
use Rattle.model_read.specs.declared.refusal.ModelRefusal.TheVariants.{Missing, ReadFault, Refused, Memory}
use Rattle.model_read.specs.Reading.{ReadsFiles}
use Rattle.model_read.specs.Spaces.{kept_space, said_space}
use Rattle.model_build.specs.Boxes.{settings_of_stock, HasBoxes}
use Rattle.model_build.specs.Laws.{GroupsAreMet, BlanksAreLaid, LinksStay, LaidModelsAreSound, BoxesAreStanding}
use Rattle.asked_words.specs.declared.group.GroupAt.{GroupAt}
use Rattle.asked_words.specs.Group.{IsDrawn}
use Rattle.model_read.specs.Ends.{RoutesGive, IsBlank, can_draw}
use Rattle.model_read.specs.Read.{IsReady, Reads}
use Rattle.model_read.specs.Whole.{behind_limit}
use Rattle.model_read.proofs.Nothing.{read_nothing}
use Rattle.model_read.proofs.Tells.{too_many, a_model}
use Rattle.model_read.proofs.Drawn.{drawn_alike, refused_where, refusal_if}
use Rattle.model_read.proofs.Valued.{sizes_of, sizes_in, count, covers}

-- the laws that a model stands on
pub record Laws : Type 0 where
  pub met : GroupsAreMet
  pub blanks : BlanksAreLaid
  pub links : LinksStay
  pub sound : LaidModelsAreSound
  pub boxes : BoxesAreStanding
  pub totals : TotalsAreWithinLimits
  pub files : FilesAreLaid

on_one : {P Q : Files → Type 0} (o : Option Files) → IfSome o P → ((folder : Files) → P folder → Q folder) → IfSome o Q
on_one None p go = tt
on_one (Some folder) p go = go folder p

module _ (ss : List Section) (drawing : Option Drawing) (top : Coupled) (m : Model) (of : IsModelOf m top) where
  -- ---- with ? in each cell

  module _ (settings : Settings) (built : IsBuilt ss settings top) (blanks : BlanksAreLaid) where
    pub blank : IsBlank ss m
    blank = (settings, of settings ∙ built)

    paths_are : path_count (code.tree_of m settings) ≡ path_count (tree_of_sections no_files ss)
    paths_are = ap path_count (of settings ∙ built) ∙ blanks.paths (tree_of_sections no_files ss)

    pub few : OfTree m (λ t. path_count t ≤ 65536) → path_count (tree_of_sections no_files ss) ≤ 65536
    few h = subst (λ n. n ≤ 65536) paths_are (h settings)

    pub routes_stop : (w : ModelRefusal) (stock : List Stocked) (o : Outside) → RoutesGive m (Err w) → Reads (behind_limit ss drawing) drawing stock (Err w) o o
    routes_stop (Missing name) stock o h = absurd h
    routes_stop (ReadFault name) stock o h = absurd h
    routes_stop Memory stock o h = read_nothing (behind_limit ss drawing) drawing stock o
    routes_stop (Refused line kind) stock o h =
        subst (λ k. Reads (behind_limit ss drawing) drawing stock (Err (Refused line k)) o o) (sym h.1)
        (subst (λ l. Reads (behind_limit ss drawing) drawing stock (Err (Refused l TooManyRoutes)) o o) (sym h.0)
        (too_many ss drawing stock (subst (λ n. 65536 < n) paths_are (h.2 settings)) o))

  -- ---- the drawing

  module _ (classes : List Class) (passed : PassedLinks classes ss) (met : GroupsAreMet) (gs : List GroupSpace) (kept : map kept_space gs ≡ map said_space (groups ss)) where
    pub off : can_draw drawing gs ≡ false → (folder : Files) → drawing_refused drawing (tree_of_sections folder ss) ≡ Some (refusal 0 NoSuchPlane)
    off e folder = refused_where drawing gs folder ss kept (met folder classes ss passed) ∙ ap refusal_if e

    pub allowed : can_draw drawing gs ≡ true → (folder : Files) → drawing_refused drawing (tree_of_sections folder ss) ≡ None
    allowed e folder = refused_where drawing gs folder ss kept (met folder classes ss passed) ∙ ap refusal_if e

  -- ---- a model with values

  module _
      (laws : Laws) (classes : List Class) (passed : PassedLinks classes ss) (values : List (List Value)) (sizes : sizes_of values ≡ sizes_in (groups ss))
      (n : Model) (is : (settings : Settings) → code.tree_of n settings ≡ tree_with_values values (code.tree_of m settings))
      (few_paths : path_count (tree_of_sections no_files ss) ≤ 65536)
      (stock : List Stocked) (built : IsBuilt ss (settings_of_stock stock) top) where
    tree_is : code.tree_of n (settings_of_stock stock) ≡ tree_with_values values (tree_of_sections no_files ss)
    tree_is =
        is (settings_of_stock stock) ∙ ap (tree_with_values values) (of (settings_of_stock stock) ∙ built)
        ∙ laws.blanks.laying (tree_of_sections no_files ss) values (count ss classes passed laws.met values sizes)

    ready : (routes : Routes) → OfTree m (λ t. RoutesOf t routes) → HasBoxes stock top → IsReady stock n routes
    ready routes routes_are has =
        record {
          sound = subst (λ t. is_sound_model t ≡ true) (sym tree_is)
              (laws.sound (tree_of_sections no_files ss) values (laws.totals no_files classes ss passed) few_paths (count ss classes passed laws.met values sizes) (covers ss classes passed laws.met values sizes));
          routes_are = λ settings. subst (λ t. RoutesOf t routes) (sym (is settings)) (laws.links.routes (code.tree_of m settings) values routes (routes_are settings));
          boxes = laws.boxes stock top n values has (λ settings. is settings ∙ ap (tree_with_values values) (of settings));
        }

    pub finished : (T : Type 0) (x : T) (routes : Routes) → OfTree m (λ t. RoutesOf t routes) → HasBoxes stock top → (o p : Outside)
        → ReadsFiles (initial_files ss) (Ok x) o p → IfSome o.files (λ folder. values ≡ map (initial_of folder) (groups ss))
        → ((folder : Files) → drawing_refused drawing (tree_of_sections folder ss) ≡ None) → (drawn : Option GroupAt) → OfTree n (λ t. IsDrawn drawing drawn t)
        → Reads (behind_limit ss drawing) drawing stock (Ok (record { model = n; routes = routes; drawn = drawn })) o p
    finished T x routes routes_are has o p read right can drawn group =
        a_model ss drawing stock T x n routes drawn o p few_paths read can
        (on_one o.files right (λ folder e.
        laws.files folder classes ss passed ∙ ap (λ v. tree_with_values v (tree_of_sections no_files ss)) (sym e) ∙ sym tree_is))
        (ready routes routes_are has)
        (ap (drawing_refused drawing) tree_is ∙ drawn_alike drawing (tree_of_sections no_files ss) values ∙ can no_files) group
