-- What the phases say of a model that is accepted.
use Rattle.std.specs.Prelude.{◌≡◌, ◌≤◌, true, false, Option, None, List, [], ◌∷◌, map, length}
use Rattle.std.specs.List.{AllByRecursion}
use Rattle.std.specs.declared.result.Result.TheVariants.{Ok}
use Rattle.std.specs.Option.{option_or}
use Rattle.quantity.specs.Bytes.{Bytes, has_repeat}
use Rattle.quantity.specs.declared.bounds.TheConstants.{MAX_ATOMICS}
use Rattle.source_text.specs.Lines.{Files}
use Rattle.ma_lines.specs.Sections.{Section, sections_of}
use Rattle.atomic_face.specs.declared.class.Class.{Class}
use Rattle.model_tree.specs.Tree.{Tree}
use Rattle.model_tree.specs.Sound.{are_accepted, is_sound_model}
use Rattle.model_text.specs.Refusals.{Refusal}
use Rattle.model_text.specs.Walk.{top, item_name, items_in, walk, reached_sections, atomics, top_refused, tree_refused}
use Rattle.model_text.specs.Keys.{keys_refused}
use Rattle.model_text.specs.Spaces.{cells_refused, spaces_refused}
use Rattle.model_text.specs.Stock.{stock_refused}
use Rattle.model_text.specs.Rules.{rules_refused}
use Rattle.model_text.specs.Links.{links_refused, links_of, face_of}
use Rattle.model_text.specs.InitialFiles.{initial_files, first_file_stop}
use Rattle.model_text.specs.Drawings.{Drawing, drawing_refused}
use Rattle.model_text.specs.Trees.{tree_of_sections}
use Rattle.model_text.specs.ModelOf.{model, unless, link_limit_refused, routes_refused, with_files, model_in, model_of}

-- ---- the order of phases

-- what each phase between the lines and the initial files refuses, in their order
abbrev pub phases : List Class → List Section → List (Option Refusal)
phases classes ss =
    top_refused ss ∷ tree_refused ss ∷ keys_refused ss ∷ cells_refused ss ∷ spaces_refused ss
    ∷ stock_refused classes ss ∷ rules_refused ss
    ∷ links_refused ss ∷ link_limit_refused ss ∷ routes_refused ss ∷ []

-- the first refusal
abbrev pub first_of : List (Option Refusal) → Option Refusal
first_of [] = None
first_of (o ∷ os) = option_or o (first_of os)

-- the first phase that refuses decides, and where none does the initial files are read
abbrev pub FirstPhaseDecides : Type 0
FirstPhaseDecides =
    (ss : List Section) (files : Files) (classes : List Class) (drawing : Option Drawing) →
    model_in ss files classes drawing
    ≡ unless (first_of (phases classes ss)) (λ _. with_files ss files drawing)

-- ---- what is accepted

-- no phase between the lines and the initial files refuses
pub record Passed (classes : List Class) (ss : List Section) : Type 0 where
  pub top : top_refused ss ≡ None
  pub tree : tree_refused ss ≡ None
  pub keys : keys_refused ss ≡ None
  pub cells : cells_refused ss ≡ None
  pub spaces : spaces_refused ss ≡ None
  pub stock : stock_refused classes ss ≡ None
  pub rules : rules_refused ss ≡ None
  pub links : links_refused ss ≡ None
  pub link_limit : link_limit_refused ss ≡ None
  pub routes : routes_refused ss ≡ None

-- the sections of a file that pass each phase, and whose tree it is
pub record Accepted (bytes : Bytes) (files : Files) (classes : List Class)
    (drawing : Option Drawing) (t : Tree) : Type 0 where
  pub sections : List Section
  pub lines : sections_of bytes ≡ Ok sections
  pub passed : Passed classes sections
  pub initial : first_file_stop files (initial_files sections) ≡ None
  pub drawn : drawing_refused drawing t ≡ None
  pub tree : t ≡ tree_of_sections files sections

-- an accepted model has passed each phase
abbrev pub PassesEachPhase : Type 0
PassesEachPhase =
    (bytes : Bytes) (files : Files) (classes : List Class) (drawing : Option Drawing) (t : Tree) →
    (model_of bytes files classes drawing).found ≡ model t → Accepted bytes files classes drawing t

-- ---- what the walk says

-- no two components have one name, and none is named as top
abbrev pub ComponentsDiffer : Type 0
ComponentsDiffer =
    (ss : List Section) → tree_refused ss ≡ None
    → has_repeat (top ∷ map item_name (items_in (walk ss))) ≡ false

-- no more atomic components than a model may have
abbrev pub AtomicsFit : Type 0
AtomicsFit = (ss : List Section) → tree_refused ss ≡ None → length (atomics ss) ≤ MAX_ATOMICS

-- ---- what the links say

-- each link of a section is one that is accepted after those before it
abbrev pub LinksAreAccepted : Type 0
LinksAreAccepted =
    (ss : List Section) → links_refused ss ≡ None
    → AllByRecursion (λ s. are_accepted (face_of ss s) [] (links_of s) ≡ true) (reached_sections ss)

-- ---- accepted models are sound

-- whatever its bytes, files, boxes and drawing
abbrev pub ReadsSoundModels : Type 0
ReadsSoundModels =
    (bytes : Bytes) (files : Files) (classes : List Class) (drawing : Option Drawing) (t : Tree) →
    (model_of bytes files classes drawing).found ≡ model t → is_sound_model t ≡ true
