-- Limits of the whole model: its inputs and outputs, and its paths.
use Rattle.std.specs.Prelude.{◌≡◌, true, false, Option, Some, None, List, length, nat_lt, codes}
use Rattle.std.specs.declared.result.Result.TheVariants.{Ok}
use Rattle.quantity.specs.Bytes.{Bytes}
use Rattle.quantity.specs.declared.bounds.TheConstants.{MAX_PORTS, MAX_PATHS}
use Rattle.source_text.specs.Lines.{Files}
use Rattle.ma_lines.specs.Sections.{Section, sections_of}
use Rattle.atomic_face.specs.declared.class.Class.{Class}
use Rattle.model_tree.specs.Paths.{path_count}
use Rattle.model_text.specs.declared.kind.Kind.TheVariants.{TooLarge, TooManyRoutes}
use Rattle.model_text.specs.Refusals.{refusal}
use Rattle.model_text.specs.Keyed.{section_named, texts_of}
use Rattle.model_text.specs.Walk.{top, top_refused, tree_refused}
use Rattle.model_text.specs.Keys.{keys_refused}
use Rattle.model_text.specs.Spaces.{cells_refused, spaces_refused}
use Rattle.model_text.specs.Stock.{stock_refused}
use Rattle.model_text.specs.Rules.{rules_refused}
use Rattle.model_text.specs.Links.{links_refused}
use Rattle.model_text.specs.InitialFiles.{is_long}
use Rattle.model_text.specs.Drawings.{Drawing}
use Rattle.model_text.specs.Trees.{tree_of_sections, no_files}
use Rattle.model_text.specs.ModelOf.{refuses, link_limit_refused, model_of}

-- the sections of a file of which nothing is refused but a limit
pub record HasRightLinks (bytes : Bytes) (classes : List Class) (ss : List Section) : Type 0 where
  pub short : is_long bytes ≡ false
  pub lines : sections_of bytes ≡ Ok ss
  pub top : top_refused ss ≡ None
  pub tree : tree_refused ss ≡ None
  pub keys : keys_refused ss ≡ None
  pub cells : cells_refused ss ≡ None
  pub spaces : spaces_refused ss ≡ None
  pub stock : stock_refused classes ss ≡ None
  pub rules : rules_refused ss ≡ None
  pub links : links_refused ss ≡ None

-- more words under a key of top than it may have
abbrev pub HasMany : Bytes → List Section → Section → Type 0
HasMany key ss s =
    (section_named ss top ≡ Some s) × (nat_lt MAX_PORTS (length (texts_of key s)) ≡ true)

-- more paths than a model may have
abbrev pub HasManyPaths : List Section → Type 0
HasManyPaths ss = nat_lt MAX_PATHS (path_count (tree_of_sections no_files ss)) ≡ true

-- all of them at line 0, and before a file is looked for, whatever files there are
pub record LimitsAreRefused : Type 0 where
  pub inputs : (bytes : Bytes) (files : Files) (classes : List Class) (drawing : Option Drawing)
      (ss : List Section) (s : Section)
      → HasRightLinks bytes classes ss → HasMany (codes "in") ss s
      → model_of bytes files classes drawing ≡ refuses (refusal 0 TooLarge)
  pub outputs : (bytes : Bytes) (files : Files) (classes : List Class) (drawing : Option Drawing)
      (ss : List Section) (s : Section)
      → HasRightLinks bytes classes ss → HasMany (codes "out") ss s
      → model_of bytes files classes drawing ≡ refuses (refusal 0 TooLarge)
  pub paths : (bytes : Bytes) (files : Files) (classes : List Class) (drawing : Option Drawing)
      (ss : List Section)
      → HasRightLinks bytes classes ss → link_limit_refused ss ≡ None → HasManyPaths ss
      → model_of bytes files classes drawing ≡ refuses (refusal 0 TooManyRoutes)
