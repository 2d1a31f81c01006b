-- The model of a file, the name of a missing file, or the refusal: the first phase that refuses
-- decides.
use Rattle.std.specs.Prelude.{Bool, ◌||◌, nat_lt, Option, Some, None, List, [], length, if◌then◌else◌}
use Rattle.std.specs.declared.result.Result.{Result}
use Rattle.std.specs.declared.result.Result.TheVariants.{Ok, Err}
use Rattle.quantity.specs.Bytes.{Bytes}
use Rattle.quantity.specs.declared.bounds.TheConstants.{MAX_LINKS, MAX_PORTS, MAX_PATHS}
use Rattle.source_text.specs.Lines.{Files}
use Rattle.ma_lines.specs.declared.section.LineRefusal.{LineRefusal}
use Rattle.ma_lines.specs.Sections.{Section, sections_of}
use Rattle.atomic_face.specs.declared.class.Class.{Class}
use Rattle.model_tree.specs.Tree.{Word, Tree, ins_of, outs_of}
use Rattle.model_tree.specs.Paths.{path_count}
use Rattle.model_text.specs.declared.kind.Kind.TheVariants.{TooLarge, TooLong, TooManyRoutes}
use Rattle.model_text.specs.Refusals.{Refusal, refusal, refusal_of_line}
use Rattle.model_text.specs.Walk.{top_refused, tree_refused}
use Rattle.model_text.specs.Keys.{keys_refused}
use Rattle.model_text.specs.Spaces.{cells_refused, spaces_refused}
use Rattle.model_text.specs.Stock.{stock_refused}
use Rattle.model_text.specs.Rules.{rules_refused}
use Rattle.model_text.specs.Links.{links_refused, link_count}
use Rattle.model_text.specs.InitialFiles.{initial_files, FileStop, absent, off, is_long, first_file_stop, names_looked_for}
use Rattle.model_text.specs.Drawings.{Drawing, drawing_refused}
use Rattle.model_text.specs.Trees.{tree_of_sections, no_files}

-- a model, the name of a missing file, or the first refusal
pub data ModelOf : Type 0 where
  model : Tree → ModelOf
  missing : (name : Word) → ModelOf
  refused : Refusal → ModelOf

-- what is found, with the names of the initial files that were looked for
pub record ModelRead : Type 0 where
  pub looked : List Word
  pub found : ModelOf

-- refused before any file was looked for
abbrev pub refuses : Refusal → ModelRead
refuses r = record { looked = []; found = refused r }

-- goes on unless there is a refusal
abbrev pub unless : Option Refusal → (Unit {0} → ModelRead) → ModelRead
unless None next = next tt
unless (Some r) next = refuses r

-- ---- the limits of links and of routes

-- more links than a model may have, or more inputs or outputs
abbrev pub has_too_many_links : List Section → Tree → Bool
has_too_many_links ss t =
    nat_lt MAX_LINKS (link_count ss) || nat_lt MAX_PORTS (length (ins_of t))
    || nat_lt MAX_PORTS (length (outs_of t))

-- both are of the model before its files are read, which change no link
abbrev pub link_limit_refused : List Section → Option Refusal
link_limit_refused ss =
    if has_too_many_links ss (tree_of_sections no_files ss) then Some (refusal 0 TooLarge) else None

-- more paths than a model may have
abbrev pub routes_refused : List Section → Option Refusal
routes_refused ss =
    if nat_lt MAX_PATHS (path_count (tree_of_sections no_files ss))
    then Some (refusal 0 TooManyRoutes) else None

-- ---- the initial files, and then the drawing

-- a model, unless there is a refusal
abbrev pub model_unless : Option Refusal → Tree → ModelOf
model_unless None t = model t
model_unless (Some r) t = refused r

-- the first file that stops, or else what the drawing refuses
abbrev pub after_files : Option FileStop → Option Drawing → Tree → ModelOf
after_files None drawing t = model_unless (drawing_refused drawing t) t
after_files (Some (absent name)) drawing t = missing name
after_files (Some (off r)) drawing t = refused r

-- what is found with these files
abbrev pub with_files : List Section → Files → Option Drawing → ModelRead
with_files ss files drawing =
    record {
      looked = names_looked_for files (initial_files ss);
      found =
          after_files (first_file_stop files (initial_files ss)) drawing
          (tree_of_sections files ss);
    }

-- ---- the phases after the lines, in their order

-- each phase in its order, and then the files
abbrev pub model_in : List Section → Files → List Class → Option Drawing → ModelRead
model_in ss files classes drawing =
    unless (top_refused ss) (λ _.
    unless (tree_refused ss) (λ _.
    unless (keys_refused ss) (λ _.
    unless (cells_refused ss) (λ _.
    unless (spaces_refused ss) (λ _.
    unless (stock_refused classes ss) (λ _.
    unless (rules_refused ss) (λ _.
    unless (links_refused ss) (λ _.
    unless (link_limit_refused ss) (λ _.
    unless (routes_refused ss) (λ _. with_files ss files drawing))))))))))

-- ---- the whole file

-- a file of more than MAX_FILE_BYTES bytes
abbrev pub length_refused : Bytes → Option Refusal
length_refused bytes = if is_long bytes then Some (refusal 0 TooLong) else None

-- the phases over the sections, or the refused line
abbrev pub after_lines : Result (List Section) LineRefusal → Files → List Class → Option Drawing
    → ModelRead
after_lines (Ok ss) files classes drawing = model_in ss files classes drawing
after_lines (Err r) files classes drawing = refuses (refusal_of_line r)

-- of the bytes of a file, with initial files, boxes of these classes, and what is drawn
unfoldable pub model_of : Bytes → Files → List Class → Option Drawing → ModelRead
model_of bytes files classes drawing =
    unless (length_refused bytes) (λ _. after_lines (sections_of bytes) files classes drawing)
