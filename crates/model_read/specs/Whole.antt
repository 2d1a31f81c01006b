-- What a file of a name gives, and what the phases behind the limit of links give.
use Rattle.std.specs.Prelude.{Option, Some, None, List, [], ◌∷◌}
use Rattle.std.specs.declared.result.Result.{Result}
use Rattle.quantity.specs.Bytes.{Bytes}
use Rattle.source_text.specs.Lines.{Files}
use Rattle.ma_lines.specs.Sections.{Section}
use Rattle.ma_lines.specs.declared.section.LineRefusal.{LineRefusal}
use Rattle.ma_lines.specs.declared.section.LineRefusal.TheVariants as L
use Rattle.model_text.specs.declared.kind.Kind.TheVariants.{BadLine, DuplicateSection}
use Rattle.model_read.specs.declared.refusal.ModelRefusal.{ModelRefusal}
use Rattle.model_read.specs.declared.refusal.ModelRefusal.TheVariants as why
use Rattle.room_edge.specs.Outside.{Outside}
use Rattle.atomic_face.specs.declared.class.Class.{Class}
use Rattle.atomic_face.specs.StockView.{Stocked}
use Rattle.model_tree.specs.declared.component.Coupled.{Coupled}
use Rattle.model_text.specs.Drawings.{Drawing}
use Rattle.model_build.specs.Built.{IsBuilt}
use Rattle.model_build.specs.Boxes.{settings_of_stock, HasBoxes}
use Rattle.model_read.specs.Read.{Reads}
use Rattle.model_read.specs.declared.found.ReadModel.{ReadModel}
use Rattle.model_text.specs.ModelOf.{ModelOf, missing, ModelRead, model_of, unless, routes_refused, with_files}

-- ---- a file of a name, which may be missing

-- what is found, where there is this under the name
abbrev pub found_in : Option Bytes → Bytes → Files → List Class → Option Drawing → ModelOf
found_in None name files classes drawing = missing name
found_in (Some bytes) name files classes drawing = (model_of bytes files classes drawing).found

-- the names of initial files that are looked for
abbrev pub looked_in : Option Bytes → Files → List Class → Option Drawing → List Bytes
looked_in None files classes drawing = []
looked_in (Some bytes) files classes drawing = (model_of bytes files classes drawing).looked

-- what the file of this name gives
abbrev pub found_of : Files → Bytes → List Class → Option Drawing → ModelOf
found_of files name classes drawing = found_in (files name) name files classes drawing

-- the name, and then those of initial files
abbrev pub looked_of : Files → Bytes → List Class → Option Drawing → List Bytes
looked_of files name classes drawing = name ∷ looked_in (files name) files classes drawing

-- ---- behind the limit of links

-- the count of paths, and then the files
abbrev pub behind_limit : List Section → Option Drawing → Files → ModelRead
behind_limit ss drawing files = unless (routes_refused ss) (λ _. with_files ss files drawing)

-- what is read behind the limit of links, for each stock with whose settings the top was built
abbrev pub ReadsBehind : List Section → Coupled → Option Drawing → Outside → Outside
    → Result ReadModel ModelRefusal → Type 0
ReadsBehind ss top drawing old new result =
    (stock : List Stocked) → IsBuilt ss (settings_of_stock stock) top → HasBoxes stock top
    → Reads (behind_limit ss drawing) drawing stock result old new

-- all that a file of a name gives
abbrev pub of_name : Bytes → List Class → Option Drawing → Files → ModelRead
of_name name classes drawing files = record {
  looked = looked_of files name classes drawing;
  found = found_of files name classes drawing;
}

-- ---- lines

-- what is answered to a line that is refused
abbrev pub refusal_of_lines : LineRefusal → ModelRefusal
refusal_of_lines (L.BadLine line) = why.Refused line BadLine
refusal_of_lines (L.DuplicateSection line) = why.Refused line DuplicateSection
refusal_of_lines L.Memory = why.Memory
