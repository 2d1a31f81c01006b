-- What the reading of a model answers.
use Rattle.std.specs.Prelude.{◌≡◌, true, Option, None, List, IfSome, IfOk, ⊤}
use Rattle.std.specs.Borrow.{Bor}
use Rattle.std.specs.Option.{option_map}
use Rattle.std.specs.declared.result.Result.{Result}
use Rattle.std.specs.declared.result.Result.TheVariants.{Ok, Err}
use Rattle.source_text.specs.Lines.{Files}
use Rattle.atomic_face.specs.StockView.{Stocked}
use Rattle.room_edge.specs.Outside.{Outside}
use Rattle.room_edge.specs.Only.{OnlyInput}
use Rattle.room_edge.specs.FaultCounts.{KeepsMisses, KeepsReadFaults}
use Rattle.model_leaves.specs.declared.table.Model.{Model}
use Rattle.model_leaves.specs.Models.{tree_of}
use Rattle.model_leaves.specs.Leaves.{OfTree}
use Rattle.model_tree.specs.Sound.{is_sound_model}
use Rattle.route_flat.specs.declared.routes.Routes.{Routes}
use Rattle.route_flat.specs.Nets.{RoutesOf}
use Rattle.model_text.specs.Refusals.{refusal}
use Rattle.model_text.specs.Drawings as D
use Rattle.model_text.specs.ModelOf.{ModelOf, model, missing, refused, ModelRead}
use Rattle.model_read.specs.declared.refusal.ModelRefusal.{ModelRefusal}
use Rattle.model_read.specs.declared.refusal.ModelRefusal.TheVariants as why
use Rattle.model_read.specs.Reading.{Tried, IsLastTried, Counted}
use Rattle.asked_words.specs.declared.asked.FramesFile.{FramesFile}
use Rattle.model_build.specs.Boxes.{settings_of_stock, BoxesStand}
use Rattle.asked_words.specs.Group.{IsDrawn}
use Rattle.model_read.specs.declared.found.ReadModel.{ReadModel}

-- what is drawn for a file of frames
abbrev pub drawing_of : Option (Bor FramesFile) → Option D.Drawing
drawing_of frames =
    option_map (λ (f : Bor FramesFile). record { group = f.now.group; plane = f.now.plane }) frames

-- a model that a run may start from: it is sound, the routes are its own, and so are the boxes of
-- its atomic components
pub record IsReady (stock : List Stocked) (m : Model) (routes : Routes) : Type 0 where
  pub sound : is_sound_model (tree_of m (settings_of_stock stock)) ≡ true
  pub routes_are : OfTree m (λ t. RoutesOf t routes)
  pub boxes : BoxesStand stock m

-- the model is the one that is found, under the settings of the boxes; a missing file and a refusal
-- are those that are found
abbrev pub ModelGives : ModelOf → List Stocked → Result ReadModel ModelRefusal → Type 0
ModelGives found stock (Ok read) = found ≡ model (tree_of read.model (settings_of_stock stock))
ModelGives found stock (Err (why.Missing name)) = found ≡ missing name
ModelGives found stock (Err (why.Refused line kind)) = found ≡ refused (refusal line kind)
ModelGives found stock (Err (why.ReadFault name)) = ⊤
ModelGives found stock (Err why.Memory) = ⊤

-- what is to be drawn of the model is there
abbrev pub CanBeDrawn : Option D.Drawing → List Stocked → Model → Type 0
CanBeDrawn drawing stock m = D.drawing_refused drawing (tree_of m (settings_of_stock stock)) ≡ None

-- all of this of a reading whose definition is this, where the files are told
pub record Reads (definition : Files → ModelRead) (drawing : Option D.Drawing)
    (stock : List Stocked) (result : Result ReadModel ModelRefusal)
    (old new : Outside) : Type 0 where
  pub found : IfSome old.files (λ files. ModelGives (definition files).found stock result)
  pub tried : IfSome old.files (λ files. Tried result (definition files).looked old.tried new.tried)
  pub ready : IfOk result (λ read. IsReady stock read.model read.routes)
  pub drawn : IfOk result (λ read. CanBeDrawn drawing stock read.model)
  pub group : IfOk result (λ read. OfTree read.model (λ t. IsDrawn drawing read.drawn t))
  pub last : IsLastTried result new.tried
  pub counted : Counted result old new
  pub misses : KeepsMisses old new
  pub faults : KeepsReadFaults old new
  pub only : OnlyInput old new
