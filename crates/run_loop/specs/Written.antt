-- What writing comes to: all of the pieces, or the first of them where a write failed or memory ran
-- out.
use Rattle.std.specs.Prelude.{◌≡◌, ◌≢◌, Option, List, [], ◌++◌, ⊤, IsSome, IfSome, Result, Ok, Err}
use Rattle.std.specs.Option.{option_to_list}
use Rattle.quantity.specs.Bytes.{Bytes}
use Rattle.model_tree.specs.Tree.{Word}
use Rattle.room_edge.specs.Faults.{WriteFaultCounted}
use Rattle.room_edge.specs.FaultCounts.{KeepsWriteFaults}
use Rattle.room_edge.specs.Outside.{Outside}
use Rattle.room_edge.specs.Only.{OnlyMade}
use Rattle.answer_model.specs.declared.status.Status.{Status}
use Rattle.answer_model.specs.declared.status.Status.TheVariants.{WriteFault, NoMemory}
use Rattle.answer_model.specs.Answer.{MadeFiles, Answer, write_fault_line}
use Rattle.answer_model.specs.FaultsAnswered.{NoWriteFault}
use Rattle.answer_model.specs.Endings.{Says, made_after, looked_for, LeadsTo}
use Rattle.answer_model.specs.RunFiles.{file_if}
use Rattle.run_loop.specs.declared.outputs.Output.{Output}
use Rattle.run_loop.specs.declared.outputs.Unwritten.{Unwritten}
use Rattle.run_loop.specs.declared.outputs.Unwritten.TheVariants.{Fault, Memory}
use Rattle.run_loop.specs.Texts.{FileNames, Texts, no_texts, both, files, name_at, made_before}
use Rattle.run_loop.specs.Order.{Piece, texts_of, WritesInOrder}

-- these texts were added to the files, and nothing else was done
pub record Adds (n : FileNames) (more : Texts) (old new : Outside) : Type 0 where
  pub leads : (t : Texts) (a : Answer) (inputs : List Word)
      → LeadsTo a (made_after inputs (files n t)) (made_after inputs (files n (both t more))) old
      new
  pub created : new.created ≡ old.created
  pub keeps : KeepsWriteFaults old new
  pub only : OnlyMade old new

-- these pieces were written, and no write failed
pub record AddsAll (n : FileNames) (pieces : List Piece) (old new : Outside) : Type 0 where
  pub adds : Adds n (texts_of pieces) old new
  pub sure : NoWriteFault old new

-- a file that could not be written is that of the piece that lacks bytes
abbrev pub LacksIn : Unwritten → FileNames → Piece → Bytes → Type 0
LacksIn (Fault file) n last begun =
    IsSome (name_at n file) × (file ≡ last.file) × (begun ≢ last.bytes)
LacksIn Memory n last begun = ⊤

-- the fault was counted; for want of memory none was
abbrev pub FaultCounted : Unwritten → Outside → Outside → Type 0
FaultCounted (Fault file) old new = WriteFaultCounted old new
FaultCounted Memory old new = NoWriteFault old new

-- the first pieces were written, in their order
pub record Falls (n : FileNames) (why : Unwritten) (pieces : List Piece)
    (old new : Outside) : Type 0
  where
    pub part : Texts
    pub order : WritesInOrder pieces part
    pub lacks : LacksIn why n order.last order.begun
    pub adds : Adds n part old new
    pub fault : FaultCounted why old new

-- all is written, or what an answer of a fault or of want of memory leaves
abbrev pub Writes : {T : Type 0} → FileNames → List Piece → Outside → Outside → Result T Unwritten
    → Type 0
Writes n pieces old new (Ok _) = AddsAll n pieces old new
Writes n pieces old new (Err why) = Falls n why pieces old new

-- ---- files are made

-- one file was made, where there is to be one
pub record Makes (name : Option Word) (old new : Outside) : Type 0 where
  pub leads : (fs : MadeFiles) (a : Answer) (inputs : List Word)
      → LeadsTo a (made_after inputs fs) (made_after inputs (fs ++ file_if name [])) old new
  pub created : new.created ≡ old.created ++ option_to_list name
  pub sure : NoWriteFault old new
  pub only : OnlyMade old new

-- no file was made
pub record MakesNone (old new : Outside) : Type 0 where
  pub leads : (fs : MadeFiles) (a : Answer) (inputs : List Word)
      → LeadsTo a (made_after inputs fs) (made_after inputs fs) old new
  pub keeps : KeepsWriteFaults old new
  pub only : OnlyMade old new

-- the file that failed is one that is asked for
abbrev pub IsThere : Unwritten → FileNames → Output → Type 0
IsThere (Fault file) n f = IsSome (name_at n file) × (file ≡ f)
IsThere Memory n f = ⊤

-- a file is made, or what a failure leaves
abbrev pub MakesOne : {T : Type 0} → FileNames → Output → Outside → Outside → Result T Unwritten
    → Type 0
MakesOne n file old new (Ok _) = Makes (name_at n file) old new
MakesOne n file old new (Err why) =
    MakesNone old new × IsThere why n file × FaultCounted why old new

-- the files before this one were made, and this one wasn't
pub record FallsMaking (n : FileNames) (why : Unwritten) (old new : Outside) : Type 0 where
  pub file : Output
  pub there : IsThere why n file
  pub leads : (a : Answer) (inputs : List Word)
      → LeadsTo a (looked_for inputs) (made_after inputs (made_before n file)) old new
  pub keeps : KeepsWriteFaults old new
  pub only : OnlyMade old new
  pub fault : FaultCounted why old new

-- all files were made
pub record MakesAll (n : FileNames) (old new : Outside) : Type 0 where
  pub leads : (a : Answer) (inputs : List Word)
      → LeadsTo a (looked_for inputs) (made_after inputs (files n no_texts)) old new
  pub created : new.created ≡ old.created ++ option_to_list n.log ++ option_to_list n.out
      ++ option_to_list n.frames ++ option_to_list n.state
  pub sure : NoWriteFault old new
  pub only : OnlyMade old new

-- ---- what is told of it

-- a line tells of the file that lacks bytes; for want of memory there is none
abbrev pub Tells : FileNames → Unwritten → Outside → Outside → Status → Type 0
Tells n (Fault file) old new status =
    IfSome (name_at n file) (λ name. Says (write_fault_line name) WriteFault old new status)
Tells n Memory old new status = (status ≡ NoMemory) × (new ≡ old)

-- all files were made, or those before one that wasn't
abbrev pub MakesFiles : {T : Type 0} → FileNames → Outside → Outside → Result T Unwritten → Type 0
MakesFiles n old new (Ok _) = MakesAll n old new
MakesFiles n old new (Err why) = FallsMaking n why old new

-- the file that could not be written is one that is made
abbrev pub Blames : FileNames → Unwritten → Type 0
Blames n (Fault file) = IsSome (name_at n file)
Blames n Memory = ⊤
