-- A file that is read whole, whatever its form.
use Rattle.std.specs.Prelude.{ℕ, Vec, true}
use Rattle.std.specs.declared.alloc.Global.{Global}
use Rattle.std.specs.declared.result.Result.{Result}
use Rattle.std.specs.declared.result.Result.TheVariants.{Ok, Err}
use Rattle.quantity.specs.Bytes.{Bytes}
use Rattle.room_edge.specs.declared.whole.ReadWhole.{ReadWhole}
use Rattle.room_edge.specs.declared.whole.ReadWhole.TheVariants as read
use Rattle.model_text.specs.declared.kind.Kind.TheVariants.{TooLong}
use Rattle.model_text.specs.InitialFiles.{InitialFile}
use Rattle.model_read.specs.declared.refusal.ModelRefusal.{ModelRefusal}
use Rattle.model_read.specs.declared.refusal.ModelRefusal.TheVariants as why

-- a file of any content
abbrev pub any_file : ℕ → Bytes → InitialFile
any_file line name = record { line = line; name = name; is_right = λ bytes. true }

-- what is answered to a whole read of a file that this line names
abbrev pub answer_to_read : ℕ → Bytes → Result (Vec ℕ Global) ReadWhole
    → Result (Vec ℕ Global) ModelRefusal
answer_to_read line name (Ok bytes) = Ok bytes
answer_to_read line name (Err read.Missing) = Err (why.Missing name)
answer_to_read line name (Err read.ReadFault) = Err (why.ReadFault name)
answer_to_read line name (Err (read.TooLong n)) = Err (why.Refused line TooLong)
answer_to_read line name (Err read.Memory) = Err why.Memory
