-- Nothing was read.
use Rattle.std.proofs.Common.{Option, Some, None, List, [], sym, refl, Err, le_refl}
use Rattle.std.proofs.lemmas.List.{append-nil}
use Rattle.std.specs.Prelude.{IfSome}
use Rattle.quantity.specs.Bytes.{Bytes}
use Rattle.source_text.specs.Lines.{Files}
use Rattle.room_edge.specs.Outside.{Outside}
use Rattle.room_edge.specs.Only.{OnlyInput}
use Rattle.model_text.specs.InitialFiles.{InitialFile, names_looked_for}
use Rattle.model_read.specs.declared.refusal.ModelRefusal.TheVariants as why
use Rattle.model_read.specs.Reading.{Tried, StopsAs, ReadsFiles}

pub nothing_changed : (o : Outside) → OnlyInput o o
nothing_changed o = record { files = refl; made = refl; shown = refl; complained = refl; write_faults = refl; complain_faults = refl; created = refl }

-- where memory ran out at once
pub read_nothing : (T : Type 0) (files : List InitialFile) (o : Outside) → ReadsFiles {T = T} files (Err why.Memory) o o
read_nothing T files o =
    record {
      stops = stops o.files;
      tried = tried o.files;
      last = tt;
      counted = (refl, refl);
      misses = le_refl o.misses;
      faults = le_refl o.read_faults;
      only = nothing_changed o;
    }
  where
    stops : (folder : Option Files) → IfSome folder (λ folder. Unit {0})
    stops None = tt
    stops (Some folder) = tt

    tried : (folder : Option Files) → IfSome folder (λ folder. Tried {T = T} (Err why.Memory) (names_looked_for folder files) o.tried o.tried)
    tried None = tt
    tried (Some folder) = ([], (names_looked_for folder files, refl), sym (append-nil o.tried))
