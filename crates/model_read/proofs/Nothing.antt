-- Nothing was read.
use Rattle.std.proofs.Common.{◌≡◌, ◌++◌, Option, Some, None, List, [], sym, refl, Err, le_refl}
use Rattle.std.proofs.lemmas.List.{append-nil}
use Rattle.std.specs.Prelude.{IfSome}
use Rattle.quantity.specs.Bytes.{Bytes}
use Rattle.source_text.specs.Lines.{Files}
use Rattle.atomic_face.specs.StockView.{Stocked}
use Rattle.model_text.specs.Drawings.{Drawing}
use Rattle.model_text.specs.ModelOf.{ModelRead}
use Rattle.room_edge.specs.Outside.{Outside}
use Rattle.room_edge.specs.Only.{OnlyInput}
use Rattle.model_read.specs.declared.refusal.ModelRefusal.TheVariants as why
use Rattle.model_read.specs.Read.{Reads}

pub nothing_changed : (o : Outside) → OnlyInput o o
nothing_changed o = record { files = refl; made = refl; shown = refl; complained = refl; write_faults = refl; complain_faults = refl; created = refl }

-- where memory ran out at once
pub read_nothing : (definition : Files → ModelRead) (drawing : Option Drawing) (stock : List Stocked) (o : Outside) → Reads definition drawing stock (Err why.Memory) o o
read_nothing definition drawing stock o =
    record {
      found = found o.files;
      tried = tried o.files;
      ready = tt;
      drawn = tt;
      group = tt;
      last = tt;
      counted = (refl, refl);
      misses = le_refl o.misses;
      faults = le_refl o.read_faults;
      only = nothing_changed o;
    }
  where
    found : (folder : Option Files) → IfSome folder (λ folder. Unit {0})
    found None = tt
    found (Some folder) = tt

    tried : (folder : Option Files) → IfSome folder (λ folder. (part : List Bytes) × ((rest : List Bytes) × ((definition folder).looked ≡ part ++ rest)) × (o.tried ≡ o.tried ++ part))
    tried None = tt
    tried (Some folder) = ([], ((definition folder).looked, refl), sym (append-nil o.tried))
