-- What a call changes of the outside, and that it changes nothing else.
use Rattle.std.specs.Prelude.{◌≡◌, ℕ, List, ◌++◌, Option, if◌then◌else◌}
use Rattle.std.specs.Option.{option_map}
use Rattle.std.specs.Str.{bytes_eq}
use Rattle.quantity.specs.Bytes.{Files}
use Rattle.room_edge.specs.Outside.{Outside}

-- the folder, with more bytes at the end of that file
abbrev pub with_more : List ℕ → List ℕ → Files → Files
with_more name bytes folder =
    λ n. if bytes_eq name n then option_map (λ old. old ++ bytes) (folder n) else folder n

-- a folder that may not be told, with more bytes at the end of that file
unfoldable pub adds : Option Files → List ℕ → List ℕ → Option Files
adds made name bytes = option_map (with_more name bytes) made

-- nothing has changed but what is read, and what was asked for
pub record OnlyInput (old new : Outside) : Type 0 where
  pub files : new.files ≡ old.files
  pub made : new.made ≡ old.made
  pub shown : new.shown ≡ old.shown
  pub complained : new.complained ≡ old.complained
  pub write_faults : new.write_faults ≡ old.write_faults
  pub complain_faults : new.complain_faults ≡ old.complain_faults
  pub created : new.created ≡ old.created

-- nothing has changed but the rest of the input
pub record OnlyRest (old new : Outside) : Type 0 where
  pub input : OnlyInput old new
  pub misses : new.misses ≡ old.misses
  pub tried : new.tried ≡ old.tried
  pub opened : new.opened ≡ old.opened

-- nothing has changed but the output
pub record OnlyOutput (old new : Outside) : Type 0 where
  pub files : new.files ≡ old.files
  pub rest : new.rest ≡ old.rest
  pub read_faults : new.read_faults ≡ old.read_faults
  pub misses : new.misses ≡ old.misses
  pub tried : new.tried ≡ old.tried
  pub opened : new.opened ≡ old.opened

-- nothing has changed but the made files
pub record OnlyMade (old new : Outside) : Type 0 where
  pub output : OnlyOutput old new
  pub shown : new.shown ≡ old.shown
  pub complained : new.complained ≡ old.complained
  pub complain_faults : new.complain_faults ≡ old.complain_faults

-- nothing has changed but standard output
pub record OnlyShown (old new : Outside) : Type 0 where
  pub output : OnlyOutput old new
  pub made : new.made ≡ old.made
  pub created : new.created ≡ old.created
  pub complained : new.complained ≡ old.complained
  pub complain_faults : new.complain_faults ≡ old.complain_faults

-- nothing has changed but standard error
pub record OnlyComplained (old new : Outside) : Type 0 where
  pub output : OnlyOutput old new
  pub made : new.made ≡ old.made
  pub created : new.created ≡ old.created
  pub shown : new.shown ≡ old.shown
