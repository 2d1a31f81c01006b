-- Files of more than MAX_FILE_BYTES bytes.
use Rattle.std.specs.Prelude.{◌≡◌, true, Option, None, List, [], ◌∷◌, codes}
use Rattle.quantity.specs.Bytes.{Bytes}
use Rattle.source_text.specs.Lines.{Files}
use Rattle.atomic_face.specs.declared.class.Class.{Class}
use Rattle.model_text.specs.declared.kind.Kind.TheVariants.{TooLong}
use Rattle.model_text.specs.Refusals.{refusal}
use Rattle.model_text.specs.InitialFiles.{is_long}
use Rattle.model_text.specs.Drawings.{Drawing}
use Rattle.model_text.specs.ModelOf.{refused, refuses, model_of}
use Rattle.model_text.specs.FileExamples.{planes, one_file, read_with, stops}

-- a model's file at line 0, and a file of initial values at the line of its key
pub record LongFilesAreRefused : Type 0 where
  pub model : (bytes : Bytes) (files : Files) (classes : List Class) (drawing : Option Drawing)
      → is_long bytes ≡ true
      → model_of bytes files classes drawing ≡ refuses (refusal 0 TooLong)
  pub initial : (bytes : Bytes) → is_long bytes ≡ true
      → read_with planes (one_file (codes "V.val") bytes) None ≡ stops (codes "V.val" ∷ [])
      (refused (refusal 7 TooLong))
