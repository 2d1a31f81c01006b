-- Private: tables of keys, as the code has them, and the ends of a link.
use Rattle.std.specs.Prelude.{◌==◌, ◌||◌, Bool, List, length}
use Rattle.quantity.specs.Bytes.{Bytes, is_empty}
use Rattle.source_text.specs.Shown.{texts}
use Rattle.model_text.specs.Keys.{once_words}
use Rattle.model_walk.specs.ReadValues.{rows_of}
use Rattle.model_keys.specs.declared.again.Once.{Once}
use Rattle.model_keys.specs.declared.again.Once.TheVariants.{Keys, Words}

-- the words of the keys that may stand once
abbrev pub once_of : Once → List Bytes
once_of (Keys keys) = once_words (rows_of keys.now)
once_of (Words words) = texts words.now

-- nothing stands there, or a link of these two ends
abbrev pub are_two_ends : Bytes → List Bytes → Bool
are_two_ends text ends = is_empty text || (length ends == 2)
