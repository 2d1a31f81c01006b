-- What items and refusals in the code stand for, and the items of one entry.
use Rattle.std.specs.Prelude.{ℕ, List, [], map, if◌then◌else◌}
use Rattle.std.specs.Str.{bytes_eq}
use Rattle.quantity.specs.Bytes.{Bytes, words}
use Rattle.ma_lines.specs.declared.section.Entry.{Entry}
use Rattle.model_text.specs.Refusals.{Refusal}
use Rattle.model_text.specs.Keyed.{Item}
use Rattle.model_walk.specs.declared.item.Item as kept
use Rattle.model_walk.specs.declared.refused.Refused.{Refused}

-- the word with its line
abbrev pub item_of : kept.Item → Item
item_of i = record { line = i.line; text = i.text.now }

-- the line and the kind
abbrev pub refusal_of : Refused → Refusal
refusal_of r = record { line = r.line; kind = r.kind }

-- words on one line
abbrev pub words_at : ℕ → List Bytes → List Item
words_at line ws = map (λ w. record { line = line; text = w }) ws

-- the words of an entry that has this key
abbrev pub items_at : Bytes → Entry → List Item
items_at key e = if bytes_eq e.key key then words_at e.line (words e.value) else []
