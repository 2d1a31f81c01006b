-- Private: what the reader stands for.
use Rattle.std.specs.Prelude.{ℕ}
use Rattle.std.specs.Option.{option_map}
use Rattle.quantity.specs.Bytes.{Bytes}
use Rattle.source_text.specs.Lines.{Line}
use Rattle.ma_lines.specs.declared.open_entry.OpenEntry.{OpenEntry}
use Rattle.ma_lines.specs.declared.reader.Reader.{Reader}
use Rattle.ma_lines.specs.Reading.{Opened, Reading}

-- an open entry in code as one of the definitions
abbrev pub opened_of : OpenEntry → Opened
opened_of e = record { line = e.line; key = e.key.items; value = e.value.items; braces = e.braces }

-- what has been read, as the definitions have it
abbrev pub reading_of : Reader → Reading
reading_of r = record { sections = r.sections; open_entry = option_map opened_of r.open_entry }

-- a line with its number
abbrev pub line_of : ℕ → Bytes → Line
line_of number text = record { number = number; text = text }
