use Rattle.std.proofs.Common.{◌≡◌, ◌≤◌, length, take, drop}
use Rattle.source_text.specs.Lines.{lines_of}
use Rattle.ma_lines.specs.Sections.{sections_of}
use Rattle.ma_lines.specs.Reader.{reading_of}
use Rattle.ma_lines.specs.Reading.{braces_in, read_from}
use Rattle.ma_lines.proofs.Numbered.{pieces_of, total}
use Rattle.ma_lines.proofs.lines.Lines.read.Given as goal

abbrev pub invariant-loop-line : goal.invariant-loop-line
invariant-loop-line l =
    record {
      reads : read_from (reading_of l.reader) (drop (length l.yielded) (lines_of l.bytes)) ≡ sections_of l.bytes;
      counted : l.number ≡ length l.yielded;
      braces : braces_in (reading_of l.reader).open_entry ≤ total (take (length l.yielded) (pieces_of l.bytes));
    }
