use Rattle.std.proofs.Common.{◌≡◌, ◌++◌, drop, length, take}
use Rattle.source_text.specs.Lines.{file}
use Rattle.model_text.specs.Texts.{texts}
use Rattle.model_text.proofs.life_lines.put_lines.Given as goal

-- the text so far, and the lines that are left
abbrev pub invariant-loop-line : goal.invariant-loop-line
invariant-loop-line l = record {
  appended : l.into.items ++ file (texts (drop l.line-index l.lines)) ≡ l.fn.into.items ++ file (texts l.lines);
  kept : take (length l.fn.into.items) l.into.items ≡ l.fn.into.items;
}
