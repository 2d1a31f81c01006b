-- Private: the parts of a line that a value of the program stands for.
use Rattle.drawlog_top.specs.declared.parts.Parts as code
use Rattle.drawlog_top.specs.Strict as strict

-- a line's parts in code as those of the definitions
abbrev pub parts_of : code.Parts → strict.Parts
parts_of p = record {
  letter = p.letter.now;
  time = p.time.now;
  leaf = p.leaf.now;
  first = p.first.now;
  second = p.second.now;
}
