use Rattle.std.proofs.Common.{◌+◌, ◌≤◌, length}
use Rattle.state_file.proofs.Reading.{ReadSo}
use Rattle.state_file.proofs.load.take_lines.Given as goal

abbrev pub invariant-loop-leaf : goal.invariant-loop-leaf
invariant-loop-leaf g l = record {
  read : ReadSo l.t l.text l.fn.run l.leaf l.run l.left;
  short : l.leaf + length l.left ≤ length l.text;
}
