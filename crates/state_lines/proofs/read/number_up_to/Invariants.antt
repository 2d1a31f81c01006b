use Rattle.std.proofs.Common.{◌≡◌, ◌≤◌, true, take}
use Rattle.std.specs.List.{list_all}
use Rattle.std.specs.Str.Parse.{digits_value}
use Rattle.quantity.specs.Written.{is_digit}
use Rattle.state_lines.proofs.read.number_up_to.Given as goal

abbrev pub invariant-loop-digit : goal.invariant-loop-digit
invariant-loop-digit l = record {
  digits : list_all is_digit (take l.digit-index l.text) ≡ true;
  value : l.number ≡ digits_value 10 (take l.digit-index l.text);
  small : l.number ≤ l.most;
}
