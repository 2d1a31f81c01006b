use Rattle.std.proofs.Common.{◌≡◌, ◌++◌, length}
use Rattle.std.specs.Prelude.{◌&&◌}
use Rattle.std.specs.List.{filter_map, list_all}
use Rattle.quantity.specs.Bytes.{words}
use Rattle.quantity.specs.Literals.{value_in}
use Rattle.model_text.specs.Forms.{is_value_text}
use Rattle.model_walk.proofs.read_value.values.Given as goal

abbrev pub invariant-loop-word : goal.invariant-loop-word
invariant-loop-word l = record {
  values : l.values.items ++ filter_map value_in (words l.rest) ≡ filter_map value_in (words l.text);
  all : (l.are_all && list_all is_value_text (words l.rest)) ≡ list_all is_value_text (words l.text);
}

abbrev pub decreases-loop-word : goal.decreases-loop-word
decreases-loop-word l = length l.rest
