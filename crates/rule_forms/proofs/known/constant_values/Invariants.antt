use Rattle.std.proofs.Common.{◌≡◌, map, drop}
use Rattle.rule_tree.specs.Meaning.{Sight}
use Rattle.rule_forms.specs.Numbered.{numbered_expression}
use Rattle.rule_forms.specs.Puts.{put_by, no_values}
use Rattle.rule_forms.specs.Known.{are_numbers}
use Rattle.rule_forms.proofs.known.constant_values.Given as goal

abbrev pub invariant-loop-give : goal.invariant-loop-give
invariant-loop-give l =
    ((s : Sight)
    → put_by (map numbered_expression (drop l.give-index l.gives)) s l.given.values
    ≡ put_by (map numbered_expression l.gives) s no_values)
    × (are_numbers (map numbered_expression (drop l.give-index l.gives)) ≡ are_numbers (map numbered_expression l.gives))
