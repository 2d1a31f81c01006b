-- Private: the stack after the arguments of a function.
use Rattle.std.specs.Prelude.{Option, Some, None, List, ◌++◌}
use Rattle.rule_tree.specs.declared.outcome.Answer.{Answer}

-- answers put on the stack one after another, or none where one overflows
abbrev pub stack_with_answers : List Answer → Option (List Answer) → Option (List Answer)
stack_with_answers below None = None
stack_with_answers below (Some xs) = Some (below ++ xs)
