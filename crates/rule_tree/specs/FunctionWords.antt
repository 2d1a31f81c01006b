-- Each function has a word of its own.
use Rattle.std.specs.Prelude.{◌≡◌, Some}
use Rattle.rule_tree.specs.declared.function.Function.{Function}
use Rattle.rule_tree.specs.Functions.{row}
use Rattle.rule_tree.specs.Phrases.{functions, looked_up}

-- no function is forgotten, and no two have one word
abbrev pub EachFunctionIsRead : Type 0
EachFunctionIsRead = (f : Function) → looked_up functions (row f).word ≡ Some f
