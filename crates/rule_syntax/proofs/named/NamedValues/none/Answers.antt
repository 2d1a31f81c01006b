use Rattle.std.proofs.Common.{refl}
use Rattle.rule_syntax.proofs.OneMore.{no_values_named}
use Rattle.rule_syntax.proofs.named.NamedValues.none.Goals as goal

pub returns : goal.returns
returns c = λ names kind. no_values_named names kind _ c.new.ensures.items (c.nothing.ensures names) refl
