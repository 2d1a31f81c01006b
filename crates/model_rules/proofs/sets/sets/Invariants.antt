use Rattle.std.proofs.Common.{take}
use Rattle.source_text.specs.Shown.{texts}
use Rattle.rule_syntax.specs.Shown.{names_of}
use Rattle.model_text.specs.Rules.{sections_named}
use Rattle.model_rules.specs.Parts.{HasSets}
use Rattle.model_rules.proofs.sets.sets.Given as goal

abbrev pub invariant-loop-name : goal.invariant-loop-name
invariant-loop-name l = HasSets (names_of l.names) (sections_named l.sections (texts (take l.name-index l.named))) l.read
