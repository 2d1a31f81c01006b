use Rattle.std.proofs.Common.{◌≡◌, ◌∙◌, ℕ, ap, Some}
use Rattle.std.proofs.lemmas.Result.{IfOk-weaker}
use Rattle.clap.specs.Walk.{Rule}
use Rattle.clap.specs.Words.{app_of, rule_of, with_rule}
use Rattle.clap.specs.declared.builder.arg.Arg.{Arg}
use Rattle.asked_words.proofs.command.with_option.Goals as goal

abbrev lettered : ℕ → Rule → Rule
lettered letter rule = record rule { short = Some letter }

-- the rule of an option with a letter, said of any two options, so that no large term is written out
letter_given : (old new : Arg) (letter : ℕ) (rule : Rule) → new ≡ record old { short = Some letter } → rule_of old ≡ rule → rule_of new ≡ lettered letter rule
letter_given old new letter rule is has = ap rule_of is ∙ ap (lettered letter) has

pub returns : goal.returns
returns c =
    let local = ap (λ (a : Arg). a.global) c.short.ensures ∙ c.new.ensures.optional.1 in
    let rule = letter_given _ _ c.args.letter _ c.short.ensures c.new.ensures.rule in
    IfOk-weaker c.arg.result _ _ (λ command adds. adds.shape local ∙ ap (with_rule (app_of c.args.command)) rule) c.arg.ensures
