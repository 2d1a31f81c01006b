use Rattle.std.proofs.Common.{◌≡◌, List, None, Some, ℤ, ap, arith, neg_ℤ, rules, ◌∙◌}
use Rattle.std.specs.Borrow.{Bor}
use Rattle.std.specs.Option.{option_map}
use Rattle.std.proofs.lemmas.Int.{ints, to_z-of_z}
use Rattle.rule_words.specs.CellParts.{int_before}
use Rattle.rule_words.specs.Shown.{tokens_of}
use Rattle.rule_words.specs.declared.token.Token as T
use Rattle.rule_words.proofs.Ints.{behind_minus, behind_nothing, behind_plus}
use Rattle.rule_words.proofs.cell.int_before.Goals as goal

pub returns-in_err-number-clause-int : goal.returns-in_err-number-clause-int
returns-in_err-number-clause-int c =
    let none : c.from_residual.result ≡ None = search rules in
    ap (option_map (λ (cut : ℤ × Bor (List T.Token)). (cut.0, tokens_of cut.1.now))) none
    ∙ behind_minus (tokens_of c.args.tokens.now) (tokens_of c.in-Some.behind.now) None c.in-Some.ensures.rest c.in_err-number.ensures.int

pub returns-in-Some-clause-int : goal.returns-in-Some-clause-int
returns-in-Some-clause-int c =
    let e : Some (neg_ℤ c.in_ok-number.number, tokens_of c.in_ok-number.rest.now) ≡ int_before (tokens_of c.args.tokens.now) =
    behind_minus (tokens_of c.args.tokens.now) (tokens_of c.in-Some.behind.now) (Some (c.in_ok-number.number, tokens_of c.in_ok-number.rest.now)) c.in-Some.ensures.rest c.in_ok-number.ensures.int in
    grind (arith, ints, to_z-of_z, e)

pub returns-in-Some-after_mark-clause-int : goal.returns-in-Some-after_mark-clause-int
returns-in-Some-after_mark-clause-int c =
    behind_plus (tokens_of c.args.tokens.now) (tokens_of c.in-Some-after_mark.behind.now) _ c.in-Some-after_mark.ensures.rest c.digits_before-in-Some-after_mark.ensures.int

pub returns-in-None-clause-int : goal.returns-in-None-clause-int
returns-in-None-clause-int c = behind_nothing (tokens_of c.args.tokens.now) _ c.in_default.ensures.rest c.in-None.ensures.rest c.digits_before-in-None.ensures.int
