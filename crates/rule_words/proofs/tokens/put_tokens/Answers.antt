use Rattle.std.proofs.Common.{◌≡◌, ◌++◌, Option, List, subst, sym, ◌∙◌}
use Rattle.std.specs.Option.{option_map}
use Rattle.std.specs.Bool.{then_some}
use Rattle.std.specs.Result.{IfOk}
use Rattle.rule_words.specs.Shown.{tokens_of}
use Rattle.rule_words.specs.Tokens.{Token}
use Rattle.rule_words.proofs.PieceTokens.{put_blank, put_mark, put_run, word_tokens}
use Rattle.rule_words.proofs.tokens.put_tokens.Goals as goal

pub returns-then-is_blank : goal.returns-then-is_blank
returns-then-is_blank c = put_blank (tokens_of c.args.into.now.items) c.args.piece.now c.in-len1-up.len_at_least (sym c.is_blank.ensures ∙ c.if-is_blank.true)

pub returns-then-is_ascii_alphabetic : goal.returns-then-is_ascii_alphabetic
returns-then-is_ascii_alphabetic c =
    let is =
    word_tokens c.args.piece.now c.in-len1-up.len_at_least
    (sym c.is_blank.ensures ∙ c.if-is_blank.false)
    (sym c.is_ascii_alphabetic.ensures.value ∙ c.if-is_ascii_alphabetic.true) in
    subst (λ (x : Option (List Token)). IfOk c.put_word.result (λ known. option_map (λ ts. tokens_of c.args.into.now.items ++ ts) x ≡ then_some known (tokens_of c.put_word.new.into.items))) is c.put_word.ensures

pub returns-then-is_of_run : goal.returns-then-is_of_run
returns-then-is_of_run c =
    let is =
    put_run (tokens_of c.args.into.now.items) c.args.piece.now c.number_token.result c.in-len1-up.len_at_least
    (sym c.is_blank.ensures ∙ c.if-is_blank.false)
    (sym c.is_ascii_alphabetic.ensures.value ∙ c.if-is_ascii_alphabetic.false)
    (sym c.is_of_run.ensures ∙ c.if-is_of_run.true)
    c.number_token.ensures in
    subst (λ (x : Option (List Token)). IfOk c.put_token.result (λ known. x ≡ then_some known (tokens_of c.put_token.new.into.items))) (sym is) c.put_token.ensures

pub returns-else-is_of_run : goal.returns-else-is_of_run
returns-else-is_of_run c =
    let is =
    put_mark (tokens_of c.args.into.now.items) c.args.piece.now c.mark_token.result c.in-len1-up.len_at_least
    (sym c.is_blank.ensures ∙ c.if-is_blank.false)
    (sym c.is_ascii_alphabetic.ensures.value ∙ c.if-is_ascii_alphabetic.false)
    (sym c.is_of_run.ensures ∙ c.if-is_of_run.false)
    c.mark_token.ensures in
    subst (λ (x : Option (List Token)). IfOk c.put_token-else-is_of_run.result (λ known. x ≡ then_some known (tokens_of c.put_token-else-is_of_run.new.into.items))) (sym is) c.put_token-else-is_of_run.ensures
