use Rattle.std.proofs.Common.{◌≡◌, Option, List, [], ◌∷◌, ◌++◌, subst, ap, sym, ◌∙◌, arith, rules}
use Rattle.std.proofs.lemmas.List.{map_push}
use Rattle.std.proofs.lemmas.List.Sums.{prefix_len-le-length}
use Rattle.std.specs.Bool.{then_some}
use Rattle.std.specs.Result.{IfOk}
use Rattle.rule_words.specs.declared.token.Token.TheVariants.{Word}
use Rattle.rule_words.specs.Shown.{token_of, tokens_of}
use Rattle.rule_words.specs.Tokens.{Token, is_of_word}
use Rattle.rule_words.proofs.PieceTokens.{put_number}
use Rattle.rule_words.proofs.tokens.put_word.Goals as goal

pub split_at-requires : goal.split_at-requires
split_at-requires c = omega (arith, c.word_length.ensures, prefix_len-le-length is_of_word c.args.run.now)

pub returns : goal.returns
returns c =
    let front = c.args.into.now.items in
    let word = c.split_at.result.0 in
    let items : c.push.new.self.items ≡ front ++ Word word ∷ [] = search rules in
    let is =
    put_number (tokens_of front) (tokens_of c.push.new.self.items) c.args.run.now word.now c.split_at.result.1.now c.word_length.result c.number_token.result
    (record { place = c.word_length.ensures; front = c.split_at.ensures.front; back = c.split_at.ensures.back })
    (ap tokens_of items ∙ map_push token_of front (Word word))
    (sym c.is_empty.ensures ∙ c.if-is_empty.false)
    c.number_token.ensures in
    subst (λ (x : Option (List Token)). IfOk c.put_token.result (λ known. x ≡ then_some known (tokens_of c.put_token.new.into.items))) (sym is) c.put_token.ensures
