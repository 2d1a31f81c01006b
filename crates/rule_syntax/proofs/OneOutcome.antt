-- The outcome that is found is the one of the grammar.
use Rattle.std.proofs.Common.{◌≡◌, Bool, true, false, Option, Some, None, List, refl, sym, subst, ◌∙◌}
use Rattle.std.specs.declared.result.Result.{Result}
use Rattle.rule_tree.specs.Expression.{Rule}
use Rattle.std.specs.Option.{ok_or}
use Rattle.quantity.specs.Bytes.{Bytes}
use Rattle.rule_words.specs.declared.refusal.RuleRefusal.{RuleRefusal}
use Rattle.rule_words.specs.declared.refusal.RuleRefusal.TheVariants.{BadRule, TooLarge}
use Rattle.rule_words.specs.Tokens.{Token, tokens, words_in, is_large}
use Rattle.rule_tree.specs.Phrases.{Written}
use Rattle.rule_words.specs.Grammar.{IsRule}
use Rattle.rule_words.specs.Reading.{written_rule}
use Rattle.rule_tree.specs.Scope.{Names}
use Rattle.rule_syntax.proofs.Rules.{rules_are_found}
use Rattle.rule_syntax.proofs.RulesFound.{rule_found}
use Rattle.quantity.specs.Written.{for_ok}
use Rattle.rule_words.specs.RuleOf.{words_refused, unless_some, where_true, rule_if_sound, rule_of_text}
use Rattle.rule_words.specs.RuleLaws.{Readable, RuleIs, no_token, strange_word, large, no_rule, a_rule, HasOneOutcome}

none_some : {A : Type 0} {x : A} → None ≡ Some x → ⊥
none_some e = cc

found : (names : Names) (text : Bytes) → RuleIs names text (rule_of_text names text)
unfolding rule_of_text
found names text = by_tokens (tokens text) refl
  where
    by_rule : (ts : List Token) → Readable text ts → (o : Option Written) → written_rule ts ≡ o → RuleIs names text (for_ok (ok_or o BadRule) (rule_if_sound names))
    by_rule ts h None e = no_rule ts h (λ r d. none_some (sym e ∙ rule_found ts r d))
    by_rule ts h (Some r) e = a_rule ts r h (rules_are_found ts r e)

    by_size : (ts : List Token) → tokens text ≡ Some ts → words_refused (words_in ts) ≡ None → (b : Bool) → is_large ts ≡ b → RuleIs names text (unless_some (where_true b TooLarge) (for_ok (ok_or (written_rule ts) BadRule) (rule_if_sound names)))
    by_size ts e w true s = large ts e w s
    by_size ts e w false s = by_rule ts (record { tokens = e; words = w; size = s }) (written_rule ts) refl

    by_words : (ts : List Token) → tokens text ≡ Some ts → (o : Option RuleRefusal) → words_refused (words_in ts) ≡ o → RuleIs names text (unless_some o (unless_some (where_true (is_large ts) TooLarge) (for_ok (ok_or (written_rule ts) BadRule) (rule_if_sound names))))
    by_words ts e (Some kind) w = strange_word ts kind e w
    by_words ts e None w = by_size ts e w (is_large ts) refl

    by_tokens : (o : Option (List Token)) → tokens text ≡ o → RuleIs names text (for_ok (ok_or o BadRule) (λ ts. unless_some (words_refused (words_in ts)) (unless_some (where_true (is_large ts) TooLarge) (for_ok (ok_or (written_rule ts) BadRule) (rule_if_sound names)))))
    by_tokens None e = no_token e
    by_tokens (Some ts) e = by_words ts e (words_refused (words_in ts)) refl

no_written : (ts : List Token) → ((r : Written) → IsRule ts r → ⊥) → written_rule ts ≡ None
no_written ts h = go (written_rule ts) refl
  where
    go : (o : Option Written) → written_rule ts ≡ o → o ≡ None
    go None e = refl
    go (Some r) e = absurd (h r (rules_are_found ts r e))

only : (names : Names) (text : Bytes) (a : Result Rule RuleRefusal) → RuleIs names text a → rule_of_text names text ≡ a
unfolding rule_of_text
only names text _ (no_token e) = rw e refl
only names text _ (strange_word ts kind e w) = rw (e, w) refl
only names text _ (large ts e w s) = rw (e, w, s) refl
only names text _ (no_rule ts h n) = rw (h.tokens, h.words, h.size, no_written ts n) refl
only names text _ (a_rule ts r h d) = rw (h.tokens, h.words, h.size, rule_found ts r d) refl

pub has_one_outcome : HasOneOutcome
has_one_outcome names text a =
    (λ e. subst (λ x. RuleIs names text x) e (found names text), only names text a)
