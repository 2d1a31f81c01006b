-- What holds of the rule that a text is.
use Rattle.std.specs.Prelude.{◌≡◌, true, false, Some, None, List}
use Rattle.std.specs.Prelude.{◌↔◌}
use Rattle.std.specs.declared.result.Result.{Result}
use Rattle.std.specs.declared.result.Result.TheVariants.{Ok, Err}
use Rattle.rule_tree.specs.Expression.{Rule}
use Rattle.quantity.specs.Bytes.{Bytes}
use Rattle.rule_words.specs.declared.refusal.RuleRefusal.{RuleRefusal}
use Rattle.rule_words.specs.declared.refusal.RuleRefusal.TheVariants.{BadRule}
use Rattle.rule_words.specs.declared.refusal.RuleRefusal.TheVariants.{TooLarge}
use Rattle.rule_words.specs.Tokens.{Token, tokens, words_in, is_large}
use Rattle.rule_tree.specs.Phrases.{Phrase, expr, Written}
use Rattle.rule_words.specs.Grammar.{IsPhrase, IsRule}
use Rattle.rule_words.specs.Reading.{phrase_of, written_rule}
use Rattle.rule_tree.specs.Scope.{Names}
use Rattle.rule_tree.specs.Extent.{extent_of, is_sound}
use Rattle.rule_words.specs.RuleOf.{rule_if_sound, rule_of_text, words_refused}

-- tokens that no earlier refusal stops
pub record Readable (text : Bytes) (ts : List Token) : Type 0 where
  pub tokens : tokens text ≡ Some ts
  pub words : words_refused (words_in ts) ≡ None
  pub size : is_large ts ≡ false

-- the rule that a text is, or its refusal, by the grammar
pub data RuleIs (names : Names) (text : Bytes) : Result Rule RuleRefusal → Type 0 where
  no_token : tokens text ≡ None → RuleIs names text (Err BadRule)
  strange_word : (ts : List Token) (why : RuleRefusal) → tokens text ≡ Some ts
      → words_refused (words_in ts) ≡ Some why → RuleIs names text (Err why)
  large : (ts : List Token) → tokens text ≡ Some ts → words_refused (words_in ts) ≡ None
      → is_large ts ≡ true → RuleIs names text (Err TooLarge)
  no_rule : (ts : List Token) → Readable text ts → ((r : Written) → IsRule ts r → ⊥)
      → RuleIs names text (Err BadRule)
  a_rule : (ts : List Token) (r : Written) → Readable text ts → IsRule ts r
      → RuleIs names text (rule_if_sound names r)

-- what is found is what the grammar says, and all of it
pub record FindsTheGrammar : Type 0 where
  pub phrase : (ts : List Token) (x : Phrase) → (phrase_of ts ≡ Some x) ↔ IsPhrase expr ts x
  pub rule : (ts : List Token) (r : Written) → (written_rule ts ≡ Some r) ↔ IsRule ts r

-- tokens are one phrase at most, and one rule at most
pub record ReadsOneWay : Type 0 where
  pub phrase : (ts : List Token) (x y : Phrase) → IsPhrase expr ts x → IsPhrase expr ts y → x ≡ y
  pub rule : (ts : List Token) (r s : Written) → IsRule ts r → IsRule ts s → r ≡ s

-- a text has one outcome, and it is the one that is found
abbrev pub HasOneOutcome : Type 0
HasOneOutcome =
    (names : Names) (text : Bytes) (a : Result Rule RuleRefusal)
    → (rule_of_text names text ≡ a) ↔ RuleIs names text a

-- what a text is read to is sound for the group whose names it was read with
abbrev pub ReadsSoundRules : Type 0
ReadsSoundRules =
    (names : Names) (text : Bytes) (r : Rule) → rule_of_text names text ≡ Ok r
    → is_sound (extent_of names) r ≡ true
