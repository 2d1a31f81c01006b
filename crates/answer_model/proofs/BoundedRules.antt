-- The numbers of a rule that is read are bounded.
use Rattle.std.proofs.Common.{◌≡◌, ℕ, ◌^◌, ◌≤◌, Bool, true, false, Option, Some, None, List, [], ◌∷◌, map, refl, sym, subst}
use Rattle.std.specs.Prelude.{ℤ, pos, unsigned_abs, not, length}
use Rattle.std.specs.declared.result.Result.TheVariants.{Ok}
use Rattle.std.specs.List.{All, list_any}
use Rattle.std.specs.Option.{ok_or, unwrap_or}
use Rattle.std.proofs.lemmas.List.Elements.{All-nil, All-cons}
use Rattle.quantity.specs.Bytes.{Bytes}
use Rattle.rule_words.specs.declared.refusal.RuleRefusal.{RuleRefusal}
use Rattle.rule_words.specs.declared.refusal.RuleRefusal.TheVariants.{BadRule, BadSort, NotANeighbour, TooLarge, UnknownVariable, UnknownNeighbourPort}
use Rattle.rule_tree.specs.Expression.{Rule}
use Rattle.rule_tree.specs.Phrases as P
use Rattle.rule_tree.specs.Phrases.{Phrase, Assigned, Written, Level, phrases}
use Rattle.rule_syntax.specs.Tokens.{Token, tokens, words_in, is_large}
use Rattle.rule_syntax.specs.Grammar.{IsPhrase, IsList, IsNumber, AreAssigned, IsValue, AreSets, IsDelayPhrase, IsRule}
use Rattle.rule_syntax.specs.Reading.{written_rule}
use Rattle.rule_tree.specs.Scope.{Names, port_number, variable_number, named_by, is_no_neighbour, is_no_variable, is_no_port, numbered, all_numbered, rule_in, has_right_sorts}
use Rattle.quantity.specs.Written.{for_ok}
use Rattle.rule_syntax.specs.RuleOf.{words_refused, unless_some, where_true, has_port_twice, rule_if_sound, rule_of_text}
use Rattle.rule_syntax.specs.RuleLaws.{FindsTheGrammar}
use Rattle.run_model.specs.Bounds.{HasBoundedNumbers, HaveBoundedNumbers, IsBoundedPart, IsBoundedRule}
use Rattle.run_model.proofs.BoundedTexts.{unsigned_bounded, negated_bounded}

plain : (n : ℤ) → ((m : ℕ) × (n ≡ pos m) × (m ≤ 10 ^ 15)) → unsigned_abs n ≤ 10 ^ 15
plain n p = subst (λ y. unsigned_abs y ≤ 10 ^ 15) (sym p.1) p.2

mutual
  phrase_bounded : (names : Names) {l : Level} {ts : List Token} {x : Phrase} → IsPhrase l ts x → HasBoundedNumbers (numbered names x)
  phrase_bounded names (IsPhrase.tight p) = phrase_bounded names p
  phrase_bounded names (IsPhrase.joined t p j q) = (phrase_bounded names p, phrase_bounded names q)
  phrase_bounded names (IsPhrase.negated p) = phrase_bounded names p
  phrase_bounded names (IsPhrase.plus p) = phrase_bounded names p
  phrase_bounded names (IsPhrase.minus p) = phrase_bounded names p
  phrase_bounded names (IsPhrase.numeral {text} {n} e) = plain n (unsigned_bounded text n e)
  phrase_bounded names IsPhrase.unknown = tt
  phrase_bounded names IsPhrase.true = tt
  phrase_bounded names IsPhrase.false = tt
  phrase_bounded names (IsPhrase.cell c) = tt
  phrase_bounded names IsPhrase.variable = tt
  phrase_bounded names (IsPhrase.enclosed p) = phrase_bounded names p
  phrase_bounded names IsPhrase.time = tt
  phrase_bounded names (IsPhrase.counted e) = tt
  phrase_bounded names IsPhrase.port_value = tt
  phrase_bounded names (IsPhrase.call e ps n) = phrases_bounded names ps

  phrases_bounded : (names : Names) {ts : List Token} {xs : List Phrase} → IsList ts xs → HaveBoundedNumbers (all_numbered names (phrases xs))
  phrases_bounded names (IsList.last p) = (phrase_bounded names p, tt)
  phrases_bounded names (IsList.more p ps) = (phrase_bounded names p, phrases_bounded names ps)

number_bounded : (names : Names) {ts : List Token} {x : Phrase} → IsNumber ts x → HasBoundedNumbers (numbered names x)
number_bounded names (IsNumber.bare {text} {n} e) = plain n (unsigned_bounded text n e)
number_bounded names (IsNumber.plus {text} {n} e) = plain n (unsigned_bounded text n e)
number_bounded names (IsNumber.minus {text} {n} e) = negated_bounded n (unsigned_bounded text n e)

-- phrases for ports or variables, which are numbered
abbrev ArePartsBounded : Names → (Assigned → ℕ) → List Assigned → Type 0
ArePartsBounded names number xs = All IsBoundedPart (map (λ (g : Assigned). (number g, numbered names g.phrase)) xs)

one_part : (names : Names) (number : Assigned → ℕ) (g : Assigned) (gs : List Assigned) → HasBoundedNumbers (numbered names g.phrase) → ArePartsBounded names number gs → ArePartsBounded names number (g ∷ gs)
one_part names number g gs h hs = All-cons IsBoundedPart (number g, numbered names g.phrase) (map (λ (g : Assigned). (number g, numbered names g.phrase)) gs) h hs

assigned_bounded : (names : Names) (number : Assigned → ℕ) {kind : Bytes} {ts : List Token} {xs : List Assigned} → AreAssigned kind ts xs → ArePartsBounded names number xs
assigned_bounded names number (AreAssigned.last {w} {ts} {x} p) = one_part names number (record { name = w; phrase = x }) [] (phrase_bounded names p) (All-nil IsBoundedPart)
assigned_bounded names number (AreAssigned.more {w} {ts} {us} {x} {xs} p q) = one_part names number (record { name = w; phrase = x }) xs (phrase_bounded names p) (assigned_bounded names number q)

out_bounded : (names : Names) (number : Assigned → ℕ) (x : Phrase) → HasBoundedNumbers (numbered names x) → ArePartsBounded names number (record { name = P.out; phrase = x } ∷ [])
out_bounded names number x h = one_part names number (record { name = P.out; phrase = x }) [] h (All-nil IsBoundedPart)

value_bounded : (names : Names) (number : Assigned → ℕ) {ts : List Token} {xs : List Assigned} → IsValue ts xs → ArePartsBounded names number xs
value_bounded names number (IsValue.a_phrase {ts} {x} p) = out_bounded names number x (phrase_bounded names p)
value_bounded names number (IsValue.a_number {ts} {x} p) = out_bounded names number x (number_bounded names p)
value_bounded names number IsValue.a_question = out_bounded names number (P.value _) tt
value_bounded names number (IsValue.a_cell {ts} {c} p) = out_bounded names number (P.cell c) tt
value_bounded names number (IsValue.some_gives p) = assigned_bounded names number p

sets_bounded : (names : Names) (number : Assigned → ℕ) {ts : List Token} {xs : List Assigned} → AreSets ts xs → ArePartsBounded names number xs
sets_bounded names number AreSets.none = All-nil IsBoundedPart
sets_bounded names number (AreSets.some p) = assigned_bounded names number p

delay_bounded : (names : Names) {ts : List Token} {x : Phrase} → IsDelayPhrase ts x → HasBoundedNumbers (numbered names x)
delay_bounded names (IsDelayPhrase.delay_phrase p) = phrase_bounded names p
delay_bounded names (IsDelayPhrase.delay_number p) = number_bounded names p

-- a rule of the grammar, with numbers in the place of names
written_bounded : (names : Names) {ts : List Token} {w : Written} → IsRule ts w → IsBoundedRule (rule_in names w)
written_bounded names (IsRule.rule v s d c) = record {
  gives = value_bounded names (λ g. unwrap_or (port_number names g.name) 0) v;
  delay = delay_bounded names d;
  sets = sets_bounded names (λ g. unwrap_or (variable_number names g.name) 0) s;
}

judged_is : (names : Names) (w : Written) (r : Rule) → rule_if_sound names w ≡ Ok r → rule_in names w ≡ r
judged_is names w r h =
    go (has_port_twice w) (list_any (is_no_neighbour names) (named_by w)) (list_any (is_no_variable names) (named_by w)) (list_any (is_no_port names) (named_by w)) (not (has_right_sorts (length names.offsets) (rule_in names w))) h
  where
    go : (a b c d e : Bool) → unless_some (where_true a BadRule) (unless_some (where_true b NotANeighbour) (unless_some (where_true c UnknownVariable) (unless_some (where_true d UnknownNeighbourPort) (unless_some (where_true e BadSort) (Ok (rule_in names w)))))) ≡ Ok r → rule_in names w ≡ r
    go true b c d e f = absurd cc
    go false true c d e f = absurd cc
    go false false true d e f = absurd cc
    go false false false true e f = absurd cc
    go false false false false true f = absurd cc
    go false false false false false f = cc

-- what a text is read to has bounded numbers
pub rule_bounded : FindsTheGrammar → (names : Names) (text : Bytes) (r : Rule) → rule_of_text names text ≡ Ok r → IsBoundedRule r
unfolding rule_of_text
rule_bounded grammar names text r e = by_tokens (tokens text) e
  where
    by_rule : (ts : List Token) (o : Option Written) → written_rule ts ≡ o → for_ok (ok_or o BadRule) (rule_if_sound names) ≡ Ok r → IsBoundedRule r
    by_rule ts None f h = absurd cc
    by_rule ts (Some w) f h = subst IsBoundedRule (judged_is names w r h) (written_bounded names ((grammar.rule ts w).0 f))

    by_size : (ts : List Token) (b : Bool) → unless_some (where_true b TooLarge) (for_ok (ok_or (written_rule ts) BadRule) (rule_if_sound names)) ≡ Ok r → IsBoundedRule r
    by_size ts true h = absurd cc
    by_size ts false h = by_rule ts (written_rule ts) refl h

    by_words : (ts : List Token) (o : Option RuleRefusal) → unless_some o (unless_some (where_true (is_large ts) TooLarge) (for_ok (ok_or (written_rule ts) BadRule) (rule_if_sound names))) ≡ Ok r → IsBoundedRule r
    by_words ts (Some why) h = absurd cc
    by_words ts None h = by_size ts (is_large ts) h

    by_tokens : (o : Option (List Token)) → for_ok (ok_or o BadRule) (λ ts. unless_some (words_refused (words_in ts)) (unless_some (where_true (is_large ts) TooLarge) (for_ok (ok_or (written_rule ts) BadRule) (rule_if_sound names)))) ≡ Ok r → IsBoundedRule r
    by_tokens None h = absurd cc
    by_tokens (Some ts) h = by_words ts (words_refused (words_in ts)) h
