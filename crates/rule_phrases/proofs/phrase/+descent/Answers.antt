use Rattle.std.proofs.Common.{◌<◌, ◌≤◌, ℕ, Option, Some, List, [], ◌∷◌, ◌++◌, length, refl, sym, ap, ◌∙◌, arith}
use Rattle.std.proofs.lemmas.Result.{IfOk-weaker}
use Rattle.rule_phrases.specs.declared.front.Front.{Front}
use Rattle.rule_phrases.specs.declared.between.Arguments.{Arguments}
use Rattle.rule_tree.specs.Phrases.{Phrase, expr}
use Rattle.rule_tree.specs.Scope.{Names}
use Rattle.rule_words.specs.Reading.{Prefix}
use Rattle.rule_words.specs.Descent.{at_level, expression_reader, signed_operand, primary_before, list_before, enclosed_before, call_before}
use Rattle.rule_phrases.specs.Between.{AreArguments, called_before, most_operators, operands_before, sign_at}
use Rattle.rule_words.specs.Shown.{level_of, names_of, tokens_of}
use Rattle.rule_phrases.specs.Terms.{IsFront}
use Rattle.rule_phrases.proofs.Prefixes.{nothing_behind_signs, operand_behind_signs}
use Rattle.rule_phrases.proofs.Operands.{joining_begins, joining_goes_on, joining_lost, joining_ends, joining_done}
use Rattle.rule_phrases.proofs.Listed.{listing_begins, listing_goes_on, listing_lost, listing_ends, arguments_at}
use Rattle.rule_phrases.proofs.Primaries.{atom_is_primary, no_primary, enclosed_is_primary, call_is_primary, at_negation, at_operands, at_primary, at_signed, tokens_length, shorter_at}
use Rattle.rule_phrases.proofs.phrase.+descent.Goals as goal

pub arguments-commas-init : goal.arguments-commas-init
arguments-commas-init t c = record {
  shorter = shorter_at c.in_ok-first.field-0 c.in-Some.first (length c.args.tokens.now) c.in_ok-first.ensures.shorter c.in-Some.is;
  read = λ n h.
      listing_begins (names_of c.args.names.now) (at_level (expression_reader n) expr) (tokens_of c.args.tokens.now) c.in-Some.first c.in_ok-first.field-0 c.push.new.terms.items
      (c.in_ok-first.ensures.read n h) c.in-Some.is (c.in_ok-push.ensures.ok ∙ ap (λ ts. ts ++ c.in-Some.first.term ∷ []) c.new-terms.ensures.items);
}

pub arguments-returns-in_default-after_mark-clause-read : goal.arguments-returns-in_default-after_mark-clause-read
arguments-returns-in_default-after_mark-clause-read t c = λ n h.
    let list : Arguments = record { terms = c.commas.terms; rest = c.commas.rest } in
    listing_ends (names_of c.args.names.now) (at_level (expression_reader n) expr) (list_before (at_level (expression_reader n) expr) (tokens_of c.args.tokens.now)) list (c.commas.invariant.read n h) c.in_default-after_mark.ensures.rest

pub arguments-returns-in_default-2-clause-read : goal.arguments-returns-in_default-2-clause-read
arguments-returns-in_default-2-clause-read t c = λ n h.
    let inner : length c.in-Some-after_mark.behind.now ≤ n = omega (arith, c.in-Some-after_mark.ensures.shorter, c.commas.invariant.shorter) in
    listing_lost (names_of c.args.names.now) (at_level (expression_reader n) expr) (list_before (at_level (expression_reader n) expr) (tokens_of c.args.tokens.now)) c.commas.terms.items (tokens_of c.commas.rest.now) (tokens_of c.in-Some-after_mark.behind.now)
    c.in_ok-next.field-0 (c.commas.invariant.read n h) c.in-Some-after_mark.ensures.rest (c.in_ok-next.ensures.read n inner) c.in_default-2.is

pub arguments-commas-preserved : goal.arguments-commas-preserved
arguments-commas-preserved t c =
    let less : length c.in-Some-2.next.rest.now < length c.in-Some-after_mark.behind.now = shorter_at c.in_ok-next.field-0 c.in-Some-2.next (length c.in-Some-after_mark.behind.now) c.in_ok-next.ensures.shorter c.in-Some-2.is in
    record {
      shorter = omega (arith, less, c.in-Some-after_mark.ensures.shorter, c.commas.invariant.shorter);
      read = λ n h.
          let inner : length c.in-Some-after_mark.behind.now ≤ n = omega (arith, c.in-Some-after_mark.ensures.shorter, c.commas.invariant.shorter) in
          listing_goes_on (names_of c.args.names.now) (at_level (expression_reader n) expr) (list_before (at_level (expression_reader n) expr) (tokens_of c.args.tokens.now)) c.commas.terms.items c.push-in-commas.new.terms.items (tokens_of c.commas.rest.now) (tokens_of c.in-Some-after_mark.behind.now)
          c.in-Some-2.next c.in_ok-next.field-0 (c.commas.invariant.read n h) c.in-Some-after_mark.ensures.rest (c.in_ok-next.ensures.read n inner) c.in-Some-2.is
          (omega (arith, less, tokens_length c.in-Some-2.next.rest.now, tokens_length c.in-Some-after_mark.behind.now)) c.in_ok-push-2.ensures.ok;
    }

pub call-returns-clause-read : goal.call-returns-clause-read
call-returns-clause-read t c =
    let before : Option Front → Type 0 = λ front. (names : Names) (p : Prefix (List Phrase)) → AreArguments names p (Some c.in-Some.list) → IsFront names (called_before c.args.function p) front in
    let after : Option Front → Type 0 = λ front. (n : ℕ) → length c.args.tokens.now ≤ n → IsFront (names_of c.args.names.now) (call_before c.args.function (at_level (expression_reader n) expr) (tokens_of c.args.tokens.now)) front in
    IfOk-weaker c.called.result before after
    (λ o f n h. f (names_of c.args.names.now) (list_before (at_level (expression_reader n) expr) (tokens_of c.args.tokens.now)) (arguments_at (names_of c.args.names.now) (list_before (at_level (expression_reader n) expr) (tokens_of c.args.tokens.now)) c.in_ok-list.field-0 c.in-Some.list (c.in_ok-list.ensures.read n h) c.in-Some.is))
    c.called.ensures.read

pub front-returns-in-Negation-clause-read : goal.front-returns-in-Negation-clause-read
front-returns-in-Negation-clause-read t c =
    let before : Option Front → Type 0 = λ front. (n : ℕ) → length c.args.tokens.now ≤ n → IsFront (names_of c.args.names.now) (signed_operand (sign_at (level_of c.args.level)) (at_level (expression_reader n) (level_of c.operand_level-operand.result)) (tokens_of c.args.tokens.now)) front in
    let after : Option Front → Type 0 = λ front. (n : ℕ) → length c.args.tokens.now ≤ n → IsFront (names_of c.args.names.now) (at_level (expression_reader n) (level_of c.args.level) (tokens_of c.args.tokens.now)) front in
    IfOk-weaker c.prefixed.result before after (λ o f n h. at_negation (names_of c.args.names.now) c.args.level c.operand_level-operand.result (expression_reader n) (tokens_of c.args.tokens.now) o c.in-Negation.is c.operand_level-operand.ensures (f n h)) c.prefixed.ensures.read

pub front-returns-in-Signed-clause-read : goal.front-returns-in-Signed-clause-read
front-returns-in-Signed-clause-read t c =
    let before : Option Front → Type 0 = λ front. (n : ℕ) → length c.args.tokens.now ≤ n → IsFront (names_of c.args.names.now) (signed_operand (sign_at (level_of c.args.level)) (at_level (expression_reader n) (level_of c.operand_level-operand.result)) (tokens_of c.args.tokens.now)) front in
    let after : Option Front → Type 0 = λ front. (n : ℕ) → length c.args.tokens.now ≤ n → IsFront (names_of c.args.names.now) (at_level (expression_reader n) (level_of c.args.level) (tokens_of c.args.tokens.now)) front in
    IfOk-weaker c.prefixed-in-Signed.result before after (λ o f n h. at_signed (names_of c.args.names.now) c.args.level c.operand_level-operand.result (expression_reader n) (tokens_of c.args.tokens.now) o c.in-Signed.is c.operand_level-operand.ensures (f n h)) c.prefixed-in-Signed.ensures.read

pub front-returns-in-Primary-clause-read : goal.front-returns-in-Primary-clause-read
front-returns-in-Primary-clause-read t c =
    let before : Option Front → Type 0 = λ front. (n : ℕ) → length c.args.tokens.now ≤ n → IsFront (names_of c.args.names.now) (primary_before (expression_reader n) (tokens_of c.args.tokens.now)) front in
    let after : Option Front → Type 0 = λ front. (n : ℕ) → length c.args.tokens.now ≤ n → IsFront (names_of c.args.names.now) (at_level (expression_reader n) (level_of c.args.level) (tokens_of c.args.tokens.now)) front in
    IfOk-weaker c.primary.result before after (λ o f n h. at_primary (names_of c.args.names.now) c.args.level (expression_reader n) (tokens_of c.args.tokens.now) o c.in-Primary.is (f n h)) c.primary.ensures.read

pub front-returns-in_default-clause-read : goal.front-returns-in_default-clause-read
front-returns-in_default-clause-read t c =
    let before : Option Front → Type 0 = λ front. (n : ℕ) → length c.args.tokens.now ≤ n → IsFront (names_of c.args.names.now) (operands_before (level_of c.args.level) (at_level (expression_reader n) (level_of c.operand_level-operand.result)) (tokens_of c.args.tokens.now)) front in
    let after : Option Front → Type 0 = λ front. (n : ℕ) → length c.args.tokens.now ≤ n → IsFront (names_of c.args.names.now) (at_level (expression_reader n) (level_of c.args.level) (tokens_of c.args.tokens.now)) front in
    IfOk-weaker c.operands.result before after
    (λ o f n h. at_operands (names_of c.args.names.now) c.args.level c.operand_level-operand.result (expression_reader n) (tokens_of c.args.tokens.now) o c.operand_level-operand.ensures c.in_default.not-Negation c.in_default.not-Signed c.in_default.not-Primary (f n h))
    c.operands.ensures.read

pub operands-operators-init : goal.operands-operators-init
operands-operators-init t c = record {
  shorter = shorter_at c.in_ok-first.field-0 c.in-Some.first (length c.args.tokens.now) c.in_ok-first.ensures.shorter c.in-Some.is;
  read = λ n h.
      joining_begins (names_of c.args.names.now) (at_level (expression_reader n) (level_of c.args.operand)) (level_of c.args.level) (tokens_of c.args.tokens.now) c.in-Some.first c.in_ok-first.field-0 c.most_operators-most.result
      (c.in_ok-first.ensures.read n h) c.in-Some.is (c.most_operators-most.ensures ∙ ap (most_operators (level_of c.args.level)) (sym (tokens_length c.in-Some.first.rest.now)));
}

pub operands-returns-in_default-operator_before-clause-read : goal.operands-returns-in_default-operator_before-clause-read
operands-returns-in_default-operator_before-clause-read t c = λ n h.
    let read : Front = record { term = c.operators.term; rest = c.operators.rest } in
    joining_ends (names_of c.args.names.now) (at_level (expression_reader n) (level_of c.args.operand)) (level_of c.args.level) c.most_operators-most.result c.operators.counter (operands_before (level_of c.args.level) (at_level (expression_reader n) (level_of c.args.operand)) (tokens_of c.args.tokens.now)) read (c.operators.invariant.read n h) c.in_default-operator_before.ensures.operator

pub operands-returns-in_default-2-clause-read : goal.operands-returns-in_default-2-clause-read
operands-returns-in_default-2-clause-read t c = λ n h.
    let inner : length c.in-Some-operator_before.behind.now ≤ n = omega (arith, c.in-Some-operator_before.ensures.shorter, c.operators.invariant.shorter) in
    joining_lost (names_of c.args.names.now) (at_level (expression_reader n) (level_of c.args.operand)) (level_of c.args.level) c.most_operators-most.result c.operators.counter (operands_before (level_of c.args.level) (at_level (expression_reader n) (level_of c.args.operand)) (tokens_of c.args.tokens.now)) c.operators.term (tokens_of c.operators.rest.now) (tokens_of c.in-Some-operator_before.behind.now) c.in-Some-operator_before.operator
    c.in_ok-right.field-0 c.operators-test.true (c.operators.invariant.read n h) c.in-Some-operator_before.ensures.operator (c.in_ok-right.ensures.read n inner) c.in_default-2.is

pub operands-operators-preserved : goal.operands-operators-preserved
operands-operators-preserved t c =
    let less : length c.in-Some-2.right.rest.now < length c.in-Some-operator_before.behind.now = shorter_at c.in_ok-right.field-0 c.in-Some-2.right (length c.in-Some-operator_before.behind.now) c.in_ok-right.ensures.shorter c.in-Some-2.is in
    record {
      shorter = omega (arith, less, c.in-Some-operator_before.ensures.shorter, c.operators.invariant.shorter);
      read = λ n h.
          let inner : length c.in-Some-operator_before.behind.now ≤ n = omega (arith, c.in-Some-operator_before.ensures.shorter, c.operators.invariant.shorter) in
          joining_goes_on (names_of c.args.names.now) (at_level (expression_reader n) (level_of c.args.operand)) (level_of c.args.level) c.most_operators-most.result c.operators.counter (operands_before (level_of c.args.level) (at_level (expression_reader n) (level_of c.args.operand)) (tokens_of c.args.tokens.now)) c.operators.term c.in_ok-term.term (tokens_of c.operators.rest.now) (tokens_of c.in-Some-operator_before.behind.now) c.in-Some-operator_before.operator
          c.in-Some-2.right c.in_ok-right.field-0 c.operators-test.true (c.operators.invariant.read n h) c.in-Some-operator_before.ensures.operator (c.in_ok-right.ensures.read n inner) c.in-Some-2.is (λ x y. c.in_ok-term.ensures (names_of c.args.names.now) x y);
    }

pub operands-returns-clause-read : goal.operands-returns-clause-read
operands-returns-clause-read t c = λ n h.
    let read : Front = record { term = c.operators.term; rest = c.operators.rest } in
    joining_done (names_of c.args.names.now) (at_level (expression_reader n) (level_of c.args.operand)) (level_of c.args.level) c.most_operators-most.result c.operators.counter (operands_before (level_of c.args.level) (at_level (expression_reader n) (level_of c.args.operand)) (tokens_of c.args.tokens.now)) read c.operators-test.false (c.operators.invariant.read n h)

pub prefixed-returns-in_default-clause-read : goal.prefixed-returns-in_default-clause-read
prefixed-returns-in_default-clause-read t c = λ n h.
    let inner : length c.in_ok-prefix.prefix.rest.now ≤ n = omega (arith, c.in_ok-prefix.ensures.shorter) in
    nothing_behind_signs (names_of c.args.names.now) (sign_at (level_of c.args.level)) (at_level (expression_reader n) (level_of c.args.operand)) (tokens_of c.args.tokens.now) (tokens_of c.in_ok-prefix.prefix.rest.now) c.in_ok-inner.field-0 c.in_ok-prefix.ensures.rest (c.in_ok-inner.ensures.read n inner) c.in_default.is

pub prefixed-returns-clause-read : goal.prefixed-returns-clause-read
prefixed-returns-clause-read t c = λ n h.
    let inner : length c.in_ok-prefix.prefix.rest.now ≤ n = omega (arith, c.in_ok-prefix.ensures.shorter) in
    let read : Front = record { term = c.in_ok-term.term; rest = c.in-Some.inner.rest } in
    operand_behind_signs (names_of c.args.names.now) (sign_at (level_of c.args.level)) (at_level (expression_reader n) (level_of c.args.operand)) (tokens_of c.args.tokens.now) (tokens_of c.in_ok-prefix.prefix.rest.now) c.in_ok-prefix.prefix.signs.items c.in_ok-inner.field-0 c.in-Some.inner read
    c.in_ok-prefix.ensures.signs c.in_ok-prefix.ensures.rest (c.in_ok-inner.ensures.read n inner) c.in-Some.is (λ x. c.in_ok-term.ensures (names_of c.args.names.now) x) refl

pub primary-returns-in-Some-clause-read : goal.primary-returns-in-Some-clause-read
primary-returns-in-Some-clause-read t c = λ n h. atom_is_primary (names_of c.args.names.now) (expression_reader n) (tokens_of c.args.tokens.now) c.in-Some.atom c.in-Some.ensures.atom

pub primary-returns-in_default-opening_before-clause-read : goal.primary-returns-in_default-opening_before-clause-read
primary-returns-in_default-opening_before-clause-read t c = λ n h. no_primary (names_of c.args.names.now) (expression_reader n) (tokens_of c.args.tokens.now) c.in_default.ensures.atom c.in_default-opening_before.ensures.opening

pub primary-returns-in-None-clause-read : goal.primary-returns-in-None-clause-read
primary-returns-in-None-clause-read t c =
    let inner = c.in-Some-opening_before.inner.now in
    let before : Option Front → Type 0 = λ front. (n : ℕ) → length inner ≤ n → IsFront (names_of c.args.names.now) (enclosed_before (at_level (expression_reader n) expr) (tokens_of inner)) front in
    let after : Option Front → Type 0 = λ front. (n : ℕ) → length c.args.tokens.now ≤ n → IsFront (names_of c.args.names.now) (primary_before (expression_reader n) (tokens_of c.args.tokens.now)) front in
    IfOk-weaker c.enclosed.result before after
    (λ o f n h.
    let less : length inner < n = omega (arith, c.in-Some-opening_before.ensures.shorter) in
    enclosed_is_primary (names_of c.args.names.now) n (length inner) (tokens_of c.args.tokens.now) (tokens_of inner) c.in-Some-opening_before.opening o c.in_default.ensures.atom c.in-Some-opening_before.ensures.opening c.in-None.is less f)
    c.enclosed.ensures.read

pub primary-returns-in-Some-opening-clause-read : goal.primary-returns-in-Some-opening-clause-read
primary-returns-in-Some-opening-clause-read t c =
    let inner = c.in-Some-opening_before.inner.now in
    let before : Option Front → Type 0 = λ front. (n : ℕ) → length inner ≤ n → IsFront (names_of c.args.names.now) (call_before c.in-Some-opening.function (at_level (expression_reader n) expr) (tokens_of inner)) front in
    let after : Option Front → Type 0 = λ front. (n : ℕ) → length c.args.tokens.now ≤ n → IsFront (names_of c.args.names.now) (primary_before (expression_reader n) (tokens_of c.args.tokens.now)) front in
    IfOk-weaker c.call.result before after
    (λ o f n h.
    let less : length inner < n = omega (arith, c.in-Some-opening_before.ensures.shorter) in
    call_is_primary (names_of c.args.names.now) n (length inner) (tokens_of c.args.tokens.now) (tokens_of inner) c.in-Some-opening_before.opening c.in-Some-opening.function o c.in_default.ensures.atom c.in-Some-opening_before.ensures.opening c.in-Some-opening.is less f)
    c.call.ensures.read
