use Rattle.quantity.specs.declared.value.Value.{Value}
use Rattle.quantity.specs.ValueTexts.{text5}
use Rattle.std.proofs.Common.{◌∷◌, [], map}
use Rattle.state_lines.specs.Words.{spaced_words}
use Rattle.state_lines.proofs.Appended.{texts_all, word_of_each, texts_more, none_yet, keeps_itself, kept_on}
use Rattle.state_lines.proofs.words.put_values.Goals as goal

pub returns-clause-ok : goal.returns-clause-ok
returns-clause-ok c =
    texts_all (λ (x : Value). spaced_words (text5 x ∷ [])) c.args.into.now.items c.loop-value.into.items
    (spaced_words (map text5 c.args.values.now)) c.args.values.now c.loop-value.value-index
    c.loop-value-test.false c.loop-value.invariant.appended
    (word_of_each text5 c.args.values.now)

pub loop-value-init : goal.loop-value-init
loop-value-init c = record { appended = none_yet c.args.into.now.items; kept = keeps_itself c.args.into.now.items }

pub returns-in_err-put_value-clause-kept : goal.returns-in_err-put_value-clause-kept
returns-in_err-put_value-clause-kept c =
    kept_on c.args.into.now.items c.loop-value.into.items c.put_value.new.into.items c.loop-value.invariant.kept c.put_value.ensures.kept

pub loop-value-preserved : goal.loop-value-preserved
loop-value-preserved c =
    let start = c.args.into.now.items in
    let old = c.loop-value.into.items in
    let new = c.put_value.new.into.items in
    record {
      appended = texts_more (λ (x : Value). spaced_words (text5 x ∷ [])) start old new c.args.values.now c.loop-value.value-index c.value-item.result
          c.loop-value-test.true c.value-item.is c.loop-value.invariant.appended c.in_ok-put_value.ensures.ok;
      kept = kept_on start old new c.loop-value.invariant.kept c.in_ok-put_value.ensures.kept;
    }
