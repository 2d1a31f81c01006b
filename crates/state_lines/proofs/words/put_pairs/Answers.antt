use Rattle.quantity.specs.declared.value.Value.{Value}
use Rattle.std.proofs.Common.{ℕ}
use Rattle.std.specs.List.{flat_map}
use Rattle.text_forms.specs.StateText.{pair_words}
use Rattle.state_lines.specs.Words.{spaced_words}
use Rattle.state_lines.proofs.Appended.{texts_all, words_of_each, texts_more, none_yet, keeps_itself, kept_on}
use Rattle.state_lines.proofs.words.put_pairs.Goals as goal

pub returns-clause-ok : goal.returns-clause-ok
returns-clause-ok c =
    texts_all (λ (x : ℕ × Value). spaced_words (pair_words x)) c.args.into.now.items
    c.loop-pair.into.items (spaced_words (flat_map pair_words c.args.pairs.now)) c.args.pairs.now
    c.loop-pair.pair-index c.loop-pair-test.false c.loop-pair.invariant.appended
    (words_of_each pair_words c.args.pairs.now)

pub loop-pair-init : goal.loop-pair-init
loop-pair-init c = record { appended = none_yet c.args.into.now.items; kept = keeps_itself c.args.into.now.items }

pub returns-in_err-put_pair-clause-kept : goal.returns-in_err-put_pair-clause-kept
returns-in_err-put_pair-clause-kept c =
    kept_on c.args.into.now.items c.loop-pair.into.items c.put_pair.new.into.items c.loop-pair.invariant.kept c.put_pair.ensures.kept

pub loop-pair-preserved : goal.loop-pair-preserved
loop-pair-preserved c =
    let start = c.args.into.now.items in
    let old = c.loop-pair.into.items in
    let new = c.put_pair.new.into.items in
    record {
      appended = texts_more (λ (x : ℕ × Value). spaced_words (pair_words x)) start old new c.args.pairs.now c.loop-pair.pair-index c.pair-item.result
          c.loop-pair-test.true c.pair-item.is c.loop-pair.invariant.appended c.in_ok-put_pair.ensures.ok;
      kept = kept_on start old new c.loop-pair.invariant.kept c.in_ok-put_pair.ensures.kept;
    }
