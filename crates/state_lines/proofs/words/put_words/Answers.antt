use Rattle.std.proofs.Common.{◌≡◌, ◌∷◌, [], ◌++◌, get_or, map, rules, subst}
use Rattle.std.proofs.lemmas.Int.{to_z-of_z}
use Rattle.std.proofs.lemmas.List.{get_or_default}
use Rattle.std.specs.Prelude.{ℤ, pos}
use Rattle.std.specs.Fmt.{signed_decimal}
use Rattle.state_lines.specs.Words.{spaced_words}
use Rattle.state_lines.proofs.Appended.{texts_all, word_of_each, texts_more, none_yet, keeps_itself, kept_on}
use mir.Syntax.{w64}
use mir.Val.{SFits}
use Rattle.state_lines.proofs.words.put_words.Goals as goal

pub returns-clause-ok : goal.returns-clause-ok
returns-clause-ok c =
    texts_all (λ (x : ℤ). spaced_words (signed_decimal x ∷ [])) c.args.into.now.items
    c.loop-word.into.items (spaced_words (map signed_decimal c.args.words.now)) c.args.words.now
    c.loop-word.word-index c.loop-word-test.false c.loop-word.invariant.appended
    (word_of_each signed_decimal c.args.words.now)

pub loop-word-init : goal.loop-word-init
loop-word-init c = record { appended = none_yet c.args.into.now.items; kept = keeps_itself c.args.into.now.items }

pub returns-in_err-put_word-clause-kept : goal.returns-in_err-put_word-clause-kept
returns-in_err-put_word-clause-kept c =
    kept_on c.args.into.now.items c.loop-word.into.items c.put_word.new.into.items c.loop-word.invariant.kept c.put_word.ensures.kept

pub loop-word-preserved : goal.loop-word-preserved
loop-word-preserved c =
    let start = c.args.into.now.items in
    let old = c.loop-word.into.items in
    let new = c.put_word.new.into.items in
    let xs = c.args.words.now in
    let i = c.loop-word.word-index in
    let within = c.loop-word-test.true in
    let word = get_or xs i (pos 0) in
    let fits : SFits w64 word = search rules in
    let added : new ≡ old ++ spaced_words (signed_decimal word ∷ []) =
    subst (λ x. new ≡ old ++ spaced_words (signed_decimal x ∷ [])) (to_z-of_z w64 word fits) c.in_ok-put_word.ensures.ok in
    record {
      appended = texts_more (λ (x : ℤ). spaced_words (signed_decimal x ∷ [])) start old new xs i word within (get_or_default xs i (pos 0) word within)
          c.loop-word.invariant.appended added;
      kept = kept_on start old new c.loop-word.invariant.kept c.in_ok-put_word.ensures.kept;
    }
