use Rattle.std.proofs.Common.{◌≡◌, get_or, arith, ◌∙◌, sym}
use Rattle.std.specs.Prelude.{pos}
use Rattle.std.proofs.lemmas.Int.{to_z-of_z}
use Rattle.std.proofs.lemmas.List.{take_all}
use mir.Val.{to_z, of_z}
use mir.Syntax.{w64}
use Rattle.atomic_kinds.proofs.Steps.{all_values, no_value, one_value_more, taken_into, values_go_on}
use Rattle.atomic_kinds.proofs.queue.values_of.Goals as goal

pub returns-in_default : goal.returns-in_default
returns-in_default c =
    let words = c.args.words.now in
    let i = c.loop-word.word-index in
    let word : to_z w64 (of_z w64 (get_or words i (pos 0))) ≡ get_or words i (pos 0) = grind (arith, to_z-of_z) in
    no_value words i (pos 0) _ c.loop-word-test.true word c.in_default.ensures c.loop-word.invariant.0

pub loop-word-preserved : goal.loop-word-preserved
loop-word-preserved c =
    let words = c.args.words.now in
    let i = c.loop-word.word-index in
    let word : to_z w64 (of_z w64 (get_or words i (pos 0))) ≡ get_or words i (pos 0) = grind (arith, to_z-of_z) in
    let put = taken_into c.push_back.result _ _ _ c.push_back.ensures.items (sym c.is_err.ensures.value ∙ c.if-is_err.false) in (
      values_go_on words i (pos 0) _ c.loop-word-test.true word c.in-Some.ensures.0 c.loop-word.invariant.0,
      one_value_more words i (pos 0) _ c.loop-word-test.true word c.loop-word.values.items c.push_back.new.self.items c.in-Some.value put c.in-Some.ensures.1 c.loop-word.invariant.1,
    )

pub returns : goal.returns
returns c =
    (all_values c.args.words.now c.loop-word.word-index (omega arith) c.loop-word.invariant.0, c.loop-word.invariant.1 ∙ take_all c.loop-word.word-index c.args.words.now (omega arith))
