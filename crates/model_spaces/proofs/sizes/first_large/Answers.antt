use Rattle.std.proofs.Common.{Some, true, false, sym, ap, ◌∙◌, arith}
use Rattle.std.proofs.lemmas.Bool.{lt-ltb, le-ltb}
use Rattle.ma_lines.specs.Sections.{Section}
use Rattle.model_text.specs.declared.kind.Kind.TheVariants.{TooLarge}
use Rattle.model_text.specs.Refusals.{refusal}
use Rattle.model_spaces.proofs.Whole.{large_step}
use Rattle.model_spaces.proofs.sizes.first_large.Goals as goal

pub loop-section-preserved : goal.loop-section-preserved
loop-section-preserved c = record {
  few = omega arith;
  rest =
      sym (large_step c.args.groups.now c.loop-section.section-index c.section-item.result c.loop-section.total c.cells-total.result false c.loop-section-test.true c.section-item.is c.cells-total.ensures.value (le-ltb _ _ (omega arith)))
      ∙ c.loop-section.invariant.rest;
}

pub returns-then-total-gt-MOST_CELLS : goal.returns-then-total-gt-MOST_CELLS
returns-then-total-gt-MOST_CELLS c =
    ap (λ (s : Section). Some (refusal s.line TooLarge)) c.section.ensures
    ∙ sym (large_step c.args.groups.now c.loop-section.section-index c.section-item.result c.loop-section.total c.cells-total.result true c.loop-section-test.true c.section-item.is c.cells-total.ensures.value (lt-ltb _ _ (omega arith)))
    ∙ c.loop-section.invariant.rest
