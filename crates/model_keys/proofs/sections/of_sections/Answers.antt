use Rattle.std.proofs.Common.{List, Bor, refl, ap, ◌∙◌}
use Rattle.std.specs.List.{flat_map}
use Rattle.ma_lines.specs.Sections.{Section}
use Rattle.model_text.specs.Keyed.{least_refusal}
use Rattle.model_text.specs.Keys.{of_section}
use Rattle.model_walk.specs.Met.{sections_at}
use Rattle.model_keys.proofs.Parts.{element_step}
use Rattle.model_keys.proofs.sections.of_sections.Goals as goal

pub loop-section-preserved : goal.loop-section-preserved
loop-section-preserved c =
    element_step (λ (rs : List (Bor Section)). flat_map of_section (sections_at rs)) (λ (r : Bor Section). of_section r.now) (λ r rs. refl)
    c.args.sections.now c.loop-section.section-index c.section-item.result _ _ _ c.loop-section-test.true
    (c.in_ok-of_section.ensures ∙ ap (λ (r : Bor Section). least_refusal (of_section r.now)) c.section-item.is) c.least-first.ensures c.loop-section.invariant
