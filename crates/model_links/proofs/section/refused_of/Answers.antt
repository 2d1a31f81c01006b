use Rattle.std.proofs.Common.{◌≡◌, Option, subst}
use Rattle.std.specs.Result.{IfOk}
use Rattle.std.specs.Option.{option_map}
use Rattle.model_text.specs.Refusals.{Refusal}
use Rattle.model_walk.specs.Shown.{refusal_of}
use Rattle.model_links.proofs.Judging.{section_refused}
use Rattle.model_links.proofs.section.refused_of.Goals as goal

pub returns : goal.returns
returns c =
    let kept = c.in_ok-face.ensures in
    let same = section_refused c.in_ok-face.face c.args.sections.now c.args.section.now c.args.found.now kept.sources kept.targets kept.cells c.requires.found in
    subst (λ (least : Option Refusal). IfOk c.first_refused.result (λ why. option_map refusal_of why ≡ least)) same c.first_refused.ensures
