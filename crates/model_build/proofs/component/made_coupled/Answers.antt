use Rattle.std.proofs.Common.{refl, ap, ◌∙◌}
use Rattle.ma_lines.specs.Sections.{Section}
use Rattle.model_build.proofs.component.made_coupled.Goals as goal

pub returns : goal.returns
returns c = record { name = c.in_ok-name.ensures ∙ ap (λ (s : Section). s.name) c.section.ensures; ins = c.in_ok-ins.ensures; outs = c.in_ok-outs.ensures; children = refl; links = refl }
