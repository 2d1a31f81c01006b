use Rattle.std.proofs.Common.{ap, ◌∙◌, List, map, Bor}
use Rattle.quantity.specs.Bytes.{Bytes}
use Rattle.model_walk.specs.TextSets.{with_text}
use Rattle.model_walk.proofs.Named.{with_text_by}
use Rattle.model_walk.proofs.text_set.TextSet.insert.Goals as goal

pub returns-clause-added : goal.returns-clause-added
returns-clause-added c =
    ap (map (λ (r : Bor Bytes). r.now)) c.in-Ok.ensures.keys ∙ with_text_by c.self.inside.texts.keys c.args.text
    ∙ ap (λ (ts : List Bytes). with_text ts c.args.text.now) c.self.view_is
