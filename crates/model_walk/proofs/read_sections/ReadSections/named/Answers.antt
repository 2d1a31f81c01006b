use Rattle.std.proofs.Common.{length, ap, sym, ◌∙◌}
use Rattle.std.specs.Option.{option_map}
use Rattle.std.proofs.lemmas.Option.{slice_get_read}
use Rattle.model_walk.proofs.Named.{read_at, none_read}
use Rattle.model_walk.proofs.read_sections.ReadSections.named.Goals as goal

pub returns-in_err-at : goal.returns-in_err-at
returns-in_err-at c =
    ap (option_map (λ r. r.now)) c.from_residual.ensures ∙ none_read c.self.inside.sections.now c.args.self.now c.args.name.now c.self.view_is (sym c.in_err-at.ensures.first)

pub returns : goal.returns
returns c =
    let ss = c.self.inside.sections.now in
    let read = c.self.inside.read.items in
    let at = c.in_ok-at.at in
    let s = c.index.result.now in
    read_at ss c.args.self.now read c.args.name.now at s c.self.view_is c.self.invariant (sym c.in_ok-at.ensures.first)
    (slice_get_read read (length ss) at s (sym (ap length c.self.invariant)) c.in_ok-at.ensures.within c.index.ensures)
