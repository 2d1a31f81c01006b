use Rattle.std.proofs.Common.{Bool, [], ◌∷◌, not, Some, None, sym, ap, ◌∙◌}
use Rattle.std.specs.Prelude.{if◌then◌else◌}
use Rattle.std.specs.Option.{option_map}
use Rattle.model_text.specs.declared.kind.Kind.TheVariants.{BadValue}
use Rattle.model_text.specs.Refusals.{refusal}
use Rattle.model_text.specs.Keyed.{least_refusal}
use Rattle.model_text.specs.Keys.{keys_of}
use Rattle.model_walk.specs.Shown.{refusal_of}
use Rattle.model_keys.proofs.Parts.{off_by, read_by, tested_form}
use Rattle.model_keys.proofs.form.off_form.Goals as goal

pub is_right-is_right-requires-clause-read : goal.is_right-is_right-requires-clause-read
is_right-is_right-requires-clause-read c =
    let e = c.args.read.now.entry.now in
    read_by c.args.section.now.name e.key e.value c.args.read.now.value c.in_ok-form.form
    (tested_form c.args.is_of_group e.key c.in_ok-form.form (sym c.tested_form.ensures ∙ c.in_ok-form.was)) c.requires.read.value

pub returns-in_err-form : goal.returns-in_err-form
returns-in_err-form c =
    let e = c.args.read.now.entry.now in
    ap (option_map refusal_of) c.from_residual.ensures
    ∙ ap (λ (b : Bool). least_refusal (if b then refusal e.line BadValue ∷ [] else []))
    (sym (off_by c.args.section.now (keys_of c.args.is_of_group) e None (sym c.in_err-form.was ∙ c.tested_form.ensures)))

pub returns : goal.returns
returns c =
    let e = c.args.read.now.entry.now in
    let off = off_by c.args.section.now (keys_of c.args.is_of_group) e (Some c.in_ok-form.form) (sym c.in_ok-form.was ∙ c.tested_form.ensures) in
    c.refused_if.ensures
    ∙ ap (λ (b : Bool). least_refusal (if b then refusal e.line BadValue ∷ [] else [])) (ap not c.is_right-is_right.ensures ∙ sym off)
