use Rattle.std.proofs.Common.{Bool, List, [], ◌++◌, sym, ap, subst, ◌∙◌}
use Rattle.std.specs.Prelude.{if◌then◌else◌, codes}
use Rattle.quantity.specs.Bytes.{Bytes}
use Rattle.ma_lines.specs.Sections.{Section}
use Rattle.ma_lines.specs.InCode.{section_of}
use Rattle.model_text.specs.Keyed.{items_of, least_refusal}
use Rattle.model_text.specs.Keys.{Key, keys_of, once_words, again, section_keys, repeated_words, of_group, of_section, off_form, forms, forms_of}
use Rattle.model_text.specs.Walk.{is_group}
use Rattle.model_walk.specs.LeastOf.{IsLeastOf}
use Rattle.model_keys.proofs.Parts.{two_parts}
use Rattle.model_keys.proofs.sections.of_section.Goals as goal

pub of_values-values-requires : goal.of_values-values-requires
of_values-values-requires c =
    let t = section_of c.section-section.result.now in
    subst (λ (b : Bool). IsLeastOf (off_form (forms_of t (keys_of b)) t.entries) c.off_forms.result) (sym c.is_group-is_group.ensures)
    (subst (λ (s : Section). IsLeastOf (off_form (forms_of s (keys_of (is_group s))) s.entries) c.off_forms.result) (sym c.section-section.ensures) c.off_forms.ensures)

pub returns : goal.returns
returns c =
    let s = section_of c.section-section.result.now in
    let keys = again (section_keys s) [] s.entries in
    let ins = repeated_words [] (items_of (codes "in") s) in
    let outs = repeated_words [] (items_of (codes "out") s) in
    let values = λ (b : Bool). if b then of_group s else off_form (forms s) s.entries in
    let repeats = λ (key : Bytes) (t : Section). repeated_words [] (items_of key t) in
    let once = c.in_ok-again.ensures ∙ ap (λ (ks : List Key). least_refusal (again (once_words ks) [] s.entries)) (c.keys_of.ensures ∙ ap keys_of c.is_group-is_group.ensures) in
    subst (λ (t : Section). IsLeastOf (of_section t) c.least-3.result) c.section-section.ensures
    (two_parts ((keys ++ ins) ++ outs) (values (is_group s)) _ _ _
    (two_parts (keys ++ ins) outs _ _ _ (two_parts keys ins _ _ _ once
    (subst (λ (t : Section). IsLeastOf (repeats (codes "in") t) c.in_ok-inputs.inputs) (sym c.section-section.ensures) c.in_ok-inputs.ensures) c.least.ensures)
    (subst (λ (t : Section). IsLeastOf (repeats (codes "out") t) c.in_ok-outputs.outputs) (sym c.section-section.ensures) c.in_ok-outputs.ensures) c.least-2.ensures)
    (c.of_values-values.ensures ∙ ap (λ (b : Bool). least_refusal (values b)) c.is_group-is_group.ensures) c.least-3.ensures)
