use Rattle.std.proofs.Common.{Bool, List, ◌≤◌, length, arith, ◌∷◌, [], map, refl, sym, ap, subst, ◌∙◌}
use Rattle.std.specs.Prelude.{if◌then◌else◌}
use Rattle.ma_lines.specs.declared.section.Entry.{Entry}
use Rattle.rule_tree.specs.Phrases.{looked_up}
use Rattle.model_text.specs.declared.kind.Kind.TheVariants.{BadValue}
use Rattle.model_text.specs.Refusals.{refusal}
use Rattle.model_text.specs.Keyed.{least_refusal}
use Rattle.model_text.specs.Walk.{is_group}
use Rattle.model_text.specs.Keys.{forms_of, keys_of, is_off, off_form}
use Rattle.model_walk.specs.declared.read_section.ReadEntry.{ReadEntry}
use Rattle.model_walk.specs.LeastOf.{IsLeastOf}
use Rattle.model_walk.specs.ReadValues.{IsRead}
use Rattle.model_keys.proofs.Parts.{element_step, at_passing, each_at, ended}
use Rattle.model_keys.proofs.form.off_forms.Goals as goal

pub off_form-requires-clause-read : goal.off_form-requires-clause-read
off_form-requires-clause-read c =
    let read = IsRead c.args.section.now.name in
    subst read (sym c.read-item.is) (each_at read c.entries-read-items.result.now c.loop-read.read-index c.read-item.result c.loop-read-test.true c.entries-read-items.ensures.values)

pub loop-read-preserved : goal.loop-read-preserved
loop-read-preserved c =
    let table = forms_of c.args.section.now (keys_of c.is_group-is_group.result) in
    let off = λ (e : Entry). is_off (looked_up table e.key) e.value in
    let entries = λ (rs : List ReadEntry). map (λ (r : ReadEntry). r.entry.now) rs in
    let here = λ (r : ReadEntry). if off r.entry.now then refusal r.entry.now.line BadValue ∷ [] else [] in
    element_step (λ (rs : List ReadEntry). off_form table (entries rs)) here (λ r rs. at_passing (λ (e : Entry). refusal e.line BadValue) off r.entry.now (entries rs))
    c.entries-read-items.result.now c.loop-read.read-index c.read-item.result _ _ _ c.loop-read-test.true
    (c.off_form.ensures ∙ ap (λ (r : ReadEntry). least_refusal (here r)) c.read-item.is) c.least-first.ensures c.loop-read.invariant

pub returns : goal.returns
returns c =
    let s = c.args.section.now in
    let group = c.is_group-is_group.ensures ∙ ap is_group c.section.ensures in
    let off = λ (es : List Entry). IsLeastOf (off_form (forms_of s (keys_of c.is_group-is_group.result)) es) c.loop-read.first in
    let left : length c.entries-read-items.result.now ≤ c.loop-read.read-index = omega arith in
    subst (λ (b : Bool). IsLeastOf (off_form (forms_of s (keys_of b)) s.entries) c.loop-read.first) group
    (subst off c.entries-read-items.ensures.entries
    (ended (λ (rs : List ReadEntry). off_form (forms_of s (keys_of c.is_group-is_group.result)) (map (λ (r : ReadEntry). r.entry.now) rs)) refl
    c.entries-read-items.result.now c.loop-read.read-index c.loop-read.first left c.loop-read.invariant))
