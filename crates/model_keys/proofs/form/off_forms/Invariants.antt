use Rattle.std.proofs.Common.{List, drop, map}
use Rattle.model_text.specs.Keys.{forms_of, keys_of, off_form}
use Rattle.model_walk.specs.declared.read_section.ReadEntry.{ReadEntry}
use Rattle.model_keys.proofs.Parts.{Left}
use Rattle.model_keys.proofs.form.off_forms.Given as goal

abbrev pub invariant-loop-read : goal.invariant-loop-read
invariant-loop-read l =
    let off = λ (rs : List ReadEntry). off_form (forms_of l.section (keys_of l.is_group)) (map (λ (r : ReadEntry). r.entry.now) rs) in
    Left l.first (off (drop l.read-index l.read-items)) (off l.read-items)
