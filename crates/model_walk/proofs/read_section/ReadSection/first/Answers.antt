use Rattle.std.proofs.Common.{sym, ap, subst, ◌∙◌}
use Rattle.std.specs.Prelude.{IfSome, Option}
use Rattle.std.specs.List.{find}
use Rattle.std.specs.Option.{option_map}
use Rattle.std.specs.Str.{bytes_eq}
use Rattle.ma_lines.specs.Sections.{Section}
use Rattle.ma_lines.specs.declared.section.Entry.{Entry}
use Rattle.model_text.specs.Keyed.{first_entry}
use Rattle.model_walk.specs.declared.read_section.ReadEntry.{ReadEntry}
use Rattle.model_walk.specs.ReadValues.{IsReadUnder}
use Rattle.model_walk.proofs.Read.{found, found_entry, found_read, copied_map, copied_if}
use Rattle.model_walk.proofs.read_section.ReadSection.first.Goals as goal

pub returns-clause-entry : goal.returns-clause-entry
returns-clause-entry c =
    let key = c.args.key.now in
    copied_map (λ (r : ReadEntry). r.entry.now) c.found.result ∙ ap (option_map (λ (r : ReadEntry). r.entry.now)) (c.found.ensures ∙ ap (found key) c.deref.ensures.value)
    ∙ found_entry key c.self.inside.entries.items ∙ ap (find (λ (e : Entry). bytes_eq e.key key)) c.self.invariant.0.entries
    ∙ ap (first_entry key) c.self.view_is

pub returns-clause-read : goal.returns-clause-read
returns-clause-read c =
    let key = c.args.key.now in
    let name = c.self.inside.section.now.name in
    let here = found_read name key c.self.inside.entries.items c.self.invariant.0.values in
    copied_if (λ (r : ReadEntry). IsReadUnder c.args.self.now.name key r.entry.now.value r.value) c.found.result
    (subst (λ (o : Option ReadEntry). IfSome o (λ r. IsReadUnder c.args.self.now.name key r.entry.now.value r.value)) (sym (c.found.ensures ∙ ap (found key) c.deref.ensures.value))
    (subst (λ (s : Section). IfSome (found key c.self.inside.entries.items) (λ r. IsReadUnder s.name key r.entry.now.value r.value)) c.self.view_is here))
