use Rattle.std.proofs.Common.{◌≡◌, ap, ◌∙◌, sym, map, codes}
use Rattle.std.specs.Option.{option_map}
use Rattle.model_text.specs.declared.kind.Kind.TheVariants.{BadValue}
use Rattle.model_text.specs.Forms.{tuples_of}
use Rattle.model_text.specs.Keyed.{at_entry, least_refusal}
use Rattle.model_walk.specs.Least.{earlier_refusal}
use Rattle.model_walk.specs.ReadValues.{tuples_in}
use Rattle.model_walk.specs.Shown.{refusal_of}
use Rattle.model_spaces.specs.Gathered.{offsets_with_all}
use Rattle.model_spaces.proofs.Entries.{numbers_at, places_read, offsets_here}
use Rattle.model_walk.proofs.Read.{read_under}
use Rattle.model_spaces.proofs.offsets.add_offsets.Goals as goal

pub returns : goal.returns
returns c =
    let s = c.args.section.now in
    let r = c.args.read.now in
    let e = r.entry.now in
    let key = sym c.has_key.ensures ∙ c.if-not-has_key.false in
    let here : tuples_in r.value ≡ tuples_of s.name e.value = read_under s.name (codes "neighbors") r c.requires.is_read key in
    let ts = c.in-Some.tuples.now in
    let places = offsets_here s e c.args.grid.now (map numbers_at ts) key c.requires.space (places_read s e ts (c.in-Some.ensures ∙ here)) in
    record {
      offsets = c.in_ok-are_offsets.ensures.found ∙ ap (offsets_with_all c.args.found.now.offsets.items) places.0;
      refused =
          c.least_with_entry-found.ensures
          ∙ ap (λ rs. earlier_refusal (option_map refusal_of c.args.found.now.refused) (least_refusal rs)) (ap (at_entry e BadValue) c.in_ok-are_offsets.ensures.all ∙ places.1);
    }
