use Rattle.std.proofs.Common.{◌≡◌, ◌∷◌, ◌++◌, [], ap, rules, ◌∙◌}
use Rattle.std.proofs.lemmas.List.{map_push}
use Rattle.std.specs.List.{slice_split}
use Rattle.std.specs.Option.{option_map}
use Rattle.quantity.specs.Bytes.{is_byte}
use Rattle.source_text.specs.Shown.{texts}
use Rattle.source_text.specs.Tuples.{closed_parts}
use Rattle.source_text.proofs.TupleParts.{one_more_part}
use Rattle.source_text.proofs.tuples.parts.Goals as goal

pub loop-part-preserved : goal.loop-part-preserved
loop-part-preserved c =
    let items : c.push.new.self.items ≡ c.loop-part.found.items ++ c.in-Some.part ∷ [] = search rules in
    let shown : texts c.push.new.self.items ≡ texts c.loop-part.found.items ++ c.in-Some.part.now ∷ [] = ap texts items ∙ map_push (λ r. r.now) c.loop-part.found.items c.in-Some.part in
    ap (λ front. option_map (λ list. front ++ list) (closed_parts (slice_split (is_byte 41) c.in-Some.behind.now))) shown
    ∙ one_more_part (texts c.loop-part.found.items) c.in-Some.part.now c.loop-part.rest.now c.in-Some.behind.now _ c.in-Some.ensures.parts c.loop-part.invariant
