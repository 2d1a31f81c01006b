use Rattle.std.proofs.Common.{◌≡◌, ◌++◌, ◌∷◌, [], Some, None, List, map, sym, ap, ◌∙◌, rules}
use Rattle.std.proofs.lemmas.List.{map_push}
use Rattle.std.specs.Option.{option_map}
use Rattle.quantity.specs.Bytes.{in_front}
use Rattle.source_text.specs.Shown.{named_of}
use Rattle.source_text.specs.Tuples.{NamedTuple}
use Rattle.model_text.specs.Forms as F
use Rattle.model_walk.specs.TupleParts.{tuple_in}
use Rattle.model_walk.proofs.Gathered.{behind, behind-more, first_tuple}
use Rattle.model_walk.proofs.tuples.tuples_of.Goals as goal

pub returns-in_default-tuple_in : goal.returns-in_default-tuple_in
returns-in_default-tuple_in c =
    let group = c.args.group.now in
    let rest = F.tuples_of group c.in-Some.behind.now in
    let none : tuple_in group c.in-Some.part.now ≡ None = sym c.tuple_in.ensures ∙ ap (option_map named_of) c.in_default-tuple_in.is in
    sym (ap (behind (map named_of c.loop-part.found.items)) (first_tuple group c.in-Some.part.now c.loop-part.rest.now c.in-Some.behind.now c.in-Some.ensures.parts ∙ ap (λ o. in_front o rest) none))
    ∙ c.loop-part.invariant

pub loop-part-preserved : goal.loop-part-preserved
loop-part-preserved c =
    let group = c.args.group.now in
    let rest = F.tuples_of group c.in-Some.behind.now in
    let found = map named_of c.loop-part.found.items in
    let named = named_of c.in-Some-tuple_in.named in
    let some : tuple_in group c.in-Some.part.now ≡ Some named = sym c.tuple_in.ensures ∙ ap (option_map named_of) c.in-Some-tuple_in.is in
    let pushed : c.push.new.self.items ≡ c.loop-part.found.items ++ c.in-Some-tuple_in.named ∷ [] = search rules in
    ap (λ (ts : List NamedTuple). behind ts rest) (ap (map named_of) pushed ∙ map_push named_of c.loop-part.found.items c.in-Some-tuple_in.named)
    ∙ sym (ap (behind found) (first_tuple group c.in-Some.part.now c.loop-part.rest.now c.in-Some.behind.now c.in-Some.ensures.parts ∙ ap (λ o. in_front o rest) some) ∙ behind-more found named rest)
    ∙ c.loop-part.invariant
