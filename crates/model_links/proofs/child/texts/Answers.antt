use Rattle.std.proofs.Common.{◌≡◌, rules, List, sym, subst, Bor}
use borrow.Author.Tests.{tests}
use Rattle.std.proofs.lemmas.Simd.{map-map}
use Rattle.std.proofs.lemmas.Iterator.{YieldsList-from_slice, YieldsList-from_map_by}
use Rattle.std.proofs.lemmas.Iterator.Consumers.{map_from_collect}
use Rattle.std.specs.Result.{IfOk}
use Rattle.quantity.specs.Bytes.{Bytes}
use Rattle.source_text.specs.Shown.{texts}
use Rattle.model_text.specs.Keyed as text
use Rattle.model_walk.specs.declared.item.Item.{Item}
use Rattle.model_walk.specs.Shown.{item_of}
use Rattle.model_links.proofs.child.texts.Goals as goal

pub returns : goal.returns
returns c =
    subst (λ (all : List Bytes). IfOk c.collect.result (λ found. texts found.items ≡ all)) (sym (map-map (λ (i : text.Item). i.text) item_of c.args.words.now))
    (map_from_collect c.collect.result c.collect.ensures.ran
    (YieldsList-from_map_by _ (λ (r : Bor Bytes). r.now) (λ (w : Item). w.text.now) (YieldsList-from_slice c.args.words.now cc) c.map.ensures.closure (λ x r q k. search (rules, tests))))
