use Rattle.std.proofs.Common.{◌≡◌, ◌++◌, ◌∷◌, [], None, sym, ◌∙◌, subst}
use Rattle.indexmap.proofs.CallerLemmas.{insert_entry-new}
use Rattle.port_net.specs.Named.{kept_for, AddsPlace}
use Rattle.port_net.proofs.Arrived.{none-from}
use Rattle.port_net.proofs.Called.{adds-known, adds-new}
use Rattle.port_net.proofs.children.add.Goals as goal

pub returns-then-contains_key : goal.returns-then-contains_key
returns-then-contains_key c = adds-known c.args.places.now.entries c.args.name.now c.args.place (sym c.contains_key.ensures ∙ c.if-contains_key.true)

pub returns : goal.returns
returns c =
    let none : kept_for c.args.places.now.entries c.args.name.now ≡ None = none-from _ (sym c.contains_key.ensures ∙ c.if-contains_key.false) in
    let entries : c.insert.new.self.entries ≡ c.args.places.now.entries ++ (c.args.name, c.args.place) ∷ [] = c.in-Ok.ensures.entries ∙ insert_entry-new _ c.args.places.now c.args.name c.args.place none in
    subst (λ es. AddsPlace c.args.places.now.entries es c.args.name.now c.args.place) (sym entries) (adds-new c.args.places.now.entries c.args.name c.args.place)
