use Rattle.std.proofs.Common.{◌≡◌, ◌++◌, ◌∷◌, [], Option, ℕ, None, Some, ap, sym, ◌∙◌, is_some, position, slice_get}
use Rattle.std.proofs.lemmas.Result.{on_ok_weaker}
use Rattle.std.specs.Map.{lookup, keys_of, values_of}
use Rattle.indexmap.proofs.CallerLemmas.{insert_entry-new}
use Rattle.port_net.specs.Shown.{one_if}
use Rattle.port_net.specs.Arriving.{end_of, kept_at}
use Rattle.port_net.proofs.Arrived.{same, none-from, first-place, put-first, put-more}
use Rattle.port_net.proofs.arrivals.Arrivals.add.Goals as goal

pub returns-in_default-get_index_of : goal.returns-in_default-get_index_of
returns-in_default-get_index_of c = λ into x t.
    let p = c.args.place in
    let es = c.args.self.now.by_place.entries in
    let none : lookup (same c.args.place) c.args.self.now.by_place.entries ≡ None = none-from _ (sym c.get_index_of.ensures.found ∙ ap is_some c.in_default-get_index_of.is) in
    let entries : c.insert.new.self.entries ≡ c.args.self.now.by_place.entries ++ (c.args.place, c.in_ok-first.first) ∷ [] =
    c.in-Ok.ensures.entries ∙ insert_entry-new _ c.args.self.now.by_place c.args.place c.in_ok-first.first none in
    ap (kept_at into) entries ∙ put-first into x p c.in_ok-first.first c.in-Some.node es t none c.in_ok-first.ensures
    ∙ ap (λ (o : Option ℕ). kept_at into es ++ one_if (into (end_of p)) o) (sym c.in-Some.is)

pub returns : goal.returns
returns c = on_ok_weaker c.append.result (λ put into x t.
    let p = c.args.place in
    let es = c.args.self.now.by_place.entries in
    let i = c.in-Some-get_index_of.at in
    let at : position (same c.args.place) (keys_of c.args.self.now.by_place.entries) ≡ Some c.in-Some-get_index_of.at = sym c.get_index_of.ensures.index ∙ c.in-Some-get_index_of.is in
    let there : slice_get (values_of c.args.self.now.by_place.entries) c.in-Some-get_index_of.at ≡ Some c.in-Some-get_index_mut.list.now = sym c.in-Some-get_index_mut.ensures.value in
    put-more into x p c.in-Some.node es i c.in-Some-get_index_mut.list.now c.append.new.list t (first-place (same p) (keys_of es) i at) there put
    ∙ ap (λ (o : Option ℕ). kept_at into es ++ one_if (into (end_of p)) o) (sym c.in-Some.is)) c.append.ensures
