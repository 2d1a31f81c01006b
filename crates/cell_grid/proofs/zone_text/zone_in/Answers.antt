use Rattle.std.proofs.Common.{◌≡◌, ℕ, List, [], ◌∷◌, ◌++◌, Some, None, ap, sym, ◌∙◌}
use Rattle.std.proofs.lemmas.Bool.Decides.{Decides-eqb}
use Rattle.std.proofs.lemmas.Result.{err_from_is_err_and}
use Rattle.std.proofs.lemmas.Slice.Eq.{strip_suffix_is}
use Rattle.quantity.specs.Bytes.{without_outer_blanks}
use Rattle.quantity.specs.Names.{is_name}
use Rattle.cell_grid.proofs.ZoneLemmas.{no_ranges_no_zone, no_items_no_zone, not_bad, open_braces, zone_with_ranges}
use Rattle.cell_grid.proofs.zone_text.zone_in.Goals as goal

pub returns-in_default-clause-bad : goal.returns-in_default-clause-bad
returns-in_default-clause-bad c =
    let open_ended : (front : List ℕ) → c.cut_at.result.1.now ≡ front ++ 125 ∷ [] → ⊥ = strip_suffix_is Decides-eqb c.cut_at.result.1.now (125 ∷ []) None c.in_default.ensures.cases in
    λ _. no_items_no_zone c.args.grid.now c.args.text.now (open_braces c.args.text.now (λ front e. open_ended front (c.cut_at.ensures.after ∙ e)))

pub returns-in_err-ranges-clause-bad : goal.returns-in_err-ranges-clause-bad
returns-in_err-ranges-clause-bad c =
    let p = err_from_is_err_and c.from_residual.result c.from_residual.ensures.1 in
    let braced : c.cut_at.result.1.now ≡ c.in-Some.items.now ++ 125 ∷ [] = strip_suffix_is Decides-eqb c.cut_at.result.1.now (125 ∷ []) (Some c.in-Some.items) c.in-Some.ensures.cases in
    λ h. no_ranges_no_zone c.args.grid.now c.args.text.now c.in-Some.items.now (sym c.cut_at.ensures.after ∙ braced) (c.in_err-ranges.ensures.bad (cc (p.1, p.2, h)))

pub returns-clause-ok : goal.returns-clause-ok
returns-clause-ok c =
    let braced : c.cut_at.result.1.now ≡ c.in-Some.items.now ++ 125 ∷ [] = strip_suffix_is Decides-eqb c.cut_at.result.1.now (125 ∷ []) (Some c.in-Some.items) c.in-Some.ensures.cases in
    let name = c.trimmed.ensures ∙ ap without_outer_blanks c.cut_at.ensures.before in
    zone_with_ranges c.args.grid.now c.args.text.now c.in-Some.items.now (sym c.cut_at.ensures.after ∙ braced) c.in_ok-name.name c.in_ok-ranges.ranges.items c.in_ok-ranges.ensures.ok (c.in_ok-name.ensures.ok ∙ name)
    (ap is_name (sym name) ∙ not_bad _ (λ is. let wrong = c.in_ok-name.ensures.bad.1 is in cc))
