use Rattle.std.proofs.Common.{◌≡◌, List, [], ◌∷◌, Err, map, sym, ap, ◌∙◌, rules}
use Rattle.std.specs.Option.{option_or}
use Rattle.ma_lines.specs.Sections.{Section}
use Rattle.model_text.specs.Accepted.{first_of}
use Rattle.model_text.specs.Rules.{rules_refused}
use Rattle.model_text.specs.Spaces.{spaces_refused}
use Rattle.model_text.specs.Stock.{stock_refused}
use Rattle.model_text.specs.Walk.{groups}
use Rattle.model_walk.specs.declared.refused.Stop.{Stop}
use Rattle.model_walk.specs.declared.refused.Stop.TheVariants as Stops
use Rattle.model_walk.specs.Placed.{plain_group, placed_of}
use Rattle.model_build.specs.Settled.{classes_of}
use Rattle.model_read.proofs.First.{none_first}
use Rattle.model_read.proofs.stages.read_parts.Goals as goal

pub returns-in_err-groups-clause-refused : goal.returns-in_err-groups-clause-refused
returns-in_err-groups-clause-refused g c = λ why e.
    let ss = c.args.sections.now in
    let behind = first_of (stock_refused (classes_of c.args.stock.now) ss ∷ rules_refused ss ∷ []) in
    let is : c.from_residual.result ≡ Err c.in_err-groups.field-0.0 = search rules in
    let same : c.in_err-groups.field-0.0 ≡ Stops.Refused why = cc in
    ap (λ (xs : List Section). option_or (spaces_refused xs) behind) (sym c.sections.ensures)
    ∙ ap (λ o. option_or o behind) (c.in_err-groups.ensures.refused why (ap (λ (s : Stop). Err s) same))

pub atomics_and_rules-requires : goal.atomics_and_rules-requires
atomics_and_rules-requires g c =
    record { walk = c.requires.walk; keys = c.requires.keys; groups = ap (map plain_group) c.deref.ensures.value ∙ c.in_ok-groups.ensures.groups ∙ ap (λ (xs : List Section). map placed_of (groups xs)) c.sections.ensures; free = c.requires.free }

pub returns-in_err-atomics-clause-refused : goal.returns-in_err-atomics-clause-refused
returns-in_err-atomics-clause-refused g c = λ why e.
    let ss = c.args.sections.now in
    let is : c.from_residual-in_err-atomics.result ≡ Err c.in_err-atomics.field-0.0 = search rules in
    let same : c.in_err-atomics.field-0.0 ≡ Stops.Refused why = cc in
    none_first (spaces_refused ss ∷ []) (stock_refused (classes_of c.args.stock.now) ss ∷ rules_refused ss ∷ []) (ap spaces_refused (sym c.sections.ensures) ∙ c.in_ok-groups.ensures.right, tt)
    ∙ c.in_err-atomics.ensures.refused why (ap (λ (s : Stop). Err s) same)
