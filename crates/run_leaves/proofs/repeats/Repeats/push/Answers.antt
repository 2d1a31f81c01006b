use Rattle.std.proofs.Common.{◌≡◌, ◌-◌, ◌<◌, ◌++◌, Some, [], ◌∷◌, length, sym, ◌∙◌, ap, subst, arith}
use Rattle.std.specs.Prelude.{slice_get}
use Rattle.run_leaves.specs.Stretched.{Stretched}
use Rattle.run_leaves.specs.Repeated.{elements_at, AreRepeated}
use Rattle.run_leaves.proofs.Repeated.{long, some-begun, again-repeated, again-more, begun-repeated, begun-more}
use Rattle.run_leaves.proofs.repeats.Repeats.push.Goals as goal

pub go_on-requires-clause-begun : goal.go_on-requires-clause-begun
go_on-requires-clause-begun g c =
    let r = c.self.inside in
    let some = c.requires.some c.if-again.true in
    some-begun r.each.items r.stretches.numbers r.stretches.many c.self.invariant (subst (λ xs. 0 < length xs) (sym c.self.view_is) some)

pub go_on-requires-clause-few : goal.go_on-requires-clause-few
go_on-requires-clause-few g c =
    let r = c.self.inside in
    let as_long = long r.each.items r.stretches.numbers r.stretches.many c.self.invariant in
    let same = ap length c.self.view_is in
    omega (arith, as_long, same, c.requires.few)

pub invariant_of-self : goal.invariant_of-self
invariant_of-self g c =
    let r = c.self.inside in
    let some = c.requires.some c.if-again.true in
    let begun = some-begun r.each.items r.stretches.numbers r.stretches.many c.self.invariant (subst (λ xs. 0 < length xs) (sym c.self.view_is) some) in
    subst (λ (s : Stretched). AreRepeated r.each.items s.numbers s.many) (sym c.go_on.ensures)
    (again-repeated r.each.items r.stretches.numbers r.stretches.many c.self.invariant begun)

pub returns-then-again-clause-ok : goal.returns-then-again-clause-ok
returns-then-again-clause-ok g c =
    let r = c.self.inside in
    let some = subst (λ xs. 0 < length xs) (sym c.self.view_is) (c.requires.some c.if-again.true) in
    let last = subst (λ xs. slice_get xs (length xs - 1) ≡ Some c.args.item) (sym c.self.view_is) (c.requires.again c.if-again.true) in
    ap (λ (s : Stretched). elements_at r.each.items s.numbers) c.go_on.ensures
    ∙ again-more r.each.items r.stretches.numbers r.stretches.many c.self.invariant c.args.item some last
    ∙ ap (λ xs. xs ++ c.args.item ∷ []) c.self.view_is

pub begin-requires : goal.begin-requires
begin-requires g c =
    let r = c.self.inside in
    let as_long = long r.each.items r.stretches.numbers r.stretches.many c.self.invariant in
    let same = ap length c.self.view_is in
    omega (arith, as_long, same, c.requires.few)

pub invariant_of-self-2 : goal.invariant_of-self-2
invariant_of-self-2 g c =
    let r = c.self.inside in
    let items = c.push_reserved.ensures.items ∙ ap (λ xs. xs ++ c.args.item ∷ []) c.in_ok-reserve.ensures.items in
    subst (λ xs. AreRepeated xs c.begin.new.self.numbers c.begin.new.self.many) (sym items)
    (subst (λ (s : Stretched). AreRepeated (r.each.items ++ c.args.item ∷ []) s.numbers s.many) (sym c.in_ok-begin.ensures.ok)
    (begun-repeated r.each.items r.stretches.numbers r.stretches.many c.self.invariant c.args.item))

pub returns-clause-ok : goal.returns-clause-ok
returns-clause-ok g c =
    let r = c.self.inside in
    let items = c.push_reserved.ensures.items ∙ ap (λ xs. xs ++ c.args.item ∷ []) c.in_ok-reserve.ensures.items in
    ap (λ xs. elements_at xs c.begin.new.self.numbers) items
    ∙ ap (λ (s : Stretched). elements_at (r.each.items ++ c.args.item ∷ []) s.numbers) c.in_ok-begin.ensures.ok
    ∙ begun-more r.each.items r.stretches.numbers r.stretches.many c.self.invariant c.args.item
    ∙ ap (λ xs. xs ++ c.args.item ∷ []) c.self.view_is
