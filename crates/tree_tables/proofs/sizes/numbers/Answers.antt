use Rattle.std.proofs.Common.{rules, ◌≡◌, ◌++◌, ℕ, List, [], ◌∷◌, ap, sym, ◌∙◌, arith}
use Rattle.std.proofs.lemmas.List.{take_all}
use Rattle.model_tree.specs.declared.component.Component.{Component}
use Rattle.tree_tables.specs.Children.{numbers_of}
use Rattle.tree_tables.proofs.Listed.{sizes-more, numbers-more}
use Rattle.tree_tables.proofs.sizes.numbers.Goals as goal

pub loop-component-init : goal.loop-component-init
loop-component-init c = record { all = λ settings. c.new-all.ensures.items; next = λ settings. omega arith }

pub loop-component-preserved : goal.loop-component-preserved
loop-component-preserved c =
    let pushed : c.push.new.self.items ≡ c.loop-component.all.items ++ c.loop-component.next ∷ [] = search rules in
    let inv = c.loop-component.invariant in
    record {
      all = λ settings.
          pushed ∙ ap (λ (ns : List ℕ). ns ++ c.loop-component.next ∷ []) (inv.all settings)
          ∙ sym (numbers-more c.args.components.now c.loop-component.component-index c.component-item.result settings c.args.first c.loop-component.next c.loop-component-test.true c.component-item.is (inv.next settings));
      next = λ settings.
          let more = sizes-more c.args.components.now c.loop-component.component-index c.component-item.result settings c.loop-component-test.true c.component-item.is in
          let before = inv.next settings in
          let one = c.in_ok-size.ensures settings in
          let sum = c.in_ok-next.ensures in
          omega (arith, more, before, one, sum);
    }

pub returns : goal.returns
returns c = λ settings.
    c.loop-component.invariant.all settings
    ∙ ap (λ (cs : List Component). numbers_of cs settings c.args.first) (take_all c.loop-component.component-index c.args.components.now c.loop-component-test.false)
