use Rattle.std.proofs.Common.{◌∙◌, ap, refl}
use Rattle.std.specs.Prelude.{◌&&◌}
use Rattle.quantity.specs.Bytes.{has_repeat}
use Rattle.rule_syntax.specs.RulesRead.{words_of}
use Rattle.rule_tree.specs.declared.function.Sort.TheVariants.{Number}
use Rattle.rule_tree.specs.Sound.{is_sort}
use Rattle.rule_syntax.proofs.ReadParts.{made_rule}
use Rattle.rule_syntax.proofs.written.rule.Goals as goal

pub returns : goal.returns
returns c =
    λ names w g d k s. made_rule names _ c.args.given c.args.delay c.args.condition c.args.set w
    (record {
      gives = c.in_ok-gives.ensures.gives;
      delay_node = refl;
      condition_node = refl;
      sets = c.in_ok-gives.ensures.sets;
      repeats = c.has_repeat-port_twice.ensures ∙ ap (λ vs. has_repeat (words_of vs)) c.deref.ensures.value;
      sorted = ap (λ b. (c.args.given.are_numbers && b && c.is_truth.result) && c.args.set.are_numbers) c.is_number.ensures
          ∙ ap (λ b. (c.args.given.are_numbers && is_sort Number c.args.delay.sort && b) && c.args.set.are_numbers) c.is_truth.ensures;
    })
    (c.and-lacks.ensures names _ _ (c.and-2.ensures names _ _ (c.and.ensures names _ _ g.misses d.misses) k.misses) s.misses) g d k s
