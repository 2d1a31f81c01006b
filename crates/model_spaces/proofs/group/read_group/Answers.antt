use Rattle.std.proofs.Common.{◌≡◌, None, ap, ◌∙◌, sym, codes}
use Rattle.std.specs.Option.{option_map}
use Rattle.std.proofs.lemmas.Option.{none-some, same_Some}
use Rattle.rule_tree.specs.Scope.{Names}
use Rattle.model_text.specs.Keyed.{least_refusal, value_of}
use Rattle.model_text.specs.Spaces.{of_space}
use Rattle.model_text.specs.Trees.{values_of_key}
use Rattle.model_walk.specs.Shown.{refusal_of}
use Rattle.model_spaces.proofs.Whole.{all_gathered, passes}
use Rattle.model_spaces.proofs.group.read_group.Goals as goal

pub unreachable-requires : goal.unreachable-requires
unreachable-requires c =
    let s = c.args.section.now in
    let none : least_refusal (of_space s) ≡ None = sym c.refused.ensures ∙ ap (option_map refusal_of) c.in_default.is in
    none-some _ (sym c.in_default-values.is ∙ c.in_ok-parts.ensures.rows.laid (passes s none).rows)

pub group_names-requires-clause-few : goal.group_names-requires-clause-few
group_names-requires-clause-few c = (passes c.args.section.now (sym c.refused.ensures ∙ ap (option_map refusal_of) c.in_default.is)).few

pub group_names-requires-clause-offsets : goal.group_names-requires-clause-offsets
group_names-requires-clause-offsets c =
    let none = sym c.refused.ensures ∙ ap (option_map refusal_of) c.in_default.is in
    all_gathered c.args.section.now _ none c.in_ok-parts.ensures.offsets.offsets

pub returns-clause-group : goal.returns-clause-group
returns-clause-group c =
    let s = c.args.section.now in
    let none : least_refusal (of_space s) ≡ None = sym c.refused.ensures ∙ ap (option_map refusal_of) c.in_default.is in
    let read = c.in_ok-parts.ensures in
    let right = passes s none in
    let words = c.in_ok-ins.ensures in
    record {
      group = λ i. record {
        section = c.section.ensures i;
        space = c.space-grid.ensures i;
        settings = c.settings.ensures i;
        names = c.in_ok-names.ensures i;
        zones = read.zones.zones i;
        zone_rules = read.zones.rules i;
        port_places = read.ports.places right.ports i;
        port_rules = read.ports.rules right.ports i;
        ins = words.ins i;
        outs = words.outs i;
        variable_values = (words.variable_values ∙ ap (λ (n : Names). values_of_key (value_of (codes "statevalues") s) n.variables) c.in_ok-names.ensures) i;
        port_values = (words.port_values ∙ ap (λ (n : Names). values_of_key (value_of (codes "portvalues") s) n.ports) c.in_ok-names.ensures) i;
      };
      values = rw c.in-Some-values.is (same_Some _ _ (sym c.in-Some-values.is ∙ read.rows.laid right.rows));
    }
