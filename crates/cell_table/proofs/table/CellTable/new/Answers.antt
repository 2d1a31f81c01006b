use Rattle.std.proofs.Common.{◌+◌, ◌∙◌, ◌∷◌, map, length, refl, ap, arith}
use Rattle.std.specs.List.{flat_map}
use Rattle.std.proofs.lemmas.List.{length-map, length-replicate}
use Rattle.quantity.specs.declared.value.Value.TheVariants.{Undefined}
use Rattle.cell_table.specs.Table.{waits_at_0}
use Rattle.cell_table.proofs.Starting.{starts_seen, ports_long, flat_long}
use Rattle.cell_table.proofs.table.CellTable.new.Goals as goal

pub invariant_of-result : goal.invariant_of-result
invariant_of-result c =
    let further = c.deref.ensures.value ∙ c.in_ok-packed.ensures in
    let made = c.in_ok-computed.ensures ∙ ap (λ fs. flat_map (λ v. v ∷ fs) c.args.outs.now) further in
    let many = ports_long c.args.outs.now c.args.further.now in
    let computed = ap length made in
    let lists = ap length (c.in_ok-delays.ensures ∙ ap (map waits_at_0) (c.deref-2.ensures.value ∙ made)) in
    let variables = ap length c.in_ok-repeated.ensures in
    record {
      emitted = omega (arith, ap length c.in_ok-emitted.ensures, length-replicate c.len.result Undefined, c.len.ensures, c.in_ok-computed.computed.ok.0, computed, many);
      computed = omega (arith, computed, many);
      lists = omega (arith, lists, length-map c.in_ok-computed.computed.items waits_at_0, ap length (ap (map waits_at_0) made), computed, many);
      variables = omega (arith, variables, flat_long (λ _. c.args.variables.now) (length c.args.variables.now) c.args.outs.now (λ v. refl));
      some = omega arith;
      width = omega (arith, c.requires.ports);
      count = c.requires.variables;
      cells = c.requires.cells;
    }

pub returns : goal.returns
returns c =
    let further = c.deref.ensures.value ∙ c.in_ok-packed.ensures in
    let made = c.in_ok-computed.ensures ∙ ap (λ fs. flat_map (λ v. v ∷ fs) c.args.outs.now) further in
    let cells = starts_seen c.args.outs.now c.args.further.now c.args.variables.now c.len.result c.in_ok-emitted.emitted.items c.in_ok-computed.computed.items c.in_ok-repeated.field-0.items c.in_ok-delays.delays.lists
    c.in_ok-emitted.ensures made (c.in_ok-delays.ensures ∙ ap (map waits_at_0) (c.deref-2.ensures.value ∙ made)) c.in_ok-repeated.ensures in
    λ k. record { width = length c.args.further.now + 1; variables = length c.args.variables.now; cells = cells k }
