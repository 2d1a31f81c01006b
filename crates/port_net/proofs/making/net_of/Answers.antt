use Rattle.std.proofs.Common.{◌≡◌, ◌<◌, ℕ, [], ◌∷◌, length, refl, sym, ◌∙◌, subst, arith}
use Rattle.model_tree.specs.declared.component.Component.TheVariants as in_tree
use Rattle.model_tree.specs.declared.component.Coupled.{Coupled}
use Rattle.model_tree.specs.Tree.{Word}
use Rattle.model_tree.specs.Pull as P
use Rattle.model_leaves.specs.LeafTexts.{name_at}
use Rattle.model_tree.specs.Stands.{part_of}
use Rattle.port_net.specs.declared.net.Net.{Net}
use Rattle.port_net.specs.Shown.{Extends}
use Rattle.port_net.specs.Outside.{InputsAre}
use Rattle.port_net.specs.Nets.{IsNetOf}
use Rattle.port_net.proofs.Stood.{extends-on, gives-kept, all-kept}
use Rattle.port_net.proofs.Final.{input-shown, net-is, empty-shows}
use Rattle.port_net.proofs.making.net_of.Goals as goal

pub returns : goal.returns
returns c = λ settings.
    let top = c.top-top.result.now in
    let tree = part_of (in_tree.Coupled c.top-top.result.now) settings in
    let ins = c.top-top.result.now.ins.items in
    let base = c.in_ok-nodes.nodes.items in
    let mid = c.outputs_of_top.new.nodes.items in
    let new = c.put_coupled.new.net.nodes.items in
    let count : c.len.result ≡ length c.top-top.result.now.ins.items = c.len.ensures ∙ c.top-top.result.now.ins.ok.0 in
    let first : Extends base mid = c.in_ok-outputs.ensures.extends in
    let lists = λ (p : Word). P.top_source p ∷ [] in
    let inputs : InputsAre ins mid c.deref.result.now lists =
    record {
      same = c.deref.ensures.value;
      give = λ k lt. gives-kept ins base mid k (P.top_source (name_at ins k) ∷ []) first (input-shown ins base c.len.result k c.in_ok-nodes.ensures (subst (λ (n : ℕ). k < n) (sym count) lt));
      are = λ p. refl;
    } in
    let shows = c.in_ok-put_coupled.ensures.takes ins settings lists inputs [] (empty-shows ins _ c.new-2.ensures.items c.new.ensures.items) in
    let net : Net = record { nodes = c.put_coupled.new.net.nodes; ports = c.put_coupled.new.net.ports; leaves = c.put_coupled.new.net.leaves; outputs = c.in_ok-outputs.outputs } in
    subst (λ (x : Coupled). IsNetOf (part_of (in_tree.Coupled x) settings) net) c.top-top.ensures
    (net-is tree base c.len.result c.put_coupled.new.net net c.in_ok-nodes.ensures (omega (arith, count)) (extends-on base mid new first c.in_ok-put_coupled.ensures.extends) refl refl refl shows
    (all-kept ins mid new c.in_ok-outputs.outputs.items (P.top_sources tree) c.in_ok-put_coupled.ensures.extends (c.in_ok-outputs.ensures.gives ins settings)))
