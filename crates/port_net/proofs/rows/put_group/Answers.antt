use Rattle.std.proofs.Common.{◌+◌, [], ℕ, List, map, refl, ap, ◌∙◌, subst}
use Rattle.std.proofs.lemmas.Result.{on_ok_weaker}
use Rattle.model_tree.specs.declared.link.End.TheVariants as end
use Rattle.model_tree.specs.declared.link.Link.{Link}
use Rattle.model_tree.specs.Tree.{Word}
use Rattle.model_tree.specs.Pull as P
use Rattle.port_net.specs.Shown.{leaf_list}
use Rattle.port_net.specs.Arriving.{Brings}
use Rattle.port_net.specs.Rows.{cell_rows}
use Rattle.port_net.proofs.Stood.{extends-on}
use Rattle.port_net.proofs.Arrived.{test-cell}
use Rattle.port_net.proofs.Rowed.{grows-on, grows-as, nodes-put, group-rows}
use Rattle.port_net.proofs.rows.put_group.Goals as goal

pub returns-clause-extends : goal.returns-clause-extends
returns-clause-extends c =
    on_ok_weaker c.put_cells.result
    (extends-on c.args.net.now.nodes.items c.arrivals.new.nodes.items c.put_cells.new.net.nodes.items c.in_ok-links.ensures.extends)
    c.put_cells.ensures.extends

pub returns-clause-takes : goal.returns-clause-takes
returns-clause-takes c =
    on_ok_weaker c.put_cells.result
    (λ h ins settings lists own.
    let new = c.arrivals.new.nodes.items in
    let from = λ (l : Link). P.at_source l.from lists (λ p child. []) (λ m. leaf_list (c.args.first + m)) in
    let rows = λ (n : ℕ) (port : Word). P.what_links_bring c.args.group.now.links.items (P.is_cell port n) lists (λ p child. []) (λ m. leaf_list (c.args.first + m)) in
    let given : Brings ins new c.in_ok-links.links from c.args.group.now.links.items =
    subst (λ (ls : List Link). Brings ins new c.in_ok-links.links from ls) c.deref.ensures.value (c.in_ok-links.ensures.brings ins lists c.args.first settings own tt) in
    let names = ap (map (λ v. v.items)) c.deref-2.ensures.value ∙ c.in_ok-names.ensures in
    grows-as ins c.args.net.now c.put_cells.new.net (cell_rows rows (map (λ v. v.items) c.deref-2.result.now)) _ (group-rows c.args.group.now settings c.args.first lists (map (λ v. v.items) c.deref-2.result.now) names)
    (grows-on ins c.args.net.now _ c.put_cells.new.net [] (cell_rows rows (map (λ v. v.items) c.deref-2.result.now)) (nodes-put c.args.net.now _ ins c.in_ok-links.ensures.extends refl refl)
    (h ins rows (λ cell port. given (P.is_cell port cell) (end.Cell port cell) (test-cell port cell)))))
    c.put_cells.ensures.takes
