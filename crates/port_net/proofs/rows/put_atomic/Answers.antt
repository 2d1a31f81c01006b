use Rattle.std.proofs.Common.{[], ◌∷◌, List, map, ◌∙◌, subst}
use Rattle.std.proofs.lemmas.Result.{on_ok_weaker}
use Rattle.model_tree.specs.Tree.{Word}
use Rattle.port_net.specs.Rows.{Grows}
use Rattle.port_net.proofs.rows.put_atomic.Goals as goal

pub returns-clause-takes : goal.returns-clause-takes
returns-clause-takes c =
    on_ok_weaker c.put_leaf.result
    (λ h ins settings lists are.
    subst (λ (ns : List Word). Grows ins c.args.net.now c.put_leaf.new.net (map lists ns ∷ [])) (c.deref.ensures.value ∙ c.in_ok-names.ensures) (h ins lists are))
    c.put_leaf.ensures.takes
