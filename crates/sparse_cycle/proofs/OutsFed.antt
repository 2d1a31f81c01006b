-- The output records of a cycle.
use Rattle.std.proofs.Common.{◌≡◌, List, [], ◌∷◌, ◌++◌, map, refl, ◌∙◌, ap}
use Rattle.std.specs.List.{filter}
use Rattle.std.proofs.lemmas.List.{map-append}
use Rattle.quantity.specs.declared.value.Value.{Value}
use Rattle.model_tree.specs.Tree.{ins_of}
use Rattle.model_tree.specs.Pull.{Source}
use Rattle.run_model.specs.Run.{PortRecord, at_top}
use Rattle.sparse_cycle.specs.Sparse.{Path, out_paths, given_among, due_leaves, from_source, brings, fed_by, fed_among, out_among}
use Rattle.sparse_cycle.specs.Feed.{y_at, inputs_at, values_of, out_of, OutsAreFed}
use Rattle.sparse_cycle.proofs.Feeding.{feeds-by-number}
use Rattle.sparse_cycle.proofs.FedParts.{values-are}

module _ (from : Source → List Value) where
  one-out : (p : Path) (vs : List Value) → map out_of (map (λ v. let r : PortRecord = record { leaf = p.to; port = p.port; value = v } in r) vs) ≡ map (λ v. record { port = p.port; value = v }) vs
  one-out p [] = refl
  one-out p (v ∷ vs) = ap (λ rs. record { port = p.port; value = v } ∷ rs) (one-out p vs)

  all-outs : (ps : List Path) → map out_of (fed_among from ps) ≡ out_among from ps
  all-outs [] = refl
  all-outs (p ∷ ps) = map-append out_of (fed_by from p) (fed_among from ps) ∙ (λ i. one-out p (from p.source) i ++ all-outs ps i)

pub outs-are-fed : OutsAreFed
outs-are-fed tree t s distinct within =
    let from = values_of (ins_of tree) (y_at t s) (inputs_at t s.events) in
    let stands = from_source (given_among t s.leaf_states (due_leaves t s.leaf_states)) (at_top tree t s.events) in
    ap (map out_of) (feeds-by-number (ins_of tree) (out_paths tree) (y_at t s) (inputs_at t s.events))
    ∙ all-outs from (filter (brings from) (out_paths tree))
    ∙ (λ i. out_among (λ w. values-are tree t s distinct within w i) (filter (brings (λ w. values-are tree t s distinct within w i)) (out_paths tree)))
