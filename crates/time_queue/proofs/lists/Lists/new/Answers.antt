use Rattle.std.proofs.Common.{◌≡◌, ℕ, Option, None, length, replicate, sym, ◌∙◌, ap, arith, rules}
use Rattle.std.proofs.lemmas.List.{length-replicate}
use Rattle.time_queue.specs.Lists.{link_of}
use Rattle.time_queue.proofs.Links.{nothing_linked, no_link}
use Rattle.time_queue.proofs.lists.Lists.new.Goals as goal

pub returns-clause-linked : goal.returns-clause-linked
returns-clause-linked c =
    let n = c.args.n in
    let ts : c.in_ok-vec.field-0.items ≡ replicate n None = c.in_ok-vec.ensures.items_if_clones_equal (λ y clone. search rules) ∙ ap (replicate n) c.none.ensures in
    let bs : c.in_ok-vec-2.field-0.items ≡ replicate n None = c.in_ok-vec-2.ensures.items_if_clones_equal (λ y clone. search rules) ∙ ap (replicate n) c.none-2.ensures in
    let ns : c.in_ok-vec-3.field-0.items ≡ replicate n None = c.in_ok-vec-3.ensures.items_if_clones_equal (λ y clone. search rules) ∙ ap (replicate n) c.none-3.ensures in
    let hs : c.in_ok-with_leaves.field-0 ≡ replicate n None = c.in_ok-with_leaves.ensures in
    let long = length-replicate {A = Option ℕ} n None in
    let t_long = ap length ts ∙ long in
    record {
      few = omega (arith, t_long, c.ranges.n.fits);
      firsts = ap length hs ∙ long ∙ sym t_long;
      before = ap length bs ∙ long ∙ sym t_long;
      after = ap length ns ∙ long ∙ sym t_long;
      links = nothing_linked _ _ _ _
          (λ k. ap (λ xs. link_of xs k) ts ∙ no_link n k)
          (λ k. ap (λ xs. link_of xs k) hs ∙ no_link n k)
          (λ k. ap (λ xs. link_of xs k) bs ∙ no_link n k)
          (λ k. ap (λ xs. link_of xs k) ns ∙ no_link n k);
    }
