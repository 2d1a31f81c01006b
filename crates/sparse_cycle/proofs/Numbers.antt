-- Lists of numbers that rise, and paths by their numbers.
use Rattle.std.proofs.Common.{◌≡◌, ℕ, suc, ◌+◌, Bool, true, false, cond, ltb-true, lt-ltb, List, [], ◌∷◌, map, length, refl, sym, ◌∙◌, ap, arith}
use Rattle.std.specs.List.{filter, range_with_len}
use Rattle.std.proofs.lemmas.Bool.{and_parts, and_from}
use Rattle.std.proofs.lemmas.List.Kept.{IsStrictlyIncreasing-filter}
use Rattle.std.proofs.lemmas.Map.Keys.{sorted_from_strictly_increasing}
use Rattle.cell_grid.proofs.Rising.{has, same_answer, same_rising, has-filter, has-range, range-rises, Contains-from_has, has-from_Contains}
use Rattle.sparse_cycle.specs.Sparse.{Path}
use Rattle.sparse_cycle.specs.Laws.{path_at, PathsByNumber, RisingIsFiltered}

pub rising-is-filtered : RisingIsFiltered
rising-is-filtered test n ls rises members =
    let all = range_with_len 0 n in
    let kept = filter test all in
    same_rising ls kept (sorted_from_strictly_increasing ls rises) (sorted_from_strictly_increasing kept (IsStrictlyIncreasing-filter test all (range-rises n)))
    (λ l. same_answer (has ls l) (has kept l)
    (λ in_it. let m = (members l).0 (Contains-from_has ls l in_it) in has-filter test all l ∙ and_from (has all l) (test l) (has-range n l ∙ lt-ltb l n m.0) m.1)
    (λ in_it. let parts = and_parts (has all l) (test l) (sym (has-filter test all l) ∙ in_it) in
    has-from_Contains ls l ((members l).1 (ltb-true l n (sym (has-range n l) ∙ parts.0), parts.1))))

one-number : (test : Path → Bool) (all : List Path) (p : Path) (ks : List ℕ) (ps : List Path) (k : ℕ) (b : Bool) → path_at all k ≡ p → test (path_at all k) ≡ b → map (path_at all) ks ≡ filter test ps → map (path_at all) (cond b (k ∷ ks) ks) ≡ cond (test p) (p ∷ filter test ps) (filter test ps)
one-number test all p ks ps k true here is rest =
    (λ i. here i ∷ rest i) ∙ ap (λ b. cond b (p ∷ filter test ps) (filter test ps)) (sym is ∙ ap test here)
one-number test all p ks ps k false here is rest =
    rest ∙ ap (λ b. cond b (p ∷ filter test ps) (filter test ps)) (sym is ∙ ap test here)

by-number : (test : Path → Bool) (all ps : List Path) (k : ℕ) → ((j n : ℕ) → n ≡ k + j → path_at all n ≡ path_at ps j) → map (path_at all) (filter (λ n. test (path_at all n)) (range_with_len k (length ps))) ≡ filter test ps
by-number test all [] k at = refl
by-number test all (p ∷ ps) k at =
    one-number test all p (filter (λ n. test (path_at all n)) (range_with_len (k + 1) (length ps))) ps k (test (path_at all k)) (at 0 k (omega arith)) refl
    (by-number test all ps (k + 1) (λ j n is. at (suc j) n (omega (arith, is))))

pub paths-by-number : PathsByNumber
paths-by-number test ps = by-number test ps ps 0 (λ j n is. let same : n ≡ j = omega (arith, is) in ap (path_at ps) same)
