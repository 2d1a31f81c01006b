-- The numbers of the targets of a source are those of the paths from it.
use Rattle.std.proofs.Common.{◌≡◌, ◌+◌, ◌++◌, ◌∷◌, ℕ, Bool, true, false, List, [], map, get_or, length, refl, sym, ap, ◌∙◌, arith, append_assoc, length-append}
use Rattle.std.specs.List.{enumerate_from, filter, range_with_len}
use Rattle.std.proofs.Math.Seq.{get_or-append_seam}
use Rattle.model_leaves.specs.declared.path.Source.{Source}
use Rattle.model_leaves.specs.declared.path.Path.{Path}
use Rattle.model_leaves.specs.declared.path.Target.{Target}
use Rattle.model_leaves.specs.Numbered.{is_from, nowhere, numbers}
use Rattle.route_flat.specs.declared.way.Way.{Way}
use Rattle.route_flat.specs.Ways.{path_in, is_way_from, target_of, targets_among}

abbrev number_in : Target → ℕ
number_in t = t.path

-- the paths before are passed over
numbers-behind : (from : Source) (before : List Path) (ws : List Way) (n : ℕ) → length before ≡ n → filter (λ k. is_from from (get_or (before ++ map path_in ws) k nowhere)) (range_with_len n (length (map path_in ws))) ≡ map number_in (map target_of (filter (is_way_from from) (enumerate_from n ws)))
numbers-behind from before [] n e = refl
numbers-behind from before (w ∷ ws) n e =
    let here : get_or (before ++ w.path ∷ map path_in ws) n nowhere ≡ w.path =
    ap (λ k. get_or (before ++ w.path ∷ map path_in ws) k nowhere) (sym e) ∙ get_or-append_seam before w.path (map path_in ws) nowhere in
    let rest : filter (λ k. is_from from (get_or (before ++ w.path ∷ map path_in ws) k nowhere)) (range_with_len (n + 1) (length (map path_in ws))) ≡ map number_in (map target_of (filter (is_way_from from) (enumerate_from (n + 1) ws))) =
    ap (λ (ps : List Path). filter (λ k. is_from from (get_or ps k nowhere)) (range_with_len (n + 1) (length (map path_in ws)))) (sym (append_assoc before (w.path ∷ []) (map path_in ws)))
    ∙ numbers-behind from (before ++ w.path ∷ []) ws (n + 1) (omega (arith, e, length-append before (w.path ∷ []))) in
    cases (is_from from w.path) refl here rest
  where
    cases : (b : Bool) → is_from from w.path ≡ b → get_or (before ++ w.path ∷ map path_in ws) n nowhere ≡ w.path → filter (λ k. is_from from (get_or (before ++ w.path ∷ map path_in ws) k nowhere)) (range_with_len (n + 1) (length (map path_in ws))) ≡ map number_in (map target_of (filter (is_way_from from) (enumerate_from (n + 1) ws))) → filter (λ k. is_from from (get_or (before ++ w.path ∷ map path_in ws) k nowhere)) (range_with_len n (length (map path_in (w ∷ ws)))) ≡ map number_in (map target_of (filter (is_way_from from) (enumerate_from n (w ∷ ws))))
    cases true f here rest = rw (here, f) (ap (λ (ks : List ℕ). n ∷ ks) rest)
    cases false f here rest = rw (here, f) rest

pub numbers-of : (ws : List Way) (from : Source) → map number_in (targets_among ws from) ≡ numbers (is_from from) (map path_in ws)
numbers-of ws from = sym (numbers-behind from [] ws 0 refl)
