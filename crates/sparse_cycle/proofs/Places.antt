-- Leaves changed one after another at rising places.
use Rattle.std.proofs.Common.{◌≡◌, ℕ, suc, ◌+◌, ◌<◌, Bool, true, false, cond, List, [], ◌∷◌, ◌++◌, map, length, set, refl, sym, ◌∙◌, ap, arith, append_assoc, length-append}
use Rattle.std.specs.List.{filter, range_with_len}
use Rattle.std.proofs.lemmas.List.{set_at, get_or_at}
use Rattle.run_model.specs.Cycle.{LeafState}
use Rattle.sparse_cycle.specs.Sparse.{no_leaf, leaf_of, over, places}

-- each leaf is changed, by its number
abbrev pub changed : (ℕ → LeafState → LeafState) → ℕ → List LeafState → List LeafState
changed h k [] = []
changed h k (s ∷ ss) = h k s ∷ changed h (k + 1) ss

over-step : (h : ℕ → LeafState → LeafState) (fs : List ℕ) (front : List LeafState) (s : LeafState) (rest : List LeafState) (k : ℕ) (b : Bool) → length front ≡ k → (b ≡ false → h k s ≡ s)
    → ((v : LeafState) → over h fs ((front ++ v ∷ []) ++ rest) ≡ (front ++ v ∷ []) ++ changed h (k + 1) rest)
    → over h (cond b (k ∷ fs) fs) (front ++ s ∷ rest) ≡ front ++ h k s ∷ changed h (k + 1) rest
over-step h fs front s rest k b long quiet on = by b quiet
  where
    later : over h fs (front ++ h k s ∷ rest) ≡ front ++ h k s ∷ changed h (k + 1) rest
    later = ap (over h fs) (sym (append_assoc front (h k s ∷ []) rest)) ∙ on (h k s) ∙ append_assoc front (h k s ∷ []) (changed h (k + 1) rest)

    by : (b : Bool) → (b ≡ false → h k s ≡ s) → over h (cond b (k ∷ fs) fs) (front ++ s ∷ rest) ≡ front ++ h k s ∷ changed h (k + 1) rest
    by true quiet =
        ap (λ x. over h fs (set (front ++ s ∷ rest) k (h k x))) (get_or_at front s rest no_leaf k long)
        ∙ ap (over h fs) (set_at front s rest (h k s) k long) ∙ later
    by false quiet = ap (λ x. over h fs (front ++ x ∷ rest)) (sym (quiet refl)) ∙ later

over-from : (h : ℕ → LeafState → LeafState) (p : ℕ → Bool) (front rest : List LeafState) (k : ℕ) → length front ≡ k → ((j n : ℕ) → n ≡ k + j → p n ≡ false → h n (leaf_of rest j) ≡ leaf_of rest j)
    → over h (filter p (range_with_len k (length rest))) (front ++ rest) ≡ front ++ changed h k rest
over-from h p front [] k long quiet = refl
over-from h p front (s ∷ rest) k long quiet =
    over-step h (filter p (range_with_len (k + 1) (length rest))) front s rest k (p k) long (quiet 0 k (omega arith))
    (λ v. over-from h p (front ++ v ∷ []) rest (k + 1) (omega (arith, length-append front (v ∷ []), long)) (λ j n is off. quiet (suc j) n (omega (arith, is)) off))

-- where the test leaves out just leaves that would stay
pub over-places : (h : ℕ → LeafState → LeafState) (p : ℕ → Bool) (ss : List LeafState) → ((l : ℕ) → p l ≡ false → h l (leaf_of ss l) ≡ leaf_of ss l) → over h (places p ss) ss ≡ changed h 0 ss
over-places h p ss quiet =
    over-from h p [] ss 0 refl (λ j n is off. let same : j ≡ n = omega (arith, is) in ap (λ x. h n (leaf_of ss x)) same ∙ quiet n off ∙ ap (leaf_of ss) (sym same))

agree-by : (h g : ℕ → LeafState → LeafState) (x : ℕ) (fs : List ℕ) (ss : List LeafState) (b : Bool) → (b ≡ true → (s : LeafState) → h x s ≡ g x s) → ((ss : List LeafState) → over h fs ss ≡ over g fs ss) → over h (cond b (x ∷ fs) fs) ss ≡ over g (cond b (x ∷ fs) fs) ss
agree-by h g x fs ss true same on =
    on (set ss x (h x (leaf_of ss x))) ∙ ap (λ v. over g fs (set ss x v)) (same refl (leaf_of ss x))
agree-by h g x fs ss false same on = on ss

pub over-agree : (h g : ℕ → LeafState → LeafState) (p : ℕ → Bool) → ((l : ℕ) → p l ≡ true → (s : LeafState) → h l s ≡ g l s) → (xs : List ℕ) (ss : List LeafState) → over h (filter p xs) ss ≡ over g (filter p xs) ss
over-agree h g p same [] ss = refl
over-agree h g p same (x ∷ xs) ss = agree-by h g x (filter p xs) ss (p x) (same x) (over-agree h g p same xs)

pub changed-map : (f : LeafState → LeafState) (k : ℕ) (ss : List LeafState) → changed (λ l s. f s) k ss ≡ map f ss
changed-map f k [] = refl
changed-map f k (s ∷ ss) = ap (λ l. f s ∷ l) (changed-map f (k + 1) ss)

-- each place changes alike
pub changed-agree : (h g : ℕ → LeafState → LeafState) (f : LeafState → LeafState) (k : ℕ) (ss : List LeafState) → ((j n : ℕ) → n ≡ k + j → j < length ss → h n (f (leaf_of ss j)) ≡ g n (leaf_of ss j)) → changed h k (map f ss) ≡ changed g k ss
changed-agree h g f k [] same = refl
changed-agree h g f k (s ∷ ss) same =
    let here : h k (f s) ≡ g k s = same 0 k (omega arith) (omega arith) in
    let rest = changed-agree h g f (k + 1) ss (λ j n is lt. same (suc j) n (omega (arith, is)) (omega (arith, lt))) in
    λ i. here i ∷ rest i
