-- Lists that stand in others, place by place.
use Rattle.std.proofs.Common.{◌≡◌, ℕ, zero, suc, ◌+◌, ◌<◌, Option, Some, List, [], ◌∷◌, ◌++◌, map, length, refl, sym, ◌∙◌, ap, subst, arith, append_assoc, length-append}
use Rattle.std.specs.Prelude.{slice_get, ⊤}
use Rattle.std.specs.List.{range_with_len}
use Rattle.served_tree.specs.Places.{ContainsFrom}

-- ---- one list in another, from a place on

pub stands-split : {X : Type 0} (xs : List X) (n : ℕ) (as' bs : List X) → ContainsFrom xs n (as' ++ bs)
    → ContainsFrom xs n as' × ContainsFrom xs (n + length as') bs
stands-split xs n [] bs h = (tt, subst (λ k. ContainsFrom xs k bs) (let e : n ≡ n + 0 = omega arith in e) h)
stands-split xs n (a ∷ as') bs h =
    let r = stands-split xs (n + 1) as' bs h.1 in
    ((h.0, r.0), subst (λ k. ContainsFrom xs k bs) (let e : (n + 1) + length as' ≡ n + suc (length as') = omega arith in e) r.1)

get-behind : {X : Type 0} (front : List X) (y : X) (ys : List X) (n : ℕ) → length front ≡ n
    → slice_get (front ++ y ∷ ys) n ≡ Some y
get-behind [] y ys n e = ap (λ k. slice_get (y ∷ ys) k) (sym e)
get-behind (x ∷ front) y ys n e = ap (slice_get (x ∷ (front ++ y ∷ ys))) (sym e) ∙ get-behind front y ys (length front) refl

pub stands-behind : {X : Type 0} (ys front : List X) (n : ℕ) → length front ≡ n
    → ContainsFrom (front ++ ys) n ys
stands-behind [] front n e = tt
stands-behind (y ∷ ys) front n e = (
  get-behind front y ys n e,
  subst (λ l. ContainsFrom l (n + 1) ys) (append_assoc front (y ∷ []) ys)
      (stands-behind ys (front ++ y ∷ []) (n + 1) (length-append front (y ∷ []) ∙ (let f : length front + 1 ≡ n + 1 = omega (arith, e) in f))),
)

pub stands-itself : {X : Type 0} (xs : List X) → ContainsFrom xs 0 xs
stands-itself xs = stands-behind xs [] 0 refl

-- what is made of numbers one after another
pub stands-range : {X : Type 0} (xs : List X) (n : ℕ) (f : ℕ → X) (a k j : ℕ)
    → ContainsFrom xs n (map f (range_with_len a k)) → j < k → slice_get xs (n + j) ≡ Some (f (a + j))
stands-range xs n f a zero j h lt = absurd (omega (arith, lt))
stands-range xs n f a (suc k) zero h lt =
    ap (slice_get xs) (let e : n + 0 ≡ n = omega arith in e) ∙ h.0 ∙ ap (λ i. Some (f i)) (let e : a ≡ a + 0 = omega arith in e)
stands-range xs n f a (suc k) (suc j) h lt =
    ap (slice_get xs) (let e : n + suc j ≡ (n + 1) + j = omega arith in e)
    ∙ stands-range xs (n + 1) f (a + 1) k j h.1 (omega (arith, lt))
    ∙ ap (λ i. Some (f i)) (let e : (a + 1) + j ≡ a + suc j = omega arith in e)

-- ---- something of each place

abbrev pub AllFrom : {X : Type 0} → (ℕ → X → Type 0) → ℕ → List X → Type 0
AllFrom P n [] = ⊤
AllFrom P n (x ∷ xs) = P n x × AllFrom P (n + 1) xs

pub all-from-append : {X : Type 0} (P : ℕ → X → Type 0) (n m : ℕ) (xs ys : List X)
    → m ≡ n + length xs → AllFrom P n xs → AllFrom P m ys → AllFrom P n (xs ++ ys)
all-from-append P n m [] ys e h k = subst (λ i. AllFrom P i ys) (let f : m ≡ n = omega (arith, e) in f) k
all-from-append P n m (x ∷ xs) ys e h k = (h.0, all-from-append P (n + 1) m xs ys (omega (arith, e)) h.1 k)

pub all-from-at : {X : Type 0} (P : ℕ → X → Type 0) (n : ℕ) (xs : List X) (k : ℕ) (x : X)
    → AllFrom P n xs → slice_get xs k ≡ Some x → P (n + k) x
all-from-at P n [] k x h e = absurd cc
all-from-at P n (y ∷ ys) zero x h e = subst (λ i. P i x) (let f : n ≡ n + 0 = omega arith in f) (let same : y ≡ x = cc in subst (P n) same h.0)
all-from-at P n (y ∷ ys) (suc k) x h e = subst (λ i. P i x) (let f : (n + 1) + k ≡ n + suc k = omega arith in f) (all-from-at P (n + 1) ys k x h.1 e)

pub all-from-range : {X : Type 0} (P : ℕ → X → Type 0) (n : ℕ) (f : ℕ → X) (a k : ℕ)
    → ((j : ℕ) → j < k → P (n + j) (f (a + j))) → AllFrom P n (map f (range_with_len a k))
all-from-range P n f a zero each = tt
all-from-range P n f a (suc k) each = (
  subst (λ i. P i (f a)) (let e : n + 0 ≡ n = omega arith in e) (subst (λ i. P (n + 0) (f i)) (let e : a + 0 ≡ a = omega arith in e) (each 0 (omega arith))),
  all-from-range P (n + 1) f (a + 1) k (λ j lt.
      subst (λ i. P i (f ((a + 1) + j))) (let e : n + suc j ≡ (n + 1) + j = omega arith in e)
      (subst (λ i. P (n + suc j) (f i)) (let e : a + suc j ≡ (a + 1) + j = omega arith in e) (each (suc j) (omega (arith, lt))))),
)

pub length-range : (a k : ℕ) → length (range_with_len a k) ≡ k
length-range a zero = refl
length-range a (suc k) = ap suc (length-range (a + 1) k)

pub get-range : (a k j : ℕ) → j < k → slice_get (range_with_len a k) j ≡ Some (a + j)
get-range a zero j lt = absurd (omega (arith, lt))
get-range a (suc k) zero lt = ap Some (let e : a ≡ a + 0 = omega arith in e)
get-range a (suc k) (suc j) lt = get-range (a + 1) k j (omega (arith, lt)) ∙ ap Some (let e : (a + 1) + j ≡ a + suc j = omega arith in e)

-- two lists that have the same at each place are one
pub same-by-places : {X : Type 0} (xs ys : List X) → length xs ≡ length ys
    → ((n : ℕ) → n < length xs → slice_get xs n ≡ slice_get ys n) → xs ≡ ys
same-by-places [] [] e each = refl
same-by-places [] (y ∷ ys) e each = absurd (omega (arith, e))
same-by-places (x ∷ xs) [] e each = absurd (omega (arith, e))
same-by-places (x ∷ xs) (y ∷ ys) e each =
    let head : ◌≡◌ {A = Option _} (Some x) (Some y) = each 0 (omega arith) in
    let same : x ≡ y = cc in
    let rest = same-by-places xs ys (omega (arith, e)) (λ n lt. each (suc n) (omega (arith, lt))) in
    λ i. same i ∷ rest i
