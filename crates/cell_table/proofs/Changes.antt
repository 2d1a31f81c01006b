-- One element of a list is changed, and one place among flat lists.
use Rattle.std.proofs.Common.{◌≡◌, ◌≢◌, ℕ, zero, suc, ◌+◌, ◌<◌, ◌≤◌, List, [], ◌∷◌, map, length, get_or, set, refl, sym, ◌∙◌, ap, arith}
use Rattle.std.specs.List.{range_with_len}
use Rattle.rule_tree.specs.Ports.{changed_at}

-- ---- changes of one element

pub changed-twice : {A : Type 0} (i : ℕ) (f g : A → A) (xs : List A) → changed_at i f (changed_at i g xs) ≡ changed_at i (λ x. f (g x)) xs
changed-twice i f g [] = refl
changed-twice zero f g (x ∷ xs) = refl
changed-twice (suc i) f g (x ∷ xs) = ap (λ ys. x ∷ ys) (changed-twice i f g xs)

pub changed-set : {A : Type 0} (i : ℕ) (f : A → A) (d : A) (xs : List A) → changed_at i f xs ≡ set xs i (f (get_or xs i d))
changed-set i f d [] = refl
changed-set zero f d (x ∷ xs) = refl
changed-set (suc i) f d (x ∷ xs) = ap (λ ys. x ∷ ys) (changed-set i f d xs)

pub length-changed : {A : Type 0} (i : ℕ) (f : A → A) (xs : List A) → length (changed_at i f xs) ≡ length xs
length-changed i f [] = refl
length-changed zero f (x ∷ xs) = refl
length-changed (suc i) f (x ∷ xs) = ap suc (length-changed i f xs)

pub changed-here : {A : Type 0} (i : ℕ) (f : A → A) (d : A) (xs : List A) → i < length xs → get_or (changed_at i f xs) i d ≡ f (get_or xs i d)
changed-here i f d [] h = absurd (omega (arith, h))
changed-here zero f d (x ∷ xs) h = refl
changed-here (suc i) f d (x ∷ xs) h = changed-here i f d xs (omega (arith, h))

-- a change that does to this element what another does
pub changed-alike : {A : Type 0} (i : ℕ) (f g : A → A) (d : A) (xs : List A) → f (get_or xs i d) ≡ g (get_or xs i d) → changed_at i f xs ≡ changed_at i g xs
changed-alike i f g d [] e = refl
changed-alike zero f g d (x ∷ xs) e = ap (λ y. y ∷ xs) e
changed-alike (suc i) f g d (x ∷ xs) e = ap (λ ys. x ∷ ys) (changed-alike i f g d xs e)

-- past the end nothing changes
pub changed-past : {A : Type 0} (i : ℕ) (f : A → A) (xs : List A) → length xs ≤ i → changed_at i f xs ≡ xs
changed-past i f [] h = refl
changed-past zero f (x ∷ xs) h = absurd (omega (arith, h))
changed-past (suc i) f (x ∷ xs) h = ap (λ ys. x ∷ ys) (changed-past i f xs (omega (arith, h)))

-- ---- lists made of functions of a number

-- the functions agree on these numbers
pub same-range : {A : Type 0} (F G : ℕ → A) (b n : ℕ) → ((k : ℕ) → b ≤ k → k < b + n → F k ≡ G k) → map F (range_with_len b n) ≡ map G (range_with_len b n)
same-range F G b zero same = refl
same-range F G b (suc n) same =
    let head = same b (omega arith) (omega arith) in
    let rest = same-range F G (b + 1) n (λ k low high. same k (omega (arith, low)) (omega (arith, high))) in
    λ i. head i ∷ rest i

-- they agree but for one number, where the change is made
pub changed-range : {A : Type 0} (F G : ℕ → A) (f : A → A) (b n p k : ℕ) → k ≡ b + p → G k ≡ f (F k) → ((m : ℕ) → b ≤ m → m < b + n → m ≢ k → G m ≡ F m)
    → map G (range_with_len b n) ≡ changed_at p f (map F (range_with_len b n))
changed-range F G f b zero p k at here other = refl
changed-range F G f b (suc n) zero k at here other =
    let k-is : k ≡ b = omega (arith, at) in
    let head : G b ≡ f (F b) = ap G (sym k-is) ∙ here ∙ ap (λ m. f (F m)) k-is in
    let rest = same-range G F (b + 1) n (λ m low high. other m (omega (arith, low)) (omega (arith, high)) (λ e. omega (arith, low, e, k-is))) in
    λ i. head i ∷ rest i
changed-range F G f b (suc n) (suc p) k at here other =
    let head = other b (omega arith) (omega arith) (λ e. omega (arith, at, e)) in
    let rest = changed-range F G f (b + 1) n p k (omega (arith, at)) here (λ m low high. other m (omega (arith, low)) (omega (arith, high))) in
    λ i. head i ∷ rest i
