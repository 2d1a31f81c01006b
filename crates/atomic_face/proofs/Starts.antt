-- Where a stock begins to look for a free box, after a call.
use Rattle.std.proofs.Common.{◌≡◌, ℕ, zero, suc, ◌<◌, ◌≤◌, ◌+◌, ◌-◌, nat_lt, List, length, map, set, get_or, take, drop, refl, sym, ◌∙◌, ap, subst, Bool, true, false, not, cond, ◌||◌, [], ◌∷◌, Some, None, get_or-set_same, get_or-set_other, arith}
use Rattle.std.specs.Prelude.{Option, ◌==◌, ◌^◌, ◌≢◌, ◌&&◌}
use Rattle.std.specs.Option.{option_map}
use Rattle.std.specs.List.{position, position_or_len, list_any}
use Rattle.std.proofs.lemmas.Bool.Decides.{nat_tests}
use Rattle.std.proofs.lemmas.List.{map-set, length-map, length-set, take_all}
use Rattle.atomic_face.specs.declared.class.Class.{Class}
use Rattle.atomic_face.specs.ClassTable.{all_classes, class_number}
use Rattle.atomic_face.specs.StockView.{Stocked, is_of, is_free}
use Rattle.atomic_face.specs.StockStarts.{KeepsStarts, NoneFreeBefore}
use Rattle.atomic_face.proofs.ClassNumbers.{same-number, number-below, equal-if}
use Rattle.atomic_face.proofs.Shown.{map-set_same}

-- ---- the first that passes, looked for behind a place before which none does

pub neither : (a b : Bool) → (a || b) ≡ false → (a ≡ false) × (b ≡ false)
neither true b e = absurd cc
neither false b e = (refl, e)

pub either-none : (a b : Bool) → a ≡ false → b ≡ false → (a || b) ≡ false
either-none true b e f = absurd cc
either-none false b e f = f

skip-or_len : {X : Type 0} (p : X → Bool) (n : ℕ) (xs : List X) → n ≤ length xs → list_any p (take n xs) ≡ false → position_or_len p xs ≡ n + position_or_len p (drop n xs)
skip-or_len p zero xs le h = omega arith
skip-or_len p (suc n) [] le h = absurd (omega arith)
skip-or_len p (suc n) (x ∷ xs) le h =
    let parts = neither (p x) (list_any p (take n xs)) h in
    let rest : position_or_len p xs ≡ n + position_or_len p (drop n xs) = skip-or_len p n xs (omega arith) parts.1 in
    go (p x) parts.0 rest
  where
    go : (b : Bool) → b ≡ false → position_or_len p xs ≡ n + position_or_len p (drop n xs) → cond (not b) (1 + position_or_len p xs) 0 ≡ suc n + position_or_len p (drop n xs)
    go true e f = absurd cc
    go false e f = omega (arith, f)

length-drop : {X : Type 0} (n : ℕ) (xs : List X) → n ≤ length xs → length xs ≡ n + length (drop n xs)
length-drop zero xs le = omega arith
length-drop (suc n) [] le = absurd (omega arith)
length-drop (suc n) (x ∷ xs) le = let rest = length-drop n xs (omega arith) in omega (arith, rest)

less_past : (n q l : ℕ) (a b : Bool) → nat_lt (n + q) (n + l) ≡ a → nat_lt q l ≡ b → a ≡ b
less_past n q l true true e f = refl
less_past n q l false false e f = refl
less_past n q l true false e f = absurd (grind (arith, nat_tests))
less_past n q l false true e f = absurd (grind (arith, nat_tests))

position-skip : {X : Type 0} (p : X → Bool) (n : ℕ) (xs : List X) → n ≤ length xs → list_any p (take n xs) ≡ false → position p xs ≡ option_map (λ k. n + k) (position p (drop n xs))
position-skip {X} p n xs le h =
    rw (skip-or_len p n xs le h, length-drop n xs le, less_past n (position_or_len p (drop n xs)) (length (drop n xs)) _ _ refl refl) (go (nat_lt (position_or_len p (drop n xs)) (length (drop n xs))))
  where
    go : (b : Bool) → ◌≡◌ {A = Option ℕ} (cond b (Some (n + position_or_len p (drop n xs))) None) (option_map (λ k. n + k) (cond b (Some (position_or_len p (drop n xs))) None))
    go true = refl
    go false = refl

one_more : (n : ℕ) → 1 + n ≡ suc n
one_more n = omega arith

-- the same, where the rest is taken as a part of the list
pub position-rest : {X : Type 0} (p : X → Bool) (n : ℕ) (xs : List X) → n ≤ length xs → list_any p (take n xs) ≡ false → position p xs ≡ option_map (λ k. n + k) (position p (take (length xs - n) (drop n xs)))
position-rest p n xs le h =
    let long = length-drop n xs le in
    rw (take_all (length xs - n) (drop n xs) (omega (arith, long))) (position-skip p n xs le h)

none-before_len : {X : Type 0} (p : X → Bool) (xs : List X) → list_any p (take (position_or_len p xs) xs) ≡ false
none-before_len p [] = refl
none-before_len p (x ∷ xs) = go (p x) refl (none-before_len p xs)
  where
    go : (b : Bool) → p x ≡ b → list_any p (take (position_or_len p xs) xs) ≡ false → list_any p (take (cond (not b) (1 + position_or_len p xs) 0) (x ∷ xs)) ≡ false
    go true e f = refl
    go false e f = rw (one_more (position_or_len p xs)) (either-none (p x) (list_any p (take (position_or_len p xs) xs)) e f)

pub none-before : {X : Type 0} (p : X → Bool) (xs : List X) (k : ℕ) → position p xs ≡ Some k → (k < length xs) × (list_any p (take k xs) ≡ false)
none-before p xs k e = go (nat_lt (position_or_len p xs) (length xs)) refl e
  where
    go : (b : Bool) → nat_lt (position_or_len p xs) (length xs) ≡ b → ◌≡◌ {A = Option ℕ} (cond b (Some (position_or_len p xs)) None) (Some k) → (k < length xs) × (list_any p (take k xs) ≡ false)
    go true f g =
        let same : position_or_len p xs ≡ k = cc in
        subst (λ n. (n < length xs) × (list_any p (take n xs) ≡ false)) same (grind (arith, nat_tests), none-before_len p xs)
    go false f g = absurd cc

-- ---- one item replaced

none-set : {X : Type 0} (p : X → Bool) (n i : ℕ) (xs : List X) (y : X) → p y ≡ false → list_any p (take n xs) ≡ false → list_any p (take n (set xs i y)) ≡ false
none-set p zero i xs y e h = refl
none-set p (suc n) i [] y e h = refl
none-set p (suc n) zero (x ∷ xs) y e h = either-none (p y) (list_any p (take n xs)) e (neither (p x) (list_any p (take n xs)) h).1
none-set p (suc n) (suc i) (x ∷ xs) y e h =
    let parts = neither (p x) (list_any p (take n xs)) h in
    either-none (p x) (list_any p (take n (set xs i y))) parts.0 (none-set p n i xs y e parts.1)

any-map : {X : Type 0} (p : X → Bool) (n : ℕ) (xs : List X) → list_any p (take n xs) ≡ list_any (λ b. b) (take n (map p xs))
any-map p zero xs = refl
any-map p (suc n) [] = refl
any-map p (suc n) (x ∷ xs) = ap (λ r. p x || r) (any-map p n xs)

any-take : {A B : Type 0} (f : A → B) (p : B → Bool) (n : ℕ) (xs : List A) → list_any p (take n (map f xs)) ≡ list_any (λ x. p (f x)) (take n xs)
any-take f p zero xs = refl
any-take f p (suc n) [] = refl
any-take f p (suc n) (x ∷ xs) = ap (λ r. p (f x) || r) (any-take f p n xs)

-- ---- a call that leaves the class of a box, and whether it is taken

same-free : (c : Class) (s t : Stocked) → s.box.kind ≡ t.box.kind → s.taken ≡ t.taken → is_free c s ≡ is_free c t
same-free c s t e f = rw (e, f) refl

pub starts-stay : {A : Type 0} (f : A → Stocked) (xs : List A) (starts : List ℕ) (i : ℕ) (o y : A) → o ≡ get_or xs i o → (f y).box.kind ≡ (f o).box.kind → (f y).taken ≡ (f o).taken → KeepsStarts (map f xs) starts → KeepsStarts (map f (set xs i y)) starts
starts-stay {A} f xs starts i o y e kind taken h = record {
  few = subst (λ n. n < 2 ^ 32) (sym long) h.few;
  each = h.each;
  none_before = λ c. (
    subst (λ n. get_or starts (class_number c) 0 ≤ n) (sym long) (h.none_before c).0,
    any-map (is_free c) (get_or starts (class_number c) 0) (map f (set xs i y)) ∙ ap (λ bs. list_any (λ b. b) (take (get_or starts (class_number c) 0) bs)) (free c) ∙ sym (any-map (is_free c) (get_or starts (class_number c) 0) (map f xs)) ∙ (h.none_before c).1,
  );
}
  where
    long : length (map f (set xs i y)) ≡ length (map f xs)
    long = rw (length-map (set xs i y) f, length-map xs f) (length-set xs i y)

    map-both : (c : Class) (ys : List A) → map (is_free c) (map f ys) ≡ map (λ x. is_free c (f x)) ys
    map-both c [] = refl
    map-both c (x ∷ ys) = ap (λ bs. is_free c (f x) ∷ bs) (map-both c ys)

    free : (c : Class) → map (is_free c) (map f (set xs i y)) ≡ map (is_free c) (map f xs)
    free c =
        map-both c (set xs i y) ∙ map-set_same (λ x. is_free c (f x)) xs i o y e (same-free c (f y) (f o) kind taken) ∙ sym (map-both c xs)

-- ---- boxes that are handed in

all_zero : {X : Type 0} (xs : List X) (n : ℕ) → ◌≡◌ {A = ℕ} (get_or (map (λ x. 0) xs) n 0) 0
all_zero [] n = refl
all_zero (x ∷ xs) zero = refl
all_zero (x ∷ xs) (suc n) = all_zero xs n

pub starts-new : {A B : Type 0} (f : A → Stocked) (bs : List B) (xs : List A) (starts : List ℕ) → length xs ≡ length bs → starts ≡ map (λ c. 0) all_classes → length bs < 2 ^ 32 → KeepsStarts (map f xs) starts
starts-new f bs xs starts long zeros lt = rw zeros record {
  few = rw (length-map xs f, long) lt;
  each = refl;
  none_before = λ c. before c;
}
  where
    before : (c : Class) → NoneFreeBefore (map f xs) c (get_or (map (λ c. 0) all_classes) (class_number c) 0)
    before c = subst (λ n. NoneFreeBefore (map f xs) c n) (sym (all_zero all_classes (class_number c))) (omega arith, refl)

-- what the start of a class says of the items
pub none-here : {A : Type 0} (f : A → Stocked) (xs ys : List A) (starts : List ℕ) (c : Class) (n : ℕ) → n ≡ class_number c → xs ≡ ys → list_any (is_free c) (take (get_or starts (class_number c) 0) (map f xs)) ≡ false → list_any (λ x. is_free c (f x)) (take (get_or starts n 0) ys) ≡ false
none-here f xs ys starts c n e same h = rw (e, ← same) (sym (any-take f (is_free c) (get_or starts (class_number c) 0) xs) ∙ h)

-- ---- a box that is taken

is_free-taken : (c : Class) (s : Stocked) → s.taken ≡ true → is_free c s ≡ false
is_free-taken c s e = ap (λ b. is_of c s && not b) e ∙ go (is_of c s)
  where
    go : (b : Bool) → (b && false) ≡ false
    go true = refl
    go false = refl

pub starts-take : {A : Type 0} (f : A → Stocked) (xs : List A) (starts : List ℕ) (c : Class) (at : ℕ) (y : A) → position (is_free c) (map f xs) ≡ Some at → (f y).taken ≡ true → KeepsStarts (map f xs) starts → KeepsStarts (map f (set xs at y)) (set starts (class_number c) at)
starts-take f xs starts c at y found taken h = rw (map-set f xs at y) record {
  few = subst (λ n. n < 2 ^ 32) (sym (length-set (map f xs) at (f y))) h.few;
  each = length-set starts (class_number c) at ∙ h.each;
  none_before = λ k. of k (class_number k == class_number c) refl;
}
  where
    start : Class → ℕ
    start k = get_or (set starts (class_number c) at) (class_number k) 0

    -- a place before which none is free keeps this
    keeps : (k : Class) (n : ℕ) → NoneFreeBefore (map f xs) k n → NoneFreeBefore (set (map f xs) at (f y)) k n
    keeps k n before = (
      subst (λ m. n ≤ m) (sym (length-set (map f xs) at (f y))) before.0,
      none-set (is_free k) n at (map f xs) (f y) (is_free-taken k (f y) taken) before.1,
    )

    first : NoneFreeBefore (map f xs) c at
    first = let before = none-before (is_free c) (map f xs) at found in (omega (arith, before.0), before.1)

    of : (k : Class) (b : Bool) → (class_number k == class_number c) ≡ b → NoneFreeBefore (set (map f xs) at (f y)) k (start k)
    of k true e =
        let same : class_number k ≡ class_number c = equal-if (class_number k) (class_number c) true e in
        let class : k ≡ c = same-number k c same in
        let there : start k ≡ at = ap (λ n. get_or (set starts (class_number c) at) n 0) same ∙ get_or-set_same starts (class_number c) at 0 (subst (λ n. class_number c < n) (sym h.each) (number-below c)) in
        keeps k (start k) (subst (λ n. NoneFreeBefore (map f xs) k n) (sym there) (subst (λ q. NoneFreeBefore (map f xs) q at) (sym class) first))
    of k false e =
        let other : class_number k ≢ class_number c = equal-if (class_number k) (class_number c) false e in
        let there : start k ≡ get_or starts (class_number k) 0 = get_or-set_other starts (class_number c) (class_number k) at 0 other in
        keeps k (start k) (subst (λ n. NoneFreeBefore (map f xs) k n) (sym there) (h.none_before k))
