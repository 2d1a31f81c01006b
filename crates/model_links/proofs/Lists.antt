-- Lists of which nothing stands twice, and the first of each name.
use Rattle.std.proofs.Common.{◌≡◌, ℕ, ◌+◌, ◌<◌, Bool, true, false, cond, Option, Some, None, List, [], ◌∷◌, ◌++◌, map, length, get_or, take, refl, sym, ap, subst, ◌∙◌, rules, ◌≤◌}
use Rattle.std.proofs.Math.Bool.{or-false, or_assoc, and-true, and-false}
use Rattle.std.proofs.lemmas.Bool.{or_parts}
use Rattle.std.proofs.lemmas.List.{take_more, map-append, length-map, get_or-map}
use Rattle.std.proofs.lemmas.List.Sums.{fold-append}
use Rattle.std.proofs.lemmas.List.Folds.{list_any-append}
use Rattle.std.proofs.lemmas.Slice.Eq.{bytes_eq-Decides}
use Rattle.std.specs.Prelude.{◌||◌, ◌&&◌}
use Rattle.std.specs.List.{list_any, find, fold}
use Rattle.std.specs.Str.{bytes_eq}
use Rattle.quantity.specs.Bytes.{Bytes, is_among}
use Rattle.model_text.proofs.Keys.{same_bytes, equals_back}

-- ---- one more element

pub grown : {X Y S : Type 0} (put : S → Y → S) (P : List X → List Y) → ((xs ys : List X) → P (xs ++ ys) ≡ P xs ++ P ys) → (xs : List X) (i : ℕ) (d : X) → i < length xs
    → (old mid new : S) → new ≡ fold put mid (P (get_or xs i d ∷ [])) → mid ≡ fold put old (P (take i xs)) → new ≡ fold put old (P (take (i + 1) xs))
grown put P joins xs i d lt old mid new e h =
    let one = P (get_or xs i d ∷ []) in
    e ∙ ap (λ us. fold put us one) h
    ∙ sym (ap (fold put old) (ap P (take_more xs i d lt) ∙ joins (take i xs) (get_or xs i d ∷ [])) ∙ fold-append put old (P (take i xs)) one)

-- what a list is mapped to has the image of its element at the same place
pub mapped_at : {X Y : Type 0} (f : X → Y) (xs : List X) (i : ℕ) (d : X) → i < length xs → d ≡ get_or xs i d → (i < length (map f xs)) × (f d ≡ get_or (map f xs) i (f d))
mapped_at f xs i d lt is = (subst (λ n. i < n) (sym (length-map xs f)) lt, ap f is ∙ sym (get_or-map f xs i d (f d) lt))

pub mapped_past : {X Y : Type 0} (f : X → Y) (xs : List X) (i : ℕ) → length xs ≤ i → length (map f xs) ≤ i
mapped_past f xs i past = subst (λ n. n ≤ i) (sym (length-map xs f)) past

-- ---- texts

differs_back : (a b : Bytes) → bytes_eq a b ≡ false → bytes_eq b a ≡ false
differs_back a b e = search (rules, bytes_eq-Decides)

pub bytes_back : (a b : Bytes) → bytes_eq a b ≡ bytes_eq b a
bytes_back a b = by (bytes_eq a b) refl
  where
    by : (v : Bool) → bytes_eq a b ≡ v → bytes_eq a b ≡ bytes_eq b a
    by true e = e ∙ sym (equals_back a b e)
    by false e = e ∙ sym (differs_back a b e)

-- ---- lists of which nothing stands twice

abbrev with_one : {A : Type 0} → (A → A → Bool) → List A → A → List A
with_one eq xs x = cond (list_any (eq x) xs) xs (xs ++ x ∷ [])

any-with_one : {A : Type 0} (eq : A → A → Bool) (tells : (a b : A) → eq a b ≡ true → a ≡ b) (e : A) (xs : List A) (x : A) → list_any (eq e) (with_one eq xs x) ≡ (list_any (eq e) xs || eq e x)
any-with_one eq tells e xs x = by (list_any (eq x) xs) refl
  where
    there : (b : Bool) → list_any (eq x) xs ≡ true → eq e x ≡ b → list_any (eq e) xs ≡ (list_any (eq e) xs || b)
    there false h g = sym (or-false (list_any (eq e) xs))
    there true h g =
        let m : list_any (eq e) xs ≡ true = ap (λ y. list_any (eq y) xs) (tells e x g) ∙ h in
        m ∙ sym (ap (λ b. b || true) m)

    by : (b : Bool) → list_any (eq x) xs ≡ b → list_any (eq e) (cond b xs (xs ++ x ∷ [])) ≡ (list_any (eq e) xs || eq e x)
    by false h = list_any-append (eq e) xs (x ∷ []) ∙ ap (λ b. list_any (eq e) xs || b) (or-false (eq e x))
    by true h = there (eq e x) h refl

-- what is among them stays so
pub any-with_all : {A : Type 0} (eq : A → A → Bool) (tells : (a b : A) → eq a b ≡ true → a ≡ b) (e : A) (xs ys : List A)
    → list_any (eq e) (fold (λ zs z. cond (list_any (eq z) zs) zs (zs ++ z ∷ [])) xs ys) ≡ (list_any (eq e) xs || list_any (eq e) ys)
any-with_all eq tells e xs [] = sym (or-false (list_any (eq e) xs))
any-with_all eq tells e xs (y ∷ ys) =
    any-with_all eq tells e (with_one eq xs y) ys ∙ ap (λ b. b || list_any (eq e) ys) (any-with_one eq tells e xs y) ∙ or_assoc (list_any (eq e) xs) (eq e y) (list_any (eq e) ys)

-- ---- the first of each name

abbrev with_first : {I : Type 0} → (I → Bytes) → List I → I → List I
with_first name xs i = cond (is_among (map name xs) (name i)) xs (xs ++ i ∷ [])

none_of : {I : Type 0} (name : I → Bytes) (c : Bytes) (test : I → Bool) (xs : List I) → is_among (map name xs) c ≡ false → list_any (λ i. test i && bytes_eq c (name i)) xs ≡ false
none_of name c test [] e = refl
none_of name c test (x ∷ xs) e =
    let apart = or_parts (bytes_eq c (name x)) (is_among (map name xs) c) e in
    (λ k. (test x && apart.0 k) || none_of name c test xs apart.1 k) ∙ ap (λ b. b || false) (and-false (test x))

-- behind these, of which one may have the name
tested : {I : Type 0} (name : I → Bytes) (c : Bytes) (h : Option I → Bool) → h None ≡ false → (xs is : List I)
    → list_any (λ i. h (Some i) && bytes_eq c (name i)) (fold (λ zs z. cond (is_among (map name zs) (name z)) zs (zs ++ z ∷ [])) xs is)
    ≡ cond (is_among (map name xs) c) (list_any (λ i. h (Some i) && bytes_eq c (name i)) xs) (h (find (λ i. bytes_eq (name i) c) is))
tested {I} name c h none xs [] = by (is_among (map name xs) c) refl
  where
    by : (b : Bool) → is_among (map name xs) c ≡ b → list_any (λ i. h (Some i) && bytes_eq c (name i)) xs ≡ cond b (list_any (λ i. h (Some i) && bytes_eq c (name i)) xs) (h None)
    by true e = refl
    by false e = none_of name c (λ i. h (Some i)) xs e ∙ sym none
tested {I} name c h none xs (i ∷ is) = tested name c h none (with_first name xs i) is ∙ by (is_among (map name xs) (name i)) refl
  where
    all : List I → Bool
    all us = list_any (λ j. h (Some j) && bytes_eq c (name j)) us

    found : Bool → Bool
    found b = h (cond b (Some i) (find (λ j. bytes_eq (name j) c) is))

    there : (b : Bool) → bytes_eq (name i) c ≡ b → is_among (map name xs) (name i) ≡ true → cond (is_among (map name xs) c) (all xs) (found false) ≡ cond (is_among (map name xs) c) (all xs) (found b)
    there false g e = refl
    there true g e =
        let a : is_among (map name xs) c ≡ true = sym (ap (is_among (map name xs)) (same_bytes (name i) c g)) ∙ e in
        ap (λ v. cond v (all xs) (found false)) a ∙ sym (ap (λ v. cond v (all xs) (found true)) a)

    apart : (a q : Bool) → is_among (map name xs) c ≡ a → bytes_eq c (name i) ≡ q → is_among (map name xs) (name i) ≡ false
        → cond (a || q) (all xs || (h (Some i) && q)) (found false) ≡ cond a (all xs) (found q)
    apart true true ea g e = let n : is_among (map name xs) (name i) ≡ true = sym (ap (is_among (map name xs)) (same_bytes c (name i) g)) ∙ ea in absurd cc
    apart true false ea g e = ap (λ b. all xs || b) (and-false (h (Some i))) ∙ or-false (all xs)
    apart false true ea g e = ap (λ b. b || (h (Some i) && true)) (none_of name c (λ j. h (Some j)) xs ea) ∙ and-true (h (Some i))
    apart false false ea g e = refl

    by : (b : Bool) → is_among (map name xs) (name i) ≡ b
        → cond (is_among (map name (cond b xs (xs ++ i ∷ []))) c) (all (cond b xs (xs ++ i ∷ []))) (found false) ≡ cond (is_among (map name xs) c) (all xs) (found (bytes_eq (name i) c))
    by true e = there (bytes_eq (name i) c) refl e
    by false e =
        let q = bytes_eq c (name i) in
        let names : is_among (map name (xs ++ i ∷ [])) c ≡ (is_among (map name xs) c || q) =
        ap (λ ns. is_among ns c) (map-append name xs (i ∷ [])) ∙ list_any-append (bytes_eq c) (map name xs) (name i ∷ []) ∙ ap (λ b. is_among (map name xs) c || b) (or-false q) in
        let tests : all (xs ++ i ∷ []) ≡ (all xs || (h (Some i) && q)) =
        list_any-append (λ j. h (Some j) && bytes_eq c (name j)) xs (i ∷ []) ∙ ap (λ b. all xs || b) (or-false (h (Some i) && q)) in
        (λ k. cond (names k) (tests k) (found false)) ∙ apart (is_among (map name xs) c) q refl refl e ∙ ap (λ b. cond (is_among (map name xs) c) (all xs) (found b)) (bytes_back c (name i))

-- the one of a name among the first of each name, by a test of all of these
pub first_tested : {I : Type 0} (name : I → Bytes) (c : Bytes) (h : Option I → Bool) (is : List I) → h None ≡ false
    → list_any (λ i. h (Some i) && bytes_eq c (name i)) (fold (λ zs z. cond (is_among (map name zs) (name z)) zs (zs ++ z ∷ [])) [] is) ≡ h (find (λ i. bytes_eq (name i) c) is)
first_tested name c h is none = tested name c h none [] is
