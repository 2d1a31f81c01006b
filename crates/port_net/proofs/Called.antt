-- Children that are looked up by their names.
use Rattle.std.proofs.Common.{◌≡◌, ◌<◌, ◌≤◌, ◌+◌, ◌++◌, ℕ, ℤ, Bool, true, false, Option, Some, None, List, [], ◌∷◌, length, get_or, drop, refl, sym, ap, ◌∙◌, arith, is_some, Bor}
use Rattle.std.specs.Prelude.{IfSome, if◌then◌else◌}
use Rattle.std.specs.Str.{bytes_eq}
use Rattle.std.proofs.lemmas.List.{drop_more, drop_all}
use Rattle.std.proofs.lemmas.Slice.Eq.{bytes_eq-Decides}
use Rattle.model_tree.specs.declared.component.Component.{Component}
use Rattle.model_tree.specs.Tree.{Word, name_of}
use Rattle.model_tree.specs.Stands.{part_of}
use Rattle.port_net.specs.Named.{place_from, kept_for, place_or, LeadToFirst, AddsPlace}

-- ---- one place or another

or-none : (o : Option ℕ) → o ≡ place_or o None
or-none None = refl
or-none (Some n) = refl

or-both : (a b r : Option ℕ) → place_or (place_or a b) r ≡ place_or a (place_or b r)
or-both None b r = refl
or-both (Some n) b r = refl

or-some : (o other : Option ℕ) → is_some o ≡ true → o ≡ place_or o other
or-some None other e = absurd (cc)
or-some (Some n) other e = refl

-- ---- a name more

pub adds-known : (es : List (Bor Word × ℕ)) (added : Word) (n : ℕ) → is_some (kept_for es added) ≡ true → AddsPlace es es added n
adds-known es added n known name = by (bytes_eq name added) refl
  where
    by : (b : Bool) → bytes_eq name added ≡ b → kept_for es name ≡ place_or (kept_for es name) (if bytes_eq name added then Some n else None)
    by true e =
        let same : added ≡ name = sym ((bytes_eq-Decides name added).0 e) in
        or-some (kept_for es name) (if bytes_eq name added then Some n else None) (ap (λ (w : Word). is_some (kept_for es w)) (sym same) ∙ known)
    by false e = rw e (or-none (kept_for es name))

pub adds-new : (es : List (Bor Word × ℕ)) (added : Bor Word) (n : ℕ) → AddsPlace es (es ++ (added, n) ∷ []) added.now n
adds-new [] added n name = refl
adds-new (e ∷ es) added n name = by (bytes_eq name e.0.now) refl (adds-new es added n name)
  where
    by : (b : Bool) → bytes_eq name e.0.now ≡ b → kept_for (es ++ (added, n) ∷ []) name ≡ place_or (kept_for es name) (if bytes_eq name added.now then Some n else None)
        → kept_for ((e ∷ es) ++ (added, n) ∷ []) name ≡ place_or (kept_for (e ∷ es) name) (if bytes_eq name added.now then Some n else None)
    by true f rest = rw f refl
    by false f rest = rw f rest

-- ---- all children

turned : (a b : Word) → bytes_eq a b ≡ bytes_eq b a
turned a b = by (bytes_eq a b) (bytes_eq b a) refl refl
  where
    by : (x y : Bool) → bytes_eq a b ≡ x → bytes_eq b a ≡ y → bytes_eq a b ≡ bytes_eq b a
    by true y e f = e ∙ sym ((bytes_eq-Decides b a).1 (sym ((bytes_eq-Decides a b).0 e)))
    by false true e f = absurd (let same = (bytes_eq-Decides a b).1 (sym ((bytes_eq-Decides b a).0 f)) in cc)
    by false false e f = e ∙ sym f

-- those before have their places, and so have those from here on
abbrev pub AreLed : List (Bor Word × ℕ) → List Component → ℕ → Type 0
AreLed places children i =
    (settings : ℕ → List ℤ) (name : Word) → place_or (kept_for places name) (place_from (drop i children) settings name i) ≡ place_from children settings name 0

one-first : (c : Component) (cs : List Component) (settings : ℕ → List ℤ) (name : Word) (i : ℕ)
    → place_or (if bytes_eq name (name_of (part_of c settings)) then Some i else None) (place_from cs settings name (i + 1)) ≡ place_from (c ∷ cs) settings name i
one-first c cs settings name i = rw (turned name (name_of (part_of c settings))) (by (bytes_eq (name_of (part_of c settings)) name))
  where
    by : (b : Bool) → place_or (if b then Some i else None) (place_from cs settings name (i + 1)) ≡ (if b then Some i else place_from cs settings name (i + 1))
    by true = refl
    by false = refl

pub led-more : (children : List Component) (old new : List (Bor Word × ℕ)) (i : ℕ) (c : Component) (called : Word) → i < length children → c ≡ get_or children i c
    → ((settings : ℕ → List ℤ) → called ≡ name_of (part_of c settings)) → AddsPlace old new called i → AreLed old children i → AreLed new children (i + 1)
led-more children old new i c called within is named adds led settings name =
    let rest = place_from (drop (i + 1) children) settings name (i + 1) in
    let here : drop i children ≡ c ∷ drop (i + 1) children = drop_more children i c within ∙ ap (λ (x : Component). x ∷ drop (i + 1) children) (sym is) in
    ap (λ (o : Option ℕ). place_or o rest) (adds name) ∙ or-both (kept_for old name) (if bytes_eq name called then Some i else None) rest
    ∙ ap (λ (w : Word). place_or (kept_for old name) (place_or (if bytes_eq name w then Some i else None) rest)) (named settings)
    ∙ ap (place_or (kept_for old name)) (one-first c (drop (i + 1) children) settings name i)
    ∙ ap (λ (cs : List Component). place_or (kept_for old name) (place_from cs settings name i)) (sym here)
    ∙ led settings name

pub led-all : (children : List Component) (places : List (Bor Word × ℕ)) (i : ℕ) → length children ≤ i → AreLed places children i → LeadToFirst places children
led-all children places i past led settings name =
    or-none (kept_for places name) ∙ ap (λ (cs : List Component). place_or (kept_for places name) (place_from cs settings name i)) (sym (drop_all i children past)) ∙ led settings name

-- the place that is found is one of a child
pub place-within : (cs : List Component) (settings : ℕ → List ℤ) (name : Word) (n k : ℕ) → place_from cs settings name n ≡ Some k → k < n + length cs
place-within [] settings name n k e = absurd (cc)
place-within (c ∷ cs) settings name n k e = cases (λ f. place-within cs settings name (n + 1) k f) (bytes_eq (name_of (part_of c settings)) name) refl
  where
    cases : (place_from cs settings name (n + 1) ≡ Some k → k < n + 1 + length cs) → (b : Bool) → bytes_eq (name_of (part_of c settings)) name ≡ b → k < n + length (c ∷ cs)
    cases later true t =
        let f = rw t at e in
        let same : n ≡ k = cc in
        omega arith
    cases later false t =
        let less = later (rw t at e) in
        omega arith

pub found-within : (cs : List Component) (settings : ℕ → List ℤ) (name : Word) (o : Option ℕ) → o ≡ place_from cs settings name 0 → IfSome o (λ k. k < length cs)
found-within cs settings name None e = tt
found-within cs settings name (Some k) e =
    let less = place-within cs settings name 0 k (sym e) in
    omega (arith, less)
