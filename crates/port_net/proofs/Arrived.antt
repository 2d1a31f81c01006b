-- Nodes of links that are kept by where the links lead, and looked up there.
use Rattle.std.proofs.Common.{◌≡◌, ℕ, zero, suc, Bool, true, false, Option, Some, None, List, [], ◌∷◌, ◌++◌, map, length, refl, sym, ap, ◌∙◌, subst, is_some, slice_get, position, arith, append-nil, Vec, Global}
use Rattle.std.specs.Prelude.{◌&&◌, ◌==◌, nat_lt, if◌then◌else◌}
use Rattle.std.specs.List.{position_or_len, filter, flat_map}
use Rattle.std.specs.Map.{lookup, keys_of, values_of}
use Rattle.std.specs.Str.{bytes_eq}
use Rattle.std.proofs.lemmas.Bool.Decides.{nat_tests}
use Rattle.std.proofs.lemmas.Slice.Eq.{bytes_eq-Decides}
use Rattle.indexmap.specs.IndexMap.{set_value_at}
use Rattle.model_tree.specs.declared.link.End.{End}
use Rattle.model_tree.specs.declared.link.End.TheVariants as owned
use Rattle.model_tree.specs.declared.link.Link.{Link}
use Rattle.model_tree.specs.Tree.{Word}
use Rattle.model_tree.specs.Pull as P
use Rattle.port_net.specs.declared.net.Node.{Node}
use Rattle.port_net.specs.declared.arrivals.Place.{Place}
use Rattle.port_net.specs.declared.arrivals.Place.TheVariants as lent
use Rattle.port_net.specs.declared.arrivals.Arrivals.{Arrivals}
use Rattle.port_net.specs.declared.ports.At.{At}
use Rattle.port_net.specs.declared.ports.At.TheVariants as at
use Rattle.port_net.specs.contracts.arrivals.PlacePartialEq.TheImpl as places
use Rattle.port_net.specs.Shown.{AllGive, Join, one_if}
use Rattle.port_net.specs.Arriving.{end_of, kept_at, IsTestFor, Arrive, Brings}
use Rattle.port_net.specs.Outside.{is_end_at, end_at}
use Rattle.port_net.proofs.Stood.{links-join}

abbrev pub Kept : Type 0
Kept = List (Place × Vec ℕ Global)

abbrev pub same : Place → Place → Bool
same a b = (places.eq-value).it a b

-- ---- equal places have one end

both : (a b : Bool) → (a && b) ≡ true → (a ≡ true) × (b ≡ true)
both true b h = (refl, h)
both false b h = absurd (cc)

one-number : (n m : ℕ) → (n == m) ≡ true → n ≡ m
one-number n m h = grind (arith, nat_tests)

same-number : (n m : ℕ) → n ≡ m → (n == m) ≡ true
same-number n m h = grind (arith, nat_tests)

one-end : (a b : Place) → same a b ≡ true → end_of a ≡ end_of b
one-end (lent.Own p) (lent.Own q) h = ap owned.Own ((bytes_eq-Decides p.items q.items).0 h)
one-end (lent.Own p) (lent.Child q d) h = absurd (cc)
one-end (lent.Own p) (lent.Cell q m) h = absurd (cc)
one-end (lent.Child p c) (lent.Own q) h = absurd (cc)
one-end (lent.Child p c) (lent.Child q d) h =
    let e = both (bytes_eq p.items q.items) (bytes_eq c.items d.items) h in
    ap (λ (w : Word). owned.Child w c.items) ((bytes_eq-Decides p.items q.items).0 e.0) ∙ ap (owned.Child q.items) ((bytes_eq-Decides c.items d.items).0 e.1)
one-end (lent.Child p c) (lent.Cell q m) h = absurd (cc)
one-end (lent.Cell p n) (lent.Own q) h = absurd (cc)
one-end (lent.Cell p n) (lent.Child q d) h = absurd (cc)
one-end (lent.Cell p n) (lent.Cell q m) h =
    let e = both (bytes_eq p.items q.items) (n == m) h in
    ap (λ (w : Word). owned.Cell w n) ((bytes_eq-Decides p.items q.items).0 e.0) ∙ ap (owned.Cell q.items) (one-number n m e.1)

and-true : (a b : Bool) → a ≡ true → b ≡ true → (a && b) ≡ true
and-true a b e f = rw (e, f) refl

same-end : (a b : Place) → end_of a ≡ end_of b → same a b ≡ true
same-end (lent.Own p) (lent.Own q) e = (bytes_eq-Decides p.items q.items).1 (cc)
same-end (lent.Own p) (lent.Child q d) e = absurd (cc)
same-end (lent.Own p) (lent.Cell q m) e = absurd (cc)
same-end (lent.Child p c) (lent.Own q) e = absurd (cc)
same-end (lent.Child p c) (lent.Child q d) e =
    and-true (bytes_eq p.items q.items) (bytes_eq c.items d.items) ((bytes_eq-Decides p.items q.items).1 (cc)) ((bytes_eq-Decides c.items d.items).1 (cc))
same-end (lent.Child p c) (lent.Cell q m) e = absurd (cc)
same-end (lent.Cell p n) (lent.Own q) e = absurd (cc)
same-end (lent.Cell p n) (lent.Child q d) e = absurd (cc)
same-end (lent.Cell p n) (lent.Cell q m) e = and-true (bytes_eq p.items q.items) (n == m) ((bytes_eq-Decides p.items q.items).1 (cc)) (same-number n m (cc))

-- ---- tests for one end

pub test-own : (port : Word) → IsTestFor (P.is_own port) (owned.Own port)
test-own port = record { passes = (bytes_eq-Decides port port).1 refl; only = only }
  where
    only : (e : End) → P.is_own port e ≡ true → e ≡ owned.Own port
    only (owned.Own p) h = ap owned.Own ((bytes_eq-Decides p port).0 h)
    only (owned.Child p c) h = absurd (cc)
    only (owned.Cell p n) h = absurd (cc)

pub test-child : (port child : Word) → IsTestFor (P.is_child port child) (owned.Child port child)
test-child port child =
    record { passes = and-true (bytes_eq port port) (bytes_eq child child) ((bytes_eq-Decides port port).1 refl) ((bytes_eq-Decides child child).1 refl); only = only }
  where
    only : (e : End) → P.is_child port child e ≡ true → e ≡ owned.Child port child
    only (owned.Own p) h = absurd (cc)
    only (owned.Child p c) h =
        let e = both (bytes_eq p port) (bytes_eq c child) h in
        ap (λ (w : Word). owned.Child w c) ((bytes_eq-Decides p port).0 e.0) ∙ ap (owned.Child port) ((bytes_eq-Decides c child).0 e.1)
    only (owned.Cell p n) h = absurd (cc)

pub test-cell : (port : Word) (cell : ℕ) → IsTestFor (P.is_cell port cell) (owned.Cell port cell)
test-cell port cell =
    record { passes = and-true (bytes_eq port port) (cell == cell) ((bytes_eq-Decides port port).1 refl) (same-number cell cell refl); only = only }
  where
    only : (e : End) → P.is_cell port cell e ≡ true → e ≡ owned.Cell port cell
    only (owned.Own p) h = absurd (cc)
    only (owned.Child p c) h = absurd (cc)
    only (owned.Cell p n) h =
        let e = both (bytes_eq p port) (n == cell) h in
        ap (λ (w : Word). owned.Cell w n) ((bytes_eq-Decides p port).0 e.0) ∙ ap (owned.Cell port) (one-number n cell e.1)

pub test-at : (a : At) (port : Word) → IsTestFor (is_end_at a port) (end_at a port)
test-at at.Own port = test-own port
test-at (at.Child child) port = test-child port child.now
test-at (at.Cell cell) port = test-cell port cell

-- ---- looking up

-- a test for one end fails at a place that differs from one where it passes
fails : (into : End → Bool) (x : End) (p q : Place) → IsTestFor into x → same p q ≡ false → into (end_of q) ≡ true → into (end_of p) ≡ false
fails into x p q t differ there = by (into (end_of p)) refl
  where
    by : (b : Bool) → into (end_of p) ≡ b → into (end_of p) ≡ false
    by false e = e
    by true e =
        let one : same p q ≡ true = same-end p q (t.only (end_of p) e ∙ sym (t.only (end_of q) there)) in
        absurd (cc)

abbrev pub list_of : Option (Vec ℕ Global) → List ℕ
list_of None = []
list_of (Some v) = v.items

pub looked-up : (into : End → Bool) (p : Place) (es : Kept) → IsTestFor into (end_of p) → list_of (lookup (same p) es) ≡ kept_at into es
looked-up into p [] t = refl
looked-up into p (e ∷ es) t = by (same p e.0) refl (into (end_of e.0)) refl (looked-up into p es t)
  where
    by : (b : Bool) → same p e.0 ≡ b → (d : Bool) → into (end_of e.0) ≡ d → list_of (lookup (same p) es) ≡ kept_at into es → list_of (lookup (same p) (e ∷ es)) ≡ kept_at into (e ∷ es)
    by true f true g rest = rw (f, g) refl
    by true f false g rest =
        let passes : into (end_of e.0) ≡ true = ap into (sym (one-end p e.0 f)) ∙ t.passes in
        absurd (cc)
    by false f true g rest =
        let one : same p e.0 ≡ true = same-end p e.0 (sym (t.only (end_of e.0) g)) in
        absurd (cc)
    by false f false g rest = rw (f, g) rest

-- ---- one node more

pub put-first : (into : End → Bool) (x : End) (p : Place) (v : Vec ℕ Global) (node : ℕ) (es : Kept) → IsTestFor into x → lookup (same p) es ≡ None → v.items ≡ node ∷ []
    → kept_at into (es ++ (p, v) ∷ []) ≡ kept_at into es ++ one_if (into (end_of p)) (Some node)
put-first into x p v node [] t none one = by (into (end_of p))
  where
    by : (b : Bool) → (if b then v.items else []) ≡ [] ++ one_if b (Some node)
    by true = one
    by false = refl
put-first into x p v node (e ∷ es) t none one = by (same p e.0) refl (into (end_of e.0)) refl (λ h. put-first into x p v node es t h one)
  where
    by : (b : Bool) → same p e.0 ≡ b → (d : Bool) → into (end_of e.0) ≡ d
        → (lookup (same p) es ≡ None → kept_at into (es ++ (p, v) ∷ []) ≡ kept_at into es ++ one_if (into (end_of p)) (Some node))
        → kept_at into ((e ∷ es) ++ (p, v) ∷ []) ≡ kept_at into (e ∷ es) ++ one_if (into (end_of p)) (Some node)
    by true f d g rest = absurd (let h = rw f at none in cc)
    by false f true g rest = rw (g, fails into x p e.0 t f g) (sym (append-nil e.1.items))
    by false f false g rest = rw g (rest (rw f at none))

pub put-more : (into : End → Bool) (x : End) (p : Place) (node : ℕ) (es : Kept) (i : ℕ) (old new : Vec ℕ Global) → IsTestFor into x
    → position_or_len (same p) (keys_of es) ≡ i → slice_get (values_of es) i ≡ Some old → new.items ≡ old.items ++ node ∷ []
    → kept_at into (set_value_at es i new) ≡ kept_at into es ++ one_if (into (end_of p)) (Some node)
put-more into x p node [] i old new t is there more = absurd (cc)
put-more into x p node (e ∷ es) i old new t is there more = by (same p e.0) refl (into (end_of e.0)) refl i is there (λ j h k. put-more into x p node es j old new t h k more)
  where
    by : (b : Bool) → same p e.0 ≡ b → (d : Bool) → into (end_of e.0) ≡ d → (i : ℕ) → position_or_len (same p) (keys_of (e ∷ es)) ≡ i → slice_get (values_of (e ∷ es)) i ≡ Some old
        → ((j : ℕ) → position_or_len (same p) (keys_of es) ≡ j → slice_get (values_of es) j ≡ Some old → kept_at into (set_value_at es j new) ≡ kept_at into es ++ one_if (into (end_of p)) (Some node))
        → kept_at into (set_value_at (e ∷ es) i new) ≡ kept_at into (e ∷ es) ++ one_if (into (end_of p)) (Some node)
    by true f d g zero is there rest = first d g
      where
        here : e.1 ≡ old
        here = cc

        first : (d : Bool) → into (end_of e.0) ≡ d → kept_at into (set_value_at (e ∷ es) zero new) ≡ kept_at into (e ∷ es) ++ one_if (into (end_of p)) (Some node)
        first true g = rw (g, ap into (one-end p e.0 f) ∙ g) (more ∙ ap (λ (v : Vec ℕ Global). v.items ++ node ∷ []) (sym here))
        first false g = rw (g, ap into (one-end p e.0 f) ∙ g) (sym (append-nil (kept_at into es)))
    by true f d g (suc i) is there rest = absurd (let h = rw f at is in cc)
    by false f d g zero is there rest = absurd (let h = rw f at is in omega (arith, h))
    by false f true g (suc i) is there rest = rw (g, fails into x p e.0 t f g) (sym (append-nil e.1.items))
    by false f false g (suc i) is there rest = rw g (rest i (let h = rw f at is in omega (arith, h)) there)

-- no value, where there is not some
pub none-from : {A : Type 0} (o : Option A) → is_some o ≡ false → o ≡ None
none-from None e = refl
none-from (Some x) e = absurd (cc)

-- the index that is found is the first
pub first-place : {A : Type 0} (q : A → Bool) (xs : List A) (i : ℕ) → position q xs ≡ Some i → position_or_len q xs ≡ i
first-place q xs i h = by (nat_lt (position_or_len q xs) (length xs)) refl
  where
    by : (b : Bool) → nat_lt (position_or_len q xs) (length xs) ≡ b → position_or_len q xs ≡ i
    by true e = let f = rw e at h in cc
    by false e = absurd (let f = rw e at h in cc)

-- ---- what links bring

pub bring : (ins : List Word) (ns : List Node) (a : Arrivals) (f : Link → List P.Source) (links : List Link) (ks : List ℕ) → AllGive ins ns ks (map f links) → Arrive links ks a → Brings ins ns a f links
bring ins ns a f links ks h arrive into x t =
    subst (λ (older : List ℕ). Join ins ns older (flat_map f (filter (λ (l : Link). into l.to) links))) (sym (arrive into x t)) (links-join ins ns into f links ks h)
