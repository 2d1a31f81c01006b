-- Loops over lists: what stands behind the place of a loop is still to be done.
use Rattle.std.proofs.Common.{◌≡◌, ℕ, ◌+◌, ◌<◌, ◌≤◌, Option, Some, None, List, [], ◌∷◌, ◌++◌, map, drop, length, get_or, refl, sym, ◌∙◌, ap, arith, append_assoc, append-nil}
use Rattle.std.specs.Prelude.{◌==◌}
use Rattle.std.specs.List.{filter, flat_map, enumerate_from}
use Rattle.std.proofs.lemmas.List.{drop_more, drop_all, map-append}
use Rattle.std.proofs.lemmas.List.Elements.{filter-append}
use Rattle.quantity.specs.declared.value.Value.{Value}
use Rattle.atomic_face.specs.declared.class.PortNo.{PortNo}
use Rattle.atomic_face.specs.Classes.{Bag}
use Rattle.quantity.specs.Times.{earlier}
use Rattle.run_model.specs.Cycle.{at_port}
use Rattle.served_tree.specs.Service.{StoppedLeaf, Kept, at_number, child_answer, next_of_children, stop_of_children}
use Rattle.served_tree.specs.Parts.{answer_of_both, or_else}

-- ---- any list that is made item by item

pub rest-at : {X : Type 0} (xs : List X) (i : ℕ) (d x : X) → i < length xs → x ≡ get_or xs i d
    → drop i xs ≡ x ∷ drop (i + 1) xs
rest-at xs i d x within is = drop_more xs i d within ∙ ap (λ y. y ∷ drop (i + 1) xs) (sym is)

-- one item was made, and put behind the others
pub further : {X Y : Type 0} (F G : List X → List Y) (xs : List X) (i : ℕ) (d x : X) → i < length xs
    → x ≡ get_or xs i d → (gives : List Y)
    → F (x ∷ drop (i + 1) xs) ≡ gives ++ G (drop (i + 1) xs)
    → (old new whole : List Y) → new ≡ old ++ gives → old ++ F (drop i xs) ≡ whole
    → new ++ G (drop (i + 1) xs) ≡ whole
further F G xs i d x within is gives step old new whole more so =
    ap (λ ys. ys ++ G (drop (i + 1) xs)) more
    ∙ append_assoc old gives (G (drop (i + 1) xs))
    ∙ ap (λ ys. old ++ ys) (sym step ∙ ap F (sym (rest-at xs i d x within is)))
    ∙ so

-- all items were made
pub all-made : {X Y : Type 0} (F : List X → List Y) (xs : List X) (i : ℕ) → length xs ≤ i → F [] ≡ []
    → (now whole : List Y) → now ++ F (drop i xs) ≡ whole → now ≡ whole
all-made F xs i all none now whole so =
    sym (append-nil now) ∙ ap (λ ys. now ++ ys) (sym (ap F (drop_all i xs all) ∙ none)) ∙ so

-- ---- values at a port, and at a number

pub port-first : (p : ℕ) (a b : List Value) → at_port (p, a ++ b) ≡ at_port (p, a) ++ at_port (p, b)
port-first p a b = map-append (λ (v : Value). (let o : PortNo = record { 0 = p } in o, v)) a b

-- the first before the others
pub number-first : (p n : ℕ) (x : PortNo × Value) (rest : Bag)
    → at_port (p, at_number (x ∷ rest) n)
    ≡ at_port (p, at_number (x ∷ []) n) ++ at_port (p, at_number rest n)
number-first p n x rest =
    ap (λ b. at_port (p, map (λ (o : PortNo × Value). o.1) b)) (filter-append (λ (o : PortNo × Value). o.0.0 == n) (x ∷ []) rest)
    ∙ ap (λ vs. at_port (p, vs)) (map-append (λ (o : PortNo × Value). o.1) (filter (λ (o : PortNo × Value). o.0.0 == n) (x ∷ [])) (filter (λ (o : PortNo × Value). o.0.0 == n) rest))
    ∙ port-first p (at_number (x ∷ []) n) (at_number rest n)

-- the first port before the others
pub rows-first : (i : ℕ) (vs : List Value) (rest : List (List Value))
    → flat_map at_port (enumerate_from i (vs ∷ rest))
    ≡ at_port (i, vs) ++ flat_map at_port (enumerate_from (i + 1) rest)
rows-first i vs rest = refl

-- ---- answers joined from the first on

least-assoc : (a b c : Option ℕ) → earlier (earlier a b) c ≡ earlier a (earlier b c)
least-assoc None b c = refl
least-assoc (Some a) None c = refl
least-assoc (Some a) (Some b) None = refl
least-assoc (Some a) (Some b) (Some c) = grind arith

else-assoc : (a b c : StoppedLeaf) → or_else (or_else a b) c ≡ or_else a (or_else b c)
else-assoc None b c = refl
else-assoc (Some a) b c = refl

-- the answer of these children
abbrev pub answer_of_these : List Kept → List ℕ → Option ℕ × StoppedLeaf
answer_of_these kept children = (next_of_children kept children, stop_of_children kept children)

first-of-more : (kept : List Kept) (n : ℕ) (ns : List ℕ)
    → stop_of_children kept (n ∷ ns) ≡ or_else (child_answer kept n).1 (stop_of_children kept ns)
first-of-more kept n ns = by (child_answer kept n).1
  where
    by : (s : StoppedLeaf) → elim s [ None ↦ stop_of_children kept ns | Some s ↦ Some s ] ≡ or_else s (stop_of_children kept ns)
    by None = refl
    by (Some s) = refl

pub answers-further : (kept : List Kept) (children : List ℕ) (i : ℕ) (d n : ℕ) (acc new whole : Option ℕ × StoppedLeaf)
    → i < length children → n ≡ get_or children i d → new ≡ answer_of_both acc (child_answer kept n)
    → answer_of_both acc (answer_of_these kept (drop i children)) ≡ whole
    → answer_of_both new (answer_of_these kept (drop (i + 1) children)) ≡ whole
answers-further kept children i d n acc new whole within is more so =
    let rest = drop (i + 1) children in
    let a = child_answer kept n in
    ap (λ x. answer_of_both x (answer_of_these kept rest)) more
    ∙ (λ k. (least-assoc acc.0 a.0 (next_of_children kept rest) k, else-assoc acc.1 a.1 (stop_of_children kept rest) k))
    ∙ (λ k. answer_of_both acc (earlier a.0 (next_of_children kept rest), sym (first-of-more kept n rest) k))
    ∙ ap (λ ns. answer_of_both acc (answer_of_these kept ns)) (sym (rest-at children i d n within is))
    ∙ so

pub answers-all : (kept : List Kept) (children : List ℕ) (i : ℕ) (acc whole : Option ℕ × StoppedLeaf)
    → length children ≤ i → answer_of_both acc (answer_of_these kept (drop i children)) ≡ whole → acc ≡ whole
answers-all kept children i acc whole all so =
    sym (none acc) ∙ ap (λ ns. answer_of_both acc (answer_of_these kept ns)) (sym (drop_all i children all)) ∙ so
  where
    least-none : (a : Option ℕ) → earlier a None ≡ a
    least-none None = refl
    least-none (Some a) = refl

    else-none : (a : StoppedLeaf) → or_else a None ≡ a
    else-none None = refl
    else-none (Some a) = refl

    none : (x : Option ℕ × StoppedLeaf) → answer_of_both x (None, None) ≡ x
    none x k = (least-none x.0 k, else-none x.1 k)
