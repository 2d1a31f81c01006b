-- What stands at ports, by their names and by their numbers.
use Rattle.std.proofs.Common.{◌≡◌, ℕ, zero, suc, ◌+◌, ◌<◌, Bool, true, false, cond, true≢false, not, ◌||◌, Some, None, List, [], ◌∷◌, ◌++◌, map, length, get_or, refl, sym, ◌∙◌, ap, arith, append-nil, rules, eq-eqb, ne_eqb, lt-ltb, le-ltb}
use Rattle.std.specs.Prelude.{slice_get, ◌==◌}
use Rattle.std.specs.List.{AllByRecursion, filter, flat_map, list_any, position, position_or_len, enumerate_from}
use Rattle.std.specs.Option.{option_map}
use Rattle.std.specs.Str.{bytes_eq}
use Rattle.std.proofs.lemmas.List.{map-append}
use Rattle.std.proofs.lemmas.List.Elements.{filter-append}
use Rattle.std.proofs.lemmas.List.Quantifiers.{position-Some}
use Rattle.std.proofs.lemmas.Option.{slice_get-get_or, slice_get-map}
use Rattle.std.proofs.lemmas.Slice.Eq.{bytes_eq-Decides}
use Rattle.quantity.specs.Bytes.{is_among}
use Rattle.quantity.specs.declared.value.Value.{Value}
use Rattle.atomic_face.specs.declared.class.PortNo.{PortNo}
use Rattle.atomic_face.specs.Classes.{Bag}
use Rattle.model_tree.specs.declared.link.End.{End}
use Rattle.model_tree.specs.declared.link.End.TheVariants.{Own, Child, Cell}
use Rattle.model_tree.specs.declared.link.Link.{Link}
use Rattle.model_tree.specs.Tree.{Word}
use Rattle.model_tree.specs.Pull.{is_own, at_source, what_links_bring}
use Rattle.run_model.specs.Cycle.{at_port, bag_of}
use Rattle.served_tree.specs.Service.{at_number, at_found, at_own}
use Rattle.served_tree.specs.Linked.{LeadsWithin, AreWithin}

pub same_word : (xs ys : Word) → bytes_eq xs ys ≡ true → xs ≡ ys
same_word xs ys e = search (rules, bytes_eq-Decides)

-- ---- by number

abbrev is_at : ℕ → PortNo × Value → Bool
is_at j o = o.0.0 == j

abbrev value_of : PortNo × Value → Value
value_of o = o.1

number-append : (xs ys : Bag) (j : ℕ) → at_number (xs ++ ys) j ≡ at_number xs j ++ at_number ys j
number-append xs ys j = ap (map value_of) (filter-append (is_at j) xs ys) ∙ map-append value_of (filter (is_at j) xs) (filter (is_at j) ys)

port-same : (k j : ℕ) (vs : List Value) → k ≡ j → at_number (at_port (k, vs)) j ≡ vs
port-same k j [] e = refl
port-same k j (v ∷ vs) e =
    (λ i. map value_of (cond (eq-eqb k j e i) ((record { 0 = k }, v) ∷ filter (is_at j) (at_port (k, vs))) (filter (is_at j) (at_port (k, vs)))))
    ∙ ap (λ l. v ∷ l) (port-same k j vs e)

port-other : (k j : ℕ) (vs : List Value) → (k ≡ j → ⊥) → at_number (at_port (k, vs)) j ≡ []
port-other k j [] ne = refl
port-other k j (v ∷ vs) ne =
    (λ i. map value_of (cond (ne_eqb k j ne i) ((record { 0 = k }, v) ∷ filter (is_at j) (at_port (k, vs))) (filter (is_at j) (at_port (k, vs)))))
    ∙ port-other k j vs ne

none-below : (k j : ℕ) (lists : List (List Value)) → j < k
    → at_number (flat_map at_port (enumerate_from k lists)) j ≡ []
none-below k j [] lt = refl
none-below k j (vs ∷ lists) lt =
    number-append (at_port (k, vs)) (flat_map at_port (enumerate_from (k + 1) lists)) j
    ∙ (λ i. port-other k j vs (λ e. omega (arith, e, lt)) i ++ none-below (k + 1) j lists (omega (arith, lt)) i)

number-at : (k i n : ℕ) (lists : List (List Value)) (vs : List Value) → n ≡ k + i
    → slice_get lists i ≡ Some vs → at_number (flat_map at_port (enumerate_from k lists)) n ≡ vs
number-at k i n [] vs is e = absurd cc
number-at k zero n (ws ∷ lists) vs is e =
    let same : ws ≡ vs = cc in
    number-append (at_port (k, ws)) (flat_map at_port (enumerate_from (k + 1) lists)) n
    ∙ (λ j. port-same k n ws (omega (arith, is)) j ++ none-below (k + 1) n lists (omega (arith, is)) j)
    ∙ append-nil ws ∙ same
number-at k (suc i) n (ws ∷ lists) vs is e =
    number-append (at_port (k, ws)) (flat_map at_port (enumerate_from (k + 1) lists)) n
    ∙ (λ j. port-other k n ws (λ f. omega (arith, f, is)) j ++ number-at (k + 1) i n lists vs (omega (arith, is)) e j)

-- ---- by name

first-cons : (test : Word → Bool) (x : Word) (xs : List Word) (b : Bool) → test x ≡ b
    → (list_any test xs ≡ true → position_or_len test xs < length xs)
    → (b || list_any test xs) ≡ true
    → cond (not b) (1 + position_or_len test xs) 0 < suc (length xs)
first-cons test x xs true is rest e = omega arith
first-cons test x xs false is rest e = let h = rest e in omega (arith, h)

first-within : (test : Word → Bool) (xs : List Word) → list_any test xs ≡ true
    → position_or_len test xs < length xs
first-within test [] e = absurd (true≢false (sym e))
first-within test (x ∷ xs) e = first-cons test x xs (test x) refl (first-within test xs) e

past-cons : (test : Word → Bool) (x : Word) (xs : List Word) (b : Bool) → test x ≡ b
    → (list_any test xs ≡ false → position_or_len test xs ≡ length xs)
    → (b || list_any test xs) ≡ false
    → cond (not b) (1 + position_or_len test xs) 0 ≡ suc (length xs)
past-cons test x xs true is rest e = absurd (true≢false e)
past-cons test x xs false is rest e = let h = rest e in omega (arith, h)

first-past : (test : Word → Bool) (xs : List Word) → list_any test xs ≡ false
    → position_or_len test xs ≡ length xs
first-past test [] e = refl
first-past test (x ∷ xs) e = past-cons test x xs (test x) refl (first-past test xs) e

place-found : (test : Word → Bool) (xs : List Word) → list_any test xs ≡ true
    → position test xs ≡ Some (position_or_len test xs)
place-found test xs e = ap (λ b. cond b (Some (position_or_len test xs)) None) (lt-ltb (position_or_len test xs) (length xs) (first-within test xs e))

pub place-none : (test : Word → Bool) (xs : List Word) → list_any test xs ≡ false
    → position test xs ≡ None
place-none test xs e = ap (λ b. cond b (Some (position_or_len test xs)) None) (le-ltb (position_or_len test xs) (length xs) (let p = first-past test xs e in omega (arith, p)))

-- at a port that is among these stands what stands at its name
pub at-own : (ins : List Word) (own : Word → List Value) (port : Word) → is_among ins port ≡ true
    → at_own ins (bag_of (map own ins)) port ≡ own port
at-own ins own port among =
    let i = position_or_len (bytes_eq port) ins in
    let found = place-found (bytes_eq port) ins among in
    let hit = position-Some (bytes_eq port) ins i [] found in
    let name : port ≡ get_or ins i [] = same_word port (get_or ins i []) hit.1 in
    ap (at_found (bag_of (map own ins))) found
    ∙ number-at 0 i i (map own ins) (own port) (omega arith)
    (slice_get-map own ins i
    ∙ ap (option_map own) (slice_get-get_or ins i [] hit.0)
    ∙ ap (λ w. Some (own w)) (sym name))

-- and at one that isn't, nothing
pub at-none : (ins : List Word) (bag : Bag) (port : Word) → is_among ins port ≡ false
    → at_own ins bag port ≡ []
at-none ins bag port among = ap (at_found bag) (place-none (bytes_eq port) ins among)

-- ---- what links bring

-- links that bring the same from each source bring the same
pub brought-same : {A : Type 0} (links : List Link) (into : End → Bool) (own own' : Word → List A) (child child' : Word → Word → List A) (cell cell' : ℕ → List A)
    → AllByRecursion (λ (l : Link). at_source l.from own child cell ≡ at_source l.from own' child' cell') links
    → what_links_bring links into own child cell ≡ what_links_bring links into own' child' cell'
brought-same [] into own own' child child' cell cell' h = refl
brought-same (l ∷ ls) into own own' child child' cell cell' h =
    by (into l.to) (brought-same ls into own own' child child' cell cell' h.1)
  where
    by : (b : Bool) → what_links_bring ls into own child cell ≡ what_links_bring ls into own' child' cell'
        → flat_map (λ (k : Link). at_source k.from own child cell) (cond b (l ∷ filter (λ (k : Link). into k.to) ls) (filter (λ (k : Link). into k.to) ls)) ≡ flat_map (λ (k : Link). at_source k.from own' child' cell') (cond b (l ∷ filter (λ (k : Link). into k.to) ls) (filter (λ (k : Link). into k.to) ls))
    by true rest = λ i. h.0 i ++ rest i
    by false rest = rest

-- where an own output isn't declared, no link leads to it
leads-elsewhere : (outs : List Word) (port : Word) (e : End) → LeadsWithin outs e
    → is_among outs port ≡ false → is_own port e ≡ false
leads-elsewhere outs port (Own p) h off = by (bytes_eq p port) refl
  where
    by : (b : Bool) → bytes_eq p port ≡ b → bytes_eq p port ≡ false
    by true is = absurd (true≢false (sym h ∙ ap (is_among outs) (same_word p port is) ∙ off))
    by false is = is
leads-elsewhere outs port (Child p c) h off = refl
leads-elsewhere outs port (Cell p n) h off = refl

pub none-leads : {A : Type 0} (ins outs : List Word) (count : ℕ) (links : List Link) (port : Word) (own : Word → List A) (child : Word → Word → List A) (cell : ℕ → List A)
    → AreWithin ins outs count links → is_among outs port ≡ false → what_links_bring links (is_own port) own child cell ≡ []
none-leads ins outs count [] port own child cell h off = refl
none-leads ins outs count (l ∷ ls) port own child cell h off =
    ap (λ b. flat_map (λ (k : Link). at_source k.from own child cell) (cond b (l ∷ filter (λ (k : Link). is_own port k.to) ls) (filter (λ (k : Link). is_own port k.to) ls))) (leads-elsewhere outs port l.to h.0.1 off)
    ∙ none-leads ins outs count ls port own child cell h.1 off
