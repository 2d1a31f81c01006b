-- What stands at a node, from what stands at older ones; and its counts.
use Rattle.std.proofs.Common.{◌≡◌, ◌<◌, ◌≤◌, ◌+◌, ◌++◌, ℕ, Bool, true, false, List, [], ◌∷◌, map, take, drop, length, reverse, get_or, min, refl, sym, ap, ◌∙◌, arith, append_assoc, append-nil}
use Rattle.std.specs.Prelude.{◌==◌, ◌&&◌, nat_lt}
use Rattle.std.specs.List.{flat_map, sum_by, range_with_len}
use Rattle.std.proofs.lemmas.List.{length-append, length-reverse, length-take-le, reverse-append, take-append-drop, drop_more, take_more, get_or_past, nil_from_length}
use Rattle.std.proofs.lemmas.List.Concat.{flat_map-append}
use Rattle.std.proofs.lemmas.List.FromFn.{length-map-range_with_len, get_or-map-range_with_len, map-range_with_len_more}
use Rattle.std.proofs.lemmas.List.Sums.{sum_by-cons, sum_by-append}
use Rattle.std.proofs.lemmas.Bool.Decides.{nat_tests}
use Rattle.model_leaves.specs.declared.path.Source.{Source}
use Rattle.port_net.specs.declared.net.Node.{Node}
use Rattle.port_net.specs.declared.net.Node.TheVariants.{Given, Joins}
use Rattle.port_net.specs.Nodes.{at_node, stands, sources_at}
use Rattle.route_flat.specs.Counts.{sum_of, count_of, kept_count, AreCounts}

-- ---- over the nodes from the newest on

more : (ys older : List Node) (j : ℕ) → j < length older → stands (ys ++ older) j ≡ stands older j
more [] older j h = refl
more (y ∷ ys) older j h =
    let longer = length-append ys older in
    let other : (j == length (ys ++ older)) ≡ false = grind (arith, nat_tests) in
    rw other (more ys older j h)

past : (older : List Node) (j : ℕ) → length older ≤ j → stands older j ≡ []
past [] j h = refl
past (n ∷ older) j h =
    let other : (j == length older) ≡ false = grind (arith, nat_tests) in
    rw other (past older j (omega arith))

here : (ys older : List Node) (x : Node) → stands (ys ++ (x ∷ older)) (length older) ≡ at_node (stands older) x
here ys older x =
    let same : (length older == length older) ≡ true = grind (arith, nat_tests) in
    more ys (x ∷ older) (length older) (omega arith) ∙ rw same refl

-- ---- over the nodes in order

split-reverse : (ns : List Node) (k : ℕ) (x : Node) → k < length ns → x ≡ get_or ns k x → reverse ns ≡ reverse (drop (k + 1) ns) ++ (x ∷ reverse (take k ns))
split-reverse ns k x h e =
    let parts : ns ≡ take k ns ++ (x ∷ drop (k + 1) ns) =
    sym (take-append-drop k ns) ∙ ap (λ (xs : List Node). take k ns ++ xs) (drop_more ns k x h ∙ ap (λ (y : Node). y ∷ drop (k + 1) ns) (sym e)) in
    ap reverse parts ∙ reverse-append (take k ns) (x ∷ drop (k + 1) ns)
    ∙ ap (λ (t : List Node). t ++ reverse (take k ns)) (reverse-append (x ∷ []) (drop (k + 1) ns))
    ∙ append_assoc (reverse (drop (k + 1) ns)) (x ∷ []) (reverse (take k ns))

older-count : (ns : List Node) (k : ℕ) → k ≤ length ns → length (reverse (take k ns)) ≡ k
older-count ns k h = length-reverse (take k ns) ∙ length-take-le k ns h

-- what stands at a node is what stands at those that it joins
pub unfolded : (ns : List Node) (k : ℕ) (x : Node) → k < length ns → x ≡ get_or ns k x → sources_at ns k ≡ at_node (sources_at (take k ns)) x
unfolded ns k x h e =
    let count = older-count ns k (omega arith) in
    ap (λ (r : List Node). stands r k) (split-reverse ns k x h e)
    ∙ ap (stands (reverse (drop (k + 1) ns) ++ (x ∷ reverse (take k ns)))) (sym count)
    ∙ here (reverse (drop (k + 1) ns)) (reverse (take k ns)) x

pub older-same : (ns : List Node) (k j : ℕ) → j < k → k ≤ length ns → sources_at (take k ns) j ≡ sources_at ns j
older-same ns k j h l =
    let count = older-count ns k l in
    let parts : reverse ns ≡ reverse (drop k ns) ++ reverse (take k ns) = ap reverse (sym (take-append-drop k ns)) ∙ reverse-append (take k ns) (drop k ns) in
    sym (ap (λ (r : List Node). stands r j) parts ∙ more (reverse (drop k ns)) (reverse (take k ns)) j (omega (arith, count)))

pub none-past : (ns : List Node) (k j : ℕ) → k ≤ j → k ≤ length ns → sources_at (take k ns) j ≡ []
none-past ns k j h l = past (reverse (take k ns)) j (omega (arith, older-count ns k l))

pub none-beyond : (ns : List Node) (j : ℕ) → length ns ≤ j → sources_at ns j ≡ []
none-beyond ns j h = past (reverse ns) j (omega (arith, length-reverse ns))

-- ---- counts

pub sum-more : (ks counts : List ℕ) (i : ℕ) → i < length ks → min (sum_of (take i ks) counts + min (get_or counts (get_or ks i 0) 0) 65537) 65537 ≡ sum_of (take (i + 1) ks) counts
sum-more ks counts i h =
    let f = λ (k : ℕ). get_or counts k 0 in
    let whole : sum_by f (take (i + 1) ks) ≡ sum_by f (take i ks) + sum_by f (get_or ks i 0 ∷ []) =
    ap (sum_by f) (take_more ks i 0 h) ∙ sum_by-append f (take i ks) (get_or ks i 0 ∷ []) in
    let last : sum_by f (get_or ks i 0 ∷ []) ≡ f (get_or ks i 0) + sum_by f [] = sum_by-cons f (get_or ks i 0) [] in
    let none : sum_by f [] ≡ 0 = refl in
    omega (arith, whole, last, none)

capped : (F : ℕ → List Source) (g : ℕ → ℕ) (ks : List ℕ) → ((k : ℕ) → g k ≡ min (length (F k)) 65537) → min (sum_by g ks) 65537 ≡ min (length (flat_map F ks)) 65537
capped F g [] h = refl
capped F g (k ∷ ks) h =
    let rest = capped F g ks h in
    let sum = sum_by-cons g k ks in
    let both = length-append (F k) (flat_map F ks) in
    let first = h k in
    omega (arith, rest, sum, both, first)

before-at : (ns : List Node) (i k : ℕ) → i < length ns → get_or (map (kept_count ns) (range_with_len 0 i)) k 0 ≡ min (length (sources_at (take i ns) k)) 65537
before-at ns i k h = cases (nat_lt k i) refl
  where
    cases : (b : Bool) → nat_lt k i ≡ b → get_or (map (kept_count ns) (range_with_len 0 i)) k 0 ≡ min (length (sources_at (take i ns) k)) 65537
    cases true e =
        let within : k < i = grind (arith, nat_tests) in
        get_or-map-range_with_len (kept_count ns) 0 i k k 0 within (omega arith)
        ∙ ap (λ (xs : List Source). min (length xs) 65537) (sym (older-same ns i k within (omega arith)))
    cases false e =
        let beyond : i ≤ k = grind (arith, nat_tests) in
        get_or_past (map (kept_count ns) (range_with_len 0 i)) k 0 (rw (length-map-range_with_len (kept_count ns) 0 i) beyond)
        ∙ ap (λ (xs : List Source). min (length xs) 65537) (sym (none-past ns i k beyond (omega arith)))

count-here : (ns : List Node) (i : ℕ) (x : Node) → i < length ns → count_of x (map (kept_count ns) (range_with_len 0 i)) ≡ min (length (at_node (sources_at (take i ns)) x)) 65537
count-here ns i (Given s) h = refl
count-here ns i (Joins ks) h = capped (sources_at (take i ns)) (λ k. get_or (map (kept_count ns) (range_with_len 0 i)) k 0) ks.items (λ k. before-at ns i k h)

pub counts-more : (ns : List Node) (counts more : List ℕ) (i count : ℕ) (x : Node) → i < length ns → x ≡ get_or ns i x → counts ≡ map (kept_count ns) (range_with_len 0 i) → count ≡ count_of x counts → more ≡ counts ++ count ∷ [] → more ≡ map (kept_count ns) (range_with_len 0 (i + 1))
counts-more ns counts more i count x h e are is pushed =
    let value : count ≡ kept_count ns i =
    is ∙ ap (count_of x) are ∙ count-here ns i x h ∙ ap (λ (xs : List Source). min (length xs) 65537) (sym (unfolded ns i x h e)) in
    pushed ∙ rw (are, value) (sym (map-range_with_len_more (kept_count ns) 0 i i (omega arith)))

-- ---- what is not followed brings nothing

pub not-led : (ns : List Node) (counts : List ℕ) (node other : ℕ) → AreCounts ns counts → node < length ns → (nat_lt other node && nat_lt 0 (get_or counts other 0)) ≡ false → sources_at (take node ns) other ≡ []
not-led ns counts node other are within e = cases (nat_lt other node) refl
  where
    cases : (b : Bool) → nat_lt other node ≡ b → sources_at (take node ns) other ≡ []
    cases false f =
        let beyond : node ≤ other = grind (arith, nat_tests) in
        none-past ns node other beyond (omega arith)
    cases true f =
        let older : other < node = grind (arith, nat_tests) in
        let test : nat_lt 0 (get_or counts other 0) ≡ false = rw f at e in
        let none : get_or counts other 0 ≡ 0 = grind (arith, nat_tests) in
        let kept : get_or counts other 0 ≡ kept_count ns other =
        ap (λ (cs : List ℕ). get_or cs other 0) are ∙ get_or-map-range_with_len (kept_count ns) 0 (length ns) other other 0 (omega arith) (omega arith) in
        older-same ns node other older (omega arith) ∙ nil_from_length (sources_at ns other) (omega (arith, none, kept))

pub led : (ns : List Node) (counts : List ℕ) (node other : ℕ) → node < length ns → (nat_lt other node && nat_lt 0 (get_or counts other 0)) ≡ true → sources_at ns other ≡ sources_at (take node ns) other
led ns counts node other within e = cases (nat_lt other node) refl
  where
    cases : (b : Bool) → nat_lt other node ≡ b → sources_at ns other ≡ sources_at (take node ns) other
    cases false f = absurd (let h = rw f at e in cc)
    cases true f =
        let older : other < node = grind (arith, nat_tests) in
        sym (older-same ns node other older (omega arith))

-- ---- as the code has it

pub with-none : (xs l : List Source) → l ≡ [] → xs ≡ xs ++ l
with-none xs l e = rw e (sym (append-nil xs))

pub node-is : (ns : List Node) (k : ℕ) (x y : Node) → k < length ns → x ≡ get_or ns k x → x ≡ y → at_node (sources_at (take k ns)) y ≡ sources_at ns k
node-is ns k x y h e f = ap (at_node (sources_at (take k ns))) (sym f) ∙ sym (unfolded ns k x h e)

-- ---- the counts of some nodes are the counts of their lists, one behind another

kept-at : (ns : List Node) (counts : List ℕ) (k : ℕ) → AreCounts ns counts → get_or counts k 0 ≡ min (length (sources_at ns k)) 65537
kept-at ns counts k are = cases (nat_lt k (length ns)) refl
  where
    cases : (b : Bool) → nat_lt k (length ns) ≡ b → get_or counts k 0 ≡ min (length (sources_at ns k)) 65537
    cases true e =
        let within : k < length ns = grind (arith, nat_tests) in
        ap (λ (cs : List ℕ). get_or cs k 0) are ∙ get_or-map-range_with_len (kept_count ns) 0 (length ns) k k 0 within (omega arith)
    cases false e =
        let beyond : length ns ≤ k = grind (arith, nat_tests) in
        ap (λ (cs : List ℕ). get_or cs k 0) are
        ∙ get_or_past (map (kept_count ns) (range_with_len 0 (length ns))) k 0 (rw (length-map-range_with_len (kept_count ns) 0 (length ns)) beyond)
        ∙ ap (λ (xs : List Source). min (length xs) 65537) (sym (none-beyond ns k beyond))

pub kept-sum : (ns : List Node) (counts ports : List ℕ) → AreCounts ns counts → sum_of ports counts ≡ min (length (flat_map (sources_at ns) ports)) 65537
kept-sum ns counts ports are = capped (sources_at ns) (λ k. get_or counts k 0) ports (λ k. kept-at ns counts k are)

pub of-counts : (ns ms : List Node) (counts : List ℕ) → ns ≡ ms → AreCounts ns counts → AreCounts ms counts
of-counts ns ms counts e are = are ∙ ap (λ (xs : List Node). map (kept_count xs) (range_with_len 0 (length xs))) e

-- ---- one node more that is followed

pub followed-more : (F : ℕ → List Source) (ks : List ℕ) (i : ℕ) (old mid new : List Source) → i < length ks → mid ≡ old ++ flat_map F (take i ks) → new ≡ mid ++ F (get_or ks i 0) → new ≡ old ++ flat_map F (take (i + 1) ks)
followed-more F ks i old mid new h e f =
    let last : flat_map F (get_or ks i 0 ∷ []) ≡ F (get_or ks i 0) = append-nil (F (get_or ks i 0)) in
    f ∙ ap (λ (xs : List Source). xs ++ F (get_or ks i 0)) e ∙ append_assoc old (flat_map F (take i ks)) (F (get_or ks i 0))
    ∙ ap (λ (xs : List Source). old ++ xs)
    (sym (ap (flat_map F) (take_more ks i 0 h) ∙ flat_map-append F (take i ks) (get_or ks i 0 ∷ []) ∙ ap (λ (xs : List Source). flat_map F (take i ks) ++ xs) last))
