-- Lists in pieces, piece by piece.
use Rattle.std.proofs.Common.{◌≡◌, ◌+◌, ◌-◌, ◌<◌, ◌≤◌, ◌++◌, ℕ, zero, suc, Some, List, [], ◌∷◌, take, length, get_or, set, refl, sym, ap, ◌∙◌, arith, append_assoc, append-nil, length-append}
use Rattle.std.specs.Prelude.{Vec, slice_get}
use Rattle.std.specs.List.{remove}
use Rattle.std.specs.declared.alloc.Global.{Global}
use Rattle.std.proofs.lemmas.List.{take_more, take_all}
use Rattle.std.proofs.lemmas.List.Edits.{remove-append_left, remove-append_right}
use Rattle.tree_mail.specs.Joined.{items_of_pieces}

pub joined-behind : {T : Type 0} (ps : List (Vec T Global)) (p : Vec T Global)
    → items_of_pieces (ps ++ p ∷ []) ≡ items_of_pieces ps ++ p.items
joined-behind [] p = append-nil p.items
joined-behind (q ∷ ps) p =
    ap (λ xs. q.items ++ xs) (joined-behind ps p) ∙ sym (append_assoc q.items (items_of_pieces ps) p.items)

-- ---- an item more

pub put-behind : {T : Type 0} (ps : List (Vec T Global)) (k : ℕ) (p q : Vec T Global) (x : T)
    → suc k ≡ length ps → slice_get ps k ≡ Some p → q.items ≡ p.items ++ x ∷ []
    → items_of_pieces (set ps k q) ≡ items_of_pieces ps ++ x ∷ []
put-behind [] k p q x last here more = absurd (omega (arith, last))
put-behind (r ∷ []) zero p q x last here more =
    let same : r ≡ p = cc in
    append-nil q.items ∙ more ∙ ap (λ (v : Vec _ Global). v.items ++ x ∷ []) (sym same)
    ∙ ap (λ xs. xs ++ x ∷ []) (sym (append-nil r.items))
put-behind (r ∷ s ∷ rs) zero p q x last here more = absurd (omega (arith, last))
put-behind (r ∷ rs) (suc k) p q x last here more =
    ap (λ xs. r.items ++ xs) (put-behind rs k p q x (omega (arith, last)) here more)
    ∙ sym (append_assoc r.items (items_of_pieces rs) (x ∷ []))

-- a piece that moves and keeps its items
pub same-piece : {T : Type 0} (ps : List (Vec T Global)) (k : ℕ) (p q : Vec T Global)
    → slice_get ps k ≡ Some p → q.items ≡ p.items → items_of_pieces (set ps k q) ≡ items_of_pieces ps
same-piece [] k p q here same = refl
same-piece (r ∷ rs) zero p q here same =
    let there : r ≡ p = cc in
    ap (λ xs. xs ++ items_of_pieces rs) (same ∙ ap (λ (v : Vec _ Global). v.items) (sym there))
same-piece (r ∷ rs) (suc k) p q here same =
    ap (λ xs. r.items ++ xs) (same-piece rs k p q here same)

-- ---- an item less

get-left : {T : Type 0} (xs ys : List T) (i : ℕ) → i < length xs
    → slice_get (xs ++ ys) i ≡ slice_get xs i
get-left [] ys i lt = absurd (omega (arith, lt))
get-left (x ∷ xs) ys zero lt = refl
get-left (x ∷ xs) ys (suc i) lt = get-left xs ys i (omega (arith, lt))

get-right : {T : Type 0} (xs ys : List T) (i j : ℕ) → j ≡ length xs + i
    → slice_get (xs ++ ys) j ≡ slice_get ys i
get-right [] ys i j e = ap (slice_get ys) (let f : j ≡ i = omega (arith, e) in f)
get-right (x ∷ xs) ys i zero e = absurd (omega (arith, e))
get-right (x ∷ xs) ys i (suc j) e = get-right xs ys i j (omega (arith, e))

pub taken-is : {T : Type 0} (ps : List (Vec T Global)) (k i n : ℕ) (p : Vec T Global)
    → slice_get ps k ≡ Some p → i < length p.items → n ≡ length (items_of_pieces (take k ps)) + i
    → slice_get (items_of_pieces ps) n ≡ slice_get p.items i
taken-is [] k i n p here within is = absurd cc
taken-is (r ∷ rs) zero i n p here within is =
    let same : r ≡ p = cc in
    let lt : n < length r.items = rw same (omega (arith, within, is)) in
    get-left r.items (items_of_pieces rs) n lt
    ∙ ap (λ v. slice_get v.items n) same
    ∙ ap (slice_get p.items) (let f : n ≡ i = omega (arith, is) in f)
taken-is (r ∷ rs) (suc k) i n p here within is =
    let long = length-append r.items (items_of_pieces (take k rs)) in
    get-right r.items (items_of_pieces rs) (length (items_of_pieces (take k rs)) + i) n (omega (arith, is, long))
    ∙ taken-is rs k i (length (items_of_pieces (take k rs)) + i) p here within refl

pub left-is : {T : Type 0} (ps : List (Vec T Global)) (k i n : ℕ) (p q : Vec T Global)
    → slice_get ps k ≡ Some p → i < length p.items → n ≡ length (items_of_pieces (take k ps)) + i
    → q.items ≡ remove p.items i → items_of_pieces (set ps k q) ≡ remove (items_of_pieces ps) n
left-is [] k i n p q here within is less = absurd cc
left-is (r ∷ rs) zero i n p q here within is less =
    let same : r ≡ p = cc in
    let at : n ≡ i = omega (arith, is) in
    let lt : i < length r.items = rw same within in
    ap (λ xs. xs ++ items_of_pieces rs) (less ∙ ap (λ v. remove v.items i) (sym same))
    ∙ sym (remove-append_left r.items (items_of_pieces rs) i lt)
    ∙ ap (remove (r.items ++ items_of_pieces rs)) (sym at)
left-is (r ∷ rs) (suc k) i n p q here within is less =
    let long = length-append r.items (items_of_pieces (take k rs)) in
    let at : n - length r.items ≡ length (items_of_pieces (take k rs)) + i = omega (arith, is, long) in
    let from : length r.items ≤ n = omega (arith, is, long) in
    ap (λ xs. r.items ++ xs)
    (left-is rs k i (n - length r.items) p q here within at less)
    ∙ sym (remove-append_right r.items (items_of_pieces rs) (length r.items) n refl from)

-- ---- a piece less

pub piece-less : {T : Type 0} (ps : List (Vec T Global)) (k : ℕ) (p : Vec T Global)
    → slice_get ps k ≡ Some p → p.items ≡ [] → items_of_pieces (remove ps k) ≡ items_of_pieces ps
piece-less [] k p here none = absurd cc
piece-less (r ∷ rs) zero p here none =
    let same : r ≡ p = cc in
    ap (λ xs. xs ++ items_of_pieces rs) (sym (ap (λ v. v.items) same ∙ none))
piece-less (r ∷ rs) (suc k) p here none = ap (λ xs. r.items ++ xs) (piece-less rs k p here none)

-- ---- a piece further

pub further : {T : Type 0} (ps : List (Vec T Global)) (i n w : ℕ) (p : Vec T Global) → i < length ps
    → p ≡ get_or ps i p → n ≡ length (items_of_pieces (take i ps)) + w → length p.items ≤ w
    → n ≡ length (items_of_pieces (take (i + 1) ps)) + (w - length p.items)
further ps i n w p within is at past =
    let took : take (i + 1) ps ≡ take i ps ++ p ∷ [] = take_more ps i p within ∙ ap (λ x. take i ps ++ x ∷ []) (sym is) in
    let long : length (items_of_pieces (take (i + 1) ps)) ≡ length (items_of_pieces (take i ps)) + length p.items =
    ap (λ xs. length (items_of_pieces xs)) took ∙ ap length (joined-behind (take i ps) p) ∙ length-append (items_of_pieces (take i ps)) p.items in
    omega (arith, at, long, past)

pub all-past : {T : Type 0} (ps : List (Vec T Global)) (i n w : ℕ) → length ps ≤ i
    → n ≡ length (items_of_pieces (take i ps)) + w → length (items_of_pieces ps) ≤ n
all-past ps i n w past at =
    let all : length (items_of_pieces (take i ps)) ≡ length (items_of_pieces ps) = ap (λ xs. length (items_of_pieces xs)) (take_all i ps past) in
    omega (arith, at, all)
