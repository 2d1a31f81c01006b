-- Tables that grow.
use Rattle.std.proofs.Common.{◌≡◌, ℕ, ◌+◌, true, Some, List, [], ◌∷◌, ◌++◌, Vec, Global, map, length, take, drop, refl, sym, ap, ◌∙◌, append-nil, append_assoc, arith, subst, zero, suc}
use Rattle.std.specs.Prelude.{slice_get, nat_le}
use Rattle.std.proofs.lemmas.List.{map-append, length-append, take_at, drop_at}
use Rattle.std.proofs.lemmas.Bool.Decides.{nat_tests}
use Rattle.std.proofs.lemmas.List.FromFn.{map-range_with_len_more}
use Rattle.std.proofs.lemmas.List.Sums.{sum_by-cons, sum_by-append}
use Rattle.std.specs.List.{range_with_len}
use Rattle.model_tree.specs.declared.component.Component.{Component}
use Rattle.model_tree.specs.declared.group.CellGroup.{CellGroup}
use Rattle.model_leaves.specs.declared.table.Part.{Part}
use Rattle.model_leaves.specs.declared.table.Row.{Row}
use Rattle.model_tree.specs.Tree.{Word}
use Rattle.model_tree.specs.Pull.{cell_ports}
use Rattle.model_tree.specs.Stands.{group_of}
use Rattle.model_leaves.specs.Table.{Seat, cell_seat_of, seat_at, names_at, seat_of, seats, seats_from, groups_in}
use Rattle.model_leaves.specs.declared.growing.Growing.{Growing}
use Rattle.model_leaves.specs.Growing.{Shows, Grows, IsPartOf, seats_of_all, groups_in_all}

-- the same as `Shows` and `Grows`, over the lists
abbrev pub Shown : List Part → List Word → List Row → List Seat → Type 0
Shown ps ns rs ss = (parts : List Part) (names : List Word) → seats (ps ++ parts) (ns ++ names) rs ≡ map Some ss

pub slice_get-append : {A : Type 0} (xs ys : List A) (k : ℕ) (x : A) → slice_get xs k ≡ Some x → slice_get (xs ++ ys) k ≡ Some x
slice_get-append [] ys k x e = cc
slice_get-append (a ∷ xs) ys zero x e = e
slice_get-append (a ∷ xs) ys (suc k) x e = slice_get-append xs ys k x e

pub slice_get-last : {A : Type 0} (xs : List A) (x : A) → slice_get (xs ++ x ∷ []) (length xs) ≡ Some x
slice_get-last [] x = refl
slice_get-last (a ∷ xs) x = slice_get-last xs x

pub slice_get-next : {A : Type 0} (xs ys : List A) (x : A) (k : ℕ) → ys ≡ xs ++ x ∷ [] → k ≡ length xs → slice_get ys k ≡ Some x
slice_get-next xs ys x k e f = rw (e, f) (slice_get-last xs x)

fits-names : (xs ys zs : List Word) → nat_le (length xs + length ys) (length ((xs ++ ys) ++ zs)) ≡ true
fits-names xs ys zs = rw (length-append (xs ++ ys) zs, length-append xs ys) (grind (arith, nat_tests))

here-names : (xs ys zs : List Word) → take (length ys) (drop (length xs) ((xs ++ ys) ++ zs)) ≡ ys
here-names xs ys zs = rw (append_assoc xs ys zs, drop_at xs (ys ++ zs) (length xs) refl) (take_at ys zs (length ys) refl)

pub names-here : (xs ys zs : List Word) → names_at ((xs ++ ys) ++ zs) (length xs) (length ys) ≡ Some ys
names-here xs ys zs = rw (fits-names xs ys zs, here-names xs ys zs) refl

-- one more row, whose names stand behind the others
pub shown-row : (ps : List Part) (ns ms : List Word) (rs : List Row) (ss : List Seat) (p : Part) (part cell : ℕ) → slice_get ps part ≡ Some p → Shown ps ns rs ss → Shown ps (ns ++ ms) (rs ++ record { part = part; cell = cell; first_port = length ns; ports = length ms } ∷ []) (ss ++ seat_at p.at p.name cell ms ∷ [])
shown-row ps ns ms rs ss p part cell e old parts names =
    map-append (seat_of (ps ++ parts) ((ns ++ ms) ++ names)) rs _
    ∙ rw (slice_get-append ps parts part p e, names-here ns ms names, append_assoc ns ms names, old parts (ms ++ names)) (sym (map-append Some ss (seat_at p.at p.name cell ms ∷ [])))

-- one more part
pub shown-part : (ps : List Part) (p : Part) (ns : List Word) (rs : List Row) (ss : List Seat) → Shown ps ns rs ss → Shown (ps ++ p ∷ []) ns rs (ss ++ [])
shown-part ps p ns rs ss old parts names = rw (append_assoc ps (p ∷ []) parts, append-nil ss) (old (p ∷ parts) names)

-- ---- the same, as a step of the code has it

pub row-put : (ps qs : List Part) (ns ns' ms : List Word) (rs rs' : List Row) (r : Row) (ss : List Seat) (p : Part) → qs ≡ ps → ns' ≡ ns ++ ms → rs' ≡ rs ++ r ∷ [] → r.first_port ≡ length ns → r.ports ≡ length ms → slice_get ps r.part ≡ Some p → Shown ps ns rs ss → Shown qs ns' rs' (ss ++ seat_at p.at p.name r.cell ms ∷ [])
row-put ps qs ns ns' ms rs rs' r ss p a b d f g e old parts names =
    rw (a, b, d)
    (map-append (seat_of (ps ++ parts) ((ns ++ ms) ++ names)) rs (r ∷ [])
    ∙ rw (f, g, slice_get-append ps parts r.part p e, names-here ns ms names, append_assoc ns ms names, old parts (ms ++ names)) (sym (map-append Some ss (seat_at p.at p.name r.cell ms ∷ []))))

-- ---- tables that grow, one step after another

pub grown-on : (a b d : Growing) (ss ts : List Seat) → Grows a b ss → Grows b d ts → Grows a d (ss ++ ts)
grown-on a b d ss ts f g before old = subst (λ (xs : List Seat). Shows d xs) (append_assoc before ss ts) (g (before ++ ss) (f before old))

pub grown-none : (a : Growing) → Grows a a []
grown-none a before old = subst (λ (xs : List Seat). Shows a xs) (sym (append-nil before)) old

pub grown-as : (a b : Growing) (ss ts : List Seat) → ss ≡ ts → Grows a b ss → Grows a b ts
grown-as a b ss ts e = subst (λ (xs : List Seat). Grows a b xs) e

pub one-cell-more : (f : ℕ → Seat) (n : ℕ) (x : Seat) → x ≡ f n → map f (range_with_len 0 n) ++ x ∷ [] ≡ map f (range_with_len 0 (n + 1))
one-cell-more f n x e = rw e (sym (map-range_with_len_more f 0 n n (omega arith)))

-- the seats of a group, from its part
pub seats-of-group : (g : CellGroup) (number : ℕ) (p q : Part) (cells : List ℕ) → p ≡ q → IsPartOf g number q → map (λ n. seat_at p.at p.name n (cell_ports (group_of g) n)) cells ≡ map (cell_seat_of g number) cells
seats-of-group g number p q [] e h = refl
seats-of-group g number p q (n ∷ cells) e h = rw (seats-of-group g number p q cells e h, e, h n (cell_ports (group_of g) n)) refl

-- a part more shows nothing more
pub grown-part : (a : Growing) (qs : Vec Part Global) (p : Part) → qs.items ≡ a.parts.items ++ p ∷ [] → Grows a (record a { parts = qs }) []
grown-part a qs p e before old = rw e (shown-part a.parts.items p a.ports.items a.rows.items before old)

pub grown-same : (a : Growing) (qs : Vec Part Global) → qs.items ≡ a.parts.items → Grows a (record a { parts = qs }) []
grown-same a qs e before old more names = rw (e, append-nil before) (old more names)

-- ---- the seats of one more component
pub seats-more : (cs : List Component) (c : Component) (number : ℕ) → seats_of_all (cs ++ c ∷ []) number ≡ seats_of_all cs number ++ seats_from c (number + groups_in_all cs)
seats-more [] c number = append-nil (seats_from c number) ∙ ap (seats_from c) (omega arith)
seats-more (d ∷ cs) c number =
    rw (seats-more cs c (number + groups_in d), sum_by-cons groups_in d cs)
    (sym (append_assoc (seats_from d number) (seats_of_all cs (number + groups_in d)) _) ∙ ap (λ k. (seats_from d number ++ seats_of_all cs (number + groups_in d)) ++ seats_from c k) (omega arith))

pub groups-more : (cs : List Component) (c : Component) → groups_in_all (cs ++ c ∷ []) ≡ groups_in_all cs + groups_in c
groups-more cs c = sum_by-append groups_in cs (c ∷ []) ∙ ap (λ n. groups_in_all cs + n) (sum_by-cons groups_in c [] ∙ omega arith)

-- the table as it is
pub shown-whole : (t : Growing) (ss : List Seat) → Shows t ss → seats t.parts.items t.ports.items t.rows.items ≡ map Some ss
shown-whole t ss e = ap (λ (ps : List Part). seats ps t.ports.items t.rows.items) (sym (append-nil t.parts.items)) ∙ ap (λ (ns : List Word). seats (t.parts.items ++ []) ns t.rows.items) (sym (append-nil t.ports.items)) ∙ e [] []
