-- In an accepted model a leaf's name shows just where the leaf stands in a group.
use Rattle.std.proofs.Common.{◌≡◌, ℕ, zero, suc, ◌+◌, ◌-◌, ◌*◌, ◌/◌, ◌%◌, ◌≤◌, ◌<◌, Bool, true, false, cond, Option, Some, None, List, [], ◌∷◌, ◌++◌, length, map, take, refl, sym, ap, ◌∙◌, subst, arith, rules}
use Rattle.std.specs.Prelude.{⊤, ◌&&◌, ◌||◌, nat_le, nat_lt, slice_get}
use Rattle.std.specs.List.{AllByRecursion, range_with_len}
use Rattle.std.specs.Option.{option_or, option_to_list, unwrap_or}
use Rattle.std.specs.Str.{bytes_eq}
use Rattle.std.proofs.Math.Nat.{mod-lt, div-lt_iff_lt-mul}
use Rattle.std.proofs.lemmas.Nat.{div-add-mod'}
use Rattle.std.proofs.lemmas.List.{length-append}
use Rattle.std.proofs.lemmas.Bool.Decides.{nat_tests}
use Rattle.std.proofs.lemmas.Slice.Eq.{bytes_eq-Decides}
use Rattle.std.proofs.lemmas.List.Folds.{list_any-append}
use Rattle.quantity.specs.declared.value.Value.{Value}
use Rattle.quantity.specs.Bytes.{is_among, has_repeat}
use Rattle.rule_tree.specs.Meaning.{coordinates}
use Rattle.cell_grid.specs.declared.grid.Border.{Border}
use Rattle.cell_grid.specs.Space.{Space, cell_count, dims_of, place_of}
use Rattle.model_tree.specs.Tree.{Word, Group, Tree, Trees, coupled, cells, atomic, nil, cons, Leaf, atomic_leaf, cell_leaf, leaf_count, leaf_counts, leaves_from, all_leaves_from, leaves}
use Rattle.model_tree.specs.Sound.{totals, all_totals}
use Rattle.model_text.specs.Accepted.{ReadsSoundModels}
use Rattle.text_forms.specs.declared.letter.Letter.TheVariants.{Y}
use Rattle.text_forms.specs.LogLine.{given}
use Rattle.text_forms.specs.Lines.{leaf_name}
use Rattle.text_forms.specs.Frames.{ShownCell, shown_by, shown_at, shown_of, cell_of_coordinates}
use Rattle.answer_model.specs.RunFiles.{group_at}
use Rattle.answer_model.specs.AcceptedRuns.{GroupsAreNamed}
use Rattle.model_text.proofs.Keys.{same_bytes}
use Rattle.run_model.proofs.Basics.{true_false, none_some, some_same, both_false, both_hold}
use Rattle.answer_model.proofs.SoundParts.{sound_is}

-- ---- names that differ

differs_back : (a b : Word) → bytes_eq a b ≡ false → bytes_eq b a ≡ false
differs_back a b e = search (rules, bytes_eq-Decides)

among_parts : (xs ys : List Word) (n : Word) → is_among (xs ++ ys) n ≡ false → (is_among xs n ≡ false) × (is_among ys n ≡ false)
among_parts xs ys n e = both_false (is_among xs n) (is_among ys n) (sym (list_any-append (bytes_eq n) xs ys) ∙ e)

first_once : (xs ys : List Word) → has_repeat (xs ++ ys) ≡ false → has_repeat xs ≡ false
first_once [] ys e = refl
first_once (x ∷ xs) ys e =
    let p = both_false (is_among (xs ++ ys) x) (has_repeat (xs ++ ys)) e in
    ap (λ b. b || has_repeat xs) (among_parts xs ys x p.0).0 ∙ first_once xs ys p.1

last_once : (xs ys : List Word) → has_repeat (xs ++ ys) ≡ false → has_repeat ys ≡ false
last_once [] ys e = e
last_once (x ∷ xs) ys e = last_once xs ys (both_false (is_among (xs ++ ys) x) (has_repeat (xs ++ ys)) e).1

apart : (xs ys : List Word) (n : Word) → has_repeat (xs ++ ys) ≡ false → is_among xs n ≡ true → is_among ys n ≡ false
apart [] ys n e h = absurd (true_false (sym h))
apart (x ∷ xs) ys n e h =
    let p = both_false (is_among (xs ++ ys) x) (has_repeat (xs ++ ys)) e in
    go (λ k. apart xs ys n p.1 k) p.0 (bytes_eq n x) refl h
  where
    go : (is_among xs n ≡ true → is_among ys n ≡ false) → is_among (xs ++ ys) x ≡ false → (b : Bool) → bytes_eq n x ≡ b → (b || is_among xs n) ≡ true → is_among ys n ≡ false
    go later once true same k = (among_parts xs ys n (subst (λ w. is_among (xs ++ ys) w ≡ false) (sym (same_bytes n x same)) once)).1
    go later once false same k = later k

-- ---- a cell's coordinates lead back to it

above_zero : (n k c : ℕ) → c < k * n → 0 < n
above_zero zero k c h = absurd (none k c h)
  where
    none : (k c : ℕ) → c < k * 0 → ⊥
    none k c h = omega arith
above_zero (suc n) k c h = search (rules)

rebuilt : (c n : ℕ) → 0 < n → c / n * n + c % n ≡ c
rebuilt c n h = div-add-mod' c n

cell_back : (s : Space) (c : ℕ) → c < cell_count s → cell_of_coordinates s (take (dims_of s) (coordinates (place_of s c))) ≡ Some c
cell_back s c h = go s.rows s.columns s.planes s.border h
  where
    placed : (rows columns n : ℕ) → c < rows * columns * n → (0 < n) × (0 < columns) × (c / n / columns < rows) × (c / n % columns < columns) × (c / n / columns * columns + c / n % columns ≡ c / n)
    placed rows columns n h =
        let positive = above_zero n (rows * columns) c h in
        let inner : c / n < rows * columns = (div-lt_iff_lt-mul {k = n} {x = c} {y = rows * columns} positive).1 h in
        let wide = above_zero columns rows (c / n) inner in
        (positive, wide, (div-lt_iff_lt-mul {k = columns} {x = c / n} {y = rows} wide).1 inner, mod-lt (c / n) wide, rebuilt (c / n) columns wide)

    low : (a b : ℕ) → a < b → nat_lt a b ≡ true
    low a b h = grind (arith, nat_tests)

    three : (a b d : Bool) → a ≡ true → b ≡ true → d ≡ true → (a && b && d) ≡ true
    three a b d ha hb hd = rw (ha, hb, hd) refl

    chosen : {A : Type 0} (b : Bool) (x y : A) → b ≡ true → x ≡ y → cond b (Some x) None ≡ Some y
    chosen true x y h e = ap (λ z. Some z) e
    chosen false x y h e = absurd (true_false (sym h))

    go : (rows columns : ℕ) (o : Option ℕ) (b : Border) → c < rows * columns * unwrap_or o 1 → (let s : Space = record { rows = rows; columns = columns; planes = o; border = b } in cell_of_coordinates s (take (dims_of s) (coordinates (place_of s c))) ≡ Some c)
    go rows columns None b h =
        let p = placed rows columns 1 h in
        chosen (nat_lt (c / 1 / columns) rows && nat_lt (c / 1 % columns) columns && nat_lt 0 1) ((c / 1 / columns * columns + c / 1 % columns) * 1 + 0) c
        (three (nat_lt (c / 1 / columns) rows) (nat_lt (c / 1 % columns) columns) (nat_lt 0 1) (low (c / 1 / columns) rows p.2) (low (c / 1 % columns) columns p.3) refl)
        (ap (λ m. m * 1 + 0) p.4 ∙ one_plane)
      where
        one_plane : c / 1 * 1 + 0 ≡ c
        one_plane = omega arith
    go rows columns (Some n) b h =
        let p = placed rows columns n h in
        chosen (nat_lt (c / n / columns) rows && nat_lt (c / n % columns) columns && nat_lt (c % n) n) ((c / n / columns * columns + c / n % columns) * n + c % n) c
        (three (nat_lt (c / n / columns) rows) (nat_lt (c / n % columns) columns) (nat_lt (c % n) n) (low (c / n / columns) rows p.2) (low (c / n % columns) columns p.3) (low (c % n) n (mod-lt c p.0)))
        (ap (λ m. m * n + c % n) p.4 ∙ rebuilt c n p.0)

-- ---- what leaves show

-- a line of the leaf shows what its record shows
abbrev Shows : Space → Word → ℕ → ℕ → Leaf → Type 0
Shows s name f k l =
    (time port : ℕ) (w : Word) (v : Value)
    → shown_of s name (given Y time (leaf_name l) w v) ≡ Some (option_to_list (shown_by s f time (record { leaf = k; port = port; value = v })))

-- the leaves that are numbered from here on
abbrev AllShow : Space → Word → ℕ → ℕ → List Leaf → Type 0
AllShow s name f a [] = ⊤
AllShow s name f a (l ∷ ls) = Shows s name f a l × AllShow s name f (suc a) ls

show_at : (s : Space) (name : Word) (f a : ℕ) (ls : List Leaf) → AllShow s name f a ls → (k : ℕ) (l : Leaf) → slice_get ls k ≡ Some l → Shows s name f (a + k) l
show_at s name f a [] h k l e = absurd (none_some e)
show_at s name f a (x ∷ xs) h zero l e = subst (λ m. Shows s name f m l) (none a) (subst (Shows s name f a) (some_same x l e) h.0)
  where
    none : (a : ℕ) → a ≡ a + 0
    none a = omega arith
show_at s name f a (x ∷ xs) h (suc k) l e = subst (λ m. Shows s name f m l) (one_more a k) (show_at s name f (suc a) xs h.1 k l e)
  where
    one_more : (a k : ℕ) → suc a + k ≡ a + suc k
    one_more a k = omega arith

show_both : (s : Space) (name : Word) (f a : ℕ) (xs ys : List Leaf) → AllShow s name f a xs → AllShow s name f (a + length xs) ys → AllShow s name f a (xs ++ ys)
show_both s name f a [] ys h k = subst (λ m. AllShow s name f m ys) (none a) k
  where
    none : (a : ℕ) → a + 0 ≡ a
    none a = omega arith
show_both s name f a (x ∷ xs) ys h k = (h.0, show_both s name f (suc a) xs ys h.1 (subst (λ m. AllShow s name f m ys) (one_more a (length xs)) k))
  where
    one_more : (a n : ℕ) → a + suc n ≡ suc a + n
    one_more a n = omega arith

-- a leaf of another name shows nothing, outside the group's numbers
abbrev pub IsOther : Word → Leaf → Type 0
IsOther name l = bytes_eq (leaf_name l).name name ≡ false

other_shows : (s : Space) (name : Word) (f k : ℕ) (l : Leaf) → IsOther name l → (nat_le f k && nat_lt k (f + cell_count s)) ≡ false → Shows s name f k l
other_shows s name f k l other outside time port w v =
    ap (λ b. cond b (shown_at time v (cell_of_coordinates s (leaf_name l).at)) (Some [])) other
    ∙ sym (ap (λ b. let o : Option (List ShownCell) = Some (option_to_list (cond b (Some (record { time = time; cell = k - f; value = v })) None)) in o) outside)

others_before : (s : Space) (name : Word) (f a : ℕ) (ls : List Leaf) → AllByRecursion (IsOther name) ls → a + length ls ≤ f → AllShow s name f a ls
others_before s name f a [] h le = tt
others_before s name f a (l ∷ ls) h le = (other_shows s name f a l h.0 (outside (cell_count s) less), others_before s name f (suc a) ls h.1 (omega arith))
  where
    less : a < f
    less = omega arith

    outside : (n : ℕ) → a < f → (nat_le f a && nat_lt a (f + n)) ≡ false
    outside n lt = ap (λ b. b && nat_lt a (f + n)) (let no : nat_le f a ≡ false = search (rules, nat_tests) in no)

others_after : (s : Space) (name : Word) (f a : ℕ) (ls : List Leaf) → AllByRecursion (IsOther name) ls → f + cell_count s ≤ a → AllShow s name f a ls
others_after s name f a [] h le = tt
others_after s name f a (l ∷ ls) h le = (other_shows s name f a l h.0 (outside (cell_count s) le), others_after s name f (suc a) ls h.1 (omega arith))
  where
    outside : (n : ℕ) → f + n ≤ a → (nat_le f a && nat_lt a (f + n)) ≡ false
    outside n le = and_no (nat_le f a) (nat_lt a (f + n)) (let no : nat_lt a (f + n) ≡ false = search (rules, nat_tests) in no)
      where
        and_no : (p q : Bool) → q ≡ false → (p && q) ≡ false
        and_no true q e = e
        and_no false q e = refl

cell_shows : (g : Group) (name : Word) (f c : ℕ) → bytes_eq g.name name ≡ true → c < cell_count g.space → Shows g.space name f (f + c) (cell_leaf g f c)
cell_shows g name f c same below time port w v =
    ap (λ b. cond b (shown_at time v (cell_of_coordinates g.space (take (dims_of g.space) (coordinates (place_of g.space c))))) (Some [])) same
    ∙ ap (shown_at time v) (cell_back g.space c below)
    ∙ ap (λ n. let o : Option (List ShownCell) = Some (record { time = time; cell = n; value = v } ∷ []) in o) (back f c)
    ∙ sym (ap (λ b. let o : Option (List ShownCell) = Some (option_to_list (cond b (Some (record { time = time; cell = (f + c) - f; value = v })) None)) in o) (inside (cell_count g.space) below))
  where
    back : (f c : ℕ) → c ≡ (f + c) - f
    back f c = omega arith

    inside : (n : ℕ) → c < n → (nat_le f (f + c) && nat_lt (f + c) (f + n)) ≡ true
    inside n lt =
        let a : nat_le f (f + c) ≡ true = grind (arith, nat_tests) in
        let b : nat_lt (f + c) (f + n) ≡ true = grind (arith, nat_tests) in
        ap (λ x. x && nat_lt (f + c) (f + n)) a ∙ b

cells_show : (g : Group) (name : Word) (f c n : ℕ) → bytes_eq g.name name ≡ true → c + n ≤ cell_count g.space → AllShow g.space name f (f + c) (map (cell_leaf g f) (range_with_len c n))
cells_show g name f c zero same le = tt
cells_show g name f c (suc n) same le =
    (cell_shows g name f c same (omega arith), subst (λ m. AllShow g.space name f m (map (cell_leaf g f) (range_with_len (c + 1) n))) (one_more f c) (cells_show g name f (c + 1) n same (omega arith)))
  where
    one_more : (f c : ℕ) → f + (c + 1) ≡ suc (f + c)
    one_more f c = omega arith

-- ---- a group among the leaves of a tree

-- where a group with its first leaf stands, and what the leaves show of it
record Stands (name : Word) (p : ℕ × Group) (first count : ℕ) (ls : List Leaf) : Type 0 where
  pub after : first ≤ p.0
  pub within : p.0 + cell_count p.1.space ≤ first + count
  pub shows : AllShow p.1.space name p.0 first ls

pub none_found : (name : Word) (ls : List Leaf) → AllByRecursion (IsOther name) ls → group_at name ls ≡ None
none_found name [] h = refl
none_found name (atomic_leaf n class settings ∷ ls) h = none_found name ls h.1
none_found name (cell_leaf g f c ∷ ls) h = ap (λ b. cond b (Some (f, g)) (group_at name ls)) h.0 ∙ none_found name ls h.1

pub found_in : (name : Word) (xs ys : List Leaf) → group_at name (xs ++ ys) ≡ option_or (group_at name xs) (group_at name ys)
found_in name [] ys = refl
found_in name (atomic_leaf n class settings ∷ xs) ys = found_in name xs ys
found_in name (cell_leaf g f c ∷ xs) ys = go (bytes_eq g.name name) (found_in name xs ys)
  where
    go : (b : Bool) → group_at name (xs ++ ys) ≡ option_or (group_at name xs) (group_at name ys) → cond b (Some (f, g)) (group_at name (xs ++ ys)) ≡ option_or (cond b (Some (f, g)) (group_at name xs)) (group_at name ys)
    go true later = refl
    go false later = later

of_cells : (name : Word) (g : Group) (f a n : ℕ) (p : ℕ × Group) → group_at name (map (cell_leaf g f) (range_with_len a n)) ≡ Some p → (bytes_eq g.name name ≡ true) × ((f, g) ≡ p)
of_cells name g f a zero p e = absurd (none_some e)
of_cells name g f a (suc n) p e = go (λ h. of_cells name g f (a + 1) n p h) (bytes_eq g.name name) refl e
  where
    go : (group_at name (map (cell_leaf g f) (range_with_len (a + 1) n)) ≡ Some p → (bytes_eq g.name name ≡ true) × ((f, g) ≡ p)) → (b : Bool) → bytes_eq g.name name ≡ b → cond b (Some (f, g)) (group_at name (map (cell_leaf g f) (range_with_len (a + 1) n))) ≡ Some p → (bytes_eq g.name name ≡ true) × ((f, g) ≡ p)
    go later true same h = (same, some_same (f, g) p h)
    go later false same h = later h

pub other_cells : (name : Word) (g : Group) (f a n : ℕ) → bytes_eq g.name name ≡ false → AllByRecursion (IsOther name) (map (cell_leaf g f) (range_with_len a n))
other_cells name g f a zero h = tt
other_cells name g f a (suc n) h = (h, other_cells name g f (a + 1) n h)

one_name : (n name : Word) → is_among (n ∷ []) name ≡ false → bytes_eq n name ≡ false
one_name n name e = differs_back name n (both_false (bytes_eq name n) false e).0

mutual
  others : (t : Tree) (first : ℕ) (name : Word) → is_among (totals t).names name ≡ false → AllByRecursion (IsOther name) (leaves_from t first)
  others (coupled n ins outs children links) first name e = all_others children first name (both_false (bytes_eq name n) (is_among (all_totals children).names name) e).1
  others (cells g) first name e = other_cells name g first 0 (cell_count g.space) (one_name g.name name e)
  others (atomic n class settings) first name e = (one_name n name e, tt)

  all_others : (ts : Trees) (first : ℕ) (name : Word) → is_among (all_totals ts).names name ≡ false → AllByRecursion (IsOther name) (all_leaves_from ts first)
  all_others nil first name e = tt
  all_others (cons t ts) first name e =
      let p = among_parts (totals t).names (all_totals ts).names name e in
      both_hold (IsOther name) (leaves_from t first) (all_leaves_from ts (first + leaf_count t)) (others t first name p.0) (all_others ts (first + leaf_count t) name p.1)

range_long : (g : Group) (f a n : ℕ) → length (map (cell_leaf g f) (range_with_len a n)) ≡ n
range_long g f a zero = refl
range_long g f a (suc n) = ap suc (range_long g f (a + 1) n)

added : (a b c d : ℕ) → a ≡ b → c ≡ d → a + c ≡ b + d
added a b c d e f = omega arith

mutual
  long : (t : Tree) (first : ℕ) → length (leaves_from t first) ≡ leaf_count t
  long (coupled n ins outs children links) first = all_long children first
  long (cells g) first = range_long g first 0 (cell_count g.space)
  long (atomic n class settings) first = refl

  all_long : (ts : Trees) (first : ℕ) → length (all_leaves_from ts first) ≡ leaf_counts ts
  all_long nil first = refl
  all_long (cons t ts) first =
      length-append (leaves_from t first) (all_leaves_from ts (first + leaf_count t)) ∙ added (length (leaves_from t first)) (leaf_count t) (length (all_leaves_from ts (first + leaf_count t))) (leaf_counts ts) (long t first) (all_long ts (first + leaf_count t))

-- the leaves of two parts, of which one has the group
in_first : (name : Word) (p : ℕ × Group) (first m n : ℕ) (xs ys : List Leaf) → length xs ≡ m → Stands name p first m xs → AllByRecursion (IsOther name) ys → Stands name p first (m + n) (xs ++ ys)
in_first name p first m n xs ys e h others = record {
  after = h.after;
  within = more (p.0 + cell_count p.1.space) h.within;
  shows = show_both p.1.space name p.0 first xs ys h.shows (others_after p.1.space name p.0 (first + length xs) ys others (subst (λ k. p.0 + cell_count p.1.space ≤ first + k) (sym e) h.within));
}
  where
    more : (a : ℕ) → a ≤ first + m → a ≤ first + (m + n)
    more a le = omega arith

in_last : (name : Word) (p : ℕ × Group) (first m n : ℕ) (xs ys : List Leaf) → length xs ≡ m → AllByRecursion (IsOther name) xs → Stands name p (first + m) n ys → Stands name p first (m + n) (xs ++ ys)
in_last name p first m n xs ys e others h = record {
  after = early p.0 h.after;
  within = more (p.0 + cell_count p.1.space) h.within;
  shows = show_both p.1.space name p.0 first xs ys (others_before p.1.space name p.0 first xs others (subst (λ k. first + k ≤ p.0) (sym e) h.after)) (subst (λ k. AllShow p.1.space name p.0 (first + k) ys) (sym e) h.shows);
}
  where
    early : (a : ℕ) → first + m ≤ a → first ≤ a
    early a le = omega arith

    more : (a : ℕ) → a ≤ first + m + n → a ≤ first + (m + n)
    more a le = omega arith

group_stands : (name : Word) (g : Group) (first : ℕ) (p : ℕ × Group) → group_at name (map (cell_leaf g first) (range_with_len 0 (cell_count g.space))) ≡ Some p → Stands name p first (cell_count g.space) (map (cell_leaf g first) (range_with_len 0 (cell_count g.space)))
group_stands name g first p e =
    let q = of_cells name g first 0 (cell_count g.space) p e in
    let shows = cells_show g name first 0 (cell_count g.space) q.0 (none (cell_count g.space)) in
    let here : Stands name (first, g) first (cell_count g.space) (map (cell_leaf g first) (range_with_len 0 (cell_count g.space))) = record {
      after = same first;
      within = same (first + cell_count g.space);
      shows = subst (λ k. AllShow g.space name first k (map (cell_leaf g first) (range_with_len 0 (cell_count g.space)))) (zero_more first) shows;
    } in
    subst (λ r. Stands name r first (cell_count g.space) (map (cell_leaf g first) (range_with_len 0 (cell_count g.space)))) q.1 here
  where
    none : (n : ℕ) → 0 + n ≤ n
    none n = omega arith

    same : (n : ℕ) → n ≤ n
    same n = omega arith

    zero_more : (n : ℕ) → n + 0 ≡ n
    zero_more n = omega arith

either : (o q : Option (ℕ × Group)) (p : ℕ × Group) → option_or o q ≡ Some p → q ≡ None → o ≡ Some p
either None q p e n = absurd (none_some (sym n ∙ e))
either (Some x) q p e n = e

-- the group stands in the first tree or in the others
joined_stand : (t : Tree) (ts : Trees) (first : ℕ) (name : Word) (p : ℕ × Group) → has_repeat ((totals t).names ++ (all_totals ts).names) ≡ false → group_at name (leaves_from t first ++ all_leaves_from ts (first + leaf_count t)) ≡ Some p
    → (group_at name (leaves_from t first) ≡ Some p → Stands name p first (leaf_count t) (leaves_from t first))
    → (group_at name (all_leaves_from ts (first + leaf_count t)) ≡ Some p → Stands name p (first + leaf_count t) (leaf_counts ts) (all_leaves_from ts (first + leaf_count t)))
    → Stands name p first (leaf_count t + leaf_counts ts) (leaves_from t first ++ all_leaves_from ts (first + leaf_count t))
joined_stand t ts first name p once e here there = go (is_among (totals t).names name) refl
  where
    xs : List Leaf
    xs = leaves_from t first

    ys : List Leaf
    ys = all_leaves_from ts (first + leaf_count t)

    go : (b : Bool) → is_among (totals t).names name ≡ b → Stands name p first (leaf_count t + leaf_counts ts) (xs ++ ys)
    go true same =
        let rest = all_others ts (first + leaf_count t) name (apart (totals t).names (all_totals ts).names name once same) in
        in_first name p first (leaf_count t) (leaf_counts ts) xs ys (long t first) (here (either (group_at name xs) (group_at name ys) p (sym (found_in name xs ys) ∙ e) (none_found name ys rest))) rest
    go false same =
        let before = others t first name same in
        let found : group_at name ys ≡ Some p = sym (found_in name xs ys ∙ ap (λ o. option_or o (group_at name ys)) (none_found name xs before)) ∙ e in
        in_last name p first (leaf_count t) (leaf_counts ts) xs ys (long t first) before (there found)

mutual
  stands : (t : Tree) (first : ℕ) (name : Word) (p : ℕ × Group) → has_repeat (totals t).names ≡ false → group_at name (leaves_from t first) ≡ Some p → Stands name p first (leaf_count t) (leaves_from t first)
  stands (coupled n ins outs children links) first name p once e = all_stand children first name p (both_false (is_among (all_totals children).names n) (has_repeat (all_totals children).names) once).1 e
  stands (cells g) first name p once e = group_stands name g first p e
  stands (atomic n class settings) first name p once e = absurd (none_some e)

  all_stand : (ts : Trees) (first : ℕ) (name : Word) (p : ℕ × Group) → has_repeat (all_totals ts).names ≡ false → group_at name (all_leaves_from ts first) ≡ Some p → Stands name p first (leaf_counts ts) (all_leaves_from ts first)
  all_stand nil first name p once e = absurd (none_some e)
  all_stand (cons t ts) first name p once e =
      joined_stand t ts first name p once e (λ h. stands t first name p (first_once (totals t).names (all_totals ts).names once) h) (λ h. all_stand ts (first + leaf_count t) name p (last_once (totals t).names (all_totals ts).names once) h)

pub groups_are_named : ReadsSoundModels → GroupsAreNamed
groups_are_named sound bytes files classes drawing t e name g found k l time port w v at =
    let s = stands t 0 name g (sound_is t (sound bytes files classes drawing t e)).names found in
    subst (λ m. Shows g.1.space name g.0 m l) (from_zero k) (show_at g.1.space name g.0 0 (leaves t) s.shows k l at) time port w v
  where
    from_zero : (k : ℕ) → 0 + k ≡ k
    from_zero k = omega arith
