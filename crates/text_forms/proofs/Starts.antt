-- How lines begin: letter, time and leaf.
use Rattle.std.proofs.Common.{◌≡◌, ◌≢◌, ℕ, zero, suc, ◌+◌, ◌-◌, ◌*◌, ◌<◌, Option, Some, None, List, [], ◌∷◌, ◌++◌, refl, sym, ap, ◌∙◌, subst, append_assoc, arith, lit<, length, map, take, drop, codes, decimal, slice_get}
use Rattle.std.specs.Prelude.{pos, Result, OnOk}
use Rattle.std.specs.List.{join_with_byte}
use Rattle.std.proofs.Math.Seq.{drop-append_seam}
use Rattle.std.proofs.lemmas.Fmt.{decimal_digit}
use Rattle.std.proofs.lemmas.List.{take_rest}
use Rattle.std.proofs.lemmas.Option.{slice_get_within}
use Rattle.quantity.specs.declared.place.Place.{Place}
use Rattle.quantity.specs.declared.value.Value.{Value}
use Rattle.quantity.specs.declared.value.Value.TheVariants.{Num}
use Rattle.quantity.specs.Bytes.{Bytes}
use Rattle.quantity.specs.Times.{time_text}
use Rattle.quantity.specs.ValueTexts.{text5}
use Rattle.rule_tree.specs.Meaning.{coordinates}
use Rattle.cell_grid.specs.Space.{Space, cell_count, dims_of, place_of}
use Rattle.model_leaves.specs.declared.leaves.CellAt.{CellAt}
use Rattle.model_leaves.specs.declared.table.Model.{Model}
use Rattle.model_tree.specs.Tree.{Group, Leaf, atomic_leaf, cell_leaf, groups}
use Rattle.model_leaves.specs.LeafTexts.{at_text}
use Rattle.model_leaves.specs.Models.{tree_of}
use Rattle.model_leaves.specs.Leaves.{IsAtCell, IsCellOf, IsLeafOf, no_settings}
use Rattle.text_forms.specs.declared.letter.Letter.{Letter}
use Rattle.text_forms.specs.Letters.{letter_byte}
use Rattle.text_forms.specs.Placed.{short_text}
use Rattle.text_forms.specs.Begun.{line_front, head_text, named_text, place_text, IsBeginning, IsNamed, IsOfGroup, IsStart, OfGroup}
use Rattle.text_forms.specs.declared.start.Begins.{Begins}
use Rattle.text_forms.specs.declared.start.Begins.TheVariants.{Nothing, Boxes, Cells}
use Rattle.text_forms.specs.declared.start.Start.{Start}
use Rattle.text_forms.proofs.Appended.{leaf_of}

-- ---- values of one digit

pub digit_text : (d : ℕ) → d < 10 → text5 (Num (pos (d * 100000))) ≡ (48 + d) ∷ codes ".00000"
digit_text zero h = ap (λ (x : Bytes). x ++ codes ".00000") (decimal_digit 0 (lit< tt))
digit_text (suc zero) h = ap (λ (x : Bytes). x ++ codes ".00000") (decimal_digit 1 (lit< tt))
digit_text (suc (suc zero)) h = ap (λ (x : Bytes). x ++ codes ".00000") (decimal_digit 2 (lit< tt))
digit_text (suc (suc (suc zero))) h = ap (λ (x : Bytes). x ++ codes ".00000") (decimal_digit 3 (lit< tt))
digit_text (suc (suc (suc (suc zero)))) h = ap (λ (x : Bytes). x ++ codes ".00000") (decimal_digit 4 (lit< tt))
digit_text (suc (suc (suc (suc (suc zero))))) h = ap (λ (x : Bytes). x ++ codes ".00000") (decimal_digit 5 (lit< tt))
digit_text (suc (suc (suc (suc (suc (suc zero)))))) h = ap (λ (x : Bytes). x ++ codes ".00000") (decimal_digit 6 (lit< tt))
digit_text (suc (suc (suc (suc (suc (suc (suc zero))))))) h = ap (λ (x : Bytes). x ++ codes ".00000") (decimal_digit 7 (lit< tt))
digit_text (suc (suc (suc (suc (suc (suc (suc (suc zero)))))))) h = ap (λ (x : Bytes). x ++ codes ".00000") (decimal_digit 8 (lit< tt))
digit_text (suc (suc (suc (suc (suc (suc (suc (suc (suc zero))))))))) h = ap (λ (x : Bytes). x ++ codes ".00000") (decimal_digit 9 (lit< tt))
digit_text (suc (suc (suc (suc (suc (suc (suc (suc (suc (suc n)))))))))) h = absurd (omega arith)

-- ---- the head of a cell's line

at_is : (s : Space) (p : Place) → at_text (take (dims_of s) (coordinates p)) ≡ 40 ∷ (join_with_byte 44 (map decimal (take (dims_of s) (coordinates p))) ++ codes ")")
at_is s p = by s.planes
  where
    by : (o : Option ℕ) → at_text (take (elim o [ None ↦ 2 | Some n ↦ 3 ]) (coordinates p)) ≡ 40 ∷ (join_with_byte 44 (map decimal (take (elim o [ None ↦ 2 | Some n ↦ 3 ]) (coordinates p))) ++ codes ")")
    by None = refl
    by (Some n) = refl

-- the coordinates of a cell in two dimensions
pub two_dims : (s : Space) (cell : ℕ) (p : Place) → dims_of s ≢ 3 → p ≡ place_of s cell → place_text s cell ≡ short_text p
unfolding place_text
two_dims s cell p not is = by s.planes not (place_of s cell) ∙ ap short_text (sym is)
  where
    by : (o : Option ℕ) → ◌≢◌ {A = ℕ} (elim o [ None ↦ 2 | Some n ↦ 3 ]) 3 → (q : Place) → join_with_byte 44 (map decimal (take (elim o [ None ↦ 2 | Some n ↦ 3 ]) (coordinates q))) ++ codes ") / " ≡ short_text q
    by None two q = append_assoc (decimal q.row) (44 ∷ decimal q.column) (codes ") / ")
    by (Some n) three q = absurd (three refl)

parts_joined : (old a t s name places : Bytes) → old ++ ((a ++ t ++ s) ++ name ++ codes "(") ++ (places ++ codes ") / ") ≡ old ++ (a ++ t ++ s ++ (name ++ 40 ∷ (places ++ codes ")")) ++ codes " / ")
parts_joined old a t s name places = simp append_assoc

group_head : (old : Bytes) (letter : Letter) (time first cell : ℕ) (g : Group)
    → old ++ (line_front letter time ++ g.name ++ codes "(") ++ place_text g.space cell ≡ old ++ head_text letter time (cell_leaf g first cell)
unfolding line_front place_text head_text
group_head old letter time first cell g =
    let p = place_of g.space cell in
    parts_joined old (letter_byte letter ∷ codes " / ") (time_text time) (codes " / ") g.name (join_with_byte 44 (map decimal (take (dims_of g.space) (coordinates p))))
    ∙ ap (λ (x : Bytes). old ++ ((letter_byte letter ∷ codes " / ") ++ time_text time ++ codes " / " ++ (g.name ++ x) ++ codes " / ")) (sym (at_is g.space p))

-- a cell as the table has it, where its group's name is kept
pub kept_head : (letter : Letter) (time : ℕ) (text short : Bytes) (gs : List Group) (c : CellAt) (l : Leaf) → IsAtCell gs (Some c) l → ((g : Group) → slice_get gs c.group ≡ Some g → text ≡ line_front letter time ++ g.name ++ codes "(") → place_text c.space.now c.cell ≡ short → text ++ short ≡ head_text letter time l
kept_head letter time text short gs c (atomic_leaf name class settings) h is p = absurd h
kept_head letter time text short gs c (cell_leaf g first n) h is p =
    let start = line_front letter time ++ g.name ++ codes "(" in
    ap (λ (x : Bytes). x ++ short) (is g h.group) ∙ ap (λ (x : Bytes). start ++ x) (sym p)
    ∙ ap (λ (s : Space). start ++ place_text s c.cell) h.space ∙ ap (λ (i : ℕ). start ++ place_text g.space i) h.cell
    ∙ group_head [] letter time first n g

-- the same, where it isn't
pub named_head : (letter : Letter) (time : ℕ) (gs : List Group) (c : CellAt) (l : Leaf) → IsAtCell gs (Some c) l → named_text letter time c ≡ head_text letter time l
named_head letter time gs c (atomic_leaf name class settings) h = absurd h
named_head letter time gs c (cell_leaf g first n) h =
    ap (λ (x : Bytes). (line_front letter time ++ x ++ codes "(") ++ place_text c.space.now c.cell) h.name
    ∙ kept_head letter time (line_front letter time ++ g.name ++ codes "(") (place_text c.space.now c.cell) gs c (cell_leaf g first n) h (λ k e. let same : g ≡ k = cell_same g k (sym h.group ∙ e) in ap (λ (j : Group). line_front letter time ++ j.name ++ codes "(") same) refl
  where
    cell_same : (g k : Group) → Some g ≡ Some k → g ≡ k
    cell_same g k e = cc

-- ---- a cell lies in the space of its group

pub cell_inside : (gs : List Group) (c : CellAt) (l : Leaf) → IsAtCell gs (Some c) l → c.cell < cell_count c.space.now
cell_inside gs c (atomic_leaf name class settings) h = absurd h
cell_inside gs c (cell_leaf g first n) h = subst (λ (s : Space). c.cell < cell_count s) (sym h.space) (subst (λ (i : ℕ). i < cell_count g.space) (sym h.cell) h.inside)

pub cell_named : (m : Model) (leaf : ℕ) (c : CellAt) → IsLeafOf m leaf → IsCellOf m leaf (Some c) → IsNamed m c
cell_named m leaf c there is = record {
  there =
      let l = leaf_of m leaf no_settings there in
      within (groups (tree_of m no_settings)) l.0 (is no_settings l.0 l.1);
  named = λ settings g e.
      let l = leaf_of m leaf settings there in
      name_of (groups (tree_of m settings)) g e l.0 (is settings l.0 l.1);
}
  where
    within : (gs : List Group) (l : Leaf) → IsAtCell gs (Some c) l → c.group < length gs
    within gs (atomic_leaf name class settings) h = absurd h
    within gs (cell_leaf g first n) h = slice_get_within gs c.group g h.group

    name_of : (gs : List Group) (g : Group) → slice_get gs c.group ≡ Some g → (l : Leaf) → IsAtCell gs (Some c) l → c.name.now ≡ g.name
    name_of gs g e (atomic_leaf name class settings) h = absurd h
    name_of gs g e (cell_leaf k first n) h = let same : k ≡ g = some_group k g (sym h.group ∙ e) in h.name ∙ ap (λ (j : Group). j.name) same
      where
        some_group : (k g : Group) → Some k ≡ Some g → k ≡ g
        some_group k g e = cc

-- ---- what was appended is what such lines begin with

pub begun_named : (old a name new1 new2 new3 : Bytes) → new1 ≡ old ++ a → new2 ≡ new1 ++ name → new3 ≡ new2 ++ codes "(" → new3 ≡ old ++ (a ++ name ++ codes "(")
begun_named old a name new1 new2 new3 p q r = r ∙ ap (λ x. x ++ codes "(") (q ∙ ap (λ x. x ++ name) p) ∙ again old a name
  where
    again : (old a name : Bytes) → ((old ++ a) ++ name) ++ codes "(" ≡ old ++ (a ++ name ++ codes "(")
    again old a name = simp append_assoc

-- what stands behind what was there is what was appended
pub appended_part : (now old new more : Bytes) (n : ℕ) → now ≡ new → n ≡ length old → new ≡ old ++ more → take (length now - n) (drop n now) ≡ more
appended_part now old new more n is e h =
    take_rest now n ∙ ap (λ (k : ℕ). drop k now) e ∙ ap (drop (length old)) (is ∙ h) ∙ drop-append_seam old more

-- ---- what is kept of a beginning

group_at : (gs : List Group) (k : ℕ) → k < length gs → (g : Group) × (slice_get gs k ≡ Some g)
group_at [] k h = absurd (omega arith)
group_at (g ∷ gs) zero h = (g, refl)
group_at (g ∷ gs) (suc k) h = group_at gs k (omega arith)

-- a beginning of a group's lines, as the start tells it
pub is_of_group : (m : Model) (s : Start) (time number : ℕ) → IsStart m s → s.of ≡ Cells time number → OfGroup m number (IsOfGroup s.letter time s.text)
unfolding IsStart
is_of_group m s time number right is = subst (λ (b : Begins). IsBeginning m s.letter b s.text) is right

-- the same, of a cell as the table has it
pub kept_named : (m : Model) (s : Start) (ms time : ℕ) (c : CellAt) → IsNamed m c → IsStart m s → s.of ≡ Cells ms c.group → ms ≡ time → s.text ≡ line_front s.letter time ++ c.name.now ++ codes "("
kept_named m s ms time c named right is e =
    let g = group_at (groups (tree_of m no_settings)) c.group named.there in
    is_of_group m s ms c.group right is no_settings g.0 g.1
    ∙ ap (λ (t : ℕ). line_front s.letter t ++ g.0.name ++ codes "(") e
    ∙ ap (λ (n : Bytes). line_front s.letter time ++ n ++ codes "(") (sym (named.named no_settings g.0 g.1))

-- nothing that is kept is right
pub nothing_begun : (m : Model) (s : Start) → s.of ≡ Nothing → IsStart m s
unfolding IsStart
nothing_begun m s is = subst (λ (b : Begins). IsBeginning m s.letter b s.text) (sym is) tt

-- a beginning of boxes' lines, as the start tells it
pub boxes_begun : (m : Model) (s : Start) (ms time : ℕ) → IsStart m s → s.of ≡ Boxes ms → ms ≡ time → s.text ≡ line_front s.letter time
unfolding IsStart
boxes_begun m s ms time right is e = subst (λ (b : Begins). IsBeginning m s.letter b s.text) is right ∙ ap (line_front s.letter) e

-- what is appended is the same text by another name
pub ok_appended : {A E : Type 0} (r : Result A E) (old new a b : Bytes) → OnOk r (new ≡ old ++ a) → a ≡ b → OnOk r (new ≡ old ++ b)
ok_appended r old new a b h e = subst (λ (x : Bytes). OnOk r (new ≡ old ++ x)) e h

pub then_more : (a b more text : Bytes) → b ≡ a ++ text → more ≡ text → b ≡ a ++ more
then_more a b more text h e = h ∙ ap (λ (x : Bytes). a ++ x) (sym e)

joined_twice : (a b c : Bytes) → (a ++ b) ++ c ≡ a ++ (b ++ c)
joined_twice a b c = append_assoc a b c

pub two_appended : (old new1 new2 a b : Bytes) → new1 ≡ old ++ a → new2 ≡ new1 ++ b → new2 ≡ old ++ (a ++ b)
two_appended old new1 new2 a b p q = q ∙ ap (λ x. x ++ b) p ∙ joined_twice old a b

pub cell_appended : (old new1 new2 new3 start place tail : Bytes) → new1 ≡ old ++ start → new2 ≡ new1 ++ place → new3 ≡ new2 ++ tail → new3 ≡ old ++ ((start ++ place) ++ tail)
cell_appended old new1 new2 new3 start place tail a b c =
    c ∙ ap (λ (x : Bytes). x ++ tail) (b ∙ ap (λ (x : Bytes). x ++ place) a) ∙ four_joined old start place tail
  where
    four_joined : (old a b c : Bytes) → ((old ++ a) ++ b) ++ c ≡ old ++ ((a ++ b) ++ c)
    four_joined old a b c = simp append_assoc

-- the same, where it was written as one
pub line_appended : (old new kept short tail head : Bytes) → new ≡ old ++ (kept ++ (short ++ tail)) → kept ++ short ≡ head → new ≡ old ++ (head ++ tail)
line_appended old new kept short tail head h k =
    h ∙ ap (λ (x : Bytes). old ++ x) (sym (append_assoc kept short tail)) ∙ ap (λ (x : Bytes). old ++ (x ++ tail)) k

-- what is right stays so where the text stays
pub start_same : (m : Model) (s : Start) (text : Bytes) → text ≡ s.text → IsStart m s → IsStart m (record { letter = s.letter; of = s.of; text = text })
unfolding IsStart
start_same m s text e right = subst (λ (x : Bytes). IsBeginning m s.letter s.of x) (sym e) right

-- what a box's line begins with, and what stands behind its name
pub box_line : (old new1 new2 head tail : Bytes) → new1 ≡ old ++ head → new2 ≡ new1 ++ tail → new2 ≡ old ++ (head ++ tail)
box_line old new1 new2 head tail a b = b ∙ ap (λ (x : Bytes). x ++ tail) a ∙ append_assoc old head tail

pub digit_ended : (old new : Bytes) (v : Value) (d : ℕ) → d < 10 → v ≡ Num (pos (d * 100000)) → new ≡ old ++ (48 + d) ∷ codes ".00000\n" → new ≡ old ++ (text5 v ++ codes "\n")
digit_ended old new v d small is h = h ∙ ap (λ (x : Bytes). old ++ (x ++ codes "\n")) (sym (digit_text d small) ∙ ap text5 (sym is))

-- a digit with five zeros is the text of its value
pub digit_is : (v : Value) (d : ℕ) → d < 10 → v ≡ Num (pos (d * 100000)) → (48 + d) ∷ codes ".00000" ≡ text5 v
digit_is v d small is = sym (digit_text d small) ∙ sym (ap text5 is)
