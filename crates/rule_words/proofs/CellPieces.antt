-- Reading a cell piece by piece finds the cell up to the first closing parenthesis.
use Rattle.std.proofs.Common.{◌≡◌, Bool, true, false, cond, Option, Some, None, List, [], ◌∷◌, ◌++◌, refl, sym, ap, subst, ◌∙◌, ◌⊎◌, inl, inr, append_assoc}
use Rattle.std.specs.Prelude.{codes, ℤ, pos}
use Rattle.std.specs.Option.{option_map, option_or, option_and_then}
use Rattle.quantity.specs.Bytes.{Bytes}
use Rattle.quantity.specs.Digits.{whole_number, with_sign_of}
use Rattle.quantity.specs.Written.{for_some}
use Rattle.rule_words.specs.Tokens.{Token, number, mark, is_mark}
use Rattle.rule_tree.specs.Phrases.{Cell}
use Rattle.rule_words.specs.Grammar.{IsInt, IsNeighbour}
use Rattle.rule_words.specs.Reading.{Prefix, is_sign, port_in, places_in, cell_before}
use Rattle.rule_words.specs.Shown.{plane_of}
use Rattle.rule_words.specs.AtomParts.{after_mark}
use Rattle.rule_words.specs.CellParts.{int_before, next_int, plane_before, place_before, cell_in_pieces}
use Rattle.rule_words.proofs.Blocks.{Absent, absent_append, block_found, two_places, three_places}
use Rattle.rule_words.proofs.Sound.{none_some, mark_is, then_is, mapped, sign_cases, cell_is}

-- ---- what pieces are

pub on_is : {A B : Type 0} (o : Option A) (go : A → Option B) (y : B) → for_some o go ≡ Some y → (x : A) × (o ≡ Some x) × (go x ≡ Some y)
on_is None go y e = absurd (none_some e)
on_is (Some x) go y e = (x, refl, e)

pub after_is : (m : Bytes) (ts us : List Token) → after_mark m ts ≡ Some us → ts ≡ mark m ∷ us
after_is m [] us e = absurd (none_some e)
after_is m (t ∷ ts) us e =
    let p = then_is (is_mark m t) ts us e in
    ap (λ v. v ∷ ts) (mark_is m t p.0) ∙ ap (λ vs. mark m ∷ vs) p.1

-- a number at the front of tokens
pub record IntAt (ts : List Token) (i : ℤ) (rest : List Token) : Type 0 where
  pub are : List Token
  pub is_int : IsInt are i
  pub joined : ts ≡ are ++ rest

guarded : {A : Type 0} (b : Bool) (o : Option A) (x : A) → cond b o None ≡ Some x → (b ≡ true) × (o ≡ Some x)
guarded true o x e = (refl, e)
guarded false o x e = absurd (none_some e)

pair_same : {A B : Type 0} (a : A) (b : B) (p : A × B) → (a, b) ≡ p → (a ≡ p.0) × (b ≡ p.1)
pair_same {A} {B} a b p e = (ap (λ (q : A × B). q.0) e, ap (λ (q : A × B). q.1) e)

int_is : (ts : List Token) (p : ℤ × List Token) → int_before ts ≡ Some p → IntAt ts p.0 p.1
int_is (number text ∷ ts) p e =
    let m = mapped {B = ℤ × List Token} (λ n. (pos n, ts)) (whole_number 10 text) p e in
    let same = pair_same (pos m.0) ts p m.2 in
    record {
      are = number text ∷ [];
      is_int = subst (λ i. IsInt (number text ∷ []) i) same.0 (IsInt.bare m.1);
      joined = ap (λ us. number text ∷ us) same.1;
    }
int_is (mark s ∷ number text ∷ ts) p e = go (sign_cases s g.0)
  where
    g : (is_sign s ≡ true) × (option_map {U = ℤ × List Token} (λ n. (with_sign_of s (pos n), ts)) (whole_number 10 text) ≡ Some p)
    g = guarded (is_sign s) (option_map {U = ℤ × List Token} (λ n. (with_sign_of s (pos n), ts)) (whole_number 10 text)) p e

    go : (s ≡ codes "+") ⊎ (s ≡ codes "-") → IntAt (mark s ∷ number text ∷ ts) p.0 p.1
    go (inl h) =
        let m = mapped {B = ℤ × List Token} (λ n. (with_sign_of (codes "+") (pos n), ts)) (whole_number 10 text) p (subst (λ z. option_map {U = ℤ × List Token} (λ n. (with_sign_of z (pos n), ts)) (whole_number 10 text) ≡ Some p) h g.1) in
        let same = pair_same (pos m.0) ts p m.2 in
        record {
          are = mark (codes "+") ∷ number text ∷ [];
          is_int = subst (λ i. IsInt (mark (codes "+") ∷ number text ∷ []) i) same.0 (IsInt.plus m.1);
          joined = ap (λ z. mark z ∷ number text ∷ ts) h ∙ ap (λ us. mark (codes "+") ∷ number text ∷ us) same.1;
        }
    go (inr h) =
        let m = mapped {B = ℤ × List Token} (λ n. (with_sign_of (codes "-") (pos n), ts)) (whole_number 10 text) p (subst (λ z. option_map {U = ℤ × List Token} (λ n. (with_sign_of z (pos n), ts)) (whole_number 10 text) ≡ Some p) h g.1) in
        let same = pair_same (with_sign_of (codes "-") (pos m.0)) ts p m.2 in
        record {
          are = mark (codes "-") ∷ number text ∷ [];
          is_int = subst (λ i. IsInt (mark (codes "-") ∷ number text ∷ []) i) same.0 (IsInt.minus m.1);
          joined = ap (λ z. mark z ∷ number text ∷ ts) h ∙ ap (λ us. mark (codes "-") ∷ number text ∷ us) same.1;
        }
int_is ts p e = absurd (none_some e)

-- a number behind a comma
pub record NextAt (ts : List Token) (i : ℤ) (rest : List Token) : Type 0 where
  pub are : List Token
  pub is_int : IsInt are i
  pub joined : ts ≡ mark (codes ",") ∷ (are ++ rest)

next_is : (ts : List Token) (p : ℤ × List Token) → next_int ts ≡ Some p → NextAt ts p.0 p.1
next_is ts p e =
    let o = on_is (after_mark (codes ",") ts) int_before p e in
    let i = int_is o.0 p o.2 in
    record { are = i.are; is_int = i.is_int; joined = after_is (codes ",") ts o.0 o.1 ∙ ap (λ us. mark (codes ",") ∷ us) i.joined }

-- ---- from pieces to the cell

int_closes : (ts : List Token) (i : ℤ) → IsInt ts i → Absent (is_mark (codes ")")) ts
int_closes _ _ (IsInt.bare {text} e) = (refl, tt)
int_closes _ _ (IsInt.plus {text} e) = (refl, (refl, tt))
int_closes _ _ (IsInt.minus {text} e) = (refl, (refl, tt))

abbrev CellOf : Option (Bytes × List Token) → List ℤ → Option (Cell × List Token)
CellOf o is = option_map (λ p. (record { place = is; port = p.0 }, p.1)) o

-- the cell of tokens in parentheses
in_block : (inner rest : List Token) (is : List ℤ) → Absent (is_mark (codes ")")) inner → places_in inner ≡ Some is → cell_before (mark (codes "(") ∷ inner ++ mark (codes ")") ∷ rest) ≡ CellOf (port_in rest) is
in_block inner rest is none places =
    ap (option_and_then (λ (b : List Token × List Token). option_and_then (λ js. option_map (λ (q : Bytes × List Token). (record { place = js; port = q.0 }, q.1)) (port_in b.1)) (places_in b.0)))
    (block_found (mark (codes "(")) (mark (codes ")")) (codes "(") (codes ")") inner rest refl refl none)
    ∙ ap (option_and_then (λ js. option_map (λ (q : Bytes × List Token). (record { place = js; port = q.0 }, q.1)) (port_in rest))) places

two_in_block : (row column rest : List Token) (i j : ℤ) → IsInt row i → IsInt column j → cell_before (mark (codes "(") ∷ row ++ mark (codes ",") ∷ column ++ mark (codes ")") ∷ rest) ≡ CellOf (port_in rest) (i ∷ j ∷ [])
two_in_block row column rest i j r d =
    in_block (row ++ mark (codes ",") ∷ column) rest (i ∷ j ∷ [])
    (absent_append (is_mark (codes ")")) row (mark (codes ",") ∷ column) (int_closes row i r) (refl, int_closes column j d))
    (two_places row column i j r d)

three_in_block : (row column plane rest : List Token) (i j k : ℤ) → IsInt row i → IsInt column j → IsInt plane k → cell_before (mark (codes "(") ∷ row ++ mark (codes ",") ∷ column ++ mark (codes ",") ∷ plane ++ mark (codes ")") ∷ rest) ≡ CellOf (port_in rest) (i ∷ j ∷ k ∷ [])
three_in_block row column plane rest i j k r d f =
    in_block (row ++ mark (codes ",") ∷ column ++ mark (codes ",") ∷ plane) rest (i ∷ j ∷ k ∷ [])
    (absent_append (is_mark (codes ")")) (row ++ mark (codes ",") ∷ column) (mark (codes ",") ∷ plane)
    (absent_append (is_mark (codes ")")) row (mark (codes ",") ∷ column) (int_closes row i r) (refl, int_closes column j d)) (refl, int_closes plane k f))
    (ap places_in (append_assoc row (mark (codes ",") ∷ column) (mark (codes ",") ∷ plane)) ∙ three_places row column plane i j k r d f)

-- the third coordinate, where there is one, and the closing parenthesis
pub data PlaneAt : List Token → Option ℤ → List Token → Type 0 where
  flat : {rest : List Token} → PlaneAt (mark (codes ")") ∷ rest) None rest
  deep : {plane rest : List Token} {k : ℤ} → IsInt plane k → PlaneAt (mark (codes ",") ∷ (plane ++ mark (codes ")") ∷ rest)) (Some k) rest

with_plane : (row column ts rest : List Token) (i j : ℤ) (k : Option ℤ) → IsInt row i → IsInt column j → PlaneAt ts k rest → cell_before (mark (codes "(") ∷ (row ++ mark (codes ",") ∷ (column ++ ts))) ≡ CellOf (port_in rest) (i ∷ j ∷ plane_of k)
with_plane row column _ _ i j _ r d (PlaneAt.flat {rest}) =
    ap (λ us. cell_before (mark (codes "(") ∷ us)) (sym (append_assoc row (mark (codes ",") ∷ column) (mark (codes ")") ∷ rest)))
    ∙ two_in_block row column rest i j r d
with_plane row column _ _ i j _ r d (PlaneAt.deep {plane} {rest} {k} f) =
    ap (λ us. cell_before (mark (codes "(") ∷ us)) (sym (regrouped row column plane (mark (codes ")") ∷ rest)))
    ∙ three_in_block row column plane rest i j k r d f
  where
    regrouped : (row column plane rest : List Token) → (row ++ mark (codes ",") ∷ column ++ mark (codes ",") ∷ plane) ++ rest ≡ row ++ mark (codes ",") ∷ (column ++ mark (codes ",") ∷ (plane ++ rest))
    regrouped row column plane rest = simp append_assoc

abbrev no_plane : List Token → Option (Option ℤ × List Token)
no_plane ts = option_map (λ rest. (None, rest)) (after_mark (codes ")") ts)

abbrev a_plane : List Token → Option (Option ℤ × List Token)
a_plane ts = for_some (next_int ts) (λ k. option_map (λ rest. (Some k.0, rest)) (after_mark (codes ")") k.1))

plane_is : (ts : List Token) (p : Option ℤ × List Token) → plane_before ts ≡ Some p → PlaneAt ts p.0 p.1
plane_is ts p e = go (no_plane ts) refl e
  where
    at_none : (o : Option (Option ℤ × List Token)) → a_plane ts ≡ Some p → PlaneAt ts p.0 p.1
    at_none o h =
        let k = on_is (next_int ts) (λ k. option_map {U = Option ℤ × List Token} (λ rest. (Some k.0, rest)) (after_mark (codes ")") k.1)) p h in
        let n = next_is ts k.0 k.1 in
        let m = mapped {B = Option ℤ × List Token} (λ rest. (Some k.0.0, rest)) (after_mark (codes ")") k.0.1) p k.2 in
        let same : ts ≡ mark (codes ",") ∷ (n.are ++ mark (codes ")") ∷ m.0) = n.joined ∙ ap (λ us. mark (codes ",") ∷ (n.are ++ us)) (after_is (codes ")") k.0.1 m.0 m.1) in
        subst (λ us. PlaneAt us p.0 p.1) (sym same) (subst (λ (q : Option ℤ × List Token). PlaneAt (mark (codes ",") ∷ (n.are ++ mark (codes ")") ∷ m.0)) q.0 q.1) m.2 (PlaneAt.deep n.is_int))

    go : (o : Option (Option ℤ × List Token)) → no_plane ts ≡ o → option_or o (a_plane ts) ≡ Some p → PlaneAt ts p.0 p.1
    go None k h = at_none None h
    go (Some q) k h =
        let m = mapped {B = Option ℤ × List Token} (λ rest. (None, rest)) (after_mark (codes ")") ts) p (k ∙ h) in
        subst (λ us. PlaneAt us p.0 p.1) (sym (after_is (codes ")") ts m.0 m.1)) (subst (λ (q : Option ℤ × List Token). PlaneAt (mark (codes ")") ∷ m.0) q.0 q.1) m.2 PlaneAt.flat)

abbrev PieceCell : List ℤ × List Token → Option (Cell × List Token)
PieceCell p = CellOf (port_in p.1) p.0

forward : (ts : List Token) (p : List ℤ × List Token) → place_before ts ≡ Some p → cell_before ts ≡ PieceCell p
forward ts p e =
    let inner = on_is (after_mark (codes "(") ts) behind_open p e in
    let i = on_is (int_before inner.0) behind_row p inner.2 in
    let j = on_is (next_int i.0.1) (behind_column i.0.0) p i.2 in
    let k = mapped {B = List ℤ × List Token} (λ k. (i.0.0 ∷ j.0.0 ∷ plane_of k.0, k.1)) (plane_before j.0.1) p j.2 in
    let row = int_is inner.0 i.0 i.1 in
    let column = next_is i.0.1 j.0 j.1 in
    let plane = plane_is j.0.1 k.0 k.1 in
    ap cell_before (after_is (codes "(") ts inner.0 inner.1)
    ∙ ap (λ us. cell_before (mark (codes "(") ∷ us)) (row.joined ∙ ap (λ us. row.are ++ us) column.joined)
    ∙ with_plane row.are column.are j.0.1 k.0.1 i.0.0 j.0.0 k.0.0 row.is_int column.is_int plane
    ∙ ap PieceCell k.2
  where
    behind_column : ℤ → ℤ × List Token → Prefix (List ℤ)
    behind_column i j = option_map (λ k. (i ∷ j.0 ∷ plane_of k.0, k.1)) (plane_before j.1)

    behind_row : ℤ × List Token → Prefix (List ℤ)
    behind_row i = for_some (next_int i.1) (behind_column i.0)

    behind_open : List Token → Prefix (List ℤ)
    behind_open inner = for_some (int_before inner) behind_row

-- ---- from the cell to pieces

int_read : (us : List Token) (i : ℤ) → IsInt us i → (rest : List Token) → int_before (us ++ rest) ≡ Some (i, rest)
int_read _ _ (IsInt.bare {text} {n} e) rest = ap (option_map {U = ℤ × List Token} (λ n. (pos n, rest))) e
int_read _ _ (IsInt.plus {text} {n} e) rest = ap (option_map {U = ℤ × List Token} (λ n. (with_sign_of (codes "+") (pos n), rest))) e
int_read _ _ (IsInt.minus {text} {n} e) rest = ap (option_map {U = ℤ × List Token} (λ n. (with_sign_of (codes "-") (pos n), rest))) e

place_read : (row column after : List Token) (i j : ℤ) (k : Option ℤ × List Token) → IsInt row i → IsInt column j → plane_before after ≡ Some k → place_before (mark (codes "(") ∷ (row ++ mark (codes ",") ∷ (column ++ after))) ≡ Some (i ∷ j ∷ plane_of k.0, k.1)
place_read row column after i j k r d e =
    ap (λ o. for_some o (λ (x : ℤ × List Token). for_some (next_int x.1) (λ (y : ℤ × List Token). option_map {U = List ℤ × List Token} (λ z. (x.0 ∷ y.0 ∷ plane_of z.0, z.1)) (plane_before y.1)))) (int_read row i r (mark (codes ",") ∷ (column ++ after)))
    ∙ ap (λ o. for_some o (λ (y : ℤ × List Token). option_map {U = List ℤ × List Token} (λ z. (i ∷ y.0 ∷ plane_of z.0, z.1)) (plane_before y.1))) (int_read column j d after)
    ∙ ap (option_map {U = List ℤ × List Token} (λ z. (i ∷ j ∷ plane_of z.0, z.1))) e

plane_read : (plane rest : List Token) (k : ℤ) → IsInt plane k → plane_before (mark (codes ",") ∷ (plane ++ mark (codes ")") ∷ rest)) ≡ Some (Some k, rest)
plane_read plane rest k f =
    ap (λ o. for_some o (λ (x : ℤ × List Token). option_map {U = Option ℤ × List Token} (λ us. (Some x.0, us)) (after_mark (codes ")") x.1))) (int_read plane k f (mark (codes ")") ∷ rest))

abbrev HasPlace : List Token → Type 0
HasPlace ts = (p : List ℤ × List Token) × (place_before ts ≡ Some p)

cell_read : (us : List Token) (c : Cell) → IsNeighbour us c → (rest : List Token) → HasPlace (us ++ rest)
cell_read _ _ (IsNeighbour.flat {row} {column} {port} {i} {j} {p} r d h) rest =
    let same : (row ++ mark (codes ",") ∷ column ++ mark (codes ")") ∷ port) ++ rest ≡ row ++ mark (codes ",") ∷ (column ++ mark (codes ")") ∷ (port ++ rest)) = simp append_assoc in
    subst (λ us. HasPlace (mark (codes "(") ∷ us)) (sym same) (_, place_read row column (mark (codes ")") ∷ (port ++ rest)) i j (None, port ++ rest) r d refl)
cell_read _ _ (IsNeighbour.deep {row} {column} {plane} {port} {i} {j} {k} {p} r d f h) rest =
    let same : (row ++ mark (codes ",") ∷ column ++ mark (codes ",") ∷ plane ++ mark (codes ")") ∷ port) ++ rest ≡ row ++ mark (codes ",") ∷ (column ++ mark (codes ",") ∷ (plane ++ mark (codes ")") ∷ (port ++ rest))) = simp append_assoc in
    subst (λ us. HasPlace (mark (codes "(") ∷ us)) (sym same) (_, place_read row column (mark (codes ",") ∷ (plane ++ mark (codes ")") ∷ (port ++ rest))) i j (Some k, port ++ rest) r d (plane_read plane (port ++ rest) k f))

backward : (ts : List Token) (c : Cell × List Token) → cell_before ts ≡ Some c → HasPlace ts
backward ts c e =
    let k = cell_is ts c e in
    subst HasPlace (sym k.2) (cell_read k.0 c.0 k.1 c.1)

pub cells_same : (ts : List Token) → cell_before ts ≡ cell_in_pieces ts
cells_same ts = go (place_before ts) refl
  where
    none : place_before ts ≡ None → (c : Option (Cell × List Token)) → cell_before ts ≡ c → cell_before ts ≡ None
    none e None k = k
    none e (Some c) k = let r = backward ts c k in absurd (none_some (sym e ∙ r.1))

    go : (o : Option (List ℤ × List Token)) → place_before ts ≡ o → cell_before ts ≡ for_some o PieceCell
    go None e = none e (cell_before ts) refl
    go (Some p) e = forward ts p e

pub no_cell : (ts : List Token) → None ≡ place_before ts → None ≡ cell_before ts
no_cell ts e = ap (λ o. for_some o PieceCell) e ∙ sym (cells_same ts)

pub a_cell : (ts after rest : List Token) (place : List ℤ) (port : Bytes) → Some (place, after) ≡ place_before ts → Some (port, rest) ≡ port_in after → Some (record { place = place; port = port }, rest) ≡ cell_before ts
a_cell ts after rest place port e h =
    ap (λ o. CellOf o place) h ∙ ap (λ o. for_some o PieceCell) e ∙ sym (cells_same ts)
