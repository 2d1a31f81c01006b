-- Blocks and cells are read from the tokens that they are.
use Rattle.std.proofs.Common.{◌≡◌, ◌+◌, Bool, true, false, cond, Option, Some, List, [], ◌∷◌, ◌++◌, map, take, drop, refl, ap, ◌∙◌, append_assoc}
use Rattle.std.specs.Prelude.{codes, ℤ, pos, ◌&&◌, ◌||◌, not}
use Rattle.std.specs.List.{AllByRecursion, before_first, after_first, position_or_len, slice_split}
use Rattle.std.specs.Option.{option_map, option_and_then}
use Rattle.std.specs.Bool.{then_some}
use Rattle.quantity.specs.Bytes.{Bytes, all_there}
use Rattle.quantity.specs.Digits.{with_sign_of, has_length}
use Rattle.rule_words.specs.Tokens.{Token, number, mark, is_mark}
use Rattle.rule_tree.specs.Phrases.{Cell, out}
use Rattle.rule_words.specs.Grammar.{IsInt, IsPort, IsNeighbour}
use Rattle.rule_words.specs.Reading.{has, block, int_in, port_in, places_in, cell_before}
use Rattle.rule_words.proofs.Sound.{take_more, drop_more}

-- ---- up to the first token of a kind

abbrev pub Absent : (Token → Bool) → List Token → Type 0
Absent p ts = AllByRecursion (λ t. p t ≡ false) ts

pub absent_append : (p : Token → Bool) (xs ys : List Token) → Absent p xs → Absent p ys → Absent p (xs ++ ys)
absent_append p [] ys h k = k
absent_append p (x ∷ xs) ys h k = (h.0, absent_append p xs ys h.1 k)

pub before_absent : (p : Token → Bool) (xs : List Token) (y : Token) (ys : List Token) → Absent p xs → p y ≡ true → before_first p (xs ++ y ∷ ys) ≡ xs
before_absent p [] y ys h e = ap (λ b. take (cond (not b) (1 + position_or_len p ys) 0) (y ∷ ys)) e
before_absent p (x ∷ xs) y ys h e =
    ap (λ b. take (cond (not b) (1 + position_or_len p (xs ++ y ∷ ys)) 0) (x ∷ (xs ++ y ∷ ys))) h.0
    ∙ take_more (position_or_len p (xs ++ y ∷ ys)) x (xs ++ y ∷ ys) ∙ ap (λ zs. x ∷ zs) (before_absent p xs y ys h.1 e)

pub after_absent : (p : Token → Bool) (xs : List Token) (y : Token) (ys : List Token) → Absent p xs → p y ≡ true → after_first p (xs ++ y ∷ ys) ≡ ys
after_absent p [] y ys h e = ap (λ b. drop (cond (not b) (1 + position_or_len p ys) 0 + 1) (y ∷ ys)) e
after_absent p (x ∷ xs) y ys h e =
    ap (λ b. drop (cond (not b) (1 + position_or_len p (xs ++ y ∷ ys)) 0 + 1) (x ∷ (xs ++ y ∷ ys))) h.0
    ∙ drop_more (position_or_len p (xs ++ y ∷ ys)) x (xs ++ y ∷ ys) ∙ after_absent p xs y ys h.1 e

has_it : (text : Bytes) (xs : List Token) (y : Token) (ys : List Token) → is_mark text y ≡ true → has text (xs ++ y ∷ ys) ≡ true
has_it text [] y ys e = ap (λ b. b || has text ys) e
has_it text (x ∷ xs) y ys e = ap (λ b. is_mark text x || b) (has_it text xs y ys e) ∙ or_true (is_mark text x)
  where
    or_true : (b : Bool) → (b || true) ≡ true
    or_true true = refl
    or_true false = refl

pub block_found : (opening closing : Token) (a b : Bytes) (inner rest : List Token) → is_mark a opening ≡ true → is_mark b closing ≡ true → Absent (is_mark b) inner → block a b (opening ∷ inner ++ closing ∷ rest) ≡ Some (inner, rest)
block_found opening closing a b inner rest is_open is_close none =
    ap (λ c. then_some (c && has b (inner ++ closing ∷ rest)) (before_first (is_mark b) (inner ++ closing ∷ rest), after_first (is_mark b) (inner ++ closing ∷ rest))) is_open
    ∙ ap (λ c. then_some c (before_first (is_mark b) (inner ++ closing ∷ rest), after_first (is_mark b) (inner ++ closing ∷ rest))) (has_it b inner closing rest is_close)
    ∙ ap (λ x. Some (x, after_first (is_mark b) (inner ++ closing ∷ rest))) (before_absent (is_mark b) inner closing rest none is_close)
    ∙ ap (λ x. Some (inner, x)) (after_absent (is_mark b) inner closing rest none is_close)

-- ---- cells

pub int_found : (ts : List Token) (i : ℤ) → IsInt ts i → int_in ts ≡ Some i
int_found _ _ (IsInt.bare {text} {n} e) = ap (option_map (λ n. with_sign_of [] (pos n))) e
int_found _ _ (IsInt.plus {text} {n} e) = ap (option_map (λ n. with_sign_of (codes "+") (pos n))) e
int_found _ _ (IsInt.minus {text} {n} e) = ap (option_map (λ n. with_sign_of (codes "-") (pos n))) e

int_absent : (p : Token → Bool) (ts : List Token) (i : ℤ) → ((text : Bytes) → p (number text) ≡ false) → p (mark (codes "+")) ≡ false → p (mark (codes "-")) ≡ false → IsInt ts i → Absent p ts
int_absent p _ _ at_number at_plus at_minus (IsInt.bare {text} e) = (at_number text, tt)
int_absent p _ _ at_number at_plus at_minus (IsInt.plus {text} e) = (at_plus, (at_number text, tt))
int_absent p _ _ at_number at_plus at_minus (IsInt.minus {text} e) = (at_minus, (at_number text, tt))

int_closes : (ts : List Token) (i : ℤ) → IsInt ts i → Absent (is_mark (codes ")")) ts
int_closes ts i h = int_absent (is_mark (codes ")")) ts i (λ text. refl) refl refl h

split_behind : (ts us : List Token) (i : ℤ) → IsInt ts i → slice_split (is_mark (codes ",")) (ts ++ mark (codes ",") ∷ us) ≡ ts ∷ slice_split (is_mark (codes ",")) us
split_behind _ us _ (IsInt.bare {text} e) = refl
split_behind _ us _ (IsInt.plus {text} e) = refl
split_behind _ us _ (IsInt.minus {text} e) = refl

split_last : (ts : List Token) (i : ℤ) → IsInt ts i → slice_split (is_mark (codes ",")) ts ≡ ts ∷ []
split_last _ _ (IsInt.bare {text} e) = refl
split_last _ _ (IsInt.plus {text} e) = refl
split_last _ _ (IsInt.minus {text} e) = refl

abbrev numbers_of : Option (List ℤ) → Option (List ℤ)
numbers_of o = option_and_then (λ is. then_some (has_length 2 3 is) is) o

pub two_places : (row column : List Token) (i j : ℤ) → IsInt row i → IsInt column j → places_in (row ++ mark (codes ",") ∷ column) ≡ Some (i ∷ j ∷ [])
two_places row column i j r d =
    ap (λ parts. numbers_of (all_there (map int_in parts))) (split_behind row column i r ∙ ap (λ parts. row ∷ parts) (split_last column j d))
    ∙ ap (λ o. numbers_of (all_there (o ∷ int_in column ∷ []))) (int_found row i r) ∙ ap (λ o. numbers_of (all_there (Some i ∷ o ∷ []))) (int_found column j d)

pub three_places : (row column plane : List Token) (i j k : ℤ) → IsInt row i → IsInt column j → IsInt plane k → places_in (row ++ mark (codes ",") ∷ (column ++ mark (codes ",") ∷ plane)) ≡ Some (i ∷ j ∷ k ∷ [])
three_places row column plane i j k r d f =
    ap (λ parts. numbers_of (all_there (map int_in parts)))
    (split_behind row (column ++ mark (codes ",") ∷ plane) i r ∙ ap (λ parts. row ∷ parts) (split_behind column plane j d ∙ ap (λ parts. column ∷ parts) (split_last plane k f)))
    ∙ ap (λ o. numbers_of (all_there (o ∷ int_in column ∷ int_in plane ∷ []))) (int_found row i r)
    ∙ ap (λ o. numbers_of (all_there (Some i ∷ o ∷ int_in plane ∷ []))) (int_found column j d)
    ∙ ap (λ o. numbers_of (all_there (Some i ∷ Some j ∷ o ∷ []))) (int_found plane k f)

pub port_found : (ts : List Token) (w : Bytes) → IsPort ts w → (rest : List Token) → port_in rest ≡ Some (out, rest) → port_in (ts ++ rest) ≡ Some (w, rest)
port_found _ _ IsPort.plain rest e = e
port_found _ _ (IsPort.named {w}) rest e = refl

cell_of_places : (is : List ℤ) (inner port rest : List Token) (w : Bytes) → Absent (is_mark (codes ")")) inner → places_in inner ≡ Some is → IsPort port w → port_in rest ≡ Some (out, rest) → cell_before (mark (codes "(") ∷ inner ++ mark (codes ")") ∷ (port ++ rest)) ≡ Some (record { place = is; port = w }, rest)
cell_of_places is inner port rest w none places p e =
    ap (option_and_then (λ (b : List Token × List Token). option_and_then (λ js. option_map (λ (q : Bytes × List Token). (record { place = js; port = q.0 }, q.1)) (port_in b.1)) (places_in b.0)))
    (block_found (mark (codes "(")) (mark (codes ")")) (codes "(") (codes ")") inner (port ++ rest) refl refl none)
    ∙ ap (option_and_then (λ js. option_map (λ (q : Bytes × List Token). (record { place = js; port = q.0 }, q.1)) (port_in (port ++ rest)))) places
    ∙ ap (option_map (λ (q : Bytes × List Token). (record { place = is; port = q.0 }, q.1))) (port_found port w p rest e)

-- a cell before tokens that name no port
pub cell_found : (ts : List Token) (c : Cell) → IsNeighbour ts c → (rest : List Token) → port_in rest ≡ Some (out, rest) → cell_before (ts ++ rest) ≡ Some (c, rest)
cell_found _ _ (IsNeighbour.flat {row} {column} {port} {i} {j} {p} r d h) rest e =
    ap (λ us. cell_before (mark (codes "(") ∷ us)) (append_assoc (row ++ mark (codes ",") ∷ column) (mark (codes ")") ∷ port) rest)
    ∙ cell_of_places (i ∷ j ∷ []) (row ++ mark (codes ",") ∷ column) port rest p
    (absent_append (is_mark (codes ")")) row (mark (codes ",") ∷ column) (int_closes row i r) (refl, int_closes column j d)) (two_places row column i j r d) h e
cell_found _ _ (IsNeighbour.deep {row} {column} {plane} {port} {i} {j} {k} {p} r d f h) rest e =
    ap (λ us. cell_before (mark (codes "(") ∷ us)) (append_assoc (row ++ mark (codes ",") ∷ column ++ mark (codes ",") ∷ plane) (mark (codes ")") ∷ port) rest)
    ∙ cell_of_places (i ∷ j ∷ k ∷ []) (row ++ mark (codes ",") ∷ column ++ mark (codes ",") ∷ plane) port rest p
    (absent_append (is_mark (codes ")")) (row ++ mark (codes ",") ∷ column) (mark (codes ",") ∷ plane)
    (absent_append (is_mark (codes ")")) row (mark (codes ",") ∷ column) (int_closes row i r) (refl, int_closes column j d)) (refl, int_closes plane k f))
    (ap places_in (append_assoc row (mark (codes ",") ∷ column) (mark (codes ",") ∷ plane)) ∙ three_places row column plane i j k r d f) h e

-- a cell has a comma behind its first number
pub record HasComma (ts : List Token) : Type 0 where
  pub row : List Token
  pub rest : List Token
  pub number : ℤ
  pub is_number : IsInt row number
  pub are : ts ≡ mark (codes "(") ∷ (row ++ mark (codes ",") ∷ rest)

pub cell_has_comma : (ts : List Token) (c : Cell) → IsNeighbour ts c → HasComma ts
cell_has_comma _ _ (IsNeighbour.flat {row} {column} {port} {i} {j} {p} r d h) =
    record { row = row; rest = column ++ mark (codes ")") ∷ port; number = i; is_number = r; are = ap (λ us. mark (codes "(") ∷ us) (append_assoc row (mark (codes ",") ∷ column) (mark (codes ")") ∷ port)) }
cell_has_comma _ _ (IsNeighbour.deep {row} {column} {plane} {port} {i} {j} {k} {p} r d f h) =
    record {
      row = row;
      rest = column ++ mark (codes ",") ∷ plane ++ mark (codes ")") ∷ port;
      number = i;
      is_number = r;
      are = ap (λ us. mark (codes "(") ∷ us) (regrouped row column plane (mark (codes ")") ∷ port));
    }
  where
    regrouped : (row column plane rest : List Token) → (row ++ mark (codes ",") ∷ column ++ mark (codes ",") ∷ plane) ++ rest ≡ row ++ mark (codes ",") ∷ (column ++ mark (codes ",") ∷ plane ++ rest)
    regrouped row column plane rest = simp append_assoc
