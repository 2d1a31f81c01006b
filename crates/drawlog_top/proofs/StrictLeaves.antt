-- A leaf's name that is read from left to right is the name that the text is.
use Rattle.std.proofs.Common.{◌≡◌, ℕ, suc, ◌+◌, ◌<◌, ◌⊎◌, inl, inr, ◌==◌, ◌&&◌, ◌||◌, Bool, true, false, cond, Option, Some, None, List, [], ◌∷◌, ◌++◌, refl, sym, ap, ◌∙◌, subst, arith, length, map, decimal, nat_le, append-nil}
use Rattle.std.proofs.lemmas.Bool.Decides.{nat_tests}
use Rattle.std.proofs.lemmas.List.{length-append}
use Rattle.std.specs.List.{before_first, after_first, list_all, join_with_byte}
use Rattle.std.specs.Option.{option_map, option_and_then}
use Rattle.quantity.specs.Bytes.{Bytes, is_byte}
use Rattle.quantity.specs.Digits.{has_length}
use Rattle.quantity.specs.Names.{is_name, is_of_name}
use Rattle.quantity.specs.Written.{for_some, is_digit}
use Rattle.quantity.proofs.DigitLemmas.{both}
use Rattle.quantity.proofs.Written.{has_no, and_true, itself}
use Rattle.text_forms.specs.LogLine.{LeafName, at_text, leaf_name_text, is_leaf}
use Rattle.text_forms.proofs.WrittenLines.{join_no, name_no}
use Rattle.drawlog_top.specs.Strict.{coordinate, with_plane, place_in, before_end, with_place, named_leaf, read_leaf}
use Rattle.drawlog_top.proofs.StrictLemmas.{IsCut, IsWhole, cut, some_from, same_some, if_some, before_joined, after_joined, before_alone, coordinate_is, coordinate_read, decimal_no, no_empty}

map_from : {A B : Type 0} (o : Option A) (f : A → B) (y : B) → option_map f o ≡ Some y → (x : A) × (o ≡ Some x) × (f x ≡ y)
map_from None f y h = absurd cc
map_from (Some x) f y h = (x, refl, same_some (f x) y h)

then_from : {A B : Type 0} (o : Option A) (f : A → Option B) (y : B) → option_and_then f o ≡ Some y → (x : A) × (o ≡ Some x) × (f x ≡ Some y)
then_from None f y h = absurd cc
then_from (Some x) f y h = (x, refl, h)

abbrev is_small : ℕ → Bool
is_small n = nat_le n 1048575

-- ---- places

pub record IsPlaceText (text : Bytes) (ns : List ℕ) : Type 0 where
  pub text_is : text ≡ join_with_byte 44 (map decimal ns)
  pub small : list_all is_small ns ≡ true
  pub many : (length ns == 2) || (length ns == 3) ≡ true

not_shorter : (a b : ℕ) → a < b → (a == b) ≡ true → ⊥
not_shorter a b lt e = grind (arith, nat_tests)

same_length : (a b : Bytes) → a ≡ b → (length a == length b) ≡ false → ⊥
same_length a b is e = let t = itself (length b) in let f = ap (λ x. length x == length b) is in let no : false ≡ true = sym e ∙ f ∙ t in absurd cc

module _ (i j : ℕ) (text rest : Bytes) (ns : List ℕ) where
  abbrev column : Bytes
  column = before_first (is_byte 44) rest

  ends_by : text ≡ decimal i ++ 44 ∷ rest → column ≡ decimal j → is_small i ≡ true → is_small j ≡ true → (b : Bool) → (length column == length rest) ≡ b → with_plane i j b (after_first (is_byte 44) rest) ≡ Some ns → IsPlaceText text ns
  ends_by t c si sj true e h = subst (IsPlaceText text) (same_some (i ∷ j ∷ []) ns h) (record { text_is = t ∙ ap (λ (r : Bytes). decimal i ++ 44 ∷ r) whole; small = and_true _ _ si (and_true _ true sj refl); many = refl })
    where
      whole : rest ≡ decimal j
      whole = elim (cut 44 rest) [ inl k ↦ absurd (not_shorter (length column) (length rest) k.shorter e) | inr k ↦ sym k.before ∙ c ]
  ends_by t c si sj false e h =
      let p = map_from (coordinate (after_first (is_byte 44) rest)) (λ k. i ∷ j ∷ k ∷ []) ns h in
      let k = coordinate_is (after_first (is_byte 44) rest) p.0 p.1 in
      subst (IsPlaceText text) p.2 (record { text_is = t ∙ ap (λ (r : Bytes). decimal i ++ 44 ∷ r) (there ∙ ap (λ (r : Bytes). r ++ 44 ∷ after_first (is_byte 44) rest) c ∙ ap (λ (r : Bytes). decimal j ++ 44 ∷ r) k.0); small = and_true _ _ si (and_true _ _ sj (and_true _ true k.1 refl)); many = refl })
    where
      there : rest ≡ column ++ 44 ∷ after_first (is_byte 44) rest
      there = elim (cut 44 rest) [ inl k ↦ k.at | inr k ↦ absurd (same_length column rest k.before e) ]

pub place_is : (text : Bytes) (ns : List ℕ) → place_in text ≡ Some ns → IsPlaceText text ns
place_is text ns h =
    let rest = after_first (is_byte 44) text in
    let a = some_from (coordinate (before_first (is_byte 44) text)) _ ns h in
    let b = some_from (coordinate (before_first (is_byte 44) rest)) _ ns a.2 in
    let i = coordinate_is (before_first (is_byte 44) text) a.0 a.1 in
    let j = coordinate_is (before_first (is_byte 44) rest) b.0 b.1 in
    ends_by a.0 b.0 text rest ns (there text b.0 b.1 ∙ ap (λ (r : Bytes). r ++ 44 ∷ rest) i.0) j.0 i.1 j.1 (length (before_first (is_byte 44) rest) == length rest) refl b.2
  where
    there : (text : Bytes) (n : ℕ) → coordinate (before_first (is_byte 44) (after_first (is_byte 44) text)) ≡ Some n → text ≡ before_first (is_byte 44) text ++ 44 ∷ after_first (is_byte 44) text
    there text n h = elim (cut 44 text) [ inl k ↦ k.at | inr k ↦ absurd (no_empty n (sym (ap (λ r. coordinate (before_first (is_byte 44) r)) k.after) ∙ h)) ]

abbrev column_of : ℕ → Bytes → Bool → Bytes → Option (List ℕ)
column_of i column ends plane = for_some (coordinate column) (λ j. with_plane i j ends plane)

abbrev rest_of : ℕ → Bytes → Option (List ℕ)
rest_of i rest = column_of i (before_first (is_byte 44) rest) (length (before_first (is_byte 44) rest) == length rest) (after_first (is_byte 44) rest)

row_read : (i : ℕ) (rest : Bytes) → is_small i ≡ true → place_in (decimal i ++ 44 ∷ rest) ≡ rest_of i rest
row_read i rest s =
    let text = decimal i ++ 44 ∷ rest in
    let no = decimal_no 44 i refl s in
    ap (λ w. for_some (coordinate w) (λ n. rest_of n (after_first (is_byte 44) text))) (before_joined 44 (decimal i) rest no)
    ∙ ap (λ r. for_some (coordinate (decimal i)) (λ n. rest_of n r)) (after_joined 44 (decimal i) rest no)
    ∙ ap (λ o. for_some o (λ n. rest_of n rest)) (coordinate_read i s)

longer : (a b : Bytes) → (length a == length (a ++ 44 ∷ b)) ≡ false
longer a b = let n = length-append a (44 ∷ b) in grind (arith, nat_tests)

pub two_read : (i j : ℕ) → is_small i ≡ true → is_small j ≡ true → place_in (decimal i ++ 44 ∷ decimal j) ≡ Some (i ∷ j ∷ [])
two_read i j si sj =
    let rest = decimal j in
    let no = decimal_no 44 j refl sj in
    row_read i rest si ∙ ap (λ c. column_of i c (length c == length rest) (after_first (is_byte 44) rest)) (before_alone 44 rest no)
    ∙ ap (λ b. column_of i rest b (after_first (is_byte 44) rest)) (itself (length rest))
    ∙ ap (λ o. for_some o (λ n. with_plane i n true (after_first (is_byte 44) rest))) (coordinate_read j sj)

pub three_read : (i j k : ℕ) → is_small i ≡ true → is_small j ≡ true → is_small k ≡ true → place_in (decimal i ++ 44 ∷ (decimal j ++ 44 ∷ decimal k)) ≡ Some (i ∷ j ∷ k ∷ [])
three_read i j k si sj sk =
    let rest = decimal j ++ 44 ∷ decimal k in
    let no = decimal_no 44 j refl sj in
    row_read i rest si ∙ ap (λ c. column_of i c (length c == length rest) (after_first (is_byte 44) rest)) (before_joined 44 (decimal j) (decimal k) no)
    ∙ ap (λ b. column_of i (decimal j) b (after_first (is_byte 44) rest)) (longer (decimal j) (decimal k))
    ∙ ap (λ p. column_of i (decimal j) false p) (after_joined 44 (decimal j) (decimal k) no)
    ∙ ap (λ o. for_some o (λ n. with_plane i n false (decimal k))) (coordinate_read j sj)
    ∙ ap (option_map (λ n. i ∷ j ∷ n ∷ [])) (coordinate_read k sk)

place_read : (ns : List ℕ) → list_all is_small ns ≡ true → (length ns == 2) || (length ns == 3) ≡ true → place_in (join_with_byte 44 (map decimal ns)) ≡ Some ns
place_read [] s m = absurd cc
place_read (i ∷ []) s m = absurd cc
place_read (i ∷ j ∷ []) s m =
    let a = both (is_small i) (list_all is_small (j ∷ [])) s in
    two_read i j a.0 (both (is_small j) true a.1).0
place_read (i ∷ j ∷ k ∷ []) s m =
    let a = both (is_small i) (list_all is_small (j ∷ k ∷ [])) s in
    let b = both (is_small j) (list_all is_small (k ∷ [])) a.1 in
    three_read i j k a.0 b.0 (both (is_small k) true b.1).0
place_read (i ∷ j ∷ k ∷ l ∷ more) s m = absurd (none (length more) m)
  where
    none : (n : ℕ) → (suc (suc (suc (suc n))) == 2) || (suc (suc (suc (suc n))) == 3) ≡ true → ⊥
    none n h = grind (arith, nat_tests)

-- ---- leaves

end_is : (text inner : Bytes) → before_end text ≡ Some inner → text ≡ inner ++ 41 ∷ []
end_is text inner h =
    let first = before_first (is_byte 41) text in
    let k = if_some (length first + 1 == length text) first inner h in
    subst (λ (x : Bytes). text ≡ x ++ 41 ∷ []) k.1 (by (cut 41 text) k.0)
  where
    empty : (xs : Bytes) → length xs ≡ 0 → xs ≡ []
    empty [] e = refl
    empty (x ∷ xs) e = absurd (omega (arith, e))

    rest_empty : (a b text : Bytes) → text ≡ a ++ 41 ∷ b → (length a + 1 == length text) ≡ true → b ≡ []
    rest_empty a b text t e =
        let n = ap length t ∙ length-append a (41 ∷ b) in let f : length a + 1 ≡ length text = grind (arith, nat_tests) in empty b (omega (arith, n, f))

    not_longer : (n : ℕ) → (n + 1 == n) ≡ true → ⊥
    not_longer n e = grind (arith, nat_tests)

    by : IsCut 41 text ⊎ IsWhole 41 text → (length (before_first (is_byte 41) text) + 1 == length text) ≡ true → text ≡ before_first (is_byte 41) text ++ 41 ∷ []
    by (inl k) e = k.at ∙ ap (λ (r : Bytes). before_first (is_byte 41) text ++ 41 ∷ r) (rest_empty (before_first (is_byte 41) text) (after_first (is_byte 41) text) text k.at e)
    by (inr k) e = absurd (not_longer (length text) (sym (ap (λ (x : Bytes). length x + 1 == length text) k.before) ∙ e))

-- a text that is a leaf's name
pub record IsLeafText (text : Bytes) (l : LeafName) : Type 0 where
  pub text_is : text ≡ leaf_name_text l
  pub is : is_leaf l ≡ true

or_right : (a b c : Bool) → b || c ≡ true → (a || b) || c ≡ true
or_right true b c h = refl
or_right false b c h = h

placed : (name rest text inner : Bytes) (ns : List ℕ) → is_name name ≡ true → text ≡ name ++ 40 ∷ (inner ++ 41 ∷ []) → IsPlaceText inner ns → IsLeafText text (record { name = name; at = ns })
placed name rest text inner [] n t p = let m = p.many in absurd cc
placed name rest text inner (k ∷ ns) n t p =
    record {
      text_is = t ∙ ap (λ (x : Bytes). name ++ 40 ∷ (x ++ 41 ∷ [])) p.text_is;
      is = and_true _ _ (and_true _ _ n p.small) (or_right (length (k ∷ ns) == 0) (length (k ∷ ns) == 2) (length (k ∷ ns) == 3) p.many);
    }

module _ (text : Bytes) (l : LeafName) where
  abbrev name : Bytes
  name = before_first (is_byte 40) text

  abbrev rest : Bytes
  rest = after_first (is_byte 40) text

  named_by : is_name name ≡ true → (b : Bool) → (length name == length text) ≡ b → named_leaf name b rest ≡ Some l → IsLeafText text l
  named_by n true e h =
      subst (IsLeafText text) (same_some _ l h) (record { text_is = whole ∙ sym (append-nil name); is = and_true _ true (and_true _ true n refl) refl })
    where
      whole : text ≡ name
      whole = elim (cut 40 text) [ inl k ↦ absurd (not_shorter (length name) (length text) k.shorter e) | inr k ↦ sym k.before ]
  named_by n false e h =
      let p = map_from (option_and_then place_in (before_end rest)) (λ ns. let m : LeafName = record { name = name; at = ns } in m) l h in
      let q = then_from (before_end rest) place_in p.0 p.1 in
      subst (IsLeafText text) p.2 (placed name rest text q.0 p.0 n (there ∙ ap (λ (r : Bytes). name ++ 40 ∷ r) (end_is rest q.0 q.1)) (place_is q.0 p.0 q.2))
    where
      there : text ≡ name ++ 40 ∷ rest
      there = elim (cut 40 text) [ inl k ↦ k.at | inr k ↦ absurd (same_length name text k.before e) ]

  leaf_by : (b : Bool) → is_name name ≡ b → cond b (named_leaf name (length name == length text) rest) None ≡ Some l → IsLeafText text l
  leaf_by true n h = named_by n (length name == length text) refl h
  leaf_by false n h = absurd cc

  pub leaf_is : read_leaf text ≡ Some l → IsLeafText text l
  leaf_is h = leaf_by (is_name name) refl h

decimals_no : (c : ℕ) → is_digit c ≡ false → (ns : List ℕ) → list_all is_small ns ≡ true → list_all (has_no c) (map decimal ns) ≡ true
decimals_no c e [] h = refl
decimals_no c e (n ∷ ns) h = let k = both (is_small n) (list_all is_small ns) h in and_true _ _ (decimal_no c n e k.0) (decimals_no c e ns k.1)

name_bytes : (w : Bytes) → is_name w ≡ true → list_all is_of_name w ≡ true
name_bytes w h = (both (has_length 1 64 w) (list_all is_of_name w) h).1

end_read : (inner : Bytes) → has_no 41 inner ≡ true → before_end (inner ++ 41 ∷ []) ≡ Some inner
end_read inner clean =
    ap (λ x. cond (length x + 1 == length (inner ++ 41 ∷ [])) (Some x) None) (before_joined 41 inner [] clean)
    ∙ ap (λ b. cond b (Some inner) None) (let n = length-append inner (41 ∷ []) in let e : length inner + 1 ≡ length (inner ++ 41 ∷ []) = omega (arith, n) in ap (λ n. length inner + 1 == n) (sym e) ∙ itself (length inner + 1))

longer_by : (a b : Bytes) → (length a == length (a ++ 40 ∷ b)) ≡ false
longer_by a b = let n = length-append a (40 ∷ b) in grind (arith, nat_tests)

abbrev leaf_as : Bytes → Bool → Bytes → Option LeafName
leaf_as name ends rest = cond (is_name name) (named_leaf name ends rest) None

or_rest : (n : ℕ) → ((suc n == 0) || (suc n == 2)) || (suc n == 3) ≡ true → (suc n == 2) || (suc n == 3) ≡ true
or_rest n h =
    let e : (suc n == 0) ≡ false = grind (arith, nat_tests) in sym (ap (λ b. (b || (suc n == 2)) || (suc n == 3)) e) ∙ h

pub leaf_read : (l : LeafName) → is_leaf l ≡ true → read_leaf (leaf_name_text l) ≡ Some l
leaf_read l h = by l.name l.at (both (is_name l.name) (list_all is_small l.at) (both (is_name l.name && list_all is_small l.at) _ h).0).0
    (both (is_name l.name) (list_all is_small l.at) (both (is_name l.name && list_all is_small l.at) _ h).0).1 (both (is_name l.name && list_all is_small l.at) _ h).1
  where
    by : (name : Bytes) (at : List ℕ) → is_name name ≡ true → list_all is_small at ≡ true → (length at == 0) || (length at == 2) || (length at == 3) ≡ true → read_leaf (name ++ at_text at) ≡ Some (record { name = name; at = at })
    by name [] n s m =
        let no = name_no 40 refl name (name_bytes name n) in
        ap read_leaf (append-nil name) ∙ ap (λ x. leaf_as x (length x == length name) (after_first (is_byte 40) name)) (before_alone 40 name no)
        ∙ ap (λ b. leaf_as name b (after_first (is_byte 40) name)) (itself (length name)) ∙ ap (λ b. cond b (Some (record { name = name; at = [] })) None) n
    by name (k ∷ ns) n s m =
        let inner = join_with_byte 44 (map decimal (k ∷ ns)) in
        let no = name_no 40 refl name (name_bytes name n) in
        let text = name ++ 40 ∷ (inner ++ 41 ∷ []) in
        ap (λ x. leaf_as x (length x == length text) (after_first (is_byte 40) text)) (before_joined 40 name (inner ++ 41 ∷ []) no)
        ∙ ap (λ b. leaf_as name b (after_first (is_byte 40) text)) (longer_by name (inner ++ 41 ∷ []))
        ∙ ap (λ r. leaf_as name false r) (after_joined 40 name (inner ++ 41 ∷ []) no)
        ∙ ap (λ b. cond b (named_leaf name false (inner ++ 41 ∷ [])) None) n
        ∙ ap (λ o. with_place name (option_and_then place_in o)) (end_read inner (join_no 41 44 refl (map decimal (k ∷ ns)) (decimals_no 41 refl (k ∷ ns) s)))
        ∙ ap (with_place name) (place_read (k ∷ ns) s (or_rest (length ns) m))
