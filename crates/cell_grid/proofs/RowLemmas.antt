-- Digits of a row.
use Rattle.std.proofs.Common.{◌≡◌, ℕ, ◌+◌, ◌-◌, ◌*◌, ◌<◌, ◌≤◌, true, false, Option, Some, None, IfNone, IfSome, MatchOption, List, [], ◌∷◌, map, take, drop, length, get_or, set, subst, ap, sym, ◌∙◌, arith}
use Rattle.std.proofs.lemmas.List.{drop_more, length-take-le, take_all, take_more_set}
use Rattle.quantity.specs.declared.value.Value.{Value}
use denote.Ref.{Bor}
use Rattle.std.specs.Option.{is_some, unwrap_or}
use Rattle.std.proofs.lemmas.Nat.{row_fits}
use Rattle.quantity.specs.Bytes.{Bytes, all_there, words}
use Rattle.quantity.specs.Literals.{value_in}
use Rattle.cell_grid.specs.Initial.{digit_value, digits_row}
use Rattle.cell_grid.specs.Space.{Space, cell_count, dims_of}
use Rattle.cell_grid.proofs.Gathered.{all_gathered, behind, gathered_more, in_all, one_missing, too_few}

one_left : (i : ℕ) → i + 1 - i ≡ 1
one_left i = omega arith

one_byte : (chars : Bytes) (i : ℕ) → i < length chars → take (i + 1 - i) (drop i chars) ≡ get_or chars i 0 ∷ []
one_byte chars i lt = ap (λ n. take n (drop i chars)) (one_left i) ∙ ap (take 1) (drop_more chars i 0 lt)

-- one digit more
pub digit_laid : (chars : Bytes) (cells : List Value) (i : ℕ) (v : Value) → i < length chars → i < length cells → value_in (take (i + 1 - i) (drop i chars)) ≡ Some v
    → all_there (map digit_value chars) ≡ behind (take i cells) (all_there (map digit_value (drop i chars)))
    → all_there (map digit_value chars) ≡ behind (take (i + 1) (set cells i v)) (all_there (map digit_value (drop (i + 1) chars)))
digit_laid chars cells i v lt within value e =
    gathered_more digit_value (all_there (map digit_value chars)) (take i cells) (drop i chars) e (get_or chars i 0) (drop (i + 1) chars) v (drop_more chars i 0 lt) (ap value_in (sym (one_byte chars i lt)) ∙ value)
    ∙ ap (λ front. behind front (all_there (map digit_value (drop (i + 1) chars)))) (sym (take_more_set cells i v within))

-- ---- values of words, laid one after another

pub if_none : {X A : Type 0} (B : X → Type 0) (o : Option X) → MatchOption o A B → o ≡ None → A
if_none B None a e = a
if_none B (Some x) b e = absurd cc

pub if_some : {X : Type 0} (A : Type 0) (B : X → Type 0) (o : Option X) → MatchOption o A B → (x : X) → o ≡ Some x → B x
if_some {X} A B o is x e = subst (λ (p : Option X). MatchOption p A B) e is

module _ (texts left : List Bytes) (cells : List Value) (i : ℕ) (e : all_there (map value_in texts) ≡ behind (take i cells) (all_there (map value_in left))) where
  -- one word more
  pub word_laid : (word : Bytes) (rest : List Bytes) (v : Value) → left ≡ word ∷ rest → value_in word ≡ Some v → i < length cells
      → all_there (map value_in texts) ≡ behind (take (i + 1) (set cells i v)) (all_there (map value_in rest))
  word_laid word rest v is value within =
      gathered_more value_in (all_there (map value_in texts)) (take i cells) left e word rest v is value
      ∙ ap (λ front. behind front (all_there (map value_in rest))) (sym (take_more_set cells i v within))

  pub no_value : (n : ℕ) (word : Bytes) (rest : List Bytes) → left ≡ word ∷ rest → value_in word ≡ None → in_all n (all_there (map value_in texts)) ≡ None
  no_value n word rest is missing = one_missing value_in (all_there (map value_in texts)) (take i cells) left e n word rest is missing

  pub no_word : left ≡ [] → i < length cells → in_all (length cells) (all_there (map value_in texts)) ≡ None
  no_word is within =
      too_few value_in (all_there (map value_in texts)) (take i cells) left e (length cells) is (omega (arith, length-take-le i cells))

  pub all_laid : left ≡ [] → length cells ≤ i → in_all (length cells) (all_there (map value_in texts)) ≡ Some cells
  all_laid is all =
      all_gathered value_in (all_there (map value_in texts)) (take i cells) left e (length cells) is (ap length (take_all i cells all)) ∙ ap Some (take_all i cells all)

pub if_absent : {X A : Type 0} (o : Option X) → IfNone o A → o ≡ None → A
if_absent None a e = a
if_absent (Some x) b e = absurd cc

pub if_there : {X : Type 0} (B : X → Type 0) (o : Option X) → IfSome o B → (x : X) → o ≡ Some x → B x
if_there {X} B o is x e = subst (λ (p : Option X). IfSome p B) e is

-- ---- rows

-- a third word is one too many
pub third_word : (space : Space) (number chars : Bytes) (ws : List Bytes) (o : Option (Bor Bytes × Bor Bytes)) → MatchOption o (ws ≡ []) (λ r. ws ≡ r.0.now ∷ words r.1.now) → is_some o ≡ true
    → digits_row space (number ∷ chars ∷ ws) ≡ None
third_word space number chars ws None e there = absurd cc
third_word space number chars ws (Some r) e there = ap (λ (more : List Bytes). digits_row space (number ∷ chars ∷ more)) e

pub no_more : (A : Type 0) (B : Bor Bytes × Bor Bytes → Type 0) (o : Option (Bor Bytes × Bor Bytes)) → MatchOption o A B → is_some o ≡ false → A
no_more A B None a gone = a
no_more A B (Some r) b gone = absurd cc

flat_cells : (space : Space) → dims_of space ≡ 2 → space.rows * space.columns ≡ cell_count space
flat_cells space flat = go space.planes flat
  where
    go : (planes : Option ℕ) → ◌≡◌ {A = ℕ} (elim planes [ None ↦ 2 | Some n ↦ 3 ]) 2 → space.rows * space.columns ≡ space.rows * space.columns * unwrap_or planes 1
    go None e = omega arith
    go (Some n) e = absurd (omega (arith, e))

-- the cells of a row are among those of a flat space
pub row_within : (space : Space) (row columns : ℕ) → dims_of space ≡ 2 → row < space.rows → columns ≡ space.columns → row * columns + columns ≤ cell_count space
row_within space row columns flat below is =
    omega (arith, row_fits row columns space.rows space.columns below (omega (arith, is)), flat_cells space flat)
