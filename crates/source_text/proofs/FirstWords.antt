-- Words, taken one by one.
use Rattle.std.proofs.Common.{◌≡◌, ℕ, ◌+◌, ◌<◌, ◌≤◌, ◌==◌, Bool, true, false, cond, not, List, [], ◌∷◌, refl, sym, ap, ◌∙◌, inl, inr, arith, length, take, drop, get_or, length-drop}
use Rattle.std.specs.Prelude.{if◌then◌else◌}
use Rattle.std.proofs.lemmas.Bool.{cases_lt}
use Rattle.std.proofs.lemmas.Bool.Decides.{nat_tests}
use Rattle.std.proofs.lemmas.List.{drop_all, drop_more, length-take-le, nil_from_length, take_all}
use Rattle.std.proofs.lemmas.List.Splits.{slice_split-cons_yes, slice_split_first, slice_split_none}
use Rattle.std.proofs.lemmas.List.Sums.{fails_before_first, passes_at_first, prefix_len-le-length}
use Rattle.std.specs.List.{filter, position_or_len, slice_split}
use Rattle.quantity.specs.Bytes.{Bytes, is_blank, is_empty, without_blanks_before, words}

kept_filled : (w : Bytes) (ws : List Bytes) → 0 < length w → filter (λ v. not (is_empty v)) (w ∷ ws) ≡ w ∷ filter (λ v. not (is_empty v)) ws
kept_filled [] ws some = absurd (omega arith)
kept_filled (c ∷ cs) ws some = refl

pub words-blank : (c : ℕ) (cs : Bytes) → is_blank c ≡ true → words (c ∷ cs) ≡ words cs
words-blank c cs e = ap (filter (λ w. not (is_empty w))) (slice_split-cons_yes is_blank c cs e)

-- ---- blanks before the first word

without_one : (c : ℕ) (cs : Bytes) (b : Bool) → is_blank c ≡ b → words (without_blanks_before cs) ≡ words cs → words (if b then without_blanks_before cs else c ∷ cs) ≡ words (c ∷ cs)
without_one c cs true e rest = rest ∙ sym (words-blank c cs e)
without_one c cs false e rest = refl

pub words-without_blanks : (text : Bytes) → words (without_blanks_before text) ≡ words text
words-without_blanks [] = refl
words-without_blanks (c ∷ cs) = without_one c cs (is_blank c) refl (words-without_blanks cs)

shorter_by_one : (c : ℕ) (cs : Bytes) (b : Bool) → length (without_blanks_before cs) ≤ length cs → length (if b then without_blanks_before cs else c ∷ cs) ≤ length (c ∷ cs)
shorter_by_one c cs true rest = omega arith
shorter_by_one c cs false rest = omega arith

pub length-without_blanks : (text : Bytes) → length (without_blanks_before text) ≤ length text
length-without_blanks [] = omega arith
length-without_blanks (c ∷ cs) = shorter_by_one c cs (is_blank c) (length-without_blanks cs)

head_by : (c : ℕ) (cs : Bytes) (b : Bool) (d : ℕ) (ds : Bytes) → is_blank c ≡ b → (without_blanks_before cs ≡ d ∷ ds → is_blank d ≡ false) → (if b then without_blanks_before cs else c ∷ cs) ≡ d ∷ ds → is_blank d ≡ false
head_by c cs true d ds e rest f = rest f
head_by c cs false d ds e rest f = let same : c ≡ d = cc in ap is_blank (sym same) ∙ e

head_is_filled : (text : Bytes) (d : ℕ) (ds : Bytes) → without_blanks_before text ≡ d ∷ ds → is_blank d ≡ false
head_is_filled [] d ds f = absurd cc
head_is_filled (c ∷ cs) d ds f = head_by c cs (is_blank c) d ds refl (head_is_filled cs d ds) f

-- ---- the first word

after_head : (d : ℕ) (ds : Bytes) → is_blank d ≡ false → 0 < position_or_len is_blank (d ∷ ds)
after_head d ds e =
    let more : position_or_len is_blank (d ∷ ds) ≡ 1 + position_or_len is_blank ds = ap (λ b. cond (not b) (1 + position_or_len is_blank ds) 0) e in
    omega arith

cut_at_blank : (text : Bytes) → 0 < position_or_len is_blank text → position_or_len is_blank text < length text
    → words text ≡ take (position_or_len is_blank text) text ∷ words (drop (position_or_len is_blank text) text)
cut_at_blank text some lt =
    let i = position_or_len is_blank text in
    let behind = drop (i + 1) text in
    ap (filter (λ w. not (is_empty w))) (slice_split_first is_blank text 0 lt)
    ∙ kept_filled (take i text) (slice_split is_blank behind) (omega (arith, length-take-le i text (omega arith)))
    ∙ ap (λ ws. take i text ∷ ws) (sym (ap words (drop_more text i 0 lt) ∙ words-blank (get_or text i 0) behind (passes_at_first is_blank text 0 lt)))

only_word : (text : Bytes) → 0 < position_or_len is_blank text → length text ≤ position_or_len is_blank text
    → words text ≡ take (position_or_len is_blank text) text ∷ words (drop (position_or_len is_blank text) text)
only_word text some ge =
    let i = position_or_len is_blank text in
    let filled : 0 < length text = omega (arith, prefix_len-le-length (λ c. not (is_blank c)) text) in
    ap (filter (λ w. not (is_empty w))) (slice_split_none is_blank text (λ k d lt. fails_before_first is_blank text k d (omega arith)))
    ∙ kept_filled text [] filled
    ∙ ap (λ w. w ∷ []) (sym (take_all i text ge))
    ∙ ap (λ ws. take i text ∷ ws) (sym (ap words (drop_all i text ge)))

cut_word : (text : Bytes) → 0 < position_or_len is_blank text → words text ≡ take (position_or_len is_blank text) text ∷ words (drop (position_or_len is_blank text) text)
cut_word text some =
    elim (cases_lt (position_or_len is_blank text) (length text)) [ inl lt ↦ cut_at_blank text some lt | inr ge ↦ only_word text some ge ]

-- what begins with a word, cut behind it
pub record IsFirstWord (text filled : Bytes) (n : ℕ) : Type 0 where
  pub words_cut : words text ≡ take n filled ∷ words (drop n filled)
  pub some : 0 < n
  pub within : n ≤ length filled
  pub shorter : length (drop n filled) < length text

first_of : (text : Bytes) (d : ℕ) (ds : Bytes) (n : ℕ) → without_blanks_before text ≡ d ∷ ds → n ≡ position_or_len is_blank (d ∷ ds) → IsFirstWord text (d ∷ ds) n
first_of text d ds n e f =
    let filled = d ∷ ds in
    let begins = after_head d ds (head_is_filled text d ds e) in
    let within = prefix_len-le-length (λ c. not (is_blank c)) filled in
    record {
      words_cut = sym (words-without_blanks text) ∙ ap words e ∙ cut_word filled begins ∙ ap (λ i. take i filled ∷ words (drop i filled)) (sym f);
      some = omega arith;
      within = omega arith;
      shorter = omega (arith, length-drop n filled, length-without_blanks text, ap length e);
    }

pub first_word : (text filled : Bytes) (n : ℕ) → filled ≡ without_blanks_before text → (length filled == 0) ≡ false → n ≡ position_or_len is_blank filled → IsFirstWord text filled n
first_word text [] n e some f = absurd cc
first_word text (d ∷ ds) n e some f = first_of text d ds n (sym e) f

pub no_word : (text filled : Bytes) → filled ≡ without_blanks_before text → (length filled == 0) ≡ true → words text ≡ []
no_word text filled e none =
    let empty : length filled ≡ 0 = grind (arith, nat_tests) in
    sym (words-without_blanks text) ∙ ap words (sym e ∙ nil_from_length filled empty)
