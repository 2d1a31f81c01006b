-- Files read word by word and line by line.
use Rattle.std.proofs.Common.{◌≡◌, ℕ, suc, ◌+◌, ◌<◌, Bool, true, false, cond, not, nat_eq, Option, Some, None, List, [], ◌∷◌, ◌++◌, length, map, refl, ap, sym, ◌∙◌, inl, inr, arith}
use Rattle.std.proofs.lemmas.List.{length-drop, nil_from_length}
use Rattle.std.proofs.lemmas.Bool.{cases_eq, eq-eqb, eqb-true, false≢true, ne_eqb}
use Rattle.std.specs.List.{slice_split, position_or_len, before_first, after_first, enumerate_from, flat_map, filter, fold}
use Rattle.std.specs.Option.{option_map}
use Rattle.quantity.specs.declared.value.Value.{Value}
use Rattle.quantity.specs.Bytes.{Bytes, is_byte, is_empty, words, all_there, in_front}
use Rattle.source_text.specs.Lines.{Line, text_of_line}
use Rattle.cell_grid.specs.Space.{Space, cell_count}
use Rattle.cell_grid.specs.Initial.{cell_line, cells_file, map_file, with_cell}
use Rattle.cell_grid.specs.Reading.{file_words, words_left, values_for}
use Rattle.cell_grid.proofs.Cuts.{cut}

abbrev pub line_of : ℕ × Bytes → Line
line_of p = record { number = p.0; text = text_of_line p.1 }

-- ---- words

pub file_words_step : (bytes : Bytes) → file_words bytes ≡ words (text_of_line (before_first (is_byte 10) bytes)) ++ file_words (after_first (is_byte 10) bytes)
file_words_step bytes =
    let f : Bytes → List Bytes = λ line. words (text_of_line line) in
    elim (cut (is_byte 10) bytes 0) [
      | inl e ↦ ap (flat_map f) e
      | inr h ↦ ap (flat_map f) h.0 ∙ ap (λ rest. f (before_first (is_byte 10) bytes) ++ file_words rest) (sym h.1)
    ]

words_of_lines : (n : ℕ) (parts : List Bytes) → flat_map (λ (l : Line). words l.text) (map line_of (enumerate_from n parts)) ≡ flat_map (λ line. words (text_of_line line)) parts
words_of_lines n [] = refl
words_of_lines n (part ∷ parts) = ap (λ ws. words (text_of_line part) ++ ws) (words_of_lines (n + 1) parts)

pub map_file_is : (space : Space) (bytes : Bytes) → values_for (cell_count space) (words_left [] bytes) ≡ map_file space bytes
map_file_is space bytes = ap (λ ws. values_for (cell_count space) ws) (sym (words_of_lines 1 (slice_split (is_byte 10) bytes)))

-- ---- lines

abbrev cells_in : Space → List Bytes → Option (List (ℕ × Value))
cells_in space [] = Some []
cells_in space (part ∷ parts) =
    cond (is_empty (text_of_line part)) (cells_in space parts) (in_front (cell_line space (text_of_line part)) (cells_in space parts))

abbrev pub cells_left : Space → Bytes → Option (List (ℕ × Value))
cells_left space bytes = cells_in space (slice_split (is_byte 10) bytes)

cells_of_lines : (space : Space) (n : ℕ) (parts : List Bytes)
    → all_there (map (λ (l : Line). cell_line space l.text) (filter (λ (l : Line). not (is_empty l.text)) (map line_of (enumerate_from n parts)))) ≡ cells_in space parts
cells_of_lines space n [] = refl
cells_of_lines space n (part ∷ parts) = at (is_empty (text_of_line part)) (cells_of_lines space (n + 1) parts)
  where
    at : (b : Bool) → all_there (map (λ (l : Line). cell_line space l.text) (filter (λ (l : Line). not (is_empty l.text)) (map line_of (enumerate_from (n + 1) parts)))) ≡ cells_in space parts
        → all_there (map (λ (l : Line). cell_line space l.text) (cond (not b) (line_of (n, part) ∷ filter (λ (l : Line). not (is_empty l.text)) (map line_of (enumerate_from (n + 1) parts))) (filter (λ (l : Line). not (is_empty l.text)) (map line_of (enumerate_from (n + 1) parts)))))
        ≡ cond b (cells_in space parts) (in_front (cell_line space (text_of_line part)) (cells_in space parts))
    at true e = e
    at false e = ap (in_front (cell_line space (text_of_line part))) e

pub cells_file_is : (space : Space) (bytes : Bytes) → cells_left space bytes ≡ cells_file space bytes
cells_file_is space bytes = sym (cells_of_lines space 1 (slice_split (is_byte 10) bytes))

cells_left_step : (space : Space) (bytes : Bytes) → cells_left space bytes ≡
    (let text = text_of_line (before_first (is_byte 10) bytes) in
    cond (is_empty text) (cells_left space (after_first (is_byte 10) bytes)) (in_front (cell_line space text) (cells_left space (after_first (is_byte 10) bytes))))
cells_left_step space bytes =
    let next : List Bytes → Option (List (ℕ × Value)) = λ parts. cells_in space (before_first (is_byte 10) bytes ∷ parts) in
    elim (cut (is_byte 10) bytes 0) [
      | inl e ↦ ap (cells_in space) e
      | inr h ↦ ap (cells_in space) h.0 ∙ ap (λ rest. cond (is_empty (text_of_line (before_first (is_byte 10) bytes))) (cells_left space rest) (in_front (cell_line space (text_of_line (before_first (is_byte 10) bytes))) (cells_left space rest))) (sym h.1)
    ]

-- one line on, where a line has no word left
pub next_line : (line behind next after : Bytes) → words line ≡ [] → next ≡ text_of_line (before_first (is_byte 10) behind) → after ≡ after_first (is_byte 10) behind → words_left next after ≡ words_left line behind
next_line line behind next after none e f =
    ap (λ t. words t ++ file_words after) e ∙ ap (λ t. words (text_of_line (before_first (is_byte 10) behind)) ++ file_words t) f
    ∙ sym (file_words_step behind) ∙ ap (λ ws. ws ++ file_words behind) (sym none)

-- a line without text is passed
pub empty_line : (space : Space) (left text after : Bytes) → text ≡ text_of_line (before_first (is_byte 10) left) → after ≡ after_first (is_byte 10) left → is_empty text ≡ true → cells_left space left ≡ cells_left space after
empty_line space left text after e f empty =
    cells_left_step space left
    ∙ ap (λ b. cond b (cells_left space (after_first (is_byte 10) left)) (in_front (cell_line space (text_of_line (before_first (is_byte 10) left))) (cells_left space (after_first (is_byte 10) left)))) (ap is_empty (sym e) ∙ empty)
    ∙ ap (cells_left space) (sym f)

pub filled_line : (space : Space) (left text after : Bytes) → text ≡ text_of_line (before_first (is_byte 10) left) → after ≡ after_first (is_byte 10) left → is_empty text ≡ false → cells_left space left ≡ in_front (cell_line space text) (cells_left space after)
filled_line space left text after e f filled =
    cells_left_step space left
    ∙ ap (λ b. cond b (cells_left space (after_first (is_byte 10) left)) (in_front (cell_line space (text_of_line (before_first (is_byte 10) left))) (cells_left space (after_first (is_byte 10) left)))) (ap is_empty (sym e) ∙ filled)
    ∙ ap (λ t. in_front (cell_line space t) (cells_left space (after_first (is_byte 10) left))) (sym e)
    ∙ ap (λ t. in_front (cell_line space text) (cells_left space t)) (sym f)

pub one_cell_laid : (vs : List Value) (c : ℕ × Value) (o : Option (List (ℕ × Value))) → option_map (fold with_cell (with_cell vs c)) o ≡ option_map (fold with_cell vs) (in_front (Some c) o)
one_cell_laid vs c None = refl
one_cell_laid vs c (Some cs) = refl

-- what is refused from here on was refused from the start on
pub refused : (vs ws : List Value) (o : Option (List (ℕ × Value))) → option_map (fold with_cell vs) None ≡ option_map (fold with_cell ws) o → o ≡ None
refused vs ws None e = refl
refused vs ws (Some cs) e = absurd cc

no_text : (text : Bytes) → is_empty text ≡ nat_eq (length text) 0
no_text [] = refl
no_text (c ∷ cs) = sym (ne_eqb (suc (length cs)) 0 (λ e. omega arith))

pub no_text_is : {b r : Bool} (text : Bytes) → r ≡ nat_eq (length text) 0 → r ≡ b → is_empty text ≡ b
no_text_is text e f = no_text text ∙ sym e ∙ f

pub nothing_left : {r : Bool} (text : Bytes) → r ≡ nat_eq (length text) 0 → r ≡ true → text ≡ []
nothing_left text e f = nil_from_length text (eqb-true (length text) 0 (sym e ∙ f))

-- what stands behind a line is shorter
pub less_behind : {r : Bool} (left behind : Bytes) → behind ≡ after_first (is_byte 10) left → r ≡ nat_eq (length left) 0 → r ≡ false → length behind < length left
less_behind left behind e f g =
    elim (cases_eq (length left) 0) [
      | inl z ↦ absurd (false≢true (sym g ∙ f ∙ eq-eqb (length left) 0 z))
      | inr z ↦ omega (arith, ap length e, length-drop (position_or_len (is_byte 10) left + 1) left)
    ]
