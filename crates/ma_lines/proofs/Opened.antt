-- The entry that begins in a line, where one does.
use Rattle.std.proofs.Common.{◌≡◌, ◌≢◌, ℕ, Bool, true, false, cond, ◌&&◌, None, Some, [], ◌∷◌, refl, ap, sym, ◌∙◌, arith, length, length-take}
use Rattle.std.specs.Bool.{then_some}
use Rattle.std.specs.Prelude.{not}
use Rattle.std.specs.List.{after_first, before_first, list_any, position_or_len}
use Rattle.std.proofs.lemmas.List.{nil_from_length}
use Rattle.std.proofs.lemmas.List.Folds.{list_any_at, list_any_none}
use Rattle.std.proofs.lemmas.List.Sums.{fails_before_first, passes_at_first}
use Rattle.quantity.specs.ByteNames.{colon, opening_bracket}
use Rattle.quantity.specs.Bytes.{Bytes, is_byte, is_empty, begins_with, without_outer_blanks}
use Rattle.source_text.specs.Lines.{in_lower_case}
use Rattle.ma_lines.specs.Entries.{braces_after, key_in, value_after}
use Rattle.ma_lines.specs.Reader.{line_of}
use Rattle.ma_lines.specs.Reading.{Opened, opened_by}
use Rattle.ma_lines.specs.Sections.{is_entry}
use Rattle.ma_lines.proofs.Letters.{is_empty-folded}

pub is_opened : (line : ℕ) (text key value behind : Bytes) (braces : ℕ) → begins_with opening_bracket text ≡ false → key ≡ key_in text
    → behind ≡ after_first (is_byte colon) text → value ≡ without_outer_blanks behind → braces ≡ braces_after 0 behind
    → record { line = line; key = key; value = value; braces = braces } ≡ opened_by (line_of line text)
is_opened line text key value behind braces no_heading keyed cut valued counted =
    ap (λ k. made k value braces) keyed ∙ ap (λ v. made (key_in text) v braces) (valued ∙ ap without_outer_blanks cut)
    ∙ ap (made (key_in text) (value_after text)) (counted ∙ ap (braces_after 0) cut ∙ sym (ap (λ b. cond b 0 (braces_after 0 (after_first (is_byte colon) text))) no_heading))
  where
    made : Bytes → Bytes → ℕ → Opened
    made k v b = record { line = line; key = k; value = v; braces = b }

-- ---- where a key stands before a colon

none_cut : (p : ℕ → Bool) (text : Bytes) → length (before_first p text) ≡ length text → list_any p text ≡ false
none_cut p text e =
    list_any_none p text (λ k d lt. fails_before_first p text k d (omega (arith, length-take (position_or_len p text) text)))

some_cut : (p : ℕ → Bool) (text : Bytes) → length (before_first p text) ≢ length text → list_any p text ≡ true
some_cut p text e =
    let found = length-take (position_or_len p text) text in
    list_any_at p text (position_or_len p text) 0 (omega (arith, found)) (passes_at_first p text 0 (omega (arith, found)))

none_begun : (line : ℕ) (text : Bytes) → is_entry (line_of line text) ≡ false
    → None ≡ then_some (is_entry (line_of line text)) (opened_by (line_of line text))
none_begun line text none = sym (ap (λ b. then_some b (opened_by (line_of line text))) none)

pub without_colon : (line : ℕ) (text before : Bytes) → before ≡ before_first (is_byte colon) text → length before ≡ length text
    → None ≡ then_some (is_entry (line_of line text)) (opened_by (line_of line text))
without_colon line text before cut all =
    none_begun line text (ap (λ b. b && not (is_empty (key_in text))) (none_cut (is_byte colon) text (sym (ap length cut) ∙ all)))

and_false : (b : Bool) → (b && false) ≡ false
and_false true = refl
and_false false = refl

pub without_key : (line : ℕ) (text before key : Bytes) → before ≡ before_first (is_byte colon) text → key ≡ without_outer_blanks before → length key ≡ 0
    → None ≡ then_some (is_entry (line_of line text)) (opened_by (line_of line text))
without_key line text before key cut keyed none =
    none_begun line text
    (ap (λ k. list_any (is_byte colon) text && not (is_empty (in_lower_case k))) (ap without_outer_blanks (sym cut) ∙ sym keyed ∙ nil_from_length key none)
    ∙ and_false (list_any (is_byte colon) text))

filled : (xs : Bytes) → length xs ≢ 0 → is_empty xs ≡ false
filled [] h = absurd (h refl)
filled (x ∷ xs) h = refl

pub with_key : (line : ℕ) (text before key : Bytes) (o : Opened) → before ≡ before_first (is_byte colon) text → length before ≢ length text
    → key ≡ without_outer_blanks before → length key ≢ 0 → o ≡ opened_by (line_of line text)
    → Some o ≡ then_some (is_entry (line_of line text)) (opened_by (line_of line text))
with_key line text before key o cut less keyed some is =
    ap (λ x. Some x) is
    ∙ sym (ap (λ b. then_some b (opened_by (line_of line text)))
    (ap (λ b. b && not (is_empty (key_in text))) (some_cut (is_byte colon) text (λ e. less (ap length cut ∙ e)))
    ∙ ap (λ b. not b) (is_empty-folded (without_outer_blanks (before_first (is_byte colon) text))
    ∙ ap is_empty (ap without_outer_blanks (sym cut) ∙ sym keyed) ∙ filled key some)))

-- ---- what begins where one does

begun_by : (b : Bool) (x o : Opened) → Some x ≡ then_some b o → b ≡ true
begun_by true x o e = refl
begun_by false x o e = absurd cc

pub begun : (line : ℕ) (text : Bytes) (x : Opened) → Some x ≡ then_some (is_entry (line_of line text)) (opened_by (line_of line text))
    → is_entry (line_of line text) ≡ true
begun line text x e = begun_by (is_entry (line_of line text)) x (opened_by (line_of line text)) e
