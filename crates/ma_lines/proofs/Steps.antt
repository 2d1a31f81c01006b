-- What one line changes: bounds, and lines that change nothing.
use Rattle.std.proofs.Common.{◌≡◌, ◌≢◌, ℕ, ◌+◌, ◌-◌, ◌<◌, ◌≤◌, Bool, true, false, cond, ◌&&◌, Option, Some, None, List, [], ◌∷◌, ◌++◌, length, refl, sym, ap, ◌∙◌, append-nil, length-drop, length-take, arith}
use Rattle.std.specs.Prelude.{◌==◌, not, reverse, if◌then◌else◌}
use Rattle.std.specs.List.{list_all, list_any, after_first}
use Rattle.std.proofs.lemmas.Bool.Decides.{nat_tests}
use Rattle.std.proofs.lemmas.List.{length-reverse}
use Rattle.std.specs.Option.{option_map, unwrap_or, ForSome}
use Rattle.quantity.specs.Bytes.{Bytes, is_blank, is_byte, is_empty, begins_with, without_outer_blanks, without_blanks_before, open_after}
use Rattle.source_text.specs.Lines.{Line, text_of_line, without_first, without_return, without_comment}
use Rattle.ma_lines.specs.declared.open_entry.OpenEntry.{OpenEntry}
use Rattle.ma_lines.specs.declared.section.LineRefusal.TheVariants.{BadLine}
use Rattle.ma_lines.specs.Entries.{is_heading, braces_after, key_in}
use Rattle.ma_lines.specs.Sections.{Section, is_allowed, section_name}
use Rattle.ma_lines.specs.Reading.{Opened, Reading, names, whole, with_entry, opened_by, entry_with_text, reading_with_entry, begun_by, next, next_with, braces_in, refused_in}
use Rattle.ma_lines.specs.Reader.{line_of, opened_of}
use Rattle.ma_lines.proofs.LineByLine.{IsOpen}

-- ---- a line's text is no longer than the line

if_le : (b : Bool) (m n k : ℕ) → m ≤ k → n ≤ k → cond b m n ≤ k
if_le true m n k p q = p
if_le false m n k p q = q

length-if : (b : Bool) (xs ys : Bytes) → length (cond b xs ys) ≡ cond b (length xs) (length ys)
length-if true xs ys = refl
length-if false xs ys = refl

without_blanks_le : (text : Bytes) → length (without_blanks_before text) ≤ length text
without_blanks_le [] = omega arith
without_blanks_le (c ∷ cs) =
    rw (length-if (is_blank c) (without_blanks_before cs) (c ∷ cs))
    (if_le (is_blank c) (length (without_blanks_before cs)) (length (c ∷ cs)) (length (c ∷ cs)) (omega (arith, without_blanks_le cs)) (omega arith))

trimmed_le : (text : Bytes) → length (without_outer_blanks text) ≤ length text
trimmed_le text =
    omega (
      arith,
      length-reverse (without_blanks_before (reverse (without_blanks_before text))),
      without_blanks_le (reverse (without_blanks_before text)),
      length-reverse (without_blanks_before text),
      without_blanks_le text,
    )

without_first_le : (c : ℕ) (text : Bytes) → length (without_first c text) ≤ length text
without_first_le c [] = omega arith
without_first_le c (d ∷ ds) = rw (length-if (c == d) ds (d ∷ ds)) (if_le (c == d) (length ds) (length (d ∷ ds)) (length (d ∷ ds)) (omega arith) (omega arith))

without_return_le : (line : Bytes) → length (without_return line) ≤ length line
without_return_le line =
    omega (arith, length-reverse (without_first 13 (reverse line)), without_first_le 13 (reverse line), length-reverse line)

without_comment_le : (line : Bytes) → length (without_comment line) ≤ length line
without_comment_le line = simp length-take (omega arith)

pub text_within : (line : Bytes) → length (text_of_line line) ≤ length line
text_within line =
    omega (arith, trimmed_le (without_comment (without_return line)), without_comment_le (without_return line), without_return_le line)

-- ---- braces

opened_le : (n c : ℕ) → open_after (is_byte 123) (is_byte 125) n c ≤ n + 1
opened_le n c = if_le (is_byte 123 c) (n + 1) (cond (is_byte 125 c) (n - 1) n) (n + 1) (omega arith) (if_le (is_byte 125 c) (n - 1) n (n + 1) (omega arith) (omega arith))

pub braces_after_le : (text : Bytes) (n : ℕ) → braces_after n text ≤ n + length text
braces_after_le [] n = omega arith
braces_after_le (c ∷ cs) n = omega (arith, braces_after_le cs (open_after (is_byte 123) (is_byte 125) n c), opened_le n c)

settled_by : (b : Bool) (r : Reading) (ss : List Section) (e : Opened) → braces_in r.open_entry ≡ 0 → braces_in (if b then r else record { sections = ss; open_entry = Some e }).open_entry ≤ e.braces
settled_by true r ss e h = omega arith
settled_by false r ss e h = omega arith

settled_le : (ss : List Section) (e : Opened) → braces_in (reading_with_entry ss e).open_entry ≤ e.braces
settled_le ss e = settled_by (e.braces == 0) (record { sections = with_entry (whole e) ss; open_entry = None }) ss e refl

after_first_le : (text : Bytes) → length (after_first (is_byte 58) text) ≤ length text
after_first_le text = simp length-drop (omega arith)

if_open_le : (b : Bool) (r s : Reading) (k : ℕ) → braces_in r.open_entry ≤ k → braces_in s.open_entry ≤ k → braces_in (if b then r else s).open_entry ≤ k
if_open_le true r s k p q = p
if_open_le false r s k p q = q

if_braces_le : (b : Bool) (text : Bytes) → (if b then 0 else braces_after 0 (after_first (is_byte 58) text)) ≤ length text
if_braces_le true text = omega arith
if_braces_le false text = omega (arith, braces_after_le (after_first (is_byte 58) text) 0, after_first_le text)

begun_le : (ss : List Section) (l : Line) → braces_in (begun_by ss l).open_entry ≤ length l.text
begun_le ss l =
    if_open_le (is_empty l.text) (record { sections = ss; open_entry = None }) _ (length l.text) (omega arith)
    (if_open_le (is_heading l) (record { sections = ss ++ record { line = l.number; name = unwrap_or (section_name l) []; entries = [] } ∷ []; open_entry = None })
    (reading_with_entry ss (opened_by l)) (length l.text) (omega arith)
    (omega (arith, settled_le ss (opened_by l), if_braces_le (is_heading l) l.text)))

pub next_le : (ss : List Section) (o : Option Opened) (l : Line) → braces_in (next_with ss o l).open_entry ≤ braces_in o + length l.text
next_le ss None l = omega (arith, begun_le ss l)
next_le ss (Some e) l = omega (arith, settled_le ss (entry_with_text e l.text), braces_after_le l.text e.braces)

-- ---- lines that change nothing, and lines that aren't refused

pub still_open : (o : Option OpenEntry) → ForSome o (λ e. 0 < e.braces) → IsOpen (option_map opened_of o)
still_open None h = tt
still_open (Some e) h = positive (h e refl)
  where
    positive : 0 < e.braces → (e.braces == 0) ≡ false
    positive p = grind (arith, nat_tests)

pub empty_changes_nothing : (ss : List Section) (o : Option Opened) (number : ℕ) (text : Bytes) → IsOpen o → text ≡ []
    → record { sections = ss; open_entry = o } ≡ next (record { sections = ss; open_entry = o }) (line_of number text)
empty_changes_nothing ss None number text s e = ap (λ t. next (record { sections = ss; open_entry = None }) (line_of number t)) (sym e)
empty_changes_nothing ss (Some x) number text s e =
    (rw s (ap (λ v. record { sections = ss; open_entry = Some (record { line = x.line; key = x.key; value = v; braces = x.braces }) }) (sym (append-nil x.value))))
    ∙ ap (λ t. next (record { sections = ss; open_entry = Some x }) (line_of number t)) (sym e)

pub empty_text : (text : Bytes) → length text ≡ 0 → text ≡ []
empty_text [] e = refl
empty_text (c ∷ cs) e = absurd (omega arith)

pub not_allowed : (r : Reading) (number : ℕ) (text : Bytes) → list_all is_allowed text ≡ false → refused_in r (line_of number text) ≡ Some (BadLine number)
not_allowed r number text allowed = rw allowed refl

pub joined_allowed : (ss : List Section) (x : Opened) (number : ℕ) (text : Bytes) → IsOpen (Some x) → list_all is_allowed text ≡ true
    → refused_in (record { sections = ss; open_entry = Some x }) (line_of number text) ≡ None
joined_allowed ss x number text s allowed = rw (allowed, s) refl

some_names : (ss : List Section) → ss ≢ [] → is_empty (names ss) ≡ false
some_names [] h = absurd (h refl)
some_names (s ∷ ss) h = refl

pub entry_allowed : (ss : List Section) (o : Option Opened) (number : ℕ) (text : Bytes) → o ≡ None → list_all is_allowed text ≡ true → begins_with 91 text ≡ false
    → (list_any (is_byte 58) text && not (is_empty (key_in text))) ≡ true → ss ≢ []
    → refused_in (record { sections = ss; open_entry = o }) (line_of number text) ≡ None
entry_allowed ss o number [] between allowed other entry some =
    rw between refl
entry_allowed ss o number (c ∷ cs) between allowed other entry some =
    rw (between, allowed, other, entry, some_names ss some) refl
