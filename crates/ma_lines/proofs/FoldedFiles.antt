-- Files in lower-case letters.
use Rattle.std.proofs.Common.{◌≡◌, ℕ, ◌+◌, Bool, true, false, Option, Some, None, List, [], ◌∷◌, ◌++◌, map, refl, sym, ap, ◌∙◌}
use Rattle.std.specs.Prelude.{◌==◌, not, ◌||◌, ◌&&◌, if◌then◌else◌}
use Rattle.std.specs.List.{after_first, list_all, list_any}
use Rattle.std.specs.Option.{option_map, unwrap_or}
use Rattle.std.specs.declared.result.Result.{Result}
use Rattle.std.proofs.lemmas.List.{map-append}
use Rattle.std.specs.Char.{to_ascii_lowercase}
use Rattle.quantity.specs.Bytes.{Bytes, begins_with, is_byte, is_empty}
use Rattle.source_text.specs.Lines.{Line, in_lower_case, lines_of, text_of_line}
use Rattle.ma_lines.specs.declared.section.Entry.{Entry}
use Rattle.ma_lines.specs.declared.section.LineRefusal.{LineRefusal}
use Rattle.ma_lines.specs.declared.section.LineRefusal.TheVariants.{BadLine}
use Rattle.ma_lines.specs.Entries.{after_space, braces_after, is_heading, keeps_letters, key_in, value_after}
use Rattle.ma_lines.specs.Laws.{FoldsLetters, folded_entry, folded_section, with_folded_values}
use Rattle.ma_lines.specs.Reader.{line_of}
use Rattle.ma_lines.specs.Reading.{Opened, Reading, at_end, begun_by, braces_in, entry_with_text, names, next, opened_by, read_from, refused_in, reading_with_entry, unless, whole, with_entry}
use Rattle.ma_lines.specs.Sections.{Section, heading_refused, is_allowed, is_entry, line_refused, section_name}
use Rattle.ma_lines.proofs.Letters.{allowed-folded, braces_after-folded, braces_in_value-folded, bracket, has_colon-folded, is_empty-folded, key_in-folded, name-folded, pieces-folded, text_of_line-folded, value_after-folded}
use Rattle.ma_lines.proofs.LineByLine.{read_line_by_line}
use Rattle.ma_lines.proofs.Numbered.{numbered, pieces_of}

abbrev lower : List Section → List Section
lower ss = map folded_section ss

abbrev lower_opened : Opened → Opened
lower_opened e = record { line = e.line; key = e.key; value = in_lower_case e.value; braces = e.braces }

abbrev lower_reading : Reading → Reading
lower_reading r = record { sections = lower r.sections; open_entry = option_map lower_opened r.open_entry }

abbrev lower_line : Line → Line
lower_line l = line_of l.number (in_lower_case l.text)

names-lower : (ss : List Section) → names (lower ss) ≡ names ss
names-lower [] = refl
names-lower (s ∷ ss) = ap (λ xs. s.name ∷ xs) (names-lower ss)

with_entry-lower : (e : Entry) (ss : List Section) → with_entry (folded_entry e) (lower ss) ≡ lower (with_entry e ss)
with_entry-lower e [] = refl
with_entry-lower e (s ∷ []) = ap (λ es. record { line = s.line; name = s.name; entries = es } ∷ []) (sym (map-append folded_entry s.entries (e ∷ [])))
with_entry-lower e (s ∷ t ∷ ss) = ap (λ xs. folded_section s ∷ xs) (with_entry-lower e (t ∷ ss))

value_by : (b : Bool) (v : Bytes) → (if b then in_lower_case v else in_lower_case (in_lower_case v)) ≡ in_lower_case (if b then v else in_lower_case v)
value_by true v = refl
value_by false v = refl

whole-lower : (e : Opened) → whole (lower_opened e) ≡ folded_entry (whole e)
whole-lower e = ap (λ v. record { line = e.line; key = e.key; value = v }) (value_by (keeps_letters e.key) e.value)

settled_by : (b : Bool) (ss : List Section) (e : Opened)
    → (if b then record { sections = with_entry (whole (lower_opened e)) (lower ss); open_entry = None } else record { sections = lower ss; open_entry = Some (lower_opened e) })
    ≡ lower_reading (if b then record { sections = with_entry (whole e) ss; open_entry = None } else record { sections = ss; open_entry = Some e })
settled_by true ss e =
    ap (λ x. record { sections = with_entry x (lower ss); open_entry = None }) (whole-lower e)
    ∙ ap (λ xs. record { sections = xs; open_entry = None }) (with_entry-lower (whole e) ss)
settled_by false ss e = refl

settled-lower : (ss : List Section) (e : Opened) → reading_with_entry (lower ss) (lower_opened e) ≡ lower_reading (reading_with_entry ss e)
settled-lower ss e = settled_by (e.braces == 0) ss e

-- ---- a line in lower-case letters

heading-lower : (text : Bytes) → begins_with 91 (in_lower_case text) ≡ begins_with 91 text
heading-lower [] = refl
heading-lower (c ∷ cs) = bracket c

opened-lower : (l : Line) → opened_by (lower_line l) ≡ lower_opened (opened_by l)
opened-lower l =
    ap (λ k. record { line = l.number; key = k; value = value_after (in_lower_case l.text); braces = if begins_with 91 (in_lower_case l.text) then 0 else braces_after 0 (after_first (is_byte 58) (in_lower_case l.text)) }) (key_in-folded l.text)
    ∙ ap (λ v. record { line = l.number; key = key_in l.text; value = v; braces = if begins_with 91 (in_lower_case l.text) then 0 else braces_after 0 (after_first (is_byte 58) (in_lower_case l.text)) }) (value_after-folded l.text)
    ∙ ap (λ b. record { line = l.number; key = key_in l.text; value = in_lower_case (value_after l.text); braces = if b then 0 else braces_after 0 (after_first (is_byte 58) (in_lower_case l.text)) }) (heading-lower l.text)
    ∙ ap (λ n. record { line = l.number; key = key_in l.text; value = in_lower_case (value_after l.text); braces = if begins_with 91 l.text then 0 else n }) (braces_in_value-folded l.text)

after_space-lower : (text : Bytes) → after_space (in_lower_case text) ≡ in_lower_case (after_space text)
after_space-lower [] = refl
after_space-lower (c ∷ cs) = refl

joined-lower : (e : Opened) (text : Bytes) → entry_with_text (lower_opened e) (in_lower_case text) ≡ lower_opened (entry_with_text e text)
joined-lower e text =
    ap (λ t. record { line = e.line; key = e.key; value = in_lower_case e.value ++ t; braces = braces_after e.braces (in_lower_case text) }) (after_space-lower text)
    ∙ ap (λ v. record { line = e.line; key = e.key; value = v; braces = braces_after e.braces (in_lower_case text) }) (sym (map-append to_ascii_lowercase e.value (after_space text)))
    ∙ ap (λ n. record { line = e.line; key = e.key; value = in_lower_case (e.value ++ after_space text); braces = n }) (braces_after-folded text e.braces)

chosen : (b : Bool) (r s r' s' : Reading) → r ≡ lower_reading r' → s ≡ lower_reading s' → (if b then r else s) ≡ lower_reading (if b then r' else s')
chosen true r s r' s' p q = p
chosen false r s r' s' p q = q

abbrev begun : List Section → ℕ → Option Bytes → List Section
begun ss line name = ss ++ record { line = line; name = unwrap_or name []; entries = [] } ∷ []

begun-lower : (ss : List Section) (l : Line) → begun_by (lower ss) (lower_line l) ≡ lower_reading (begun_by ss l)
begun-lower ss l =
    ap (λ b. if b then record { sections = lower ss; open_entry = None } else if begins_with 91 (in_lower_case l.text) then record { sections = begun (lower ss) l.number (section_name (lower_line l)); open_entry = None } else reading_with_entry (lower ss) (opened_by (lower_line l)))
    (is_empty-folded l.text)
    ∙ ap (λ b. if is_empty l.text then record { sections = lower ss; open_entry = None } else if b then record { sections = begun (lower ss) l.number (section_name (lower_line l)); open_entry = None } else reading_with_entry (lower ss) (opened_by (lower_line l)))
    (heading-lower l.text)
    ∙ chosen (is_empty l.text) (record { sections = lower ss; open_entry = None }) _ (record { sections = ss; open_entry = None }) _ refl
    (chosen (is_heading l) _ (reading_with_entry (lower ss) (opened_by (lower_line l))) _ (reading_with_entry ss (opened_by l))
    (ap (λ name. record { sections = begun (lower ss) l.number name; open_entry = None }) (name-folded l.text)
    ∙ ap (λ xs. record { sections = xs; open_entry = None }) (sym (map-append folded_section ss (record { line = l.number; name = unwrap_or (section_name l) []; entries = [] } ∷ []))))
    (ap (reading_with_entry (lower ss)) (opened-lower l) ∙ settled-lower ss (opened_by l)))

next-lower : (r : Reading) (l : Line) → next (lower_reading r) (lower_line l) ≡ lower_reading (next r l)
next-lower r l = by r.sections r.open_entry
  where
    by : (ss : List Section) (o : Option Opened) → next (lower_reading (record { sections = ss; open_entry = o })) (lower_line l) ≡ lower_reading (next (record { sections = ss; open_entry = o }) l)
    by ss None = begun-lower ss l
    by ss (Some e) = ap (reading_with_entry (lower ss)) (joined-lower e l.text) ∙ settled-lower ss (entry_with_text e l.text)

-- ---- refusals

abbrev decided : ℕ → Bool → Bool → Bool → Bool → Option LineRefusal → Option LineRefusal
decided line a b c d h = if not a then Some (BadLine line) else if b then None else if c then h else if d then None else Some (BadLine line)

entry-lower : (text : Bytes) → (list_any (is_byte 58) (in_lower_case text) && not (is_empty (key_in (in_lower_case text)))) ≡ (list_any (is_byte 58) text && not (is_empty (key_in text)))
entry-lower text =
    ap (λ b. b && not (is_empty (key_in (in_lower_case text)))) (has_colon-folded text)
    ∙ ap (λ key. list_any (is_byte 58) text && not (is_empty key)) (key_in-folded text)

line_refused-lower : (before : List Bytes) (n : ℕ) (l : Line) → line_refused before (record { braces = n; line = lower_line l }) ≡ line_refused before (record { braces = n; line = l })
line_refused-lower before n l =
    let line = l.number in
    let t = in_lower_case l.text in
    ap (λ a. decided line a (not (n == 0) || is_empty t) (begins_with 91 t) (is_entry (lower_line l) && not (is_empty before)) (heading_refused before line (section_name (lower_line l)))) (allowed-folded l.text)
    ∙ ap (λ b. decided line (list_all is_allowed l.text) (not (n == 0) || b) (begins_with 91 t) (is_entry (lower_line l) && not (is_empty before)) (heading_refused before line (section_name (lower_line l)))) (is_empty-folded l.text)
    ∙ ap (λ b. decided line (list_all is_allowed l.text) (not (n == 0) || is_empty l.text) b (is_entry (lower_line l) && not (is_empty before)) (heading_refused before line (section_name (lower_line l)))) (heading-lower l.text)
    ∙ ap (λ b. decided line (list_all is_allowed l.text) (not (n == 0) || is_empty l.text) (is_heading l) (b && not (is_empty before)) (heading_refused before line (section_name (lower_line l)))) (entry-lower l.text)
    ∙ ap (λ name. decided line (list_all is_allowed l.text) (not (n == 0) || is_empty l.text) (is_heading l) (is_entry l && not (is_empty before)) (heading_refused before line name)) (name-folded l.text)

braces-lower : (o : Option Opened) → braces_in (option_map lower_opened o) ≡ braces_in o
braces-lower None = refl
braces-lower (Some e) = refl

refused-lower : (r : Reading) (l : Line) → refused_in (lower_reading r) (lower_line l) ≡ refused_in r l
refused-lower r l =
    ap (λ before. line_refused before (record { braces = braces_in (option_map lower_opened r.open_entry); line = lower_line l })) (names-lower r.sections)
    ∙ ap (λ n. line_refused (names r.sections) (record { braces = n; line = lower_line l })) (braces-lower r.open_entry)
    ∙ line_refused-lower (names r.sections) (braces_in r.open_entry) l

-- ---- what is read

unless-lower : (why : Option LineRefusal) (x : Result (List Section) LineRefusal) → unless why (with_folded_values x) ≡ with_folded_values (unless why x)
unless-lower None x = refl
unless-lower (Some why) x = refl

end-lower : (ss : List Section) (o : Option Opened) → at_end (lower ss) (option_map lower_opened o) ≡ with_folded_values (at_end ss o)
end-lower ss None = refl
end-lower ss (Some e) = refl

read-lower : (ls : List Line) (r : Reading) → read_from (lower_reading r) (map lower_line ls) ≡ with_folded_values (read_from r ls)
read-lower [] r = end-lower r.sections r.open_entry
read-lower (l ∷ ls) r =
    ap (λ why. unless why (read_from (next (lower_reading r) (lower_line l)) (map lower_line ls))) (refused-lower r l)
    ∙ ap (λ s. unless (refused_in r l) (read_from s (map lower_line ls))) (next-lower r l)
    ∙ ap (unless (refused_in r l)) (read-lower ls (next r l))
    ∙ unless-lower (refused_in r l) (read_from (next r l) ls)

numbered-lower : (ps : List Bytes) (n : ℕ) → numbered n (map in_lower_case ps) ≡ map lower_line (numbered n ps)
numbered-lower [] n = refl
numbered-lower (p ∷ ps) n =
    ap (λ t. line_of n t ∷ numbered (n + 1) (map in_lower_case ps)) (text_of_line-folded p)
    ∙ ap (λ ls. line_of n (in_lower_case (text_of_line p)) ∷ ls) (numbered-lower ps (n + 1))

pub folds_letters : FoldsLetters
folds_letters bytes =
    let start : Reading = record { sections = []; open_entry = None } in
    sym (read_line_by_line (in_lower_case bytes))
    ∙ ap (λ ps. read_from start (numbered 1 ps)) (pieces-folded bytes)
    ∙ ap (read_from start) (numbered-lower (pieces_of bytes) 1)
    ∙ read-lower (lines_of bytes) start
    ∙ ap with_folded_values (read_line_by_line bytes)
