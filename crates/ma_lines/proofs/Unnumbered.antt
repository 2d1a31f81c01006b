-- Lines without a text change nothing but the numbers of lines.
use Rattle.std.proofs.Common.{◌≡◌, ℕ, ◌+◌, Bool, true, false, cond, Option, Some, None, List, [], ◌∷◌, ◌++◌, map, refl, sym, ap, ◌∙◌}
use Rattle.std.specs.Prelude.{◌==◌, not, ◌||◌, ◌&&◌, if◌then◌else◌}
use Rattle.std.specs.List.{list_all, list_any, onto_first}
use Rattle.std.specs.Option.{option_map, unwrap_or}
use Rattle.std.specs.declared.result.Result.{Result}
use Rattle.std.proofs.lemmas.List.{map-append}
use Rattle.quantity.specs.Bytes.{Bytes, is_byte, is_empty}
use Rattle.source_text.specs.Lines.{Line, lines_of, text_of_line}
use Rattle.ma_lines.specs.declared.section.Entry.{Entry}
use Rattle.ma_lines.specs.declared.section.LineRefusal.{LineRefusal}
use Rattle.ma_lines.specs.declared.section.LineRefusal.TheVariants.{BadLine, DuplicateSection}
use Rattle.ma_lines.specs.Entries.{is_heading}
use Rattle.ma_lines.specs.Laws.{SkipsEmptyLines, without_line_numbers, unnumbered_entry, unnumbered_refusal, unnumbered_section}
use Rattle.ma_lines.specs.Reader.{line_of}
use Rattle.ma_lines.specs.Reading.{Opened, Reading, at_end, begun_by, braces_in, entry_with_text, names, next, opened_by, read_from, refused_in, reading_with_entry, unless, whole, with_entry}
use Rattle.ma_lines.specs.Sections.{Section, heading_refused, is_allowed, is_entry, line_refused, section_name, sections_of}
use Rattle.ma_lines.proofs.LineByLine.{IsOpen, read_line_by_line, stays_open}
use Rattle.ma_lines.proofs.Numbered.{numbered, pieces_of}
use Rattle.ma_lines.proofs.Steps.{empty_changes_nothing}

-- ---- a reading without the numbers of lines

abbrev bare : List Section → List Section
bare ss = map unnumbered_section ss

abbrev bare_opened : Opened → Opened
bare_opened e = record { line = 0; key = e.key; value = e.value; braces = e.braces }

abbrev bare_reading : Reading → Reading
bare_reading r = record { sections = bare r.sections; open_entry = option_map bare_opened r.open_entry }

abbrev bare_line : Line → Line
bare_line l = line_of 0 l.text

names-bare : (ss : List Section) → names (bare ss) ≡ names ss
names-bare [] = refl
names-bare (s ∷ ss) = ap (λ xs. s.name ∷ xs) (names-bare ss)

with_entry-bare : (e : Entry) (ss : List Section) → with_entry (unnumbered_entry e) (bare ss) ≡ bare (with_entry e ss)
with_entry-bare e [] = refl
with_entry-bare e (s ∷ []) = ap (λ es. record { line = 0; name = s.name; entries = es } ∷ []) (sym (map-append unnumbered_entry s.entries (e ∷ [])))
with_entry-bare e (s ∷ t ∷ ss) = ap (λ xs. unnumbered_section s ∷ xs) (with_entry-bare e (t ∷ ss))

settled_by : (b : Bool) (ss : List Section) (e : Opened)
    → (if b then record { sections = with_entry (whole (bare_opened e)) (bare ss); open_entry = None } else record { sections = bare ss; open_entry = Some (bare_opened e) })
    ≡ bare_reading (if b then record { sections = with_entry (whole e) ss; open_entry = None } else record { sections = ss; open_entry = Some e })
settled_by true ss e = ap (λ xs. record { sections = xs; open_entry = None }) (with_entry-bare (whole e) ss)
settled_by false ss e = refl

settled-bare : (ss : List Section) (e : Opened) → reading_with_entry (bare ss) (bare_opened e) ≡ bare_reading (reading_with_entry ss e)
settled-bare ss e = settled_by (e.braces == 0) ss e

chosen : (b : Bool) (r s r' s' : Reading) → r ≡ bare_reading r' → s ≡ bare_reading s' → (if b then r else s) ≡ bare_reading (if b then r' else s')
chosen true r s r' s' p q = p
chosen false r s r' s' p q = q

begun-bare : (ss : List Section) (l : Line) → begun_by (bare ss) (bare_line l) ≡ bare_reading (begun_by ss l)
begun-bare ss l =
    chosen (is_empty l.text) (record { sections = bare ss; open_entry = None }) _ (record { sections = ss; open_entry = None }) _ refl
    (chosen (is_heading l) _ (reading_with_entry (bare ss) (bare_opened (opened_by l))) _ (reading_with_entry ss (opened_by l))
    (ap (λ xs. record { sections = xs; open_entry = None })
    (sym (map-append unnumbered_section ss (record { line = l.number; name = unwrap_or (section_name l) []; entries = [] } ∷ []))))
    (settled-bare ss (opened_by l)))

next-bare : (r : Reading) (l : Line) → next (bare_reading r) (bare_line l) ≡ bare_reading (next r l)
next-bare r l = by r.sections r.open_entry
  where
    by : (ss : List Section) (o : Option Opened) → next (bare_reading (record { sections = ss; open_entry = o })) (bare_line l) ≡ bare_reading (next (record { sections = ss; open_entry = o }) l)
    by ss None = begun-bare ss l
    by ss (Some e) = settled-bare ss (entry_with_text e l.text)

-- ---- refusals

if_refused : (b : Bool) (line : ℕ) → (if b then Some (DuplicateSection 0) else None) ≡ option_map unnumbered_refusal (if b then Some (DuplicateSection line) else None)
if_refused true line = refl
if_refused false line = refl

heading-bare : (before : List Bytes) (line : ℕ) (name : Option Bytes) → heading_refused before 0 name ≡ option_map unnumbered_refusal (heading_refused before line name)
heading-bare before line None = refl
heading-bare before line (Some name) = if_refused _ line

by_cases : (a b c d : Bool) (line : ℕ) (h' h : Option LineRefusal) → h' ≡ option_map unnumbered_refusal h
    → (if a then Some (BadLine 0) else if b then None else if c then h' else if d then None else Some (BadLine 0))
    ≡ option_map unnumbered_refusal (if a then Some (BadLine line) else if b then None else if c then h else if d then None else Some (BadLine line))
by_cases true b c d line h' h e = refl
by_cases false true c d line h' h e = refl
by_cases false false true d line h' h e = e
by_cases false false false true line h' h e = refl
by_cases false false false false line h' h e = refl

line_refused-bare : (before : List Bytes) (n : ℕ) (l : Line)
    → line_refused before (record { braces = n; line = bare_line l }) ≡ option_map unnumbered_refusal (line_refused before (record { braces = n; line = l }))
line_refused-bare before n l =
    by_cases (not (list_all is_allowed l.text)) (not (n == 0) || is_empty l.text) (is_heading l) (is_entry l && not (is_empty before)) l.number
    (heading_refused before 0 (section_name l)) (heading_refused before l.number (section_name l)) (heading-bare before l.number (section_name l))

braces-bare : (o : Option Opened) → braces_in (option_map bare_opened o) ≡ braces_in o
braces-bare None = refl
braces-bare (Some e) = refl

refused-bare : (r : Reading) (l : Line) → refused_in (bare_reading r) (bare_line l) ≡ option_map unnumbered_refusal (refused_in r l)
refused-bare r l =
    ap (λ before. line_refused before (record { braces = braces_in (option_map bare_opened r.open_entry); line = bare_line l })) (names-bare r.sections)
    ∙ ap (λ n. line_refused (names r.sections) (record { braces = n; line = bare_line l })) (braces-bare r.open_entry)
    ∙ line_refused-bare (names r.sections) (braces_in r.open_entry) l

-- ---- what is read

unless-bare : (why : Option LineRefusal) (x : Result (List Section) LineRefusal) → unless (option_map unnumbered_refusal why) (without_line_numbers x) ≡ without_line_numbers (unless why x)
unless-bare None x = refl
unless-bare (Some why) x = refl

end-bare : (ss : List Section) (o : Option Opened) → at_end (bare ss) (option_map bare_opened o) ≡ without_line_numbers (at_end ss o)
end-bare ss None = refl
end-bare ss (Some e) = refl

read-bare : (ls : List Line) (r : Reading) → read_from (bare_reading r) (map bare_line ls) ≡ without_line_numbers (read_from r ls)
read-bare [] r = end-bare r.sections r.open_entry
read-bare (l ∷ ls) r =
    ap (λ why. unless why (read_from (next (bare_reading r) (bare_line l)) (map bare_line ls))) (refused-bare r l)
    ∙ ap (λ s. unless (option_map unnumbered_refusal (refused_in r l)) (read_from s (map bare_line ls))) (next-bare r l)
    ∙ ap (unless (option_map unnumbered_refusal (refused_in r l))) (read-bare ls (next r l))
    ∙ unless-bare (refused_in r l) (read_from (next r l) ls)

abbrev bare_lines : List Bytes → List Line
bare_lines ps = map (λ p. line_of 0 (text_of_line p)) ps

numbered-bare : (ps : List Bytes) (n : ℕ) → map bare_line (numbered n ps) ≡ bare_lines ps
numbered-bare [] n = refl
numbered-bare (p ∷ ps) n = ap (λ ls. line_of 0 (text_of_line p) ∷ ls) (numbered-bare ps (n + 1))

abbrev start : Reading
start = record { sections = []; open_entry = None }

unnumbered-read : (bytes : Bytes) → without_line_numbers (sections_of bytes) ≡ read_from start (bare_lines (pieces_of bytes))
unnumbered-read bytes =
    ap without_line_numbers (sym (read_line_by_line bytes)) ∙ sym (read-bare (lines_of bytes) start) ∙ ap (read_from start) (numbered-bare (pieces_of bytes) 1)

-- ---- a line without a text

or_true : (b : Bool) → (b || true) ≡ true
or_true true = refl
or_true false = refl

without_text : (before : List Line) (r : Reading) (after : List Line) → IsOpen r.open_entry → read_from r (before ++ line_of 0 [] ∷ after) ≡ read_from r (before ++ after)
without_text [] r after s =
    ap (λ b. unless (if b then None else Some (BadLine 0)) (read_from (next r (line_of 0 [])) after)) (or_true (not (braces_in r.open_entry == 0)))
    ∙ ap (λ q. read_from q after) (sym (empty_changes_nothing r.sections r.open_entry 0 [] s refl))
without_text (l ∷ ls) r after s =
    ap (unless (refused_in r l)) (without_text ls (next r l) after (stays_open r.sections r.open_entry l))

-- ---- files as pieces

onto_first-append : (c : ℕ) (ps qs : List Bytes) (p : Bytes) (rest : List Bytes) → ps ≡ p ∷ rest → onto_first c (ps ++ qs) ≡ onto_first c ps ++ qs
onto_first-append c ps qs p rest e = rw e refl

some_piece : (bytes : Bytes) → (p : Bytes) × (rest : List Bytes) × (pieces_of bytes ≡ p ∷ rest)
some_piece [] = ([], [], refl)
some_piece (c ∷ cs) = by (is_byte 10 c) (pieces_of cs)
  where
    first : (ps : List Bytes) → (p : Bytes) × (rest : List Bytes) × (onto_first c ps ≡ p ∷ rest)
    first [] = (c ∷ [], [], refl)
    first (p ∷ ps) = (c ∷ p, ps, refl)

    by : (b : Bool) (ps : List Bytes) → (p : Bytes) × (rest : List Bytes) × (cond b ([] ∷ ps) (onto_first c ps) ≡ p ∷ rest)
    by true ps = ([], ps, refl)
    by false ps = first ps

pub pieces-append : (before after : Bytes) → pieces_of (before ++ 10 ∷ after) ≡ pieces_of before ++ pieces_of after
pieces-append [] after = refl
pieces-append (c ∷ cs) after =
    by (is_byte 10 c) (pieces-append cs after) (some_piece cs)
  where
    by : (b : Bool) → pieces_of (cs ++ 10 ∷ after) ≡ pieces_of cs ++ pieces_of after → (p : Bytes) × (rest : List Bytes) × (pieces_of cs ≡ p ∷ rest)
        → cond b ([] ∷ pieces_of (cs ++ 10 ∷ after)) (onto_first c (pieces_of (cs ++ 10 ∷ after))) ≡ cond b ([] ∷ pieces_of cs) (onto_first c (pieces_of cs)) ++ pieces_of after
    by true e some = ap (λ ps. [] ∷ ps) e
    by false e some = ap (onto_first c) e ∙ onto_first-append c (pieces_of cs) (pieces_of after) some.0 some.1 some.2

pub one_piece : (line : Bytes) → list_any (is_byte 10) line ≡ false → pieces_of line ≡ line ∷ []
one_piece [] h = refl
one_piece (c ∷ cs) h = by (is_byte 10 c) h (one_piece cs)
  where
    by : (b : Bool) → (b || list_any (is_byte 10) cs) ≡ false → (list_any (is_byte 10) cs ≡ false → pieces_of cs ≡ cs ∷ [])
        → cond b ([] ∷ pieces_of cs) (onto_first c (pieces_of cs)) ≡ (c ∷ cs) ∷ []
    by true h ih = cc
    by false h ih = ap (onto_first c) (ih h)

skipped : (ps : List Bytes) (line : Bytes) (qs : List Bytes) → text_of_line line ≡ [] → read_from start (bare_lines (ps ++ line ∷ qs)) ≡ read_from start (bare_lines (ps ++ qs))
skipped ps line qs e =
    ap (read_from start) (map-append (λ p. line_of 0 (text_of_line p)) ps (line ∷ qs))
    ∙ ap (λ t. read_from start (bare_lines ps ++ line_of 0 t ∷ bare_lines qs)) e
    ∙ without_text (bare_lines ps) start (bare_lines qs) tt
    ∙ ap (read_from start) (sym (map-append (λ p. line_of 0 (text_of_line p)) ps qs))

pub skips_empty_lines : SkipsEmptyLines
skips_empty_lines =
    record {
      between = λ before line after one empty.
          unnumbered-read (before ++ 10 ∷ (line ++ 10 ∷ after))
          ∙ ap (λ ps. read_from start (bare_lines ps))
          (pieces-append before (line ++ 10 ∷ after) ∙ ap (λ ps. pieces_of before ++ ps) (pieces-append line after ∙ ap (λ ps. ps ++ pieces_of after) (one_piece line one)))
          ∙ skipped (pieces_of before) line (pieces_of after) empty
          ∙ sym (unnumbered-read (before ++ 10 ∷ after) ∙ ap (λ ps. read_from start (bare_lines ps)) (pieces-append before after));
      above = λ line after one empty.
          unnumbered-read (line ++ 10 ∷ after)
          ∙ ap (λ ps. read_from start (bare_lines ps)) (pieces-append line after ∙ ap (λ ps. ps ++ pieces_of after) (one_piece line one))
          ∙ skipped [] line (pieces_of after) empty
          ∙ sym (unnumbered-read after);
    }
