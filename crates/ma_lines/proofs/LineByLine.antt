-- A file read line by line has the sections, or the refusal, that it has as a whole.
use Rattle.std.proofs.Common.{◌≡◌, ◌≢◌, ℕ, zero, suc, Bool, true, false, Option, Some, None, List, [], ◌∷◌, ◌++◌, refl, sym, ap, ◌∙◌, append_assoc, append-nil, true≢false, arith}
use Rattle.std.proofs.lemmas.Bool.Decides.{nat_tests}
use Rattle.std.specs.Prelude.{◌==◌, not, if◌then◌else◌}
use Rattle.std.specs.List.{list_all, after_first}
use Rattle.std.specs.Option.{option_or, option_map, unwrap_or}
use Rattle.std.specs.declared.result.Result.{Result}
use Rattle.std.specs.declared.result.Result.TheVariants.{Ok, Err}
use Rattle.quantity.specs.Bytes.{Bytes, is_empty, is_byte}
use Rattle.source_text.specs.Lines.{Line, lines_of}
use Rattle.ma_lines.specs.declared.section.Entry.{Entry}
use Rattle.ma_lines.specs.declared.section.LineRefusal.{LineRefusal}
use Rattle.ma_lines.specs.declared.section.LineRefusal.TheVariants.{BadLine}
use Rattle.ma_lines.specs.Entries.{is_heading, lines_with_braces, braces_after, braces_after_line, continuation, after_space, key_in, value_after, entry_of}
use Rattle.ma_lines.specs.Sections.{Section, Piece, heading, item, pieces, piece_of, first_entries, sections_in, section_name, line_refused, first_refused, begun_names, is_allowed, left_open, lines_refused, unless_refused, sections_of}
use Rattle.ma_lines.specs.Reading.{names, with_entry, Opened, Reading, whole, opened_by, entry_with_text, reading_with_entry, begun_by, next_with, braced_in, unless, read_from}

-- ---- pieces laid behind sections

abbrev laid : List Section → List Piece → List Section
laid ss [] = ss
laid ss (heading line name ∷ ps) = laid (ss ++ record { line = line; name = name; entries = [] } ∷ []) ps
laid ss (item e ∷ ps) = laid (with_entry e ss) ps

with_entries : List Entry → List Section → List Section
with_entries [] ss = ss
with_entries (e ∷ es) ss = with_entries es (with_entry e ss)

with_entry-last : (e : Entry) (ss : List Section) (s : Section)
    → with_entry e (ss ++ s ∷ []) ≡ ss ++ record { line = s.line; name = s.name; entries = s.entries ++ e ∷ [] } ∷ []
with_entry-last e [] s = refl
with_entry-last e (t ∷ []) s = refl
with_entry-last e (t ∷ u ∷ ss) s = ap (λ xs. t ∷ xs) (with_entry-last e (u ∷ ss) s)

with_entries-last : (es : List Entry) (ss : List Section) (line : ℕ) (name : Bytes) (before : List Entry)
    → with_entries es (ss ++ record { line = line; name = name; entries = before } ∷ []) ≡ ss ++ record { line = line; name = name; entries = before ++ es } ∷ []
unfolding with_entries
with_entries-last [] ss line name before =
    ap (λ es. ss ++ record { line = line; name = name; entries = es } ∷ []) (sym (append-nil before))
with_entries-last (e ∷ es) ss line name before =
    ap (with_entries es) (with_entry-last e ss (record { line = line; name = name; entries = before }))
    ∙ with_entries-last es ss line name (before ++ e ∷ [])
    ∙ ap (λ xs. ss ++ record { line = line; name = name; entries = xs } ∷ []) (append_assoc before (e ∷ []) es)

laid-parts : (ps : List Piece) (ss : List Section) → laid ss ps ≡ with_entries (first_entries ps) ss ++ sections_in ps
unfolding with_entries
laid-parts [] ss = sym (append-nil ss)
laid-parts (heading line name ∷ ps) ss =
    laid-parts ps (ss ++ record { line = line; name = name; entries = [] } ∷ [])
    ∙ ap (λ xs. xs ++ sections_in ps) (with_entries-last (first_entries ps) ss line name [])
    ∙ append_assoc ss (record { line = line; name = name; entries = first_entries ps } ∷ []) (sections_in ps)
laid-parts (item e ∷ ps) ss = laid-parts ps (with_entry e ss)

with_entries-none : (es : List Entry) → with_entries es [] ≡ []
unfolding with_entries
with_entries-none [] = refl
with_entries-none (e ∷ es) = with_entries-none es

laid-none : (ps : List Piece) → laid [] ps ≡ sections_in ps
laid-none ps = laid-parts ps [] ∙ ap (λ xs. xs ++ sections_in ps) (with_entries-none (first_entries ps))

names-with_entry : (e : Entry) (ss : List Section) → names (with_entry e ss) ≡ names ss
names-with_entry e [] = refl
names-with_entry e (s ∷ []) = refl
names-with_entry e (s ∷ t ∷ ss) = ap (λ xs. s.name ∷ xs) (names-with_entry e (t ∷ ss))

names-append : (ss : List Section) (s : Section) → names (ss ++ s ∷ []) ≡ names ss ++ s.name ∷ []
names-append [] s = refl
names-append (t ∷ ss) s = ap (λ xs. t.name ∷ xs) (names-append ss s)

-- ---- what a reading is to give

abbrev fine : List Section → Result (List Section) LineRefusal
fine ss = Ok ss

positive : (n : ℕ) → (suc n == 0) ≡ false
positive n = grind (arith, nat_tests)

abbrev refused_behind : List Bytes → Option ℕ → ℕ → List Line → Option LineRefusal
refused_behind before first n ls =
    option_or (first_refused before (lines_with_braces n ls)) (option_map (λ line. BadLine line) (left_open first n ls))

-- of an entry with n braces open after its lines so far
abbrev given_within : List Section → ℕ → Bytes → Bytes → ℕ → List Line → Result (List Section) LineRefusal
given_within ss line key value n ls =
    unless (refused_behind (names ss) (Some line) n ls)
    (Ok (laid ss (item (whole (record { line = line; key = key; value = value ++ continuation (lines_with_braces n ls); braces = 0 })) ∷ pieces (lines_with_braces n ls))))

abbrev given_between : List Section → List Line → Result (List Section) LineRefusal
given_between ss ls = unless (refused_behind (names ss) None 0 ls) (Ok (laid ss (pieces (lines_with_braces 0 ls))))

abbrev given : List Section → Option Opened → List Line → Result (List Section) LineRefusal
given ss None ls = given_between ss ls
given ss (Some e) ls = given_within ss e.line e.key e.value e.braces ls

-- an entry whose braces are closed is in its section, and nothing continues it
settled-given : (ss : List Section) (line : ℕ) (key value : Bytes) (n : ℕ) (ls : List Line)
    → given (reading_with_entry ss (record { line = line; key = key; value = value; braces = n })).sections (reading_with_entry ss (record { line = line; key = key; value = value; braces = n })).open_entry ls
    ≡ given_within ss line key value n ls
settled-given ss line key value zero [] =
    ap (λ v. fine (with_entry (whole (record { line = line; key = key; value = v; braces = 0 })) ss)) (sym (append-nil value))
settled-given ss line key value zero (l ∷ ls) =
    ap (λ xs. unless (refused_behind xs None 0 (l ∷ ls)) (fine (laid (with_entry (whole (record { line = line; key = key; value = value; braces = 0 })) ss) (pieces (lines_with_braces 0 (l ∷ ls))))))
    (names-with_entry (whole (record { line = line; key = key; value = value; braces = 0 })) ss)
    ∙ ap (λ v. unless (refused_behind (names ss) None 0 (l ∷ ls)) (fine (laid (with_entry (whole (record { line = line; key = key; value = v; braces = 0 })) ss) (pieces (lines_with_braces 0 (l ∷ ls))))))
    (sym (append-nil value))
settled-given ss line key value (suc n) ls = rw (positive n) refl

-- braces are open in the entry that is open
abbrev pub IsOpen : Option Opened → Type 0
IsOpen None = Unit {0}
IsOpen (Some e) = (e.braces == 0) ≡ false

unless-or : {A : Type 0} (a b c : Option LineRefusal) (r : Result A LineRefusal) → unless (option_or (option_or a b) c) r ≡ unless a (unless (option_or b c) r)
unless-or None b c r = refl
unless-or (Some why) b c r = refl

left_open-closed : (first : Option ℕ) (ls : List Line) → left_open first 0 ls ≡ left_open None 0 ls
left_open-closed first [] = refl
left_open-closed first (l ∷ ls) = refl

-- what stands behind a line that isn't refused
abbrev behind : List Section → Option ℕ → List Bytes → ℕ → List Line → List Piece → Result (List Section) LineRefusal
behind ss first before n ls ps = unless (refused_behind before first n ls) (Ok (laid ss ps))

taken_within : (ss : List Section) (line : ℕ) (key value : Bytes) (n : ℕ) (l : Line) (ls : List Line) → (n == 0) ≡ false
    → unless (line_refused (names ss) (record { braces = n; line = l }))
    (given (reading_with_entry ss (entry_with_text (record { line = line; key = key; value = value; braces = n }) l.text)).sections
    (reading_with_entry ss (entry_with_text (record { line = line; key = key; value = value; braces = n }) l.text)).open_entry ls)
    ≡ given_within ss line key value n (l ∷ ls)
taken_within ss line key value zero l ls s = absurd (true≢false s)
taken_within ss line key value (suc n) l ls s =
    rw (positive n) (let now : Option LineRefusal = if not (list_all is_allowed l.text) then Some (BadLine l.number) else None in
    let m = braces_after (suc n) l.text in
    let more = continuation (lines_with_braces m ls) in
    ap (unless now) (settled-given ss line key (value ++ after_space l.text) m ls)
    ∙ ap (λ v. unless now (behind ss (Some line) (names ss) m ls (item (whole (record { line = line; key = key; value = v; braces = 0 })) ∷ pieces (lines_with_braces m ls))))
    (append_assoc value (after_space l.text) more)
    ∙ ap (λ xs. unless now (behind ss (Some line) xs m ls (item (whole (record { line = line; key = key; value = value ++ (after_space l.text ++ more); braces = 0 })) ∷ pieces (lines_with_braces m ls))))
    (sym (append-nil (names ss)))
    ∙ sym (unless-or now (first_refused (names ss ++ []) (lines_with_braces m ls)) (option_map (λ line. BadLine line) (left_open (Some line) m ls))
    (Ok (laid ss (item (whole (record { line = line; key = key; value = value ++ (after_space l.text ++ more); braces = 0 })) ∷ pieces (lines_with_braces m ls))))))

unless-same : {A : Type 0} (a : Option LineRefusal) (r s : Result A LineRefusal) → (a ≡ None → r ≡ s) → unless a r ≡ unless a s
unless-same None r s f = f refl
unless-same (Some why) r s f = refl

refused_anyway : (b : Bool) (why other : LineRefusal) → (if not b then Some why else Some other) ≡ None → ⊥
refused_anyway true why other e = cc
refused_anyway false why other e = cc

abbrev text_line : ℕ → ℕ → Bytes → Line
text_line number c cs = record { number = number; text = c ∷ cs }

abbrev now_refused : List Section → Line → Option LineRefusal
now_refused ss l = line_refused (names ss) (record { braces = 0; line = l })

abbrev Takes : List Section → Line → List Line → Type 0
Takes ss l ls =
    let m = braces_after_line 0 l in
    given (begun_by ss l).sections (begun_by ss l).open_entry ls
    ≡ behind ss (Some l.number) (names ss ++ begun_names (record { braces = 0; line = l })) m ls (piece_of l (continuation (lines_with_braces m ls)) ++ pieces (lines_with_braces m ls))

takes_heading : (ss : List Section) (number c : ℕ) (cs : Bytes) (ls : List Line) (o : Option Bytes) → (91 == c) ≡ true → section_name (text_line number c cs) ≡ o
    → now_refused ss (text_line number c cs) ≡ None → Takes ss (text_line number c cs) ls
takes_heading ss number c cs ls None e p h = absurd (refused_anyway (list_all is_allowed (c ∷ cs)) (BadLine number) (BadLine number) (rw (e, p) at h))
takes_heading ss number c cs ls (Some name) e p h =
    rw (e, p)
    (ap (λ xs. unless (refused_behind xs None 0 ls) (fine (laid (ss ++ record { line = number; name = name; entries = [] } ∷ []) (pieces (lines_with_braces 0 ls)))))
    (names-append ss (record { line = number; name = name; entries = [] }))
    ∙ ap (λ f. unless (option_or (first_refused (names ss ++ name ∷ []) (lines_with_braces 0 ls)) (option_map (λ line. BadLine line) f)) (fine (laid (ss ++ record { line = number; name = name; entries = [] } ∷ []) (pieces (lines_with_braces 0 ls)))))
    (sym (left_open-closed (Some number) ls)))

other_byte : (c : ℕ) → (91 == c) ≡ false → (c == 91) ≡ false
other_byte c e = grind (arith, nat_tests)

takes_entry : (ss : List Section) (number c : ℕ) (cs : Bytes) (ls : List Line) → (91 == c) ≡ false → Takes ss (text_line number c cs) ls
takes_entry ss number c cs ls e =
    let l = text_line number c cs in
    rw (e, other_byte c e) (
    settled-given ss number (key_in l.text) (value_after l.text) (braces_after 0 (after_first (is_byte 58) l.text)) ls
    ∙ ap (λ xs. unless (refused_behind xs (Some number) (braces_after 0 (after_first (is_byte 58) l.text)) ls)
    (fine (laid ss (item (entry_of l (continuation (lines_with_braces (braces_after 0 (after_first (is_byte 58) l.text)) ls))) ∷ pieces (lines_with_braces (braces_after 0 (after_first (is_byte 58) l.text)) ls)))))
    (sym (append-nil (names ss))))

takes : (ss : List Section) (number c : ℕ) (cs : Bytes) (ls : List Line) (b : Bool) → (91 == c) ≡ b → now_refused ss (text_line number c cs) ≡ None → Takes ss (text_line number c cs) ls
takes ss number c cs ls true e h = takes_heading ss number c cs ls (section_name (text_line number c cs)) e refl h
takes ss number c cs ls false e h = takes_entry ss number c cs ls e

taken_between : (ss : List Section) (number : ℕ) (text : Bytes) (ls : List Line)
    → unless (line_refused (names ss) (record { braces = 0; line = record { number = number; text = text } }))
    (given (begun_by ss (record { number = number; text = text })).sections (begun_by ss (record { number = number; text = text })).open_entry ls)
    ≡ given_between ss (record { number = number; text = text } ∷ ls)
taken_between ss number [] ls =
    ap (λ xs. unless (option_or (first_refused xs (lines_with_braces 0 ls)) (option_map (λ line. BadLine line) (left_open None 0 ls))) (fine (laid ss (pieces (lines_with_braces 0 ls)))))
    (sym (append-nil (names ss)))
    ∙ ap (λ f. unless (option_or (first_refused (names ss ++ []) (lines_with_braces 0 ls)) (option_map (λ line. BadLine line) f)) (fine (laid ss (pieces (lines_with_braces 0 ls)))))
    (sym (left_open-closed (Some number) ls))
taken_between ss number (c ∷ cs) ls =
    let l = text_line number c cs in
    let m = braces_after_line 0 l in
    let ps = piece_of l (continuation (lines_with_braces m ls)) ++ pieces (lines_with_braces m ls) in
    unless-same (now_refused ss l) _ _ (takes ss number c cs ls (91 == c) refl)
    ∙ sym (unless-or (now_refused ss l) (first_refused (names ss ++ begun_names (record { braces = 0; line = l })) (lines_with_braces m ls))
    (option_map (λ line. BadLine line) (left_open (Some number) m ls)) (fine (laid ss ps)))

-- one line more
taken : (ss : List Section) (o : Option Opened) (l : Line) (ls : List Line) → IsOpen o
    → unless (line_refused (names ss) (braced_in o l)) (given (next_with ss o l).sections (next_with ss o l).open_entry ls) ≡ given ss o (l ∷ ls)
taken ss None l ls s = taken_between ss l.number l.text ls
taken ss (Some e) l ls s = taken_within ss e.line e.key e.value e.braces l ls s

settled_open : (ss : List Section) (line : ℕ) (key value : Bytes) (n : ℕ) → IsOpen (reading_with_entry ss (record { line = line; key = key; value = value; braces = n })).open_entry
settled_open ss line key value zero = tt
settled_open ss line key value (suc n) = rw (positive n) (positive n)

either_open : (b : Bool) (r s : Reading) → IsOpen r.open_entry → IsOpen s.open_entry → IsOpen (if b then r else s).open_entry
either_open true r s p q = p
either_open false r s p q = q

pub stays_open : (ss : List Section) (o : Option Opened) (l : Line) → IsOpen (next_with ss o l).open_entry
stays_open ss None l =
    either_open (is_empty l.text) (record { sections = ss; open_entry = None }) _ tt
    (either_open (is_heading l) (record { sections = ss ++ record { line = l.number; name = unwrap_or (section_name l) []; entries = [] } ∷ []; open_entry = None }) (reading_with_entry ss (opened_by l)) tt
    (settled_open ss l.number _ _ (braces_after_line 0 l)))
stays_open ss (Some e) l = settled_open ss e.line e.key (e.value ++ after_space l.text) (braces_after e.braces l.text)

ends_within : (ss : List Section) (line : ℕ) (key value : Bytes) (n : ℕ) → (n == 0) ≡ false → ◌≡◌ {A = Result (List Section) LineRefusal} (Err (BadLine line)) (given_within ss line key value n [])
ends_within ss line key value zero s = absurd (true≢false s)
ends_within ss line key value (suc n) s = rw (positive n) refl

reads_given : (ls : List Line) (ss : List Section) (o : Option Opened) → IsOpen o → read_from (record { sections = ss; open_entry = o }) ls ≡ given ss o ls
reads_given [] ss None s = refl
reads_given [] ss (Some e) s = ends_within ss e.line e.key e.value e.braces s
reads_given (l ∷ ls) ss o s =
    ap (unless (line_refused (names ss) (braced_in o l))) (reads_given ls (next_with ss o l).sections (next_with ss o l).open_entry (stays_open ss o l))
    ∙ taken ss o l ls s

unless-refused : (why : Option LineRefusal) (ls : List Line) → unless why (Ok (sections_in (pieces (lines_with_braces 0 ls)))) ≡ unless_refused why ls
unless-refused None ls = refl
unless-refused (Some r) ls = refl

pub read_line_by_line : (bytes : Bytes) → read_from (record { sections = []; open_entry = None }) (lines_of bytes) ≡ sections_of bytes
unfolding sections_of
read_line_by_line bytes =
    reads_given (lines_of bytes) [] None tt
    ∙ ap (λ ss. unless (lines_refused (lines_of bytes)) (fine ss)) (laid-none (pieces (lines_with_braces 0 (lines_of bytes))))
    ∙ unless-refused (lines_refused (lines_of bytes)) (lines_of bytes)
