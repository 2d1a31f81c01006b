-- What is read of a file is plain.
use Rattle.std.proofs.Common.{◌≡◌, ℕ, zero, suc, ◌+◌, ◌&&◌, Bool, true, false, cond, Option, Some, None, List, [], ◌∷◌, ◌++◌, take, drop, refl, sym, ap, subst, ◌∙◌, length, arith}
use Rattle.std.specs.Prelude.{◌==◌, ◌||◌, not, reverse, All, ⊤}
use Rattle.std.specs.List.{list_all, before_first, after_first, before_last, position_or_len}
use Rattle.std.specs.Str.{bytes_eq}
use Rattle.std.specs.Option.{option_or, option_map, unwrap_or}
use Rattle.std.specs.declared.result.Result.{Result}
use Rattle.std.specs.declared.result.Result.TheVariants.{Ok, Err}
use Rattle.std.proofs.lemmas.List.{reverse-append}
use Rattle.std.proofs.lemmas.List.Folds.{list_all-append}
use Rattle.std.proofs.lemmas.List.Elements.{All-cons}
use Rattle.quantity.specs.Bytes.{Bytes, inside, is_blank, is_byte, is_empty, without_outer_blanks, without_blanks_before}
use Rattle.source_text.specs.Lines.{Line, in_lower_case, lines_of}
use Rattle.ma_lines.specs.declared.section.Entry.{Entry}
use Rattle.ma_lines.specs.declared.section.LineRefusal.{LineRefusal}
use Rattle.ma_lines.specs.declared.section.LineRefusal.TheVariants.{BadLine}
use Rattle.ma_lines.specs.Entries.{Braced, lines_with_braces, continued_text, after_space, continuation, is_heading, keeps_letters, key_in, value_after, entry_of}
use Rattle.ma_lines.specs.Sections.{Section, Piece, heading, item, piece_of, pieces, first_entries, sections_in, name_in, has_brackets, section_name, is_allowed, is_entry, begun_names, heading_refused, line_refused, first_refused, left_open, lines_refused, unless_refused, sections_of}
use Rattle.ma_lines.specs.Laws.{IsPlain, IsPlainEntry, IsPlainSection, ReadsPlainTexts}
use Rattle.ma_lines.proofs.Letters.{allowed-folded}

-- ---- parts of plain texts

both : (a b : Bool) → (a && b) ≡ true → (a ≡ true) × (b ≡ true)
both true b e = (refl, e)
both false b e = cc

joined : (xs ys : Bytes) → IsPlain xs → IsPlain ys → IsPlain (xs ++ ys)
joined xs ys p q = list_all-append is_allowed xs ys ∙ ap (λ b. b && list_all is_allowed ys) p ∙ q

front : (n : ℕ) (xs : Bytes) → IsPlain xs → IsPlain (take n xs)
front zero xs p = refl
front (suc n) [] p = refl
front (suc n) (x ∷ xs) p =
    let q = both (is_allowed x) (list_all is_allowed xs) p in
    ap (λ b. b && list_all is_allowed (take n xs)) q.0 ∙ front n xs q.1

back : (n : ℕ) (xs : Bytes) → IsPlain xs → IsPlain (drop n xs)
back zero xs p = p
back (suc n) [] p = refl
back (suc n) (x ∷ xs) p = back n xs (both (is_allowed x) (list_all is_allowed xs) p).1

turned : (xs : Bytes) → IsPlain xs → IsPlain (reverse xs)
turned [] p = refl
turned (x ∷ xs) p =
    let q = both (is_allowed x) (list_all is_allowed xs) p in
    subst IsPlain (sym (reverse-append (x ∷ []) xs)) (joined (reverse xs) (x ∷ []) (turned xs q.1) (ap (λ b. b && true) q.0))

either : (b : Bool) (xs ys : Bytes) → IsPlain xs → IsPlain ys → IsPlain (cond b xs ys)
either true xs ys p q = p
either false xs ys p q = q

without_blanks : (xs : Bytes) → IsPlain xs → IsPlain (without_blanks_before xs)
without_blanks [] p = refl
without_blanks (x ∷ xs) p = either (is_blank x) (without_blanks_before xs) (x ∷ xs) (without_blanks xs (both (is_allowed x) (list_all is_allowed xs) p).1) p

trim : (xs : Bytes) → IsPlain xs → IsPlain (without_outer_blanks xs)
trim xs p =
    turned (without_blanks_before (reverse (without_blanks_before xs)))
    (without_blanks (reverse (without_blanks_before xs)) (turned (without_blanks_before xs) (without_blanks xs p)))

lower : (xs : Bytes) → IsPlain xs → IsPlain (in_lower_case xs)
lower xs p = allowed-folded xs ∙ p

-- ---- names

in_brackets : (text : Bytes) → IsPlain text → IsPlain (unwrap_or (name_in (inside 91 93 text)) [])
in_brackets [] p = refl
in_brackets (c ∷ cs) p = at ((c == 91) && bytes_eq cs (before_last (is_byte 93) cs ++ 93 ∷ []))
  where
    inner : IsPlain (before_last (is_byte 93) cs)
    inner = front _ cs (both (is_allowed c) (list_all is_allowed cs) p).1

    named : (b : Bool) → IsPlain (unwrap_or (cond b None (Some (in_lower_case (without_outer_blanks (before_last (is_byte 93) cs))))) [])
    named true = refl
    named false = lower (without_outer_blanks (before_last (is_byte 93) cs)) (trim (before_last (is_byte 93) cs) inner)

    at : (b : Bool) → IsPlain (unwrap_or (name_in (cond b (Some (before_last (is_byte 93) cs)) None)) [])
    at true = named (has_brackets (before_last (is_byte 93) cs) || is_empty (without_outer_blanks (before_last (is_byte 93) cs)))
    at false = refl

-- ---- lines

abbrev PlainLines : List Braced → Type 0
PlainLines [] = ⊤
PlainLines (b ∷ bs) = IsPlain b.line.text × PlainLines bs

spaced : (xs : Bytes) → IsPlain xs → IsPlain (after_space xs)
spaced [] p = refl
spaced (x ∷ xs) p = p

add : (n : ℕ) (l : Line) (more : Bytes) → IsPlain l.text → IsPlain more → IsPlain (continued_text n l more)
add zero l more p q = refl
add (suc n) l more p q = joined (after_space l.text) more (spaced l.text p) q

continued : (bs : List Braced) → PlainLines bs → IsPlain (continuation bs)
continued [] p = refl
continued (b ∷ bs) p = add b.braces b.line (continuation bs) p.0 (continued bs p.1)

key : (text : Bytes) → IsPlain text → IsPlain (key_in text)
key text p = lower (without_outer_blanks (before_first (is_byte 58) text)) (trim (before_first (is_byte 58) text) (front (position_or_len (is_byte 58) text) text p))

value : (text more : Bytes) → IsPlain text → IsPlain more → IsPlain (value_after text ++ more)
value text more p q = joined (value_after text) more (trim (after_first (is_byte 58) text) (back (position_or_len (is_byte 58) text + 1) text p)) q

entry : (l : Line) (more : Bytes) → IsPlain l.text → IsPlain more → IsPlainEntry (entry_of l more)
entry l more p q =
    let whole = value l.text more p q in
    record { key = key l.text p; value = either (keeps_letters (key_in l.text)) (value_after l.text ++ more) (in_lower_case (value_after l.text ++ more)) whole (lower (value_after l.text ++ more) whole) }

-- ---- pieces

abbrev PlainPieces : List Piece → Type 0
PlainPieces [] = ⊤
PlainPieces (heading line name ∷ ps) = IsPlain name × PlainPieces ps
PlainPieces (item e ∷ ps) = IsPlainEntry e × PlainPieces ps

one : (l : Line) (more : Bytes) (ps : List Piece) (empty head : Bool) → IsPlain l.text → IsPlain more → PlainPieces ps
    → PlainPieces (cond empty [] (cond head (heading l.number (unwrap_or (section_name l) []) ∷ []) (item (entry_of l more) ∷ [])) ++ ps)
one l more ps true head p q r = r
one l more ps false true p q r = (in_brackets l.text p, r)
one l more ps false false p q r = (entry l more p q, r)

at_line : (l : Line) (more : Bytes) (ps : List Piece) (b : Bool) → IsPlain l.text → IsPlain more → PlainPieces ps → PlainPieces (cond b (piece_of l more) [] ++ ps)
at_line l more ps true p q r = one l more ps (is_empty l.text) (is_heading l) p q r
at_line l more ps false p q r = r

plain_pieces : (bs : List Braced) → PlainLines bs → PlainPieces (pieces bs)
plain_pieces [] p = tt
plain_pieces (b ∷ bs) p = at_line b.line (continuation bs) (pieces bs) (b.braces == 0) p.0 (continued bs p.1) (plain_pieces bs p.1)

entries : (ps : List Piece) → PlainPieces ps → All IsPlainEntry (first_entries ps)
entries [] p = λ k d lt. absurd (omega (arith, lt))
entries (heading line name ∷ ps) p = λ k d lt. absurd (omega (arith, lt))
entries (item e ∷ ps) p = All-cons IsPlainEntry e (first_entries ps) p.0 (entries ps p.1)

sections : (ps : List Piece) → PlainPieces ps → All IsPlainSection (sections_in ps)
sections [] p = λ k d lt. absurd (omega (arith, lt))
sections (heading line name ∷ ps) p =
    All-cons IsPlainSection (record { line = line; name = name; entries = first_entries ps }) (sections_in ps) (record { name = p.0; entries = entries ps p.1 }) (sections ps p.1)
sections (item e ∷ ps) p = sections ps p.1

-- ---- files that are not refused

allowed : (b : Bool) (line : ℕ) (o : Option LineRefusal) → cond (not b) (Some (BadLine line)) o ≡ None → b ≡ true
allowed true line o e = refl
allowed false line o e = cc

neither : (a b : Option LineRefusal) → option_or a b ≡ None → (a ≡ None) × (b ≡ None)
neither None b e = (refl, e)
neither (Some why) b e = cc

plain_lines : (before : List Bytes) (bs : List Braced) → first_refused before bs ≡ None → PlainLines bs
plain_lines before [] e = tt
plain_lines before (b ∷ bs) e =
    let h = neither (line_refused before b) (first_refused (before ++ begun_names b) bs) e in
    (allowed (list_all is_allowed b.line.text) b.line.number _ h.0, plain_lines (before ++ begun_names b) bs h.1)

taken : (r : Option LineRefusal) (ls : List Line) (ss : List Section) → ◌≡◌ {A = Result (List Section) LineRefusal} (unless_refused r ls) (Ok ss) → (r ≡ None) × (sections_in (pieces (lines_with_braces 0 ls)) ≡ ss)
taken None ls ss e = (refl, cc)
taken (Some why) ls ss e = cc

pub plain_texts : ReadsPlainTexts
unfolding sections_of
plain_texts bytes ss e =
    let ls = lines_of bytes in
    let t = taken (lines_refused ls) ls ss e in
    let none = (neither (first_refused [] (lines_with_braces 0 ls)) (option_map (λ line. BadLine line) (left_open None 0 ls)) t.0).0 in
    subst (All IsPlainSection) t.1 (sections (pieces (lines_with_braces 0 ls)) (plain_pieces (lines_with_braces 0 ls) (plain_lines [] (lines_with_braces 0 ls) none)))
