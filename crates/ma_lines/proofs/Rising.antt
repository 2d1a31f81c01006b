-- The numbers of lines rise.
use Rattle.std.proofs.Common.{◌≡◌, ℕ, ◌+◌, ◌<◌, ◌≤◌, Bool, true, false, cond, Option, Some, None, List, [], ◌∷◌, ◌++◌, map, refl, sym, ap, subst, ◌∙◌, arith}
use Rattle.std.specs.Prelude.{◌==◌}
use Rattle.std.specs.declared.result.Result.{Result}
use Rattle.std.specs.declared.result.Result.TheVariants.{Ok, Err}
use Rattle.std.specs.Option.{unwrap_or}
use Rattle.quantity.specs.Bytes.{Bytes, is_empty}
use Rattle.source_text.specs.Lines.{Line, lines_of, text_of_line}
use Rattle.ma_lines.specs.declared.section.Entry.{Entry}
use Rattle.ma_lines.specs.declared.section.LineRefusal.{LineRefusal}
use Rattle.ma_lines.specs.Entries.{Braced, lines_with_braces, braces_after_line, continuation, is_heading, entry_of}
use Rattle.ma_lines.specs.Sections.{Section, Piece, heading, item, piece_of, pieces, first_entries, sections_in, section_name, sections_of, lines_refused, unless_refused}
use Rattle.ma_lines.specs.Laws.{RiseAbove, numbers_in, NumbersRise}
use Rattle.ma_lines.proofs.Numbered.{pieces_of, numbered}

abbrev number_of : Piece → ℕ
number_of (heading line name) = line
number_of (item e) = e.line

weaker : (n m : ℕ) (xs : List ℕ) → n < m → RiseAbove m xs → RiseAbove n xs
weaker n m [] lt r = tt
weaker n m (x ∷ xs) lt r = (omega (arith, lt, r.0), r.1)

behind : (n : ℕ) (xs ys : List ℕ) → RiseAbove n (xs ++ ys) → RiseAbove n ys
behind n [] ys r = r
behind n (x ∷ xs) ys r = weaker n x ys r.0 (behind x xs ys r.1)

-- the entries before the first section stand before its number
all_numbers : (ps : List Piece) → map (λ (e : Entry). e.line) (first_entries ps) ++ numbers_in (sections_in ps) ≡ map number_of ps
all_numbers [] = refl
all_numbers (heading line name ∷ ps) = ap (λ l. line ∷ l) (all_numbers ps)
all_numbers (item e ∷ ps) = ap (λ l. e.line ∷ l) (all_numbers ps)

-- a line begins at most one piece, with its number
one : (n : ℕ) (l : Line) (more : Bytes) (ps : List Piece) (empty head : Bool) → n < l.number → RiseAbove l.number (map number_of ps)
    → RiseAbove n (map number_of (cond empty [] (cond head (heading l.number (unwrap_or (section_name l) []) ∷ []) (item (entry_of l more) ∷ [])) ++ ps))
one n l more ps true head lt r = weaker n l.number (map number_of ps) lt r
one n l more ps false true lt r = (lt, r)
one n l more ps false false lt r = (lt, r)

at_line : (n : ℕ) (l : Line) (more : Bytes) (ps : List Piece) (b : Bool) → n < l.number → RiseAbove l.number (map number_of ps) → RiseAbove n (map number_of (cond b (piece_of l more) [] ++ ps))
at_line n l more ps true lt r = one n l more ps (is_empty l.text) (is_heading l) lt r
at_line n l more ps false lt r = weaker n l.number (map number_of ps) lt r

pieces_rise : (qs : List Bytes) (n k m : ℕ) → n < k → RiseAbove n (map number_of (pieces (lines_with_braces m (numbered k qs))))
pieces_rise [] n k m lt = tt
pieces_rise (q ∷ qs) n k m lt =
    let l : Line = record { number = k; text = text_of_line q } in
    let bs = lines_with_braces (braces_after_line m l) (numbered (k + 1) qs) in
    at_line n l (continuation bs) (pieces bs) (m == 0) lt (pieces_rise qs k (k + 1) (braces_after_line m l) (omega arith))

taken : (r : Option LineRefusal) (ls : List Line) (ss : List Section) → ◌≡◌ {A = Result (List Section) LineRefusal} (unless_refused r ls) (Ok ss) → sections_in (pieces (lines_with_braces 0 ls)) ≡ ss
taken None ls ss e = cc
taken (Some why) ls ss e = cc

pub rise : NumbersRise
unfolding sections_of
rise bytes ss e =
    let ps = pieces (lines_with_braces 0 (lines_of bytes)) in
    subst (λ s. RiseAbove 0 (numbers_in s)) (taken (lines_refused (lines_of bytes)) (lines_of bytes) ss e)
    (behind 0 (map (λ (x : Entry). x.line) (first_entries ps)) (numbers_in (sections_in ps))
    (subst (RiseAbove 0) (sym (all_numbers ps)) (pieces_rise (pieces_of bytes) 0 1 0 (omega arith))))
