-- The lines of a file by their numbers, and how long they are together.
use Rattle.std.proofs.Common.{◌≡◌, ℕ, zero, suc, ◌+◌, ◌<◌, ◌≤◌, Bool, true, false, cond, Some, None, List, [], ◌∷◌, map, length, get_or, take, drop, refl, sym, ap, ◌∙◌, arith}
use Rattle.std.specs.List.{enumerate_from, slice_split, onto_first}
use Rattle.std.specs.declared.result.Result.{Result}
use Rattle.std.specs.declared.result.Result.TheVariants.{Err}
use Rattle.quantity.specs.Bytes.{Bytes, is_byte}
use Rattle.source_text.specs.Lines.{Line, lines_of, text_of_line}
use Rattle.ma_lines.specs.declared.section.LineRefusal.{LineRefusal}
use Rattle.ma_lines.specs.Sections.{Section, sections_of}
use Rattle.ma_lines.specs.Reading.{Reading, at_end, next, refused_in, read_from, unless}
use Rattle.ma_lines.specs.Reader.{line_of}

abbrev pub pieces_of : Bytes → List Bytes
pieces_of bytes = slice_split (is_byte 10) bytes

abbrev pub numbered : ℕ → List Bytes → List Line
numbered n ps = map (λ (p : ℕ × Bytes). record { number = p.0; text = text_of_line p.1 }) (enumerate_from n ps)

drop-numbered : (ps : List Bytes) (n k : ℕ) (d : Bytes) → k < length ps → drop k (numbered n ps) ≡ line_of (n + k) (text_of_line (get_or ps k d)) ∷ drop (k + 1) (numbered n ps)
drop-numbered [] n k d h = absurd (omega arith)
drop-numbered (p ∷ ps) n zero d h = ap (λ m. line_of m (text_of_line p) ∷ numbered (n + 1) ps) (let same : n ≡ n + 0 = omega arith in same)
drop-numbered (p ∷ ps) n (suc k) d h =
    drop-numbered ps (n + 1) k d (omega arith)
    ∙ ap (λ m. line_of m (text_of_line (get_or ps k d)) ∷ drop (k + 1) (numbered (n + 1) ps)) (let same : (n + 1) + k ≡ n + suc k = omega arith in same)
    ∙ ap (λ m. line_of (n + suc k) (text_of_line (get_or ps k d)) ∷ drop m (numbered n (p ∷ ps))) (let same : suc (k + 1) ≡ suc k + 1 = omega arith in same)

at_line : (bytes : Bytes) (n k : ℕ) (line : Bytes) (old : Reading) → n ≡ k → k < length (pieces_of bytes) → line ≡ get_or (pieces_of bytes) k line
    → read_from old (line_of (n + 1) (text_of_line line) ∷ drop (k + 1) (lines_of bytes)) ≡ read_from old (drop k (lines_of bytes))
at_line bytes n k line old e h is =
    ap (λ m. read_from old (line_of m (text_of_line line) ∷ drop (k + 1) (lines_of bytes))) (let same : n + 1 ≡ 1 + k = omega arith in same)
    ∙ ap (λ text. read_from old (line_of (1 + k) (text_of_line text) ∷ drop (k + 1) (lines_of bytes))) is
    ∙ sym (ap (read_from old) (drop-numbered (pieces_of bytes) 1 k line h))

-- a line that is taken
pub read_on : (bytes : Bytes) (n k : ℕ) (line : Bytes) (old new : Reading) → n ≡ k → k < length (pieces_of bytes) → line ≡ get_or (pieces_of bytes) k line
    → read_from old (drop k (lines_of bytes)) ≡ sections_of bytes
    → refused_in old (line_of (n + 1) (text_of_line line)) ≡ None → new ≡ next old (line_of (n + 1) (text_of_line line))
    → read_from new (drop (k + 1) (lines_of bytes)) ≡ sections_of bytes
read_on bytes n k line old new e h is so_far allowed taken =
    let l = line_of (n + 1) (text_of_line line) in
    let rest = drop (k + 1) (lines_of bytes) in
    ap (λ r. read_from r rest) taken
    ∙ sym (ap (λ why. unless why (read_from (next old l) rest)) allowed)
    ∙ at_line bytes n k line old e h is
    ∙ so_far

-- a line that is refused
pub refused_here : (bytes : Bytes) (n k : ℕ) (line : Bytes) (old : Reading) (why : LineRefusal) → n ≡ k → k < length (pieces_of bytes) → line ≡ get_or (pieces_of bytes) k line
    → read_from old (drop k (lines_of bytes)) ≡ sections_of bytes
    → refused_in old (line_of (n + 1) (text_of_line line)) ≡ Some why
    → ◌≡◌ {A = Result (List Section) LineRefusal} (Err why) (sections_of bytes)
refused_here bytes n k line old why e h is so_far refused =
    let l = line_of (n + 1) (text_of_line line) in
    let rest = drop (k + 1) (lines_of bytes) in
    sym (ap (λ w. unless w (read_from (next old l) rest)) refused)
    ∙ at_line bytes n k line old e h is
    ∙ so_far

drop_all : (xs : List Line) (k : ℕ) → length xs ≤ k → drop k xs ≡ []
drop_all [] zero h = refl
drop_all [] (suc k) h = refl
drop_all (x ∷ xs) zero h = absurd (omega arith)
drop_all (x ∷ xs) (suc k) h = drop_all xs k (omega arith)

length-numbered : (ps : List Bytes) (n : ℕ) → length (numbered n ps) ≡ length ps
length-numbered [] n = refl
length-numbered (p ∷ ps) n = ap suc (length-numbered ps (n + 1))

-- behind the last line
pub read_whole : (bytes : Bytes) (k : ℕ) (r : Reading) → k ≡ length (pieces_of bytes) → read_from r (drop k (lines_of bytes)) ≡ sections_of bytes
    → at_end r.sections r.open_entry ≡ sections_of bytes
read_whole bytes k r e so_far =
    sym (ap (read_from r) (drop_all (lines_of bytes) k (omega (arith, length-numbered (pieces_of bytes) 1)))) ∙ so_far

-- ---- lengths

-- the bytes of these lines, with a line feed behind each
abbrev pub total : List Bytes → ℕ
total [] = 0
total (p ∷ ps) = length p + 1 + total ps

total-onto_first : (x : ℕ) (ps : List Bytes) (n : ℕ) → total ps ≡ n + 1 → total (onto_first x ps) ≡ n + 1 + 1
total-onto_first x [] n e = absurd (omega arith)
total-onto_first x (p ∷ ps) n e = omega arith

total-more : (c : ℕ) (cs : Bytes) (b : Bool) → total (pieces_of cs) ≡ length cs + 1 → total (cond b ([] ∷ pieces_of cs) (onto_first c (pieces_of cs))) ≡ length (c ∷ cs) + 1
total-more c cs true e = omega (arith, e)
total-more c cs false e = omega (arith, total-onto_first c (pieces_of cs) (length cs) e)

pub total-pieces : (bytes : Bytes) → total (pieces_of bytes) ≡ length bytes + 1
total-pieces [] = refl
total-pieces (c ∷ cs) = total-more c cs (is_byte 10 c) (total-pieces cs)

pub total-take : (ps : List Bytes) (k : ℕ) (d : Bytes) → k < length ps → total (take (k + 1) ps) ≡ total (take k ps) + length (get_or ps k d) + 1
total-take [] k d h = absurd (omega arith)
total-take (p ∷ ps) zero d h = omega arith
total-take (p ∷ ps) (suc k) d h =
    ap (λ n. total (take n (p ∷ ps))) (let same : suc k + 1 ≡ suc (k + 1) = omega arith in same)
    ∙ omega (arith, total-take ps k d (omega arith))

pub total-within : (ps : List Bytes) (k : ℕ) → total (take k ps) ≤ total ps
total-within [] zero = omega arith
total-within [] (suc k) = omega arith
total-within (p ∷ ps) zero = omega arith
total-within (p ∷ ps) (suc k) = omega (arith, total-within ps k)

pub number_within : (ps : List Bytes) (k : ℕ) (d : Bytes) → k < length ps → k + length (get_or ps k d) + 1 ≤ total ps
number_within [] k d h = absurd (omega arith)
number_within (p ∷ ps) zero d h = omega arith
number_within (p ∷ ps) (suc k) d h = omega (arith, number_within ps k d (omega arith))

-- the number of a line that isn't empty is no greater than the length of the file
pub number_below : (bytes : Bytes) (k : ℕ) (line : Bytes) → k < length (pieces_of bytes) → line ≡ get_or (pieces_of bytes) k line → k + length line ≤ length bytes
number_below bytes k line h is = omega (arith, number_within (pieces_of bytes) k line h, total-pieces bytes, ap length is)

-- the bytes of the lines so far
pub total_more : (bytes : Bytes) (k : ℕ) (line : Bytes) → k < length (pieces_of bytes) → line ≡ get_or (pieces_of bytes) k line
    → total (take (k + 1) (pieces_of bytes)) ≡ total (take k (pieces_of bytes)) + length line + 1
total_more bytes k line h is = omega (arith, total-take (pieces_of bytes) k line h, ap length is)

pub total_few : (bytes : Bytes) (k : ℕ) → total (take k (pieces_of bytes)) ≤ length bytes + 1
total_few bytes k = omega (arith, total-within (pieces_of bytes) k, total-pieces bytes)
