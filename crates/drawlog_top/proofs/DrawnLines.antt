-- What is drawn of a log, line by line.
use Rattle.std.proofs.Common.{◌≡◌, ℕ, zero, suc, ◌+◌, ◌<◌, ◌==◌, Bool, true, false, cond, Some, None, List, [], ◌∷◌, ◌++◌, refl, sym, ap, ◌∙◌, subst, arith, length, get_or, replicate, append_assoc}
use Rattle.std.specs.Prelude.{Result, Ok, Err}
use Rattle.std.specs.List.{AllByRecursion, slice_split, onto_first}
use Rattle.std.proofs.lemmas.List.{length-replicate}
use Rattle.std.proofs.lemmas.Bool.Decides.{nat_tests}
use Rattle.quantity.specs.Bytes.{Bytes, is_byte}
use Rattle.quantity.specs.declared.value.Value.TheVariants.{Undefined}
use Rattle.cell_grid.specs.Space.{cell_count}
use Rattle.model_tree.specs.Tree.{Word}
use Rattle.text_forms.specs.Frames.{Picture, ShownCell, and_shown, only_end, lines_from, drawn_lines, frames_of_log, frames}
use Rattle.frame_draw.specs.Turns.{drawn_in_turn, text_before, with_shown, DrawsAllFrames}
use Rattle.drawlog_top.specs.Seen.{Seen, what_line_shows}
use Rattle.drawlog_top.specs.SoFar.{SoFar, nothing_drawn, with_taken, with_all, text_with, drawn_from}
use Rattle.drawlog_top.proofs.SeenLines.{seen_next, refused_here, IsShownFrom, shown_from}

-- ---- the parts of a text

abbrev pub is_end : ℕ → Bool
is_end c = c == 10

end_is : (c : ℕ) → is_byte 10 c ≡ is_end c
end_is c = grind (arith, nat_tests)

-- cut at the same byte
pub same_parts : (text : Bytes) → slice_split is_end text ≡ slice_split (is_byte 10) text
same_parts text = λ i. slice_split (λ c. sym (end_is c) i) text

-- there is a first part
record HasPart (parts : List Bytes) : Type 0 where
  first : Bytes
  others : List Bytes
  is : parts ≡ first ∷ others

with_first : (c : ℕ) (parts : List Bytes) → HasPart parts → HasPart (onto_first c parts)
with_first c parts has = record { first = c ∷ has.first; others = has.others; is = ap (onto_first c) has.is }

some_part : (text : Bytes) → HasPart (slice_split is_end text)
some_part [] = record { first = []; others = []; is = refl }
some_part (c ∷ cs) = by (some_part cs) (is_end c)
  where
    by : HasPart (slice_split is_end cs) → (b : Bool) → HasPart (cond b ([] ∷ slice_split is_end cs) (onto_first c (slice_split is_end cs)))
    by has true = record { first = []; others = slice_split is_end cs; is = refl }
    by has false = with_first c (slice_split is_end cs) has

-- ---- what is shown is taken

taken_all : (d : SoFar) (here more : List ShownCell) → d.text ++ drawn_in_turn d.drawing (here ++ more) ≡ (with_all here d).text ++ drawn_in_turn (with_all here d).drawing more
taken_all d [] more = refl
taken_all d (s ∷ ss) more = sym (append_assoc d.text (text_before s.time d.drawing) (drawn_in_turn (with_shown s d.drawing) (ss ++ more))) ∙ taken_all (with_taken s d) ss more

text_taken : (line : ℕ) (d : SoFar) (here : List ShownCell) (r : Result (List ShownCell) ℕ) → text_with d (and_shown line (Some here) r) ≡ text_with (with_all here d) r
text_taken line d here (Err n) = refl
text_taken line d here (Ok more) = ap (λ (text : Bytes). Ok text) (taken_all d here more)

pub picture_kept : (here : List ShownCell) (d : SoFar) → (with_all here d).drawing.picture ≡ d.drawing.picture
picture_kept [] d = refl
picture_kept (s ∷ ss) d = picture_kept ss (with_taken s d)

-- ---- one line before others

-- a line that is not refused
pub drawn_next : (group : Word) (line before : ℕ) (d : SoFar) (left part behind : Bytes) (x : Seen) → slice_split is_end left ≡ part ∷ slice_split is_end behind → what_line_shows d.drawing.picture.space group before part ≡ Some x
    → drawn_from group line before d (slice_split is_end left) ≡ drawn_from group (line + 1) x.time (with_all x.shown d) (slice_split is_end behind)
drawn_next group line before d left part behind x cut is =
    let s = d.drawing.picture.space in
    let more = some_part behind in
    let new = with_all x.shown d in
    ap (drawn_from group line before d) (cut ∙ ap (λ (ps : List Bytes). part ∷ ps) more.is)
    ∙ ap (text_with d) (seen_next s group line before part more.first more.others x is)
    ∙ text_taken line d x.shown (lines_from s group (line + 1) x.time (more.first ∷ more.others))
    ∙ ap (λ (p : Picture). text_with new (lines_from p.space group (line + 1) x.time (more.first ∷ more.others))) (sym (picture_kept x.shown d))
    ∙ ap (drawn_from group (line + 1) x.time new) (sym more.is)

-- a line that is refused
pub drawn_not : (group : Word) (line before : ℕ) (d : SoFar) (left part behind : Bytes) → slice_split is_end left ≡ part ∷ slice_split is_end behind → what_line_shows d.drawing.picture.space group before part ≡ None
    → drawn_from group line before d (slice_split is_end left) ≡ Err line
drawn_not group line before d left part behind cut is =
    let s = d.drawing.picture.space in
    let more = some_part behind in
    ap (drawn_from group line before d) (cut ∙ ap (λ (ps : List Bytes). part ∷ ps) more.is)
    ∙ ap (text_with d) (refused_here s group line before part more.first more.others is)

-- ---- the last part

pub drawn_open : (group : Word) (line before : ℕ) (d : SoFar) (left : Bytes) → slice_split is_end left ≡ left ∷ [] → 0 < length left → drawn_from group line before d (slice_split is_end left) ≡ Err line
drawn_open group line before d left cut some = ap (drawn_from group line before d) cut ∙ by left some
  where
    by : (part : Bytes) → 0 < length part → text_with d (only_end line part) ≡ Err line
    by [] some = absurd (omega arith)
    by (c ∷ cs) some = refl

-- ---- all of a log

none_known : (n cell : ℕ) → get_or (replicate n Undefined) cell Undefined ≡ Undefined
none_known zero cell = refl
none_known (suc n) zero = refl
none_known (suc n) (suc cell) = none_known n cell

pub drawn_whole : DrawsAllFrames → (p : Picture) (group : Word) (log : Bytes) → drawn_from group 1 0 (nothing_drawn p) (slice_split is_end log) ≡ frames_of_log p group log
drawn_whole all p group log = by (lines_from p.space group 1 0 (slice_split is_end log)) (shown_from p.space group 1 0 (slice_split is_end log))
  where
    by : (r : Result (List ShownCell) ℕ) → ((shown : List ShownCell) → r ≡ Ok shown → IsShownFrom p.space 0 shown) → text_with (nothing_drawn p) r ≡ drawn_lines p r
    by (Err line) from = refl
    by (Ok shown) from =
        let is = from shown refl in
        let n = cell_count p.space in
        let values = replicate n Undefined in
        let size = length-replicate n Undefined in
        ap (λ (text : Bytes). Ok text)
        (all p values shown size (subst (λ (k : ℕ). AllByRecursion (λ (x : ShownCell). x.cell < k) shown) (sym size) is.inside) is.never_fall
        ∙ (λ i. frames p (λ cell. none_known n cell i) shown))
