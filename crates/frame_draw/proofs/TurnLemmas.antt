-- Frames drawn in turn are all frames.
use Rattle.std.proofs.Common.{◌≡◌, ℕ, ◌+◌, ◌-◌, ◌<◌, ◌≤◌, ◌==◌, ◌&&◌, not, Bool, true, false, cond, Option, Some, None, List, [], ◌∷◌, ◌++◌, refl, sym, ap, ◌∙◌, subst, arith, length, nat_lt, nat_le, set, append-nil, append_assoc, length-set}
use Rattle.std.specs.List.{All, AllByRecursion, filter_map, flat_map, cons_option}
use Rattle.std.proofs.lemmas.List.Elements.{All-cons}
use Rattle.std.proofs.lemmas.Bool.Decides.{nat_tests}
use Rattle.quantity.specs.Bytes.{Bytes}
use Rattle.quantity.specs.declared.value.Value.{Value}
use Rattle.cell_grid.specs.Space.{Space, cell_count}
use Rattle.run_model.specs.Run.{Cycle, PortRecord}
use Rattle.text_forms.specs.Frames.{Picture, ShownCell, shown_by, shown_in, value_drawn, frames, frame_text}
use Rattle.text_forms.proofs.Joins.{frames_join}
use Rattle.frame_draw.specs.Drawing.{DrawingState, frame_of, value_of_cell}
use Rattle.frame_draw.specs.Instants.{values_after, IsShownAt}
use Rattle.frame_draw.specs.Turns.{is_other, text_before, with_shown, drawn_in_turn, NeverFall, DrawsAllFrames}
use Rattle.frame_draw.proofs.InstantLemmas.{one_frame}

-- ---- frames of what is shown at different times

-- a cycle for each that is shown
abbrev cycle_of : ShownCell → Cycle
cycle_of s = record { time = s.time; y = record { leaf = s.cell; port = 0; value = s.value } ∷ []; n = []; x = []; s = []; out = [] }

abbrev cycles_of : List ShownCell → List Cycle
cycles_of [] = []
cycles_of (s ∷ ss) = cycle_of s ∷ cycles_of ss

abbrev AreInside : ℕ → List ShownCell → Type 0
AreInside n ss = AllByRecursion (λ (s : ShownCell). s.cell < n) ss

inside_test : (cell n : ℕ) → cell < n → (nat_le 0 cell && nat_lt cell (0 + n)) ≡ true
inside_test cell n lt = grind (arith, nat_tests)

shown_back : (space : Space) (ss : List ShownCell) → AreInside (cell_count space) ss → shown_in space 0 (cycles_of ss) ≡ ss
shown_back space [] h = refl
shown_back space (s ∷ ss) h =
    let value = λ (cell : ℕ). let x : ShownCell = record { time = s.time; cell = cell; value = s.value } in x in
    let whole : s.cell - 0 ≡ s.cell = omega arith in
    ap (λ b. cons_option (cond b (Some (value (s.cell - 0))) None) [] ++ shown_in space 0 (cycles_of ss)) (inside_test s.cell (cell_count space) h.0)
    ∙ ap (λ (cell : ℕ). value cell ∷ shown_in space 0 (cycles_of ss)) whole
    ∙ ap (λ (rest : List ShownCell). s ∷ rest) (shown_back space ss h.1)

abbrev AreAt : ℕ → List ShownCell → Type 0
AreAt t ss = AllByRecursion (λ (s : ShownCell). s.time ≡ t) ss

all_until : (t : ℕ) (ss : List ShownCell) → AreAt t ss → All (λ (c : Cycle). c.time ≤ t) (cycles_of ss)
all_until t [] h = λ k d lt. absurd (omega (arith, lt))
all_until t (s ∷ ss) h = let e = h.0 in All-cons (λ (c : Cycle). c.time ≤ t) (cycle_of s) (cycles_of ss) (omega (arith, e)) (all_until t ss h.1)

all_after : (t u : ℕ) (ss : List ShownCell) → t < u → NeverFall u ss → All (λ (c : Cycle). t < c.time) (cycles_of ss)
all_after t u [] lt h = λ k d l. absurd (omega (arith, l))
all_after t u (s ∷ ss) lt h = let le = h.0 in All-cons (λ (c : Cycle). t < c.time) (cycle_of s) (cycles_of ss) (omega (arith, le, lt)) (all_after t s.time ss (omega (arith, le, lt)) h.1)

cycles-append : (xs ys : List ShownCell) → cycles_of (xs ++ ys) ≡ cycles_of xs ++ cycles_of ys
cycles-append [] ys = refl
cycles-append (x ∷ xs) ys = ap (λ (cs : List Cycle). cycle_of x ∷ cs) (cycles-append xs ys)

inside-append : (n : ℕ) (xs ys : List ShownCell) → AreInside n xs → AreInside n ys → AreInside n (xs ++ ys)
inside-append n [] ys h k = k
inside-append n (x ∷ xs) ys h k = (h.0, inside-append n xs ys h.1 k)

frames_shown : (p : Picture) (start : ℕ → Value) (t u : ℕ) (xs ys : List ShownCell) → AreInside (cell_count p.space) xs → AreInside (cell_count p.space) ys → AreAt t xs → t < u → NeverFall u ys
    → frames p start (xs ++ ys) ≡ frames p start xs ++ frames p (value_drawn start xs t) ys
frames_shown p start t u xs ys a b at lt up =
    let x = shown_back p.space xs a in
    let y = shown_back p.space ys b in
    let both = ap (shown_in p.space 0) (sym (cycles-append xs ys)) ∙ shown_back p.space (xs ++ ys) (inside-append (cell_count p.space) xs ys a b) in
    sym (ap (frames p start) both) ∙ frames_join p 0 start t (cycles_of xs) (cycles_of ys) (all_until t xs at) (all_after t u ys lt up)
    ∙ ap (λ (zs : List ShownCell). frames p start zs ++ frames p (value_drawn start zs t) (shown_in p.space 0 (cycles_of ys))) x
    ∙ ap (λ (zs : List ShownCell). frames p start xs ++ frames p (value_drawn start xs t) zs) y

-- ---- in turn

after-append : (vs : List Value) (xs : List ShownCell) (s : ShownCell) → values_after vs (xs ++ s ∷ []) ≡ set (values_after vs xs) s.cell s.value
after-append vs [] s = refl
after-append vs (x ∷ xs) s = after-append (set vs x.cell x.value) xs s

length-after : (vs : List Value) (xs : List ShownCell) → length (values_after vs xs) ≡ length vs
length-after vs [] = refl
length-after vs (x ∷ xs) = length-after (set vs x.cell x.value) xs ∙ length-set vs x.cell x.value

-- shown at this instant, in cells that have a value
abbrev Here : ℕ → ℕ → List ShownCell → Type 0
Here n t ss = AllByRecursion (IsShownAt n t) ss

here-append : (n t : ℕ) (xs : List ShownCell) (s : ShownCell) → Here n t xs → IsShownAt n t s → Here n t (xs ++ s ∷ [])
here-append n t [] s h k = (k, tt)
here-append n t (x ∷ xs) s h k = (h.0, here-append n t xs s h.1 k)

here_at : (n t : ℕ) (xs : List ShownCell) → Here n t xs → AreAt t xs
here_at n t [] h = tt
here_at n t (x ∷ xs) h = (h.0.0, here_at n t xs h.1)

here_inside : (n t : ℕ) (xs : List ShownCell) → Here n t xs → AreInside n xs
here_inside n t [] h = tt
here_inside n t (x ∷ xs) h = (h.0.1, here_inside n t xs h.1)

same_time : (a b : ℕ) → (a == b) ≡ true → a ≡ b
same_time a b e = grind (arith, nat_tests)

later_time : (a b : ℕ) → a ≤ b → (a == b) ≡ false → a < b
later_time a b le e = grind (arith, nat_tests)

abbrev going_at : Picture → List Value → ℕ → DrawingState
going_at p vs t = record { picture = p; values = vs; begun = Some t }

in_turn : (p : Picture) (vs : List Value) (t : ℕ) (f : ShownCell) (pre ss : List ShownCell) → length vs ≡ cell_count p.space → Here (length vs) t (f ∷ pre) → NeverFall t ss → AreInside (length vs) ss
    → drawn_in_turn (going_at p (values_after vs (f ∷ pre)) t) ss ≡ frames p (value_of_cell vs) ((f ∷ pre) ++ ss)
in_turn p vs t f pre [] size here up inside = sym (one_frame.frame p vs t f pre here) ∙ ap (frames p (value_of_cell vs)) (sym (append-nil (f ∷ pre)))
in_turn p vs t f pre (s ∷ ss) size here up inside =
    by (λ e. in_turn p vs t f (pre ++ s ∷ []) ss size (here-append (length vs) t (f ∷ pre) s here (sym e, inside.0)) (subst (λ (u : ℕ). NeverFall u ss) (sym e) up.1) inside.1)
    (in_turn p (values_after vs (f ∷ pre)) s.time s [] ss (length-after vs (f ∷ pre) ∙ size) ((refl, subst (λ (n : ℕ). s.cell < n) (sym (length-after vs (f ∷ pre))) inside.0), tt) up.1 (subst (λ (n : ℕ). AreInside n ss) (sym (length-after vs (f ∷ pre))) inside.1))
    (t == s.time) refl
  where
    by : (t ≡ s.time → drawn_in_turn (going_at p (values_after vs (f ∷ (pre ++ s ∷ []))) t) ss ≡ frames p (value_of_cell vs) ((f ∷ (pre ++ s ∷ [])) ++ ss))
        → drawn_in_turn (going_at p (set (values_after vs (f ∷ pre)) s.cell s.value) s.time) ss ≡ frames p (value_of_cell (values_after vs (f ∷ pre))) (s ∷ ss)
        → (b : Bool) → (t == s.time) ≡ b → drawn_in_turn (going_at p (values_after vs (f ∷ pre)) t) (s ∷ ss) ≡ frames p (value_of_cell vs) ((f ∷ pre) ++ s ∷ ss)
    by same later true e =
        let d = going_at p (values_after vs (f ∷ pre)) t in
        let is = same_time t s.time e in
        ap (λ b. cond (not b) (frame_of d) [] ++ drawn_in_turn (with_shown s d) ss) e
        ∙ ap (λ (u : ℕ). drawn_in_turn (going_at p (set (values_after vs (f ∷ pre)) s.cell s.value) u) ss) (sym is)
        ∙ ap (λ (ws : List Value). drawn_in_turn (going_at p ws t) ss) (sym (after-append vs (f ∷ pre) s))
        ∙ same is ∙ ap (frames p (value_of_cell vs)) (append_assoc (f ∷ pre) (s ∷ []) ss)
    by same later false e =
        let same_start : frames p (value_drawn (value_of_cell vs) (f ∷ pre) t) (s ∷ ss) ≡ frames p (value_of_cell (values_after vs (f ∷ pre))) (s ∷ ss) = λ i. frames p (λ cell. one_frame.values vs t cell (f ∷ pre) here i) (s ∷ ss) in
        let d = going_at p (values_after vs (f ∷ pre)) t in
        ap (λ b. cond (not b) (frame_of d) [] ++ drawn_in_turn (with_shown s d) ss) e
        ∙ ap (λ (bytes : Bytes). frame_of d ++ bytes) (later ∙ sym same_start)
        ∙ ap (λ (bytes : Bytes). bytes ++ frames p (value_drawn (value_of_cell vs) (f ∷ pre) t) (s ∷ ss)) (sym (one_frame.frame p vs t f pre here))
        ∙ sym (frames_shown p (value_of_cell vs) t s.time (f ∷ pre) (s ∷ ss) (subst (λ (n : ℕ). AreInside n (f ∷ pre)) size (here_inside (length vs) t (f ∷ pre) here)) (subst (λ (n : ℕ). AreInside n (s ∷ ss)) size inside) (here_at (length vs) t (f ∷ pre) here) (later_time t s.time up.0 e) (omega arith, up.1))

pub draws_all : DrawsAllFrames
draws_all p vs [] size inside up = refl
draws_all p vs (s ∷ ss) size inside up = in_turn p vs s.time s [] ss size ((refl, inside.0), tt) up.1 inside.1
