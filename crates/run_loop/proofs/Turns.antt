-- Frames of cycles in turn: what a cycle adds, and what is left after it.
use Rattle.std.proofs.Common.{◌≡◌, ℕ, ◌+◌, ◌-◌, ◌<◌, ◌≤◌, ◌==◌, ◌&&◌, not, Bool, true, false, cond, Option, Some, None, List, [], ◌∷◌, ◌++◌, length, map, nat_le, nat_lt, refl, sym, ap, ◌∙◌, arith}
use Rattle.std.specs.Prelude.{if◌then◌else◌}
use Rattle.std.specs.Option.{ForSome, option_map}
use Rattle.std.specs.List.{AllByRecursion, range_with_len, filter_map, cons_option}
use Rattle.std.proofs.lemmas.List.{append-nil}
use Rattle.std.proofs.lemmas.Bool.Decides.{nat_tests}
use Rattle.quantity.specs.Bytes.{Bytes}
use Rattle.quantity.specs.declared.value.Value.{Value}
use Rattle.cell_grid.specs.Space.{Space, cell_count}
use Rattle.model_tree.specs.Tree.{Tree}
use Rattle.run_model.specs.Run.{PortRecord, Cycle}
use Rattle.run_model.specs.Instants.{InstantsNeverFall}
use Rattle.text_forms.specs.Lines.{log_bytes, out_bytes}
use Rattle.text_forms.specs.Frames.{Picture, ShownCell, shown_by, shown_in, frames, frames_of}
use Rattle.text_forms.proofs.Joins.{texts_join}
use Rattle.frame_draw.specs.Drawing.{DrawingState, frame_of, with_instant}
use Rattle.frame_draw.specs.Turns.{is_other, text_before, with_shown, drawn_in_turn, NeverFall}
use Rattle.frame_draw.proofs.TurnLemmas.{draws_all}
use Rattle.run_loop.specs.Texts.{Texts}
use Rattle.run_loop.specs.Order.{texts_of}
use Rattle.run_loop.specs.Pieces.{end_pieces, run_pieces}
use Rattle.run_loop.specs.Showing.{Showing, showing_from, with_drawing, with_taken, shown_of, took, showing_after_instant, ended_before, after_cycle, frame_before, last_frame, frames_left, left_texts, IsBegunBy}
use Rattle.run_loop.proofs.Starts.{IsUndefinedFrom, values_length, values_are}

-- ---- what cycles show

-- times from this one on
abbrev AreFrom : ℕ → List ShownCell → Type 0
AreFrom t ss = AllByRecursion (λ (s : ShownCell). t ≤ s.time) ss

from-append : (t : ℕ) (xs ys : List ShownCell) → AreFrom t xs → AreFrom t ys → AreFrom t (xs ++ ys)
from-append t [] ys a b = b
from-append t (x ∷ xs) ys a b = (a.0, from-append t xs ys a.1 b)

abbrev AreAt : ℕ → List ShownCell → Type 0
AreAt t ss = AllByRecursion (λ (s : ShownCell). s.time ≡ t) ss

from_at : (t u : ℕ) (ss : List ShownCell) → t ≤ u → AreAt u ss → AreFrom t ss
from_at t u [] le h = tt
from_at t u (s ∷ ss) le h = let e = h.0 in (omega (arith, le, e), from_at t u ss le h.1)

-- what one cycle shows is shown at its time
cycle_at : (space : Space) (first t : ℕ) (rs : List PortRecord) → AreAt t (filter_map (shown_by space first t) rs)
cycle_at space first t [] = tt
cycle_at space first t (r ∷ rs) = by (nat_le first r.leaf && nat_lt r.leaf (first + cell_count space)) (cycle_at space first t rs)
  where
    by : (b : Bool) → AreAt t (filter_map (shown_by space first t) rs)
        → AreAt t (cons_option (if b then Some (record { time = t; cell = r.leaf - first; value = r.value }) else None) (filter_map (shown_by space first t) rs))
    by true h = (refl, h)
    by false h = h

-- what later cycles show is not before
shown_from : (space : Space) (first t : ℕ) (cs : List Cycle) → InstantsNeverFall t cs → AreFrom t (shown_in space first cs)
shown_from space first t [] h = tt
shown_from space first t (c ∷ cs) h =
    from-append t (filter_map (shown_by space first c.time) c.y) (shown_in space first cs)
    (from_at t c.time (filter_map (shown_by space first c.time) c.y) h.0 (cycle_at space first c.time c.y))
    (earlier t c.time (shown_in space first cs) h.0 (shown_from space first c.time cs h.1))
  where
    earlier : (t u : ℕ) (ss : List ShownCell) → t ≤ u → AreFrom u ss → AreFrom t ss
    earlier t u [] le h = tt
    earlier t u (s ∷ ss) le h = let k = h.0 in (omega (arith, le, k), earlier t u ss le h.1)

-- ---- an instant that is over

over_now : (w : DrawingState) (t : ℕ) (ss : List ShownCell) → (b : ℕ) → w.begun ≡ Some b → b < t → AreFrom t ss → drawn_in_turn w ss ≡ frame_of w ++ drawn_in_turn (with_instant None w) ss
over_now w t [] b is lt h = sym (append-nil (frame_of w))
over_now w t (s ∷ ss) b is lt h =
    let other : is_other w.begun s.time ≡ true = ap (λ o. is_other o s.time) is ∙ late b t s.time lt h.0 in
    ap (λ q. cond q (frame_of w) [] ++ drawn_in_turn (with_shown s w) ss) other
  where
    late : (b t u : ℕ) → b < t → t ≤ u → not (b == u) ≡ true
    late b t u lt le = grind (arith, nat_tests)

before_now : (w : DrawingState) (t : ℕ) (ss : List ShownCell) (o : Option ℕ) → w.begun ≡ o → ForSome o (λ u. u ≤ t) → AreFrom t ss
    → drawn_in_turn w ss ≡ text_before t w ++ drawn_in_turn (if is_other w.begun t then with_instant None w else w) ss
before_now w t ss None is begun h = sym (ap (λ o. (if is_other o t then frame_of w else []) ++ drawn_in_turn (if is_other o t then with_instant None w else w) ss) is)
before_now w t ss (Some b) is begun h = by (b == t) refl
  where
    late : (b t : ℕ) → b ≤ t → (b == t) ≡ false → b < t
    late b t le e = grind (arith, nat_tests)

    by : (q : Bool) → (b == t) ≡ q → drawn_in_turn w ss ≡ text_before t w ++ drawn_in_turn (if is_other w.begun t then with_instant None w else w) ss
    by true e = sym (ap (λ o. (if is_other o t then frame_of w else []) ++ drawn_in_turn (if is_other o t then with_instant None w else w) ss) is
        ∙ ap (λ q. (if not q then frame_of w else []) ++ drawn_in_turn (if not q then with_instant None w else w) ss) e)
    by false e = over_now w t ss b is (late b t (begun b refl) e) h
        ∙ sym (ap (λ o. (if is_other o t then frame_of w else []) ++ drawn_in_turn (if is_other o t then with_instant None w else w) ss) is
        ∙ ap (λ q. (if not q then frame_of w else []) ++ drawn_in_turn (if not q then with_instant None w else w) ss) e)

-- ---- what a cycle shows is taken

-- no instant was begun but this
abbrev BegunAt : ℕ → DrawingState → Type 0
BegunAt t w = ForSome w.begun (λ u. u ≡ t)

no_text : (t : ℕ) (w : DrawingState) → BegunAt t w → text_before t w ≡ []
no_text t w h = by w.begun refl h
  where
    same : (u t : ℕ) → u ≡ t → not (u == t) ≡ false
    same u t e = grind (arith, nat_tests)

    by : (o : Option ℕ) → w.begun ≡ o → ForSome o (λ u. u ≡ t) → text_before t w ≡ []
    by None is h = ap (λ o. if is_other o t then frame_of w else []) is
    by (Some u) is h = ap (λ o. if is_other o t then frame_of w else []) is ∙ ap (λ q. if q then frame_of w else []) (same u t (h u refl))

-- a value of a cell, as it is shown
abbrev one_shown : ℕ → Showing → PortRecord → ShownCell
one_shown at w r = record { time = at; cell = r.leaf - w.first; value = r.value }

-- the drawing, after records of an instant
took_turns : (at : ℕ) (rs : List PortRecord) (w : Showing) (later : List ShownCell) → BegunAt at w.drawing
    → drawn_in_turn w.drawing (filter_map (shown_by w.drawing.picture.space w.first at) rs ++ later) ≡ drawn_in_turn (took at rs w).drawing later
took_turns at [] w later h = refl
took_turns at (r ∷ rs) w later h = by (nat_le w.first r.leaf && nat_lt r.leaf (w.first + cell_count w.drawing.picture.space)) (λ v k p f. took_turns at rs v later k)
  where
    by : (b : Bool)
        → ((v : Showing) → BegunAt at v.drawing → v.drawing.picture ≡ w.drawing.picture → v.first ≡ w.first → drawn_in_turn v.drawing (filter_map (shown_by v.drawing.picture.space v.first at) rs ++ later) ≡ drawn_in_turn (took at rs v).drawing later)
        → drawn_in_turn w.drawing (cons_option (if b then Some (one_shown at w r) else None) (filter_map (shown_by w.drawing.picture.space w.first at) rs) ++ later)
        ≡ drawn_in_turn (took at rs (with_taken (if b then Some (one_shown at w r) else None) w)).drawing later
    by true more = ap (λ (text : Bytes). text ++ drawn_in_turn (with_shown (one_shown at w r) w.drawing) (filter_map (shown_by w.drawing.picture.space w.first at) rs ++ later)) (no_text at w.drawing h)
        ∙ more (with_drawing (with_shown (one_shown at w r) w.drawing) w) (λ x q. let same : at ≡ x = cc in sym same) refl refl
    by false more = more w h refl refl

same_begun : (w : Showing) (t : ℕ) → BegunAt t (ended_before t w).drawing
same_begun w t = by (is_other w.drawing.begun t) refl
  where
    equal : (u t : ℕ) → not (u == t) ≡ false → u ≡ t
    equal u t e = grind (arith, nat_tests)

    known : (o : Option ℕ) → is_other o t ≡ false → ForSome o (λ u. u ≡ t)
    known None e = λ x q. absurd (cc)
    known (Some u) e = λ x q. let same : u ≡ x = cc in sym same ∙ equal u t e

    by : (b : Bool) → is_other w.drawing.begun t ≡ b → BegunAt t (if b then showing_after_instant w else w).drawing
    by true e = λ x q. absurd (cc)
    by false e = known w.drawing.begun e

same_place : (w : Showing) (t : ℕ) → ((ended_before t w).first ≡ w.first) × ((ended_before t w).drawing.picture ≡ w.drawing.picture)
same_place w t = by (is_other w.drawing.begun t)
  where
    by : (b : Bool) → ((if b then showing_after_instant w else w).first ≡ w.first) × ((if b then showing_after_instant w else w).drawing.picture ≡ w.drawing.picture)
    by true = (refl, refl)
    by false = (refl, refl)

same_drawing : (w : Showing) (t : ℕ) → (if is_other w.drawing.begun t then with_instant None w.drawing else w.drawing) ≡ (ended_before t w).drawing
same_drawing w t = by (is_other w.drawing.begun t)
  where
    by : (b : Bool) → (if b then with_instant None w.drawing else w.drawing) ≡ (if b then showing_after_instant w else w).drawing
    by true = refl
    by false = refl

-- records leave where and what is drawn
took_place : (at : ℕ) (rs : List PortRecord) (w : Showing) → ((took at rs w).first ≡ w.first) × ((took at rs w).drawing.picture ≡ w.drawing.picture)
took_place at [] w = (refl, refl)
took_place at (r ∷ rs) w = let k = took_place at rs (with_taken (shown_of w at r) w) in let p = one (shown_of w at r) in (k.0 ∙ p.0, k.1 ∙ p.1)
  where
    one : (o : Option ShownCell) → ((with_taken o w).first ≡ w.first) × ((with_taken o w).drawing.picture ≡ w.drawing.picture)
    one None = (refl, refl)
    one (Some s) = (refl, refl)

after_place : (c : Cycle) (w : Showing) → ((after_cycle c w).first ≡ w.first) × ((after_cycle c w).drawing.picture ≡ w.drawing.picture)
after_place c w =
    let k = took_place c.time c.y (ended_before c.time w) in
    let p = same_place w c.time in
    (k.0 ∙ p.0, k.1 ∙ p.1)

-- ---- frames that are left

frames_step : (w : Option Showing) (c : Cycle) (cs : List Cycle) (low : ℕ) → IsBegunBy low w → InstantsNeverFall low (c ∷ cs)
    → frames_left w (c ∷ cs) ≡ frame_before c.time w ++ frames_left (option_map (after_cycle c) w) cs
frames_step None c cs low begun falls = refl
frames_step (Some w) c cs low begun falls =
    let space = w.drawing.picture.space in
    let here = filter_map (shown_by space w.first c.time) c.y in
    let later = shown_in space w.first cs in
    let e = ended_before c.time w in
    let p = same_place w c.time in
    let q = after_place c w in
    let first : drawn_in_turn w.drawing (here ++ later) ≡ text_before c.time w.drawing ++ drawn_in_turn (if is_other w.drawing.begun c.time then with_instant None w.drawing else w.drawing) (here ++ later) =
    before_now w.drawing c.time (here ++ later) w.drawing.begun refl (begun_by w.drawing.begun begun) (shown_all c.time space w.first) in
    let second : drawn_in_turn e.drawing (here ++ later) ≡ drawn_in_turn (after_cycle c w).drawing later =
    (λ i. drawn_in_turn e.drawing (filter_map (shown_by (sym p.1 i).space (sym p.0 i) c.time) c.y ++ later))
    ∙ took_turns c.time c.y e later (same_begun w c.time) in
    first ∙ ap (λ d. text_before c.time w.drawing ++ drawn_in_turn d (here ++ later)) (same_drawing w c.time)
    ∙ ap (λ t. text_before c.time w.drawing ++ t) (second ∙ (λ i. drawn_in_turn (after_cycle c w).drawing (shown_in (sym q.1 i).space (sym q.0 i) cs)))
  where
    begun_by : (o : Option ℕ) → ForSome o (λ u. u ≤ low) → ForSome o (λ u. u ≤ c.time)
    begun_by o h = λ x q. let le = falls.0 in let k = h x q in omega (arith, le, k)

    shown_all : (t : ℕ) (space : Space) (first : ℕ) → AreFrom c.time (filter_map (shown_by space first c.time) c.y ++ shown_in space first cs)
    shown_all t space first =
        from-append c.time (filter_map (shown_by space first c.time) c.y) (shown_in space first cs)
        (from_at c.time c.time (filter_map (shown_by space first c.time) c.y) (omega arith) (cycle_at space first c.time c.y)) (shown_from space first c.time cs falls.1)

-- after a cycle its instant is the last that was begun
begun_after : (w : Option Showing) (c : Cycle) → IsBegunBy c.time (option_map (after_cycle c) w)
begun_after None c = tt
begun_after (Some w) c = at_most (after_cycle c w).drawing.begun (took_begun c.y (ended_before c.time w) (same_begun w c.time))
  where
    at_most : (o : Option ℕ) → ForSome o (λ u. u ≡ c.time) → ForSome o (λ u. u ≤ c.time)
    at_most o h = λ x q. let k = h x q in omega (arith, k)

    took_begun : (rs : List PortRecord) (v : Showing) → BegunAt c.time v.drawing → BegunAt c.time (took c.time rs v).drawing
    took_begun [] v h = h
    took_begun (r ∷ rs) v h = took_begun rs (with_taken (shown_of v c.time r) v) (one (shown_of v c.time r) refl)
      where
        one : (o : Option ShownCell) → shown_of v c.time r ≡ o → BegunAt c.time (with_taken o v).drawing
        one None e = h
        one (Some s) e = λ x q. let same : s.time ≡ x = cc in sym same ∙ at_time (nat_le v.first r.leaf && nat_lt r.leaf (v.first + cell_count v.drawing.picture.space)) e
          where
            at_time : (b : Bool) → (if b then Some (let x : ShownCell = record { time = c.time; cell = r.leaf - v.first; value = r.value } in x) else None) ≡ Some s → s.time ≡ c.time
            at_time true e = let same : (let x : ShownCell = record { time = c.time; cell = r.leaf - v.first; value = r.value } in x) ≡ s = cc in ap (λ (x : ShownCell). x.time) (sym same)
            at_time false e = absurd (cc)

-- ---- texts that are left

-- the pieces of the end
end_texts : (tree : Tree) (letters : List ℕ) (w : Option Showing) (saved : Bytes) → texts_of (end_pieces w saved) ≡ left_texts tree letters w [] saved
end_texts tree letters w saved = λ i. record { log = []; out = []; frames = (append-nil (last_frame w) ∙ last w) i; state = append-nil saved i }
  where
    last : (w : Option Showing) → last_frame w ≡ frames_left w []
    last None = refl
    last (Some v) = refl

-- the pieces of cycles and of the end are all that is left to write
pub texts_all : (tree : Tree) (letters : List ℕ) (w : Option Showing) (cs : List Cycle) (saved : Bytes) (low : ℕ) → IsBegunBy low w → InstantsNeverFall low cs → texts_of (run_pieces tree letters w cs saved) ≡ left_texts tree letters w cs saved
texts_all tree letters w [] saved low begun falls = end_texts tree letters w saved
texts_all tree letters w (c ∷ cs) saved low begun falls =
    let more = option_map (after_cycle c) w in
    let rest = texts_all tree letters more cs saved c.time (begun_after w c) falls.1 in
    let log = log_bytes tree letters (c ∷ []) in
    let out = out_bytes tree (c ∷ []) in
    let frame = frame_before c.time w in
    λ i. record {
      log = (ap (λ (t : Texts). log ++ t.log) rest ∙ sym (texts_join.log tree letters (c ∷ []) cs)) i;
      out = (ap (λ (t : Texts). out ++ t.out) rest ∙ sym (texts_join.out tree (c ∷ []) cs)) i;
      frames = (ap (λ (t : Texts). frame ++ t.frames) rest ∙ sym (frames_step w c cs low begun falls)) i;
      state = ap (λ (t : Texts). t.state) rest i;
    }

-- ---- all frames

never_fall : (space : Space) (first low : ℕ) (cs : List Cycle) → InstantsNeverFall low cs → NeverFall low (shown_in space first cs)
never_fall space first low [] h = tt
never_fall space first low (c ∷ cs) h = one low (filter_map (shown_by space first c.time) c.y) h.0 (cycle_at space first c.time c.y) (never_fall space first c.time cs h.1)
  where
    lower : (t u : ℕ) (ss : List ShownCell) → t ≤ u → NeverFall u ss → NeverFall t ss
    lower t u [] le k = tt
    lower t u (s ∷ ss) le k = let q = k.0 in (omega (arith, le, q), k.1)

    one : (t : ℕ) (ss : List ShownCell) → t ≤ c.time → AreAt c.time ss → NeverFall c.time (shown_in space first cs) → NeverFall t (ss ++ shown_in space first cs)
    one t [] le k more = lower t c.time (shown_in space first cs) le more
    one t (s ∷ ss) le k more =
        let e = k.0 in
        (omega (arith, le, e), one s.time ss (omega (arith, e)) k.1 more)

inside : (space : Space) (first n : ℕ) (cs : List Cycle) → n ≡ cell_count space → AllByRecursion (λ (s : ShownCell). s.cell < n) (shown_in space first cs)
inside space first n [] is = tt
inside space first n (c ∷ cs) is = among c.y (inside space first n cs is)
  where
    within : (a b m : ℕ) → (nat_le a b && nat_lt b (a + m)) ≡ true → b - a < m
    within a b m e = grind (arith, nat_tests)

    among : (rs : List PortRecord) → AllByRecursion (λ (s : ShownCell). s.cell < n) (shown_in space first cs) → AllByRecursion (λ (s : ShownCell). s.cell < n) (filter_map (shown_by space first c.time) rs ++ shown_in space first cs)
    among [] more = more
    among (r ∷ rs) more = by (nat_le first r.leaf && nat_lt r.leaf (first + cell_count space)) refl (among rs more)
      where
        by : (b : Bool) → (nat_le first r.leaf && nat_lt r.leaf (first + cell_count space)) ≡ b → AllByRecursion (λ (s : ShownCell). s.cell < n) (filter_map (shown_by space first c.time) rs ++ shown_in space first cs)
            → AllByRecursion (λ (s : ShownCell). s.cell < n) (cons_option (if b then Some (record { time = c.time; cell = r.leaf - first; value = r.value }) else None) (filter_map (shown_by space first c.time) rs) ++ shown_in space first cs)
        by true e more = (let lt = within first r.leaf (cell_count space) e in omega (arith, lt, is), more)
        by false e more = more

-- instants that never fall from a time on don't from an earlier one on
pub never_fall_from : (low early : ℕ) (cs : List Cycle) → early ≤ low → InstantsNeverFall low cs → InstantsNeverFall early cs
never_fall_from low early [] le h = tt
never_fall_from low early (c ∷ cs) le h = let from = h.0 in (omega (arith, le, from), h.1)

-- frames that begin with these values, drawn in turn, are those of all cycles
pub all_frames : (p : Picture) (first : ℕ) (start : ℕ → Value) (cs : List Cycle) → IsUndefinedFrom (cell_count p.space) start → InstantsNeverFall 0 cs → frames_left (Some (showing_from first p start)) cs ≡ frames_of p first start cs
all_frames p first start cs none falls =
    let n = cell_count p.space in
    let values = map start (range_with_len 0 n) in
    draws_all p values (shown_in p.space first cs) (values_length start n) (inside p.space first (length values) cs (values_length start n)) (never_fall p.space first 0 cs falls)
    ∙ (λ i. frames p (λ cell. values_are start n none cell i) (shown_in p.space first cs))
