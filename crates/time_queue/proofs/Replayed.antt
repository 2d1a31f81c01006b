-- Moves carried out one after another.
use Rattle.std.proofs.Common.{◌≡◌, ℕ, zero, suc, ◌+◌, ◌<◌, ◌≤◌, Option, List, [], ◌∷◌, ◌++◌, map, length, take, drop, get_or, refl, sym, ap, ◌∙◌, add-one, append-nil, append_assoc, arith}
use Rattle.std.specs.Prelude.{Result, Ok, Err, OnErr}
use Rattle.std.proofs.lemmas.List.{take_all, drop_all, map_push}
use Rattle.std.proofs.Math.Seq.{drop-cons}
use Rattle.time_queue.specs.declared.moves.Move.{Move}
use Rattle.time_queue.specs.declared.moves.Reply.{Reply}
use Rattle.time_queue.specs.Waiting.{least_time}
use Rattle.time_queue.specs.Replay.{after, times_after_move, taken_by, replies_of}

after_suc : (ms : List Move) (i : ℕ) (d : Move) (start : List (Option ℕ)) → i < length ms → after (take (suc i) ms) start ≡ times_after_move (get_or ms i d) (after (take i ms) start)
after_suc [] i d start lt = absurd (omega arith)
after_suc (m ∷ ms) zero d start lt = refl
after_suc (m ∷ ms) (suc i) d start lt = after_suc ms i d (times_after_move m start) (omega arith)

-- one move more is carried out
pub after_more : (ms : List Move) (i : ℕ) (m : Move) (start now next : List (Option ℕ)) → i < length ms → m ≡ get_or ms i m → now ≡ after (take i ms) start → next ≡ times_after_move m now → next ≡ after (take (i + 1) ms) start
after_more ms i m start now next lt is held more =
    more ∙ (λ t. times_after_move (is t) (held t)) ∙ sym (after_suc ms i m start lt) ∙ ap (λ k. after (take k ms) start) (sym (add-one i))

-- the move is the first of those that are left
left_step : (ms : List Move) (i : ℕ) (m : Move) → i < length ms → m ≡ get_or ms i m → drop i ms ≡ m ∷ drop (i + 1) ms
left_step ms i m lt is = drop-cons ms i m lt ∙ ap (λ x. x ∷ drop (suc i) ms) (sym is) ∙ ap (λ k. m ∷ drop k ms) (sym (add-one i))

-- one reply more
pub reply_more : (ms : List Move) (i : ℕ) (m : Move) (now next : List (Option ℕ)) (r : Reply) (rs : List (List ℕ × Option ℕ)) → i < length ms → m ≡ get_or ms i m → next ≡ times_after_move m now → r.taken.items ≡ taken_by m now → r.least ≡ least_time (times_after_move m now)
    → rs ++ replies_of (drop i ms) now ≡ (rs ++ (r.taken.items, r.least) ∷ []) ++ replies_of (drop (i + 1) ms) next
reply_more ms i m now next r rs lt is more taken least =
    ap (λ (l : List Move). rs ++ replies_of l now) (left_step ms i m lt is)
    ∙ rw (more, taken, least) (sym (append_assoc rs ((taken_by m now, least_time (times_after_move m now)) ∷ []) (replies_of (drop (i + 1) ms) (times_after_move m now))))

pub replies_more : (ms : List Move) (i : ℕ) (m : Move) (now next : List (Option ℕ)) (r : Reply) (old new : List Reply) (whole : List (List ℕ × Option ℕ)) → i < length ms → m ≡ get_or ms i m → next ≡ times_after_move m now → r.taken.items ≡ taken_by m now → r.least ≡ least_time (times_after_move m now) → new ≡ old ++ r ∷ []
    → map (λ (x : Reply). (x.taken.items, x.least)) old ++ replies_of (drop i ms) now ≡ whole
    → map (λ (x : Reply). (x.taken.items, x.least)) new ++ replies_of (drop (i + 1) ms) next ≡ whole
replies_more ms i m now next r old new whole lt is more taken least items before =
    ap (λ (xs : List (List ℕ × Option ℕ)). xs ++ replies_of (drop (i + 1) ms) next) (ap (map (λ (x : Reply). (x.taken.items, x.least))) items ∙ map_push (λ (x : Reply). (x.taken.items, x.least)) old r)
    ∙ sym (reply_more ms i m now next r (map (λ (x : Reply). (x.taken.items, x.least)) old) lt is more taken least) ∙ before

-- no move is left
pub replies_all : (ms : List Move) (i : ℕ) (now : List (Option ℕ)) (rs whole : List (List ℕ × Option ℕ)) → length ms ≤ i → rs ++ replies_of (drop i ms) now ≡ whole → rs ≡ whole
replies_all ms i now rs whole past before = sym (append-nil rs) ∙ ap (λ (l : List Move). rs ++ replies_of l now) (sym (drop_all i ms past)) ∙ before

pub after_all : (ms : List Move) (i : ℕ) (start now : List (Option ℕ)) → length ms ≤ i → now ≡ after (take i ms) start → now ≡ after ms start
after_all ms i start now past held = held ∙ ap (λ (l : List Move). after l start) (take_all i ms past)

-- what holds is so on a failure too
pub held_on_err : {A E : Type 0} (r : Result A E) (P : Type 0) → P → OnErr r P
held_on_err (Ok x) P held = tt
held_on_err (Err e) P held = held
