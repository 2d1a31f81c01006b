-- What is proved of a queue.
use Rattle.std.proofs.Common.{◌≡◌, ℕ, ◌+◌, Bool, true, false, Option, None, List, [], ◌∷◌, ◌++◌, refl, arith}
use Rattle.std.specs.Prelude.{IfSome, if◌then◌else◌, ◌==◌, ℤ, pos, codes}
use Rattle.std.specs.List.{All}
use Rattle.std.proofs.lemmas.Bool.Decides.{nat_tests}
use Rattle.std.proofs.lemmas.List.Elements.{All-nil, All-cons, All-head, All-tail, All-append}
use Rattle.quantity.specs.declared.value.Value.{Value}
use Rattle.quantity.specs.Roots.{IsBounded}
use Rattle.quantity.specs.TimeBounds.{IsDelay, IsTime}
use Rattle.atomic_face.specs.declared.class.PortNo.{PortNo}
use Rattle.atomic_face.specs.Words.{time_of_word, word_of, value_of_word}
use Rattle.atomic_face.specs.Bags.{Bag, is_at}
use Rattle.atomic_face.specs.Parameters.{time_setting}
use Rattle.quantity.specs.Bytes.{is_empty}
use Rattle.atomic_face.specs.Queue.{QueueState, queue_state, all_but_first, first_value, queue_internal, queue_input, queue_inputs, queue_closing, queue_next, queue_moved, queue_rules}
use Rattle.run_model.specs.ClassBounds.{IsNotBefore, IsValueWord}
use Rattle.run_model.specs.QueueBounds.{queue_bounds}
use Rattle.run_model.proofs.BoundedCells.{IsBoundedInput}
use Rattle.run_model.proofs.BoundedParameters.{time_of}
use Rattle.run_model.proofs.BoxWords.{any_time, DueIs, word-is, outputs-are, outputs-at}
use Rattle.run_model.proofs.ClassLaws.{ClassLaws}

-- ---- a value is prepared from an instant on

abbrev QueueWaits : ℕ → QueueState → Type 0
QueueWaits t q = q.phase ≡ 1 → IsNotBefore t (time_of_word q.due)

queue_next-waits : (t phase : ℕ) (due : Option ℕ) (b : Bool) → (phase == 1) ≡ b → (phase ≡ 1 → IsNotBefore t due) → IsNotBefore t (if b then due else None)
queue_next-waits t phase due true e h = h (grind (arith, nat_tests))
queue_next-waits t phase due false e h = tt

queue_next-from : (t phase : ℕ) (due : Option ℕ) (b : Bool) → (phase == 1) ≡ b → IsNotBefore t (if b then due else None) → phase ≡ 1 → IsNotBefore t due
queue_next-from t phase due true e h one = h
queue_next-from t phase due false e h one = absurd (grind (arith, nat_tests))

queue_input-waits : (t : ℕ) (q : QueueState) (i : PortNo × Value) → QueueWaits t q → QueueWaits t (queue_input q i)
queue_input-waits t q i h = at_port (i.0.0 == 0)
  where
    phased : (b : Bool) → (q.phase == 2) ≡ b → (if b then 0 else q.phase) ≡ 1 → IsNotBefore t (time_of_word q.due)
    phased true e one = absurd (omega (arith, one))
    phased false e one = h one

    at_port : (b : Bool) → QueueWaits t (if b then record q { waiting = q.waiting ++ word_of i.1 ∷ [] } else record q { phase = if q.phase == 2 then 0 else q.phase })
    at_port true = h
    at_port false = phased (q.phase == 2) refl

queue_inputs-wait : (t : ℕ) (q : QueueState) (bag : Bag) → QueueWaits t q → QueueWaits t (queue_inputs q bag)
queue_inputs-wait t q [] h = h
queue_inputs-wait t q (i ∷ is) h = queue_inputs-wait t (queue_input q i) is (queue_input-waits t q i h)

queue_closing-waits : (t preparation : ℕ) (q : QueueState) → QueueWaits t q → QueueWaits t (queue_closing preparation t q)
queue_closing-waits t preparation q h = idle (q.phase == 0) (is_empty q.waiting)
  where
    idle : (b d : Bool) → QueueWaits t (if b then (if d then q else record q { phase = 1; due = pos (t + preparation) }) else q)
    idle true true = h
    idle true false = λ one. omega arith
    idle false d = h

queue_start-waits : (t : ℕ) (q : QueueState) (b : Bool) → QueueWaits t q → QueueWaits t (if b then queue_internal q else q)
queue_start-waits t q true h = λ one. absurd (omega (arith, one))
queue_start-waits t q false h = h

queue-waits : (settings state : List ℤ) (t : ℕ) (bag : Bag) → queue_bounds.waits_from t state → IfSome (queue_rules.moved settings state t bag) (queue_bounds.waits_from t)
queue-waits settings state t bag h =
    let q = queue_state state in
    let from : QueueWaits t q = queue_next-from t q.phase (time_of_word q.due) (q.phase == 1) refl h in
    let r = queue_moved (time_setting settings) t q bag in
    queue_next-waits t r.phase (time_of_word r.due) (r.phase == 1) refl
    (queue_closing-waits t (time_setting settings) (queue_inputs (if is_at t (queue_next q) then queue_internal q else q) bag)
    (queue_inputs-wait t (if is_at t (queue_next q) then queue_internal q else q) bag (queue_start-waits t q (is_at t (queue_next q)) from)))

-- ---- due times and waiting values are bounded

record IsQueue (q : QueueState) : Type 0 where
  due : DueIs q.due
  waiting : All IsValueWord q.waiting

queue_input-is : (q : QueueState) (i : PortNo × Value) → IsBounded i.1 → IsQueue q → IsQueue (queue_input q i)
queue_input-is q i good h = at_port (i.0.0 == 0)
  where
    at_port : (b : Bool) → IsQueue (if b then record q { waiting = q.waiting ++ word_of i.1 ∷ [] } else record q { phase = if q.phase == 2 then 0 else q.phase })
    at_port true = record { due = h.due; waiting = All-append IsValueWord q.waiting (word_of i.1 ∷ []) h.waiting (All-cons IsValueWord (word_of i.1) [] (word-is i.1 good) (All-nil IsValueWord)) }
    at_port false = record { due = h.due; waiting = h.waiting }

queue_inputs-are : (q : QueueState) (bag : Bag) → All IsBoundedInput bag → IsQueue q → IsQueue (queue_inputs q bag)
queue_inputs-are q [] good h = h
queue_inputs-are q (i ∷ is) good h =
    queue_inputs-are (queue_input q i) is (All-tail IsBoundedInput i is good) (queue_input-is q i (All-head IsBoundedInput i is good) h)

queue_closing-is : (preparation t : ℕ) (q : QueueState) → IsDelay preparation → IsDelay t → IsQueue q → IsQueue (queue_closing preparation t q)
queue_closing-is preparation t q delay time h = idle (q.phase == 0) (is_empty q.waiting)
  where
    idle : (b d : Bool) → IsQueue (if b then (if d then q else record q { phase = 1; due = pos (t + preparation) }) else q)
    idle true true = h
    idle true false = record { due = omega arith; waiting = h.waiting }
    idle false d = h

rest-is : (ws : List ℤ) → All IsValueWord ws → All IsValueWord (all_but_first ws)
rest-is [] h = h
rest-is (w ∷ ws) h = All-tail IsValueWord w ws h

queue_start-is : (q : QueueState) (b : Bool) → IsQueue q → IsQueue (if b then queue_internal q else q)
queue_start-is q true h = record { due = tt; waiting = rest-is q.waiting h.waiting }
queue_start-is q false h = h

queue-is : (settings state : List ℤ) (t : ℕ) (bag : Bag) → queue_bounds.bounded_settings settings → IsDelay t → All IsBoundedInput bag → queue_bounds.bounded_state state → IfSome (queue_rules.moved settings state t bag) queue_bounds.bounded_state
queue-is settings state t bag set time good h =
    let q = queue_state state in
    let begun = if is_at t (queue_next q) then queue_internal q else q in
    let whole : IsQueue q = record { due = h.0; waiting = h.1 } in
    let end = queue_closing-is (time_setting settings) t (queue_inputs begun bag) set time (queue_inputs-are begun bag good (queue_start-is q (is_at t (queue_next q)) whole)) in
    (end.due, end.waiting)

first-is : (ws : List ℤ) → All IsValueWord ws → All IsBounded (first_value ws)
first-is [] h = All-nil IsBounded
first-is (w ∷ ws) h = All-cons IsBounded (value_of_word w) [] (All-head IsValueWord w ws h) (All-nil IsBounded)

queue_next-bounded : (b : Bool) (w : ℤ) → DueIs w → IfSome (if b then time_of_word w else None) IsTime
queue_next-bounded true w h = h
queue_next-bounded false w h = tt

-- ---- all laws

pub queue_laws : ClassLaws queue_rules queue_bounds
queue_laws = record {
  start_waits = λ settings. tt;
  state_waits = λ settings state h. any_time (queue_rules.next state);
  moved_waits = queue-waits;
  waits_later = λ state low u f h. f;
  next_waits = λ state low h. h;
  settings_bounded = λ ps. (time_of ps (codes "preparation")).1;
  start_bounded = λ settings set. (tt, All-nil IsValueWord);
  moved_bounded = queue-is;
  next_bounded = λ state h. queue_next-bounded ((queue_state state).phase == 1) (queue_state state).due h.0;
  output_bounded = λ settings state set h. outputs-are (first_value (queue_state state).waiting) (first-is (queue_state state).waiting h.1);
  output_at_out = λ settings state. outputs-at (first_value (queue_state state).waiting);
  inputs_named = refl;
}
