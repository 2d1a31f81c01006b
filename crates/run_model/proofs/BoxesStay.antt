-- Queues, cpus and counters keep their words a state of their class.
use Rattle.std.proofs.Common.{◌≡◌, ◌≢◌, ℕ, zero, suc, ◌+◌, ◌<◌, ◌≤◌, Bool, true, false, true≢false, Option, Some, None, List, [], ◌∷◌, ◌++◌, length, refl, sym, ap, subst, arith, length-append}
use Rattle.std.specs.Prelude.{IfSome, if◌then◌else◌, nat_le, ◌==◌, ◌&&◌, ◌||◌, ◌^◌, ℤ, pos, negsuc, unsigned_abs, int_le}
use Rattle.std.specs.List.{All}
use Rattle.std.specs.Bool.{beq}
use Rattle.std.specs.Option.{option_map}
use Rattle.std.proofs.lemmas.List.Elements.{All-nil, All-cons, All-head, All-tail, All-filter}
use Rattle.std.proofs.lemmas.Bool.Decides.{nat_tests}
use Rattle.quantity.specs.declared.value.Value.{Value}
use Rattle.quantity.specs.declared.value.Value.TheVariants.{Undefined, Num}
use Rattle.quantity.specs.Roots.{IsBounded}
use Rattle.quantity.specs.Arithmetic.{sum_of}
use Rattle.atomic_face.specs.declared.class.Class.TheVariants.{Queue, Cpu, Counter}
use Rattle.atomic_face.specs.declared.class.PortNo.{PortNo}
use Rattle.atomic_face.specs.Words.{no_time, time_of_word, word_of, value_of_word, natural_in, is_time_word, is_none_word, is_due_if, is_value_word, are_values}
use Rattle.atomic_face.specs.Bags.{same_time}
use Rattle.atomic_face.specs.Parameters.{time_setting, setting}
use Rattle.quantity.specs.Bytes.{is_empty}
use Rattle.atomic_face.specs.Queue.{QueueState, queue_state, queue_words, all_but_first, queue_internal, queue_input, queue_inputs, queue_closing, queue_next, is_waiting, is_one, is_queue}
use Rattle.atomic_face.specs.Cpu.{cpu_pairs, cpu_words, cpu_next, cpu_put, cpu_inputs, cpu_moved, pairs_at, are_pairs}
use Rattle.atomic_face.specs.Counter.{CounterState, counter_state, counter_words, counter_input, counter_inputs, counter_closing, counter_internal, for_some, is_counter}
use Rattle.atomic_face.specs.Classes.{Bag, is_at}
use Rattle.quantity.specs.TimeBounds.{IsDelay}
use Rattle.run_model.specs.CpuBounds.{IsTimeFrom, NeverFalls}
use Rattle.run_model.specs.BoxesStay.{StaysAState}
use Rattle.run_model.proofs.BoundedValues.{sum-is}
use Rattle.run_model.proofs.CpuLaws.{filter-waits, inputs-wait}

and-both : (a b : Bool) → (a && b) ≡ true → (a ≡ true) × (b ≡ true)
and-both true b e = (refl, e)
and-both false b e = absurd (true≢false (sym e))

both-and : (a b : Bool) → a ≡ true → b ≡ true → (a && b) ≡ true
both-and true b e f = f
both-and false b e f = e

value-word : (v : Value) → IsBounded v → is_value_word (word_of v) ≡ true
value-word Undefined h = refl
value-word (Num x) h =
    let test : nat_le (unsigned_abs x) (10 ^ 15) ≡ true = grind (arith, nat_tests) in
    ap (λ b. b || (int_le (pos (10 ^ 16)) x && int_le x (pos (10 ^ 16)))) test

time-word : (n : ℕ) → n ≤ 719999998 → is_time_word (pos n) ≡ true
time-word n le = grind (arith, nat_tests)

values-append : (ws : List ℤ) (w : ℤ) → are_values ws ≡ true → is_value_word w ≡ true → are_values (ws ++ w ∷ []) ≡ true
values-append [] w h k = both-and (is_value_word w) true k refl
values-append (x ∷ xs) w h k =
    let parts = and-both (is_value_word x) (are_values xs) h in
    both-and (is_value_word x) (are_values (xs ++ w ∷ [])) parts.0 (values-append xs w parts.1 k)

abbrev IsInput : PortNo × Value → Type 0
IsInput i = IsBounded i.1

-- ---- queue

-- what holds while a queue takes its values
record IsOpen (q : QueueState) : Type 0 where
  due : is_due_if (q.phase == 1) q.due ≡ true
  some : q.phase ≡ 1 → 0 < length q.waiting
  small : q.phase ≤ 2
  values : are_values q.waiting ≡ true

waiting-some : (n : ℕ) (ws : List ℤ) → is_waiting (pos n) ws ≡ true → (n ≡ 1 → 0 < length ws) × (n ≤ 2)
waiting-some zero ws h = (λ e. absurd (omega (arith, e)), omega arith)
waiting-some (suc zero) ws h = (λ e. grind (arith, nat_tests), omega arith)
waiting-some (suc (suc n)) ws h = (λ e. absurd (omega (arith, e)), grind (arith, nat_tests))

opened : (state : List ℤ) → is_queue state ≡ true → IsOpen (queue_state state)
opened [] h = absurd (true≢false (sym h))
opened (p ∷ []) h = absurd (true≢false (sym h))
opened (pos n ∷ d ∷ ws) h =
    let front = and-both (is_due_if (is_one (pos n)) d && is_waiting (pos n) ws) (are_values ws) h in
    let parts = and-both (is_due_if (is_one (pos n)) d) (is_waiting (pos n) ws) front.0 in
    let waiting = waiting-some n ws parts.1 in
    record { due = parts.0; some = waiting.0; small = waiting.1; values = front.1 }
opened (negsuc n ∷ d ∷ ws) h =
    let front = and-both (is_due_if (is_one (negsuc n)) d && is_waiting (negsuc n) ws) (are_values ws) h in
    absurd (true≢false (sym (and-both (is_due_if (is_one (negsuc n)) d) (is_waiting (negsuc n) ws) front.0).1))

waiting-is : (n : ℕ) (ws : List ℤ) → (n ≡ 0 → length ws ≡ 0) → (n ≡ 1 → 0 < length ws) → n ≤ 2 → is_waiting (pos n) ws ≡ true
waiting-is zero ws idle some small = let none : length ws ≡ 0 = idle refl in grind (arith, nat_tests)
waiting-is (suc zero) ws idle some small = let more : 0 < length ws = some refl in grind (arith, nat_tests)
waiting-is (suc (suc n)) ws idle some small = grind (arith, nat_tests)

closed : (q : QueueState) → IsOpen q → (q.phase ≡ 0 → length q.waiting ≡ 0) → is_queue (queue_words q) ≡ true
closed q h idle =
    both-and (is_due_if (q.phase == 1) q.due && is_waiting (pos q.phase) q.waiting) (are_values q.waiting)
    (both-and (is_due_if (q.phase == 1) q.due) (is_waiting (pos q.phase) q.waiting) h.due (waiting-is q.phase q.waiting idle h.some h.small)) h.values

input-open : (q : QueueState) (i : PortNo × Value) → IsBounded i.1 → IsOpen q → IsOpen (queue_input q i)
input-open q i good h = at_port (i.0.0 == 0)
  where
    done_port : (b : Bool) → (q.phase == 2) ≡ b → IsOpen (record q { phase = if b then 0 else q.phase })
    done_port true e =
        let two : q.phase ≡ 2 = grind (arith, nat_tests) in
        record { due = subst (λ n. is_due_if (n == 1) q.due ≡ true) two h.due; some = λ one. absurd (omega (arith, one)); small = omega arith; values = h.values }
    done_port false e = h

    at_port : (b : Bool) → IsOpen (if b then record q { waiting = q.waiting ++ word_of i.1 ∷ [] } else record q { phase = if q.phase == 2 then 0 else q.phase })
    at_port true = record {
      due = h.due;
      some = λ one. omega (arith, length-append q.waiting (word_of i.1 ∷ []));
      small = h.small;
      values = values-append q.waiting (word_of i.1) h.values (value-word i.1 good);
    }
    at_port false = done_port (q.phase == 2) refl

inputs-open : (q : QueueState) (bag : Bag) → All IsInput bag → IsOpen q → IsOpen (queue_inputs q bag)
inputs-open q [] good h = h
inputs-open q (i ∷ is) good h = inputs-open (queue_input q i) is (All-tail IsInput i is good) (input-open q i (All-head IsInput i is good) h)

rest-are : (ws : List ℤ) → are_values ws ≡ true → are_values (all_but_first ws) ≡ true
rest-are [] h = h
rest-are (w ∷ ws) h = (and-both (is_value_word w) (are_values ws) h).1

begun-open : (q : QueueState) (b : Bool) → IsOpen q → IsOpen (if b then queue_internal q else q)
begun-open q true h = record { due = refl; some = λ one. absurd (omega (arith, one)); small = omega arith; values = rest-are q.waiting h.values }
begun-open q false h = h

closing-closed : (preparation t : ℕ) (q : QueueState) → IsDelay preparation → IsDelay t → IsOpen q → is_queue (queue_words (queue_closing preparation t q)) ≡ true
closing-closed preparation t q delay time h = idle (q.phase == 0) refl
  where
    prepares : (ws : List ℤ) → are_values ws ≡ true → q.phase ≡ 0 → ws ≡ q.waiting → is_queue (queue_words (if is_empty ws then q else record q { phase = 1; due = pos (t + preparation) })) ≡ true
    prepares [] values none is = closed q h (λ e. sym (ap length is))
    prepares (w ∷ ws) values none is =
        closed (record q { phase = 1; due = pos (t + preparation) })
        (record { due = time-word (t + preparation) (omega arith); some = λ one. omega (arith, ap length is); small = omega arith; values = h.values }) (λ e. absurd (omega (arith, e)))

    idle : (b : Bool) → (q.phase == 0) ≡ b → is_queue (queue_words (if b then (if is_empty q.waiting then q else record q { phase = 1; due = pos (t + preparation) }) else q)) ≡ true
    idle true e = let none : q.phase ≡ 0 = grind (arith, nat_tests) in prepares q.waiting h.values none refl
    idle false e = let some : q.phase ≢ 0 = grind (arith, nat_tests) in closed q h (λ none. absurd (some none))

pub queues-stay : StaysAState Queue
queues-stay settings state t bag set time good h =
    let q = queue_state state in
    let begun = if is_at t (queue_next q) then queue_internal q else q in
    closing-closed (time_setting settings) t (queue_inputs begun bag) set time (inputs-open begun bag good (begun-open q (is_at t (queue_next q)) (opened state h)))

-- ---- counter

abbrev DueOrNone : ℤ → Type 0
DueOrNone w = (is_time_word w || is_none_word w) ≡ true

abbrev IsCounting : CounterState → Type 0
IsCounting c = (is_value_word c.total ≡ true) × DueOrNone c.due

counting : (state : List ℤ) → is_counter state ≡ true → IsCounting (counter_state state)
counting [] h = absurd (true≢false (sym h))
counting (t ∷ []) h = absurd (true≢false (sym h))
counting (t ∷ d ∷ []) h = and-both (is_value_word t) (is_time_word d || is_none_word d) h
counting (t ∷ d ∷ x ∷ ws) h = absurd (true≢false (sym h))

bounded-word : (w : ℤ) → IsBounded (value_of_word w) → is_value_word w ≡ true
bounded-word (pos n) h = test (n == 10 ^ 16) refl h
  where
    test : (b : Bool) → (n == 10 ^ 16) ≡ b → IsBounded (if b then Undefined else Num (pos n)) → is_value_word (pos n) ≡ true
    test true e h = let is : 10 ^ 16 ≡ n = grind (arith, nat_tests) in subst (λ m. is_value_word (pos m) ≡ true) is refl
    test false e h = value-word (Num (pos n)) h
bounded-word (negsuc n) h = value-word (Num (negsuc n)) h

counter_input-stays : (settings : List ℤ) (c : CounterState) (i : PortNo × Value) → IsBounded (value_of_word (setting settings 1)) → IsCounting c → IfSome (counter_input settings c i) IsCounting
counter_input-stays settings c i set h = at_port (i.0.0 == 0)
  where
    summed : (o : Option Value) → IfSome o IsBounded → IfSome (option_map (λ v. record c { total = word_of v }) o) IsCounting
    summed None k = tt
    summed (Some v) k = (value-word v k, h.1)

    at_port : (b : Bool) → IfSome (if b then option_map (λ v. record c { total = word_of v }) (sum_of (value_of_word c.total) (value_of_word (setting settings 2))) else Some (record c { total = setting settings 1 })) IsCounting
    at_port true = summed (sum_of (value_of_word c.total) (value_of_word (setting settings 2))) (sum-is (value_of_word c.total) (value_of_word (setting settings 2)))
    at_port false = (bounded-word (setting settings 1) set, h.1)

counter_inputs-stay : (settings : List ℤ) (c : CounterState) (bag : Bag) → IsBounded (value_of_word (setting settings 1)) → IsCounting c → IfSome (counter_inputs settings c bag) IsCounting
counter_inputs-stay settings c [] set h = h
counter_inputs-stay settings c (i ∷ is) set h = goes_on (counter_input settings c i) (counter_input-stays settings c i set h) (λ d. counter_inputs-stay settings d is set)
  where
    goes_on : (o : Option CounterState) → IfSome o IsCounting → ((d : CounterState) → IsCounting d → IfSome (counter_inputs settings d is) IsCounting) → IfSome (for_some o (λ d. counter_inputs settings d is)) IsCounting
    goes_on None k rest = tt
    goes_on (Some d) k rest = rest d k

counter_internal-stays : (t : ℕ) (c : CounterState) → IsCounting c → IsCounting (counter_internal t c)
counter_internal-stays t c h = due (is_at t (time_of_word c.due))
  where
    due : (b : Bool) → IsCounting (if b then record c { due = no_time } else c)
    due true = (h.0, refl)
    due false = h

counter_closing-stays : (delay t : ℕ) (bag : Bag) (c : CounterState) → IsDelay delay → IsDelay t → IsCounting c → IsCounting (counter_closing delay t bag c)
counter_closing-stays delay t [] c le time h = h
counter_closing-stays delay t (i ∷ is) c le time h = (h.0, ap (λ b. b || is_none_word (pos (t + delay))) (time-word (t + delay) (omega arith)))

pub counters-stay : StaysAState Counter
counters-stay settings state t bag set time good h =
    written (counter_inputs settings (counter_internal t (counter_state state)) bag)
    (counter_inputs-stay settings (counter_internal t (counter_state state)) bag set.1 (counter_internal-stays t (counter_state state) (counting state h)))
  where
    written : (o : Option CounterState) → IfSome o IsCounting → IfSome (option_map counter_words (option_map (counter_closing (natural_in (setting settings 0)) t bag) o)) (λ words. is_counter words ≡ true)
    written None k = tt
    written (Some c) k =
        let d = counter_closing-stays (natural_in (setting settings 0)) t bag c set.0 time k in
        both-and (is_value_word (counter_closing (natural_in (setting settings 0)) t bag c).total) (is_time_word (counter_closing (natural_in (setting settings 0)) t bag c).due || is_none_word (counter_closing (natural_in (setting settings 0)) t bag c).due) d.0 d.1

-- ---- cpu

abbrev IsPair : ℤ × ℤ → Type 0
IsPair p = (is_time_word p.0 ≡ true) × (is_value_word p.1 ≡ true)

abbrev Words : Type 0
Words = List (ℤ × ℤ)

from_low : (low : ℕ) (w : ℤ) → is_time_word w ≡ true → int_le (pos low) w ≡ true → IsTimeFrom low w
from_low low (pos n) h k = grind (arith, nat_tests)
from_low low (negsuc n) h k = absurd (true≢false (sym h))

to_low : (low : ℕ) (w : ℤ) → IsTimeFrom low w → int_le (pos low) w ≡ true
to_low low (pos n) h = grind (arith, nat_tests)
to_low low (negsuc n) h = absurd h

pairs-in : (low : ℕ) (ws : List ℤ) → are_pairs (pos low) ws ≡ true → NeverFalls low (cpu_pairs ws) × All IsPair (cpu_pairs ws)
pairs-in low [] h = (tt, All-nil IsPair)
pairs-in low (t ∷ []) h = absurd (true≢false (sym h))
pairs-in low (pos n ∷ v ∷ ws) h =
    let three = and-both (is_time_word (pos n) && int_le (pos low) (pos n) && is_value_word v) (are_pairs (pos n) ws) h in
    let two = and-both (is_time_word (pos n) && int_le (pos low) (pos n)) (is_value_word v) three.0 in
    let one = and-both (is_time_word (pos n)) (int_le (pos low) (pos n)) two.0 in
    let rest = pairs-in n ws three.1 in
    ((from_low low (pos n) one.0 one.1, rest.0), All-cons IsPair (pos n, v) (cpu_pairs ws) (one.0, two.1) rest.1)
pairs-in low (negsuc n ∷ v ∷ ws) h =
    let three = and-both (is_time_word (negsuc n) && int_le (pos low) (negsuc n) && is_value_word v) (are_pairs (negsuc n) ws) h in
    let two = and-both (is_time_word (negsuc n) && int_le (pos low) (negsuc n)) (is_value_word v) three.0 in
    absurd (true≢false (sym (and-both (is_time_word (negsuc n)) (int_le (pos low) (negsuc n)) two.0).0))

pairs-out : (low : ℕ) (ps : Words) → NeverFalls low ps → All IsPair ps → are_pairs (pos low) (cpu_words ps) ≡ true
pairs-out low [] h k = refl
pairs-out low (p ∷ ps) h k = timed p.0 h.0 h.1 (All-head IsPair p ps k) (λ n rest. pairs-out n ps rest (All-tail IsPair p ps k))
  where
    timed : (w : ℤ) → IsTimeFrom low w → NeverFalls (natural_in w) ps → (is_time_word w ≡ true) × (is_value_word p.1 ≡ true) → ((n : ℕ) → NeverFalls n ps → are_pairs (pos n) (cpu_words ps) ≡ true) → are_pairs (pos low) (w ∷ p.1 ∷ cpu_words ps) ≡ true
    timed (pos n) from rest pair go =
        both-and (is_time_word (pos n) && int_le (pos low) (pos n) && is_value_word p.1) (are_pairs (pos n) (cpu_words ps))
        (both-and (is_time_word (pos n) && int_le (pos low) (pos n)) (is_value_word p.1) (both-and (is_time_word (pos n)) (int_le (pos low) (pos n)) pair.0 (to_low low (pos n) from)) pair.1)
        (go n rest)
    timed (negsuc n) from rest pair go = absurd from

put-pairs : (at : ℕ) (v : Value) (ps : Words) → at ≤ 719999998 → IsBounded v → All IsPair ps → All IsPair (cpu_put at v ps)
put-pairs at v [] le b h = All-cons IsPair (pos at, word_of v) [] (time-word at le, value-word v b) (All-nil IsPair)
put-pairs at v (p ∷ ps) le b h = test (nat_le (natural_in p.0) at) (put-pairs at v ps le b (All-tail IsPair p ps h))
  where
    test : (c : Bool) → All IsPair (cpu_put at v ps) → All IsPair (if c then p ∷ cpu_put at v ps else (pos at, word_of v) ∷ p ∷ ps)
    test true rest = All-cons IsPair p (cpu_put at v ps) (All-head IsPair p ps h) rest
    test false rest = All-cons IsPair (pos at, word_of v) (p ∷ ps) (time-word at le, value-word v b) h

input-pairs : (at : ℕ) (ps : Words) (bag : Bag) → at ≤ 719999998 → All IsInput bag → All IsPair ps → All IsPair (cpu_inputs at ps bag)
input-pairs at ps [] le good h = h
input-pairs at ps (i ∷ is) le good h =
    input-pairs at (cpu_put at i.1 ps) is le (All-tail IsInput i is good) (put-pairs at i.1 ps le (All-head IsInput i is good) h)

pub cpus-stay : StaysAState Cpu
cpus-stay settings state t bag set time good h =
    let ps = cpu_pairs state in
    let both = pairs-in 0 state h in
    let begun = started (is_at t (cpu_next ps)) both in
    pairs-out 0 (cpu_moved (time_setting settings) t ps bag)
    (inputs-wait 0 (t + time_setting settings) (if is_at t (cpu_next ps) then pairs_at false (cpu_next ps) ps else ps) bag (omega arith) begun.0)
    (input-pairs (t + time_setting settings) (if is_at t (cpu_next ps) then pairs_at false (cpu_next ps) ps else ps) bag (omega (arith, set, time)) good begun.1)
  where
    started : (b : Bool) → NeverFalls 0 (cpu_pairs state) × All IsPair (cpu_pairs state) → NeverFalls 0 (if b then pairs_at false (cpu_next (cpu_pairs state)) (cpu_pairs state) else cpu_pairs state) × All IsPair (if b then pairs_at false (cpu_next (cpu_pairs state)) (cpu_pairs state) else cpu_pairs state)
    started true both =
        let keep = λ (p : ℤ × ℤ). beq false (same_time (cpu_next (cpu_pairs state)) (time_of_word p.0)) in
        (filter-waits 0 keep (cpu_pairs state) both.0, All-filter keep IsPair (cpu_pairs state) both.1)
    started false both = both
