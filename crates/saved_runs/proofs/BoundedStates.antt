-- The times and values of a state are bounded, in every class.
use Rattle.std.proofs.Common.{◌≡◌, suc, ◌^◌, ◌≤◌, Bool, true, false, true≢false, cond, List, []}
use Rattle.std.proofs.Common.{◌∷◌, refl, sym, arith}
use Rattle.std.specs.Prelude.{◌&&◌, ◌||◌, ◌==◌, not, nat_le, int_le, IfSome, ℤ, pos, negsuc}
use Rattle.std.specs.List.{All}
use Rattle.std.proofs.lemmas.List.Elements.{All-nil, All-cons}
use Rattle.std.proofs.lemmas.Bool.Decides.{nat_tests}
use Rattle.quantity.specs.declared.value.Value.TheVariants.{Undefined, Num}
use Rattle.quantity.specs.Roots.{IsBounded}
use Rattle.quantity.specs.TimeBounds.{IsTime}
use Rattle.atomic_face.specs.declared.class.Class.TheVariants.{Queue, Generator, Cpu, Counter}
use Rattle.atomic_face.specs.declared.class.Class.TheVariants.{Table}
use Rattle.atomic_face.specs.Words.{time_of_word, is_time_word, is_none_word, is_zero_word, is_due_if, natural_in}
use Rattle.atomic_face.specs.Words.{is_value_word, are_values}
use Rattle.atomic_face.specs.Queue.{is_queue, is_waiting, is_one}
use Rattle.atomic_face.specs.Generator.{generator_settings, is_generator, is_left}
use Rattle.atomic_face.specs.Cpu.{cpu_pairs, are_pairs}
use Rattle.atomic_face.specs.Counter.{is_counter}
use Rattle.atomic_face.specs.StateTable.{is_table, is_below, has_hold}
use Rattle.run_model.specs.ClassBounds.{IsValueWord}
use Rattle.run_model.specs.QueueBounds.{IsBoundedQueue}
use Rattle.run_model.specs.GeneratorBounds.{IsBoundedGenerator}
use Rattle.run_model.specs.CpuBounds.{AreBoundedWords}
use Rattle.run_model.specs.CounterBounds.{IsBoundedCounter}
use Rattle.run_model.specs.TableBounds.{IsBoundedTable}
use Rattle.saved_runs.specs.Kept.{StatesAreBounded}
use Rattle.saved_runs.proofs.Words.{and-both}

value-is : (w : ℤ) → is_value_word w ≡ true → IsValueWord w
value-is (pos n) h = by_word (n == 10 ^ 16) refl
  where
    by_size : (b : Bool) → nat_le n (10 ^ 15) ≡ b → (n == 10 ^ 16) ≡ false
        → (b || (int_le (pos (10 ^ 16)) (pos n) && int_le (pos n) (pos (10 ^ 16)))) ≡ true
        → n ≤ 10 ^ 15
    by_size true e f k = grind (arith, nat_tests)
    by_size false e f k =
        let p = and-both (int_le (pos (10 ^ 16)) (pos n)) (int_le (pos n) (pos (10 ^ 16))) k in
        let low : 10 ^ 16 ≤ n = grind (arith, nat_tests) in
        let high : n ≤ 10 ^ 16 = grind (arith, nat_tests) in
        absurd (grind (arith, nat_tests))

    by_word : (b : Bool) → (n == 10 ^ 16) ≡ b → IsBounded (cond b Undefined (Num (pos n)))
    by_word true e = tt
    by_word false e = by_size (nat_le n (10 ^ 15)) refl e h
value-is (negsuc n) h = by_size (nat_le (suc n) (10 ^ 15)) refl h
  where
    by_size : (b : Bool) → nat_le (suc n) (10 ^ 15) ≡ b
        → (b || (int_le (pos (10 ^ 16)) (negsuc n) && int_le (negsuc n) (pos (10 ^ 16)))) ≡ true
        → suc n ≤ 10 ^ 15
    by_size true e k = grind (arith, nat_tests)
    by_size false e k = absurd
        (true≢false (sym (and-both (int_le (pos (10 ^ 16)) (negsuc n))
        (int_le (negsuc n) (pos (10 ^ 16))) k).0))

values-are : (ws : List ℤ) → are_values ws ≡ true → All IsValueWord ws
values-are [] h = All-nil IsValueWord
values-are (w ∷ ws) h =
    let p = and-both (is_value_word w) (are_values ws) h in
    All-cons IsValueWord w ws (value-is w p.0) (values-are ws p.1)

time-is : (w : ℤ) → is_time_word w ≡ true → IfSome (time_of_word w) IsTime
time-is (pos n) h = let le : n ≤ 719999998 = grind (arith, nat_tests) in le
time-is (negsuc n) h = tt

none-is : (w : ℤ) → is_none_word w ≡ true → IfSome (time_of_word w) IsTime
none-is (pos n) h = absurd (true≢false (sym h))
none-is (negsuc n) h = tt

due-is : (b : Bool) (w : ℤ) → is_due_if b w ≡ true → IfSome (time_of_word w) IsTime
due-is true w h = time-is w h
due-is false w h = none-is w h

either-is : (w : ℤ) → (is_time_word w || is_none_word w) ≡ true → IfSome (time_of_word w) IsTime
either-is w h = test (is_time_word w) refl h
  where
    test : (b : Bool) → is_time_word w ≡ b → (b || is_none_word w) ≡ true
        → IfSome (time_of_word w) IsTime
    test true e k = time-is w e
    test false e k = none-is w k

queue-is : (state : List ℤ) → is_queue state ≡ true → IsBoundedQueue state
queue-is [] h = absurd (true≢false (sym h))
queue-is (p ∷ []) h = absurd (true≢false (sym h))
queue-is (p ∷ d ∷ ws) h =
    let front = and-both (is_due_if (is_one p) d && is_waiting p ws) (are_values ws) h in
    let parts = and-both (is_due_if (is_one p) d) (is_waiting p ws) front.0 in
    (due-is (is_one p) d parts.0, values-are ws front.1)

generator-is : (settings state : List ℤ) → is_generator settings state ≡ true
    → IsBoundedGenerator state
generator-is settings [] h = absurd (true≢false (sym h))
generator-is settings (n ∷ []) h = absurd (true≢false (sym h))
generator-is settings (n ∷ v ∷ []) h = absurd (true≢false (sym h))
generator-is settings (n ∷ v ∷ l ∷ []) h =
    let front = and-both (is_due_if (not (is_zero_word l)) n && is_value_word v)
    (is_left (generator_settings settings).count l) h in
    let parts = and-both (is_due_if (not (is_zero_word l)) n) (is_value_word v) front.0 in
    (due-is (not (is_zero_word l)) n parts.0, value-is v parts.1)
generator-is settings (n ∷ v ∷ l ∷ w ∷ ws) h = absurd (true≢false (sym h))

cpu-is : (before : ℤ) (state : List ℤ) → are_pairs before state ≡ true
    → All AreBoundedWords (cpu_pairs state)
cpu-is before [] h = All-nil AreBoundedWords
cpu-is before (t ∷ []) h = absurd (true≢false (sym h))
cpu-is before (t ∷ v ∷ ws) h =
    let three = and-both (is_time_word t && int_le before t && is_value_word v) (are_pairs t ws) h
    in
    let two = and-both (is_time_word t && int_le before t) (is_value_word v) three.0 in
    let one = and-both (is_time_word t) (int_le before t) two.0 in
    All-cons AreBoundedWords (t, v) (cpu_pairs ws) (time-is t one.0, value-is v two.1)
    (cpu-is t ws three.1)

counter-is : (state : List ℤ) → is_counter state ≡ true → IsBoundedCounter state
counter-is [] h = absurd (true≢false (sym h))
counter-is (t ∷ []) h = absurd (true≢false (sym h))
counter-is (t ∷ d ∷ []) h =
    let p = and-both (is_value_word t) (is_time_word d || is_none_word d) h in
    (either-is d p.1, value-is t p.0)
counter-is (t ∷ d ∷ x ∷ ws) h = absurd (true≢false (sym h))

table-is : (settings state : List ℤ) → is_table settings state ≡ true → IsBoundedTable state
table-is settings [] h = absurd (true≢false (sym h))
table-is settings (n ∷ []) h = absurd (true≢false (sym h))
table-is settings (n ∷ d ∷ []) h = absurd (true≢false (sym h))
table-is settings (n ∷ d ∷ l ∷ []) h =
    let front = and-both (is_below settings n && is_due_if (has_hold settings (natural_in n)) d)
    (is_value_word l) h in
    let parts = and-both (is_below settings n) (is_due_if (has_hold settings (natural_in n)) d) front.0 in
    (due-is (has_hold settings (natural_in n)) d parts.1, value-is l front.1)
table-is settings (n ∷ d ∷ l ∷ w ∷ ws) h = absurd (true≢false (sym h))

pub states-are-bounded : StatesAreBounded
states-are-bounded Queue settings state h = queue-is state h
states-are-bounded Generator settings state h = generator-is settings state h
states-are-bounded Cpu settings state h = cpu-is (pos 0) state h
states-are-bounded Counter settings state h = counter-is state h
states-are-bounded Table settings state h = table-is settings state h
