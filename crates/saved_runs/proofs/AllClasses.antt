-- What is known of all classes: they start in a state, keep to it, and its words are small.
use Rattle.std.proofs.Common.{◌≡◌, zero, suc, true, true≢false, List, [], ◌∷◌, refl, sym, subst}
use Rattle.std.proofs.Common.{arith}
use Rattle.std.specs.Prelude.{◌&&◌, ◌||◌, int_le, ℤ, pos, negsuc, codes}
use Rattle.std.specs.List.{All}
use Rattle.std.proofs.lemmas.List.Elements.{All-nil, All-cons}
use Rattle.atomic_face.specs.declared.class.Class.{Class}
use Rattle.atomic_face.specs.declared.class.Class.TheVariants.{Queue, Generator, Cpu, Counter}
use Rattle.atomic_face.specs.declared.class.Class.TheVariants.{Table}
use Rattle.atomic_face.specs.Words.{is_time_word, is_none_word, is_due_if, is_value_word, are_values}
use Rattle.atomic_face.specs.Words.{no_time}
use Rattle.atomic_face.specs.Parameters.{parameter, value_word, setting_of, setting}
use Rattle.atomic_face.specs.Queue.{is_queue, is_waiting, is_one}
use Rattle.atomic_face.specs.Cpu.{are_pairs}
use Rattle.atomic_face.specs.Counter.{is_counter}
use Rattle.run_model.specs.Bounds.{AreBoundedSettings}
use Rattle.run_model.specs.BoxesStay.{StaysAState}
use Rattle.run_model.proofs.BoxLaws.{settings_bounded}
use Rattle.saved_runs.specs.Settled.{AreSettled}
use Rattle.saved_runs.specs.Kept.{IsSmall, StartsAreStates, MovesKeepStates, StatesAreSmall}
use Rattle.saved_runs.proofs.Words.{and-both, both-and, number-small, time-small, due-small}
use Rattle.saved_runs.proofs.Words.{either-small, value-small, values-small}
use Rattle.saved_runs.proofs.Parameters.{value_of}
use Rattle.saved_runs.proofs.GeneratorStates.{generators-start, generators-stay, generators-small}
use Rattle.saved_runs.proofs.TableStates.{tables-start, tables-stay, tables-small}

-- ---- starts

pub starts-are : StartsAreStates
starts-are Queue settings h = refl
starts-are Generator settings h = generators-start settings h
starts-are Cpu settings h = refl
starts-are Counter settings h =
    subst (λ ws. is_counter (setting ws 1 ∷ no_time ∷ []) ≡ true) (sym h.given)
    (both-and (is_value_word
    (setting_of h.parameters (parameter (codes "start") value_word (pos 0)))) true
    (value_of h.parameters (codes "start") (pos 0) refl) refl)
starts-are Table settings h = tables-start settings h

-- ---- moves

-- settled settings are bounded
bounded : (class : Class) (settings : List ℤ) → AreSettled class settings
    → AreBoundedSettings class settings
bounded class settings h =
    subst (AreBoundedSettings class) (sym h.given) (settings_bounded class h.parameters)

pub moves-keep : StaysAState Queue → StaysAState Cpu → StaysAState Counter → MovesKeepStates
moves-keep queues cpus counters Queue settings state t bag set time good h =
    queues settings state t bag (bounded Queue settings set) time good h
moves-keep queues cpus counters Generator settings state t bag set time good h =
    generators-stay settings state t bag set time good h
moves-keep queues cpus counters Cpu settings state t bag set time good h =
    cpus settings state t bag (bounded Cpu settings set) time good h
moves-keep queues cpus counters Counter settings state t bag set time good h =
    counters settings state t bag (bounded Counter settings set) time good h
moves-keep queues cpus counters Table settings state t bag set time good h =
    tables-stay settings state t bag set time good h

-- ---- sizes

waiting-small : (w : ℤ) (ws : List ℤ) → is_waiting w ws ≡ true → IsSmall w
waiting-small (pos zero) ws h = omega arith
waiting-small (pos (suc zero)) ws h = omega arith
waiting-small (pos (suc (suc n))) ws h = number-small 2 (pos (suc (suc n))) (omega arith) h
waiting-small (negsuc n) ws h = absurd (true≢false (sym h))

queue-small : (state : List ℤ) → is_queue state ≡ true → All IsSmall state
queue-small [] h = absurd (true≢false (sym h))
queue-small (p ∷ []) h = absurd (true≢false (sym h))
queue-small (p ∷ d ∷ ws) h =
    let front = and-both (is_due_if (is_one p) d && is_waiting p ws) (are_values ws) h in
    let parts = and-both (is_due_if (is_one p) d) (is_waiting p ws) front.0 in
    All-cons IsSmall p (d ∷ ws) (waiting-small p ws parts.1)
    (All-cons IsSmall d ws (due-small (is_one p) d parts.0) (values-small ws front.1))

cpu-small : (before : ℤ) (state : List ℤ) → are_pairs before state ≡ true → All IsSmall state
cpu-small before [] h = All-nil IsSmall
cpu-small before (t ∷ []) h = absurd (true≢false (sym h))
cpu-small before (t ∷ v ∷ ws) h =
    let three = and-both (is_time_word t && int_le before t && is_value_word v) (are_pairs t ws) h
    in
    let two = and-both (is_time_word t && int_le before t) (is_value_word v) three.0 in
    let one = and-both (is_time_word t) (int_le before t) two.0 in
    All-cons IsSmall t (v ∷ ws) (time-small t one.0) (All-cons IsSmall v ws (value-small v two.1)
    (cpu-small t ws three.1))

counter-small : (state : List ℤ) → is_counter state ≡ true → All IsSmall state
counter-small [] h = absurd (true≢false (sym h))
counter-small (t ∷ []) h = absurd (true≢false (sym h))
counter-small (t ∷ d ∷ []) h =
    let p = and-both (is_value_word t) (is_time_word d || is_none_word d) h in
    All-cons IsSmall t (d ∷ []) (value-small t p.0) (All-cons IsSmall d [] (either-small d p.1)
    (All-nil IsSmall))
counter-small (t ∷ d ∷ x ∷ ws) h = absurd (true≢false (sym h))

pub states-are-small : StatesAreSmall
states-are-small Queue settings state set h = queue-small state h
states-are-small Generator settings state set h = generators-small settings state set h
states-are-small Cpu settings state set h = cpu-small (pos 0) state h
states-are-small Counter settings state set h = counter-small state h
states-are-small Table settings state set h = tables-small settings state set h
