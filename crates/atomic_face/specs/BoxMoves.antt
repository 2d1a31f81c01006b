-- Boxes by their calls: a generator that counts, a cpu, a counter with two inputs, and a stock of
-- one queue.
use Rattle.std.specs.Prelude.{◌≡◌, ℕ, ◌*◌, Bool, true, false, Some, None, List, [], ◌∷◌, ℤ, pos, negsuc, codes}
use Rattle.std.specs.Option.{unwrap_or}
use Rattle.std.specs.declared.result.Result.TheVariants.{Ok, Err}
use Rattle.quantity.specs.declared.value.Value.TheVariants.{Num}
use Rattle.atomic_face.specs.declared.class.Class.TheVariants.{Queue, Generator, Cpu, Counter}
use Rattle.atomic_face.specs.declared.stock.StockRefusal.TheVariants.{UnknownClass, OutOfStock}
use Rattle.atomic_face.specs.Classes.{Bag, initial_state, next_of, output_of, moved_state, out_port}
use Rattle.atomic_face.specs.Settings.{first_line_off}
use Rattle.atomic_face.specs.Stocked.{Stocked, TakesFirst}
use Rattle.atomic_face.specs.Examples.{at}
use Rattle.atomic_face.specs.TextExamples.{param}

-- a whole number at the port out
abbrev pub gives : ℕ → Bag
gives n = (out_port, Num (pos (n * 100000))) ∷ []

-- ---- a generator with a period of 10 ms and a count of 2

-- the settings: from 0 on, the value 1, twice
abbrev pub twice : List ℤ
twice = pos 0 ∷ pos 10 ∷ pos 100000 ∷ pos 0 ∷ pos 2 ∷ []

-- the state after the first value
abbrev pub once_more : List ℤ
once_more = unwrap_or (moved_state Generator twice (initial_state Generator twice) 0 []) []

-- the state after the second value
abbrev pub counted_out : List ℤ
counted_out = unwrap_or (moved_state Generator twice once_more 10 []) []

-- it gives a value at 0 and at 10, and then no more
pub record GeneratorMoves : Type 0 where
  pub at_the_start : next_of Generator (initial_state Generator twice) ≡ Some 0
  pub first_value : output_of Generator twice (initial_state Generator twice) ≡ gives 1
  pub after_the_first : next_of Generator once_more ≡ Some 10
  pub left_one : once_more ≡ pos 10 ∷ pos 100000 ∷ pos 1 ∷ []
  pub after_the_last : next_of Generator counted_out ≡ None
  pub not_due : moved_state Generator twice once_more 5 [] ≡ Some once_more

-- ---- a cpu with a delay of 10 ms

-- the state after two values came in at 5
abbrev pub two_pairs : List ℤ
two_pairs = unwrap_or (moved_state Cpu (pos 10 ∷ []) [] 5 (at 0 1 ∷ at 0 2 ∷ [])) []

-- both values leave at 15, in the order in which they came
pub record CpuMoves : Type 0 where
  pub next : next_of Cpu two_pairs ≡ Some 15
  pub in_order : output_of Cpu (pos 10 ∷ []) two_pairs ≡ at 0 1 ∷ at 0 2 ∷ []
  pub both_leave : moved_state Cpu (pos 10 ∷ []) two_pairs 15 [] ≡ Some []

-- ---- a counter

-- the state after an input and a reset at 3
abbrev pub counter_after_reset : List ℤ
counter_after_reset =
    unwrap_or (moved_state Counter (pos 0 ∷ pos 0 ∷ pos 100000 ∷ [])
    (initial_state Counter (pos 0 ∷ pos 0 ∷ pos 100000 ∷ [])) 3 (at 0 9 ∷ at 1 9 ∷ [])) []

-- steps of 6000000000: the second passes the bound
abbrev pub large_steps : List ℤ
large_steps = pos 0 ∷ pos 0 ∷ pos (6000000000 * 100000) ∷ []

-- a reset sets the count back, and a sum may overflow
pub record CounterMoves : Type 0 where
  pub next : next_of Counter counter_after_reset ≡ Some 3
  pub reset : output_of Counter (pos 0 ∷ pos 0 ∷ pos 100000 ∷ []) counter_after_reset ≡ gives 0
  pub first_step : moved_state Counter large_steps (initial_state Counter large_steps) 0
      (at 0 1 ∷ []) ≡ Some (pos (6000000000 * 100000) ∷ pos 0 ∷ [])
  pub overflows : moved_state Counter large_steps (initial_state Counter large_steps) 0
      (at 0 1 ∷ at 0 1 ∷ []) ≡ None

-- ---- a stock of one queue

-- a queue that does not prepare, taken or not
abbrev pub one_queue : Bool → List Stocked
one_queue taken =
    record {
      box = record {
        kind = Queue;
        settings = pos 0 ∷ [];
        state = pos 0 ∷ negsuc 0 ∷ [];
      };
      taken = taken;
    } ∷ []

-- a stock of one queue gives it once, and has no other class
pub record OneQueueIsTaken : Type 0 where
  pub no_cpu : TakesFirst Cpu (one_queue false) (one_queue false) (Err UnknownClass)
  pub first : TakesFirst Queue (one_queue false) (one_queue true) (Ok (record { 0 = 0 }))
  pub no_more : TakesFirst Queue (one_queue true) (one_queue true) (Err OutOfStock)
  pub bad_parameter : first_line_off Queue (param 4 (codes "preparation") (codes "x") ∷ []) ≡ Some 4
