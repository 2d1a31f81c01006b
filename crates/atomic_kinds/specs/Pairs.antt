-- The pairs of a time and a value that a cpu keeps, as words of its state.
use Rattle.std.specs.Prelude.{◌≡◌, ◌==◌, ℕ, ◌<◌, ◌+◌, nat_lt, nat_le, length, drop, Bool, true, false, not, ◌&&◌, if◌then◌else◌, Option, Some, None, List, [], ◌∷◌, map, ℤ, pos, int_le}
use Rattle.std.specs.List.{filter, position_or_len}
use Rattle.std.specs.declared.result.Result.{Result}
use Rattle.std.specs.declared.result.Result.TheVariants.{Ok, Err}
use Rattle.std.specs.declared.collections.VecDeque.{VecDeque}
use Rattle.quantity.specs.declared.value.Value.{Value as AnyValue}
use Rattle.atomic_face.specs.declared.class.PortNo.{PortNo}
use Rattle.atomic_face.specs.declared.params.RestoreRefusal.{RestoreRefusal}
use Rattle.atomic_face.specs.declared.params.RestoreRefusal.TheVariants.{BadState, Memory}
use Rattle.atomic_face.specs.Words.{value_of_word, word_of, is_time_word, is_value_word}
use Rattle.atomic_face.specs.Cpu.{are_pairs, cpu_next, cpu_words, pairs_at, values_in}
use Rattle.atomic_face.specs.Bags.{outputs}
use Rattle.atomic_face.specs.Classes.{Bag, is_at, out_port}

-- pairs of a time and a value as words
abbrev pub word_pairs : List (ℕ × AnyValue) → List (ℤ × ℤ)
word_pairs ps = map (λ (p : ℕ × AnyValue). (pos p.0, word_of p.1)) ps

-- the same, one after another
abbrev pub pair_words : List (ℕ × AnyValue) → List ℤ
pair_words ps = cpu_words (word_pairs ps)

-- what the pairs of this time give
abbrev pub given_at : ℕ → List (ℕ × AnyValue) → Bag
given_at t ps = outputs (values_in (pairs_at true (Some t) (word_pairs ps)))

-- what a pair gives
abbrev pub given_by : ℕ × AnyValue → PortNo × AnyValue
given_by p = (out_port, value_of_word (word_of p.1))

-- no pair is earlier than the one before it, and the first is no earlier than this time
abbrev pub rises_from : ℕ → List (ℕ × AnyValue) → Bool
rises_from before [] = true
rises_from before (p ∷ ps) = nat_le before p.0 && rises_from p.0 ps

-- what the pair at a place gives at this time, or that neither it nor any later one gives any
abbrev pub GivenFrom : ℕ → List (ℕ × AnyValue) → ℕ → Option (PortNo × AnyValue) → Type 0
GivenFrom t ps place (Some given) =
    (place < length ps) × (given_at t (drop place ps) ≡ given ∷ given_at t (drop (place + 1) ps))
    × (rises_from t (drop (place + 1) ps) ≡ true)
GivenFrom t ps place None = given_at t (drop place ps) ≡ []

-- the pairs that stay at this time: where the first is of it, all that are not
abbrev pub left_at : ℕ → List (ℕ × AnyValue) → List (ℕ × AnyValue)
left_at now ps =
    if is_at now (cpu_next (word_pairs ps)) then filter (λ (p : ℕ × AnyValue). not (p.0 == now)) ps
    else ps

-- the place of the first pair that is later, or behind the last
abbrev pub place_for : ℕ → List (ℕ × AnyValue) → ℕ
place_for at ps = position_or_len (λ (p : ℕ × AnyValue). nat_lt at p.0) ps

-- what two words after a time are read as: a pair of these words, where it is no earlier
abbrev pub ReadsPair : ℕ → ℤ → ℤ → Option (ℕ × AnyValue) → Type 0
ReadsPair before t v (Some p) =
    (is_time_word t && int_le (pos before) t && is_value_word v ≡ true) × (pos p.0 ≡ t)
    × (word_of p.1 ≡ v)
ReadsPair before t v None = is_time_word t && int_le (pos before) t && is_value_word v ≡ false

-- words that begin with this pair, and go on with these
abbrev pub HasPair : ℕ → List ℤ → ℕ × AnyValue → List ℤ → Type 0
HasPair before words p others =
    (words ≡ pos p.0 ∷ word_of p.1 ∷ others)
    × (are_pairs (pos before) words ≡ are_pairs (pos p.0) others)

-- words that begin with no such pair are none unless there are none
abbrev pub LacksPair : ℕ → List ℤ → Type 0
LacksPair before words = 0 < length words → are_pairs (pos before) words ≡ false

-- the pairs that words are read as, where they are pairs by rising time
abbrev pub ReadsPairs : {Z : Type 0} → List ℤ → Result (VecDeque (ℕ × AnyValue) Z) RestoreRefusal
    → Type 0
ReadsPairs words (Ok pairs) = (are_pairs (pos 0) words ≡ true) × (pair_words pairs.items ≡ words)
ReadsPairs words (Err BadState) = are_pairs (pos 0) words ≡ false
ReadsPairs words (Err Memory) = Unit {0}
