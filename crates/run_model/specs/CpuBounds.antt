-- What the numbers of a cpu are in a run.
use Rattle.std.specs.Prelude.{ℕ, ◌≤◌, List, [], ◌∷◌, ℤ, pos, negsuc, IfSome, ⊤}
use Rattle.std.specs.List.{All}
use Rattle.quantity.specs.TimeBounds.{IsDelay, IsTime}
use Rattle.atomic_face.specs.Words.{time_of_word, natural_in}
use Rattle.atomic_face.specs.Parameters.{time_setting}
use Rattle.atomic_face.specs.Cpu.{cpu_pairs}
use Rattle.run_model.specs.ClassBounds.{ClassBounds, IsValueWord}

-- a word that is a time, this one or later
abbrev pub IsTimeFrom : ℕ → ℤ → Type 0
IsTimeFrom low (pos t) = low ≤ t
IsTimeFrom low (negsuc n) = ⊥

-- the times of a cpu's pairs never fall
abbrev pub NeverFalls : ℕ → List (ℤ × ℤ) → Type 0
NeverFalls low [] = ⊤
NeverFalls low (p ∷ ps) = IsTimeFrom low p.0 × NeverFalls (natural_in p.0) ps

-- a time and a value, both as words
abbrev pub AreBoundedWords : ℤ × ℤ → Type 0
AreBoundedWords p = IfSome (time_of_word p.0) IsTime × IsValueWord p.1

-- a cpu
abbrev pub cpu_bounds : ClassBounds
cpu_bounds = record {
  waits_from = λ low state. NeverFalls low (cpu_pairs state);
  bounded_settings = λ settings. IsDelay (time_setting settings);
  bounded_state = λ state. All AreBoundedWords (cpu_pairs state);
}
