-- Which names were asked for.
use Rattle.std.specs.Prelude.{ℕ, List, [], ◌∷◌, ◌++◌, Result, Ok, Err}
use Rattle.room_edge.specs.declared.room.OpenError.{OpenError}
use Rattle.room_edge.specs.declared.room.OpenError.TheVariants.{Missing, Failed, Memory}

-- the names asked for, with one more unless memory ran out
abbrev pub tried_after : {T : Type 0} → Result T OpenError → List ℕ → List (List ℕ) → List (List ℕ)
tried_after (Ok _) name tried = tried ++ name ∷ []
tried_after (Err Missing) name tried = tried ++ name ∷ []
tried_after (Err Failed) name tried = tried ++ name ∷ []
tried_after (Err Memory) name tried = tried
