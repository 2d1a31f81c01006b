-- Private: who watches whom, as a test of two leaves: the watcher and the one that it watches.
use Rattle.std.specs.Prelude.{ℕ, Bool, List}
use Rattle.std.specs.List.{list_any}

-- a leaf watches one of these
abbrev pub watches_any : (ℕ → ℕ → Bool) → List ℕ → ℕ → Bool
watches_any watches givers k = list_any (watches k) givers
