-- The mark of a run that is done, where its messages are served in an order.
use Rattle.std.specs.Prelude.{◌≡◌, ℕ, Option, IfSome, ⊤, None}
use Rattle.std.specs.Option.{option_map}
use Rattle.served_tree.specs.Order.{mark_from}
use Rattle.run_leaves.specs.Marking.{Marking, at_seed, serving_from}
use Rattle.run_leaves.specs.Standing.{Standing, tree_in}
use Rattle.asked_words.specs.declared.asked.Asked.{Asked}
use Rattle.asked_words.specs.Shown.{text_of_name}
use Rattle.run_loop.specs.declared.ending.Ending.{Ending}
use Rattle.run_loop.specs.declared.ending.Ending.TheVariants.{Done, Stopped}

-- the messages of a run are served from the seed that is asked for, if one is; and then no state is
-- saved, and none is read
pub record IsOrdered (a : Asked) (m : Option Marking) : Type 0 where
  pub marked : m ≡ option_map at_seed a.given.seed
  pub unsaved : IfSome a.given.seed
      (λ seed. (text_of_name a.given.save ≡ None) × (text_of_name a.given.state ≡ None))

-- the mark of at most n cycles from where a run stands, with this seed and mark
abbrev pub last_mark : ℕ → Standing → Marking → ℕ
last_mark n s m = mark_from n (tree_in s) s.end s.limit s.state (serving_from m)

-- a run that is done was left with the mark of all its cycles, where it has one
abbrev pub IsMarked : Ending → ℕ → Standing → Option Marking → Option Marking → Type 0
IsMarked Done n s m m' =
    option_map (λ (x : Marking). x.mark) m' ≡ option_map (last_mark n s) m
IsMarked (Stopped why) n s m m' = ⊤
