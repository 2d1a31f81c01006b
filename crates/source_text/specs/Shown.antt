-- What references point to, and what is read, as the definitions see them.
use Rattle.std.specs.Prelude.{◌<◌, ◌^◌, List, ◌∷◌, map, ℤ, unsigned_abs, IfSome, option_to_list}
use Rattle.std.specs.Borrow.{Bor}
use Rattle.quantity.specs.Bytes.{Bytes}
use Rattle.source_text.specs.declared.tuple.Tuple.{Tuple}
use Rattle.source_text.specs.declared.tuple.NamedTuple as kept
use Rattle.source_text.specs.Tuples.{NamedTuple}

-- what references point to
abbrev pub texts : List (Bor Bytes) → List Bytes
texts references = map (λ r. r.now) references

-- the numbers in order, the plane last where there is one
abbrev pub numbers_of : Tuple → List ℤ
numbers_of t = t.row ∷ t.column ∷ option_to_list t.plane

-- a name and the numbers of the tuple behind it
abbrev pub named_of : kept.NamedTuple → NamedTuple
named_of n = record { name = n.name.now; place = numbers_of n.place }

-- each number has at most 7 digits
abbrev pub IsShort : Tuple → Type 0
IsShort t =
    (unsigned_abs t.row < 10 ^ 7) × (unsigned_abs t.column < 10 ^ 7)
    × IfSome t.plane (λ plane. unsigned_abs plane < 10 ^ 7)
