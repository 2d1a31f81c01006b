-- Cells that are so much further.
use Rattle.std.proofs.Common.{◌≡◌, ℕ, ◌<◌, ◌≤◌, List, length, get_or, ℤ, pos, negsuc, ◌+ℤ◌, ◌≤ℤ◌, ◌<ℤ◌, ◌∙◌, ap, arith, to_z, of_z, w32}
use Rattle.std.proofs.lemmas.Int.{to_z-of_z}
use Rattle.std.proofs.lemmas.List.{get_or_read}
use Rattle.std.specs.Int.RustNames.{unsigned_abs}
use Rattle.quantity.specs.declared.value.Value.{Value}
use Rattle.quantity.specs.declared.value.Value.TheVariants.{Undefined}
use Rattle.cell_reach.specs.Neighbourhoods.{further}
use Rattle.cell_engine.specs.Step.{IsBelow, out_further}

pub is_below : (count cell : ℕ) (d : ℤ) → IsBelow count cell d → further cell d < count
is_below count cell d h = at (pos cell +ℤ d) h.0 h.1
  where
    at : (z : ℤ) → pos 0 ≤ℤ z → z <ℤ pos count → unsigned_abs z < count
    at (pos n) low high = grind arith
    at (negsuc n) low high = absurd low.le

-- a number so near is the same in 32 bits
pub same_number : (count cell : ℕ) (d : ℤ) → cell < 1048576 → count ≤ 1048576 → IsBelow count cell d → to_z w32 (of_z w32 d) ≡ d
same_number count cell d here few h = grind (arith, to_z-of_z)

pub further_is : (count cell n : ℕ) (d : ℤ) → cell < 1048576 → count ≤ 1048576 → IsBelow count cell d → n ≡ further cell (to_z w32 (of_z w32 d)) → n ≡ further cell d
further_is count cell n d here few h is = is ∙ ap (further cell) (same_number count cell d here few h)

-- what stands there
pub out_is : (es : List Value) (cell n : ℕ) (d : ℤ) (v : Value) → n ≡ further cell d → n < length es → v ≡ get_or es n v → v ≡ out_further es cell d
out_is es cell n d v is lt read = get_or_read es n v lt read Undefined ∙ ap (λ k. get_or es k Undefined) is
