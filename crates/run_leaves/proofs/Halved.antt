-- A leaf's stretch, found by halving.
use Rattle.std.proofs.Common.{◌≡◌, ℕ, zero, suc, ◌<◌, ◌≤◌, Bool, Some, List, [], ◌∷◌, sym, subst, arith}
use Rattle.std.specs.Prelude.{nat_le, slice_get}
use Rattle.std.proofs.lemmas.Bool.{le-leb}
use Rattle.run_leaves.specs.Stretched.{one_more, begun_at, number_at, AreFrom, Rising}
use Rattle.run_leaves.proofs.Places.{none-some, some-is}
use Rattle.run_leaves.proofs.Stretched.{later, one-at-most}

from-get : (s : ℕ) (starts : List ℕ) (m t : ℕ) → AreFrom s starts → slice_get starts m ≡ Some t → s ≤ t
from-get s [] m t from e = absurd (none-some e)
from-get s (x ∷ starts) zero t from e = let same = some-is x t e in let le = from.0 in omega (arith, same, le)
from-get s (x ∷ starts) (suc m) t from e = from-get s starts m t from.1 e

-- a stretch that begins no later has begun, and so have those before it
begun-there : (starts : List ℕ) (m s k : ℕ) → Rising starts → slice_get starts m ≡ Some s → s ≤ k → suc m ≤ begun_at starts k
begun-there [] m s k rising e le = absurd (none-some e)
begun-there (x ∷ starts) zero s k rising e le =
    let same = some-is x s e in
    subst (λ (b : Bool). 1 ≤ one_more b (begun_at starts k)) (sym (le-leb x k (omega (arith, same, le)))) (omega arith)
begun-there (x ∷ starts) (suc m) s k rising e le =
    let before = from-get x starts m s rising.0 e in
    let on = begun-there starts m s k rising.1 e le in
    subst (λ (b : Bool). suc (suc m) ≤ one_more b (begun_at starts k)) (sym (le-leb x k (omega (arith, before, le)))) (omega (arith, on))

-- no more than those before one that begins later
begun-before : (starts : List ℕ) (m s k : ℕ) → slice_get starts m ≡ Some s → k < s → begun_at starts k ≤ m
begun-before [] m s k e lt = absurd (none-some e)
begun-before (x ∷ starts) zero s k e lt =
    let same = some-is x s e in
    subst (λ (b : Bool). one_more b (begun_at starts k) ≤ 0) (sym (later x k (omega (arith, same, lt)))) (omega arith)
begun-before (x ∷ starts) (suc m) s k e lt =
    one-at-most (nat_le x k) (begun_at starts k) m (begun-before starts m s k e lt)

pub number-from : (starts : List ℕ) (m s k : ℕ) → Rising starts → slice_get starts m ≡ Some s → s ≤ k → m ≤ number_at starts k
number-from starts m s k rising e le = let begun = begun-there starts m s k rising e le in omega (arith, begun)

pub number-below : (starts : List ℕ) (m s k : ℕ) → slice_get starts m ≡ Some s → k < s → 0 < m → number_at starts k < m
number-below starts m s k e lt some = let begun = begun-before starts m s k e lt in omega (arith, begun, some)
