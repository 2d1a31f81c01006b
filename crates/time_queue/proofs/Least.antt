-- The least of the times.
use Rattle.std.proofs.Common.{◌≡◌, ℕ, ◌≤◌, ◌⊎◌, zero, suc, min, Option, Some, None, List, [], ◌∷◌, refl, sym, ◌∙◌, ap, arith, ⊎_elim, inl, inr}
use Rattle.std.proofs.lemmas.Bool.{cases_lt}
use Rattle.quantity.specs.Times.{earlier}
use Rattle.time_queue.specs.Waiting.{waiting_time, least_time, NoneBefore}

earlier_below : (s o : Option ℕ) (t : ℕ) → s ≡ Some t → (m : ℕ) × (earlier s o ≡ Some m) × (m ≤ t)
earlier_below None o t is = cc
earlier_below (Some s) None t is = let same : s ≡ t = cc in (s, refl, omega arith)
earlier_below (Some s) (Some u) t is = let same : s ≡ t = cc in (min s u, refl, omega arith)

later_below : (s o : Option ℕ) (m : ℕ) → o ≡ Some m → (n : ℕ) × (earlier s o ≡ Some n) × (n ≤ m)
later_below None o m is = (m, is, omega arith)
later_below (Some s) None m is = cc
later_below (Some s) (Some u) m is = let same : u ≡ m = cc in (min s u, refl, omega arith)

-- no time is before the least
pub least_below : (ts : List (Option ℕ)) (leaf t : ℕ) → waiting_time ts leaf ≡ Some t → (m : ℕ) × (least_time ts ≡ Some m) × (m ≤ t)
least_below [] leaf t is = cc
least_below (s ∷ ts) zero t is = earlier_below s (least_time ts) t is
least_below (s ∷ ts) (suc leaf) t is =
    let rest = least_below ts leaf t is in
    let here = later_below s (least_time ts) rest.0 rest.1 in
    (here.0, here.1, omega (arith, here.2, rest.2))

min_is : (a b : ℕ) → (min a b ≡ a) ⊎ (min a b ≡ b)
min_is a b = ⊎_elim (λ le. inl (omega arith)) (λ le. inr (omega arith)) (cases_lt a b)

earlier_is : (s o : Option ℕ) (m : ℕ) → earlier s o ≡ Some m → (s ≡ Some m) ⊎ (o ≡ Some m)
earlier_is None o m is = inr is
earlier_is (Some s) None m is = inl is
earlier_is (Some s) (Some u) m is = ⊎_elim (λ e. inl (ap Some (sym e) ∙ is)) (λ e. inr (ap Some (sym e) ∙ is)) (min_is s u)

-- a leaf waits for the least time
pub least_reached : (ts : List (Option ℕ)) (m : ℕ) → least_time ts ≡ Some m → (leaf : ℕ) × (waiting_time ts leaf ≡ Some m)
least_reached [] m is = cc
least_reached (s ∷ ts) m is =
    ⊎_elim (λ e. (zero, e)) (λ e. let rest = least_reached ts m e in (suc rest.0, rest.1)) (earlier_is s (least_time ts) m is)

-- a time that a leaf waits for, where none is earlier
pub least_is : (ts : List (Option ℕ)) (leaf m : ℕ) → waiting_time ts leaf ≡ Some m → NoneBefore m ts → least_time ts ≡ Some m
least_is ts leaf m is none =
    let below = least_below ts leaf m is in
    let there = least_reached ts below.0 below.1 in
    let above : m ≤ below.0 = none there.0 below.0 there.1 in
    let same : below.0 ≡ m = omega (arith, below.2) in
    below.1 ∙ ap Some same

least_at : (ts : List (Option ℕ)) (o : Option ℕ) → least_time ts ≡ o → ((leaf t : ℕ) → waiting_time ts leaf ≡ Some t → ⊥) → o ≡ None
least_at ts None is never = refl
least_at ts (Some m) is never = let there = least_reached ts m is in absurd (never there.0 m there.1)

pub no_least : (ts : List (Option ℕ)) → ((leaf t : ℕ) → waiting_time ts leaf ≡ Some t → ⊥) → least_time ts ≡ None
no_least ts never = least_at ts (least_time ts) refl never

-- no time is before one that the least isn't before
pub none_before : (at m : ℕ) (ts : List (Option ℕ)) → least_time ts ≡ Some m → at ≤ m → NoneBefore at ts
none_before at m ts is le = λ leaf t waits.
    let below = least_below ts leaf t waits in
    let same : below.0 ≡ m = cc (below.1, is) in
    omega (arith, below.2)

pub none_waits : (ts : List (Option ℕ)) → least_time ts ≡ None → (leaf t : ℕ) → waiting_time ts leaf ≡ Some t → ⊥
none_waits ts is leaf t waits = let below = least_below ts leaf t waits in cc (below.1, is)
