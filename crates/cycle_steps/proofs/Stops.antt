-- What is known of a call by whether it stops.
use Rattle.std.proofs.Common.{◌≡◌, ℕ, ◌+◌, ◌≤◌, Result, Ok, Err, List, [], length, ap, arith}
use Rattle.std.specs.Prelude.{OnOk, OnErr}
use Rattle.std.specs.List.{sum_by}
use Rattle.std.specs.Result.{IsErr}
use Rattle.std.proofs.lemmas.Result.{IfOk-from_err}

-- nothing is said where it stops
pub stopped : {T E : Type 0} (P : Type 0) (r : Result T E) → IsErr r → OnOk r P
stopped P r is = IfOk-from_err r (λ x. P) is

-- what holds in any case
pub if-ok : {T E P : Type 0} (r : Result T E) → P → OnOk r P
if-ok (Ok x) p = p
if-ok (Err e) p = tt

pub if-err : {T E P : Type 0} (r : Result T E) → P → OnErr r P
if-err (Ok x) p = tt
if-err (Err e) p = p

pub both-ok : {T E : Type 0} (P Q : Type 0) (r : Result T E) → OnOk r P → OnOk r Q → OnOk r (P × Q)
both-ok P Q (Ok x) p q = (p, q)
both-ok P Q (Err e) p q = tt

-- visits that are counted before a call and in it
pub visits-after : (old mid new given : ℕ) (most now : ℕ → ℕ) (ls taken : List ℕ) → mid ≤ old + given → new ≤ mid + sum_by now taken → now ≡ most → taken ≡ ls
    → new ≤ old + given + sum_by most ls
visits-after old mid new given most now ls taken before after same is =
    let moved : sum_by now taken ≡ sum_by most ls = λ i. sum_by (same i) (is i) in
    omega (arith, before, after, moved)

pub visits-before : (v bound more : ℕ) → v ≤ bound → v ≤ bound + more
visits-before v bound more le = omega (arith, le)

pub none-few : (taken touched : List ℕ) → taken ≡ [] → length taken ≤ length touched
none-few taken touched none =
    let no : length taken ≡ 0 = ap length none in
    omega (arith, no)
