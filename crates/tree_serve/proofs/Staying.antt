-- What is known of a message that waits, of its processor and of those beside it.
use Rattle.std.proofs.Common.{◌≡◌, ◌⊎◌, inl, inr, ℕ, zero, suc, ◌<◌, ◌≤◌, Bool, Option, Some, None, List, length, remove, refl, ap, subst, arith}
use Rattle.std.specs.Prelude.{slice_get}
use Rattle.std.proofs.lemmas.Bool.{cases_eq}
use Rattle.atomic_face.specs.Classes.{Bag}
use Rattle.served_tree.specs.Processors.{Processor}
use Rattle.served_tree.specs.Service.{StoppedLeaf, Message, collect, output, transition, done, Instant, Service, serves}
use Rattle.served_tree.specs.Parts.{Part}
use Rattle.served_tree.specs.Course.{Counts, owner, message_of, kept_after, parent_in, IsChild, CausedAfter, InStep, WaitsAt, Stands}
use Rattle.served_tree.proofs.Times.{each-remove}
use Rattle.served_tree.proofs.Works.{Works}
use Rattle.served_tree.proofs.Counting.{bump, found-in, parent-at}
use Rattle.served_tree.proofs.Stepping.{lower}
use Rattle.served_tree.proofs.Serving.{message-served}

-- ---- by its kind a message tells how many were served before

collect-first : (p : Part) (n k : ℕ) → collect n ≡ message_of p n k → k ≡ 0
collect-first p n zero is = refl
collect-first p n (suc zero) is = absurd cc
collect-first p n (suc (suc zero)) is = absurd cc
collect-first p n (suc (suc (suc k))) is = absurd cc

output-second : (p : Part) (n k : ℕ) (bag : Bag) → output n bag ≡ message_of p n k
    → (k ≡ 1) × (bag ≡ p.gives)
output-second p n zero bag is = absurd cc
output-second p n (suc zero) bag is = (refl, cc)
output-second p n (suc (suc zero)) bag is = absurd cc
output-second p n (suc (suc (suc k))) bag is = absurd cc

transition-third : (p : Part) (n k : ℕ) (bag : Bag) (woken : Bool)
    → transition n bag woken ≡ message_of p n k → (k ≡ 2) × (bag ≡ p.takes) × (woken ≡ p.woken)
transition-third p n zero bag woken is = absurd cc
transition-third p n (suc zero) bag woken is = absurd cc
transition-third p n (suc (suc zero)) bag woken is = (refl, cc, cc)
transition-third p n (suc (suc (suc k))) bag woken is = absurd cc

done-last : (p : Part) (n k : ℕ) (next : Option ℕ) (stop : StoppedLeaf)
    → done n next stop ≡ message_of p n k → 3 ≤ k
done-last p n zero next stop is = absurd cc
done-last p n (suc zero) next stop is = absurd cc
done-last p n (suc (suc zero)) next stop is = absurd cc
done-last p n (suc (suc (suc k))) next stop is = omega arith

never-fifth : (ps : List Processor) (c : Counts) (n k : ℕ) → CausedAfter ps c n k → k < 4
never-fifth ps c n zero h = omega arith
never-fifth ps c n (suc zero) h = omega arith
never-fifth ps c n (suc (suc zero)) h = omega arith
never-fifth ps c n (suc (suc (suc zero))) h = omega arith
never-fifth ps c n (suc (suc (suc (suc k)))) h = absurd h

-- ---- a parent and a child

few-served : (q m : ℕ) → InStep q m → q ≡ 1 → m ≤ 2
few-served q m (inl h) e = omega (arith, h.0, h.1, e)
few-served q m (inr (inl h)) e = h.1
few-served q m (inr (inr (inl h))) e = omega (arith, h.0, h.1, e)
few-served q m (inr (inr (inr (inl h)))) e = absurd (omega (arith, h.0, e))
few-served q m (inr (inr (inr (inr h)))) e = absurd (omega (arith, h.0, e))

some-served : (q m : ℕ) → InStep q m → 2 ≤ q → 2 ≤ m
some-served q m (inl h) le = absurd (omega (arith, h.0, le))
some-served q m (inr (inl h)) le = absurd (omega (arith, h.0, le))
some-served q m (inr (inr (inl h))) le = omega (arith, h.1)
some-served q m (inr (inr (inr (inl h)))) le = h.1
some-served q m (inr (inr (inr (inr h)))) le = omega (arith, h.1)

high-served : (q m : ℕ) → InStep q m → 2 < m → 2 < q
high-served q m (inl h) lt = absurd (omega (arith, h.1, lt))
high-served q m (inr (inl h)) lt = absurd (omega (arith, h.1, lt))
high-served q m (inr (inr (inl h))) lt = absurd (omega (arith, h.1, lt))
high-served q m (inr (inr (inr (inl h)))) lt = omega (arith, h.0)
high-served q m (inr (inr (inr (inr h)))) lt = omega (arith, h.0)

-- ---- what is kept after so many

pub none-given : (p : Part) (k : ℕ) → k ≤ 1 → (kept_after p k).gave ≡ None
none-given p zero le = refl
none-given p (suc zero) le = refl
none-given p (suc (suc k)) le = absurd (omega (arith, le))

pub some-given : (p : Part) (k : ℕ) → 2 ≤ k → (kept_after p k).gave ≡ Some p.gives
some-given p zero le = absurd (omega (arith, le))
some-given p (suc zero) le = absurd (omega (arith, le))
some-given p (suc (suc zero)) le = refl
some-given p (suc (suc (suc zero))) le = refl
some-given p (suc (suc (suc (suc k)))) le = refl

pub none-answered : (p : Part) (k : ℕ) → k ≤ 3 → (kept_after p k).answered ≡ None
none-answered p zero le = refl
none-answered p (suc zero) le = refl
none-answered p (suc (suc zero)) le = refl
none-answered p (suc (suc (suc zero))) le = refl
none-answered p (suc (suc (suc (suc k)))) le = absurd (omega (arith, le))

-- ---- one message of a cycle

module _ (at : Instant) (part : ℕ → Part) (works : Works at part) (c : Counts) (v : Service)
    (stands : Stands at.processors part c v) where
  abbrev ps : List Processor
  ps = at.processors

  parent-low : (n : ℕ) → 0 < n → n < length ps → parent_in ps n < n
  parent-low n pos lt = lower at part works (parent_in ps n) n (pos, lt, refl)

  -- the children of a processor that has had so many served
  pub child-few : (q m : ℕ) → IsChild ps q m → c q ≡ 1 → c m ≤ 2
  child-few q m child e = few-served (c q) (c m) (stands.in_step q m child) e

  pub child-some : (q m : ℕ) → IsChild ps q m → 2 ≤ c q → 2 ≤ c m
  child-some q m child le = some-served (c q) (c m) (stands.in_step q m child) le

  pub parent-same : (q m k : ℕ) → IsChild ps q m → c m ≡ k → (k ≡ 1) ⊎ (k ≡ 3) → c q ≡ k
  parent-same q m k child e odd = parent-at (c q) (c m) k (stands.in_step q m child) e odd

  -- once one has to move, all have given
  climb : (b n : ℕ) → n < b → n < length ps → 2 < c n → 2 ≤ c 0
  climb zero n low lt high = absurd (omega (arith, low))
  climb (suc b) n low lt high = elim (cases_eq n 0) [
    | inl e ↦ let h : c n ≡ c 0 = ap c e in omega (arith, h, high)
    | inr ne ↦
        let q = parent_in ps n in
        let before = parent-low n (omega (arith, ne)) lt in
        let step = stands.in_step q n (omega (arith, ne), lt, refl) in
        climb b q (omega (arith, before, low)) (omega (arith, before, lt)) (high-served (c q) (c n) step high)
  ]

  fall : 2 ≤ c 0 → (b n : ℕ) → n < b → n < length ps → 2 ≤ c n
  fall top zero n low lt = absurd (omega (arith, low))
  fall top (suc b) n low lt = elim (cases_eq n 0) [
    | inl e ↦ let h : c n ≡ c 0 = ap c e in omega (arith, h, top)
    | inr ne ↦
        let q = parent_in ps n in
        let before = parent-low n (omega (arith, ne)) lt in
        child-some q n (omega (arith, ne), lt, refl) (fall top b q (omega (arith, before, low)) (omega (arith, before, lt)))
  ]

  pub all-gave : (n : ℕ) → n < length ps → c n ≡ 2 → CausedAfter ps c n (c n)
      → (m : ℕ) → m < length ps → 2 ≤ c m
  all-gave n lt two caused m within =
      let why : (n ≡ 0) ⊎ (2 < c (parent_in ps n)) = subst (CausedAfter ps c n) two caused in
      let top : 2 ≤ c 0 = elim why [
        | inl e ↦ let h : c n ≡ c 0 = ap c e in omega (arith, h, two)
        | inr high ↦ elim (cases_eq n 0) [
          | inl e ↦ let h : c n ≡ c 0 = ap c e in omega (arith, h, two)
          | inr ne ↦
              let before = parent-low n (omega (arith, ne)) lt in
              climb (suc (parent_in ps n)) (parent_in ps n) (omega arith) (omega (arith, before, lt)) high
        ]
      ] in
      fall top (suc m) m (omega arith) within

  module _ (place : ℕ) (m : Message) (is : slice_get v.waiting place ≡ Some m) where
    pub waits : WaitsAt ps part c m
    waits = (each-remove (WaitsAt ps part c) v.waiting place m is stands.caused).0

    -- it is served: one message more
    pub then-stands : Stands ps part (bump c (owner m)) (serves at m (remove v.waiting place) v.kept)
    then-stands =
        let p = found-in ps (owner m) waits.0 in
        message-served at part works c (owner m) v stands place m is refl p.0 p.1

  module _ (n : ℕ) (place : ℕ) where
    -- a collect message
    pub collect-waits : slice_get v.waiting place ≡ Some (collect n) → (n < length ps) × (c n ≡ 0)
    collect-waits is = let w = waits place (collect n) is in (w.0, collect-first (part n) n (c n) w.2)

    -- an output message
    pub output-waits : (bag : Bag) → slice_get v.waiting place ≡ Some (output n bag)
        → (n < length ps) × (c n ≡ 1) × (bag ≡ (part n).gives)
    output-waits bag is =
        let w = waits place (output n bag) is in
        let h = output-second (part n) n (c n) bag w.2 in
        (w.0, h.0, h.1)

    -- a transition message
    pub transition-waits : (bag : Bag) (woken : Bool)
        → slice_get v.waiting place ≡ Some (transition n bag woken)
        → (n < length ps) × (c n ≡ 2) × (bag ≡ (part n).takes) × (woken ≡ (part n).woken) × ((m : ℕ) → m < length ps → 2 ≤ c m)
    transition-waits bag woken is =
        let w = waits place (transition n bag woken) is in
        let h = transition-third (part n) n (c n) bag woken w.2 in
        (w.0, h.0, h.1, h.2, all-gave n w.0 h.0 w.1)

    -- a done message
    pub done-waits : (next : Option ℕ) (stop : StoppedLeaf)
        → slice_get v.waiting place ≡ Some (done n next stop) → (n < length ps) × (c n ≡ 3)
    done-waits next stop is =
        let w = waits place (done n next stop) is in
        let some = done-last (part n) n (c n) next stop w.2 in
        let most = never-fifth ps c n (c n) w.1 in
        (w.0, omega (arith, some, most))
