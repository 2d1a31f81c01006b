-- A whole cycle is served: something waits until all messages have been served, and then nothing.
use Rattle.std.proofs.Common.{◌≡◌, ◌⊎◌, inl, inr, ℕ, zero, suc, ◌+◌, ◌*◌, ◌<◌, ◌≤◌, ◌%◌, Option, Some, None, List, [], ◌∷◌, map, length, remove, refl, sym, ◌∙◌, ap, subst, arith, mod-lt}
use Rattle.std.specs.Prelude.{slice_get}
use Rattle.std.specs.List.{AllByRecursion}
use Rattle.std.proofs.lemmas.Bool.{cases_eq}
use Rattle.std.proofs.lemmas.List.{length-map}
use Rattle.served_tree.specs.Processors.{Processor}
use Rattle.served_tree.specs.Service.{Message, Instant, Service, serves, serve, nothing_kept, service_at_start}
use Rattle.served_tree.specs.KeptCycle.{service_after}
use Rattle.served_tree.specs.Parts.{Part}
use Rattle.served_tree.specs.Course.{Counts, owner, kept_after, parent_in, IsChild, CausedAfter, IsCaused, times, WaitsAt, Stands, total}
use Rattle.served_tree.proofs.Times.{one_if-same, one_if-other, each-remove}
use Rattle.served_tree.proofs.Works.{Works}
use Rattle.served_tree.proofs.Counting.{bump, found-in, most-child, total-bump, total-all, total-most}
use Rattle.served_tree.proofs.Stepping.{lower}
use Rattle.served_tree.proofs.Serving.{message-served}

pub serve-is : (at : Instant) (v : Service) (number : ℕ) (m : Message)
    → slice_get v.waiting (number % length v.waiting) ≡ Some m
    → serve at v number ≡ serves at m (remove v.waiting (number % length v.waiting)) v.kept
unfolding serve
serve-is at v number m is =
    ap (λ (o : Option Message). elim o [ None ↦ v | Some k ↦ serves at k (remove v.waiting (number % length v.waiting)) v.kept ]) is

total-full : (c : Counts) (N : ℕ) → ((n : ℕ) → n < N → c n ≤ 4) → total c N ≡ 4 * N → (n : ℕ)
    → n < N → c n ≡ 4
total-full c zero most full n lt = absurd (omega (arith, lt))
total-full c (suc N) most full n lt =
    let below = total-most c N (λ k l. most k (omega (arith, l))) in
    let last = most N (omega arith) in
    elim (cases_eq n N) [
      | inl e ↦ let f : c N ≡ 4 = omega (arith, full, below, last) in ap c e ∙ f
      | inr ne ↦ total-full c N (λ k l. most k (omega (arith, l))) (omega (arith, full, below, last)) n (omega (arith, lt, ne))
    ]

module _ (at : Instant) (part : ℕ → Part) (works : Works at part) where
  abbrev ps : List Processor
  ps = at.processors

  -- ---- one message

  pub one-step : (c : Counts) (v : Service) (number : ℕ) → Stands ps part c v → 1 ≤ length v.waiting
      → (n : ℕ) × (n < length ps) × Stands ps part (bump c n) (serve at v number)
  one-step c v number stands some =
      let place = number % length v.waiting in
      let f = found-in v.waiting place (mod-lt number some) in
      let m = f.0 in
      let w = (each-remove (WaitsAt ps part c) v.waiting place m f.1 stands.caused).0 in
      let n = owner m in
      let p = found-in ps n w.0 in (
        n,
        w.0,
        subst (Stands ps part (bump c n)) (sym (serve-is at v number m f.1))
            (message-served at part works c n v stands place m f.1 refl p.0 p.1),
      )

  -- ---- nothing is stuck

  at-most : (c : Counts) (v : Service) → Stands ps part c v → (n : ℕ) → n < length ps → c n ≤ 4
  at-most c v stands zero lt = stands.top
  at-most c v stands (suc n) lt = most-child (c (parent_in ps (suc n))) (c (suc n)) (stands.in_step (parent_in ps (suc n)) (suc n) (omega arith, lt, refl))

  parent-low : (n : ℕ) → 0 < n → n < length ps → parent_in ps n < n
  parent-low n pos lt = lower at part works (parent_in ps n) n (pos, lt, refl)

  module _ (c : Counts) (v : Service) (stands : Stands ps part c v) (empty : v.waiting ≡ []) where
    none-caused : (n : ℕ) → n < length ps → IsCaused ps c n → ⊥
    none-caused n lt h =
        let one = stands.all n lt h in
        let none : times n (map owner v.waiting) ≡ 0 = ap (λ ms. times n (map owner ms)) empty in
        omega (arith, one, none)

    none-at : (k n : ℕ) → n < length ps → c n ≡ k → CausedAfter ps c n k → ⊥
    none-at k n lt e h = none-caused n lt (subst (CausedAfter ps c n) (sym e) h)

    -- what is caused from above reaches all, from top down
    down : (k : ℕ) → ((n : ℕ) → n < length ps → k ≤ c n)
        → ((n : ℕ) → n < length ps → c n ≡ k → (n ≡ 0) ⊎ (k < c (parent_in ps n)) → ⊥) → (b n : ℕ)
        → n < b → n < length ps → k < c n
    down k least none zero n low lt = absurd (omega (arith, low))
    down k least none (suc b) n low lt = elim (cases_eq (c n) k) [
      | inl e ↦ elim (cases_eq n 0) [
        | inl z ↦ absurd (none n lt e (inl z))
        | inr ne ↦
            let before = parent-low n (omega (arith, ne)) lt in
            absurd (none n lt e (inr (down k least none b (parent_in ps n) (omega (arith, before, low)) (omega (arith, before, lt)))))
      ]
      | inr ne ↦ let h = least n lt in omega (arith, h, ne)
    ]

    -- and what is caused from below, from the leaves up
    up : (k : ℕ) → ((n : ℕ) → n < length ps → k ≤ c n)
        → ((n : ℕ) → n < length ps → c n ≡ k → ((m : ℕ) → IsChild ps n m → k < c m) → ⊥) → (d n : ℕ)
        → n < length ps → length ps ≤ n + d → k < c n
    up k least none zero n lt high = absurd (omega (arith, lt, high))
    up k least none (suc d) n lt high = elim (cases_eq (c n) k) [
      | inl e ↦ absurd (none n lt e (λ m child.
          let after = lower at part works n m child in
          up k least none d m child.1 (omega (arith, after, high))))
      | inr ne ↦ let h = least n lt in omega (arith, h, ne)
    ]

    asked : (n : ℕ) → n < length ps → 1 ≤ c n
    asked n lt = down 0 (λ k l. omega arith) (λ k l e h. none-at 0 k l e h) (suc n) n (omega arith) lt

    gave : (n : ℕ) → n < length ps → 2 ≤ c n
    gave n lt = up 1 asked (λ k l e h. none-at 1 k l e h) (length ps) n lt (omega arith)

    told : (n : ℕ) → n < length ps → 3 ≤ c n
    told n lt = down 2 gave (λ k l e h. none-at 2 k l e h) (suc n) n (omega arith) lt

    answered : (n : ℕ) → n < length ps → 4 ≤ c n
    answered n lt = up 3 told (λ k l e h. none-at 3 k l e h) (length ps) n lt (omega arith)

    pub all-served : (n : ℕ) → n < length ps → c n ≡ 4
    all-served n lt = let a = answered n lt in let b = at-most c v stands n lt in omega (arith, a, b)

  -- ---- a cycle begins

  kept-first : (xs : List Processor) (n : ℕ) → n < length xs
      → slice_get (map nothing_kept xs) n ≡ Some (kept_after (part n) 0)
  kept-first [] n lt = absurd (omega (arith, lt))
  kept-first (x ∷ xs) zero lt = refl
  kept-first (x ∷ xs) (suc n) lt = kept-first xs n (omega (arith, lt))

  pub begins : Stands ps part (λ n. 0) (service_at_start at)
  begins =
      record {
        top = omega arith;
        in_step = λ n m child. inl (refl, refl);
        long = length-map ps nothing_kept;
        kept = λ n lt. kept-first ps n lt;
        caused = ((works.some, inl refl, refl), tt);
        once = λ n. elim (cases_eq 0 n) [
          | inl e ↦ omega (arith, one_if-same n 0 e)
          | inr ne ↦ omega (arith, one_if-other n 0 ne)
        ];
        all = λ n lt h. elim h [
          | inl z ↦ omega (arith, one_if-same n 0 (sym z))
          | inr more ↦ absurd (omega (arith, more))
        ];
      }

  -- ---- message by message

  pub some-waits : (c : Counts) (v : Service) → Stands ps part c v
      → total c (length ps) < 4 * length ps → 1 ≤ length v.waiting
  some-waits c v stands less = by v.waiting refl
    where
      by : (ms : List Message) → v.waiting ≡ ms → 1 ≤ length ms
      by [] e = let all = total-all c (length ps) (all-served c v stands e) in absurd (omega (arith, all, less))
      by (m ∷ ms) e = omega arith

  pub through : (numbers : List ℕ) (c : Counts) (v : Service) → Stands ps part c v
      → total c (length ps) + length numbers ≤ 4 * length ps
      → (d : Counts) × Stands ps part d (service_after at v numbers) × (total d (length ps) ≡ total c (length ps) + length numbers)
  unfolding service_after
  through [] c v stands few = (c, stands, omega arith)
  through (n ∷ ns) c v stands few =
      let step = one-step c v n stands (some-waits c v stands (omega (arith, few))) in
      let more = total-bump c step.0 (length ps) step.1 in
      let rest = through ns (bump c step.0) (serve at v n) step.2 (omega (arith, few, more)) in
      (rest.0, rest.1, omega (arith, rest.2, more))

  none-waits : (c : Counts) → ((n : ℕ) → n < length ps → c n ≡ 4) → (ms : List Message)
      → AllByRecursion (WaitsAt ps part c) ms → ms ≡ []
  none-waits c full [] h = refl
  none-waits c full (m ∷ ms) h =
      let w = h.0 in
      let never : CausedAfter ps c (owner m) 4 = subst (CausedAfter ps c (owner m)) (full (owner m) w.0) w.1 in
      absurd never

  -- in the end nothing waits, and each processor keeps its part
  pub full-through : (c : Counts) (v : Service) → Stands ps part c v
      → total c (length ps) ≡ 4 * length ps
      → (v.waiting ≡ []) × (length v.kept ≡ length ps) × ((n : ℕ) → n < length ps → slice_get v.kept n ≡ Some (kept_after (part n) 4))
  full-through c v stands all =
      let full = total-full c (length ps) (at-most c v stands) all in (
        none-waits c full v.waiting stands.caused,
        stands.long,
        λ n lt. stands.kept n lt ∙ ap (λ j. Some (kept_after (part n) j)) (full n lt),
      )
