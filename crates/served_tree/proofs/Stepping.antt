-- One message is served: the invariant of service is kept, whichever message it is.
use Rattle.std.proofs.Common.{◌≡◌, ◌⊎◌, inl, inr, ℕ, zero, suc, ◌+◌, ◌<◌, ◌≤◌, Some, List, [], ◌∷◌, ◌++◌, map, length, remove, refl, sym, ◌∙◌, ap, subst, arith}
use Rattle.std.specs.Prelude.{slice_get, ◌==◌}
use Rattle.std.specs.List.{AllByRecursion}
use Rattle.std.proofs.lemmas.Bool.{cases_eq, cases_lt}
use Rattle.served_tree.specs.Processors.{Processor}
use Rattle.served_tree.specs.Service.{Message, Kept, Instant, Service, kept_with_change}
use Rattle.served_tree.specs.Parts.{Part}
use Rattle.served_tree.specs.Course.{Counts, owner, message_of, kept_after, parent_in, IsChild, CausedAfter, IsCaused, InStep, one_if, times, WaitsAt, Stands}
use Rattle.served_tree.proofs.Times.{times-append, one_if-same, one_if-other, times-one, each-append, each-weaker, each-found, each-remove, times-remove, map-append-owner}
use Rattle.served_tree.proofs.Works.{Works}
use Rattle.served_tree.proofs.Counting.{bump, bump-same, bump-other, bump-le, grow-parent, grow-child, child-at, parent-at, changed-same, changed-other, changed-long, found-in, parent-is}

-- ---- owners

owner-is : (p : Part) (n k : ℕ) → owner (message_of p n k) ≡ n
owner-is p n zero = refl
owner-is p n (suc zero) = refl
owner-is p n (suc (suc zero)) = refl
owner-is p n (suc (suc (suc k))) = refl

owners-are : (part : ℕ → Part) (b : Counts) (new : List ℕ)
    → map owner (map (λ x. message_of (part x) x (b x)) new) ≡ new
owners-are part b [] = refl
owners-are part b (x ∷ new) = λ i. owner-is (part x) x (b x) i ∷ owners-are part b new i

pub map-same : {X : Type 0} (f g : ℕ → X) (xs : List ℕ) → ((x : ℕ) → 1 ≤ times x xs → f x ≡ g x)
    → map f xs ≡ map g xs
map-same f g [] each = refl
map-same f g (y ∷ ys) each =
    λ i. each y (omega (arith, one_if-same y y refl)) i ∷ map-same f g ys (λ x le. each x (omega (arith, le))) i

module _ (at : Instant) (part : ℕ → Part) (works : Works at part) where
  abbrev ps : List Processor
  ps = at.processors

  -- ---- parents and children

  parent-of : (n m : ℕ) → IsChild ps n m
      → (q : Processor) × (slice_get ps m ≡ Some q) × (q.parent ≡ n)
  parent-of n m child =
      let q = found-in ps m child.1 in
      (q.0, q.1, sym (parent-is ps m q.0 q.1) ∙ child.2)

  pub once : (n m : ℕ) (p : Processor) → slice_get ps n ≡ Some p → IsChild ps n m
      → times m p.children ≡ 1
  once n m p is child =
      let q = parent-of n m child in
      (works.placed m q.0 q.1).listed child.0 p (ap (slice_get ps) q.2 ∙ is)

  pub lower : (n m : ℕ) → IsChild ps n m → n < m
  lower n m child =
      let q = parent-of n m child in
      let h = (works.placed m q.0 q.1).below child.0 in
      omega (arith, h, q.2)

  pub is-child : (n m : ℕ) → IsChild ps n m ⊎ (IsChild ps n m → ⊥)
  is-child n m = elim (cases_lt 0 m) [
    | inl pos ↦ elim (cases_lt m (length ps)) [
      | inl lt ↦ elim (cases_eq (parent_in ps m) n) [
        | inl e ↦ inl (pos, lt, e)
        | inr ne ↦ inr (λ child. ne child.2)
      ]
      | inr past ↦ inr (λ child. omega (arith, child.1, past))
    ]
    | inr none ↦ inr (λ child. omega (arith, child.0, none))
  ]

  module _ (c : Counts) (n : ℕ) where
    -- ---- what one message more causes

    abbrev Rel : ℕ → ℕ → Type 0
    Rel zero x = IsChild ps n x
    Rel (suc zero) x = IsChild ps x n
    Rel (suc (suc zero)) x = IsChild ps n x
    Rel (suc (suc (suc k))) x = IsChild ps x n

    above-cases : (k x : ℕ) → x < length ps → (x ≡ 0) ⊎ (k < bump c n (parent_in ps x))
        → ((x ≡ 0) ⊎ (k < c (parent_in ps x))) ⊎ ((c n ≡ k) × IsChild ps n x)
    above-cases k x lt (inl e) = inl (inl e)
    above-cases k x lt (inr h) = elim (cases_eq x 0) [
      | inl e ↦ inl (inl e)
      | inr pos ↦ elim (cases_eq (parent_in ps x) n) [
        | inl e ↦ elim (cases_lt k (c n)) [
          | inl more ↦ inl (inr (subst (λ y. k < c y) (sym e) more))
          | inr less ↦ let b : k < bump c n n = subst (λ y. k < bump c n y) e h in
              inr (omega (arith, b, bump-same c n, less), (omega (arith, pos), lt, e))
        ]
        | inr ne ↦ inl (inr (omega (arith, h, bump-other c n (parent_in ps x) ne)))
      ]
    ]

    below-cases : (k x : ℕ) → ((m : ℕ) → IsChild ps x m → k < bump c n m)
        → ((m : ℕ) → IsChild ps x m → k < c m) ⊎ ((c n ≡ k) × IsChild ps x n)
    below-cases k x h = elim (is-child x n) [
      | inl child ↦ elim (cases_lt k (c n)) [
        | inl more ↦ inl (λ m ch. elim (cases_eq m n) [
          | inl e ↦ subst (λ y. k < c y) (sym e) more
          | inr ne ↦ let b = h m ch in omega (arith, b, bump-other c n m ne)
        ])
        | inr less ↦ let b = h n child in inr (omega (arith, b, bump-same c n, less), child)
      ]
      | inr none ↦ inl (λ m ch. elim (cases_eq m n) [
        | inl e ↦ absurd (none (subst (IsChild ps x) e ch))
        | inr ne ↦ let b = h m ch in omega (arith, b, bump-other c n m ne)
      ])
    ]

    caused-cases : (j x : ℕ) → x < length ps → CausedAfter ps (bump c n) x j
        → CausedAfter ps c x j ⊎ ((c n ≡ j) × Rel j x)
    caused-cases zero x lt h = above-cases 0 x lt h
    caused-cases (suc zero) x lt h = below-cases 1 x h
    caused-cases (suc (suc zero)) x lt h = above-cases 2 x lt h
    caused-cases (suc (suc (suc zero))) x lt h = below-cases 3 x h
    caused-cases (suc (suc (suc (suc k)))) x lt h = absurd h

    above-more : (k x : ℕ) → (x ≡ 0) ⊎ (k < c (parent_in ps x))
        → (x ≡ 0) ⊎ (k < bump c n (parent_in ps x))
    above-more k x (inl e) = inl e
    above-more k x (inr h) = let b = bump-le c n (parent_in ps x) in inr (omega (arith, h, b))

    below-more : (k x : ℕ) → ((m : ℕ) → IsChild ps x m → k < c m) → (m : ℕ) → IsChild ps x m
        → k < bump c n m
    below-more k x h m ch = let b = bump-le c n m in let d = h m ch in omega (arith, d, b)

    caused-more : (j x : ℕ) → CausedAfter ps c x j → CausedAfter ps (bump c n) x j
    caused-more zero x h = above-more 0 x h
    caused-more (suc zero) x h = below-more 1 x h
    caused-more (suc (suc zero)) x h = above-more 2 x h
    caused-more (suc (suc (suc zero))) x h = below-more 3 x h
    caused-more (suc (suc (suc (suc k)))) x h = absurd h

    -- another processor's message that was caused still is
    still-caused : (x : ℕ) → (x ≡ n → ⊥) → IsCaused ps c x → IsCaused ps (bump c n) x
    still-caused x ne h = subst (CausedAfter ps (bump c n) x) (sym (bump-other c n x ne)) (caused-more (c x) x h)

    -- one that is caused was, or is newly so
    newly-caused : (x : ℕ) → x < length ps → (x ≡ n → ⊥) → IsCaused ps (bump c n) x
        → IsCaused ps c x ⊎ ((c n ≡ c x) × Rel (c x) x)
    newly-caused x lt ne h = caused-cases (c x) x lt (subst (CausedAfter ps (bump c n) x) (bump-other c n x ne) h)

    -- ---- a message is taken out, and others are put at the end

    module _ (v : Service) (stands : Stands ps part c v) (place : ℕ) (m : Message) (is : slice_get v.waiting place ≡ Some m) (own : owner m ≡ n) where
      abbrev others : List Message
      others = remove v.waiting place

      split : (x : ℕ) → times x (map owner v.waiting) ≡ one_if (n == x) + times x (map owner others)
      split x = times-remove v.waiting place m x is ∙ ap (λ y. one_if (y == x) + times x (map owner others)) own

      gone : times n (map owner others) ≡ 0
      gone = let h = stands.once n in omega (arith, h, split n, one_if-same n n refl)

      as-before : (x : ℕ) → (x ≡ n → ⊥) → times x (map owner others) ≡ times x (map owner v.waiting)
      as-before x ne = omega (arith, split x, one_if-other x n (λ e. ne (sym e)))

      others-wait : AllByRecursion (WaitsAt ps part c) others
      others-wait = (each-remove (WaitsAt ps part c) v.waiting place m is stands.caused).1

      -- no other message of a processor waits that isn't caused
      none-waits : (x : ℕ) → (IsCaused ps c x → ⊥) → times x (map owner others) ≡ 0
      none-waits x none = elim (cases_eq (times x (map owner others)) 0) [
        | inl e ↦ e
        | inr some ↦ let f = each-found (WaitsAt ps part c) others x others-wait (omega (arith, some)) in
            absurd (none (subst (IsCaused ps c) f.2 f.1.1))
      ]

      waits-on : (k : Message) → WaitsAt ps part c k → 1 ≤ times (owner k) (map owner others)
          → WaitsAt ps part (bump c n) k
      waits-on k w le =
          let ne : owner k ≡ n → ⊥ = λ e. let z : times (owner k) (map owner others) ≡ 0 = ap (λ y. times y (map owner others)) e ∙ gone in omega (arith, le, z) in (
            w.0,
            still-caused (owner k) ne w.1,
            w.2 ∙ ap (message_of (part (owner k)) (owner k)) (sym (bump-other c n (owner k) ne)),
          )

      new-wait : (new : List ℕ)
          → ((x : ℕ) → 1 ≤ times x new → (x < length ps) × IsCaused ps (bump c n) x)
          → AllByRecursion (WaitsAt ps part (bump c n)) (map (λ x. message_of (part x) x (bump c n x)) new)
      new-wait [] each = tt
      new-wait (x ∷ new) each =
          let h = each x (omega (arith, one_if-same x x refl)) in
          let o = owner-is (part x) x (bump c n x) in (
            (
              subst (λ y. y < length ps) (sym o) h.0,
              subst (IsCaused ps (bump c n)) (sym o) h.1,
              ap (λ y. message_of (part y) y (bump c n y)) (sym o),
            ),
            new-wait new (λ y le. each y (omega (arith, le))),
          )

      after : (new : List ℕ) (ms : List Message) (kept : List Kept)
          → ms ≡ map (λ x. message_of (part x) x (bump c n x)) new
          → ((x : ℕ) → times x new ≤ 1)
          → ((x : ℕ) → 1 ≤ times x new → (x < length ps) × IsCaused ps (bump c n) x × ((x ≡ n) ⊎ (IsCaused ps c x → ⊥)))
          → ((x : ℕ) → x < length ps → IsCaused ps (bump c n) x → (1 ≤ times x new) ⊎ (IsCaused ps c x × (x ≡ n → ⊥)))
          → bump c n 0 ≤ 4
          → ((a b : ℕ) → IsChild ps a b → InStep (bump c n a) (bump c n b))
          → length kept ≡ length ps
          → ((x : ℕ) → x < length ps → slice_get kept x ≡ Some (kept_after (part x) (bump c n x)))
          → Stands ps part (bump c n) (record { waiting = others ++ ms; kept = kept })
      after new ms kept are few caused full top step long held =
          let owners : map owner ms ≡ new = ap (map owner) are ∙ owners-are part (bump c n) new in
          let counts : (x : ℕ) → times x (map owner (others ++ ms)) ≡ times x (map owner others) + times x new
          = λ x. ap (times x) (map-append-owner others ms) ∙ times-append x (map owner others) (map owner ms) ∙ ap (λ l. times x (map owner others) + times x l) owners in
          let single : (x : ℕ) → times x (map owner (others ++ ms)) ≤ 1
          = λ x. elim (cases_eq (times x new) 0) [
            | inl e ↦ let h = stands.once x in omega (arith, counts x, e, split x, h)
            | inr some ↦ let f = few x in let g = caused x (omega (arith, some)) in elim (g.2) [
              | inl e ↦ let z : times x (map owner others) ≡ 0 = ap (λ y. times y (map owner others)) e ∙ gone in omega (arith, counts x, z, f)
              | inr none ↦ omega (arith, counts x, none-waits x none, f)
            ]
          ] in
          record {
            top = top;
            in_step = step;
            long = long;
            kept = held;
            caused = each-append (WaitsAt ps part (bump c n)) others ms
                (each-weaker (WaitsAt ps part c) (WaitsAt ps part (bump c n)) others others-wait waits-on)
                (subst (AllByRecursion (WaitsAt ps part (bump c n))) (sym are) (new-wait new (λ x le. let g = caused x le in (g.0, g.1))));
            once = single;
            all = λ x lt h. let s = single x in elim (full x lt h) [
              | inl some ↦ omega (arith, some, s, counts x)
              | inr old ↦ let w = stands.all x lt old.0 in omega (arith, w, s, counts x, as-before x old.1)
            ];
          }

      -- ---- what holds of the processor whose message is served

      pub inside : n < length ps
      inside = let w = (each-remove (WaitsAt ps part c) v.waiting place m is stands.caused).0 in subst (λ y. y < length ps) own w.0

      caused-now : IsCaused ps c n
      caused-now = let w = (each-remove (WaitsAt ps part c) v.waiting place m is stands.caused).0 in subst (IsCaused ps c) own w.1

      pub caused-at : (k : ℕ) → c n ≡ k → CausedAfter ps c n k
      caused-at k e = subst (CausedAfter ps c n) e caused-now

      pub message-is : (k : ℕ) → c n ≡ k → m ≡ message_of (part n) n k
      message-is k e =
          let w = (each-remove (WaitsAt ps part c) v.waiting place m is stands.caused).0 in
          w.2 ∙ ap (λ y. message_of (part y) y (c y)) own ∙ ap (message_of (part n) n) e

      pub was-kept : (k : ℕ) → c n ≡ k → slice_get v.kept n ≡ Some (kept_after (part n) k)
      was-kept k e = stands.kept n inside ∙ ap (λ j. Some (kept_after (part n) j)) e

      pub now : (k : ℕ) → c n ≡ k → bump c n n ≡ suc k
      now k e = bump-same c n ∙ ap suc e

      top-more : (k : ℕ) → c n ≡ k → k < 4 → bump c n 0 ≤ 4
      top-more k e lt = elim (cases_eq n 0) [
        | inl z ↦ subst (λ y. bump c n y ≤ 4) z (omega (arith, now k e, lt))
        | inr ne ↦ let t = stands.top in omega (arith, t, bump-other c n 0 (λ z. ne (sym z)))
      ]

      step-up : (a b : ℕ) → IsChild ps a b → a ≡ n → InStep (suc (c a)) (c b)
      step-up a b child e =
          let mine : IsChild ps n b = subst (λ y. IsChild ps y b) e child in
          grow-parent (c a) (c b) (stands.in_step a b child)
          (λ one. caused-at 1 (ap c (sym e) ∙ one) b mine)
          (λ three. caused-at 3 (ap c (sym e) ∙ three) b mine)
          (λ four. caused-at 4 (ap c (sym e) ∙ four))

      from-parent : (k a : ℕ) → IsChild ps a n → (n ≡ 0) ⊎ (k < c (parent_in ps n)) → k < c a
      from-parent k a child (inl z) = let h = child.0 in absurd (omega (arith, h, z))
      from-parent k a child (inr h) = subst (λ y. k < c y) child.2 h

      step-down : (a b : ℕ) → IsChild ps a b → b ≡ n → InStep (c a) (suc (c b))
      step-down a b child e =
          let mine : IsChild ps a n = subst (IsChild ps a) e child in
          grow-child (c a) (c b) (stands.in_step a b child)
          (λ z. from-parent 0 a mine (caused-at 0 (ap c (sym e) ∙ z)))
          (λ two. from-parent 2 a mine (caused-at 2 (ap c (sym e) ∙ two)))
          (λ four. caused-at 4 (ap c (sym e) ∙ four))

      steps-more : (a b : ℕ) → IsChild ps a b → InStep (bump c n a) (bump c n b)
      steps-more a b child =
          let lt = lower a b child in
          elim (cases_eq a n) [
            | inl e ↦
                let ne : b ≡ n → ⊥ = λ f. omega (arith, lt, e, f) in
                let one : suc (c a) ≡ bump c n a = ap (λ y. suc (c y)) e ∙ sym (bump-same c n) ∙ ap (bump c n) (sym e) in
                subst (λ y. InStep y (bump c n b)) one (subst (InStep (suc (c a))) (sym (bump-other c n b ne)) (step-up a b child e))
            | inr ne ↦ elim (cases_eq b n) [
              | inl e ↦
                  let one : suc (c b) ≡ bump c n b = ap (λ y. suc (c y)) e ∙ sym (bump-same c n) ∙ ap (bump c n) (sym e) in
                  subst (λ y. InStep y (bump c n b)) (sym (bump-other c n a ne)) (subst (InStep (c a)) one (step-down a b child e))
              | inr nf ↦
                  subst (λ y. InStep y (bump c n b)) (sym (bump-other c n a ne)) (subst (InStep (c a)) (sym (bump-other c n b nf)) (stands.in_step a b child))
            ]
          ]

      pub held-changed : (k : ℕ) (f : Kept → Kept) → c n ≡ k
          → f (kept_after (part n) k) ≡ kept_after (part n) (suc k) → (x : ℕ) → x < length ps
          → slice_get (kept_with_change v.kept n f) x ≡ Some (kept_after (part x) (bump c n x))
      held-changed k f e fe x lt = elim (cases_eq x n) [
        | inl same ↦ subst (λ y. slice_get (kept_with_change v.kept n f) y ≡ Some (kept_after (part y) (bump c n y))) (sym same)
            (changed-same v.kept n (kept_after (part n) k) f (was-kept k e) ∙ ap Some fe ∙ ap (λ j. Some (kept_after (part n) j)) (sym (now k e)))
        | inr ne ↦ changed-other v.kept n x (kept_after (part n) k) f (was-kept k e) ne ∙ stands.kept x lt ∙ ap (λ j. Some (kept_after (part x) j)) (sym (bump-other c n x ne))
      ]

      pub held-long : (k : ℕ) (f : Kept → Kept) → c n ≡ k → length (kept_with_change v.kept n f) ≡ length ps
      held-long k f e = changed-long v.kept n (kept_after (part n) k) f (was-kept k e) ∙ stands.long

      pub held-same : c n ≡ 0 → (x : ℕ) → x < length ps
          → slice_get v.kept x ≡ Some (kept_after (part x) (bump c n x))
      held-same e x lt = elim (cases_eq x n) [
        | inl same ↦ subst (λ y. slice_get v.kept y ≡ Some (kept_after (part y) (bump c n y))) (sym same)
            (was-kept 0 e ∙ ap (λ j. Some (kept_after (part n) j)) (sym (now 0 e)))
        | inr ne ↦ stands.kept x lt ∙ ap (λ j. Some (kept_after (part x) j)) (sym (bump-other c n x ne))
      ]

      -- ---- questions and orders, which go down; answers, which go up

      abbrev Down : ℕ → Type 0
      Down k = (k ≡ 0) ⊎ (k ≡ 2)

      abbrev Up : ℕ → Type 0
      Up k = (k ≡ 1) ⊎ (k ≡ 3)

      from-above : (b : Counts) (k x : ℕ) → Down k → k < b (parent_in ps x) → CausedAfter ps b x k
      from-above b k x (inl e) lt = subst (CausedAfter ps b x) (sym e) (inr (omega (arith, e, lt)))
      from-above b k x (inr e) lt = subst (CausedAfter ps b x) (sym e) (inr (omega (arith, e, lt)))

      to-above : (b : Counts) (k x : ℕ) → Down k → CausedAfter ps b x k
          → (x ≡ 0) ⊎ (k < b (parent_in ps x))
      to-above b k x (inl e) h = subst (λ j. (x ≡ 0) ⊎ (j < b (parent_in ps x))) (sym e) (subst (CausedAfter ps b x) e h)
      to-above b k x (inr e) h = subst (λ j. (x ≡ 0) ⊎ (j < b (parent_in ps x))) (sym e) (subst (CausedAfter ps b x) e h)

      from-below : (b : Counts) (k x : ℕ) → Up k → ((y : ℕ) → IsChild ps x y → k < b y)
          → CausedAfter ps b x k
      from-below b k x (inl e) h = subst (CausedAfter ps b x) (sym e) (λ y child. let d = h y child in omega (arith, e, d))
      from-below b k x (inr e) h = subst (CausedAfter ps b x) (sym e) (λ y child. let d = h y child in omega (arith, e, d))

      to-below : (b : Counts) (k x : ℕ) → Up k → CausedAfter ps b x k → (y : ℕ) → IsChild ps x y
          → k < b y
      to-below b k x (inl e) h y child = let d = subst (CausedAfter ps b x) e h y child in omega (arith, e, d)
      to-below b k x (inr e) h y child = let d = subst (CausedAfter ps b x) e h y child in omega (arith, e, d)

      rel-down : (k x : ℕ) → Down k → Rel k x → IsChild ps n x
      rel-down k x (inl e) r = subst (λ j. Rel j x) e r
      rel-down k x (inr e) r = subst (λ j. Rel j x) e r

      rel-up : (k x : ℕ) → Up k → Rel k x → IsChild ps x n
      rel-up k x (inl e) r = subst (λ j. Rel j x) e r
      rel-up k x (inr e) r = subst (λ j. Rel j x) e r

      up-next : (k : ℕ) → Down k → Up (suc k)
      up-next k (inl e) = inl (ap suc e)
      up-next k (inr e) = inr (ap suc e)

      -- another processor whose message is caused now: it was, or it stands in relation to this one
      other-caused : (k x : ℕ) → c n ≡ k → x < length ps → (x ≡ n → ⊥) → IsCaused ps (bump c n) x
          → IsCaused ps c x ⊎ ((c x ≡ k) × Rel k x)
      other-caused k x e lt ne h = elim (newly-caused x lt ne h) [
        | inl old ↦ inl old
        | inr new ↦ let f : c x ≡ k = sym new.0 ∙ e in inr (f, subst (λ j. Rel j x) f new.1)
      ]

      module _ (p : Processor) (here : slice_get ps n ≡ Some p) where
        pub child-count : (k x : ℕ) → Down k → c n ≡ k → IsChild ps n x → c x ≡ k
        child-count k x down e child = child-at (c n) (c x) k (stands.in_step n x child) e down

        not-self : (x : ℕ) → IsChild ps n x → x ≡ n → ⊥
        not-self x child e = let lt = lower n x child in omega (arith, lt, e)

        -- to all children
        pub to-children : (k : ℕ) (ms : List Message) (kept : List Kept) → Down k → c n ≡ k
            → (y : ℕ) × (1 ≤ times y p.children)
            → ms ≡ map (λ x. message_of (part x) x k) p.children
            → length kept ≡ length ps
            → ((x : ℕ) → x < length ps → slice_get kept x ≡ Some (kept_after (part x) (bump c n x)))
            → Stands ps part (bump c n) (record { waiting = others ++ ms; kept = kept })
        to-children k ms kept down e some are long held =
            let only = (works.placed n p here).only in
            let small : k < 4 = elim down [ inl z ↦ omega (arith, z) | inr z ↦ omega (arith, z) ] in
            let same : (x : ℕ) → 1 ≤ times x p.children → bump c n x ≡ k
            = λ x le. bump-other c n x (not-self x (only x le)) ∙ child-count k x down e (only x le) in
            after p.children ms kept
            (are ∙ map-same (λ x. message_of (part x) x k) (λ x. message_of (part x) x (bump c n x)) p.children (λ x le. ap (message_of (part x) x) (sym (same x le))))
            (λ x. elim (cases_eq (times x p.children) 0) [
              | inl z ↦ omega (arith, z)
              | inr s ↦ omega (arith, once n x p here (only x (omega (arith, s))))
            ])
            (λ x le. let child = only x le in (
              child.1,
              subst (CausedAfter ps (bump c n) x) (sym (same x le)) (from-above (bump c n) k x down (subst (λ y. k < bump c n y) (sym child.2) (omega (arith, now k e)))),
              inr (λ h. elim (to-above c k x down (subst (CausedAfter ps c x) (child-count k x down e child) h)) [
                | inl z ↦ let pos = child.0 in omega (arith, z, pos)
                | inr more ↦ let d : k < c n = subst (λ y. k < c y) child.2 more in omega (arith, d, e)
              ]),
            ))
            (λ x lt h. elim (cases_eq x n) [
              | inl z ↦
                  let mine : CausedAfter ps (bump c n) n (suc k) = subst (CausedAfter ps (bump c n) n) (now k e) (subst (IsCaused ps (bump c n)) z h) in
                  let d = to-below (bump c n) (suc k) n (up-next k down) mine some.0 (only some.0 some.1) in
                  absurd (omega (arith, d, same some.0 some.1))
              | inr ne ↦ elim (other-caused k x e lt ne h) [
                | inl old ↦ inr (old, ne)
                | inr new ↦ inl (omega (arith, once n x p here (rel-down k x down new.1)))
              ]
            ])
            (top-more k e small) steps-more long held

        -- a leaf answers at once
        pub to-itself : (k : ℕ) (ms : List Message) (kept : List Kept) → Down k → c n ≡ k
            → p.children ≡ []
            → ms ≡ message_of (part n) n (suc k) ∷ []
            → length kept ≡ length ps
            → ((x : ℕ) → x < length ps → slice_get kept x ≡ Some (kept_after (part x) (bump c n x)))
            → Stands ps part (bump c n) (record { waiting = others ++ ms; kept = kept })
        to-itself k ms kept down e alone are long held =
            let none : (x : ℕ) → IsChild ps n x → ⊥
            = λ x child. let o : times x [] ≡ 1 = ap (times x) (sym alone) ∙ once n x p here child in omega (arith, o) in
            let small : k < 4 = elim down [ inl z ↦ omega (arith, z) | inr z ↦ omega (arith, z) ] in
            after (n ∷ []) ms kept
            (are ∙ ap (λ j. message_of (part n) n j ∷ []) (sym (now k e)))
            (λ x. elim (cases_eq n x) [
              | inl z ↦ omega (arith, one_if-same x n z)
              | inr ne ↦ omega (arith, one_if-other x n ne)
            ])
            (λ x le. let z : n ≡ x = times-one x n le in (
              subst (λ y. y < length ps) z inside,
              subst (IsCaused ps (bump c n)) z (subst (CausedAfter ps (bump c n) n) (sym (now k e)) (from-below (bump c n) (suc k) n (up-next k down) (λ y child. absurd (none y child)))),
              inl (sym z),
            ))
            (λ x lt h. elim (cases_eq x n) [
              | inl z ↦ inl (omega (arith, one_if-same x n (sym z)))
              | inr ne ↦ elim (other-caused k x e lt ne h) [
                | inl old ↦ inr (old, ne)
                | inr new ↦ absurd (none x (rel-down k x down new.1))
              ]
            ])
            (top-more k e small) steps-more long held

        -- what top gives and answers goes to the root, which tells top what to take, or is done
        pub next-of-top : (ms : List Message) (kept : List Kept) → c n ≡ 1 → n ≡ 0
            → ms ≡ message_of (part n) n 2 ∷ []
            → length kept ≡ length ps
            → ((x : ℕ) → x < length ps → slice_get kept x ≡ Some (kept_after (part x) (bump c n x)))
            → Stands ps part (bump c n) (record { waiting = others ++ ms; kept = kept })
        next-of-top ms kept e top are long held =
            after (n ∷ []) ms kept
            (are ∙ ap (λ j. message_of (part n) n j ∷ []) (sym (now 1 e)))
            (λ x. elim (cases_eq n x) [
              | inl z ↦ omega (arith, one_if-same x n z)
              | inr ne ↦ omega (arith, one_if-other x n ne)
            ])
            (λ x le. let z : n ≡ x = times-one x n le in (
              subst (λ y. y < length ps) z inside,
              subst (IsCaused ps (bump c n)) z (subst (CausedAfter ps (bump c n) n) (sym (now 1 e)) (inl top)),
              inl (sym z),
            ))
            (λ x lt h. elim (cases_eq x n) [
              | inl z ↦ inl (omega (arith, one_if-same x n (sym z)))
              | inr ne ↦ elim (other-caused 1 x e lt ne h) [
                | inl old ↦ inr (old, ne)
                | inr new ↦ let pos = (rel-up 1 x (inl refl) new.1).0 in absurd (omega (arith, pos, top))
              ]
            ])
            (top-more 1 e (omega arith)) steps-more long held

        pub end-of-top : (kept : List Kept) → c n ≡ 3 → n ≡ 0
            → length kept ≡ length ps
            → ((x : ℕ) → x < length ps → slice_get kept x ≡ Some (kept_after (part x) (bump c n x)))
            → Stands ps part (bump c n) (record { waiting = others ++ []; kept = kept })
        end-of-top kept e top long held =
            after [] [] kept refl
            (λ x. omega arith)
            (λ x le. absurd (omega (arith, le)))
            (λ x lt h. elim (cases_eq x n) [
              | inl z ↦ let mine : CausedAfter ps (bump c n) n 4 = subst (CausedAfter ps (bump c n) n) (now 3 e) (subst (IsCaused ps (bump c n)) z h) in absurd mine
              | inr ne ↦ elim (other-caused 3 x e lt ne h) [
                | inl old ↦ inr (old, ne)
                | inr new ↦ let pos = (rel-up 3 x (inr refl) new.1).0 in absurd (omega (arith, pos, top))
              ]
            ])
            (top-more 3 e (omega arith)) steps-more long held

        -- what is given and answered below top goes to the parent
        module _ (pos : 0 < n) where
          abbrev q : ℕ
          q = parent_in ps n

          mine : IsChild ps q n
          mine = (pos, inside, refl)

          parent-count : (k : ℕ) → Up k → c n ≡ k → c q ≡ k
          parent-count k up e = parent-at (c q) (c n) k (stands.in_step q n mine) e up

          not-parent : q ≡ n → ⊥
          not-parent e = let lt = lower q n mine in omega (arith, lt, e)

          done-itself : (k : ℕ) → Up k → c n ≡ k → IsCaused ps (bump c n) n → ⊥
          done-itself k (inl z) e h =
              let one : CausedAfter ps (bump c n) n 2 = subst (CausedAfter ps (bump c n) n) (now k e ∙ ap suc z) h in
              elim one [
                | inl top ↦ omega (arith, top, pos)
                | inr more ↦ omega (arith, more, bump-other c n q not-parent, parent-count k (inl z) e, z)
              ]
          done-itself k (inr z) e h = subst (CausedAfter ps (bump c n) n) (now k e ∙ ap suc z) h

          pub to-the-parent : (k : ℕ) (ms : List Message) (kept : List Kept) → Up k → c n ≡ k
              → ((m : ℕ) → IsChild ps q m → k < bump c n m)
              → ms ≡ message_of (part q) q k ∷ []
              → length kept ≡ length ps
              → ((x : ℕ) → x < length ps → slice_get kept x ≡ Some (kept_after (part x) (bump c n x)))
              → Stands ps part (bump c n) (record { waiting = others ++ ms; kept = kept })
          to-the-parent k ms kept up e ahead are long held =
              let small : k < 4 = elim up [ inl z ↦ omega (arith, z) | inr z ↦ omega (arith, z) ] in
              let same : bump c n q ≡ k = bump-other c n q not-parent ∙ parent-count k up e in
              after (q ∷ []) ms kept
              (are ∙ ap (λ j. message_of (part q) q j ∷ []) (sym same))
              (λ x. elim (cases_eq q x) [
                | inl z ↦ omega (arith, one_if-same x q z)
                | inr ne ↦ omega (arith, one_if-other x q ne)
              ])
              (λ x le. let z : q ≡ x = times-one x q le in
              let lt = lower q n mine in (
                subst (λ y. y < length ps) z (omega (arith, lt, inside)),
                subst (IsCaused ps (bump c n)) z (subst (CausedAfter ps (bump c n) q) (sym same) (from-below (bump c n) k q up ahead)),
                inr (λ h.
                    let was : CausedAfter ps c q k = subst (CausedAfter ps c q) (parent-count k up e) (subst (IsCaused ps c) (sym z) h) in
                    let d = to-below c k q up was n mine in
                    omega (arith, d, e)),
              ))
              (λ x lt h. elim (cases_eq x n) [
                | inl z ↦ absurd (done-itself k up e (subst (IsCaused ps (bump c n)) z h))
                | inr ne ↦ elim (other-caused k x e lt ne h) [
                  | inl old ↦ inr (old, ne)
                  | inr new ↦ let f = (rel-up k x up new.1).2 in inl (omega (arith, one_if-same x q f))
                ]
              ])
              (top-more k e small) steps-more long held

          pub not-yet : (k : ℕ) (kept : List Kept) → Up k → c n ≡ k
              → (((m : ℕ) → IsChild ps q m → k < bump c n m) → ⊥)
              → length kept ≡ length ps
              → ((x : ℕ) → x < length ps → slice_get kept x ≡ Some (kept_after (part x) (bump c n x)))
              → Stands ps part (bump c n) (record { waiting = others ++ []; kept = kept })
          not-yet k kept up e behind long held =
              let small : k < 4 = elim up [ inl z ↦ omega (arith, z) | inr z ↦ omega (arith, z) ] in
              let same : bump c n q ≡ k = bump-other c n q not-parent ∙ parent-count k up e in
              after [] [] kept refl
              (λ x. omega arith)
              (λ x le. absurd (omega (arith, le)))
              (λ x lt h. elim (cases_eq x n) [
                | inl z ↦ absurd (done-itself k up e (subst (IsCaused ps (bump c n)) z h))
                | inr ne ↦ elim (other-caused k x e lt ne h) [
                  | inl old ↦ inr (old, ne)
                  | inr new ↦
                      let f : x ≡ q = sym (rel-up k x up new.1).2 in
                      let g : CausedAfter ps (bump c n) q k = subst (CausedAfter ps (bump c n) q) same (subst (IsCaused ps (bump c n)) f h) in
                      absurd (behind (to-below (bump c n) k q up g))
                ]
              ])
              (top-more k e small) steps-more long held
