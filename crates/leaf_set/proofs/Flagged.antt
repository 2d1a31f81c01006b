-- Flags that are joined with others, from the first on.
use Rattle.std.proofs.Common.{◌≡◌, ℕ, ◌+◌, ◌<◌, ◌≤◌, Bool, true, false, ◌||◌, List, length, set, refl, sym, ◌∙◌, ap, inl, inr, arith, get_or-set_same, get_or-set_other}
use Rattle.std.proofs.lemmas.Bool.{cases_eq, cases_lt}
use Rattle.std.proofs.lemmas.List.{get_or_past}
use Rattle.leaf_set.specs.Members.{is_in, JoinsOne}

pub one-set : (flags : List Bool) (leaf : ℕ) → leaf < length flags → JoinsOne flags (set flags leaf true) leaf true
one-set flags leaf within = record {
  there = get_or-set_same flags leaf true false within ∙ sym (or-true (is_in flags leaf));
  elsewhere = λ k other. get_or-set_other flags leaf k true false other;
}
  where
    or-true : (b : Bool) → (b || true) ≡ true
    or-true true = refl
    or-true false = refl

or-false : (b : Bool) → (b || false) ≡ b
or-false true = refl
or-false false = refl

pub none-set : (flags : List Bool) (leaf : ℕ) → JoinsOne flags flags leaf false
none-set flags leaf = record { there = sym (or-false (is_in flags leaf)); elsewhere = λ k other. refl }

module _ (old more now new : List Bool) (leaf : ℕ) where
  pub one-joined : ((k : ℕ) → k < leaf → is_in now k ≡ (is_in old k || is_in more k)) → ((k : ℕ) → leaf ≤ k → is_in now k ≡ is_in old k)
      → JoinsOne now new leaf (is_in more leaf) → (k : ℕ) → k < leaf + 1 → is_in new k ≡ (is_in old k || is_in more k)
  one-joined joined left one k lt =
      elim (cases_eq k leaf) as (λ _. is_in new k ≡ (is_in old k || is_in more k)) [
        | inl same ↦
            ap (is_in new) same ∙ one.there ∙ ap (λ b. b || is_in more leaf) (left leaf (omega arith))
            ∙ ap (λ j. is_in old j || is_in more j) (sym same)
        | inr other ↦ one.elsewhere k other ∙ joined k (omega (arith, lt, other))
      ]

  pub one-left : ((k : ℕ) → leaf ≤ k → is_in now k ≡ is_in old k) → JoinsOne now new leaf (is_in more leaf) → (k : ℕ) → leaf + 1 ≤ k → is_in new k ≡ is_in old k
  one-left left one k le = one.elsewhere k (λ same. omega (arith, le, same)) ∙ left k (omega (arith, le))

pub all-joined : (old more now : List Bool) (leaf : ℕ) → ((k : ℕ) → k < leaf → is_in now k ≡ (is_in old k || is_in more k)) → ((k : ℕ) → leaf ≤ k → is_in now k ≡ is_in old k)
    → length more ≤ leaf → (k : ℕ) → is_in now k ≡ (is_in old k || is_in more k)
all-joined old more now leaf joined left long k =
    elim (cases_lt k leaf) as (λ _. is_in now k ≡ (is_in old k || is_in more k)) [
      | inl lt ↦ joined k lt
      | inr le ↦ left k le ∙ sym (or-false (is_in old k)) ∙ ap (λ b. is_in old k || b) (sym (get_or_past more k false (omega (arith, le, long))))
    ]
