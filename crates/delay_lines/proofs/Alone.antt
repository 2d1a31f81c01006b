-- Lists of one pair each, made one after another.
use Rattle.std.proofs.Common.{◌≡◌, ◌≢◌, ℕ, ◌+◌, ◌<◌, ◌≤◌, cond, eqb, List, [], ◌∷◌, ◌++◌, map, length, get_or, take, Option, Some, None, refl, sym, ◌∙◌, ap, subst, inl, inr, arith, length-append}
use Rattle.std.proofs.lemmas.Bool.{cases_eq, eq-eqb, ne_eqb}
use Rattle.std.proofs.lemmas.List.{get_or-map, get_or_append_left, get_or_at, length-map, take_more}
use Rattle.quantity.specs.declared.value.Value.{Value}
use Rattle.quantity.specs.declared.value.Value.TheVariants.{Undefined}
use Rattle.delay_lines.specs.Lists.{alone_at}
use Rattle.delay_lines.specs.Nodes.{AreAlone, AreHeld, Look, last_time, node_of}
use Rattle.delay_lines.proofs.Chains.{not_vacant}

abbrev pub with_at : (ℕ → ℕ) → ℕ → ℕ → ℕ → ℕ
with_at f k v j = cond (eqb j k) v (f j)

with-same : (f : ℕ → ℕ) (k v j : ℕ) → j ≡ k → with_at f k v j ≡ v
with-same f k v j same = ap (λ b. cond b v (f j)) (eq-eqb j k same)

with-other : (f : ℕ → ℕ) (k v j : ℕ) → (j ≡ k → ⊥) → with_at f k v j ≡ f j
with-other f k v j other = ap (λ b. cond b v (f j)) (ne_eqb j k other)

pub none-alone : (look : Look) (at : ℕ) → AreAlone look at [] []
none-alone look at = record {
  owner = λ _. 0;
  long = refl;
  key = λ _. 0;
  time = λ some. absurd (omega arith);
  names = λ cell lt. absurd (omega (arith, lt));
  holds = λ cell lt. absurd (omega (arith, lt));
  owned = λ cell lt. absurd (omega (arith, lt));
}

module _ (look after : Look) (at key : ℕ) (v : Value) (links : List (Option ℕ)) (values : List Value) (h : AreAlone look at links values) (le : at ≤ last_time)
    (vacant : look key ≡ None) (made : after key ≡ Some (node_of (at, v) None)) (kept : (other : ℕ) → other ≢ key → after other ≡ look other) where
  abbrev n : ℕ
  n = length links

  longer : length (links ++ Some key ∷ []) ≡ n + 1
  longer = omega (arith, length-append links (Some key ∷ []))

  before : (cell : ℕ) → cell < length (links ++ Some key ∷ []) → (cell ≡ n → ⊥) → cell < n
  before cell lt other = omega (arith, longer, lt, other)

  -- one value more
  pub one-more : AreAlone after at (links ++ Some key ∷ []) (values ++ v ∷ [])
  one-more = record {
    owner = with_at h.owner key n;
    long = longer ∙ ap (λ m. m + 1) h.long ∙ sym (length-append values (v ∷ []));
    key = with_at h.key n key;
    time = λ some. le;
    names = λ cell lt.
        elim (cases_eq cell n) as (λ _. get_or (links ++ Some key ∷ []) cell None ≡ Some (with_at h.key n key cell)) [
          | inl same ↦ get_or_at links (Some key) [] None cell (sym same) ∙ ap Some (sym (with-same h.key n key cell same))
          | inr other ↦
              get_or_append_left links (Some key ∷ []) None cell (before cell lt other)
              ∙ h.names cell (before cell lt other) ∙ ap Some (sym (with-other h.key n key cell other))
        ];
    holds = λ cell lt.
        elim (cases_eq cell n) as (λ _. after (with_at h.key n key cell) ≡ Some (node_of (at, get_or (values ++ v ∷ []) cell Undefined) None)) [
          | inl same ↦
              ap after (with-same h.key n key cell same) ∙ made
              ∙ ap (λ (x : Value). Some (node_of (at, x) None)) (sym (get_or_at values v [] Undefined cell (omega (arith, same, h.long))))
          | inr other ↦
              let there = h.holds cell (before cell lt other) in
              ap after (with-other h.key n key cell other)
              ∙ kept (h.key cell) (not_vacant look key (h.key cell) _ vacant there) ∙ there
              ∙ ap (λ (x : Value). Some (node_of (at, x) None)) (sym (get_or_append_left values (v ∷ []) Undefined cell (omega (arith, before cell lt other, h.long))))
        ];
    owned = λ cell lt.
        elim (cases_eq cell n) as (λ _. with_at h.owner key n (with_at h.key n key cell) ≡ cell) [
          | inl same ↦ ap (with_at h.owner key n) (with-same h.key n key cell same) ∙ with-same h.owner key n key refl ∙ sym same
          | inr other ↦
              ap (with_at h.owner key n) (with-other h.key n key cell other)
              ∙ with-other h.owner key n (h.key cell) (not_vacant look key (h.key cell) _ vacant (h.holds cell (before cell lt other)))
              ∙ h.owned cell (before cell lt other)
        ];
  }

-- the same where the values are the first of a list
pub next-alone : (look after : Look) (at key i : ℕ) (v : Value) (links more : List (Option ℕ)) (values : List Value) → i < length values → v ≡ get_or values i v → AreAlone look at links (take i values) → at ≤ last_time
    → look key ≡ None → after key ≡ Some (node_of (at, v) None) → ((other : ℕ) → other ≢ key → after other ≡ look other) → more ≡ links ++ Some key ∷ [] → AreAlone after at more (take (i + 1) values)
next-alone look after at key i v links more values lt is h le vacant made kept added =
    subst (λ (ls : List (Option ℕ)). AreAlone after at ls (take (i + 1) values)) (sym added)
    (subst (λ (vs : List Value). AreAlone after at (links ++ Some key ∷ []) vs) (ap (λ (x : Value). take i values ++ x ∷ []) is ∙ sym (take_more values i v lt))
    (one-more look after at key v links (take i values) h le vacant made kept))

pub held-alone : (look : Look) (at : ℕ) (links : List (Option ℕ)) (values : List Value) → AreAlone look at links values → AreHeld look links links (map (alone_at at) values)
held-alone look at links values h =
    let listed : (cell : ℕ) → cell < length links → get_or (map (alone_at at) values) cell [] ≡ (at, get_or values cell Undefined) ∷ [] =
    λ cell lt. get_or-map (alone_at at) values cell Undefined [] (omega (arith, lt, h.long)) in
    record {
      laid = record {
        owner = h.owner;
        count = length-map values (alone_at at) ∙ sym h.long;
        chains = λ cell lt.
            rw (listed cell lt) (record {
              path = (h.key cell, None, record { names = h.names cell lt; holds = h.holds cell lt }, h.owned cell lt, refl);
              rising = tt;
              times = (h.time (omega (arith, lt, h.long)), tt);
            });
      };
      many = refl;
      ends = λ cell lt. rw (listed cell lt) refl;
    }
