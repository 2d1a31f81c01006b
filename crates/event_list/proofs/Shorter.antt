-- Events in front, taken off a list that rises.
use Rattle.std.proofs.Common.{◌≡◌, ℕ, ◌+◌, ◌<◌, ◌≤◌, ◌==◌, Bool, true, false, cond, not, List, [], ◌∷◌, refl, sym, ap, ◌∙◌, suc, arith, length, take, drop, get_or, map, nat_le, nat_lt, le_refl, subst}
use Rattle.std.proofs.lemmas.Bool.Decides.{nat_tests}
use Rattle.std.proofs.lemmas.List.{drop-drop, get_or-drop, get_or-map, length-drop, length-map}
use Rattle.std.proofs.lemmas.List.Sorted.{IsNonDecreasingBy-drop}
use Rattle.std.specs.List.{All, filter, prefix_len}
use Rattle.std.specs.List.Sorted.{IsNonDecreasingBy}
use Rattle.event_list.specs.declared.event.Event as kept
use Rattle.event_list.specs.Events.{Event}
use Rattle.event_list.specs.Shown.{plain_event, time_of}
use Rattle.event_list.proofs.Sorting.{From, From-all, Rises, Rises-indexed}

one_more : (n : ℕ) → 1 + n ≡ suc n
one_more n = omega arith

-- ---- what stands in front

abbrev pub until : ℕ → kept.Event → Bool
until t e = nat_le (time_of e) t

none_until : (t s : ℕ) (es : List kept.Event) → t < s → From time_of s es → filter (until t) es ≡ []
none_until t s [] lt h = refl
none_until t s (e ∷ es) lt h =
    let first = h.0 in
    let after : until t e ≡ false = grind (arith, nat_tests) in
    ap (λ b. cond b (e ∷ filter (until t) es) (filter (until t) es)) after ∙ none_until t s es lt h.1

all_after : (t s : ℕ) (es : List kept.Event) → t < s → From time_of s es → filter (λ e. nat_lt t (time_of e)) es ≡ es
all_after t s [] lt h = refl
all_after t s (e ∷ es) lt h =
    let first = h.0 in
    let after : nat_lt t (time_of e) ≡ true = grind (arith, nat_tests) in
    ap (λ b. cond b (e ∷ filter (λ v. nat_lt t (time_of v)) es) (filter (λ v. nat_lt t (time_of v)) es)) after ∙ ap (λ l. e ∷ l) (all_after t s es lt h.1)

pub filter-until : (t : ℕ) (es : List kept.Event) → Rises time_of es → filter (until t) es ≡ take (prefix_len (until t) es) es
filter-until t [] r = refl
filter-until t (e ∷ es) r = by (until t e) refl (filter-until t es r.1)
  where
    by : (b : Bool) → until t e ≡ b → filter (until t) es ≡ take (prefix_len (until t) es) es
        → cond b (e ∷ filter (until t) es) (filter (until t) es) ≡ take (cond b (1 + prefix_len (until t) es) 0) (e ∷ es)
    by true f rest = ap (λ l. e ∷ l) rest ∙ ap (λ k. take k (e ∷ es)) (sym (one_more (prefix_len (until t) es)))
    by false f rest = let lt : t < time_of e = grind (arith, nat_tests) in none_until t (time_of e) es lt r.0

pub filter-after : (t : ℕ) (es : List kept.Event) → Rises time_of es → filter (λ e. nat_lt t (time_of e)) es ≡ drop (prefix_len (until t) es) es
filter-after t [] r = refl
filter-after t (e ∷ es) r = by (until t e) refl (filter-after t es r.1)
  where
    by : (b : Bool) → until t e ≡ b → filter (λ v. nat_lt t (time_of v)) es ≡ drop (prefix_len (until t) es) es
        → filter (λ v. nat_lt t (time_of v)) (e ∷ es) ≡ drop (cond b (1 + prefix_len (until t) es) 0) (e ∷ es)
    by true f rest =
        let before : nat_lt t (time_of e) ≡ false = grind (arith, nat_tests) in
        ap (λ b. cond b (e ∷ filter (λ v. nat_lt t (time_of v)) es) (filter (λ v. nat_lt t (time_of v)) es)) before
        ∙ rest ∙ ap (λ k. drop k (e ∷ es)) (sym (one_more (prefix_len (until t) es)))
    by false f rest = let lt : t < time_of e = grind (arith, nat_tests) in all_after t (time_of e) (e ∷ es) lt (le_refl (time_of e), r.0)

-- ---- where no event is before a time, those until it are those of it

pub filter-at : (t : ℕ) (es : List kept.Event) → From time_of t es → filter (λ e. time_of e == t) es ≡ filter (until t) es
filter-at t [] h = refl
filter-at t (e ∷ es) h =
    let first = h.0 in
    ap (λ b. cond b (e ∷ filter (λ v. time_of v == t) es) (filter (λ v. time_of v == t) es)) (by (time_of e == t) (until t e) refl refl first)
    ∙ ap (λ l. cond (until t e) (e ∷ l) l) (filter-at t es h.1)
  where
    by : (a b : Bool) → (time_of e == t) ≡ a → until t e ≡ b → t ≤ time_of e → a ≡ b
    by true true f g le = refl
    by false false f g le = refl
    by true false f g le = absurd (let x : ⊥ = grind (arith, nat_tests) in x)
    by false true f g le = absurd (let x : ⊥ = grind (arith, nat_tests) in x)

pub filter-not_at : (t : ℕ) (es : List kept.Event) → From time_of t es → filter (λ e. not (time_of e == t)) es ≡ filter (λ e. nat_lt t (time_of e)) es
filter-not_at t [] h = refl
filter-not_at t (e ∷ es) h =
    let first = h.0 in
    ap (λ b. cond b (e ∷ filter (λ v. not (time_of v == t)) es) (filter (λ v. not (time_of v == t)) es)) (by (time_of e == t) (nat_lt t (time_of e)) refl refl first)
    ∙ ap (λ l. cond (nat_lt t (time_of e)) (e ∷ l) l) (filter-not_at t es h.1)
  where
    by : (a b : Bool) → (time_of e == t) ≡ a → nat_lt t (time_of e) ≡ b → t ≤ time_of e → not a ≡ b
    by true false f g le = refl
    by false true f g le = refl
    by true true f g le = absurd (let x : ⊥ = grind (arith, nat_tests) in x)
    by false false f g le = absurd (let x : ⊥ = grind (arith, nat_tests) in x)

-- ---- seen from outside

pub filter-shown : (p : Event → Bool) (es : List kept.Event) → filter p (map plain_event es) ≡ map plain_event (filter (λ e. p (plain_event e)) es)
filter-shown p [] = refl
filter-shown p (e ∷ es) = by (p (plain_event e)) (filter-shown p es)
  where
    by : (b : Bool) → filter p (map plain_event es) ≡ map plain_event (filter (λ v. p (plain_event v)) es)
        → cond b (plain_event e ∷ filter p (map plain_event es)) (filter p (map plain_event es)) ≡ map plain_event (cond b (e ∷ filter (λ v. p (plain_event v)) es) (filter (λ v. p (plain_event v)) es))
    by true rest = ap (λ l. plain_event e ∷ l) rest
    by false rest = rest

shown_from : (t : ℕ) (es : List kept.Event) → All (λ (e : Event). t ≤ e.time) (map plain_event es) → From time_of t es
shown_from t es h = From-all time_of t es (λ k d lt. by k d (h k (plain_event d)) lt)
  where
    by : (k : ℕ) (d : kept.Event) → (k < length (map plain_event es) → t ≤ (get_or (map plain_event es) k (plain_event d)).time) → k < length es → t ≤ time_of (get_or es k d)
    by k d f lt =
        let short : k < length (map plain_event es) = omega (arith, length-map es plain_event) in
        let time : (get_or (map plain_event es) k (plain_event d)).time ≡ time_of (get_or es k d) = ap (λ (e : Event). e.time) (get_or-map plain_event es k d (plain_event d) lt) in
        omega (arith, f short)

-- the events of this time, and those that are left, where none is before it
pub taken_at : (t gone count : ℕ) (es : List kept.Event) → IsNonDecreasingBy time_of es → All (λ (e : Event). t ≤ e.time) (map plain_event (drop gone es)) → count ≡ prefix_len (until t) (drop gone es)
    → filter (λ (e : Event). e.time == t) (map plain_event (drop gone es)) ≡ map plain_event (take count (drop gone es))
taken_at t gone count es up h f =
    let left = drop gone es in
    filter-shown (λ e. e.time == t) left
    ∙ ap (map plain_event) (filter-at t left (shown_from t left h)
    ∙ filter-until t left (Rises-indexed time_of left (IsNonDecreasingBy-drop time_of gone es up))
    ∙ ap (λ k. take k left) (sym f))

pub skipped : (t gone count : ℕ) (es : List kept.Event) → IsNonDecreasingBy time_of es → count ≡ prefix_len (until t) (drop gone es)
    → filter (λ (e : Event). nat_lt t e.time) (map plain_event (drop gone es)) ≡ map plain_event (drop (gone + count) es)
skipped t gone count es up f =
    let left = drop gone es in
    filter-shown (λ e. nat_lt t e.time) left
    ∙ ap (map plain_event) (filter-after t left (Rises-indexed time_of left (IsNonDecreasingBy-drop time_of gone es up))
    ∙ ap (λ k. drop k left) (sym f) ∙ drop-drop count gone es)

pub left_after : (t gone count : ℕ) (es : List kept.Event) → IsNonDecreasingBy time_of es → All (λ (e : Event). t ≤ e.time) (map plain_event (drop gone es)) → count ≡ prefix_len (until t) (drop gone es)
    → filter (λ (e : Event). not (e.time == t)) (map plain_event (drop gone es)) ≡ map plain_event (drop (gone + count) es)
left_after t gone count es up h f =
    let left = drop gone es in
    filter-shown (λ e. not (e.time == t)) left
    ∙ ap (map plain_event) (filter-not_at t left (shown_from t left h))
    ∙ sym (filter-shown (λ e. nat_lt t e.time) left)
    ∙ skipped t gone count es up f

least_by : (gone : ℕ) (es : List kept.Event) (e : kept.Event) → IsNonDecreasingBy time_of es → gone < length es → e ≡ get_or es gone e
    → (k : ℕ) (d : Event) → k < length (map plain_event (drop gone es)) → time_of e ≤ (get_or (map plain_event (drop gone es)) k d).time
least_by gone es e up within f k d lt =
    let short : k < length (drop gone es) = omega (arith, length-map (drop gone es) plain_event) in
    let last : gone + k < length es = omega (arith, length-drop gone es) in
    let is : (get_or (map plain_event (drop gone es)) k d).time ≡ time_of (get_or es (gone + k) e) = ap (λ (v : Event). v.time) (get_or-map plain_event (drop gone es) k e d short) ∙ ap time_of (get_or-drop gone es k e) in
    let first : time_of e ≡ time_of (get_or es gone e) = ap time_of f in
    omega (arith, up gone (gone + k) e (omega arith) last)

pub first_is_least : (gone : ℕ) (es : List kept.Event) (e : kept.Event) (seen : List Event) → seen ≡ map plain_event (drop gone es) → IsNonDecreasingBy time_of es → gone < length es → e ≡ get_or es gone e
    → (k : ℕ) (d : Event) → k < length seen → time_of e ≤ (get_or seen k d).time
first_is_least gone es e seen same up within f =
    let P : List Event → Type 0 = λ s. (k : ℕ) (d : Event) → k < length s → time_of e ≤ (get_or s k d).time in
    subst P (sym same) (least_by gone es e up within f)
