-- An event stands at the input of its number.
use Rattle.std.proofs.Common.{◌≡◌, ℕ, suc, ◌<◌, Bool, true, false, cond, ◌&&◌, eqb, eqb-true, eq-eqb, ne_eqb, ltb, lt-ltb, true≢false, Option, Some, None, List, [], ◌∷◌, map, length, refl, sym, ◌∙◌, ap, arith, rules}
use Rattle.std.specs.Prelude.{if◌then◌else◌}
use Rattle.std.specs.List.{All, filter, cons_option, position, position_or_len}
use Rattle.std.specs.Str.{bytes_eq}
use Rattle.std.proofs.lemmas.List.Quantifiers.{position-Some}
use Rattle.std.proofs.lemmas.List.Sums.{position_or_len_is}
use Rattle.std.proofs.lemmas.Slice.Eq.{bytes_eq-Decides}
use Rattle.quantity.specs.declared.value.Value.{Value}
use Rattle.cell_grid.proofs.Rising.{same_answer}
use Rattle.atomic_face.specs.Classes.{is_at}
use Rattle.model_tree.specs.Tree.{Word, ins_of}
use Rattle.run_model.specs.Run.{Event, events_at}
use Rattle.sparse_cycle.specs.Feed.{input_name, AreDistinct}
use Rattle.sparse_cycle.specs.Feed.{TopByNumber}

at-true : (t : ℕ) (o : Option ℕ) → is_at t o ≡ true → o ≡ Some t
at-true t None e = absurd (true≢false (sym e))
at-true t (Some n) e = ap Some (eqb-true n t e)

same_bytes : (xs ys : Word) → bytes_eq xs ys ≡ true → xs ≡ ys
same_bytes xs ys e = search (rules, bytes_eq-Decides)

module _ (ins : List Word) (distinct : AreDistinct ins) where
  abbrev place : Word → Option ℕ
  place name = position (λ p. bytes_eq p name) ins

  found-at : (k : ℕ) → k < length ins → place (input_name ins k) ≡ Some k
  found-at k lt =
      let test : Word → Bool = λ p. bytes_eq p (input_name ins k) in
      let first : position_or_len test ins ≡ k = position_or_len_is test ins k [] (omega arith)
      (λ j less. let apart : eqb k j ≡ false = ne_eqb k j (λ e. omega (arith, e, less)) in distinct j k (omega (arith, less, lt)) lt ∙ apart)
      (λ within. distinct k k lt lt ∙ eq-eqb k k refl) in
      let inside : ltb (position_or_len test ins) (length ins) ≡ true = ap (λ n. ltb n (length ins)) first ∙ lt-ltb k (length ins) lt in
      (λ i. cond (inside i) (Some (first i)) None)

  here-at : (name : Word) (k : ℕ) → k < length ins → bytes_eq name (input_name ins k) ≡ is_at k (place name)
  here-at name k lt =
      same_answer (bytes_eq name (input_name ins k)) (is_at k (place name))
      (λ e.
      let same : name ≡ input_name ins k = same_bytes name (input_name ins k) e in
      ap (λ n. is_at k (place n)) same ∙ ap (is_at k) (found-at k lt) ∙ eq-eqb k k refl)
      (λ e.
      let hit = position-Some (λ p. bytes_eq p name) ins k [] (at-true k (place name) e) in
      let same : input_name ins k ≡ name = same_bytes (input_name ins k) name hit.1 in
      ap (λ n. bytes_eq n (input_name ins k)) (sym same) ∙ distinct k k lt lt ∙ eq-eqb k k refl)

abbrev pair : Event → ℕ × Value
pair e = (e.port, e.value)

abbrev kept_at : List Word → Word → List Event → List Value
kept_at ins name es =
    map (λ (e : ℕ × Value). e.1) (filter (λ (e : ℕ × Value). bytes_eq name (input_name ins e.0)) (map pair es))

one-kept : (ins : List Word) (name : Word) (a h : Bool) (e : Event) (es : List Event) (rest : List Value) → bytes_eq name (input_name ins e.port) ≡ h → kept_at ins name es ≡ rest
    → kept_at ins name (cond a (e ∷ es) es) ≡ cons_option (if a && h then Some e.value else None) rest
one-kept ins name true true e es rest is so =
    (λ i. map (λ (e : ℕ × Value). e.1) (cond (is i) (pair e ∷ filter (λ (e : ℕ × Value). bytes_eq name (input_name ins e.0)) (map pair es)) (filter (λ (e : ℕ × Value). bytes_eq name (input_name ins e.0)) (map pair es))))
    ∙ ap (λ vs. e.value ∷ vs) so
one-kept ins name true false e es rest is so =
    (λ i. map (λ (e : ℕ × Value). e.1) (cond (is i) (pair e ∷ filter (λ (e : ℕ × Value). bytes_eq name (input_name ins e.0)) (map pair es)) (filter (λ (e : ℕ × Value). bytes_eq name (input_name ins e.0)) (map pair es))))
    ∙ so
one-kept ins name false h e es rest is so = so

no-event : (a : Bool) (v : Value) → cons_option (if a && false then Some v else None) [] ≡ []
no-event true v = refl
no-event false v = refl

all-kept : (ins : List Word) (name : Word) (t : ℕ) (o : Option ℕ) (es : List Event) → All (λ (e : Event). e.port < length ins) es
    → ((k : ℕ) → k < length ins → bytes_eq name (input_name ins k) ≡ is_at k o)
    → kept_at ins name (filter (λ (e : Event). eqb e.time t) es) ≡ events_at t es o
all-kept ins name t None [] within same = refl
all-kept ins name t None (e ∷ es) within same =
    one-kept ins name (eqb e.time t) false e (filter (λ (e : Event). eqb e.time t) es) [] (same e.port (within 0 e (omega arith)))
    (all-kept ins name t None es (λ k d lt. within (suc k) d (omega (arith, lt))) same)
    ∙ no-event (eqb e.time t) e.value
all-kept ins name t (Some n) [] within same = refl
all-kept ins name t (Some n) (e ∷ es) within same =
    one-kept ins name (eqb e.time t) (eqb n e.port) e (filter (λ (e : Event). eqb e.time t) es) (events_at t es (Some n)) (same e.port (within 0 e (omega arith)))
    (all-kept ins name t (Some n) es (λ k d lt. within (suc k) d (omega (arith, lt))) same)
    ∙ ap (λ b. cons_option (if eqb e.time t && b then Some e.value else None) (events_at t es (Some n))) (eqb-comm n e.port)
  where
    eqb-comm : (a b : ℕ) → eqb a b ≡ eqb b a
    eqb-comm a b = same_answer (eqb a b) (eqb b a) (λ e. eq-eqb b a (sym (eqb-true a b e))) (λ e. eq-eqb a b (sym (eqb-true b a e)))

pub top-by-number : TopByNumber
top-by-number tree t events name distinct within =
    all-kept (ins_of tree) name t (place (ins_of tree) distinct name) events within (here-at (ins_of tree) distinct name)
