-- Sights that show the same own value and counts are answered alike.
use Rattle.std.proofs.Common.{true, set, replicate, inl, inr, refl, subst, Option, None, ◌≡◌, ℕ, ◌<◌, ◌≤◌, Some, List, [], map, length, get_or, pos, sym, ◌∙◌, ap, arith, Ok}
use Rattle.std.proofs.lemmas.Int.{ints}
use Rattle.std.specs.Borrow.{Bor}
use Rattle.std.specs.Prelude.{◌&&◌, ◌==◌, IfSome}
use Rattle.std.specs.List.{All}
use Rattle.std.proofs.lemmas.Bool.{cases_eq}
use Rattle.std.proofs.lemmas.List.{length-map, length-set, length-replicate, get_or-map, get_or-replicate, get_or-set_same, get_or-set_other, nil_from_length}
use Rattle.std.proofs.lemmas.Option.{unwrap_or-slice_get}
use Rattle.quantity.specs.declared.value.Value.{Value}
use Rattle.quantity.specs.declared.value.Value.TheVariants.{Undefined}
use Rattle.rule_tree.specs.declared.node.Count.{Count}
use Rattle.rule_tree.specs.declared.node.Count.TheVariants.{Ones, Zeros, Undefs}
use Rattle.rule_tree.specs.Expression.{Rule}
use Rattle.rule_tree.specs.Chosen.{outcome_of_rules}
use Rattle.rule_tree.specs.Meaning.{Sight, value_at, outs, neighbour_count}
use Rattle.rule_forms.specs.ByPort.{Evaluates}
use Rattle.rule_forms.specs.declared.known.Constant.{Constant}
use Rattle.rule_eval.specs.declared.tally.Tally.{Tally}
use Rattle.rule_eval.specs.Few.{Agree, GoByFew}
use Rattle.rule_eval.specs.Sums.{port_value_at}
use Rattle.rule_eval.specs.Tallies.{IsTally}
use Rattle.cell_grid.specs.Space.{Space, cell_count, place_of, neighbour}
use Rattle.cell_grid.specs.Watched.{IsInside}
use Rattle.cell_grid.proofs.Places.{number-of_place, place-inside}
use Rattle.cell_reach.specs.Neighbourhoods.{neighbours, StaysInside, difference}
use Rattle.cell_reach.proofs.Differences.{leads_to_further}
use Rattle.cell_table.specs.Table.{Table, IsTable}
use Rattle.cell_table.specs.Told.{no_cell, cell_at, values_emitted}
use Rattle.cell_engine.specs.declared.memo.Known.{Known}
use Rattle.cell_engine.specs.Layout.{Layout}
use Rattle.cell_engine.specs.Step.{near, given_by, sees}
use Rattle.cell_engine.specs.Tallied.{last_value_shown}
use Rattle.cell_engine.proofs.Shown.{same_numbers}
use Rattle.cell_engine.specs.Known.{no_offset, seen_at, IsOwn, IsAlike, SeesFew, AlwaysGive, IsAnswer, IsMemo}

-- ---- the own value

itself : (s : Space) (i : ℕ) → i < cell_count s → neighbour s i no_offset ≡ Some i
itself s i here =
    let p = place_of s i in
    let inside : IsInside s p = place-inside s i here in
    let stays : StaysInside s p no_offset = (
      (omega (arith, ints), omega (arith, ints, inside.0)),
      (omega (arith, ints), omega (arith, ints, inside.1)),
      (omega (arith, ints), omega (arith, ints, inside.2)),
    ) in
    let leads = leads_to_further s p no_offset stays in
    let far : difference s no_offset ≡ pos 0 = omega (arith, ints) in
    let lands : leads.to ≡ i = omega (arith, ints, leads.is, far, number-of_place s i) in
    leads.neighbour ∙ ap Some lands

pub own_seen : (l : Layout) (t : Table) (i own : ℕ) → IsOwn l.offsets own → i < cell_count l.space → port_value_at (map (given_by t) (neighbours (near l) i)) own 0 ≡ last_value_shown (cell_at t.cells i)
own_seen l t i own is here =
    let os = neighbours (near l) i in
    let inside : own < length os = omega (arith, is.within, length-map l.offsets (neighbour l.space i)) in
    let at : get_or os own None ≡ Some i = get_or-map (neighbour l.space i) l.offsets own no_offset None is.within ∙ ap (neighbour l.space i) is.here ∙ itself l.space i here in
    ap (λ (vs : List Value). value_at vs 0)
    (unwrap_or-slice_get (map (given_by t) os) own [] ∙ get_or-map (given_by t) os own None [] inside ∙ ap (given_by t) at)
    ∙ unwrap_or-slice_get (values_emitted (cell_at t.cells i)) 0 Undefined

-- ---- answers

same_counts : (t : Tally) (vs ws : List Value) → IsTally t vs → IsTally t ws → (c : Count) → neighbour_count c vs ≡ neighbour_count c ws
same_counts t vs ws a b Ones = sym a.ones ∙ b.ones
same_counts t vs ws a b Zeros = sym a.zeros ∙ b.zeros
same_counts t vs ws a b Undefs = sym a.undefs ∙ b.undefs

agree : (own : ℕ) (v : Value) (t : Tally) (s r : Sight) → SeesFew own v t s → SeesFew own v t r → Agree own s r
agree own v t s r a b =
    record {
      own_value = a.own_value ∙ sym b.own_value;
      counts = same_counts t (outs s) (outs r) a.counts b.counts;
      variables = a.variables ∙ sym b.variables;
    }

-- what was given over one such sight is given over each
pub always_give : (own : ℕ) (rules : List Rule) (v : Value) (t : Tally) (c : Constant) (s : Sight) → GoByFew own rules → SeesFew own v t s → c.delay ≤ 359999999
    → Evaluates (outcome_of_rules rules s) (Ok (c.given, c.delay)) [] → AlwaysGive own rules v t c
always_give own rules v t c s few sees bounded given =
    record {
      bounded = bounded;
      given = λ r other. few s r (agree own v t s r sees other) (Ok (c.given, c.delay)) [] given;
    }

-- what rules gave over a sight is an answer, where they go by few
pub learnt : (l : Layout) (own : ℕ) (rules : List Rule) (v : Value) (t : Tally) (o : Option Constant) (s : Sight) → rules ≡ get_or l.rule_sets 0 [] → IsAlike l own → SeesFew own v t s
    → IfSome o (λ c. c.delay ≤ 359999999) → IfSome o (λ c. Evaluates (outcome_of_rules rules s) (Ok (c.given, c.delay)) s.variables)
    → IfSome o (AlwaysGive own (get_or l.rule_sets 0 []) v t)
learnt l own rules v t None s are alike few bounded given = tt
learnt l own rules v t (Some c) s are alike few bounded given =
    let first = get_or l.rule_sets 0 [] in
    always_give own first v t c s alike.few few bounded
    (subst (λ (rs : List Rule). Evaluates (outcome_of_rules rs s) (Ok (c.given, c.delay)) []) are
    (subst (λ (xs : List Value). Evaluates (outcome_of_rules rules s) (Ok (c.given, c.delay)) xs) few.variables given))

pub same_tally : (a b : Tally) → ((a.ones == b.ones) && (a.zeros == b.zeros) && (a.undefs == b.undefs)) ≡ true → a ≡ b
same_tally a b h =
    let same = same_numbers a b h in
    λ k. record { ones = same.0 k; zeros = same.1 k; undefs = same.2 k }

-- what a cell sees that has no variables
pub sees_few : (l : Layout) (time own i : ℕ) (t : Table) (v : Value) (k : Tally) → IsTable t → i < length t.cells → length t.cells ≡ cell_count l.space → t.variables ≡ 0 → IsOwn l.offsets own → v ≡ last_value_shown (cell_at t.cells i)
    → IsTally k (outs (sees l time t i)) → SeesFew own v k (seen_at (sees l time t i) (cell_at t.cells i).variables)
sees_few l time own i t v k is here many none own_is shows tally =
    let inside : i < cell_count l.space = omega (arith, here, many) in
    record {
      own_value = own_seen l t i own own_is inside ∙ sym shows;
      counts = tally;
      variables = no_variables t i is here none;
    }
  where
    no_variables : (t : Table) (i : ℕ) → IsTable t → i < length t.cells → t.variables ≡ 0 → (cell_at t.cells i).variables ≡ []
    no_variables t i is here none = nil_from_length (cell_at t.cells i).variables ((is.numbers i no_cell here).1 ∙ none)

-- what is lent is what is kept
pub as_made : (o : Option Constant) (r : Option (Bor Constant)) (P : Constant → Type 0) → IfSome r (λ c. o ≡ Some c.now) → IfSome o P → IfSome r (λ c. P c.now)
as_made o None P is so = tt
as_made o (Some c) P is so = subst (λ (k : Option Constant). IfSome k P) is so

-- ---- places

all_set : {A : Type 0} (P : A → Type 0) (xs : List A) (i : ℕ) (y : A) → All P xs → P y → All P (set xs i y)
all_set P xs i y each own k d lt =
    let inside : k < length xs = omega (arith, lt, length-set xs i y) in
    elim (cases_eq k i) [
      | inl at ↦ subst P (sym (get_or-set_same xs k y d inside) ∙ ap (λ (j : ℕ). get_or (set xs j y) k d) at) own
      | inr apart ↦ subst P (sym (get_or-set_other xs i k y d apart)) (each k d inside)
    ]

-- an answer more
pub memo_more : (l : Layout) (own i : ℕ) (known : List Known) (k : Known) → IsMemo l own known → IsAnswer own (get_or l.rule_sets 0 []) k → IsMemo l own (set known i k)
memo_more l own i known k memo answer =
    record {
      alike = λ some. memo.alike (omega (arith, some, length-set known i k));
      each = all_set (IsAnswer own (get_or l.rule_sets 0 [])) known i k memo.each answer;
    }

-- nothing is kept at first
pub memo_starts : (l : Layout) (own count : ℕ) (known : List Known) (k : Known) → known ≡ replicate count k → k.made ≡ None → (0 < count → IsAlike l own) → IsMemo l own known
memo_starts l own count known k is nothing alike =
    let long : length known ≡ count = ap length is ∙ length-replicate count k in
    let free : IsAnswer own (get_or l.rule_sets 0 []) k = subst (λ (o : Option Constant). IfSome o (AlwaysGive own (get_or l.rule_sets 0 []) k.own k.tally)) (sym nothing) tt in
    record {
      alike = λ some. alike (omega (arith, some, long));
      each = λ j d lt. subst (λ (x : Known). IsAnswer own (get_or l.rule_sets 0 []) x)
          (sym (ap (λ (xs : List Known). get_or xs j d) is ∙ get_or-replicate count j k d (omega (arith, lt, long)))) free;
    }
