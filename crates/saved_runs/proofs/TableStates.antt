-- Tables keep to the states of their class.
use Rattle.std.proofs.Common.{◌≡◌, inl, inr, ℕ, ◌+◌, ◌<◌, ◌≤◌, Bool, true, false, true≢false, cond}
use Rattle.std.proofs.Common.{Option, Some, None, List, [], ◌∷◌, refl, sym, ap, subst, arith}
use Rattle.std.specs.Prelude.{◌&&◌, not, nat_lt, ℤ, pos, negsuc, if◌then◌else◌}
use Rattle.std.specs.List.{All, AllByRecursion, find, fold}
use Rattle.std.specs.Option.{unwrap_or}
use Rattle.std.proofs.lemmas.List.Elements.{All-nil, All-cons, All-head, All-tail}
use Rattle.std.proofs.lemmas.Bool.Decides.{nat_tests}
use Rattle.quantity.specs.declared.value.Value.{Value}
use Rattle.quantity.specs.declared.value.Value.TheVariants.{Undefined}
use Rattle.quantity.specs.Roots.{IsBounded}
use Rattle.atomic_face.specs.declared.class.Class.TheVariants.{Table}
use Rattle.atomic_face.specs.declared.class.PortNo.{PortNo}
use Rattle.atomic_face.specs.Words.{time_of_word, word_of, is_none_word, is_due_if, is_value_word, natural_in}
use Rattle.atomic_face.specs.Bags.{Bag, is_at}
use Rattle.atomic_face.specs.StateTable.{Hold, Take, TableState, table_settings, table_words}
use Rattle.atomic_face.specs.StateTable.{table_rules, table_input, table_internal, table_moved}
use Rattle.atomic_face.specs.StateTable.{table_start, word_at, has_hold, is_below}
use Rattle.atomic_face.specs.StateTable.{is_table, no_hold, hold_of, due_after, state_on_entry, takes}
use Rattle.atomic_face.specs.StateTable.{state_after_take}
use Rattle.run_model.proofs.Basics.{some_same, none_some}
use Rattle.saved_runs.specs.Settled.{AreSettled}
use Rattle.saved_runs.specs.Kept.{IsSmall, KeepsStates}
use Rattle.saved_runs.proofs.Words.{and-both, both-and, value-word, time-word, due-small}
use Rattle.saved_runs.proofs.Words.{value-small}
use Rattle.saved_runs.proofs.TableParts.{IsHoldTime, LeadsBelow, IsTable, known}

abbrev IsInput : PortNo × Value → Type 0
IsInput i = IsBounded i.1

found-holds : {X : Type 0} (P : X → Type 0) (test : X → Bool) (xs : List X) (x : X)
    → AllByRecursion P xs → find test xs ≡ Some x → P x
found-holds P test [] x h e = absurd (none_some e)
found-holds P test (y ∷ ys) x h e = go (test y) (λ f. found-holds P test ys x h.1 f) e
  where
    go : (b : Bool) → (find test ys ≡ Some x → P x) → cond b (Some y) (find test ys) ≡ Some x → P x
    go true later f = subst P (some_same y x f) h.0
    go false later f = later f

module _ (settings : List ℤ) (k : IsTable settings) where
  -- a state of the table, while inputs are taken
  record IsOpen (s : TableState) : Type 0 where
    pub below : s.state < k.states
    pub due : is_due_if (has_hold settings s.state) s.due ≡ true
    pub last : is_value_word s.last ≡ true

  closed : (s : TableState) → IsOpen s → is_table settings (table_words s) ≡ true
  closed s h =
      let few : s.state < natural_in (word_at settings 0) =
      subst (λ n. s.state < n) (sym k.size) h.below in
      let test : nat_lt s.state (natural_in (word_at settings 0)) ≡ true =
      is_less s.state (natural_in (word_at settings 0)) few in
      both-and (is_below settings (pos s.state) && is_due_if (has_hold settings s.state) s.due)
      (is_value_word s.last)
      (both-and (is_below settings (pos s.state)) (is_due_if (has_hold settings s.state) s.due) test
      h.due) h.last
    where
      is_less : (a b : ℕ) → a < b → nat_lt a b ≡ true
      is_less a b h = grind (arith, nat_tests)

  opened : (n : ℕ) (due last : ℤ) → is_table settings (pos n ∷ due ∷ last ∷ []) ≡ true
      → IsOpen (record { state = n; due = due; last = last })
  opened n due last h =
      let front = and-both (is_below settings (pos n) && is_due_if (has_hold settings n) due)
      (is_value_word last) h in
      let parts = and-both (is_below settings (pos n)) (is_due_if (has_hold settings n) due) front.0 in
      record {
        below = subst (λ m. n < m) k.size (less n (natural_in (word_at settings 0)) parts.0);
        due = parts.1;
        last = front.1;
      }
    where
      less : (a b : ℕ) → nat_lt a b ≡ true → a < b
      less a b h = grind (arith, nat_tests)

  -- a state that is entered is due where it has a hold
  due-is : (t : ℕ) (w : ℤ) → t ≤ 359999999 → IsHoldTime w
      → is_due_if (not (is_none_word w)) (due_after t (time_of_word w)) ≡ true
  due-is t w time (inl e) =
      subst (λ w. is_due_if (not (is_none_word w)) (due_after t (time_of_word w)) ≡ true) (sym e) refl
  due-is t w time (inr h) =
      subst (λ w. is_due_if (not (is_none_word w)) (due_after t (time_of_word w)) ≡ true) (sym h.is)
      (time-word (t + h.time) (omega (arith, h.early, time)))

  enters : (t : ℕ) (last : ℤ) (n : ℕ) → t ≤ 359999999 → n < k.states → is_value_word last ≡ true
      → IsOpen (state_on_entry (table_settings settings) t last n)
  enters t last n time below is =
      let h = k.held n below in
      let same : hold_of (table_settings settings) n ≡ h.0 = ap (λ o. unwrap_or o no_hold) h.1 in
      record {
        below = below;
        due = subst (λ (x : Hold). is_due_if (has_hold settings n) (due_after t (time_of_word x.time))
            ≡ true) (sym same)
            (subst (λ w. is_due_if (not (is_none_word w)) (due_after t (time_of_word h.0.time)) ≡ true)
            (sym h.2) (due-is t h.0.time time h.3));
        last = is;
      }

  takes-input : (t : ℕ) (s : TableState) (i : PortNo × Value) → t ≤ 359999999 → IsBounded i.1
      → IsOpen s → IsOpen (table_input (table_settings settings) t s i)
  takes-input t s i time good h =
      go (find (takes s i.0.0 (word_of i.1)) (table_settings settings).takes) refl
    where
      go : (o : Option Take) → find (takes s i.0.0 (word_of i.1)) (table_settings settings).takes
          ≡ o → IsOpen (state_after_take (table_settings settings) t s (word_of i.1) o)
      go None e = record { below = h.below; due = h.due; last = value-word i.1 good }
      go (Some x) e = enters t (word_of i.1) x.next time (found-holds (LeadsBelow k.states)
          (takes s i.0.0 (word_of i.1)) (table_settings settings).takes x k.takes e)
          (value-word i.1 good)

  takes-inputs : (t : ℕ) (s : TableState) (bag : Bag) → t ≤ 359999999 → All IsInput bag → IsOpen s
      → IsOpen (fold (table_input (table_settings settings) t) s bag)
  takes-inputs t s [] time good h = h
  takes-inputs t s (i ∷ is) time good h =
      takes-inputs t (table_input (table_settings settings) t s i) is time
      (All-tail IsInput i is good) (takes-input t s i time (All-head IsInput i is good) h)

  -- the state behind a hold
  next-below : (n : ℕ) → n < k.states → (hold_of (table_settings settings) n).next < k.states
  next-below n below = let h = k.held n below in
      subst (λ (x : Hold). x.next < k.states) (sym (ap (λ o. unwrap_or o no_hold) h.1)) h.4

  begins : (t : ℕ) (s : TableState) → t ≤ 359999999 → IsOpen s
      → IsOpen (table_internal (table_settings settings) t s)
  begins t s time h = due (is_at t (time_of_word s.due))
    where
      due : (b : Bool) → IsOpen (if b then state_on_entry (table_settings settings) t s.last
          (hold_of (table_settings settings) s.state).next else s)
      due true = enters t s.last (hold_of (table_settings settings) s.state).next time
          (next-below s.state h.below) h.last
      due false = h

  moves : (t n : ℕ) (due last : ℤ) (bag : Bag) → t ≤ 359999999 → All IsInput bag
      → is_table settings (pos n ∷ due ∷ last ∷ []) ≡ true
      → is_table settings (table_words (table_moved (table_settings settings) t (record {
        state =
            n;
        due = due;
        last = last;
      }) bag)) ≡ true
  moves t n due last bag time good h =
      let s : TableState = record { state = n; due = due; last = last } in
      closed (table_moved (table_settings settings) t s bag)
      (takes-inputs t (table_internal (table_settings settings) t s) bag time good
      (begins t s time (opened n due last h)))

  starts : is_table settings (table_words (table_start (table_settings settings))) ≡ true
  starts = closed (table_start (table_settings settings))
      (enters 0 (word_of Undefined) (table_settings settings).initial (omega arith) k.first refl)

  small : (n : ℕ) (due last : ℤ) → is_table settings (pos n ∷ due ∷ last ∷ []) ≡ true
      → All IsSmall (pos n ∷ due ∷ last ∷ [])
  small n due last h =
      let s = opened n due last h in
      All-cons IsSmall (pos n) (due ∷ last ∷ []) (omega (arith, s.below, k.few))
      (All-cons IsSmall due (last ∷ []) (due-small (has_hold settings n) due s.due)
      (All-cons IsSmall last [] (value-small last s.last) (All-nil IsSmall)))

negative : (settings : List ℤ) (n : ℕ) (due last : ℤ)
    → is_table settings (negsuc n ∷ due ∷ last ∷ []) ≡ true → ⊥
negative settings n due last h =
    let front = and-both (is_below settings (negsuc n) && is_due_if
    (has_hold settings (natural_in (negsuc n))) due) (is_value_word last) h in
    true≢false (sym (and-both (is_below settings (negsuc n))
    (is_due_if (has_hold settings (natural_in (negsuc n))) due) front.0).0)

pub tables-start : (settings : List ℤ) → AreSettled Table settings
    → is_table settings (table_rules.start settings) ≡ true
tables-start settings h = starts settings (known settings h)

pub tables-stay : KeepsStates Table
tables-stay settings [] t bag set time good h = absurd (true≢false (sym h))
tables-stay settings (n ∷ []) t bag set time good h = absurd (true≢false (sym h))
tables-stay settings (n ∷ d ∷ []) t bag set time good h = absurd (true≢false (sym h))
tables-stay settings (pos n ∷ d ∷ l ∷ []) t bag set time good h =
    moves settings (known settings set) t n d l bag time good h
tables-stay settings (negsuc n ∷ d ∷ l ∷ []) t bag set time good h =
    absurd (negative settings n d l h)
tables-stay settings (n ∷ d ∷ l ∷ w ∷ ws) t bag set time good h = absurd (true≢false (sym h))

pub tables-small : (settings state : List ℤ) → AreSettled Table settings
    → is_table settings state ≡ true → All IsSmall state
tables-small settings [] set h = absurd (true≢false (sym h))
tables-small settings (n ∷ []) set h = absurd (true≢false (sym h))
tables-small settings (n ∷ d ∷ []) set h = absurd (true≢false (sym h))
tables-small settings (pos n ∷ d ∷ l ∷ []) set h = small settings (known settings set) n d l h
tables-small settings (negsuc n ∷ d ∷ l ∷ []) set h = absurd (negative settings n d l h)
tables-small settings (n ∷ d ∷ l ∷ w ∷ ws) set h = absurd (true≢false (sym h))
