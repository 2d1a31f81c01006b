-- The events of an accepted file are bounded.
use Rattle.std.proofs.Common.{◌≡◌, ℕ, ◌<◌, Bool, true, false, cond, Option, Some, None, List, [], ◌∷◌, length, refl, subst}
use Rattle.std.specs.Prelude.{nat_le}
use Rattle.std.specs.List.{All, filter_map, cons_option, position}
use Rattle.std.specs.Result.{result_ok}
use Rattle.std.specs.declared.result.Result.{Result}
use Rattle.std.specs.declared.result.Result.TheVariants.{Ok, Err}
use Rattle.std.proofs.lemmas.List.Quantifiers.{position-Some}
use Rattle.std.proofs.lemmas.List.Elements.{All-nil, All-cons, All-head, All-tail, All-weaker}
use Rattle.std.specs.Str.{bytes_eq}
use Rattle.quantity.specs.declared.value.Value.{Value}
use Rattle.quantity.specs.Roots.{IsBounded}
use Rattle.quantity.specs.Bytes.{Bytes, words}
use Rattle.quantity.specs.Names.{is_name}
use Rattle.quantity.specs.Times.{time_in}
use Rattle.quantity.specs.TimeBounds.{IsDelay}
use Rattle.quantity.specs.Literals.{value_in}
use Rattle.source_text.specs.Lines.{Line, filled_lines, in_lower_case}
use Rattle.event_list.specs.declared.refusal.EventRefusal.{EventRefusal}
use Rattle.event_list.specs.Events.{Event, event_of, event_of_words, event_at, file_refused, put_event, by_time, events_of}
use Rattle.answer_model.specs.AcceptedRuns.{EventsAreBounded, EventsAreAtPorts}
use Rattle.run_model.proofs.BoundedTexts.{value_bounded, time_early}
use Rattle.run_model.proofs.Basics.{none_some, some_same}

abbrev Fits : List Bytes → Event → Type 0
Fits ports e = IsBounded e.value × IsDelay e.time × (e.port < length ports)

ok_same : {A E : Type 0} (x y : A) → ◌≡◌ {A = Result A E} (Ok x) (Ok y) → x ≡ y
ok_same x y e = cc

made_fits : (ports : List Bytes) (line : ℕ) (t : Option ℕ) (v : Option Value) (b : Bool) (port : Option ℕ) (e : Event) → ((n : ℕ) → t ≡ Some n → IsDelay n) → ((w : Value) → v ≡ Some w → IsBounded w) → ((k : ℕ) → port ≡ Some k → k < length ports) → result_ok (event_of line t v b port) ≡ Some e → Fits ports e
made_fits ports line None v b port e ht hv hp h = absurd (none_some h)
made_fits ports line (Some t) None b port e ht hv hp h = absurd (none_some h)
made_fits ports line (Some t) (Some v) false port e ht hv hp h = absurd (none_some h)
made_fits ports line (Some t) (Some v) true None e ht hv hp h = absurd (none_some h)
made_fits ports line (Some t) (Some v) true (Some port) e ht hv hp h =
    let made : Event = record { time = t; port = port; value = v } in
    subst (Fits ports) (some_same made e h) (hv v refl, ht t refl, hp port refl)

words_fit : (ports : List Bytes) (line : ℕ) (texts : List Bytes) (e : Event) → result_ok (event_of_words ports line texts) ≡ Some e → Fits ports e
words_fit ports line [] e h = absurd (none_some h)
words_fit ports line (a ∷ []) e h = absurd (none_some h)
words_fit ports line (a ∷ b ∷ []) e h = absurd (none_some h)
words_fit ports line (a ∷ b ∷ c ∷ []) e h =
    made_fits ports line (time_in a) (value_in c) (is_name (in_lower_case b)) (position (bytes_eq (in_lower_case b)) ports) e (time_early a) (value_bounded c)
    (λ k f. (position-Some (bytes_eq (in_lower_case b)) ports k [] f).0) h
words_fit ports line (a ∷ b ∷ c ∷ d ∷ ds) e h = absurd (none_some h)

read_fit : (ports : List Bytes) (ls : List Line) → All (Fits ports) (filter_map (λ l. result_ok (event_at ports l)) ls)
read_fit ports [] = All-nil (Fits ports)
read_fit ports (l ∷ ls) = go (result_ok (event_at ports l)) refl (read_fit ports ls)
  where
    go : (o : Option Event) → result_ok (event_at ports l) ≡ o → All (Fits ports) (filter_map (λ l. result_ok (event_at ports l)) ls) → All (Fits ports) (cons_option o (filter_map (λ l. result_ok (event_at ports l)) ls))
    go None e rest = rest
    go (Some x) e rest = All-cons (Fits ports) x (filter_map (λ l. result_ok (event_at ports l)) ls) (words_fit ports l.number (words l.text) x e) rest

put_fits : (ports : List Bytes) (e : Event) (xs : List Event) → Fits ports e → All (Fits ports) xs → All (Fits ports) (put_event e xs)
put_fits ports e [] h hs = All-cons (Fits ports) e [] h (All-nil (Fits ports))
put_fits ports e (x ∷ xs) h hs = go (nat_le e.time x.time) (put_fits ports e xs h (All-tail (Fits ports) x xs hs))
  where
    go : (b : Bool) → All (Fits ports) (put_event e xs) → All (Fits ports) (cond b (e ∷ x ∷ xs) (x ∷ put_event e xs))
    go true rest = All-cons (Fits ports) e (x ∷ xs) h hs
    go false rest = All-cons (Fits ports) x (put_event e xs) (All-head (Fits ports) x xs hs) rest

sorted_fit : (ports : List Bytes) (es : List Event) → All (Fits ports) es → All (Fits ports) (by_time es)
sorted_fit ports [] h = All-nil (Fits ports)
sorted_fit ports (e ∷ es) h = put_fits ports e (by_time es) (All-head (Fits ports) e es h) (sorted_fit ports es (All-tail (Fits ports) e es h))

abbrev read_events : Bytes → List Bytes → List Event
read_events bytes ports = by_time (filter_map (λ l. result_ok (event_at ports l)) (filled_lines bytes))

all_fit : (bytes : Bytes) (ports : List Bytes) (events : List Event) → events_of bytes ports ≡ Ok events → All (Fits ports) events
unfolding events_of
all_fit bytes ports events h = go (file_refused ports bytes) h
  where
    go : (o : Option EventRefusal) → (let x : Result (List Event) EventRefusal = elim o [ None ↦ Ok (read_events bytes ports) | Some r ↦ Err r ] in x) ≡ Ok events → All (Fits ports) events
    go None e = subst (All (Fits ports)) (ok_same {E = EventRefusal} (read_events bytes ports) events e) (sorted_fit ports (filter_map (λ l. result_ok (event_at ports l)) (filled_lines bytes)) (read_fit ports (filled_lines bytes)))
    go (Some r) e = absurd cc

pub events_are_bounded : EventsAreBounded
events_are_bounded bytes ports events h =
    let all = all_fit bytes ports events h in
    (All-weaker (Fits ports) (λ e. IsBounded e.value) (λ e p. p.0) events all, All-weaker (Fits ports) (λ e. IsDelay e.time) (λ e p. p.1) events all)

pub events_are_at_ports : EventsAreAtPorts
events_are_at_ports bytes ports events h = All-weaker (Fits ports) (λ e. e.port < length ports) (λ e p. p.2) events (all_fit bytes ports events h)
