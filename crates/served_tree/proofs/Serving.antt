-- Each kind of message is served.
use Rattle.std.proofs.Common.{◌≡◌, inl, inr, ℕ, zero, suc, ◌<◌, ◌≤◌, Bool, true, false, true≢false, Option, Some, None, List, [], ◌∷◌, ◌++◌, length, remove, refl, sym, ◌∙◌, ap, subst, arith}
use Rattle.std.specs.Prelude.{slice_get, if◌then◌else◌, unwrap_or}
use Rattle.std.specs.Option.{is_some}
use Rattle.std.proofs.lemmas.Bool.{cases_eq}
use Rattle.std.proofs.lemmas.Option.{slice_get_past}
use Rattle.run_model.specs.Cycle.{stayed}
use Rattle.served_tree.specs.Processors.{Processor, at_processor}
use Rattle.served_tree.specs.Service.{Message, collect, output, transition, done, Kept, Instant, Service, kept_of, gave_of, kept_with_change, bag_at_outputs, became_of, all_gave, all_answered, child_answer, next_of_children, stop_of_children, to_parent, collect_from, transition_from, causes, serves}
use Rattle.served_tree.specs.Parts.{Part}
use Rattle.served_tree.specs.Course.{Counts, owner, message_of, kept_after, parent_in, IsChild, CausedAfter, times, Stands}
use Rattle.served_tree.proofs.Times.{all-at, all-from}
use Rattle.served_tree.proofs.Works.{is_leaf, InnerWorks, KindWorks, Works}
use Rattle.served_tree.proofs.Counting.{bump, found-in, parent-is}
use Rattle.served_tree.proofs.Stepping.{once, inside, caused-at, message-is, now, held-changed, held-long, held-same, to-children, to-itself, next-of-top, end-of-top, to-the-parent, not-yet, child-count}

-- ---- what is kept after so many messages

gave-late : (p : Part) (j : ℕ) → is_some (kept_after p j).gave ≡ true → 1 < j
gave-late p zero e = absurd cc
gave-late p (suc zero) e = absurd cc
gave-late p (suc (suc zero)) e = omega arith
gave-late p (suc (suc (suc zero))) e = omega arith
gave-late p (suc (suc (suc (suc k)))) e = omega arith

late-gave : (p : Part) (j : ℕ) → 1 < j → is_some (kept_after p j).gave ≡ true
late-gave p zero lt = absurd (omega (arith, lt))
late-gave p (suc zero) lt = absurd (omega (arith, lt))
late-gave p (suc (suc zero)) lt = refl
late-gave p (suc (suc (suc zero))) lt = refl
late-gave p (suc (suc (suc (suc k)))) lt = refl

late-gives : (p : Part) (j : ℕ) → 1 < j → unwrap_or (kept_after p j).gave [] ≡ p.gives
late-gives p zero lt = absurd (omega (arith, lt))
late-gives p (suc zero) lt = absurd (omega (arith, lt))
late-gives p (suc (suc zero)) lt = refl
late-gives p (suc (suc (suc zero))) lt = refl
late-gives p (suc (suc (suc (suc k)))) lt = refl

answered-last : (p : Part) (j : ℕ) → is_some (kept_after p j).answered ≡ true → 3 < j
answered-last p zero e = absurd cc
answered-last p (suc zero) e = absurd cc
answered-last p (suc (suc zero)) e = absurd cc
answered-last p (suc (suc (suc zero))) e = absurd cc
answered-last p (suc (suc (suc (suc k)))) e = omega arith

last-answered : (p : Part) (j : ℕ) → 3 < j → is_some (kept_after p j).answered ≡ true
last-answered p zero lt = absurd (omega (arith, lt))
last-answered p (suc zero) lt = absurd (omega (arith, lt))
last-answered p (suc (suc zero)) lt = absurd (omega (arith, lt))
last-answered p (suc (suc (suc zero))) lt = absurd (omega (arith, lt))
last-answered p (suc (suc (suc (suc k)))) lt = refl

last-answers : (p : Part) (j : ℕ) → 3 < j
    → unwrap_or (kept_after p j).answered (None, None) ≡ p.answers
last-answers p zero lt = absurd (omega (arith, lt))
last-answers p (suc zero) lt = absurd (omega (arith, lt))
last-answers p (suc (suc zero)) lt = absurd (omega (arith, lt))
last-answers p (suc (suc (suc zero))) lt = absurd (omega (arith, lt))
last-answers p (suc (suc (suc (suc k)))) lt = refl

pub kept-is : {A : Type 0} (f : Kept → A) (none : A) (kept : List Kept) (n : ℕ) (k : Kept)
    → slice_get kept n ≡ Some k → kept_of f none kept n ≡ f k
kept-is f none kept n k is = ap (λ (o : Option Kept). elim o [ None ↦ none | Some j ↦ f j ]) is

at-is : {A : Type 0} (ps : List Processor) (n : ℕ) (none : A) (go : Processor → A) (p : Processor)
    → slice_get ps n ≡ Some p → at_processor ps n none go ≡ go p
at-is ps n none go p is = ap (λ (o : Option Processor). elim o [ None ↦ none | Some q ↦ go q ]) is

at-none : {A : Type 0} (ps : List Processor) (n : ℕ) (none : A) (go : Processor → A)
    → slice_get ps n ≡ None → at_processor ps n none go ≡ none
at-none ps n none go is = ap (λ (o : Option Processor). elim o [ None ↦ none | Some q ↦ go q ]) is

if-true : {A : Type 0} (b : Bool) (x y : A) → b ≡ true → (if b then x else y) ≡ x
if-true true x y e = refl
if-true false x y e = absurd (true≢false (sym e))

if-false : {A : Type 0} (b : Bool) (x y : A) → b ≡ false → (if b then x else y) ≡ y
if-false true x y e = absurd (true≢false e)
if-false false x y e = refl

module _ (at : Instant) (part : ℕ → Part) (works : Works at part) where
  abbrev ps : List Processor
  ps = at.processors

  -- a processor with a child is no leaf
  inner-kind : (q : ℕ) (pq : Processor) (b : Bool) → ((m : ℕ) × (1 ≤ times m pq.children))
      → KindWorks at part q pq b → InnerWorks at part q pq
  inner-kind q pq true some w = let h = some.1 in let none : times some.0 pq.children ≡ 0 = ap (times some.0) w.alone in absurd (omega (arith, h, none))
  inner-kind q pq false some w = w

  inner-works : (q m : ℕ) (pq : Processor) → slice_get ps q ≡ Some pq → IsChild ps q m
      → InnerWorks at part q pq
  inner-works q m pq here child =
      inner-kind q pq (is_leaf pq.node) (m, omega (arith, once at part works q m pq here child)) (works.each q pq here)

  module _ (c : Counts) (n : ℕ) (v : Service) (stands : Stands ps part c v) (place : ℕ) (m : Message) (is : slice_get v.waiting place ≡ Some m) (own : owner m ≡ n) (p : Processor) (here : slice_get ps n ≡ Some p) where
    abbrev others : List Message
    others = remove v.waiting place

    abbrev Next : Message → Type 0
    Next k = Stands ps part (bump c n) (serves at k others v.kept)

    -- ---- collect

    collect-served : c n ≡ 0 → (b : Bool) → KindWorks at part n p b → Next (collect n)
    collect-served e true w =
        to-itself at part works c n v stands place m is own p here 0 (causes at v.kept (collect n)) v.kept (inl refl) e w.alone
        (at-is ps n [] (collect_from at n) p here ∙ w.gives)
        stands.long (held-same at part works c n v stands place m is own e)
    collect-served e false w =
        to-children at part works c n v stands place m is own p here 0 (causes at v.kept (collect n)) v.kept (inl refl) e w.some
        (at-is ps n [] (collect_from at n) p here ∙ w.asks)
        stands.long (held-same at part works c n v stands place m is own e)

    -- ---- output

    module _ (e : c n ≡ 1) where
      abbrev gave : List Kept
      gave = kept_with_change v.kept n (λ k. record k { gave = Some (part n).gives })

      gave-held : (x : ℕ) → x < length ps
          → slice_get gave x ≡ Some (kept_after (part x) (bump c n x))
      gave-held = held-changed at part works c n v stands place m is own 1 (λ k. record k { gave = Some (part n).gives }) e refl

      gave-long : length gave ≡ length ps
      gave-long = held-long at part works c n v stands place m is own 1 (λ k. record k { gave = Some (part n).gives }) e

      gave-of : (x : ℕ) → x < length ps → 1 < bump c n x → gave_of gave x ≡ (part x).gives
      gave-of x lt late = kept-is (λ k. unwrap_or k.gave []) [] gave x (kept_after (part x) (bump c n x)) (gave-held x lt) ∙ late-gives (part x) (bump c n x) late

      abbrev up : ℕ → Processor → List Message
      up q pq = if all_gave gave pq.children then output q (bag_at_outputs at gave pq) ∷ [] else []

      output-top : n ≡ 0 → Next (output n (part n).gives)
      output-top top =
          let past : slice_get ps p.parent ≡ None = slice_get_past ps p.parent (let t = works.top in let f : parent_in ps 0 ≡ p.parent = ap (parent_in ps) (sym top) ∙ parent-is ps n p here in omega (arith, t, f)) in
          let zero-part : transition 0 (part 0).takes (part 0).woken ≡ message_of (part n) n 2 = ap (λ x. message_of (part x) x 2) (sym top) in
          next-of-top at part works c n v stands place m is own p here (to_parent at n up (transition 0 at.events false ∷ [])) gave e top
          (at-is ps n [] (λ child. at_processor ps child.parent (transition 0 at.events false ∷ []) (up child.parent)) p here
          ∙ at-none ps p.parent (transition 0 at.events false ∷ []) (up p.parent) past
          ∙ (λ i. transition 0 (works.takes i) (sym works.woken i) ∷ [])
          ∙ ap (λ k. k ∷ []) zero-part)
          gave-long gave-held

      gave-test : (x : ℕ) → x < length ps
          → kept_of (λ k. is_some k.gave) false gave x ≡ is_some (kept_after (part x) (bump c n x)).gave
      gave-test x lt = kept-is (λ k. is_some k.gave) false gave x (kept_after (part x) (bump c n x)) (gave-held x lt)

      module _ (pos : 0 < n) (pq : Processor) (there : slice_get ps (parent_in ps n) ≡ Some pq) where
        abbrev q : ℕ
        q = parent_in ps n

        goes-up : to_parent at n up (transition 0 at.events false ∷ []) ≡ up q pq
        goes-up =
            let same : p.parent ≡ q = sym (parent-is ps n p here) in
            at-is ps n [] (λ child. at_processor ps child.parent (transition 0 at.events false ∷ []) (up child.parent)) p here
            ∙ ap (λ x. at_processor ps x (transition 0 at.events false ∷ []) (up x)) same
            ∙ at-is ps q (transition 0 at.events false ∷ []) (up q) pq there

        mine : IsChild ps q n
        mine = (pos, inside at part works c n v stands place m is own, refl)

        output-up : (b : Bool) → all_gave gave pq.children ≡ b → Next (output n (part n).gives)
        output-up true all =
            let w = inner-works q n pq there mine in
            let only = (works.placed q pq there).only in
            let ahead : (x : ℕ) → IsChild ps q x → 1 < bump c n x
            = λ x child. gave-late (part x) (bump c n x)
            (sym (gave-test x child.1) ∙ all-at (λ y. kept_of (λ k. is_some k.gave) false gave y) pq.children all x (omega (arith, once at part works q x pq there child))) in
            to-the-parent at part works c n v stands place m is own p here pos 1 (to_parent at n up (transition 0 at.events false ∷ [])) gave (inl refl) e ahead
            (goes-up ∙ if-true (all_gave gave pq.children) (output q (bag_at_outputs at gave pq) ∷ []) [] all
            ∙ ap (λ bag. output q bag ∷ []) (w.gathers gave (λ x le. let child = only x le in gave-of x child.1 (ahead x child))))
            gave-long gave-held
        output-up false all =
            let only = (works.placed q pq there).only in
            subst (λ ms. Stands ps part (bump c n) (record { waiting = others ++ ms; kept = gave }))
            (sym (goes-up ∙ if-false (all_gave gave pq.children) (output q (bag_at_outputs at gave pq) ∷ []) [] all))
            (not-yet at part works c n v stands place m is own p here pos 1 gave (inl refl) e
            (λ each. true≢false (sym (all-from (λ y. kept_of (λ k. is_some k.gave) false gave y) pq.children
            (λ x le. let child = only x le in gave-test x child.1 ∙ late-gave (part x) (bump c n x) (each x child))) ∙ all))
            gave-long gave-held)

    -- ---- transition

    module _ (e : c n ≡ 2) where
      abbrev take : Kept → Kept
      take k = record k { took = (part n).takes; became = became_of at n (part n).takes (part n).woken }

      abbrev took : List Kept
      took = kept_with_change v.kept n take

      take-is : became_of at n (part n).takes (part n).woken ≡ (part n).becomes
          → take (kept_after (part n) 2) ≡ kept_after (part n) 3
      take-is is = λ i. record { gave = Some (part n).gives; answered = None; took = (part n).takes; became = is i }

      took-held : became_of at n (part n).takes (part n).woken ≡ (part n).becomes → (x : ℕ)
          → x < length ps → slice_get took x ≡ Some (kept_after (part x) (bump c n x))
      took-held becomes = held-changed at part works c n v stands place m is own 2 take e (take-is becomes)

      took-long : length took ≡ length ps
      took-long = held-long at part works c n v stands place m is own 2 take e

      transition-served : (b : Bool) → KindWorks at part n p b
          → Next (transition n (part n).takes (part n).woken)
      transition-served true w =
          let held = took-held w.becomes in
          to-itself at part works c n v stands place m is own p here 2 (causes at took (transition n (part n).takes (part n).woken)) took (inr refl) e w.alone
          (at-is ps n [] (transition_from at took n (part n).takes) p here
          ∙ w.answers took
          (kept-is (λ k. k.became) stayed took n (kept_after (part n) (bump c n n)) (held n (inside at part works c n v stands place m is own))
          ∙ ap (λ j. (kept_after (part n) j).became) (now at part works c n v stands place m is own 2 e)))
          took-long held
      transition-served false w =
          let held = took-held w.becomes in
          let only = (works.placed n p here).only in
          to-children at part works c n v stands place m is own p here 2 (causes at took (transition n (part n).takes (part n).woken)) took (inr refl) e w.some
          (at-is ps n [] (transition_from at took n (part n).takes) p here
          ∙ w.hands took (λ x le.
          let child = only x le in
          let two : c x ≡ 2 = child-count at part works c n v stands place m is own p here 2 x (inr refl) e child in
          kept-is (λ k. unwrap_or k.gave []) [] took x (kept_after (part x) (bump c n x)) (held x child.1)
          ∙ late-gives (part x) (bump c n x) (omega (arith, two))))
          took-long held

    -- ---- done

    module _ (e : c n ≡ 3) where
      abbrev answer : Kept → Kept
      answer k = record k { answered = Some ((part n).answers.0, (part n).answers.1) }

      abbrev told : List Kept
      told = kept_with_change v.kept n answer

      told-held : (x : ℕ) → x < length ps
          → slice_get told x ≡ Some (kept_after (part x) (bump c n x))
      told-held = held-changed at part works c n v stands place m is own 3 answer e refl

      told-long : length told ≡ length ps
      told-long = held-long at part works c n v stands place m is own 3 answer e

      answers-are : (x : ℕ) → x < length ps → 3 < bump c n x → child_answer told x ≡ (part x).answers
      answers-are x lt late =
          kept-is (λ k. unwrap_or k.answered (None, None)) (None, None) told x (kept_after (part x) (bump c n x)) (told-held x lt) ∙ last-answers (part x) (bump c n x) late

      abbrev back : ℕ → Processor → List Message
      back q pq = if all_answered told pq.children then done q (next_of_children told pq.children) (stop_of_children told pq.children) ∷ [] else []

      done-top : n ≡ 0 → Next (done n (part n).answers.0 (part n).answers.1)
      done-top top =
          let past : slice_get ps p.parent ≡ None = slice_get_past ps p.parent (let t = works.top in let f : parent_in ps 0 ≡ p.parent = ap (parent_in ps) (sym top) ∙ parent-is ps n p here in omega (arith, t, f)) in
          subst (λ ms. Stands ps part (bump c n) (record { waiting = others ++ ms; kept = told }))
          (sym (at-is ps n [] (λ child. at_processor ps child.parent [] (back child.parent)) p here ∙ at-none ps p.parent [] (back p.parent) past))
          (end-of-top at part works c n v stands place m is own p here told e top told-long told-held)

      told-test : (x : ℕ) → x < length ps
          → kept_of (λ k. is_some k.answered) false told x ≡ is_some (kept_after (part x) (bump c n x)).answered
      told-test x lt = kept-is (λ k. is_some k.answered) false told x (kept_after (part x) (bump c n x)) (told-held x lt)

      module _ (pos : 0 < n) (pq : Processor) (there : slice_get ps (parent_in ps n) ≡ Some pq) where
        abbrev r : ℕ
        r = parent_in ps n

        goes-back : to_parent at n back [] ≡ back r pq
        goes-back =
            let same : p.parent ≡ r = sym (parent-is ps n p here) in
            at-is ps n [] (λ child. at_processor ps child.parent [] (back child.parent)) p here
            ∙ ap (λ x. at_processor ps x [] (back x)) same
            ∙ at-is ps r [] (back r) pq there

        child-here : IsChild ps r n
        child-here = (pos, inside at part works c n v stands place m is own, refl)

        done-up : (b : Bool) → all_answered told pq.children ≡ b
            → Next (done n (part n).answers.0 (part n).answers.1)
        done-up true all =
            let w = inner-works r n pq there child-here in
            let only = (works.placed r pq there).only in
            let ahead : (x : ℕ) → IsChild ps r x → 3 < bump c n x
            = λ x child. answered-last (part x) (bump c n x)
            (sym (told-test x child.1) ∙ all-at (λ y. kept_of (λ k. is_some k.answered) false told y) pq.children all x (omega (arith, once at part works r x pq there child))) in
            let joins = w.joins told (λ x le. let child = only x le in answers-are x child.1 (ahead x child)) in
            to-the-parent at part works c n v stands place m is own p here pos 3 (to_parent at n back []) told (inr refl) e ahead
            (goes-back ∙ if-true (all_answered told pq.children) (done r (next_of_children told pq.children) (stop_of_children told pq.children) ∷ []) [] all
            ∙ (λ i. done r (joins.0 i) (joins.1 i) ∷ []))
            told-long told-held
        done-up false all =
            let only = (works.placed r pq there).only in
            subst (λ ms. Stands ps part (bump c n) (record { waiting = others ++ ms; kept = told }))
            (sym (goes-back ∙ if-false (all_answered told pq.children) (done r (next_of_children told pq.children) (stop_of_children told pq.children) ∷ []) [] all))
            (not-yet at part works c n v stands place m is own p here pos 3 told (inr refl) e
            (λ each. true≢false (sym (all-from (λ y. kept_of (λ k. is_some k.answered) false told y) pq.children
            (λ x le. let child = only x le in told-test x child.1 ∙ last-answered (part x) (bump c n x) (each x child))) ∙ all))
            told-long told-held)

    -- ---- whichever it is

    parent-found : 0 < n → (pq : Processor) × (slice_get ps (parent_in ps n) ≡ Some pq)
    parent-found pos =
        let low = (works.placed n p here).below pos in
        let lt = inside at part works c n v stands place m is own in
        found-in ps (parent_in ps n) (omega (arith, low, lt, parent-is ps n p here))

    by-count : (k : ℕ) → c n ≡ k → CausedAfter ps c n k → Next (message_of (part n) n k)
    by-count zero e h = collect-served e (is_leaf p.node) (works.each n p here)
    by-count (suc zero) e h = elim (cases_eq n 0) [
      | inl top ↦ output-top e top
      | inr ne ↦ let pos : 0 < n = omega (arith, ne) in
          let f = parent-found pos in output-up e pos f.0 f.1 (all_gave (gave e) f.0.children) refl
    ]
    by-count (suc (suc zero)) e h = transition-served e (is_leaf p.node) (works.each n p here)
    by-count (suc (suc (suc zero))) e h = elim (cases_eq n 0) [
      | inl top ↦ done-top e top
      | inr ne ↦ let pos : 0 < n = omega (arith, ne) in
          let f = parent-found pos in done-up e pos f.0 f.1 (all_answered (told e) f.0.children) refl
    ]
    by-count (suc (suc (suc (suc k)))) e h = absurd h

    pub message-served : Next m
    message-served =
        subst Next (sym (message-is at part works c n v stands place m is own (c n) refl))
        (by-count (c n) refl (caused-at at part works c n v stands place m is own (c n) refl))
