-- What a change of the links makes of the lists.
use Rattle.std.proofs.Common.{◌≡◌, ◌≢◌, ℕ, zero, suc, ◌+◌, ◌<◌, replicate, Option, Some, None, List, length, set, cond, eqb, refl, sym, ap, ◌∙◌, subst, arith, ⊎_elim}
use Rattle.std.proofs.lemmas.Bool.{cases_eq}
use Rattle.std.proofs.lemmas.Bool.Decides.{nat_tests}
use Rattle.std.proofs.lemmas.List.{get_or-set_same, get_or-set_other}
use Rattle.time_queue.specs.Lists.{link_of, time_of_first, WaitAlike, IsLoose, Links}

-- one place has another value
pub record Changed (f g : ℕ → Option ℕ) (x : ℕ) (v : Option ℕ) : Type 0 where
  pub here : g x ≡ v
  pub rest : (k : ℕ) → k ≢ x → g k ≡ f k

pub changed_set : (xs : List (Option ℕ)) (x : ℕ) (v : Option ℕ) → x < length xs → Changed (link_of xs) (link_of (set xs x v)) x v
changed_set xs x v within = record {
  here = get_or-set_same xs x v None within;
  rest = λ k ne. get_or-set_other xs x k v None ne;
}

some_same : {A : Type 0} {x y : A} → Some x ≡ Some y → x ≡ y
some_same e = cc

nothing_loose : (z : ℕ) → None ≢ Some z
nothing_loose z e = cc

none_of : (o : Option ℕ) → ((y : ℕ) → o ≡ Some y → ⊥) → o ≡ None
none_of None never = refl
none_of (Some y) never = absurd (never y refl)

alike_rest : (T T' : ℕ → Option ℕ) (x : ℕ) (v : Option ℕ) (z y : ℕ) → Changed T T' x v → z ≢ x → y ≢ x → WaitAlike T z y → WaitAlike T' z y
alike_rest T T' x v z y change z_not y_not alike = record {
  at = alike.at;
  one = change.rest z z_not ∙ alike.one;
  other = change.rest y y_not ∙ alike.other;
}

-- a loose leaf is not another one
not_loose : (x z : ℕ) → z ≢ x → Some x ≢ Some z
not_loose x z ne same = ne (sym (some_same same))

module _ (T H B N : ℕ → Option ℕ) where
  idle_before : (l : Option ℕ) (x : ℕ) → Links T H B N l → T x ≡ None → B x ≡ None
  idle_before l x links idle =
      none_of (B x) (λ w is. let there = links.back w x is in let alike = (links.forth w x there.0).1 in cc (alike.other, idle))

  -- a leaf that waited for nothing
  pub started : (T' : ℕ → Option ℕ) (x at : ℕ) → Links T H B N None → T x ≡ None → Changed T T' x (Some at) → Links T' H B N (Some x)
  started T' x at links idle change =
      let ahead = idle_before None x links idle in
      record {
        rank = links.rank;
        firsts = λ z ne. let other : z ≢ x = λ e. ne (ap Some (sym e)) in
            links.firsts z (nothing_loose z) ∙ ap (time_of_first (B z)) (sym (change.rest z other));
        loose_one = λ z e. let one : IsLoose T' H B x = record {
          unseen = links.firsts x (nothing_loose x) ∙ (λ i. time_of_first (ahead i) (idle i));
          ahead = ahead;
          at = at;
          waits = change.here;
        } in
            subst (IsLoose T' H B) (some_same e) one;
        forth = λ z y is.
            let there = links.forth z y is in
            let alike = there.1 in
            let z_not : z ≢ x = λ e. cc (alike.one, idle) in
            let y_not : y ≢ x = λ e. cc (alike.other, idle) in
            (there.0, alike_rest T T' x (Some at) z y change z_not y_not alike);
        back = links.back;
      }

  -- the loose leaf comes into the heap
  pub settled : (H' : ℕ → Option ℕ) (x at : ℕ) → Links T H B N (Some x) → T x ≡ Some at → Changed H H' x (Some at) → Links T H' B N None
  settled H' x at links waits change =
      let loose = links.loose_one x refl in
      record {
        rank = links.rank;
        firsts = λ z _. ⊎_elim
            (λ e. ap H' e ∙ change.here ∙ sym waits ∙ (λ i. time_of_first (sym loose.ahead i) (T x)) ∙ (λ i. time_of_first (B (sym e i)) (T (sym e i))))
            (λ ne. change.rest z ne ∙ links.firsts z (not_loose x z ne))
            (cases_eq z x);
        loose_one = λ z e. absurd (nothing_loose z e);
        forth = links.forth;
        back = links.back;
      }

  -- a first leaf goes from the heap
  pub loosened : (H' : ℕ → Option ℕ) (x at : ℕ) → Links T H B N None → B x ≡ None → T x ≡ Some at → Changed H H' x None → Links T H' B N (Some x)
  loosened H' x at links ahead waits change = record {
    rank = links.rank;
    firsts = λ z ne. let other : z ≢ x = λ e. ne (ap Some (sym e)) in
        change.rest z other ∙ links.firsts z (nothing_loose z);
    loose_one = λ z e. let one : IsLoose T H' B x = record { unseen = change.here; ahead = ahead; at = at; waits = waits } in
        subst (IsLoose T H' B) (some_same e) one;
    forth = links.forth;
    back = links.back;
  }

  -- the loose leaf goes, and was alone
  pub released_last : (T' : ℕ → Option ℕ) (x : ℕ) → Links T H B N (Some x) → N x ≡ None → Changed T T' x None → Links T' H B N None
  released_last T' x links last change =
      let loose = links.loose_one x refl in
      record {
        rank = links.rank;
        firsts = λ z _. ⊎_elim
            (λ e. let b : B z ≡ None = ap B e ∙ loose.ahead in
            let t : T' z ≡ None = ap T' e ∙ change.here in
            ap H e ∙ loose.unseen ∙ sym (λ i. time_of_first (b i) (t i)))
            (λ ne. links.firsts z (not_loose x z ne) ∙ ap (time_of_first (B z)) (sym (change.rest z ne)))
            (cases_eq z x);
        loose_one = λ z e. absurd (nothing_loose z e);
        forth = λ z y is.
            let there = links.forth z y is in
            let z_not : z ≢ x = λ e. cc (is, last) in
            let y_not : y ≢ x = λ e. cc (there.0, loose.ahead) in
            (there.0, alike_rest T T' x None z y change z_not y_not there.1);
        back = links.back;
      }

  -- the loose leaf goes, and the one behind it is loose
  pub released_next : (T' B' N' : ℕ → Option ℕ) (x n : ℕ) → Links T H B N (Some x) → N x ≡ Some n → Changed T T' x None → Changed N N' x None → Changed B B' n None → Links T' H B' N' (Some n)
  released_next T' B' N' x n links next times afters befores =
      let loose = links.loose_one x refl in
      let first = links.forth x n next in
      let apart : n ≢ x = λ e. cc (first.0, loose.ahead) in
      record {
        rank = links.rank;
        firsts = λ z ne.
            let other : z ≢ n = λ e. ne (ap Some (sym e)) in
            ⊎_elim
            (λ e. let b : B' z ≡ None = befores.rest z other ∙ ap B e ∙ loose.ahead in
            let t : T' z ≡ None = ap T' e ∙ times.here in
            ap H e ∙ loose.unseen ∙ sym (λ i. time_of_first (b i) (t i)))
            (λ ne'. links.firsts z (not_loose x z ne') ∙ (λ i. time_of_first (sym (befores.rest z other) i) (sym (times.rest z ne') i)))
            (cases_eq z x);
        loose_one = λ z e. let one : IsLoose T' H B' n = record {
          unseen = links.firsts n (not_loose x n apart) ∙ (λ i. time_of_first (first.0 i) (T n));
          ahead = befores.here;
          at = first.1.at;
          waits = times.rest n apart ∙ first.1.other;
        } in
            subst (IsLoose T' H B') (some_same e) one;
        forth = λ z y is'.
            let z_not : z ≢ x = λ e. cc (is', afters.here) in
            let is : N z ≡ Some y = sym (afters.rest z z_not) ∙ is' in
            let there = links.forth z y is in
            let y_not : y ≢ x = λ e. cc (there.0, loose.ahead) in
            let y_other : y ≢ n = λ e. z_not (some_same (sym there.0 ∙ ap B e ∙ first.0)) in
            (befores.rest y y_other ∙ there.0, alike_rest T T' x None z y times z_not y_not there.1);
        back = λ z y is'.
            let y_other : y ≢ n = λ e. cc (is', befores.here) in
            let is : B y ≡ Some z = sym (befores.rest y y_other) ∙ is' in
            let there = links.back z y is in
            let z_not : z ≢ x = λ e. y_other (some_same (sym there.0 ∙ ap N e ∙ next)) in
            (afters.rest z z_not ∙ there.0, there.1);
      }

  abbrev rank_with : (ℕ → ℕ) → ℕ → ℕ → ℕ → ℕ
  rank_with rank l x k = cond (eqb k x) (rank l + 1) (rank k)

  rank_same : (rank : ℕ → ℕ) (l x k : ℕ) → k ≡ x → rank_with rank l x k ≡ rank l + 1
  rank_same rank l x k e = grind (arith, nat_tests)

  rank_other : (rank : ℕ → ℕ) (l x k : ℕ) → k ≢ x → rank_with rank l x k ≡ rank k
  rank_other rank l x k ne = grind (arith, nat_tests)

  -- a leaf that waited for nothing comes behind a last one
  pub appended : (T' B' N' : ℕ → Option ℕ) (l x at : ℕ) → Links T H B N None → T x ≡ None → T l ≡ Some at → N l ≡ None → Changed T T' x (Some at) → Changed B B' x (Some l) → Changed N N' l (Some x) → Links T' H B' N' None
  appended T' B' N' l x at links idle waits last times befores afters =
      let ahead = idle_before None x links idle in
      let apart : l ≢ x = λ e. cc (waits, idle) in
      record {
        rank = rank_with links.rank l x;
        firsts = λ z _. ⊎_elim
            (λ e. let b : B' z ≡ Some l = ap B' e ∙ befores.here in
            ap H e ∙ links.firsts x (nothing_loose x) ∙ (λ i. time_of_first (ahead i) (idle i)) ∙ sym (λ i. time_of_first (b i) (T' z)))
            (λ ne. links.firsts z (nothing_loose z) ∙ (λ i. time_of_first (sym (befores.rest z ne) i) (sym (times.rest z ne) i)))
            (cases_eq z x);
        loose_one = λ z e. absurd (nothing_loose z e);
        forth = λ z y is'. ⊎_elim
            (λ e. let here : y ≡ x = some_same (sym is' ∙ ap N' e ∙ afters.here) in
            let alike : WaitAlike T' z y = record { at = at; one = ap T' e ∙ times.rest l apart ∙ waits; other = ap T' here ∙ times.here } in
            (ap B' here ∙ befores.here ∙ ap Some (sym e), alike))
            (λ ne. let is : N z ≡ Some y = sym (afters.rest z ne) ∙ is' in
            let there = links.forth z y is in
            let alike = there.1 in
            let z_not : z ≢ x = λ e. cc (alike.one, idle) in
            let y_not : y ≢ x = λ e. cc (alike.other, idle) in
            (befores.rest y y_not ∙ there.0, alike_rest T T' x (Some at) z y times z_not y_not alike))
            (cases_eq z l);
        back = λ z y is'. ⊎_elim
            (λ e. let here : z ≡ l = some_same (sym is' ∙ ap B' e ∙ befores.here) in
            let one = rank_other links.rank l x l apart in
            let from = ap (rank_with links.rank l x) here in
            let to = rank_same links.rank l x y e in
            (ap N' here ∙ afters.here ∙ ap Some (sym e), omega (arith, one, from, to)))
            (λ ne. let is : B y ≡ Some z = sym (befores.rest y ne) ∙ is' in
            let there = links.back z y is in
            let alike = (links.forth z y there.0).1 in
            let z_not : z ≢ x = λ e. cc (alike.one, idle) in
            let z_other : z ≢ l = λ e. cc (there.0, last) in
            (afters.rest z z_other ∙ there.0, omega (arith, there.1, rank_other links.rank l x z z_not, rank_other links.rank l x y ne)))
            (cases_eq y x);
      }

  -- a leaf behind another goes, and none was behind it
  pub unlinked_last : (T' B' N' : ℕ → Option ℕ) (b x : ℕ) → Links T H B N None → B x ≡ Some b → N x ≡ None → Changed T T' x None → Changed B B' x None → Changed N N' b None → Links T' H B' N' None
  unlinked_last T' B' N' b x links behind last times befores afters =
      let before = links.back b x behind in
      record {
        rank = links.rank;
        firsts = λ z _. ⊎_elim
            (λ e. let bz : B' z ≡ None = ap B' e ∙ befores.here in
            let tz : T' z ≡ None = ap T' e ∙ times.here in
            ap H e ∙ links.firsts x (nothing_loose x) ∙ (λ i. time_of_first (behind i) (T x)) ∙ sym (λ i. time_of_first (bz i) (tz i)))
            (λ ne. links.firsts z (nothing_loose z) ∙ (λ i. time_of_first (sym (befores.rest z ne) i) (sym (times.rest z ne) i)))
            (cases_eq z x);
        loose_one = λ z e. absurd (nothing_loose z e);
        forth = λ z y is'.
            let z_other : z ≢ b = λ e. cc (is', afters.here) in
            let is : N z ≡ Some y = sym (afters.rest z z_other) ∙ is' in
            let there = links.forth z y is in
            let z_not : z ≢ x = λ e. cc (is, last) in
            let y_not : y ≢ x = λ e. z_other (some_same (sym there.0 ∙ ap B e ∙ behind)) in
            (befores.rest y y_not ∙ there.0, alike_rest T T' x None z y times z_not y_not there.1);
        back = λ z y is'.
            let y_not : y ≢ x = λ e. cc (is', befores.here) in
            let is : B y ≡ Some z = sym (befores.rest y y_not) ∙ is' in
            let there = links.back z y is in
            let z_other : z ≢ b = λ e. y_not (some_same (sym there.0 ∙ ap N e ∙ before.0)) in
            (afters.rest z z_other ∙ there.0, there.1);
      }

  -- a leaf between two goes
  pub unlinked_next : (T' B1 B' N1 N' : ℕ → Option ℕ) (b x n : ℕ) → Links T H B N None → B x ≡ Some b → N x ≡ Some n → Changed T T' x None → Changed B B1 x None → Changed B1 B' n (Some b) → Changed N N1 x None → Changed N1 N' b (Some n) → Links T' H B' N' None
  unlinked_next T' B1 B' N1 N' b x n links behind next times befores1 befores afters1 afters =
      let before = links.back b x behind in
      let after = links.forth x n next in
      let order = before.1 in
      let order2 = (links.back x n after.0).1 in
      let b_not : b ≢ x = λ e. let same = ap links.rank e in omega (arith, order, same) in
      let n_not : n ≢ x = λ e. let same = ap links.rank e in omega (arith, order2, same) in
      let bx : B' x ≡ None = befores.rest x (λ e. n_not (sym e)) ∙ befores1.here in
      let nx : N' x ≡ None = afters.rest x (λ e. b_not (sym e)) ∙ afters1.here in
      let one = (links.forth b x before.0).1 in
      record {
        rank = links.rank;
        firsts = λ z _. ⊎_elim
            (λ e. let bz : B' z ≡ None = ap B' e ∙ bx in
            let tz : T' z ≡ None = ap T' e ∙ times.here in
            ap H e ∙ links.firsts x (nothing_loose x) ∙ (λ i. time_of_first (behind i) (T x)) ∙ sym (λ i. time_of_first (bz i) (tz i)))
            (λ ne. ⊎_elim
            (λ e. let bz : B z ≡ Some x = ap B e ∙ after.0 in
            let bz' : B' z ≡ Some b = ap B' e ∙ befores.here in
            links.firsts z (nothing_loose z) ∙ (λ i. time_of_first (bz i) (T z)) ∙ sym (λ i. time_of_first (bz' i) (T' z)))
            (λ ne'. let bz : B' z ≡ B z = befores.rest z ne' ∙ befores1.rest z ne in
            links.firsts z (nothing_loose z) ∙ (λ i. time_of_first (sym bz i) (sym (times.rest z ne) i)))
            (cases_eq z n))
            (cases_eq z x);
        loose_one = λ z e. absurd (nothing_loose z e);
        forth = λ z w is'.
            let z_not : z ≢ x = λ e. cc (is', nx) in
            ⊎_elim
            (λ e. let here : w ≡ n = some_same (sym is' ∙ ap N' e ∙ afters.here) in
            let alike : WaitAlike T' z w = record {
              at = one.at;
              one = times.rest z z_not ∙ ap T e ∙ one.one;
              other = ap T' here ∙ times.rest n n_not ∙ after.1.other ∙ sym after.1.one ∙ one.other;
            } in
            (ap B' here ∙ befores.here ∙ ap Some (sym e), alike))
            (λ ne. let is : N z ≡ Some w = sym (afters1.rest z z_not) ∙ sym (afters.rest z ne) ∙ is' in
            let there = links.forth z w is in
            let w_not : w ≢ x = λ e. ne (some_same (sym there.0 ∙ ap B e ∙ behind)) in
            let w_other : w ≢ n = λ e. z_not (some_same (sym there.0 ∙ ap B e ∙ after.0)) in
            (befores.rest w w_other ∙ befores1.rest w w_not ∙ there.0, alike_rest T T' x None z w times z_not w_not there.1))
            (cases_eq z b);
        back = λ z w is'.
            let w_not : w ≢ x = λ e. cc (is', bx) in
            ⊎_elim
            (λ e. let here : z ≡ b = some_same (sym is' ∙ ap B' e ∙ befores.here) in
            let from = ap links.rank here in
            let to = ap links.rank e in
            (ap N' here ∙ afters.here ∙ ap Some (sym e), omega (arith, from, to, order, order2)))
            (λ ne. let is : B w ≡ Some z = sym (befores1.rest w w_not) ∙ sym (befores.rest w ne) ∙ is' in
            let there = links.back z w is in
            let z_not : z ≢ x = λ e. ne (some_same (sym there.0 ∙ ap N e ∙ next)) in
            let z_other : z ≢ b = λ e. w_not (some_same (sym there.0 ∙ ap N e ∙ before.0)) in
            (afters.rest z z_other ∙ afters1.rest z z_not ∙ there.0, there.1))
            (cases_eq w n);
      }

-- no leaf waits, and none is linked
pub nothing_linked : (T H B N : ℕ → Option ℕ) → ((k : ℕ) → T k ≡ None) → ((k : ℕ) → H k ≡ None) → ((k : ℕ) → B k ≡ None) → ((k : ℕ) → N k ≡ None) → Links T H B N None
nothing_linked T H B N ts hs bs ns = record {
  rank = λ k. k;
  firsts = λ x _. hs x ∙ sym (λ i. time_of_first (bs x i) (ts x i));
  loose_one = λ x e. absurd (nothing_loose x e);
  forth = λ x y is. absurd (let none = ns x in cc);
  back = λ x y is. absurd (let none = bs y in cc);
}

pub no_link : (n k : ℕ) → link_of (replicate n None) k ≡ None
no_link zero k = refl
no_link (suc n) zero = refl
no_link (suc n) (suc k) = no_link n k
