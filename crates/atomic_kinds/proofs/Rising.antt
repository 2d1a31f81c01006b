-- Pairs whose times rise: those of one time stand together, and a pair is put where the times still rise.
use Rattle.std.proofs.Common.{◌≡◌, ◌==◌, ℕ, zero, suc, ◌+◌, ◌<◌, ◌≤◌, Bool, true, false, cond, not, nat_lt, Some, None, List, [], ◌∷◌, length, get_or, take, drop, insert, refl, sym, ap, ◌∙◌, arith}
use Rattle.std.specs.Prelude.{pos, nat_le, ◌&&◌}
use Rattle.std.specs.List.{filter}
use Rattle.std.proofs.lemmas.Bool.Decides.{nat_tests}
use Rattle.std.proofs.lemmas.List.{drop_more}
use Rattle.quantity.specs.declared.value.Value.{Value}
use Rattle.atomic_face.specs.Words.{is_time_word, is_value_word, word_of}
use Rattle.atomic_face.specs.Cpu.{are_pairs, cpu_next}
use Rattle.atomic_face.specs.Classes.{is_at}
use Rattle.atomic_kinds.specs.Pairs.{given_at, given_by, left_at, pair_words, place_for, rises_from, word_pairs, GivenFrom}

-- ---- tests

both : (a b : Bool) → a && b ≡ true → (a ≡ true) × (b ≡ true)
both true b e = (refl, e)
both false b e = absurd cc

is_most : (m n : ℕ) → nat_le m n ≡ true → m ≤ n
is_most m n e = grind (arith, nat_tests)

at_most : (m n : ℕ) → m ≤ n → nat_le m n ≡ true
at_most m n h = grind (arith, nat_tests)

is_later : (t n : ℕ) → t < n → (n == t) ≡ false
is_later t n h = grind (arith, nat_tests)

is_same : (t n : ℕ) → (n == t) ≡ true → n ≡ t
is_same t n e = grind (arith, nat_tests)

same : (t n : ℕ) → n ≡ t → (n == t) ≡ true
same t n e = grind (arith, nat_tests)

other : (t n : ℕ) → t ≤ n → (n == t) ≡ false → t < n
other t n h e = grind (arith, nat_tests)

later : (at n : ℕ) → at < n → nat_lt at n ≡ true
later at n h = grind (arith, nat_tests)

not_later : (at n : ℕ) → n ≤ at → nat_lt at n ≡ false
not_later at n h = grind (arith, nat_tests)

-- ---- times that rise

head_rises : (b : ℕ) (p : ℕ × Value) (ps : List (ℕ × Value)) → rises_from b (p ∷ ps) ≡ true → (b ≤ p.0) × (rises_from p.0 ps ≡ true)
head_rises b p ps e = let h = both (nat_le b p.0) (rises_from p.0 ps) e in (is_most b p.0 h.0, h.1)

cons_rises : (b : ℕ) (p : ℕ × Value) (ps : List (ℕ × Value)) → b ≤ p.0 → rises_from p.0 ps ≡ true → rises_from b (p ∷ ps) ≡ true
cons_rises b p ps h e = rw (at_most b p.0 h) e

pub rises_from_less : (a b : ℕ) (ps : List (ℕ × Value)) → a ≤ b → rises_from b ps ≡ true → rises_from a ps ≡ true
rises_from_less a b [] h e = refl
rises_from_less a b (p ∷ ps) h e = let r = head_rises b p ps e in cons_rises a p ps (omega arith) r.1

pub rest_rises : (ps : List (ℕ × Value)) → rises_from 0 ps ≡ true → rises_from 0 (drop 1 ps) ≡ true
rest_rises [] e = refl
rest_rises (p ∷ ps) e = rises_from_less 0 p.0 ps (omega arith) (head_rises 0 p ps e).1

pub due_rises : (t : ℕ) (ps : List (ℕ × Value)) → rises_from 0 ps ≡ true → cpu_next (word_pairs ps) ≡ Some t → rises_from t ps ≡ true
due_rises t [] e f = refl
due_rises t (p ∷ ps) e f =
    let at : p.0 ≡ t = some_same f in
    cons_rises t p ps (omega arith) (head_rises 0 p ps e).1
  where
    some_same : {m n : ℕ} → Some m ≡ Some n → m ≡ n
    some_same g = cc

-- the times of a state that was read rise
pub read_rises : (b : ℕ) (ps : List (ℕ × Value)) → are_pairs (pos b) (pair_words ps) ≡ true → rises_from b ps ≡ true
read_rises b [] e = refl
read_rises b (p ∷ ps) e =
    let h = both (is_time_word (pos p.0) && nat_le b p.0 && is_value_word (word_of p.1)) (are_pairs (pos p.0) (pair_words ps)) e in
    let k = both (is_time_word (pos p.0) && nat_le b p.0) (is_value_word (word_of p.1)) h.0 in
    cons_rises b p ps (is_most b p.0 (both (is_time_word (pos p.0)) (nat_le b p.0) k.0).1) (read_rises p.0 ps h.1)

-- ---- what is given

none_given : (t b : ℕ) (ps : List (ℕ × Value)) → t < b → rises_from b ps ≡ true → given_at t ps ≡ []
none_given t b [] h e = refl
none_given t b (p ∷ ps) h e =
    let r = head_rises b p ps e in
    let lt : t < p.0 = omega arith in
    rw (is_later t p.0 lt) (none_given t p.0 ps lt r.1)

rest_given : (t : ℕ) (p : ℕ × Value) (ps : List (ℕ × Value)) → rises_from t (p ∷ ps) ≡ true → (p.0 == t) ≡ false → given_at t (p ∷ ps) ≡ []
rest_given t p ps e f =
    let r = head_rises t p ps e in
    rw f (none_given t p.0 ps (other t p.0 r.0 f) r.1)

first_given : (t : ℕ) (p : ℕ × Value) (ps : List (ℕ × Value)) → (p.0 == t) ≡ true → given_at t (p ∷ ps) ≡ given_by p ∷ given_at t ps
first_given t p ps f = rw f refl

pub gives : (t : ℕ) (ps : List (ℕ × Value)) (place : ℕ) (p : ℕ × Value) → place < length ps → p ≡ get_or ps place p → rises_from t (drop place ps) ≡ true → (p.0 == t) ≡ true → GivenFrom t ps place (Some (given_by p))
gives t ps place p lt e r f =
    let d = drop_more ps place p lt ∙ ap (λ q. q ∷ drop (place + 1) ps) (sym e) in
    let h = rw d at r in (
      lt,
      ap (given_at t) d ∙ first_given t p (drop (place + 1) ps) f,
      rises_from_less t p.0 (drop (place + 1) ps) (head_rises t p (drop (place + 1) ps) h).0 (head_rises t p (drop (place + 1) ps) h).1,
    )

pub gives_none : (t : ℕ) (ps : List (ℕ × Value)) (place : ℕ) (p : ℕ × Value) → place < length ps → p ≡ get_or ps place p → rises_from t (drop place ps) ≡ true → (p.0 == t) ≡ false → GivenFrom t ps place None
gives_none t ps place p lt e r f =
    let d = drop_more ps place p lt ∙ ap (λ q. q ∷ drop (place + 1) ps) (sym e) in
    ap (given_at t) d ∙ rest_given t p (drop (place + 1) ps) (rw d at r) f

-- ---- what leaves

none_leave : (t b : ℕ) (ps : List (ℕ × Value)) → t < b → rises_from b ps ≡ true → filter (λ (p : ℕ × Value). not (p.0 == t)) ps ≡ ps
none_leave t b [] h e = refl
none_leave t b (p ∷ ps) h e =
    let r = head_rises b p ps e in
    let lt : t < p.0 = omega arith in
    rw (is_later t p.0 lt) (ap (λ qs. p ∷ qs) (none_leave t p.0 ps lt r.1))

-- behind a pair of this time all others of it are left out too
all_left : (now b : ℕ) (ps : List (ℕ × Value)) → now ≡ b → rises_from b ps ≡ true → left_at now ps ≡ filter (λ (p : ℕ × Value). not (p.0 == now)) ps
all_left now b [] h e = refl
all_left now b (p ∷ ps) h e = go (p.0 == now) refl
  where
    go : (c : Bool) → (p.0 == now) ≡ c → cond c (cond (not c) (p ∷ filter (λ (q : ℕ × Value). not (q.0 == now)) ps) (filter (λ (q : ℕ × Value). not (q.0 == now)) ps)) (p ∷ ps) ≡ cond (not c) (p ∷ filter (λ (q : ℕ × Value). not (q.0 == now)) ps) (filter (λ (q : ℕ × Value). not (q.0 == now)) ps)
    go true f = refl
    go false f =
        let r = head_rises b p ps e in
        let le : now ≤ p.0 = omega arith in
        ap (λ qs. p ∷ qs) (sym (none_leave now p.0 ps (other now p.0 le f) r.1))

pub first_leaves : (now : ℕ) (ps : List (ℕ × Value)) → rises_from 0 ps ≡ true → is_at now (cpu_next (word_pairs ps)) ≡ true → left_at now (drop 1 ps) ≡ left_at now ps
first_leaves now [] e f = absurd cc
first_leaves now (p ∷ ps) e f =
    let g : (p.0 == now) ≡ true = f in
    rw g (all_left now p.0 ps (sym (is_same now p.0 g)) (head_rises 0 p ps e).1)

pub none_due : (now : ℕ) (ps : List (ℕ × Value)) → is_at now (cpu_next (word_pairs ps)) ≡ false → left_at now ps ≡ ps
none_due now ps e = rw e refl

-- ---- what is put

earlier : (b : ℕ) (ps : List (ℕ × Value)) (n : ℕ) (p : ℕ × Value) → rises_from b ps ≡ true → n < length ps → p ≡ get_or ps n p → b ≤ p.0
earlier b [] n p e lt f = absurd (omega arith)
earlier b (q ∷ qs) zero p e lt f = let r = head_rises b q qs e in rw f r.0
earlier b (q ∷ qs) (suc n) p e lt f =
    let r = head_rises b q qs e in
    let h = earlier q.0 qs n p r.1 (omega arith) f in omega arith

-- a later pair at the end does not change the place
pub one_back : (at : ℕ) (ps : List (ℕ × Value)) (n : ℕ) (p : ℕ × Value) → n < length ps → p ≡ get_or ps n p → at < p.0 → place_for at (take n ps) ≡ place_for at (take (suc n) ps)
one_back at [] n p lt e h = absurd (omega arith)
one_back at (q ∷ qs) zero p lt e h = let k : at < q.0 = rw e at h in rw (later at q.0 k) refl
one_back at (q ∷ qs) (suc n) p lt e h = ap (λ m. cond (not (nat_lt at q.0)) (1 + m) 0) (one_back at qs n p (omega arith) e h)

-- behind a pair that is no later is the place
pub behind : (at b : ℕ) (ps : List (ℕ × Value)) (n : ℕ) (p : ℕ × Value) → rises_from b ps ≡ true → n < length ps → p ≡ get_or ps n p → p.0 ≤ at → place_for at (take (suc n) ps) ≡ suc n
behind at b [] n p r lt e h = absurd (omega arith)
behind at b (q ∷ qs) zero p r lt e h = let k : q.0 ≤ at = rw e at h in rw (not_later at q.0 k) refl
behind at b (q ∷ qs) (suc n) p r lt e h =
    let rest = (head_rises b q qs r).1 in
    let le : q.0 ≤ p.0 = earlier q.0 qs n p rest (omega arith) e in
    let k : q.0 ≤ at = omega arith in
    let m : 1 + suc n ≡ suc (suc n) = omega arith in
    rw (not_later at q.0 k) (ap (λ i. 1 + i) (behind at q.0 qs n p rest (omega arith) e h) ∙ m)

one_more : (n : ℕ) → 1 + n ≡ suc n
one_more n = omega arith

put_from : (at b : ℕ) (v : Value) (ps : List (ℕ × Value)) → rises_from b ps ≡ true → b ≤ at → rises_from b (insert ps (place_for at ps) (at, v)) ≡ true
put_from at b v [] e h = cons_rises b (at, v) [] h refl
put_from at b v (p ∷ ps) e h = go (nat_lt at p.0) refl (put_from at p.0 v ps (head_rises b p ps e).1)
  where
    before : nat_lt at p.0 ≡ true → at ≤ p.0
    before f = grind (arith, nat_tests)

    after : nat_lt at p.0 ≡ false → p.0 ≤ at
    after f = grind (arith, nat_tests)

    go : (c : Bool) → nat_lt at p.0 ≡ c → (p.0 ≤ at → rises_from p.0 (insert ps (place_for at ps) (at, v)) ≡ true) → rises_from b (insert (p ∷ ps) (cond (not c) (1 + place_for at ps) 0) (at, v)) ≡ true
    go true f rest = cons_rises b (at, v) (p ∷ ps) h (cons_rises at p ps (before f) (head_rises b p ps e).1)
    go false f rest =
        rw (one_more (place_for at ps)) (cons_rises b p (insert ps (place_for at ps) (at, v)) (head_rises b p ps e).0 (rest (after f)))

pub put_rises : (at : ℕ) (v : Value) (ps : List (ℕ × Value)) → rises_from 0 ps ≡ true → rises_from 0 (insert ps (place_for at ps) (at, v)) ≡ true
put_rises at v ps e = put_from at 0 v ps e (omega arith)
