-- The pairs of a cpu, as words of its state and as values by time.
use Rattle.std.proofs.Common.{◌≡◌, ◌==◌, ℕ, suc, ◌+◌, ◌-◌, ◌≤◌, Bool, true, false, cond, not, nat_lt, Option, Some, None, List, [], ◌∷◌, ◌++◌, length, get_or, take, drop, insert, refl, sym, ap, ◌∙◌, arith}
use Rattle.std.specs.Prelude.{ℤ, pos, nat_le, if◌then◌else◌}
use Rattle.std.specs.Bool.{beq}
use Rattle.std.specs.Result.{OnOk, OnErr}
use Rattle.std.specs.declared.result.Result.{Result}
use Rattle.std.specs.declared.result.Result.TheVariants.{Ok, Err}
use Rattle.std.specs.List.{filter}
use Rattle.std.proofs.lemmas.Bool.Decides.{nat_tests}
use Rattle.std.proofs.lemmas.List.{take_all}
use Rattle.quantity.specs.declared.value.Value.{Value}
use Rattle.atomic_face.specs.Words.{word_of}
use Rattle.atomic_face.specs.Cpu.{are_pairs, cpu_inputs, cpu_moved, cpu_next, cpu_pairs, cpu_put, cpu_words, pairs_at, values_in}
use Rattle.atomic_face.specs.Bags.{outputs}
use Rattle.atomic_face.specs.Classes.{Bag, is_at}
use Rattle.atomic_kinds.specs.Pairs.{given_at, left_at, pair_words, place_for, word_pairs, HasPair, ReadsPair}

-- ---- words

pub cpu_pairs-cpu_words : (ps : List (ℤ × ℤ)) → cpu_pairs (cpu_words ps) ≡ ps
cpu_pairs-cpu_words [] = refl
cpu_pairs-cpu_words (p ∷ ps) = ap (λ qs. p ∷ qs) (cpu_pairs-cpu_words ps)

pair_words-push : (ps : List (ℕ × Value)) (p : ℕ × Value) (ws : List ℤ) → pair_words (ps ++ p ∷ []) ++ ws ≡ pair_words ps ++ (pos p.0 ∷ word_of p.1 ∷ ws)
pair_words-push [] p ws = refl
pair_words-push (q ∷ ps) p ws = ap (λ vs. pos q.0 ∷ word_of q.1 ∷ vs) (pair_words-push ps p ws)

-- one pair more was read
pub pair_read : (ps : List (ℕ × Value)) (p : ℕ × Value) (words others : List ℤ) → words ≡ pos p.0 ∷ word_of p.1 ∷ others → pair_words (ps ++ p ∷ []) ++ others ≡ pair_words ps ++ words
pair_read ps p words others e = pair_words-push ps p others ∙ ap (λ ws. pair_words ps ++ ws) (sym e)

pub starts_with_pair : (before : ℕ) (p : ℕ × Value) (x y : ℤ) (words others : List ℤ) → words ≡ x ∷ y ∷ others → ReadsPair before x y (Some p) → HasPair before words p others
starts_with_pair before p x y words others e h = (rw (e, h.1, h.2) refl, rw (e, h.0, h.1) refl)

pub starts_without_pair : (before : ℕ) (x y : ℤ) (words others : List ℤ) → words ≡ x ∷ y ∷ others → ReadsPair before x y None → are_pairs (pos before) words ≡ false
starts_without_pair before x y words others e h = rw (e, h) refl

two_first : (words : List ℤ) (d : ℤ) → 2 ≤ length words → words ≡ get_or words 0 d ∷ get_or words 1 d ∷ take (length words - 2) (drop 2 words)
two_first [] d h = absurd (omega arith)
two_first (x ∷ []) d h = absurd (omega arith)
two_first (x ∷ y ∷ ws) d h =
    let n : length (x ∷ y ∷ ws) - 2 ≡ length ws = omega arith in
    ap (λ vs. x ∷ y ∷ vs) (sym (take_all (length (x ∷ y ∷ ws) - 2) ws (omega arith)))

-- words are their first two, as they were read, and the others
pub two_and_others : (words : List ℤ) (x y d : ℤ) → 2 ≤ length words → x ≡ get_or words 0 d → y ≡ get_or words 1 d → words ≡ x ∷ y ∷ take (length words - 2) (drop 2 words)
two_and_others words x y d h e f = rw (e, f) (two_first words d h)

pub first_is_pair : (before : ℕ) (p : ℕ × Value) (words : List ℤ) (x y d : ℤ) → 2 ≤ length words → x ≡ get_or words 0 d → y ≡ get_or words 1 d → ReadsPair before x y (Some p) → HasPair before words p (take (length words - 2) (drop 2 words))
first_is_pair before p words x y d lt e f h =
    starts_with_pair before p x y words (take (length words - 2) (drop 2 words)) (two_first words d lt ∙ ap (λ z. z ∷ get_or words 1 d ∷ take (length words - 2) (drop 2 words)) (sym e) ∙ ap (λ z. x ∷ z ∷ take (length words - 2) (drop 2 words)) (sym f)) h

pub pair_words-append : (ps qs : List (ℕ × Value)) → pair_words (ps ++ qs) ≡ pair_words ps ++ pair_words qs
pair_words-append [] qs = refl
pair_words-append (p ∷ ps) qs = ap (λ vs. pos p.0 ∷ word_of p.1 ∷ vs) (pair_words-append ps qs)

-- ---- what is given

pub nothing_given : (ps : List (ℕ × Value)) → cpu_next (word_pairs ps) ≡ None → outputs (values_in (pairs_at true (cpu_next (cpu_pairs (pair_words ps))) (cpu_pairs (pair_words ps)))) ≡ []
nothing_given [] e = refl
nothing_given (p ∷ ps) e = absurd cc

pub all_given : (ps : List (ℕ × Value)) (t : ℕ) → cpu_next (word_pairs ps) ≡ Some t → outputs (values_in (pairs_at true (cpu_next (cpu_pairs (pair_words ps))) (cpu_pairs (pair_words ps)))) ≡ given_at t ps
all_given ps t e = rw (cpu_pairs-cpu_words (word_pairs ps), e) refl

-- ---- what leaves

left_words : (t : ℕ) (ps : List (ℕ × Value)) → word_pairs (filter (λ (p : ℕ × Value). not (p.0 == t)) ps) ≡ pairs_at false (Some t) (word_pairs ps)
left_words t [] = refl
left_words t (p ∷ ps) = go (left_words t ps) (p.0 == t)
  where
    go : word_pairs (filter (λ (p : ℕ × Value). not (p.0 == t)) ps) ≡ pairs_at false (Some t) (word_pairs ps) → (b : Bool) → word_pairs (cond (not b) (p ∷ filter (λ (p : ℕ × Value). not (p.0 == t)) ps) (filter (λ (p : ℕ × Value). not (p.0 == t)) ps)) ≡ cond (beq false b) ((pos p.0, word_of p.1) ∷ pairs_at false (Some t) (word_pairs ps)) (pairs_at false (Some t) (word_pairs ps))
    go rest true = rest
    go rest false = ap (λ qs. (pos p.0, word_of p.1) ∷ qs) rest

same_now : (n now : ℕ) → (n == now) ≡ true → n ≡ now
same_now n now e = grind (arith, nat_tests)

left_after : (now : ℕ) (ps left : List (ℕ × Value)) → left ≡ left_at now ps → word_pairs left ≡ (if is_at now (cpu_next (word_pairs ps)) then pairs_at false (cpu_next (word_pairs ps)) (word_pairs ps) else word_pairs ps)
left_after now ps left e = ap word_pairs e ∙ go (cpu_next (word_pairs ps)) (is_at now (cpu_next (word_pairs ps))) refl
  where
    at : (o : Option ℕ) → is_at now o ≡ true → o ≡ Some now
    at None f = absurd cc
    at (Some n) f = ap (λ k. Some k) (same_now n now f)

    go : (o : Option ℕ) (b : Bool) → is_at now o ≡ b → word_pairs (cond b (filter (λ (p : ℕ × Value). not (p.0 == now)) ps) ps) ≡ cond b (pairs_at false o (word_pairs ps)) (word_pairs ps)
    go o true f = left_words now ps ∙ ap (λ q. pairs_at false q (word_pairs ps)) (sym (at o f))
    go o false f = refl

-- what leaves, and then the inputs
pub cpu_moves : (delay now : ℕ) (ps left after : List (ℕ × Value)) (bag : Bag) → left ≡ left_at now ps → word_pairs after ≡ cpu_inputs (now + delay) (word_pairs left) bag → cpu_moved delay now (cpu_pairs (pair_words ps)) bag ≡ word_pairs after
cpu_moves delay now ps left after bag e f =
    ap (λ qs. cpu_moved delay now qs bag) (cpu_pairs-cpu_words (word_pairs ps)) ∙ ap (λ qs. cpu_inputs (now + delay) qs bag) (sym (left_after now ps left e)) ∙ sym f

-- ---- what is put

not_later : (at t : ℕ) (b : Bool) → nat_lt at t ≡ b → nat_le t at ≡ not b
not_later at t true e = grind (arith, nat_tests)
not_later at t false e = grind (arith, nat_tests)

one_more : (n : ℕ) → 1 + n ≡ suc n
one_more n = omega arith

pub put_in_place : (at : ℕ) (v : Value) (ps : List (ℕ × Value)) → word_pairs (insert ps (place_for at ps) (at, v)) ≡ cpu_put at v (word_pairs ps)
put_in_place at v [] = refl
put_in_place at v (p ∷ ps) = go (put_in_place at v ps) (nat_lt at p.0) refl
  where
    go : word_pairs (insert ps (place_for at ps) (at, v)) ≡ cpu_put at v (word_pairs ps) → (b : Bool) → nat_lt at p.0 ≡ b → word_pairs (insert (p ∷ ps) (cond (not b) (1 + place_for at ps) 0) (at, v)) ≡ (if nat_le p.0 at then (pos p.0, word_of p.1) ∷ cpu_put at v (word_pairs ps) else (pos at, word_of v) ∷ (pos p.0, word_of p.1) ∷ word_pairs ps)
    go behind true e = rw (not_later at p.0 true e) refl
    go behind false e = rw (not_later at p.0 false e, one_more (place_for at ps)) (ap (λ qs. (pos p.0, word_of p.1) ∷ qs) behind)

-- what a call ensures where it takes the value, and it does take it
pub taken : {A E : Type 0} (r : Result A E) (P Q : Type 0) → OnOk r P → OnErr r Q → (Q → ⊥) → P
taken (Ok x) P Q p q not_full = p
taken (Err e) P Q p q not_full = absurd (not_full q)
