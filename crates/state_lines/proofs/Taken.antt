-- Words that are read one after another are those that the definition reads.
use Rattle.std.proofs.Common.{◌≡◌, ℕ, zero, suc, ◌+◌, ◌*◌, ◌<◌, ◌≤◌, ◌-◌, ◌^◌, ◌&&◌, Bool, true}
use Rattle.std.proofs.Common.{false, cond, Option, Some, None, List, [], ◌∷◌, ◌++◌, refl, sym, ap}
use Rattle.std.proofs.Common.{◌∙◌, subst, append_assoc, append-nil, arith, length, map, take}
use Rattle.std.proofs.Common.{get_or, nat_lt, nat_le}
use Rattle.std.specs.List.{list_all}
use Rattle.std.specs.Option.{option_map}
use Rattle.std.specs.Char.{digit_value}
use Rattle.std.specs.Int.{IsInRange}
use Rattle.std.proofs.lemmas.Str.{digit_value_digit}
use Rattle.std.proofs.lemmas.Str.Parse.{digits_value-take-le}
use Rattle.std.proofs.lemmas.Int.Digits.{digits_value_more}
use Rattle.quantity.proofs.DigitLemmas.{both}
use Rattle.run_model.specs.CellStep.{PortState}
use Rattle.std.specs.Str.Parse.{digits_value}
use Rattle.std.proofs.lemmas.Bool.Decides.{nat_tests}
use Rattle.quantity.specs.declared.bounds.TheConstants.{MAX_TIME}
use Rattle.quantity.specs.declared.value.Value.{Value}
use Rattle.quantity.specs.Bytes.{Bytes}
use Rattle.quantity.specs.ValueTexts.{guessed_value}
use Rattle.quantity.specs.Written.{for_some, is_digit, number_at_most, number_up_to}
use Rattle.text_forms.specs.StateOf.{all_in, pairs_in, port_state_in, ports_in}
use Rattle.state_lines.specs.Left.{one_in, pair_in, IsReadTo}

-- ---- so many of a kind

-- so many in front
abbrev pub some_in : {A : Type 0} → (List Bytes → Option (A × List Bytes)) → ℕ → List Bytes
    → Option (List A × List Bytes)
some_in one zero ws = Some ([], ws)
some_in one (suc n) ws =
    for_some (one ws) (λ (x, rest). for_some (some_in one n rest) (λ (xs, rest). Some (
      x ∷ xs,
      rest,
    )))

-- these, and then those that are read
abbrev pub ahead : {A : Type 0} → List A → Option (List A × List Bytes)
    → Option (List A × List Bytes)
ahead xs None = None
ahead xs (Some (ys, rest)) = Some (xs ++ ys, rest)

abbrev pub all_ahead : {A : Type 0} → List A → Option (List A) → Option (List A)
all_ahead xs None = None
all_ahead xs (Some ys) = Some (xs ++ ys)

pub ahead_one : {A : Type 0} (one : List Bytes → Option (A × List Bytes)) (n : ℕ)
    (ws rest : List Bytes) (xs : List A) (x : A) → one ws ≡ Some (x, rest)
    → ahead xs (some_in one (suc n) ws) ≡ ahead (xs ++ x ∷ []) (some_in one n rest)
ahead_one {A = A} one n ws rest xs x e =
    ap (λ o. ahead xs (for_some o (λ (x, rest). for_some (some_in one n rest)
    (λ (xs, rest). Some (x ∷ xs, rest))))) e ∙ by (some_in one n rest)
  where
    by : (o : Option (List A × List Bytes))
        → ahead xs (for_some o (λ (xs, rest). Some (x ∷ xs, rest))) ≡ ahead (xs ++ x ∷ []) o
    by None = refl
    by (Some (ys, r)) = ap (λ zs. let s : Option (List A × List Bytes) = Some (zs, r) in
        s) (sym (append_assoc xs (x ∷ []) ys))

pub ahead_none : {A : Type 0} (one : List Bytes → Option (A × List Bytes)) (n : ℕ) (ws : List Bytes)
    (xs : List A) → one ws ≡ None → ahead xs (some_in one (suc n) ws) ≡ None
ahead_none one n ws xs e =
    ap (λ o. ahead xs (for_some o (λ (x, rest). for_some (some_in one n rest)
    (λ (xs, rest). Some (x ∷ xs, rest))))) e

pub all_one : {A : Type 0} (read : Bytes → Option A) (w : Bytes) (ws : List Bytes) (xs : List A)
    (x : A) → read w ≡ Some x → all_ahead xs (all_in read (w ∷ ws)) ≡ all_ahead (xs
    ++ x ∷ []) (all_in read ws)
all_one {A = A} read w ws xs x e =
    ap (λ o. all_ahead xs (for_some o (λ x. for_some (all_in read ws) (λ xs. Some (x ∷ xs))))) e
    ∙ by (all_in read ws)
  where
    by : (o : Option (List A)) → all_ahead xs (for_some o (λ xs. Some (x ∷ xs))) ≡ all_ahead (xs
        ++ x ∷ []) o
    by None = refl
    by (Some ys) = ap Some (sym (append_assoc xs (x ∷ []) ys))

pub all_none : {A : Type 0} (read : Bytes → Option A) (w : Bytes) (ws : List Bytes) (xs : List A)
    → read w ≡ None → all_ahead xs (all_in read (w ∷ ws)) ≡ None
all_none read w ws xs e =
    ap (λ o. all_ahead xs (for_some o (λ x. for_some (all_in read ws) (λ xs. Some (x ∷ xs))))) e

-- ---- a loop over so many

pub one_less : {A : Type 0} (one : List Bytes → Option (A × List Bytes)) (m : ℕ)
    (ws rest : List Bytes) (xs ys : List A) (x : A) → 0 < m → one ws ≡ Some (x, rest) → ys ≡ xs
    ++ x ∷ [] → ahead xs (some_in one m ws) ≡ ahead ys (some_in one (m - 1) rest)
one_less one zero ws rest xs ys x h e f = absurd (none h)
  where
    none : 0 < 0 → ⊥
    none h = omega (arith, h)
one_less one (suc n) ws rest xs ys x h e f = ahead_one one n ws rest xs x e
    ∙ ap (λ zs. ahead zs (some_in one n rest)) (sym f)
    ∙ ap (λ k. ahead ys (some_in one k rest)) (less n)
  where
    less : (n : ℕ) → n ≡ suc n - 1
    less n = omega arith

pub none_left : {A : Type 0} (one : List Bytes → Option (A × List Bytes)) (m : ℕ) (ws : List Bytes)
    (xs : List A) → 0 < m → one ws ≡ None → ahead xs (some_in one m ws) ≡ None
none_left one zero ws xs h e = absurd (none h)
  where
    none : 0 < 0 → ⊥
    none h = omega (arith, h)
none_left one (suc n) ws xs h e = ahead_none one n ws xs e

pub at_end : {A : Type 0} (one : List Bytes → Option (A × List Bytes)) (m : ℕ) (ws : List Bytes)
    (xs : List A) → m ≤ 0 → ahead xs (some_in one m ws) ≡ Some (xs, ws)
at_end {A = A} one zero ws xs h = ap (λ zs. let s : Option (List A × List Bytes) = Some (zs, ws) in
    s) (append-nil xs)
at_end one (suc n) ws xs h = absurd (none n h)
  where
    none : (n : ℕ) → suc n ≤ 0 → ⊥
    none n h = omega (arith, h)

-- ---- pairs and ports

abbrev Ports : Type 0
Ports = Option (List PortState × List Bytes)

port_step : (a b : List Bytes → Ports) → ((ws : List Bytes) → a ws ≡ b ws)
    → (o : Option (PortState × List Bytes))
    → for_some {B = List PortState
    × List Bytes} o (λ (p, rest). for_some (a rest) (λ (ps, rest). Some (p ∷ ps, rest)))
    ≡ for_some {B = List PortState
    × List Bytes} o (λ (p, rest). for_some (b rest) (λ (ps, rest). Some (p ∷ ps, rest)))
port_step a b h None = refl
port_step a b h (Some p) =
    ap (λ (o : Ports). for_some {B = List PortState
    × List Bytes} o (λ (ps, rest). Some (p.0 ∷ ps, rest))) (h p.1)

pub ports_are : (n : ℕ) (ws : List Bytes) → ports_in n ws ≡ some_in port_state_in n ws
ports_are zero ws = refl
ports_are (suc n) ws = port_step (ports_in n) (some_in port_state_in n) (ports_are n) (port_state_in ws)

abbrev Pairs : Type 0
Pairs = Option (List (ℕ × Value) × List Bytes)

-- the pair and the others
abbrev then : (List Bytes → Pairs) → Option ((ℕ × Value) × List Bytes) → Pairs
then more o = for_some {B = List (ℕ × Value) × List Bytes} o (λ (x, rest). for_some {B =
    List (ℕ × Value) × List Bytes} (more rest) (λ (xs, rest). Some (x ∷ xs, rest)))

-- a time that is read, and a value behind it
abbrev with_time : List Bytes → Option ℕ → Option ((ℕ × Value) × List Bytes)
with_time ws o =
    for_some {B = (ℕ × Value) × List Bytes} (for_some {B = ℕ × List Bytes} o (λ x. Some (x, ws)))
    (λ (t, rest). for_some {B = (ℕ × Value) × List Bytes} (one_in guessed_value rest)
    (λ (v, rest). Some ((t, v), rest)))

no_value : (more : List Bytes → Pairs) (o : Option ℕ) → None ≡ then more (with_time [] o)
no_value more None = refl
no_value more (Some t) = refl

pair_step : (more others : List Bytes → Pairs) (v : Bytes) (ws : List Bytes) → more ws ≡ others ws
    → (o : Option ℕ) (p : Option Value)
    → guessed_value v ≡ p
    → for_some {B = List (ℕ × Value) × List Bytes} o (λ t. for_some {B = List (ℕ × Value)
    × List Bytes} (guessed_value v) (λ v. for_some {B = List (ℕ × Value)
    × List Bytes} (more ws) (λ (ps, rest). Some ((t, v) ∷ ps, rest))))
    ≡ then others (with_time (v ∷ ws) o)
pair_step more others v ws h None p e = refl
pair_step more others v ws h (Some t) None e =
    ap (λ o. for_some {B = List (ℕ × Value) × List Bytes} o (λ v. for_some {B = List (ℕ × Value)
    × List Bytes} (more ws) (λ (ps, rest). Some ((t, v) ∷ ps, rest)))) e
    ∙ sym (ap (λ (o : Option Value). then others (for_some {B = (ℕ × Value)
    × List Bytes} (for_some {B = Value × List Bytes} o (λ x. Some (x, ws)))
    (λ (v, rest). Some ((t, v), rest)))) e)
pair_step more others v ws h (Some t) (Some x) e =
    ap (λ o. for_some {B = List (ℕ × Value) × List Bytes} o (λ v. for_some {B = List (ℕ × Value)
    × List Bytes} (more ws) (λ (ps, rest). Some ((t, v) ∷ ps, rest)))) e
    ∙ ap (λ (o : Pairs). for_some {B = List (ℕ × Value)
    × List Bytes} o (λ (ps, rest). Some ((t, x) ∷ ps, rest))) h
    ∙ sym (ap (λ (o : Option Value). then others (for_some {B = (ℕ × Value)
    × List Bytes} (for_some {B = Value × List Bytes} o (λ x. Some (x, ws)))
    (λ (v, rest). Some ((t, v), rest)))) e)

pub pairs_are : (n : ℕ) (ws : List Bytes) → pairs_in n ws ≡ some_in pair_in n ws
pairs_are zero ws = refl
pairs_are (suc n) [] = refl
pairs_are (suc n) (t ∷ []) = no_value (some_in pair_in n) (number_up_to MAX_TIME t)
pairs_are (suc n) (t ∷ v ∷ ws) =
    pair_step (pairs_in n) (some_in pair_in n) v ws (pairs_are n ws) (number_up_to MAX_TIME t)
    (guessed_value v) refl

-- ---- numbers

and_last : (a : Bool) → (a && true) ≡ (true && a)
and_last true = refl
and_last false = refl

and_first : (a b c : Bool) → (a && (b && c)) ≡ ((a && b) && c)
and_first true b c = refl
and_first false b c = refl

pub more_digits : (bs : Bytes) (i : ℕ) → i < length bs → list_all is_digit (take (suc i) bs)
    ≡ (list_all is_digit (take i bs) && is_digit (get_or bs i 0))
more_digits [] i h = absurd (none i h)
  where
    none : (i : ℕ) → i < 0 → ⊥
    none i h = omega (arith, h)
more_digits (b ∷ bs) zero h = and_last (is_digit b)
more_digits (b ∷ bs) (suc i) h = ap (λ x. is_digit b && x) (more_digits bs i (omega (arith, h)))
    ∙ and_first (is_digit b) (list_all is_digit (take i bs)) (is_digit (get_or bs i 0))

next : (i : ℕ) → i + 1 ≡ suc i
next i = omega arith

all_so_far : (a b : Bool) → a ≡ true → b ≡ true → (a && b) ≡ true
all_so_far a b e f = ap (λ x. x && b) e ∙ f

stands : (c : ℕ) → is_digit c ≡ true → digit_value c ≡ c - 48
stands c h = let k = both (nat_le 48 c) (nat_le c 57) h in by (digit_value_digit c (range k.0 k.1))
  where
    range : nat_le 48 c ≡ true → nat_le c 57 ≡ true → IsInRange 48 57 c
    range a b = grind (arith, nat_tests)

    by : digit_value c + 48 ≡ c → digit_value c ≡ c - 48
    by e = omega (arith, e)

pub record Counted (bs : Bytes) (i number : ℕ) : Type 0 where
  pub digits : list_all is_digit (take (i + 1) bs) ≡ true
  pub value : number ≡ digits_value 10 (take (i + 1) bs)

pub counted : (bs : Bytes) (i number r : ℕ) → i < length bs → list_all is_digit (take i bs) ≡ true
    → number ≡ digits_value 10 (take i bs) → is_digit (get_or bs i 0) ≡ true
    → r ≡ get_or bs i 0 - 48 → Counted bs i (number * 10 + r)
counted bs i number r h digits value digit is = record {
  digits = ap (λ n. list_all is_digit (take n bs)) (next i) ∙ more_digits bs i h
      ∙ all_so_far (list_all is_digit (take i bs)) (is_digit (get_or bs i 0)) digits digit;
  value = ap (λ n. n * 10 + r) value ∙ ap (λ n. digits_value 10 (take i bs) * 10 + n) (is
      ∙ sym (stands (get_or bs i 0) digit)) ∙ sym (digits_value_more 10 bs i h);
}

pub too_large : (most number i : ℕ) (bs : Bytes) → most < number
    → number ≡ digits_value 10 (take i bs) → None ≡ number_up_to most bs
too_large most number i bs h e = by (list_all is_digit bs && nat_lt 0 (length bs))
  where
    large : nat_le (digits_value 10 bs) most ≡ false
    large = let le = digits_value-take-le 10 bs i (omega arith) in
        test (digits_value 10 bs) (omega (arith, le, h, e))
      where
        test : (v : ℕ) → most < v → nat_le v most ≡ false
        test v h = grind (arith, nat_tests)

    by : (b : Bool) → None ≡ cond b (number_at_most most (digits_value 10 bs)) None
    by true = sym (ap (λ b. cond b (Some (digits_value 10 bs)) None) large)
    by false = refl

-- ---- a port

chain_by : {A B : Type 0} (ws : List Bytes) (go : A × List Bytes → Option B) (o : Option A)
    → for_some {B = B} (for_some {B = A × List Bytes} o (λ x. Some (x, ws))) go
    ≡ for_some o (λ x. go (x, ws))
chain_by ws go None = refl
chain_by ws go (Some x) = refl

chain : {A B : Type 0} (read : Bytes → Option A) (w : Bytes) (ws : List Bytes) (go : A × List Bytes
    → Option B) → for_some (one_in read (w ∷ ws)) go ≡ for_some (read w) (λ x. go (x, ws))
chain read w ws go = chain_by ws go (read w)

nothing : {A B : Type 0} (o : Option A) → for_some {B = B} o (λ x. None) ≡ None
nothing None = refl
nothing (Some x) = refl

abbrev pub Port : Type 0
Port = PortState × List Bytes

abbrev pub with_pairs : Value → Value → Option (List (ℕ × Value) × List Bytes) → Option Port
with_pairs e s o = for_some {B =
    Port} o (λ (ps, rest). Some (record { emitted = e; computed = s; pairs = ps }, rest))

abbrev pub with_count : Value → Value → ℕ × List Bytes → Option Port
with_count e s p = with_pairs e s (pairs_in p.0 p.1)

abbrev pub with_computed : Value → Value × List Bytes → Option Port
with_computed e p = for_some (one_in (number_up_to (10 ^ 9)) p.1) (with_count e p.0)

abbrev pub with_emitted : Value × List Bytes → Option Port
with_emitted p = for_some (one_in guessed_value p.1) (with_computed p.0)

pub port_is : (ws : List Bytes) → port_state_in ws ≡ for_some (one_in guessed_value ws) with_emitted
port_is [] = refl
port_is (e ∷ []) = sym (chain guessed_value e [] with_emitted ∙ nothing (guessed_value e))
port_is (e ∷ s ∷ []) =
    sym (chain guessed_value e (s ∷ []) with_emitted
    ∙ (λ i. for_some (guessed_value e) (λ x. (chain guessed_value s [] (with_computed x)
    ∙ nothing (guessed_value s)) i))
    ∙ nothing (guessed_value e))
port_is (e ∷ s ∷ n ∷ ws) =
    sym (chain guessed_value e (s ∷ n ∷ ws) with_emitted
    ∙ (λ i. for_some (guessed_value e) (λ x. (chain guessed_value s (n ∷ ws) (with_computed x)
    ∙ (λ j. for_some (guessed_value s) (λ y. chain (number_up_to (10 ^ 9)) n ws (with_count x y)
    j))) i)))

pub no_computed : (ws r : List Bytes) (e : Value) → one_in guessed_value ws ≡ Some (e, r)
    → one_in guessed_value r ≡ None → port_state_in ws ≡ None
no_computed ws r e a b = port_is ws ∙ ap (λ o. for_some o with_emitted) a
    ∙ ap (λ o. for_some o (with_computed e)) b

pub no_count : (ws r q : List Bytes) (e s : Value) → one_in guessed_value ws ≡ Some (e, r)
    → one_in guessed_value r ≡ Some (s, q) → one_in (number_up_to (10 ^ 9)) q ≡ None
    → port_state_in ws ≡ None
no_count ws r q e s a b c = port_is ws ∙ ap (λ o. for_some o with_emitted) a
    ∙ ap (λ o. for_some o (with_computed e)) b ∙ ap (λ o. for_some o (with_count e s)) c

pub then_pairs : (ws r q p : List Bytes) (e s : Value) (n : ℕ) (o : Option (List (ℕ × Value)
    × List Bytes)) → one_in guessed_value ws ≡ Some (e, r) → one_in guessed_value r ≡ Some (s, q)
    → one_in (number_up_to (10 ^ 9)) q ≡ Some (n, p) → pairs_in n p ≡ o
    → port_state_in ws ≡ with_pairs e s o
then_pairs ws r q p e s n o a b c d = port_is ws ∙ ap (λ o. for_some o with_emitted) a
    ∙ ap (λ o. for_some o (with_computed e)) b ∙ ap (λ o. for_some o (with_count e s)) c
    ∙ ap (with_pairs e s) d

pub map_more : {A B : Type 0} (f : A → B) (xs ys : List A) (x : A) → ys ≡ xs ++ x ∷ []
    → map f ys ≡ map f xs ++ f x ∷ []
map_more f xs ys x e = ap (map f) e ∙ by xs
  where
    by : (xs : List _) → map f (xs ++ x ∷ []) ≡ map f xs ++ f x ∷ []
    by [] = refl
    by (y ∷ ys) = ap (λ zs. f y ∷ zs) (by ys)

-- ---- what an answer says, where it is known

pub read_some : {A B : Type 0} (f : B → A) (read : Option (A × List Bytes)) (left : List Bytes)
    (o : Option B) (x : B) → IsReadTo read left (option_map f o) → o ≡ Some x
    → read ≡ Some (f x, left)
read_some f read left o x h e = subst (λ o. IsReadTo read left (option_map f o)) e h

pub read_no : {A B : Type 0} (f : B → A) (read : Option (A × List Bytes)) (left : List Bytes)
    (o : Option B) → IsReadTo read left (option_map f o) → o ≡ None → read ≡ None
read_no f read left o h e = subst (λ o. IsReadTo read left (option_map f o)) e h
