-- Tokens that are cut at semicolons.
use Rattle.std.proofs.Common.{◌≡◌, ℕ, suc, Result, Ok, Err, IfOk, Vec, arith, Bool, true, false, cond, not, Some, None, List, [], ◌∷◌, ◌++◌, map, length, refl, sym, ap, ◌∙◌}
use Rattle.std.specs.Prelude.{◌==◌}
use Rattle.std.proofs.lemmas.Bool.Decides.{nat_tests}
use Rattle.std.specs.Bool.{then_some}
use Rattle.std.specs.Borrow.{Bor}
use Rattle.std.specs.List.{slice_split, onto_first}
use Rattle.std.specs.Option.{option_map}
use Rattle.quantity.specs.Bytes.{is_empty}
use Rattle.rule_words.specs.Reading.{ended_parts}
use Rattle.rule_syntax.specs.RulesRead.{shown_parts, some_parts}
use Rattle.rule_words.specs.Shown.{token_of, tokens_of}
use Rattle.rule_words.specs.Tokens.{Token}
use Rattle.rule_words.specs.declared.token.Token as T

-- ---- parts of what tokens stand for

first_mapped : {A B : Type 0} (f : A → B) (x : A) (ps : List (List A)) → onto_first (f x) (map (map f) ps) ≡ map (map f) (onto_first x ps)
first_mapped f x [] = refl
first_mapped f x (p ∷ ps) = refl

split_by : {A B : Type 0} (f : A → B) (x : A) (ps : List (List A)) (qs : List (List B)) (b : Bool) → qs ≡ map (map f) ps
    → cond b ([] ∷ qs) (onto_first (f x) qs) ≡ map (map f) (cond b ([] ∷ ps) (onto_first x ps))
split_by f x ps qs true e = ap (λ rs. [] ∷ rs) e
split_by f x ps qs false e = ap (onto_first (f x)) e ∙ first_mapped f x ps

split_mapped : {A B : Type 0} (p : B → Bool) (f : A → B) (xs : List A) → slice_split p (map f xs) ≡ map (map f) (slice_split (λ x. p (f x)) xs)
split_mapped p f [] = refl
split_mapped p f (x ∷ xs) = split_by f x (slice_split (λ y. p (f y)) xs) (slice_split p (map f xs)) (p (f x)) (split_mapped p f xs)

behind_shown : (parts : List (Bor (List T.Token))) → map tokens_of (map (λ (p : Bor (List T.Token)). p.now) parts) ≡ shown_parts parts
behind_shown [] = refl
behind_shown (p ∷ ps) = ap (λ qs. tokens_of p.now ∷ qs) (behind_shown ps)

pub parts_shown : (p : Token → Bool) (ts : List T.Token) (parts : List (Bor (List T.Token))) → map (λ (r : Bor (List T.Token)). r.now) parts ≡ slice_split (λ t. p (token_of t)) ts
    → shown_parts parts ≡ slice_split p (tokens_of ts)
parts_shown p ts parts e = sym (behind_shown parts) ∙ ap (map tokens_of) e ∙ sym (split_mapped p token_of ts)

-- ---- parts that a semicolon ends

ended_behind : (ps : List (List Token)) (p : List Token) → ended_parts (ps ++ p ∷ []) ≡ then_some (is_empty p) ps
ended_behind [] p = refl
ended_behind (q ∷ []) p = go (is_empty p)
  where
    go : (b : Bool) → option_map (λ rest. q ∷ rest) (then_some b []) ≡ then_some b (q ∷ [])
    go true = refl
    go false = refl
ended_behind (q ∷ r ∷ ps) p = ap (option_map (λ rest. q ∷ rest)) (ended_behind (r ∷ ps) p) ∙ go (is_empty p)
  where
    go : (b : Bool) → option_map (λ rest. q ∷ rest) (then_some b (r ∷ ps)) ≡ then_some b (q ∷ r ∷ ps)
    go true = refl
    go false = refl

shown_behind : (ps : List (Bor (List T.Token))) (p : Bor (List T.Token)) → shown_parts (ps ++ p ∷ []) ≡ shown_parts ps ++ tokens_of p.now ∷ []
shown_behind [] p = refl
shown_behind (q ∷ qs) p = ap (λ rs. tokens_of q.now ∷ rs) (shown_behind qs p)

pub shown_empty : (ts : List T.Token) → is_empty (tokens_of ts) ≡ is_empty ts
shown_empty [] = refl
shown_empty (t ∷ ts) = refl

parts_empty : (ps : List (Bor (List T.Token))) → is_empty (shown_parts ps) ≡ is_empty ps
parts_empty [] = refl
parts_empty (p ∷ ps) = refl

ended_by : (parts ended : List (Bor (List T.Token))) (left : Bor (List T.Token)) → parts ≡ ended ++ left ∷ [] → some_parts (ended_parts (shown_parts parts)) ≡ some_parts (then_some (is_empty left.now) (shown_parts ended))
ended_by parts ended left e = ap some_parts (ap (λ ps. ended_parts (shown_parts ps)) e ∙ ap ended_parts (shown_behind ended left) ∙ ended_behind (shown_parts ended) (tokens_of left.now) ∙ ap (λ b. then_some b (shown_parts ended)) (shown_empty left.now))

pub parts_ended : (parts ended : List (Bor (List T.Token))) (left : Bor (List T.Token)) → parts ≡ ended ++ left ∷ [] → is_empty left.now ≡ true → is_empty ended ≡ false → Some (shown_parts ended) ≡ some_parts (ended_parts (shown_parts parts))
parts_ended parts ended left e a b =
    sym (ended_by parts ended left e ∙ ap (λ c. some_parts (then_some c (shown_parts ended))) a ∙ ap (λ c. then_some (not c) (shown_parts ended)) (parts_empty ended ∙ b))

pub parts_left : (parts ended : List (Bor (List T.Token))) (left : Bor (List T.Token)) → parts ≡ ended ++ left ∷ [] → is_empty left.now ≡ false → None ≡ some_parts (ended_parts (shown_parts parts))
parts_left parts ended left e a = sym (ended_by parts ended left e ∙ ap (λ c. some_parts (then_some c (shown_parts ended))) a)

pub no_parts_ended : (parts ended : List (Bor (List T.Token))) (left : Bor (List T.Token)) → parts ≡ ended ++ left ∷ [] → is_empty ended ≡ true → None ≡ some_parts (ended_parts (shown_parts parts))
no_parts_ended parts ended left e a =
    sym (ended_by parts ended left e ∙ go (is_empty left.now) (parts_empty ended ∙ a))
  where
    go : (b : Bool) → is_empty (shown_parts ended) ≡ true → some_parts (then_some b (shown_parts ended)) ≡ None
    go true f = ap (λ c. then_some (not c) (shown_parts ended)) f
    go false f = refl

some_length : (n : ℕ) → (suc n == 0) ≡ false
some_length n = grind (arith, nat_tests)

pub empty_by : {A : Type 0} (xs : List A) (b : Bool) → (length xs == 0) ≡ b → is_empty xs ≡ b
empty_by [] b e = e
empty_by (x ∷ xs) b e = sym (some_length (length xs)) ∙ e

pub parts_collected : {Z E : Type 0} (p : Token → Bool) (ts : List T.Token) (r : Result (Vec (Bor (List T.Token)) Z) E)
    → IfOk r (λ v. map (λ (q : Bor (List T.Token)). q.now) v.items ≡ slice_split (λ t. p (token_of t)) ts) → IfOk r (λ v. shown_parts v.items ≡ slice_split p (tokens_of ts))
parts_collected p ts (Ok v) e = parts_shown p ts v.items e
parts_collected p ts (Err why) e = tt
