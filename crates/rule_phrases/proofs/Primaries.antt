-- What stands in parentheses is read one level of parentheses deeper.
use Rattle.std.proofs.Common.{◌≡◌, ◌<◌, ◌≤◌, ℕ, zero, suc, Option, Some, None, List, length, refl, sym, ap, subst, arith}
use Rattle.std.specs.Option.{option_or}
use Rattle.rule_words.specs.declared.level.Level as L
use Rattle.rule_words.specs.declared.level.Level.TheVariants.{Expression, Disjunction, Conjunction, Negation, Comparison, Sum, Product, Signed, Primary}
use Rattle.rule_tree.specs.declared.function.Function.{Function}
use Rattle.rule_phrases.specs.declared.front.Front.{Front}
use Rattle.rule_words.specs.Tokens.{Token}
use Rattle.rule_tree.specs.Phrases.{Level, Phrase, expr, disj, conj, neg, comp, sum, prod, signed, primary, tighter}
use Rattle.rule_tree.specs.Scope.{Names}
use Rattle.rule_words.specs.Reading.{Prefix}
use Rattle.rule_words.specs.Descent.{Reader, then_on, atom_before, opening_before, reader_in_parentheses, primary_before, enclosed_before, call_before, signed_operand, at_level, expression_reader}
use Rattle.rule_phrases.specs.Between.{operands_before, sign_at}
use Rattle.rule_words.specs.Shown.{level_of, token_of, tokens_of}
use Rattle.rule_words.specs.declared.token.Token as T
use Rattle.std.proofs.lemmas.List.{length-map}
use Rattle.std.specs.Option.{IfSome}
use Rattle.rule_phrases.specs.Terms.{IsFront}

-- how many levels are tighter
abbrev pub tighter_than : Level → ℕ
tighter_than expr = 8
tighter_than disj = 7
tighter_than conj = 6
tighter_than neg = 5
tighter_than comp = 4
tighter_than sum = 3
tighter_than prod = 2
tighter_than signed = 1
tighter_than primary = 0

abbrev pub looseness : L.Level → ℕ
looseness l = tighter_than (level_of l)

pub deeper : (names : Names) (read : Reader → Prefix Phrase) (o : Option Front) (n m : ℕ) → m < n → ((k : ℕ) → m ≤ k → IsFront names (read (at_level (expression_reader k) expr)) o) → IsFront names (read (expression_reader n)) o
deeper names read o zero m h found = absurd (omega arith)
deeper names read o (suc k) m h found = found k (omega arith)

pub atom_is_primary : (names : Names) (read : Reader) (ts : List Token) (a : Front) → IsFront names (atom_before ts) (Some a) → IsFront names (primary_before read ts) (Some a)
atom_is_primary names read ts a = go (atom_before ts)
  where
    go : (p : Prefix Phrase) → IsFront names p (Some a) → IsFront names (option_or p (then_on (opening_before ts) (reader_in_parentheses read))) (Some a)
    go None h = absurd h
    go (Some p) h = h

pub no_primary : (names : Names) (read : Reader) (ts : List Token) → IsFront names (atom_before ts) None → None ≡ opening_before ts → IsFront names (primary_before read ts) None
no_primary names read ts h e = go (atom_before ts) (opening_before ts) h e
  where
    go : (p : Prefix Phrase) (q : Prefix (Option Function)) → IsFront names p None → None ≡ q → IsFront names (option_or p (then_on q (reader_in_parentheses read))) None
    go (Some p) q h e = absurd h
    go None None h e = tt
    go None (Some q) h e = absurd (cc)

pub opened_is_primary : (names : Names) (read : Reader) (ts us : List Token) (f : Option Function) (o : Option Front) → IsFront names (atom_before ts) None → Some (f, us) ≡ opening_before ts → IsFront names (reader_in_parentheses read f us) o → IsFront names (primary_before read ts) o
opened_is_primary names read ts us f o h e i = go (atom_before ts) h
  where
    open_first : then_on (opening_before ts) (reader_in_parentheses read) ≡ reader_in_parentheses read f us
    open_first = ap (λ (q : Prefix (Option Function)). then_on q (reader_in_parentheses read)) (sym e)

    go : (p : Prefix Phrase) → IsFront names p None → IsFront names (option_or p (then_on (opening_before ts) (reader_in_parentheses read))) o
    go (Some p) h = absurd h
    go None h = let Q : Prefix Phrase → Type 0 = λ q. IsFront names q o in subst Q (sym open_first) i

-- ---- behind an opening parenthesis

pub enclosed_is_primary : (names : Names) (n m : ℕ) (ts us : List Token) (f : Option Function) (o : Option Front) → IsFront names (atom_before ts) None → Some (f, us) ≡ opening_before ts → f ≡ None → m < n → ((k : ℕ) → m ≤ k → IsFront names (enclosed_before (at_level (expression_reader k) expr) us) o) → IsFront names (primary_before (expression_reader n) ts) o
enclosed_is_primary names n m ts us f o h e is lt found =
    let Q : Option Function → Type 0 = λ f. IsFront names (reader_in_parentheses (expression_reader n) f us) o in
    opened_is_primary names (expression_reader n) ts us f o h e (subst Q (sym is) (deeper names (λ read. enclosed_before read us) o n m lt found))

pub call_is_primary : (names : Names) (n m : ℕ) (ts us : List Token) (f : Option Function) (g : Function) (o : Option Front) → IsFront names (atom_before ts) None → Some (f, us) ≡ opening_before ts → f ≡ Some g → m < n → ((k : ℕ) → m ≤ k → IsFront names (call_before g (at_level (expression_reader k) expr) us) o) → IsFront names (primary_before (expression_reader n) ts) o
call_is_primary names n m ts us f g o h e is lt found =
    let Q : Option Function → Type 0 = λ f. IsFront names (reader_in_parentheses (expression_reader n) f us) o in
    opened_is_primary names (expression_reader n) ts us f o h e (subst Q (sym is) (deeper names (λ read. call_before g read us) o n m lt found))

-- ---- levels

pub at_negation : (names : Names) (l k : L.Level) (read : Reader) (ts : List Token) (o : Option Front) → l ≡ Negation → level_of k ≡ tighter (level_of l) → IsFront names (signed_operand (sign_at (level_of l)) (at_level read (level_of k)) ts) o → IsFront names (at_level read (level_of l) ts) o
at_negation names l k read ts o e t h =
    let Q : L.Level → Type 0 = λ l. IsFront names (signed_operand (sign_at (level_of l)) (at_level read (tighter (level_of l))) ts) o → IsFront names (at_level read (level_of l) ts) o in
    subst Q (sym e) (λ h. h) (subst (λ (p : Level). IsFront names (signed_operand (sign_at (level_of l)) (at_level read p) ts) o) t h)

pub at_signed : (names : Names) (l k : L.Level) (read : Reader) (ts : List Token) (o : Option Front) → l ≡ Signed → level_of k ≡ tighter (level_of l) → IsFront names (signed_operand (sign_at (level_of l)) (at_level read (level_of k)) ts) o → IsFront names (at_level read (level_of l) ts) o
at_signed names l k read ts o e t h =
    let Q : L.Level → Type 0 = λ l. IsFront names (signed_operand (sign_at (level_of l)) (at_level read (tighter (level_of l))) ts) o → IsFront names (at_level read (level_of l) ts) o in
    subst Q (sym e) (λ h. h) (subst (λ (p : Level). IsFront names (signed_operand (sign_at (level_of l)) (at_level read p) ts) o) t h)

pub at_operands : (names : Names) (l k : L.Level) (read : Reader) (ts : List Token) (o : Option Front) → level_of k ≡ tighter (level_of l) → ((l ≡ Negation) → ⊥) → ((l ≡ Signed) → ⊥) → ((l ≡ Primary) → ⊥)
    → IsFront names (operands_before (level_of l) (at_level read (level_of k)) ts) o → IsFront names (at_level read (level_of l) ts) o
at_operands names l k read ts o t n s p h =
    at l n s p (subst (λ (q : Level). IsFront names (operands_before (level_of l) (at_level read q) ts) o) t h)
  where
    at : (l : L.Level) → ((l ≡ Negation) → ⊥) → ((l ≡ Signed) → ⊥) → ((l ≡ Primary) → ⊥) → IsFront names (operands_before (level_of l) (at_level read (tighter (level_of l))) ts) o → IsFront names (at_level read (level_of l) ts) o
    at Expression n s p h = h
    at Disjunction n s p h = h
    at Conjunction n s p h = h
    at Negation n s p h = absurd (n refl)
    at Comparison n s p h = h
    at Sum n s p h = h
    at Product n s p h = h
    at Signed n s p h = absurd (s refl)
    at Primary n s p h = absurd (p refl)

pub at_primary : (names : Names) (l : L.Level) (read : Reader) (ts : List Token) (o : Option Front) → l ≡ Primary → IsFront names (primary_before read ts) o → IsFront names (at_level read (level_of l) ts) o
at_primary names l read ts o e h = let Q : L.Level → Type 0 = λ l. IsFront names (at_level read (level_of l) ts) o in subst Q (sym e) h

-- ---- tokens

pub tokens_length : (ts : List T.Token) → length (tokens_of ts) ≡ length ts
tokens_length ts = length-map ts token_of

pub shorter_at : (o : Option Front) (f : Front) (n : ℕ) → IfSome o (λ f. length f.rest.now < n) → o ≡ Some f → length f.rest.now < n
shorter_at o f n h e = let Q : Option Front → Type 0 = λ o. IfSome o (λ f. length f.rest.now < n) in subst Q e h
