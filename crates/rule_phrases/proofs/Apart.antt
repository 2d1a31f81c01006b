-- No operator of a looser level stands in a phrase outside parentheses, and no comma does.
use Rattle.std.proofs.Common.{◌≡◌, ℕ, ◌<◌, ◌≤◌, true, false, Option, Some, None, List, [], ◌∷◌, refl, sym, ◌∙◌, arith}
use Rattle.std.specs.Prelude.{codes}
use Rattle.std.specs.List.{AllByRecursion}
use Rattle.quantity.specs.Bytes.{Bytes, is_among}
use Rattle.rule_tree.specs.declared.node.Binary.{Binary}
use Rattle.rule_words.specs.Tokens.{Token, word, number, mark, is_mark}
use Rattle.rule_tree.specs.Phrases.{Phrase, Level, expr, disj, conj, neg, comp, sum, prod, signed, primary, tighter, left_of, operator_words, operator_marks, looked_up}
use Rattle.rule_words.specs.Grammar.{Joins, IsPhrase}
use Rattle.rule_words.specs.Reading.{operator_in, ends, ends_operand}
use Rattle.rule_phrases.proofs.Nesting.{lookup_all}
use Rattle.rule_phrases.proofs.Outer.{Outer}
use Rattle.rule_phrases.proofs.PhraseTokens.{operator_names, Suits, Spread, spread}
use Rattle.rule_words.proofs.Sound.{none_some, false_true}

-- how tight a level is
abbrev pub rank : Level → ℕ
rank expr = 0
rank disj = 1
rank conj = 2
rank neg = 3
rank comp = 4
rank sum = 5
rank prod = 6
rank signed = 7
rank primary = 8

-- ---- operators of one level are no operators of another

abbrev Apart : (Level → List (Bytes × Binary)) → Level → Level → Type 0
Apart table l k = AllByRecursion (λ (p : Bytes × Binary). looked_up (table l) p.0 ≡ None) (table k)

words_apart : (l k : Level) → rank l < rank k → Apart operator_words l k
words_apart expr disj h = (refl, (refl, tt))
words_apart expr conj h = (refl, tt)
words_apart disj conj h = (refl, tt)
words_apart l expr h = absurd (omega arith)
words_apart l disj h = absurd (omega arith)
words_apart l conj h = absurd (omega arith)
words_apart l neg h = tt
words_apart l comp h = tt
words_apart l sum h = tt
words_apart l prod h = tt
words_apart l signed h = tt
words_apart l primary h = tt

six : {A : Type 0} (x : A) → A × (A × (A × (A × (A × (A × Unit {0})))))
six x = (x, (x, (x, (x, (x, (x, tt))))))

marks_apart : (l k : Level) → rank l < rank k → Apart operator_marks l k
marks_apart expr comp h = (refl, (refl, (refl, (refl, (refl, (refl, tt))))))
marks_apart disj comp h = (refl, (refl, (refl, (refl, (refl, (refl, tt))))))
marks_apart conj comp h = (refl, (refl, (refl, (refl, (refl, (refl, tt))))))
marks_apart neg comp h = (refl, (refl, (refl, (refl, (refl, (refl, tt))))))
marks_apart l comp h = absurd (omega arith)
marks_apart expr sum h = (refl, (refl, tt))
marks_apart disj sum h = (refl, (refl, tt))
marks_apart conj sum h = (refl, (refl, tt))
marks_apart neg sum h = (refl, (refl, tt))
marks_apart comp sum h = (refl, (refl, tt))
marks_apart l sum h = absurd (omega arith)
marks_apart expr prod h = (refl, (refl, tt))
marks_apart disj prod h = (refl, (refl, tt))
marks_apart conj prod h = (refl, (refl, tt))
marks_apart neg prod h = (refl, (refl, tt))
marks_apart comp prod h = (refl, (refl, tt))
marks_apart sum prod h = (refl, (refl, tt))
marks_apart l prod h = absurd (omega arith)
marks_apart l expr h = tt
marks_apart l disj h = tt
marks_apart l conj h = tt
marks_apart l neg h = tt
marks_apart l signed h = tt
marks_apart l primary h = tt

other_level : (l k : Level) (t : Token) (b : Binary) → rank l < rank k → Joins k t b → operator_in l t ≡ None
other_level l k (word w) b h j = lookup_all (λ n. looked_up (operator_words l) n ≡ None) (operator_words k) w b (words_apart l k h) j
other_level l k (number n) b h j = absurd j
other_level l k (mark m) b h j = lookup_all (λ n. looked_up (operator_marks l) n ≡ None) (operator_marks k) m b (marks_apart l k h) j

-- ---- tokens that are no operators

abbrev operator_signs : List Bytes
operator_signs = codes "=" ∷ codes "!=" ∷ codes "<" ∷ codes "<=" ∷ codes ">" ∷ codes ">=" ∷ codes "+" ∷ codes "-" ∷ codes "*" ∷ codes "/" ∷ []

abbrev IsAmong : List Bytes → List (Bytes × Binary) → Type 0
IsAmong names table = AllByRecursion (λ (p : Bytes × Binary). is_among names p.0 ≡ true) table

names_all : (l : Level) → IsAmong operator_names (operator_words l)
names_all expr = (refl, (refl, tt))
names_all disj = (refl, (refl, tt))
names_all conj = (refl, tt)
names_all neg = tt
names_all comp = tt
names_all sum = tt
names_all prod = tt
names_all signed = tt
names_all primary = tt

signs_all : (l : Level) → IsAmong operator_signs (operator_marks l)
signs_all expr = tt
signs_all disj = tt
signs_all conj = tt
signs_all neg = tt
signs_all comp = (refl, (refl, (refl, (refl, (refl, (refl, tt))))))
signs_all sum = (refl, (refl, tt))
signs_all prod = (refl, (refl, tt))
signs_all signed = tt
signs_all primary = tt

absent_from : (names : List Bytes) (table : List (Bytes × Binary)) (w : Bytes) → IsAmong names table → is_among names w ≡ false → looked_up table w ≡ None
absent_from names table w all e = go (looked_up table w) refl
  where
    go : (o : Option Binary) → looked_up table w ≡ o → o ≡ None
    go None h = refl
    go (Some b) h =
        let found : is_among names w ≡ true = lookup_all (λ n. is_among names n ≡ true) table w b all h in
        let wrong : false ≡ true = sym e ∙ found in
        cc

no_word : (l : Level) (w : Bytes) → is_among operator_names w ≡ false → operator_in l (word w) ≡ None
no_word l w e = absent_from operator_names (operator_words l) w (names_all l) e

no_mark : (l : Level) (m : Bytes) → is_among operator_signs m ≡ false → operator_in l (mark m) ≡ None
no_mark l m e = absent_from operator_signs (operator_marks l) m (signs_all l) e

-- ---- a looser level

abbrev pub NotJoined : Level → Option Token → Token → Type 0
NotJoined l o t = ends_operand o ≡ true → operator_in l t ≡ None

abbrev pub Precedes : Level → Option Token → Type 0
Precedes l o = 4 ≤ rank l → ends_operand o ≡ false

abbrev pub IsTighter : Level → Level → Type 0
IsTighter l k = rank l < rank k

closer_rank : (l k : Level) → rank l < rank k → rank l < rank (tighter k)
closer_rank l expr h = omega arith
closer_rank l disj h = omega arith
closer_rank l conj h = omega arith
closer_rank l neg h = omega arith
closer_rank l comp h = omega arith
closer_rank l sum h = omega arith
closer_rank l prod h = omega arith
closer_rank l signed h = omega arith
closer_rank l primary h = h

left_rank : (l k : Level) → rank l < rank k → rank l < rank (left_of k)
left_rank l expr h = h
left_rank l disj h = h
left_rank l conj h = h
left_rank l neg h = h
left_rank l comp h = omega arith
left_rank l sum h = h
left_rank l prod h = h
left_rank l signed h = h
left_rank l primary h = h

-- an operator of arithmetic ends no operand
sign_ends_not : (l k : Level) (t : Token) (b : Binary) → rank l < rank k → 4 ≤ rank l → Joins k t b → ends_operand (Some t) ≡ false
sign_ends_not l sum (word w) b h m j = absurd (none_some j)
sign_ends_not l sum (number n) b h m j = absurd j
sign_ends_not l sum (mark n) b h m j = lookup_all (λ m. ends (mark m) ≡ false) (operator_marks sum) n b (refl, (refl, tt)) j
sign_ends_not l prod (word w) b h m j = absurd (none_some j)
sign_ends_not l prod (number n) b h m j = absurd j
sign_ends_not l prod (mark n) b h m j = lookup_all (λ m. ends (mark m) ≡ false) (operator_marks prod) n b (refl, (refl, tt)) j
sign_ends_not l signed (word w) b h m j = absurd (none_some j)
sign_ends_not l signed (number n) b h m j = absurd j
sign_ends_not l signed (mark n) b h m j = absurd (none_some j)
sign_ends_not l primary (word w) b h m j = absurd (none_some j)
sign_ends_not l primary (number n) b h m j = absurd j
sign_ends_not l primary (mark n) b h m j = absurd (none_some j)
sign_ends_not l expr t b h m j = absurd (omega arith)
sign_ends_not l disj t b h m j = absurd (omega arith)
sign_ends_not l conj t b h m j = absurd (omega arith)
sign_ends_not l neg t b h m j = absurd (omega arith)
sign_ends_not l comp t b h m j = absurd (omega arith)

-- a sign stands where no operand ends
sign_at : (m : Bytes) → is_among (codes "+" ∷ codes "-" ∷ []) m ≡ true → (l : Level) (o : Option Token) → ((l : Level) → rank l < 4 → operator_in l (mark m) ≡ None) → Precedes l o → NotJoined l o (mark m)
sign_at m s expr o none p e = none expr (omega arith)
sign_at m s disj o none p e = none disj (omega arith)
sign_at m s conj o none p e = none conj (omega arith)
sign_at m s neg o none p e = none neg (omega arith)
sign_at m s comp o none p e = let wrong : false ≡ true = sym (p (omega arith)) ∙ e in cc
sign_at m s sum o none p e = let wrong : false ≡ true = sym (p (omega arith)) ∙ e in cc
sign_at m s prod o none p e = let wrong : false ≡ true = sym (p (omega arith)) ∙ e in cc
sign_at m s signed o none p e = let wrong : false ≡ true = sym (p (omega arith)) ∙ e in cc
sign_at m s primary o none p e = let wrong : false ≡ true = sym (p (omega arith)) ∙ e in cc

loose_sign : (m : Bytes) (l : Level) → rank l < 4 → operator_in l (mark m) ≡ None
loose_sign m expr h = refl
loose_sign m disj h = refl
loose_sign m conj h = refl
loose_sign m neg h = refl
loose_sign m comp h = absurd (omega arith)
loose_sign m sum h = absurd (omega arith)
loose_sign m prod h = absurd (omega arith)
loose_sign m signed h = absurd (omega arith)
loose_sign m primary h = absurd (omega arith)

not_joined_suits : (l : Level) → Suits (IsTighter l) (Precedes l) (NotJoined l)
not_joined_suits l =
    record {
      closer = λ k h. closer_rank l k h;
      on_left = λ k h. left_rank l k h;
      joins = λ k t b h j o e. other_level l k t b h j;
      after_join = λ k t b h j m. sign_ends_not l k t b h m j;
      at_not = λ o e. no_word l (codes "not") refl;
      after_not = λ h m. absurd (omega arith);
      at_plus = λ o p. sign_at (codes "+") refl l o (loose_sign (codes "+")) p;
      at_minus = λ o p. sign_at (codes "-") refl l o (loose_sign (codes "-")) p;
      after_plus = λ m. refl;
      after_minus = λ m. refl;
      at_word = λ o w n e. no_word l w n;
      at_number = λ o text e. refl;
      at_question = λ o e. no_mark l (codes "?") refl;
      at_open = λ o e. no_mark l (codes "(") refl;
      at_close = λ o e. no_mark l (codes ")") refl;
      at_dollar = λ o e. no_mark l (codes "$") refl;
      after_dollar = λ w e. absurd (false_true e);
      at_tilde = λ o e. no_mark l (codes "~") refl;
      after_tilde = λ w e. absurd (false_true e);
    }

pub not_joined : (l k : Level) (ts : List Token) (x : Phrase) → rank l < rank k → IsPhrase k ts x → (o : Option Token) → Precedes l o → Outer (NotJoined l) o ts
not_joined l k ts x h p o b = (spread (IsTighter l) (Precedes l) (NotJoined l) (not_joined_suits l) k ts x p).outer h o b

-- ---- commas

abbrev pub NoComma : Option Token → Token → Type 0
NoComma o t = is_mark (codes ",") t ≡ false

join_no_comma : (k : Level) (t : Token) (b : Binary) → Joins k t b → is_mark (codes ",") t ≡ false
join_no_comma k (word w) b j = refl
join_no_comma k (number n) b j = absurd j
join_no_comma expr (mark m) b j = absurd (none_some j)
join_no_comma disj (mark m) b j = absurd (none_some j)
join_no_comma conj (mark m) b j = absurd (none_some j)
join_no_comma neg (mark m) b j = absurd (none_some j)
join_no_comma comp (mark m) b j = lookup_all (λ n. is_mark (codes ",") (mark n) ≡ false) (operator_marks comp) m b (refl, (refl, (refl, (refl, (refl, (refl, tt)))))) j
join_no_comma sum (mark m) b j = lookup_all (λ n. is_mark (codes ",") (mark n) ≡ false) (operator_marks sum) m b (refl, (refl, tt)) j
join_no_comma prod (mark m) b j = lookup_all (λ n. is_mark (codes ",") (mark n) ≡ false) (operator_marks prod) m b (refl, (refl, tt)) j
join_no_comma signed (mark m) b j = absurd (none_some j)
join_no_comma primary (mark m) b j = absurd (none_some j)

Any : {A : Type 0} → A → Type 0
Any a = Unit {0}

no_comma_suits : Suits (λ l. Unit {0}) (λ o. Unit {0}) NoComma
no_comma_suits =
    record {
      closer = λ k h. tt;
      on_left = λ k h. tt;
      joins = λ k t b h j o. join_no_comma k t b j;
      after_join = λ k t b h j. tt;
      at_not = λ o. refl;
      after_not = λ h. tt;
      at_plus = λ o p. refl;
      at_minus = λ o p. refl;
      after_plus = tt;
      after_minus = tt;
      at_word = λ o w n. refl;
      at_number = λ o text. refl;
      at_question = λ o. refl;
      at_open = λ o. refl;
      at_close = λ o. refl;
      at_dollar = λ o. refl;
      after_dollar = λ w. refl;
      at_tilde = λ o. refl;
      after_tilde = λ w. refl;
    }

pub no_comma : (k : Level) (ts : List Token) (x : Phrase) → IsPhrase k ts x → Spread (λ l. Unit {0}) (λ o. Unit {0}) NoComma k ts
no_comma k ts x p = spread (λ l. Unit {0}) (λ o. Unit {0}) NoComma no_comma_suits k ts x p
