-- The grammar of rules: which tokens are which phrase.
use Rattle.std.specs.Prelude.{◌≡◌, ℕ, Some, List, ◌∷◌, ◌++◌, length, ℤ, pos, neg_ℤ, codes, []}
use Rattle.quantity.specs.declared.truth.Tri.TheVariants.{True, False}
use Rattle.quantity.specs.declared.value.Value.TheVariants.{Undefined, Num}
use Rattle.rule_tree.specs.declared.node.Unary.TheVariants.{Plus, Minus, Not}
use Rattle.rule_tree.specs.declared.node.Binary.{Binary}
use Rattle.rule_tree.specs.declared.node.Count.{Count}
use Rattle.rule_tree.specs.declared.function.Function.{Function}
use Rattle.quantity.specs.Bytes.{Bytes}
use Rattle.quantity.specs.Digits.{whole_number}
use Rattle.quantity.specs.Literals.{unsigned_literal}
use Rattle.rule_words.specs.Tokens.{Token, word, number, mark}
use Rattle.rule_tree.specs.Phrases as P
use Rattle.rule_tree.specs.Phrases.{Cell, Phrase, phrases, Assigned, Written}
use Rattle.rule_tree.specs.Phrases.{out, Level, expr, neg, signed}
use Rattle.rule_tree.specs.Phrases.{primary, tighter, left_of, operator_words, operator_marks}
use Rattle.rule_tree.specs.Phrases.{counts, functions, looked_up, argument_count}
use Rattle.rule_words.specs.Reading.{assigned_at_out}

-- a token that joins two phrases of a level
abbrev pub Joins : Level → Token → Binary → Type 0
Joins l (word w) b = looked_up (operator_words l) w ≡ Some b
Joins l (number n) b = ⊥
Joins l (mark m) b = looked_up (operator_marks l) m ≡ Some b

-- tokens of a whole number
pub data IsInt : List Token → ℤ → Type 0 where
  bare : {text : Bytes} {n : ℕ} → whole_number 10 text ≡ Some n → IsInt (number text ∷ []) (pos n)
  plus : {text : Bytes} {n : ℕ} → whole_number 10 text ≡ Some n
      → IsInt (mark (codes "+") ∷ number text ∷ []) (pos n)
  minus : {text : Bytes} {n : ℕ} → whole_number 10 text ≡ Some n
      → IsInt (mark (codes "-") ∷ number text ∷ []) (neg_ℤ (pos n))

-- tokens of a neighbour's port
pub data IsPort : List Token → Bytes → Type 0 where
  plain : IsPort [] out
  named : {w : Bytes} → IsPort (mark (codes "~") ∷ word w ∷ []) w

-- tokens of a neighbour
pub data IsNeighbour : List Token → Cell → Type 0 where
  flat : {row column port : List Token} {i j : ℤ} {p : Bytes} → IsInt row i → IsInt column j
      → IsPort port p →
      IsNeighbour (mark (codes "(") ∷ row ++ mark (codes ",") ∷ column ++ mark (codes ")") ∷ port)
      (record { place = i ∷ j ∷ []; port = p })
  deep : {row column plane port : List Token} {i j k : ℤ} {p : Bytes} → IsInt row i → IsInt column j
      → IsInt plane k → IsPort port p →
      IsNeighbour (mark (codes "(") ∷ row ++ mark (codes ",") ∷ column ++ mark (codes ",") ∷ plane
      ++ mark (codes ")") ∷ port) (record { place = i ∷ j ∷ k ∷ []; port = p })

-- tokens of a phrase of a level, which is one of each looser level too
mutual
  pub data IsPhrase : Level → List Token → Phrase → Type 0 where
    tight : {l : Level} {ts : List Token} {a : Phrase} → IsPhrase (tighter l) ts a → IsPhrase l ts a
    joined : {l : Level} {ts us : List Token} (t : Token) {b : Binary} {x y : Phrase} →
        IsPhrase (left_of l) ts x → Joins l t b → IsPhrase (tighter l) us y
        → IsPhrase l (ts ++ t ∷ us) (P.two b x y)
    negated : {ts : List Token} {x : Phrase} → IsPhrase neg ts x
        → IsPhrase neg (word (codes "not") ∷ ts) (P.one Not x)
    plus : {ts : List Token} {x : Phrase} → IsPhrase signed ts x
        → IsPhrase signed (mark (codes "+") ∷ ts) (P.one Plus x)
    minus : {ts : List Token} {x : Phrase} → IsPhrase signed ts x
        → IsPhrase signed (mark (codes "-") ∷ ts) (P.one Minus x)
    numeral : {text : Bytes} {n : ℤ} → unsigned_literal text ≡ Some n
        → IsPhrase primary (number text ∷ []) (P.value (Num n))
    unknown : IsPhrase primary (mark (codes "?") ∷ []) (P.value Undefined)
    true : IsPhrase primary (word (codes "t") ∷ []) (P.truth True)
    false : IsPhrase primary (word (codes "f") ∷ []) (P.truth False)
    cell : {ts : List Token} {c : Cell} → IsNeighbour ts c → IsPhrase primary ts (P.cell c)
    variable : {w : Bytes} → IsPhrase primary (mark (codes "$") ∷ word w ∷ []) (P.variable w)
    enclosed : {ts : List Token} {x : Phrase} → IsPhrase expr ts x
        → IsPhrase primary (mark (codes "(") ∷ ts ++ mark (codes ")") ∷ []) x
    time : IsPhrase primary (word (codes "time") ∷ []) P.now
    counted : {w : Bytes} {c : Count} → looked_up counts w ≡ Some c
        → IsPhrase primary (word w ∷ []) (P.counted c)
    port_value : IsPhrase primary (word (codes "portvalue") ∷ mark (codes "(")
        ∷ word (codes "thisport") ∷ mark (codes ")") ∷ []) P.port_value
    call : {w : Bytes} {f : Function} {ts : List Token} {xs : List Phrase}
        → looked_up functions w ≡ Some f → IsList ts xs → length xs ≡ argument_count f →
        IsPhrase primary (word w ∷ mark (codes "(") ∷ ts ++ mark (codes ")") ∷ [])
        (P.call f (phrases xs))

  pub data IsList : List Token → List Phrase → Type 0 where
    last : {ts : List Token} {x : Phrase} → IsPhrase expr ts x → IsList ts (x ∷ [])
    more : {ts us : List Token} {x : Phrase} {xs : List Phrase} → IsPhrase expr ts x → IsList us xs
        → IsList (ts ++ mark (codes ",") ∷ us) (x ∷ xs)

-- ---- rules

-- tokens of a number
pub data IsNumber : List Token → Phrase → Type 0 where
  bare : {text : Bytes} {n : ℤ} → unsigned_literal text ≡ Some n
      → IsNumber (number text ∷ []) (P.value (Num n))
  plus : {text : Bytes} {n : ℤ} → unsigned_literal text ≡ Some n
      → IsNumber (mark (codes "+") ∷ number text ∷ []) (P.value (Num n))
  minus : {text : Bytes} {n : ℤ} → unsigned_literal text ≡ Some n
      → IsNumber (mark (codes "-") ∷ number text ∷ []) (P.value (Num (neg_ℤ n)))

-- one or more of: a mark and a word, then :=, a phrase and ;
pub data AreAssigned (kind : Bytes) : List Token → List Assigned → Type 0 where
  last : {w : Bytes} {ts : List Token} {x : Phrase} → IsPhrase expr ts x →
      AreAssigned kind (mark kind ∷ word w ∷ mark (codes ":=") ∷ ts ++ mark (codes ";") ∷ [])
      (record { name = w; phrase = x } ∷ [])
  more : {w : Bytes} {ts us : List Token} {x : Phrase} {xs : List Assigned} → IsPhrase expr ts x
      → AreAssigned kind us xs →
      AreAssigned kind (mark kind ∷ word w ∷ mark (codes ":=") ∷ ts ++ mark (codes ";") ∷ us)
      (record { name = w; phrase = x } ∷ xs)

-- tokens in braces
abbrev pub tokens_in_braces : List Token → List Token
tokens_in_braces ts = mark (codes "{") ∷ ts ++ mark (codes "}") ∷ []

-- tokens of what a rule gives
pub data IsValue : List Token → List Assigned → Type 0 where
  a_phrase : {ts : List Token} {x : Phrase} → IsPhrase expr ts x
      → IsValue (tokens_in_braces ts) (assigned_at_out x)
  a_number : {ts : List Token} {x : Phrase} → IsNumber ts x → IsValue ts (assigned_at_out x)
  a_question : IsValue (mark (codes "?") ∷ []) (assigned_at_out (P.value Undefined))
  a_cell : {ts : List Token} {c : Cell} → IsNeighbour ts c → IsValue ts (assigned_at_out (P.cell c))
  some_gives : {ts : List Token} {xs : List Assigned} → AreAssigned (codes "~") ts xs
      → IsValue (tokens_in_braces ts) xs

-- tokens of the variables that a rule sets
pub data AreSets : List Token → List Assigned → Type 0 where
  none : AreSets [] []
  some : {ts : List Token} {xs : List Assigned} → AreAssigned (codes "$") ts xs
      → AreSets (tokens_in_braces ts) xs

-- tokens of a delay
pub data IsDelayPhrase : List Token → Phrase → Type 0 where
  delay_phrase : {ts : List Token} {x : Phrase} → IsPhrase expr ts x
      → IsDelayPhrase (tokens_in_braces ts) x
  delay_number : {ts : List Token} {x : Phrase} → IsNumber ts x → IsDelayPhrase ts x

-- tokens of a rule
pub data IsRule : List Token → Written → Type 0 where
  rule : {vs ss ds cs : List Token} {gives sets : List Assigned} {delay condition : Phrase} →
      IsValue vs gives → AreSets ss sets → IsDelayPhrase ds delay → IsPhrase expr cs condition →
      IsRule (vs ++ ss ++ ds ++ tokens_in_braces cs)
      (record { gives = gives; delay = delay; condition = condition; sets = sets })
