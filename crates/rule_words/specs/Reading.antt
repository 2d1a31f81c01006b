-- The phrase that tokens are: an operator's last place outside parentheses cuts a phrase in two.
use Rattle.std.specs.Prelude.{ℕ, zero, suc, ◌+◌, ◌*◌, ◌==◌, Bool, true, false, not, ◌&&◌, ◌||◌}
use Rattle.std.specs.Prelude.{Option, Some, None, List, [], ◌∷◌, map, length, ℤ, pos, if◌then◌else◌}
use Rattle.std.specs.Prelude.{codes}
use Rattle.std.specs.List.{filter, list_any, last_or, slice_split, before_first, after_first}
use Rattle.std.specs.Option.{option_map, option_and_then, option_or, is_some}
use Rattle.std.specs.Bool.{then_some}
use Rattle.std.specs.Str.{bytes_eq}
use Rattle.quantity.specs.declared.truth.Tri.TheVariants.{True, False}
use Rattle.quantity.specs.declared.value.Value.TheVariants.{Undefined, Num}
use Rattle.rule_tree.specs.declared.node.Unary.{Unary}
use Rattle.rule_tree.specs.declared.node.Unary.TheVariants.{Plus, Minus, Not}
use Rattle.rule_tree.specs.declared.node.Binary.{Binary}
use Rattle.rule_tree.specs.declared.function.Function.{Function}
use Rattle.quantity.specs.Bytes.{Bytes, is_empty, parts_outside, all_there}
use Rattle.quantity.specs.Digits.{whole_number, with_sign_of, has_length}
use Rattle.quantity.specs.Literals.{unsigned_literal}
use Rattle.quantity.specs.Written.{for_some}
use Rattle.rule_words.specs.Tokens.{Token, word, number, mark, is_mark, is_word, parentheses_after}
use Rattle.rule_tree.specs.Phrases as P
use Rattle.rule_tree.specs.Phrases.{Cell, Phrase, Phrases, phrases, Assigned, Written, out, Level}
use Rattle.rule_tree.specs.Phrases.{expr, disj, conj, neg, comp, sum, prod, signed, primary}
use Rattle.rule_tree.specs.Phrases.{tighter, left_of, operator_words, operator_marks, counts}
use Rattle.rule_tree.specs.Phrases.{functions, looked_up, argument_count}

-- one value at the port out
abbrev pub assigned_at_out : Phrase → List Assigned
assigned_at_out x = record { name = out; phrase = x } ∷ []

-- ---- cuts

-- tokens cut at one of them
pub record Cut : Type 0 where
  pub before : List Token
  pub at : Token
  pub after : List Token

-- the cut with one token more before it
abbrev pub cut_later : Token → Cut → Cut
cut_later t c = record c { before = t ∷ c.before }

-- a list of tokens, cut at each of them
abbrev pub cuts : List Token → List Cut
cuts [] = []
cuts (t ∷ ts) = record { before = []; at = t; after = ts } ∷ map (cut_later t) (cuts ts)

-- no parenthesis is open after these tokens, and none was closed that wasn't open
abbrev pub is_closed : ℕ → List Token → Bool
is_closed n [] = n == 0
is_closed n (t ∷ ts) =
    not (is_mark (codes ")") t && (n == 0)) && is_closed (parentheses_after n t) ts

-- an operand may end with this token
abbrev pub ends : Token → Bool
ends (word w) = true
ends (number n) = true
ends (mark m) = bytes_eq m (codes "?") || bytes_eq m (codes ")")

-- an operand may end here: what follows is no sign
abbrev pub ends_operand : Option Token → Bool
ends_operand None = false
ends_operand (Some t) = ends t

-- the operator of a level that a token is
abbrev pub operator_in : Level → Token → Option Binary
operator_in l (word w) = looked_up (operator_words l) w
operator_in l (number n) = None
operator_in l (mark m) = looked_up (operator_marks l) m

-- the cut is at an operator between two operands, outside parentheses
abbrev pub joins_at : Level → Cut → Bool
joins_at l c =
    is_some (operator_in l c.at) && is_closed 0 c.before && ends_operand (last_or None c.before)

-- the last operator of a level outside parentheses
abbrev pub last_join : Level → List Token → Option Cut
last_join l ts = last_or None (filter (joins_at l) (cuts ts))

-- ---- primaries

-- a whole number behind a sign
abbrev pub signed_int : Bytes → Option Bytes → Option ℤ
signed_int sign None = None
signed_int sign (Some text) = option_map (λ n. with_sign_of sign (pos n)) (whole_number 10 text)

-- a plus or a minus
abbrev pub is_sign : Bytes → Bool
is_sign m = bytes_eq m (codes "+") || bytes_eq m (codes "-")

-- the whole number that these tokens are
abbrev pub int_in : List Token → Option ℤ
int_in (number text ∷ []) = signed_int [] (Some text)
int_in (mark m ∷ number text ∷ []) = if is_sign m then signed_int m (Some text) else None
int_in ts = None

-- the mark is among the tokens
abbrev pub has : Bytes → List Token → Bool
has text ts = list_any (is_mark text) ts

-- the tokens between an opening mark and the first closing one, and those after it
abbrev pub block : Bytes → Bytes → List Token → Option (List Token × List Token)
block opening closing [] = None
block opening closing (t ∷ ts) =
    then_some (is_mark opening t && has closing ts)
    (before_first (is_mark closing) ts, after_first (is_mark closing) ts)

-- a port behind its mark, or else the port out
abbrev pub port_in : List Token → Option (Bytes × List Token)
port_in (mark m ∷ word w ∷ ts) =
    Some (if bytes_eq m (codes "~") then (w, ts) else (out, mark m ∷ word w ∷ ts))
port_in ts = Some (out, ts)

-- two or three whole numbers between commas
abbrev pub places_in : List Token → Option (List ℤ)
places_in ts =
    option_and_then (λ is. then_some (has_length 2 3 is) is)
    (all_there (map int_in (slice_split (is_mark (codes ",")) ts)))

-- a cell, and the tokens after it
abbrev pub cell_before : List Token → Option (Cell × List Token)
cell_before ts =
    option_and_then (λ b.
    option_and_then (λ is. option_map (λ p. (
      record {
        place = is;
        port = p.0;
      },
      p.1,
    )) (port_in b.1)) (places_in b.0))
    (block (codes "(") (codes ")") ts)

-- a neighbour behind which nothing stands
abbrev pub whole_cell : Option (Cell × List Token) → Option Phrase
whole_cell None = None
whole_cell (Some c) = then_some (is_empty c.1) (P.cell c.0)

-- the words of one meaning
abbrev pub constants : List (Bytes × Phrase)
constants = (codes "t", P.truth True) ∷ (codes "f", P.truth False) ∷ (codes "time", P.now) ∷ []

-- the phrase that a word is by itself
abbrev pub word_phrase : Bytes → Option Phrase
word_phrase w = option_or (looked_up constants w) (option_map P.counted (looked_up counts w))

-- the tokens of portValue(thisPort)
abbrev pub is_port_value : List Token → Bool
is_port_value (word w ∷ a ∷ word v ∷ b ∷ []) =
    bytes_eq w (codes "portvalue") && is_mark (codes "(") a && bytes_eq v (codes "thisport")
    && is_mark (codes ")") b
is_port_value ts = false

-- a primary without phrases in it
abbrev pub atom : List Token → Option Phrase
atom (number text ∷ []) = option_map (λ n. P.value (Num n)) (unsigned_literal text)
atom (word w ∷ []) = word_phrase w
atom (mark m ∷ []) = then_some (bytes_eq m (codes "?")) (P.value Undefined)
atom (mark m ∷ word w ∷ []) = then_some (bytes_eq m (codes "$")) (P.variable w)
atom ts = option_or (then_some (is_port_value ts) P.port_value) (whole_cell (cell_before ts))

-- what stands in parentheses that the last token closes, behind the name of a function or behind
-- nothing
pub record Enclosed : Type 0 where
  pub function : Option Function
  pub inner : List Token

-- all but the last
abbrev pub without_last : List Token → List Token
without_last [] = []
without_last (t ∷ []) = []
without_last (t ∷ u ∷ us) = t ∷ without_last (u ∷ us)

-- a closing parenthesis
abbrev pub closes : Option Token → Bool
closes None = false
closes (Some t) = is_mark (codes ")") t

-- all but a closing parenthesis at the end
abbrev pub without_last_close : List Token → Option (List Token)
without_last_close ts = then_some (closes (last_or None ts)) (without_last ts)

-- what stands between parentheses, and the function before them
abbrev pub enclosed_tokens : List Token → Option Enclosed
enclosed_tokens (mark m ∷ ts) =
    option_and_then (λ inner. then_some (bytes_eq m (codes "("))
    (record { function = None; inner = inner })) (without_last_close ts)
enclosed_tokens (word w ∷ mark m ∷ ts) =
    option_and_then (λ f. option_and_then
    (λ inner. then_some (bytes_eq m (codes "(")) (record { function = Some f; inner = inner }))
    (without_last_close ts))
    (looked_up functions w)
enclosed_tokens ts = None

-- a function with as many operands as it takes
abbrev pub call_phrase : Function → Option (List Phrase) → Option Phrase
call_phrase f None = None
call_phrase f (Some xs) = then_some (length xs == argument_count f) (P.call f (phrases xs))

-- the operands, cut at commas outside parentheses
abbrev pub arguments : List Token → List (List Token)
arguments ts = parts_outside (is_mark (codes ",")) (is_mark (codes "(")) (is_mark (codes ")")) 0 ts

-- ---- phrases

-- what follows not
abbrev pub after_not : List Token → Option (List Token)
after_not [] = None
after_not (t ∷ ts) = then_some (is_word (codes "not") t) ts

-- a sign, and what follows it
abbrev pub after_sign : List Token → Option (Unary × List Token)
after_sign [] = None
after_sign (t ∷ ts) =
    if is_mark (codes "+") t then Some (Plus, ts) else then_some (is_mark (codes "-") t) (Minus, ts)

-- an operator between two phrases
abbrev pub both : Option Binary → Option Phrase → Option Phrase → Option Phrase
both (Some b) (Some x) (Some y) = Some (P.two b x y)
both b x y = None

-- the phrase of a level that tokens are, found in so many steps
abbrev pub phrase_within : ℕ → Level → List Token → Option Phrase
phrase_within zero l ts = None
phrase_within (suc n) neg ts =
    elim (after_not ts) [
      | None ↦ phrase_within n comp ts
      | Some us ↦ option_map (P.one Not)
          (phrase_within n neg us)
    ]
phrase_within (suc n) signed ts =
    elim (after_sign ts) [
      | None ↦ phrase_within n primary ts
      | Some s ↦ option_map (P.one s.0)
          (phrase_within n signed s.1)
    ]
phrase_within (suc n) primary ts =
    option_or (atom ts) (elim (enclosed_tokens ts) [
      | None ↦ None
      | Some e ↦ elim e.function [
        | None ↦ phrase_within n expr e.inner
        | Some f ↦ call_phrase f (all_there (map (phrase_within n expr) (arguments e.inner)))
      ]
    ])
phrase_within (suc n) l ts =
    elim (last_join l ts) [
      | None ↦ phrase_within n (tighter l) ts
      | Some c ↦ both (operator_in l c.at) (phrase_within n (left_of l) c.before)
          (phrase_within n (tighter l) c.after)
    ]

-- each step takes a token away or goes to a tighter level
abbrev pub phrase_of : List Token → Option Phrase
phrase_of ts = phrase_within (9 * length ts + 9) expr ts

-- ---- rules: a part and the tokens after it

-- what is read, and the tokens behind it
abbrev pub Prefix : Type 0 → Type 0
Prefix A = Option (A × List Token)

-- a number, with a sign or without
abbrev pub number_before : List Token → Prefix Phrase
number_before (number text ∷ ts) = option_map (λ n. (P.value (Num n), ts)) (unsigned_literal text)
number_before (mark m ∷ number text ∷ ts) =
    for_some (then_some (is_sign m) m) (λ s.
    option_map (λ n. (P.value (Num (with_sign_of s n)), ts)) (unsigned_literal text))
number_before ts = None

-- a phrase in braces
abbrev pub phrase_block : List Token → Prefix Phrase
phrase_block ts =
    for_some (block (codes "{") (codes "}") ts) (λ b. option_map (λ x. (x, b.1)) (phrase_of b.0))

-- a mark and a word, then := and a phrase
abbrev pub assignment_in : Bytes → List Token → Option Assigned
assignment_in kind (mark m ∷ word w ∷ mark a ∷ ts) =
    for_some (then_some (bytes_eq m kind && bytes_eq a (codes ":=")) w)
    (λ name. option_map (λ x. record { name = name; phrase = x }) (phrase_of ts))
assignment_in kind ts = None

-- the parts that end with a semicolon, where nothing follows the last
abbrev pub ended_parts : List (List Token) → Option (List (List Token))
ended_parts [] = None
ended_parts (p ∷ []) = then_some (is_empty p) []
ended_parts (p ∷ q ∷ ps) = option_map (λ rest. p ∷ rest) (ended_parts (q ∷ ps))

-- names that are given phrases, each ended
abbrev pub all_assigned : Bytes → List Token → Option (List Assigned)
all_assigned kind ts =
    for_some (ended_parts (slice_split (is_mark (codes ";")) ts))
    (λ parts. for_some (then_some (not (is_empty parts)) parts)
    (λ ps. all_there (map (assignment_in kind) ps)))

-- a block of names with this mark begins
abbrev pub block_begins : Bytes → List Token → Bool
block_begins kind [] = false
block_begins kind (t ∷ ts) = is_mark kind t

-- a block of gives, or of one phrase at the port out
abbrev pub given_in : List Token → Option (List Assigned)
given_in ts =
    if block_begins (codes "~") ts then all_assigned (codes "~") ts
    else option_map assigned_at_out (phrase_of ts)

-- the mark of the undefined value
abbrev pub question_before : List Token → Prefix Phrase
question_before [] = None
question_before (t ∷ ts) = then_some (is_mark (codes "?") t) (P.value Undefined, ts)

-- a neighbour as a phrase
abbrev pub cell_phrase_before : List Token → Prefix Phrase
cell_phrase_before ts = option_map (λ c. (P.cell c.0, c.1)) (cell_before ts)

-- what a rule gives
abbrev pub value_before : List Token → Prefix (List Assigned)
value_before ts =
    option_or (for_some (block (codes "{") (codes "}") ts)
    (λ b. option_map (λ xs. (xs, b.1)) (given_in b.0)))
    (option_map (λ x. (assigned_at_out x.0, x.1))
    (option_or (number_before ts) (option_or (question_before ts) (cell_phrase_before ts))))

-- a block of sets has := as its third token
abbrev pub sets_in : List Token → Option (Option (List Assigned))
sets_in (d ∷ w ∷ a ∷ ts) =
    if is_mark (codes ":=") a then Some (all_assigned (codes "$") (d ∷ w ∷ a ∷ ts)) else None
sets_in ts = None

-- what a first block holds, where it holds sets, and the tokens after it
abbrev pub sets_block : List Token → Prefix (Option (List Assigned))
sets_block ts =
    for_some (block (codes "{") (codes "}") ts) (λ b. option_map (λ s. (s, b.1)) (sets_in b.0))

-- the variables that a rule sets; none where no block stands
abbrev pub sets_before : List Token → Prefix (List Assigned)
sets_before ts =
    elim (sets_block ts) [ None ↦ Some ([], ts) | Some s ↦ option_map (λ xs. (xs, s.1)) s.0 ]

-- the delay of a rule
abbrev pub delay_before : List Token → Prefix Phrase
delay_before ts = option_or (phrase_block ts) (number_before ts)

-- the condition, behind which nothing stands
abbrev pub last_block : List Token → Option Phrase
last_block ts = for_some (phrase_block ts) (λ c. then_some (is_empty c.1) c.0)

-- the rule that tokens are
unfoldable pub written_rule : List Token → Option Written
written_rule ts =
    for_some (value_before ts) (λ v.
    for_some (sets_before v.1) (λ s.
    for_some (delay_before s.1) (λ d.
    option_map (λ c. record {
      gives = v.0;
      delay = d.0;
      condition = c;
      sets = s.0;
    }) (last_block d.1))))
