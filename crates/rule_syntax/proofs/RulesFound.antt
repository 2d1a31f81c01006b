-- Each rule of the grammar is found.
use Rattle.std.proofs.Common.{◌≡◌, Bool, true, false, cond, Option, Some, None, List, [], ◌∷◌, ◌++◌, map, refl, sym, ap, ◌∙◌, append_assoc, append-nil}
use Rattle.std.specs.Prelude.{codes, ◌&&◌, ◌||◌, not}
use Rattle.std.specs.List.{slice_split, onto_first}
use Rattle.std.specs.Option.{option_map, option_or}
use Rattle.std.specs.Bool.{then_some}
use Rattle.std.specs.Str.{bytes_eq}
use Rattle.quantity.specs.declared.value.Value.TheVariants.{Undefined, Num}
use Rattle.quantity.specs.Bytes.{Bytes, all_there, in_front, is_empty}
use Rattle.quantity.specs.Digits.{with_sign_of}
use Rattle.quantity.specs.Literals.{unsigned_literal}
use Rattle.quantity.specs.Written.{for_some}
use Rattle.rule_words.specs.Tokens.{Token, word, number, mark, is_mark}
use Rattle.rule_tree.specs.Phrases as P
use Rattle.rule_tree.specs.Phrases.{Cell, Phrase, expr, Assigned, Written, out}
use Rattle.rule_words.specs.Grammar.{IsNeighbour, IsPhrase, IsNumber, AreAssigned, IsValue, AreSets, IsDelayPhrase, IsRule, tokens_in_braces, a_phrase, a_number, a_question, a_cell, some_gives, delay_phrase, delay_number, rule}
use Rattle.rule_words.specs.Reading.{assigned_at_out}
use Rattle.rule_words.specs.Reading.{block, port_in, is_sign, phrase_of, number_before, phrase_block, assignment_in, ended_parts, all_assigned, block_begins, given_in, question_before, cell_phrase_before, value_before, sets_in, sets_block, sets_before, delay_before, last_block, written_rule}
use Rattle.rule_phrases.proofs.Nesting.{is_delimiter, IsPlain, Nested}
use Rattle.rule_phrases.proofs.Nesting as N
use Rattle.rule_phrases.proofs.Apart.{no_comma}
use Rattle.rule_phrases.proofs.Edges.{starts}
use Rattle.rule_words.proofs.Blocks.{Absent, absent_append, block_found, cell_found, HasComma, cell_has_comma}
use Rattle.rule_phrases.proofs.Found.{phrase_found}
use Rattle.rule_words.proofs.Sound.{none_some, false_true}

-- ---- delimiters

or_parts : (a b : Bool) → (a || b) ≡ false → (a ≡ false) × (b ≡ false)
or_parts true b e = (e, absurd (false_true (sym e)))
or_parts false b e = (refl, e)

pub record NoDelimiter (t : Token) : Type 0 where
  pub opens : is_mark (codes "{") t ≡ false
  pub closes : is_mark (codes "}") t ≡ false
  pub ends : is_mark (codes ";") t ≡ false
  pub assigns : is_mark (codes ":=") t ≡ false

no_delimiter : (t : Token) → is_delimiter t ≡ false → NoDelimiter t
no_delimiter t e =
    let a = or_parts (is_mark (codes "{") t) (is_mark (codes "}") t || (is_mark (codes ";") t || is_mark (codes ":=") t)) e in
    let b = or_parts (is_mark (codes "}") t) (is_mark (codes ";") t || is_mark (codes ":=") t) a.1 in
    let c = or_parts (is_mark (codes ";") t) (is_mark (codes ":=") t) b.1 in
    record { opens = a.0; closes = b.0; ends = c.0; assigns = c.1 }

nested_absent : (p : Token → Bool) → p (mark (codes "(")) ≡ false → p (mark (codes ")")) ≡ false → ((t : Token) → NoDelimiter t → p t ≡ false) → (ts : List Token) → Nested ts → Absent p ts
nested_absent p o c each _ N.empty = tt
nested_absent p o c each _ (N.plain {ts} t q h) = (each t (no_delimiter t q.delimits), nested_absent p o c each ts h)
nested_absent p o c each _ (N.around {inner} {rest} h k) =
    (o, absent_append p inner (mark (codes ")") ∷ rest) (nested_absent p o c each inner h) (c, nested_absent p o c each rest k))

phrase_closes : (ts : List Token) (x : Phrase) → IsPhrase expr ts x → Absent (is_mark (codes "}")) ts
phrase_closes ts x p = nested_absent (is_mark (codes "}")) refl refl (λ t n. n.closes) ts (no_comma expr ts x p).nested

phrase_ends : (ts : List Token) (x : Phrase) → IsPhrase expr ts x → Absent (is_mark (codes ";")) ts
phrase_ends ts x p = nested_absent (is_mark (codes ";")) refl refl (λ t n. n.ends) ts (no_comma expr ts x p).nested

phrase_assigns : (ts : List Token) (x : Phrase) → IsPhrase expr ts x → Absent (is_mark (codes ":=")) ts
phrase_assigns ts x p = nested_absent (is_mark (codes ":=")) refl refl (λ t n. n.assigns) ts (no_comma expr ts x p).nested

-- a block at the front of tokens
front_block : (inner rest : List Token) → Absent (is_mark (codes "}")) inner → block (codes "{") (codes "}") (tokens_in_braces inner ++ rest) ≡ Some (inner, rest)
front_block inner rest none =
    ap (λ us. block (codes "{") (codes "}") (mark (codes "{") ∷ us)) (append_assoc inner (mark (codes "}") ∷ []) rest)
    ∙ block_found (mark (codes "{")) (mark (codes "}")) (codes "{") (codes "}") inner rest refl refl none

front_phrase : (ts rest : List Token) (x : Phrase) → IsPhrase expr ts x → phrase_block (tokens_in_braces ts ++ rest) ≡ Some (x, rest)
front_phrase ts rest x p =
    ap (λ o. for_some o (λ (b : List Token × List Token). option_map (λ y. (y, b.1)) (phrase_of b.0))) (front_block ts rest (phrase_closes ts x p))
    ∙ ap (option_map (λ y. (y, rest))) (phrase_found ts x p)

-- ---- numbers

front_number : (ts rest : List Token) (x : Phrase) → IsNumber ts x → number_before (ts ++ rest) ≡ Some (x, rest)
front_number _ rest _ (IsNumber.bare {text} {n} e) = ap (option_map (λ n. (P.value (Num n), rest))) e
front_number _ rest _ (IsNumber.plus {text} {n} e) = ap (option_map (λ n. (P.value (Num (with_sign_of (codes "+") n)), rest))) e
front_number _ rest _ (IsNumber.minus {text} {n} e) = ap (option_map (λ n. (P.value (Num (with_sign_of (codes "-") n)), rest))) e

number_no_block : (ts rest : List Token) (x : Phrase) → IsNumber ts x → block (codes "{") (codes "}") (ts ++ rest) ≡ None
number_no_block _ rest _ (IsNumber.bare {text} e) = refl
number_no_block _ rest _ (IsNumber.plus {text} e) = refl
number_no_block _ rest _ (IsNumber.minus {text} e) = refl

no_number : (m : Bytes) (us : List Token) → is_sign m ≡ false → number_before (mark m ∷ us) ≡ None
no_number m [] e = refl
no_number m (word w ∷ us) e = refl
no_number m (number n ∷ us) e = ap (λ b. for_some (then_some b m) (λ s. option_map (λ n. (P.value (Num (with_sign_of s n)), us)) (unsigned_literal n))) e
no_number m (mark k ∷ us) e = refl

-- ---- gives and sets

split_part : (part rest : List Token) → Absent (is_mark (codes ";")) part → slice_split (is_mark (codes ";")) (part ++ mark (codes ";") ∷ rest) ≡ part ∷ slice_split (is_mark (codes ";")) rest
split_part [] rest none = refl
split_part (t ∷ ts) rest none =
    ap (λ b. cond b ([] ∷ slice_split (is_mark (codes ";")) (ts ++ mark (codes ";") ∷ rest)) (onto_first t (slice_split (is_mark (codes ";")) (ts ++ mark (codes ";") ∷ rest)))) none.0
    ∙ ap (onto_first t) (split_part ts rest none.1)

pub record IsKind (kind : Bytes) : Type 0 where
  pub ends : is_mark (codes ";") (mark kind) ≡ false
  pub closes : is_mark (codes "}") (mark kind) ≡ false
  pub same : bytes_eq kind kind ≡ true

abbrev assignment : Bytes → Bytes → List Token → List Token
assignment kind w ts = mark kind ∷ word w ∷ mark (codes ":=") ∷ ts

assignment_found : (kind w : Bytes) (ts : List Token) (x : Phrase) → IsKind kind → IsPhrase expr ts x → assignment_in kind (assignment kind w ts) ≡ Some (record { name = w; phrase = x })
assignment_found kind w ts x k p =
    ap (λ b. for_some (then_some (b && true) w) (λ name. option_map (λ y. record { name = name; phrase = y }) (phrase_of ts))) k.same
    ∙ ap (option_map (λ y. record { name = w; phrase = y })) (phrase_found ts x p)

assignment_ends : (kind w : Bytes) (ts : List Token) (x : Phrase) → IsKind kind → IsPhrase expr ts x → Absent (is_mark (codes ";")) (assignment kind w ts)
assignment_ends kind w ts x k p = (k.ends, (refl, (refl, phrase_ends ts x p)))

-- the parts of assignments
pub record Parted (kind : Bytes) (ts : List Token) (xs : List Assigned) : Type 0 where
  pub first : List Token
  pub others : List (List Token)
  pub ended : ended_parts (slice_split (is_mark (codes ";")) ts) ≡ Some (first ∷ others)
  pub read : all_there (map (assignment_in kind) (first ∷ others)) ≡ Some xs
  pub closes : Absent (is_mark (codes "}")) ts

more_parts : (p : List Token) (ps : List (List Token)) (qs : List (List Token)) → ended_parts ps ≡ Some qs → ended_parts (p ∷ ps) ≡ Some (p ∷ qs)
more_parts p [] qs e = absurd (none_some e)
more_parts p (q ∷ ps) qs e = ap (option_map (λ rest. p ∷ rest)) e

assignment_closes : (kind w : Bytes) (ts rest : List Token) (x : Phrase) → IsKind kind → IsPhrase expr ts x → Absent (is_mark (codes "}")) rest → Absent (is_mark (codes "}")) (assignment kind w ts ++ mark (codes ";") ∷ rest)
assignment_closes kind w ts rest x k p h =
    (k.closes, (refl, (refl, absent_append (is_mark (codes "}")) ts (mark (codes ";") ∷ rest) (phrase_closes ts x p) (refl, h))))

parted : (kind : Bytes) (ts : List Token) (xs : List Assigned) → IsKind kind → AreAssigned kind ts xs → Parted kind ts xs
parted kind _ _ k (AreAssigned.last {w} {ts} {x} p) =
    record {
      first = assignment kind w ts;
      others = [];
      ended = ap ended_parts (split_part (assignment kind w ts) [] (assignment_ends kind w ts x k p));
      read = ap (λ o. all_there (o ∷ [])) (assignment_found kind w ts x k p);
      closes = assignment_closes kind w ts [] x k p tt;
    }
parted kind _ _ k (AreAssigned.more {w} {ts} {us} {x} {xs} p q) =
    let h = parted kind us xs k q in
    record {
      first = assignment kind w ts;
      others = h.first ∷ h.others;
      ended = ap ended_parts (split_part (assignment kind w ts) us (assignment_ends kind w ts x k p))
          ∙ more_parts (assignment kind w ts) (slice_split (is_mark (codes ";")) us) (h.first ∷ h.others) h.ended;
      read = ap (λ o. all_there (o ∷ map (assignment_in kind) (h.first ∷ h.others))) (assignment_found kind w ts x k p)
          ∙ ap (in_front (Some (record { name = w; phrase = x }))) h.read;
      closes = assignment_closes kind w ts us x k p h.closes;
    }

all_found : (kind : Bytes) (ts : List Token) (xs : List Assigned) → Parted kind ts xs → all_assigned kind ts ≡ Some xs
all_found kind ts xs h =
    ap (λ o. for_some o (λ parts. for_some (then_some (not (is_empty parts)) parts) (λ ps. all_there (map (assignment_in kind) ps)))) h.ended ∙ h.read

assigned_begins : (kind : Bytes) (ts : List Token) (xs : List Assigned) → bytes_eq kind kind ≡ true → AreAssigned kind ts xs → block_begins kind ts ≡ true
assigned_begins kind _ _ e (AreAssigned.last {w} {ts} {x} p) = e
assigned_begins kind _ _ e (AreAssigned.more {w} {ts} {us} {x} {xs} p q) = e

tilde_kind : IsKind (codes "~")
tilde_kind = record { ends = refl; closes = refl; same = refl }

dollar_kind : IsKind (codes "$")
dollar_kind = record { ends = refl; closes = refl; same = refl }

-- ---- values

-- a value in a block
value_block : (ts rest : List Token) (xs : List Assigned) → Absent (is_mark (codes "}")) ts → given_in ts ≡ Some xs → value_before (tokens_in_braces ts ++ rest) ≡ Some (xs, rest)
value_block ts rest xs none e =
    let later = option_map (λ (x : Phrase × List Token). (assigned_at_out x.0, x.1)) (option_or (number_before (tokens_in_braces ts ++ rest)) (option_or (question_before (tokens_in_braces ts ++ rest)) (cell_phrase_before (tokens_in_braces ts ++ rest)))) in
    ap (λ o. option_or (for_some o (λ (b : List Token × List Token). option_map (λ ys. (ys, b.1)) (given_in b.0))) later) (front_block ts rest none)
    ∙ ap (λ o. option_or (option_map (λ ys. (ys, rest)) o) later) e

phrase_given : (ts : List Token) (x : Phrase) → IsPhrase expr ts x → given_in ts ≡ Some (assigned_at_out x)
phrase_given ts x p =
    let s = starts expr ts x p in
    ap (λ b. cond b (all_assigned (codes "~") ts) (option_map assigned_at_out (phrase_of ts))) (ap (block_begins (codes "~")) s.are ∙ s.no_tilde)
    ∙ ap (option_map assigned_at_out) (phrase_found ts x p)

-- a value that is no block
plain_value : (ts rest : List Token) (x : Phrase) → block (codes "{") (codes "}") (ts ++ rest) ≡ None → option_or (number_before (ts ++ rest)) (option_or (question_before (ts ++ rest)) (cell_phrase_before (ts ++ rest))) ≡ Some (x, rest) → value_before (ts ++ rest) ≡ Some (assigned_at_out x, rest)
plain_value ts rest x none e =
    ap (λ o. option_or (for_some o (λ (b : List Token × List Token). option_map (λ ys. (ys, b.1)) (given_in b.0))) (option_map (λ (y : Phrase × List Token). (assigned_at_out y.0, y.1)) (option_or (number_before (ts ++ rest)) (option_or (question_before (ts ++ rest)) (cell_phrase_before (ts ++ rest)))))) none
    ∙ ap (option_map (λ (y : Phrase × List Token). (assigned_at_out y.0, y.1))) e

cell_front : (ts rest : List Token) (c : Cell) → IsNeighbour ts c → port_in rest ≡ Some (out, rest) → HasComma ts → value_before (ts ++ rest) ≡ Some (assigned_at_out (P.cell c), rest)
cell_front ts rest c h e m = plain_value ts rest (P.cell c) no_block (by_cell ∙ cell)
  where
    inner : List Token
    inner = (m.row ++ mark (codes ",") ∷ m.rest) ++ rest

    shape : ts ++ rest ≡ mark (codes "(") ∷ inner
    shape = ap (λ us. us ++ rest) m.are

    no_block : block (codes "{") (codes "}") (ts ++ rest) ≡ None
    no_block = ap (block (codes "{") (codes "}")) shape

    by_cell : option_or (number_before (ts ++ rest)) (option_or (question_before (ts ++ rest)) (cell_phrase_before (ts ++ rest))) ≡ cell_phrase_before (ts ++ rest)
    by_cell =
        ap (λ us. option_or (number_before us) (option_or (question_before us) (cell_phrase_before (ts ++ rest)))) shape
        ∙ ap (λ o. option_or o (option_or (question_before (mark (codes "(") ∷ inner)) (cell_phrase_before (ts ++ rest)))) (no_number (codes "(") inner refl)

    cell : cell_phrase_before (ts ++ rest) ≡ Some (P.cell c, rest)
    cell = ap (option_map (λ (d : Cell × List Token). (P.cell d.0, d.1))) (cell_found ts c h rest e)

value_found : (vs rest : List Token) (gives : List Assigned) → IsValue vs gives → port_in rest ≡ Some (out, rest) → value_before (vs ++ rest) ≡ Some (gives, rest)
value_found _ rest _ (a_phrase {ts} {x} p) e = value_block ts rest (assigned_at_out x) (phrase_closes ts x p) (phrase_given ts x p)
value_found _ rest _ (a_number {ts} {x} n) e =
    plain_value ts rest x (number_no_block ts rest x n)
    (ap (λ o. option_or o (option_or (question_before (ts ++ rest)) (cell_phrase_before (ts ++ rest)))) (front_number ts rest x n))
value_found _ rest _ a_question e =
    plain_value (mark (codes "?") ∷ []) rest (P.value Undefined) refl
    (ap (λ o. option_or o (option_or (question_before (mark (codes "?") ∷ rest)) (cell_phrase_before (mark (codes "?") ∷ rest)))) (no_number (codes "?") rest refl))
value_found _ rest _ (a_cell {ts} {c} h) e = cell_front ts rest c h e (cell_has_comma ts c h)
value_found _ rest _ (some_gives {ts} {xs} h) e =
    let k = parted (codes "~") ts xs tilde_kind h in
    value_block ts rest xs k.closes (ap (λ b. cond b (all_assigned (codes "~") ts) (option_map assigned_at_out (phrase_of ts))) (assigned_begins (codes "~") ts xs refl h) ∙ all_found (codes "~") ts xs k)

-- ---- sets

-- no sets stand at the front
NoSets : List Token → Type 0
NoSets ts = sets_block ts ≡ None

phrase_no_sets : (ts : List Token) (x : Phrase) → IsPhrase expr ts x → sets_in ts ≡ None
phrase_no_sets ts x p = go ts (phrase_assigns ts x p)
  where
    go : (us : List Token) → Absent (is_mark (codes ":=")) us → sets_in us ≡ None
    go [] h = refl
    go (a ∷ []) h = refl
    go (a ∷ b ∷ []) h = refl
    go (a ∷ b ∷ c ∷ us) h = ap (λ t. cond t (Some (all_assigned (codes "$") (a ∷ b ∷ c ∷ us))) None) h.1.1.0

delay_no_sets : (ds rest : List Token) (x : Phrase) → IsDelayPhrase ds x → sets_block (ds ++ rest) ≡ None
delay_no_sets _ rest _ (delay_phrase {ts} {x} p) =
    ap (λ o. for_some o (λ (b : List Token × List Token). option_map (λ s. (s, b.1)) (sets_in b.0))) (front_block ts rest (phrase_closes ts x p))
    ∙ ap (option_map (λ s. (s, rest))) (phrase_no_sets ts x p)
delay_no_sets _ rest _ (delay_number {ts} {x} n) =
    ap (λ o. for_some o (λ (b : List Token × List Token). option_map (λ s. (s, b.1)) (sets_in b.0))) (number_no_block ts rest x n)

sets_are : (ts : List Token) (xs : List Assigned) → AreAssigned (codes "$") ts xs → sets_in ts ≡ Some (all_assigned (codes "$") ts)
sets_are _ _ (AreAssigned.last {w} {ts} {x} p) = refl
sets_are _ _ (AreAssigned.more {w} {ts} {us} {x} {xs} p q) = refl

sets_found : (ss rest : List Token) (sets : List Assigned) → AreSets ss sets → sets_block rest ≡ None → sets_before (ss ++ rest) ≡ Some (sets, rest)
sets_found _ rest _ AreSets.none e = ap (λ o. elim o [ None ↦ Some ([], rest) | Some s ↦ option_map (λ xs. (xs, s.1)) s.0 ]) e
sets_found _ rest _ (AreSets.some {ts} {xs} h) e =
    let k = parted (codes "$") ts xs dollar_kind h in
    ap (λ o. after (for_some o in_block)) (front_block ts rest k.closes) ∙ ap (λ o. after (option_map (λ s. (s, rest)) o)) (sets_are ts xs h)
    ∙ ap (option_map (λ ys. (ys, rest))) (all_found (codes "$") ts xs k)
  where
    in_block : List Token × List Token → Option (Option (List Assigned) × List Token)
    in_block b = option_map (λ s. (s, b.1)) (sets_in b.0)

    after : Option (Option (List Assigned) × List Token) → Option (List Assigned × List Token)
    after o = elim o [ None ↦ Some ([], tokens_in_braces ts ++ rest) | Some s ↦ option_map (λ ys. (ys, s.1)) s.0 ]

-- ---- delays and conditions

delay_found : (ds rest : List Token) (x : Phrase) → IsDelayPhrase ds x → delay_before (ds ++ rest) ≡ Some (x, rest)
delay_found _ rest _ (delay_phrase {ts} {x} p) = ap (λ o. option_or o (number_before (tokens_in_braces ts ++ rest))) (front_phrase ts rest x p)
delay_found _ rest _ (delay_number {ts} {x} n) =
    ap (λ o. option_or (for_some o (λ (b : List Token × List Token). option_map (λ y. (y, b.1)) (phrase_of b.0))) (number_before (ts ++ rest))) (number_no_block ts rest x n)
    ∙ front_number ts rest x n

condition_found : (cs : List Token) (x : Phrase) → IsPhrase expr cs x → last_block (tokens_in_braces cs) ≡ Some x
condition_found cs x p =
    ap (λ o. for_some o (λ (c : Phrase × List Token). then_some (is_empty c.1) c.0)) (ap phrase_block (sym (append-nil (tokens_in_braces cs))) ∙ front_phrase cs [] x p)

-- ---- what stands behind a value names no port

mark_names_none : (m : Bytes) (us : List Token) → bytes_eq m (codes "~") ≡ false → port_in (mark m ∷ us) ≡ Some (out, mark m ∷ us)
mark_names_none m [] e = refl
mark_names_none m (word w ∷ us) e = ap (λ b. Some (cond b (w, us) (out, mark m ∷ word w ∷ us))) e
mark_names_none m (number n ∷ us) e = refl
mark_names_none m (mark k ∷ us) e = refl

number_names_none : (ts rest : List Token) (x : Phrase) → IsNumber ts x → port_in (ts ++ rest) ≡ Some (out, ts ++ rest)
number_names_none _ rest _ (IsNumber.bare {text} e) = refl
number_names_none _ rest _ (IsNumber.plus {text} e) = mark_names_none (codes "+") (number text ∷ rest) refl
number_names_none _ rest _ (IsNumber.minus {text} e) = mark_names_none (codes "-") (number text ∷ rest) refl

delay_names_none : (ds rest : List Token) (x : Phrase) → IsDelayPhrase ds x → port_in (ds ++ rest) ≡ Some (out, ds ++ rest)
delay_names_none _ rest _ (delay_phrase {ts} {x} p) = mark_names_none (codes "{") ((ts ++ mark (codes "}") ∷ []) ++ rest) refl
delay_names_none _ rest _ (delay_number {ts} {x} n) = number_names_none ts rest x n

sets_name_none : (ss rest : List Token) (sets : List Assigned) → AreSets ss sets → port_in rest ≡ Some (out, rest) → port_in (ss ++ rest) ≡ Some (out, ss ++ rest)
sets_name_none _ rest _ AreSets.none e = e
sets_name_none _ rest _ (AreSets.some {ts} {xs} h) e = mark_names_none (codes "{") ((ts ++ mark (codes "}") ∷ []) ++ rest) refl

-- ---- rules

regrouped : (vs ss ds cs : List Token) → vs ++ ss ++ ds ++ cs ≡ vs ++ (ss ++ (ds ++ cs))
regrouped vs ss ds cs = simp append_assoc

pub rule_found : (ts : List Token) (r : Written) → IsRule ts r → written_rule ts ≡ Some r
unfolding written_rule
rule_found _ _ (rule {vs} {ss} {ds} {cs} {gives} {sets} {delay} {condition} v s d c) =
    ap whole (regrouped vs ss ds (tokens_in_braces cs)) ∙ ap (λ o. for_some o at_value) (value_found vs (ss ++ (ds ++ tokens_in_braces cs)) gives v names_none)
    ∙ ap (λ o. for_some o (at_sets gives)) (sets_found ss (ds ++ tokens_in_braces cs) sets s (delay_no_sets ds (tokens_in_braces cs) delay d))
    ∙ ap (λ o. for_some o (at_delay gives sets)) (delay_found ds (tokens_in_braces cs) delay d)
    ∙ ap (option_map (λ k. record { gives = gives; delay = delay; condition = k; sets = sets })) (condition_found cs condition c)
  where
    at_delay : List Assigned → List Assigned → Phrase × List Token → Option Written
    at_delay gs xs e = option_map (λ k. record { gives = gs; delay = e.0; condition = k; sets = xs }) (last_block e.1)

    at_sets : List Assigned → List Assigned × List Token → Option Written
    at_sets gs x = for_some (delay_before x.1) (at_delay gs x.0)

    at_value : List Assigned × List Token → Option Written
    at_value g = for_some (sets_before g.1) (at_sets g.0)

    whole : List Token → Option Written
    whole us = for_some (value_before us) at_value

    names_none : port_in (ss ++ (ds ++ tokens_in_braces cs)) ≡ Some (out, ss ++ (ds ++ tokens_in_braces cs))
    names_none = sets_name_none ss (ds ++ tokens_in_braces cs) sets s (delay_names_none ds (tokens_in_braces cs) delay d)
