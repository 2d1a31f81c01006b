-- The tokens of a text, piece by piece.
use Rattle.std.proofs.Common.{◌≡◌, ℕ, ◌<◌, ◌==◌, Bool, true, false, Option, Some, None, List, [], ◌∷◌, ◌++◌, append-nil, refl, sym, ap, ◌∙◌, arith, length, take, drop, get_or, map}
use Rattle.std.specs.Prelude.{if◌then◌else◌}
use Rattle.std.proofs.lemmas.List.{append_assoc, length-take-le}
use Rattle.std.proofs.lemmas.List.Sums.{prefix_len-le-length}
use Rattle.std.specs.Bool.{then_some}
use Rattle.std.specs.Char.{is_ascii_alphabetic}
use Rattle.std.specs.List.{flat_map, prefix_len}
use Rattle.std.specs.Option.{option_map}
use Rattle.quantity.specs.Bytes.{Bytes, all_there, in_front, is_among, is_blank}
use Rattle.rule_words.specs.declared.token.Token as T
use Rattle.rule_words.specs.Shown.{token_of}
use Rattle.rule_words.specs.TokenSteps.{run_tokens}
use Rattle.rule_words.specs.Tokens.{Token, word, mark, is_of_run, is_of_word, marks, number_token, pieces, rest_tokens, tokens, tokens_in, word_in}

-- ---- the tokens in a piece

-- a token behind others
behind : (front : List Token) (o : Option T.Token) → option_map (λ ts. front ++ ts) (option_map (λ t. token_of t ∷ []) o) ≡ option_map (λ t. front ++ token_of t ∷ []) o
behind front None = refl
behind front (Some t) = refl

one_token : (o : Option T.Token) → option_map (λ t. t ∷ []) (option_map (λ t. token_of t) o) ≡ option_map (λ t. token_of t ∷ []) o
one_token None = refl
one_token (Some t) = refl

as_list : (b : Bool) (m : Token) → (if b then Some (m ∷ []) else None) ≡ option_map (λ t. t ∷ []) (then_some b m)
as_list true m = refl
as_list false m = refl

fourth : {A : Type 0} (a b d : Bool) (x y z w : A) → a ≡ false → b ≡ false → d ≡ false → (if a then x else if b then y else if d then z else w) ≡ w
fourth false false false x y z w e f g = refl
fourth true b d x y z w e f g = absurd cc
fourth false true d x y z w e f g = absurd cc
fourth false false true x y z w e f g = absurd cc

mark_tokens : (c : ℕ) (cs : Bytes) → is_blank c ≡ false → is_ascii_alphabetic c ≡ false → is_of_run c ≡ false → tokens_in (c ∷ cs) ≡ option_map (λ t. t ∷ []) (then_some (is_among marks (c ∷ cs)) (mark (c ∷ cs)))
mark_tokens c cs e f g =
    fourth (is_blank c) (is_ascii_alphabetic c) (is_of_run c) (Some []) _ (number_token (c ∷ cs)) (if is_among marks (c ∷ cs) then Some (mark (c ∷ cs) ∷ []) else None) e f g
    ∙ as_list (is_among marks (c ∷ cs)) (mark (c ∷ cs))

first : {A : Type 0} (a : Bool) (x y : A) → a ≡ true → (if a then x else y) ≡ x
first a x y e = rw e refl

second : {A : Type 0} (a b : Bool) (x y z : A) → a ≡ false → b ≡ true → (if a then x else if b then y else z) ≡ y
second a b x y z e f = rw (e, f) refl

third : {A : Type 0} (a b d : Bool) (x y z w : A) → a ≡ false → b ≡ false → d ≡ true → (if a then x else if b then y else if d then z else w) ≡ z
third a b d x y z w e f g = rw (e, f, g) refl

pub put_blank : (front : List Token) (piece : Bytes) → 0 < length piece → is_blank (get_or piece 0 0) ≡ true → option_map (λ ts. front ++ ts) (tokens_in piece) ≡ Some front
put_blank front [] some e = absurd (omega arith)
put_blank front (c ∷ cs) some e =
    ap (option_map (λ ts. front ++ ts)) (first (is_blank c) (Some []) _ e) ∙ ap (λ ts. Some ts) (append-nil front)

pub word_tokens : (piece : Bytes) → 0 < length piece → is_blank (get_or piece 0 0) ≡ false → is_ascii_alphabetic (get_or piece 0 0) ≡ true → run_tokens piece ≡ tokens_in piece
word_tokens [] some e f = absurd (omega arith)
word_tokens (c ∷ cs) some e f = sym (second (is_blank c) (is_ascii_alphabetic c) (Some []) (run_tokens (c ∷ cs)) _ e f)

pub put_run : (front : List Token) (piece : Bytes) (o : Option T.Token) → 0 < length piece → is_blank (get_or piece 0 0) ≡ false → is_ascii_alphabetic (get_or piece 0 0) ≡ false → is_of_run (get_or piece 0 0) ≡ true
    → option_map (λ t. token_of t ∷ []) o ≡ number_token piece
    → option_map (λ ts. front ++ ts) (tokens_in piece) ≡ option_map (λ t. front ++ token_of t ∷ []) o
put_run front [] o some e f g is = absurd (omega arith)
put_run front (c ∷ cs) o some e f g is =
    ap (option_map (λ ts. front ++ ts)) (third (is_blank c) (is_ascii_alphabetic c) (is_of_run c) (Some []) _ (number_token (c ∷ cs)) _ e f g ∙ sym is)
    ∙ behind front o

pub put_mark : (front : List Token) (piece : Bytes) (o : Option T.Token) → 0 < length piece → is_blank (get_or piece 0 0) ≡ false → is_ascii_alphabetic (get_or piece 0 0) ≡ false → is_of_run (get_or piece 0 0) ≡ false
    → option_map (λ t. token_of t) o ≡ then_some (is_among marks piece) (mark piece)
    → option_map (λ ts. front ++ ts) (tokens_in piece) ≡ option_map (λ t. front ++ token_of t ∷ []) o
put_mark front [] o some e f g is = absurd (omega arith)
put_mark front (c ∷ cs) o some e f g is =
    ap (option_map (λ ts. front ++ ts)) (mark_tokens c cs e f g ∙ ap (option_map (λ t. t ∷ [])) (sym is) ∙ one_token o)
    ∙ behind front o

pub marked : (b : Bool) (m w : Bytes) → Some m ≡ then_some b w → Some (mark m) ≡ then_some b (mark w)
marked true m w e = let same : m ≡ w = cc in ap (λ t. Some (mark t)) same
marked false m w e = absurd cc

-- ---- a word, and a number behind it

rest_number : (rest : Bytes) → (length rest == 0) ≡ false → rest_tokens rest ≡ number_token rest
rest_number [] e = absurd cc
rest_number (c ∷ cs) e = refl

-- a run that is cut behind its word
pub record IsWordCut (run w rest : Bytes) (n : ℕ) : Type 0 where
  pub place : n ≡ prefix_len is_of_word run
  pub front : w ≡ take n run
  pub back : rest ≡ drop n run

run_cut : (run w rest : Bytes) (n : ℕ) → IsWordCut run w rest n → run_tokens run ≡ option_map (λ ts. word w ∷ ts) (rest_tokens rest)
run_cut run w rest n is =
    let whole : word_in run ≡ w = ap (λ k. take k run) (sym is.place) ∙ sym is.front in
    let long : length (word_in run) ≡ n = length-take-le (prefix_len is_of_word run) run (prefix_len-le-length is_of_word run) ∙ sym is.place in
    ap (λ v. option_map (λ ts. word v ∷ ts) (rest_tokens (drop (length (word_in run)) run))) whole
    ∙ ap (λ k. option_map (λ ts. word w ∷ ts) (rest_tokens (drop k run))) long
    ∙ ap (λ r. option_map (λ ts. word w ∷ ts) (rest_tokens r)) (sym is.back)

word_behind : (front : List Token) (w : Bytes) (o : Option T.Token)
    → option_map (λ ts. front ++ ts) (option_map (λ ts. word w ∷ ts) (option_map (λ t. token_of t ∷ []) o)) ≡ option_map (λ t. (front ++ word w ∷ []) ++ token_of t ∷ []) o
word_behind front w None = refl
word_behind front w (Some t) = ap (λ ts. Some ts) (sym (append_assoc front (word w ∷ []) (token_of t ∷ [])))

pub put_number : (front now : List Token) (run w rest : Bytes) (n : ℕ) (o : Option T.Token) → IsWordCut run w rest n → now ≡ front ++ word w ∷ [] → (length rest == 0) ≡ false
    → option_map (λ t. token_of t ∷ []) o ≡ number_token rest
    → option_map (λ ts. front ++ ts) (run_tokens run) ≡ option_map (λ t. now ++ token_of t ∷ []) o
put_number front now run w rest n o is e some number =
    ap (option_map (λ ts. front ++ ts)) (run_cut run w rest n is ∙ ap (option_map (λ ts. word w ∷ ts)) (rest_number rest some ∙ sym number))
    ∙ word_behind front w o
    ∙ ap (λ ts. option_map (λ t. ts ++ token_of t ∷ []) o) (sym e)

-- ---- piece by piece

abbrev joined : Option (List (List Token)) → Option (List Token)
joined found = option_map (λ parts. flat_map (λ p. p) parts) found

joined_more : (ts : List Token) (os : Option (List (List Token))) → joined (in_front (Some ts) os) ≡ option_map (λ us. ts ++ us) (joined os)
joined_more ts None = refl
joined_more ts (Some parts) = refl

on_more : (front ts : List Token) (o : Option (List Token)) → option_map (λ list. front ++ list) (option_map (λ us. ts ++ us) o) ≡ option_map (λ us. (front ++ ts) ++ us) o
on_more front ts None = refl
on_more front ts (Some us) = ap (λ list. Some list) (sym (append_assoc front ts us))

more_by : (front now : List Token) (o : Option (List Token)) (os : Option (List (List Token))) → option_map (λ ts. front ++ ts) o ≡ Some now
    → option_map (λ list. front ++ list) (joined (in_front o os)) ≡ option_map (λ list. now ++ list) (joined os)
more_by front now None os e = absurd cc
more_by front now (Some ts) os e =
    let same : front ++ ts ≡ now = cc in
    ap (option_map (λ list. front ++ list)) (joined_more ts os) ∙ on_more front ts (joined os) ∙ ap (λ list. option_map (λ us. list ++ us) (joined os)) same

none_by : (front : List Token) (o : Option (List Token)) (os : Option (List (List Token))) → option_map (λ ts. front ++ ts) o ≡ None → option_map (λ list. front ++ list) (joined (in_front o os)) ≡ None
none_by front None os e = refl
none_by front (Some ts) os e = absurd cc

pub more_tokens : (front now : List Token) (rest piece behind : Bytes) (all : Option (List Token)) → pieces rest ≡ piece ∷ pieces behind → option_map (λ ts. front ++ ts) (tokens_in piece) ≡ Some now
    → option_map (λ list. front ++ list) (tokens rest) ≡ all → option_map (λ list. now ++ list) (tokens behind) ≡ all
unfolding tokens
more_tokens front now rest piece behind all e f g =
    sym (more_by front now (tokens_in piece) (all_there (map tokens_in (pieces behind))) f)
    ∙ ap (λ ps. option_map (λ list. front ++ list) (joined (all_there (map tokens_in ps)))) (sym e)
    ∙ g

pub no_tokens : (front : List Token) (rest piece behind : Bytes) (all : Option (List Token)) → pieces rest ≡ piece ∷ pieces behind → option_map (λ ts. front ++ ts) (tokens_in piece) ≡ None
    → option_map (λ list. front ++ list) (tokens rest) ≡ all → None ≡ all
unfolding tokens
no_tokens front rest piece behind all e f g =
    sym (none_by front (tokens_in piece) (all_there (map tokens_in (pieces behind))) f)
    ∙ ap (λ ps. option_map (λ list. front ++ list) (joined (all_there (map tokens_in ps)))) (sym e)
    ∙ g

pub all_tokens : (front : List Token) (rest : Bytes) (all : Option (List Token)) → pieces rest ≡ [] → option_map (λ list. front ++ list) (tokens rest) ≡ all → Some front ≡ all
unfolding tokens
all_tokens front rest all e f =
    ap (λ list. Some list) (sym (append-nil front)) ∙ ap (λ ps. option_map (λ list. front ++ list) (joined (all_there (map tokens_in ps)))) (sym e) ∙ f
