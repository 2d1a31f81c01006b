-- The parentheses of phrases, and the tokens that stand outside of them.
use Rattle.std.proofs.Common.{◌≡◌, ℕ, ◌+◌, Bool, true, false, cond, Option, Some, List, [], ◌∷◌, ◌++◌, refl, sym, ap, subst, ◌∙◌, arith, append_assoc}
use Rattle.std.specs.Prelude.{not, ◌&&◌, ◌||◌, ◌==◌, ◌-◌, codes}
use Rattle.std.proofs.lemmas.Bool.Decides.{nat_tests}
use Rattle.std.specs.List.{last_or, find, AllByRecursion}
use Rattle.std.specs.Option.{option_map}
use Rattle.std.specs.Str.{bytes_eq}
use Rattle.quantity.specs.Bytes.{Bytes}
use Rattle.rule_words.specs.Tokens.{Token, mark, is_mark, parentheses_after}
use Rattle.rule_tree.specs.Phrases.{looked_up}
use Rattle.rule_words.specs.Reading.{is_closed}
use Rattle.rule_words.proofs.Sound.{none_some, same_bytes}

-- what holds of each text of a table holds of a text that is found in it
pub lookup_all : {A : Type 0} (P : Bytes → Type 0) (table : List (Bytes × A)) (w : Bytes) (x : A) → AllByRecursion (λ (p : Bytes × A). P p.0) table → looked_up table w ≡ Some x → P w
lookup_all P [] w x all e = absurd (none_some e)
lookup_all {A} P (p ∷ ps) w x all e = go (bytes_eq p.0 w) refl (lookup_all P ps w x all.1) e
  where
    go : (b : Bool) → bytes_eq p.0 w ≡ b → (looked_up ps w ≡ Some x → P w) → option_map (λ (q : Bytes × A). q.1) (cond b (Some p) (find (λ (q : Bytes × A). bytes_eq q.0 w) ps)) ≡ Some x → P w
    go true same later h = subst P (same_bytes p.0 w same) all.0
    go false same later h = later h

pub last_append : {A : Type 0} (o : Option A) (xs ys : List A) (y : A) → last_or o (xs ++ y ∷ ys) ≡ last_or (Some y) ys
last_append o [] ys y = refl
last_append o (x ∷ xs) ys y = last_append (Some x) xs ys y

-- ---- parentheses

-- the marks of blocks and of assignments, which no phrase has
abbrev pub is_delimiter : Token → Bool
is_delimiter t = is_mark (codes "{") t || (is_mark (codes "}") t || (is_mark (codes ";") t || is_mark (codes ":=") t))

-- no parenthesis and no delimiter
pub record IsPlain (t : Token) : Type 0 where
  pub opens : is_mark (codes "(") t ≡ false
  pub closes : is_mark (codes ")") t ≡ false
  pub delimits : is_delimiter t ≡ false

pub data Nested : List Token → Type 0 where
  empty : Nested []
  plain : {ts : List Token} (t : Token) → IsPlain t → Nested ts → Nested (t ∷ ts)
  around : {inner rest : List Token} → Nested inner → Nested rest → Nested (mark (codes "(") ∷ inner ++ mark (codes ")") ∷ rest)

pub plain_closed : (n : ℕ) (t : Token) (us : List Token) → IsPlain t → is_closed n (t ∷ us) ≡ is_closed n us
plain_closed n t us p =
    ap (λ b. not (b && (n == 0)) && is_closed (parentheses_after n t) us) p.closes ∙ ap (λ m. is_closed m us) (stays n t p)
  where
    stays : (n : ℕ) (t : Token) → IsPlain t → parentheses_after n t ≡ n
    stays n t q = ap (λ b. cond b (n + 1) (cond (is_mark (codes ")") t) (n - 1) n)) q.opens ∙ ap (λ b. cond b (n - 1) n) q.closes

not_zero : (n : ℕ) → (n + 1 == 0) ≡ false
not_zero n = grind (arith, nat_tests)

one_less : (n : ℕ) → n + 1 - 1 ≡ n
one_less n = omega arith

pub close_one : (n : ℕ) (us : List Token) → is_closed (n + 1) (mark (codes ")") ∷ us) ≡ is_closed n us
close_one n us = ap (λ b. not b && is_closed (n + 1 - 1) us) (not_zero n) ∙ ap (λ m. is_closed m us) (one_less n)

-- nested tokens leave open what was open
pub nested_closed : (ts : List Token) → Nested ts → (n : ℕ) (us : List Token) → is_closed n (ts ++ us) ≡ is_closed n us
nested_closed _ empty n us = refl
nested_closed _ (plain {ts} t p h) n us = plain_closed n t (ts ++ us) p ∙ nested_closed ts h n us
nested_closed _ (around {inner} {rest} h k) n us =
    ap (is_closed (n + 1)) (append_assoc inner (mark (codes ")") ∷ rest) us)
    ∙ nested_closed inner h (n + 1) (mark (codes ")") ∷ (rest ++ us)) ∙ close_one n (rest ++ us) ∙ nested_closed rest k n us

-- ---- where a list that is joined of two is cut

-- within the first, or behind it
pub data CutOf (xs ys a c : List Token) : Type 0 where
  in_first : (d : List Token) → xs ≡ a ++ d → c ≡ d ++ ys → CutOf xs ys a c
  in_second : (b : List Token) → a ≡ xs ++ b → ys ≡ b ++ c → CutOf xs ys a c

pub cut_of : (xs ys a c : List Token) → xs ++ ys ≡ a ++ c → CutOf xs ys a c
cut_of xs ys [] c e = in_first xs refl (sym e)
cut_of [] ys (v ∷ a) c e = in_second (v ∷ a) refl e
cut_of (x ∷ xs) ys (v ∷ a) c e = later (cut_of xs ys a c (cc))
  where
    same : x ≡ v
    same = cc

    later : CutOf xs ys a c → CutOf (x ∷ xs) ys (v ∷ a) c
    later (in_first d p q) = let front : x ∷ xs ≡ v ∷ (a ++ d) = cc in in_first d front q
    later (in_second b p q) = let front : v ∷ a ≡ x ∷ (xs ++ b) = cc in in_second b front q

-- a beginning of nested tokens closes nothing that was open before
pub nested_open : (ts : List Token) → Nested ts → (n : ℕ) (a c : List Token) → ts ≡ a ++ c → is_closed (n + 1) a ≡ false
nested_open ts h n [] c e = not_zero n
nested_open _ empty n (v ∷ a) c e = cc
nested_open _ (plain {ts} t p h) n (v ∷ a) c e =
    let same : t ≡ v = cc in
    let rest : ts ≡ a ++ c = cc in
    ap (λ u. is_closed (n + 1) (u ∷ a)) (sym same) ∙ plain_closed (n + 1) t a p ∙ nested_open ts h n a c rest
nested_open _ (around {inner} {rest} h k) n (v ∷ a) c e =
    let same : mark (codes "(") ≡ v = cc in
    let after : inner ++ mark (codes ")") ∷ rest ≡ a ++ c = cc in
    ap (λ u. is_closed (n + 1) (u ∷ a)) (sym same) ∙ within (cut_of inner (mark (codes ")") ∷ rest) a c after) (nested_open inner h (n + 1) a) (nested_open rest k n)
  where
    behind : (b : List Token) → a ≡ inner ++ b → mark (codes ")") ∷ rest ≡ b ++ c → ((b : List Token) (c : List Token) → rest ≡ b ++ c → is_closed (n + 1) b ≡ false) → is_closed (n + 1 + 1) a ≡ false
    behind [] p q open_rest = ap (is_closed (n + 1 + 1)) p ∙ nested_closed inner h (n + 1 + 1) [] ∙ not_zero (n + 1)
    behind (u ∷ b) p q open_rest =
        let first : u ≡ mark (codes ")") = cc in
        let more : rest ≡ b ++ c = cc in
        ap (is_closed (n + 1 + 1)) p ∙ nested_closed inner h (n + 1 + 1) (u ∷ b) ∙ ap (λ w. is_closed (n + 1 + 1) (w ∷ b)) first ∙ close_one (n + 1) b ∙ open_rest b c more

    within : CutOf inner (mark (codes ")") ∷ rest) a c → ((d : List Token) → inner ≡ a ++ d → is_closed (n + 1 + 1) a ≡ false) → ((b : List Token) (c : List Token) → rest ≡ b ++ c → is_closed (n + 1) b ≡ false) → is_closed (n + 1 + 1) a ≡ false
    within (in_first d p q) open_inner open_rest = open_inner d p
    within (in_second b p q) open_inner open_rest = behind b p q open_rest
