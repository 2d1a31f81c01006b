-- Words of the language, and the first word that is none of it.
use Rattle.std.proofs.Common.{◌≡◌, ℕ, ◌+◌, ◌<◌, ◌||◌, Bool, true, false, cond, Option, Some, None, List, [], ◌∷◌, refl, sym, ap, ◌∙◌, is_some, length, drop, get_or}
use Rattle.std.specs.Prelude.{not, if◌then◌else◌}
use Rattle.std.proofs.lemmas.Bool.Decides.{same_from_decides}
use Rattle.std.proofs.lemmas.List.{at_drop_more}
use Rattle.std.proofs.lemmas.List.Folds.{list_any-append}
use Rattle.std.proofs.lemmas.Slice.Eq.{bytes_eq-Decides}
use Rattle.std.specs.List.{find}
use Rattle.std.specs.Option.{option_and_then, option_map}
use Rattle.std.specs.Str.{bytes_eq}
use Rattle.quantity.specs.Bytes.{Bytes, is_among}
use Rattle.rule_words.specs.declared.refusal.RuleRefusal.{RuleRefusal}
use Rattle.rule_words.specs.declared.refusal.RuleRefusal.TheVariants.{RandomRefused, UnknownFunction}
use Rattle.rule_words.specs.declared.token.Token as T
use Rattle.rule_tree.specs.Phrases.{first_texts, functions, looked_up}
use Rattle.rule_words.specs.RuleOf.{language}
use Rattle.rule_words.specs.Shown.{token_of, tokens_of}
use Rattle.rule_words.specs.TokenSteps.{names_next, plain_words}
use Rattle.rule_words.specs.Tokens.{Token, word, number, mark, words_after}

-- ---- tables

pub bytes_eq-sym : (xs ys : Bytes) → bytes_eq xs ys ≡ bytes_eq ys xs
bytes_eq-sym xs ys =
    let there = bytes_eq-Decides xs ys in
    let back = bytes_eq-Decides ys xs in
    same_from_decides (bytes_eq xs ys) (bytes_eq ys xs) there (λ e. sym (back.0 e), λ e. back.1 (sym e))

found_first : {A B : Type 0} (f : A → B) (p : A) (o : Option A) (r b d : Bool) → b ≡ d → is_some (option_map f o) ≡ r → is_some (option_map f (cond b (Some p) o)) ≡ (d || r)
found_first f p o r true true e rest = refl
found_first f p o r false false e rest = rest
found_first f p o r true false e rest = absurd cc
found_first f p o r false true e rest = absurd cc

pub is_some-looked_up : {A : Type 0} (table : List (Bytes × A)) (w : Bytes) → is_some (looked_up table w) ≡ is_among (first_texts table) w
is_some-looked_up [] w = refl
is_some-looked_up {A} (p ∷ ps) w =
    found_first (λ (q : Bytes × A). q.1) p (find (λ (q : Bytes × A). bytes_eq q.0 w) ps) (is_among (first_texts ps) w) (bytes_eq p.0 w) (bytes_eq w p.0) (bytes_eq-sym p.0 w) (is_some-looked_up ps w)

pub language-split : (w : Bytes) → is_among language w ≡ (is_among plain_words w || is_among (first_texts functions) w)
language-split w = list_any-append (bytes_eq w) plain_words (first_texts functions)

-- ---- the first word that is none of a language

abbrev pub one_refused : (Bytes → Bool) → (Bytes → Bool) → Bytes → Option RuleRefusal
one_refused of_language random w = if random w then Some RandomRefused else if of_language w then None else Some UnknownFunction

abbrev pub refused_by : (Bytes → Bool) → (Bytes → Bool) → List Bytes → Option RuleRefusal
refused_by of_language random ws = option_and_then (one_refused of_language random) (find (λ w. not (of_language w)) ws)

pub known_word : (l r : Bytes → Bool) (w : Bytes) (ws : List Bytes) → l w ≡ true → refused_by l r (w ∷ ws) ≡ refused_by l r ws
known_word l r w ws e = ap (λ b. option_and_then (one_refused l r) (cond (not b) (Some w) (find (λ v. not (l v)) ws))) e

pub strange_word : (l r : Bytes → Bool) (w : Bytes) (ws : List Bytes) → l w ≡ false → refused_by l r (w ∷ ws) ≡ (if r w then Some RandomRefused else Some UnknownFunction)
strange_word l r w ws e =
    ap (λ b. option_and_then (one_refused l r) (cond (not b) (Some w) (find (λ v. not (l v)) ws))) e
    ∙ ap (λ b. if r w then Some RandomRefused else if b then None else Some UnknownFunction) e

-- ---- token by token

-- a word alone is refused as it is in front of others
front_word : (l r : Bytes → Bool) (w : Bytes) (ws : List Bytes) (b : Bool) (o : Option RuleRefusal) → l w ≡ b → refused_by l r (w ∷ []) ≡ o
    → refused_by l r (w ∷ ws) ≡ elim o as (λ x. Option RuleRefusal) [ None ↦ refused_by l r ws | Some why ↦ Some why ]
front_word l r w ws true None e f = known_word l r w ws e
front_word l r w ws true (Some why) e f = absurd (let none : Some why ≡ None = sym f ∙ known_word l r w [] e in cc)
front_word l r w ws false (Some why) e f = strange_word l r w ws e ∙ sym (strange_word l r w [] e) ∙ f
front_word l r w ws false None e f = absurd (never (r w) (sym (strange_word l r w [] e) ∙ f))
  where
    never : (b : Bool) → (if b then Some RandomRefused else Some UnknownFunction) ≡ None → ⊥
    never true h = cc
    never false h = cc

pub no_refusal : (l r : Bytes → Bool) (named : Bool) (t : Token) (ts : List Token) → refused_by l r (words_after named (t ∷ [])) ≡ None
    → refused_by l r (words_after named (t ∷ ts)) ≡ refused_by l r (words_after (names_next t) ts)
no_refusal l r true (word w) ts e = refl
no_refusal l r false (word w) ts e = front_word l r w (words_after false ts) (l w) None refl e
no_refusal l r named (number n) ts e = refl
no_refusal l r named (mark m) ts e = refl

pub a_refusal : (l r : Bytes → Bool) (named : Bool) (t : Token) (ts : List Token) (why : RuleRefusal) → refused_by l r (words_after named (t ∷ [])) ≡ Some why
    → refused_by l r (words_after named (t ∷ ts)) ≡ Some why
a_refusal l r true (word w) ts why e = absurd cc
a_refusal l r false (word w) ts why e = front_word l r w (words_after false ts) (l w) (Some why) refl e
a_refusal l r named (number n) ts why e = absurd cc
a_refusal l r named (mark m) ts why e = absurd cc

pub no_refusal-at : (l r : Bytes → Bool) (named : Bool) (ts : List T.Token) (i : ℕ) (d : T.Token) → i < length ts → refused_by l r (words_after named (token_of (get_or ts i d) ∷ [])) ≡ None
    → refused_by l r (words_after (names_next (token_of (get_or ts i d))) (tokens_of (drop (i + 1) ts))) ≡ refused_by l r (words_after named (tokens_of (drop i ts)))
no_refusal-at l r named ts i d h e =
    sym (at_drop_more (λ xs. refused_by l r (words_after named (tokens_of xs))) ts i d h ∙ no_refusal l r named (token_of (get_or ts i d)) (tokens_of (drop (i + 1) ts)) e)

pub a_refusal-at : (l r : Bytes → Bool) (named : Bool) (ts : List T.Token) (i : ℕ) (d : T.Token) (why : RuleRefusal) → i < length ts → refused_by l r (words_after named (token_of (get_or ts i d) ∷ [])) ≡ Some why
    → refused_by l r (words_after named (tokens_of (drop i ts))) ≡ Some why
a_refusal-at l r named ts i d why h e =
    at_drop_more (λ xs. refused_by l r (words_after named (tokens_of xs))) ts i d h ∙ a_refusal l r named (token_of (get_or ts i d)) (tokens_of (drop (i + 1) ts)) why e
