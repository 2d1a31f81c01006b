-- What holds of the tokens of phrases that stand outside parentheses.
use Rattle.std.proofs.Common.{◌≡◌, true, false, Option, Some, List, [], ◌∷◌, ◌++◌, sym, ap, subst, ◌∙◌, append_assoc}
use Rattle.std.specs.Prelude.{codes}
use Rattle.std.specs.List.{last_or}
use Rattle.rule_words.specs.Tokens.{Token, mark}
use Rattle.rule_words.specs.Reading.{is_closed}
use Rattle.rule_phrases.proofs.Nesting.{lookup_all, last_append, IsPlain, Nested, CutOf, in_first, in_second, cut_of, plain_closed, nested_closed, nested_open, close_one}
use Rattle.rule_phrases.proofs.Nesting as N

-- each token outside parentheses, with the token before it
pub data Outer (Q : Option Token → Token → Type 0) : Option Token → List Token → Type 0 where
  empty : {o : Option Token} → Outer Q o []
  plain : {o : Option Token} {ts : List Token} (t : Token) → IsPlain t → Q o t → Outer Q (Some t) ts → Outer Q o (t ∷ ts)
  around : {o : Option Token} {inner rest : List Token} → Q o (mark (codes "(")) → ((p : Option Token) → Q p (mark (codes ")"))) → Nested inner →
      Outer Q (Some (mark (codes ")"))) rest → Outer Q o (mark (codes "(") ∷ inner ++ mark (codes ")") ∷ rest)

pub outer_append : (Q : Option Token → Token → Type 0) (o : Option Token) (ts us : List Token) → Outer Q o ts → Outer Q (last_or o ts) us → Outer Q o (ts ++ us)
outer_append Q o _ us empty k = k
outer_append Q _ _ us (plain {o} {ts} t p q h) k = plain t p q (outer_append Q (Some t) ts us h k)
outer_append Q _ _ us (around {o} {inner} {rest} q all n h) k =
    let last : last_or o (mark (codes "(") ∷ inner ++ mark (codes ")") ∷ rest) ≡ last_or (Some (mark (codes ")"))) rest = last_append (Some (mark (codes "("))) inner rest (mark (codes ")")) in
    let more : Outer Q (Some (mark (codes ")"))) (rest ++ us) = outer_append Q (Some (mark (codes ")"))) rest us h (subst (λ p. Outer Q p us) last k) in
    subst (λ vs. Outer Q o (mark (codes "(") ∷ vs)) (sym (append_assoc inner (mark (codes ")") ∷ rest) us)) (around q all n more)

pub nested_append : (ts us : List Token) → Nested ts → Nested us → Nested (ts ++ us)
nested_append _ us N.empty k = k
nested_append _ us (N.plain {ts} t p h) k = N.plain t p (nested_append ts us h k)
nested_append _ us (N.around {inner} {rest} h i) k =
    subst (λ vs. Nested (mark (codes "(") ∷ vs)) (sym (append_assoc inner (mark (codes ")") ∷ rest) us)) (N.around h (nested_append rest us i k))

-- the token at a cut outside parentheses
pub outer_at : (Q : Option Token → Token → Type 0) (o : Option Token) (ts : List Token) → Outer Q o ts → (a : List Token) (t : Token) (c : List Token) → ts ≡ a ++ t ∷ c → is_closed 0 a ≡ true → Q (last_or o a) t
outer_at Q o _ empty [] t c e closed = cc
outer_at Q o _ empty (v ∷ a) t c e closed = cc
outer_at Q _ _ (plain {o} {ts} u p q h) [] t c e closed = let same : u ≡ t = cc in subst (Q o) same q
outer_at Q _ _ (plain {o} {ts} u p q h) (v ∷ a) t c e closed =
    let same : u ≡ v = cc in
    let rest : ts ≡ a ++ t ∷ c = cc in
    let still : is_closed 0 a ≡ true = sym (plain_closed 0 v a (subst IsPlain same p)) ∙ closed in
    subst (λ w. Q (last_or (Some w) a) t) same (outer_at Q (Some u) ts h a t c rest still)
outer_at Q _ _ (around {o} {inner} {rest} q all n h) [] t c e closed = let same : mark (codes "(") ≡ t = cc in subst (Q o) same q
outer_at Q _ _ (around {o} {inner} {rest} q all n h) (v ∷ a) t c e closed =
    let first : v ≡ mark (codes "(") = cc in
    let after : inner ++ mark (codes ")") ∷ rest ≡ a ++ t ∷ c = cc in
    let still : is_closed 1 a ≡ true = ap (λ w. is_closed 0 (w ∷ a)) (sym first) ∙ closed in
    go still (cut_of inner (mark (codes ")") ∷ rest) a (t ∷ c) after) (outer_at Q (Some (mark (codes ")"))) rest h)
  where
    behind : (b : List Token) → a ≡ inner ++ b → mark (codes ")") ∷ rest ≡ b ++ t ∷ c → is_closed 1 a ≡ true → ((b : List Token) (t : Token) (c : List Token) → rest ≡ b ++ t ∷ c → is_closed 0 b ≡ true → Q (last_or (Some (mark (codes ")"))) b) t) → Q (last_or o (v ∷ a)) t
    behind [] p r still later = let same : mark (codes ")") ≡ t = cc in subst (Q (last_or o (v ∷ a))) same (all (last_or o (v ∷ a)))
    behind (u ∷ b) p r still later =
        let first : u ≡ mark (codes ")") = cc in
        let more : rest ≡ b ++ t ∷ c = cc in
        let within : a ≡ inner ++ mark (codes ")") ∷ b = p ∙ ap (λ w. inner ++ w ∷ b) first in
        let closed_rest : is_closed 0 b ≡ true = sym (close_one 0 b) ∙ sym (nested_closed inner n 1 (mark (codes ")") ∷ b)) ∙ sym (ap (is_closed 1) within) ∙ still in
        let last : last_or (Some v) a ≡ last_or (Some (mark (codes ")"))) b = ap (last_or (Some v)) within ∙ last_append (Some v) inner b (mark (codes ")")) in
        subst (λ s. Q s t) (sym last) (later b t c more closed_rest)

    go : is_closed 1 a ≡ true → CutOf inner (mark (codes ")") ∷ rest) a (t ∷ c) → ((b : List Token) (t : Token) (c : List Token) → rest ≡ b ++ t ∷ c → is_closed 0 b ≡ true → Q (last_or (Some (mark (codes ")"))) b) t) → Q (last_or o (v ∷ a)) t
    go still (in_first d p r) later =
        let opened : is_closed 1 a ≡ false = nested_open inner n 0 a d p in
        let wrong : true ≡ false = sym still ∙ opened in
        cc
    go still (in_second b p r) later = behind b p r still later
