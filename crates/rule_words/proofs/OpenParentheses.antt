-- The most parentheses that are open at once.
use Rattle.std.proofs.Common.{◌≡◌, ℕ, ◌+◌, ◌<◌, ◌≤◌, List, [], ◌∷◌, sym, ◌∙◌, length, drop, get_or, nat_cmp, arith, rules}
use Rattle.std.specs.Prelude.{max}
use Rattle.std.proofs.lemmas.List.{at_drop_more}
use Rattle.std.specs.Ordering.{ord_max}
use Rattle.rule_words.specs.declared.token.Token as T
use Rattle.rule_words.specs.Shown.{token_of, tokens_of}
use Rattle.rule_words.specs.Tokens.{Token, deepest, parentheses_after}

now_open : (n : ℕ) (ts : List Token) → n ≤ deepest n ts
now_open n [] = omega arith
now_open n (t ∷ ts) = omega arith

one_token : (most n after rest : ℕ) → n ≤ most → after ≤ rest → max (max most after) rest ≡ max most (max n rest)
one_token most n after rest h g = omega arith

pub one_more_token : (most n : ℕ) (t : Token) (ts : List Token) → n ≤ most
    → max (max most (parentheses_after n t)) (deepest (parentheses_after n t) ts) ≡ max most (deepest n (t ∷ ts))
one_more_token most n t ts h = one_token most n (parentheses_after n t) (deepest (parentheses_after n t) ts) h (now_open (parentheses_after n t) ts)

pub one_more-at : (most n : ℕ) (ts : List T.Token) (i : ℕ) (d : T.Token) → i < length ts → n ≤ most
    → max (max most (parentheses_after n (token_of (get_or ts i d)))) (deepest (parentheses_after n (token_of (get_or ts i d))) (tokens_of (drop (i + 1) ts))) ≡ max most (deepest n (tokens_of (drop i ts)))
one_more-at most n ts i d h g =
    one_more_token most n (token_of (get_or ts i d)) (tokens_of (drop (i + 1) ts)) g ∙ sym (at_drop_more (λ xs. max most (deepest n (tokens_of xs))) ts i d h)

pub maximum : (a b : ℕ) → ord_max nat_cmp a b ≡ max a b
maximum a b = search (rules, arith)
