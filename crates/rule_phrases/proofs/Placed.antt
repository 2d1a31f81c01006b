-- A block by the place of its closing mark among the code's tokens.
use Rattle.std.proofs.Common.{◌≡◌, ℕ, suc, ◌+◌, ◌-◌, Bool, true, false, cond, Option, Some, None, List, [], ◌∷◌, length, take, drop, refl, sym, ap, ◌∙◌, arith}
use Rattle.std.specs.Prelude.{nat_lt, not, ◌&&◌, ◌||◌}
use Rattle.std.specs.List.{list_any, position, position_or_len, before_first, after_first}
use Rattle.std.specs.Bool.{then_some}
use Rattle.std.proofs.lemmas.Bool.Decides.{nat_tests}
use Rattle.std.proofs.lemmas.List.{take-map, drop-map, length-drop, length-map}
use Rattle.std.proofs.Math.Seq.{take-length}
use Rattle.quantity.specs.Bytes.{Bytes}
use Rattle.rule_words.specs.declared.token.Token as T
use Rattle.rule_words.specs.Tokens.{Token, is_mark}
use Rattle.rule_words.specs.Reading.{has, block}
use Rattle.rule_words.specs.Shown.{token_of, tokens_of}
use Rattle.rule_words.specs.AtomParts.{after_mark}
use Rattle.rule_words.proofs.Sound.{none_some, some_same}

mapped_place : (p : Token → Bool) (ts : List T.Token) → position_or_len p (tokens_of ts) ≡ position_or_len (λ t. p (token_of t)) ts
mapped_place p [] = refl
mapped_place p (t ∷ ts) = ap (λ n. cond (not (p (token_of t))) (1 + n) 0) (mapped_place p ts)

any_place : (p : Token → Bool) (ts : List Token) → list_any p ts ≡ nat_lt (position_or_len p ts) (length ts)
any_place p [] = refl
any_place p (t ∷ ts) = go (p t) (any_place p ts)
  where
    go : (b : Bool) → list_any p ts ≡ nat_lt (position_or_len p ts) (length ts) → (b || list_any p ts) ≡ nat_lt (cond (not b) (1 + position_or_len p ts) 0) (length (t ∷ ts))
    go true h = grind (arith, nat_tests)
    go false h = h ∙ step (position_or_len p ts) (length ts)
      where
        step : (k n : ℕ) → nat_lt k n ≡ nat_lt (1 + k) (suc n)
        step k n = grind (arith, nat_tests)

abbrev pub is_it : Bytes → T.Token → Bool
is_it text t = is_mark text (token_of t)

has_place : (text : Bytes) (ts : List T.Token) → has text (tokens_of ts) ≡ nat_lt (position_or_len (is_it text) ts) (length ts)
has_place text ts =
    any_place (is_mark text) (tokens_of ts)
    ∙ ap (λ k. nat_lt k (length (tokens_of ts))) (mapped_place (is_mark text) ts)
    ∙ ap (λ n. nat_lt (position_or_len (is_it text) ts) n) (length-map ts token_of)

-- the cut at the first such mark, where there is one
abbrev cut_at : Bytes → List Token → Option (List Token × List Token)
cut_at b ts = then_some (has b ts) (before_first (is_mark b) ts, after_first (is_mark b) ts)

behind : (a b : Bytes) (ts rest : List Token) → Some rest ≡ after_mark a ts → block a b ts ≡ cut_at b rest
behind a b [] rest e = absurd (none_some (sym e))
behind a b (t ∷ ts) rest e = go (is_mark a t) e
  where
    go : (c : Bool) → Some rest ≡ then_some c ts → then_some {T = List Token × List Token} (c && has b ts) (before_first (is_mark b) ts, after_first (is_mark b) ts) ≡ cut_at b rest
    go true h = ap (cut_at b) (sym (some_same h))
    go false h = absurd (none_some (sym h))

before_place : (text : Bytes) (ts : List T.Token) → before_first (is_mark text) (tokens_of ts) ≡ tokens_of (take (position_or_len (is_it text) ts) ts)
before_place text ts =
    ap (λ k. take k (tokens_of ts)) (mapped_place (is_mark text) ts) ∙ take-map token_of (position_or_len (is_it text) ts) ts

after_place : (text : Bytes) (ts : List T.Token) → after_first (is_mark text) (tokens_of ts) ≡ tokens_of (drop (position_or_len (is_it text) ts + 1) ts)
after_place text ts =
    ap (λ k. drop (k + 1) (tokens_of ts)) (mapped_place (is_mark text) ts) ∙ drop-map token_of (position_or_len (is_it text) ts + 1) ts

to_end : (k : ℕ) (ts : List T.Token) → take (length ts - k) (drop k ts) ≡ drop k ts
to_end k ts = ap (λ n. take n (drop k ts)) (sym (length-drop k ts)) ∙ take-length (drop k ts)

pub block_by_place : (a b : Bytes) (ts : List Token) (rest : List T.Token) (at : ℕ) → Some (tokens_of rest) ≡ after_mark a ts → Some at ≡ position (is_it b) rest → Some (tokens_of (take at rest), tokens_of (take (length rest - (at + 1)) (drop (at + 1) rest))) ≡ block a b ts
block_by_place a b ts rest at e h = go (nat_lt (position_or_len (is_it b) rest) (length rest)) refl h
  where
    go : (c : Bool) → nat_lt (position_or_len (is_it b) rest) (length rest) ≡ c → Some at ≡ cond c (Some (position_or_len (is_it b) rest)) None → Some (tokens_of (take at rest), tokens_of (take (length rest - (at + 1)) (drop (at + 1) rest))) ≡ block a b ts
    go false k p = absurd (none_some (sym p))
    go true k p =
        ap (λ us. Some (tokens_of (take at rest), tokens_of us)) (to_end (at + 1) rest)
        ∙ ap (λ n. Some (tokens_of (take n rest), tokens_of (drop (n + 1) rest))) (some_same p)
        ∙ ap (λ us. Some (us, tokens_of (drop (position_or_len (is_it b) rest + 1) rest))) (sym (before_place b rest))
        ∙ ap (λ us. Some (before_first (is_mark b) (tokens_of rest), us)) (sym (after_place b rest))
        ∙ ap (λ d. then_some {T = List Token × List Token} d (before_first (is_mark b) (tokens_of rest), after_first (is_mark b) (tokens_of rest))) (sym (has_place b rest ∙ k))
        ∙ sym (behind a b ts (tokens_of rest) e)

pub no_block : (a b : Bytes) (ts : List Token) (rest : List T.Token) → Some (tokens_of rest) ≡ after_mark a ts → None ≡ position (is_it b) rest → None ≡ block a b ts
no_block a b ts rest e h = go (nat_lt (position_or_len (is_it b) rest) (length rest)) refl h
  where
    go : (c : Bool) → nat_lt (position_or_len (is_it b) rest) (length rest) ≡ c → None ≡ cond c (Some (position_or_len (is_it b) rest)) None → None ≡ block a b ts
    go true k p = absurd (none_some p)
    go false k p =
        ap (λ d. then_some {T = List Token × List Token} d (before_first (is_mark b) (tokens_of rest), after_first (is_mark b) (tokens_of rest))) (sym (has_place b rest ∙ k))
        ∙ sym (behind a b ts (tokens_of rest) e)
