-- The first piece of a text.
use Rattle.std.proofs.Common.{◌≡◌, ℕ, ◌+◌, ◌<◌, ◌≤◌, ◌==◌, ◌&&◌, ◌||◌, Bool, true, false, cond, List, [], ◌∷◌, refl, sym, ap, ◌∙◌, arith, suc, length, take, drop}
use Rattle.std.specs.Prelude.{max, codes, if◌then◌else◌}
use Rattle.std.proofs.lemmas.Bool.Decides.{nat_tests}
use Rattle.std.proofs.lemmas.List.Sums.{prefix_len-le-length}
use Rattle.std.specs.List.{list_any, prefix_len}
use Rattle.std.specs.Str.{bytes_eq}
use Rattle.quantity.specs.Bytes.{Bytes, is_byte}
use Rattle.rule_words.specs.TokenSteps.{is_pair, piece_length}
use Rattle.rule_words.specs.Tokens.{pieces_with_byte, holds, is_of_run, pieces}

-- ---- bytes and the pieces behind them

-- a byte that may begin a mark of two
abbrev pub opens_pair : ℕ → Bool
opens_pair c = list_any (is_byte c) (codes "!<>:")

and_false : (b : Bool) → b && false ≡ false
and_false true = refl
and_false false = refl

-- the head of the pieces of a text is the head of the text
pub record Heads (c : ℕ) (cs : Bytes) : Type 0 where
  pub behind : Bytes
  pub others : List Bytes
  pub are : pieces (c ∷ cs) ≡ (c ∷ behind) ∷ others

held_heads : (c : ℕ) (p : Bytes) (ps : List Bytes) (b : Bool) → (t : Bytes) × (qs : List Bytes) × ((if b then (c ∷ p) ∷ ps else (c ∷ []) ∷ p ∷ ps) ≡ (c ∷ t) ∷ qs)
held_heads c p ps true = (p, ps, refl)
held_heads c p ps false = ([], p ∷ ps, refl)

some_heads : (c : ℕ) (ps : List Bytes) → (t : Bytes) × (qs : List Bytes) × (pieces_with_byte c ps ≡ (c ∷ t) ∷ qs)
some_heads c [] = ([], [], refl)
some_heads c (p ∷ ps) = held_heads c p ps (holds c p)

heads : (c : ℕ) (cs : Bytes) → Heads c cs
heads c cs = let h = some_heads c (pieces cs) in record { behind = h.0; others = h.1; are = h.2 }

held_not : (c : ℕ) (p : Bytes) (ps : List Bytes) → holds c p ≡ false → pieces_with_byte c (p ∷ ps) ≡ (c ∷ []) ∷ p ∷ ps
held_not c p ps e = ap (λ b. if b then (c ∷ p) ∷ ps else (c ∷ []) ∷ p ∷ ps) e

held_on : (c : ℕ) (p : Bytes) (ps : List Bytes) → holds c p ≡ true → pieces_with_byte c (p ∷ ps) ≡ (c ∷ p) ∷ ps
held_on c p ps e = ap (λ b. if b then (c ∷ p) ∷ ps else (c ∷ []) ∷ p ∷ ps) e

-- a byte that does not hold to what is behind it is a piece
alone_before : (c d : ℕ) (ds : Bytes) → ((t : Bytes) → holds c (d ∷ t) ≡ false) → pieces (c ∷ d ∷ ds) ≡ (c ∷ []) ∷ pieces (d ∷ ds)
alone_before c d ds apart =
    let h = heads d ds in
    ap (pieces_with_byte c) h.are ∙ held_not c (d ∷ h.behind) h.others (apart h.behind) ∙ ap (λ ps. (c ∷ []) ∷ ps) (sym h.are)

-- ---- runs

no_run_by : (c : ℕ) (a b d e : Bool) → (c == 33) ≡ a → (c == 60) ≡ b → (c == 62) ≡ d → (c == 58) ≡ e → (a || (b || (d || (e || false)))) ≡ true → is_of_run c ≡ false
no_run_by c true b d e f g h i j = let is : c ≡ 33 = grind (arith, nat_tests) in ap is_of_run is
no_run_by c false true d e f g h i j = let is : c ≡ 60 = grind (arith, nat_tests) in ap is_of_run is
no_run_by c false false true e f g h i j = let is : c ≡ 62 = grind (arith, nat_tests) in ap is_of_run is
no_run_by c false false false true f g h i j = let is : c ≡ 58 = grind (arith, nat_tests) in ap is_of_run is
no_run_by c false false false false f g h i j = absurd cc

pair_no_run : (c : ℕ) → opens_pair c ≡ true → is_of_run c ≡ false
pair_no_run c e = no_run_by c (c == 33) (c == 60) (c == 62) (c == 58) refl refl refl refl e

run_no_pair : (c : ℕ) (b : Bool) → is_of_run c ≡ true → opens_pair c ≡ b → opens_pair c ≡ false
run_no_pair c false e f = f
run_no_pair c true e f = absurd (let wrong : true ≡ false = sym e ∙ pair_no_run c f in cc)

run_apart : (c d : ℕ) (t : Bytes) → is_of_run c ≡ true → is_of_run d ≡ false → holds c (d ∷ t) ≡ false
run_apart c d t e f =
    ap (λ b. (is_of_run c && b) || (opens_pair c && bytes_eq (d ∷ t) (codes "="))) f
    ∙ ap (λ b. (is_of_run c && false) || (b && bytes_eq (d ∷ t) (codes "="))) (run_no_pair c (opens_pair c) e refl)
    ∙ ap (λ b. b || false) (and_false (is_of_run c))

run_joined : (c d : ℕ) (t : Bytes) → is_of_run c ≡ true → is_of_run d ≡ true → holds c (d ∷ t) ≡ true
run_joined c d t e f =
    ap (λ b. (b && is_of_run d) || (opens_pair c && bytes_eq (d ∷ t) (codes "="))) e
    ∙ ap (λ b. b || (opens_pair c && bytes_eq (d ∷ t) (codes "="))) f

abbrev pub CutAfter : ℕ → Bytes → ℕ → Type 0
CutAfter c cs n = pieces (c ∷ cs) ≡ (c ∷ take n cs) ∷ pieces (drop n cs)

run_step : (c d : ℕ) (ds : Bytes) (n : ℕ) (b : Bool) → is_of_run c ≡ true → is_of_run d ≡ b → (b ≡ true → CutAfter d ds n) → CutAfter c (d ∷ ds) (cond b (1 + n) 0)
run_step c d ds n true e f rest =
    let next : 1 + n ≡ suc n = omega arith in
    rw next (ap (pieces_with_byte c) (rest refl) ∙ held_on c (d ∷ take n ds) (pieces (drop n ds)) (run_joined c d (take n ds) e f))
run_step c d ds n false e f rest = alone_before c d ds (λ t. run_apart c d t e f)

run_piece : (c : ℕ) (cs : Bytes) → is_of_run c ≡ true → CutAfter c cs (prefix_len is_of_run cs)
run_piece c [] e = refl
run_piece c (d ∷ ds) e = run_step c d ds (prefix_len is_of_run ds) (is_of_run d) e refl (λ f. run_piece d ds f)

-- ---- marks

equal_alone : (ds : Bytes) → pieces (61 ∷ ds) ≡ (61 ∷ []) ∷ pieces ds
equal_alone [] = refl
equal_alone (d ∷ ds) = alone_before 61 d ds (λ t. refl)

pair_holds : (b a : Bool) → a ≡ true → ((b && false) || (a && true)) ≡ true
pair_holds true true e = refl
pair_holds false true e = refl
pair_holds b false e = absurd cc

both : (a b : Bool) → a && b ≡ true → (a ≡ true) × (b ≡ true)
both true true e = (refl, refl)
both true false e = absurd cc
both false b e = absurd cc

pair_piece : (c d : ℕ) (ds : Bytes) → is_pair (c ∷ d ∷ ds) ≡ true → pieces (c ∷ d ∷ ds) ≡ (c ∷ d ∷ []) ∷ pieces ds
pair_piece c d ds e =
    let parts = both (opens_pair c) (d == 61) e in
    let opens : opens_pair c ≡ true = parts.0 in
    let test : (d == 61) ≡ true = parts.1 in
    let is : d ≡ 61 = grind (arith, nat_tests) in
    rw is (ap (pieces_with_byte c) (equal_alone ds) ∙ held_on c (61 ∷ []) (pieces ds) (pair_holds (is_of_run c) (opens_pair c) opens))

mark_apart_by : (r a e rest : Bool) → a && e ≡ false → ((false && r) || (a && (e && rest))) ≡ false
mark_apart_by r true true rest h = absurd cc
mark_apart_by r true false rest h = refl
mark_apart_by r false e rest h = refl

mark_apart : (c d : ℕ) (t : Bytes) → is_of_run c ≡ false → (opens_pair c && (d == 61)) ≡ false → holds c (d ∷ t) ≡ false
mark_apart c d t e f =
    ap (λ b. (b && is_of_run d) || (opens_pair c && bytes_eq (d ∷ t) (codes "="))) e
    ∙ mark_apart_by (is_of_run d) (opens_pair c) (d == 61) (bytes_eq t []) f

mark_piece : (c : ℕ) (cs : Bytes) → is_of_run c ≡ false → is_pair (c ∷ cs) ≡ false → CutAfter c cs 0
mark_piece c [] e f = refl
mark_piece c (d ∷ ds) e f = alone_before c d ds (λ t. mark_apart c d t e f)

-- ---- the first piece

-- a text that is cut behind its first piece
pub record IsCut (text : Bytes) (n : ℕ) : Type 0 where
  pub cut : pieces text ≡ take n text ∷ pieces (drop n text)
  pub some : 0 < n
  pub within : n ≤ length text

after_head : (c : ℕ) (cs : Bytes) (n m : ℕ) → m ≡ suc n → n ≤ length cs → CutAfter c cs n → IsCut (c ∷ cs) m
after_head c cs n m e h k = rw e (record { cut = k; some = omega arith; within = omega arith })

by_run : (c : ℕ) (cs : Bytes) (b : Bool) → is_of_run c ≡ b → is_pair (c ∷ cs) ≡ false → IsCut (c ∷ cs) (max 1 (cond b (1 + prefix_len is_of_run cs) 0))
by_run c cs true e f = after_head c cs (prefix_len is_of_run cs) _ (omega arith) (prefix_len-le-length is_of_run cs) (run_piece c cs e)
by_run c cs false e f = after_head c cs 0 _ (omega arith) (omega arith) (mark_piece c cs e f)

pair_cut : (c : ℕ) (cs : Bytes) → is_pair (c ∷ cs) ≡ true → IsCut (c ∷ cs) 2
pair_cut c [] e = absurd cc
pair_cut c (d ∷ ds) e = after_head c (d ∷ ds) 1 2 (omega arith) (omega arith) (pair_piece c d ds e)

by_pair : (c : ℕ) (cs : Bytes) (b : Bool) → is_pair (c ∷ cs) ≡ b → IsCut (c ∷ cs) (if b then 2 else max 1 (prefix_len is_of_run (c ∷ cs)))
by_pair c cs true e = pair_cut c cs e
by_pair c cs false e = by_run c cs (is_of_run c) refl e

pub first_piece : (text : Bytes) (n : ℕ) → (length text == 0) ≡ false → n ≡ piece_length text → IsCut text n
first_piece [] n e f = absurd cc
first_piece (c ∷ cs) n e f = rw f (by_pair c cs (is_pair (c ∷ cs)) refl)

pub no_piece : (text : Bytes) → (length text == 0) ≡ true → pieces text ≡ []
no_piece [] e = refl
no_piece (c ∷ cs) e = absurd (grind (arith, nat_tests))
