-- Texts that are appended one after another.
use Rattle.std.proofs.Common.{◌≡◌, ℕ, zero, suc, ◌+◌, ◌≤◌, List, [], ◌∷◌, ◌++◌, refl, sym, ap, ◌∙◌, append_assoc, subst, arith, length, take, None}
use Rattle.std.proofs.Math.Seq.{take-append_seam}
use Rattle.std.specs.List.{flat_map, range_with_len}
use Rattle.std.proofs.lemmas.List.{length-take, take-take, flat_map_more}
use Rattle.quantity.specs.Bytes.{Bytes}
use Rattle.frame_draw.specs.declared.known.KnownTexts.{KnownTexts}
use Rattle.frame_draw.specs.Knowing.{IsKnown, AreKnown}

shorter : (a b : Bytes) → take (length a) b ≡ a → length a ≤ length b
shorter a b h = let n = ap length h in let m = length-take (length a) b in omega (arith, n, m)

-- what is kept twice is kept
pub kept_on : (a b c : Bytes) → take (length a) b ≡ a → take (length b) c ≡ b → take (length a) c ≡ a
kept_on a b c h k = sym (take-take (length a) (length b) c (shorter a b h)) ∙ ap (take (length a)) k ∙ h

-- and so it is with one more text behind it, and with nothing more
pub kept_more : (a b c x : Bytes) → take (length a) b ≡ a → c ≡ b ++ x → take (length a) c ≡ a
kept_more a b c x h e = kept_on a b c h (ap (take (length b)) e ∙ take-append_seam b x)

pub kept_same : (a b c : Bytes) → take (length a) b ≡ a → c ≡ b → take (length a) c ≡ a
kept_same a b c h e = ap (take (length a)) e ∙ h

-- two texts as a line
pub line_on : (a b c d x y : Bytes) → b ≡ a ++ x → c ≡ b ++ y → d ≡ c ++ 10 ∷ [] → d ≡ a ++ ((x ++ y) ++ 10 ∷ [])
line_on a b c d x y e f h =
    h ∙ ap (λ z. z ++ 10 ∷ []) (f ∙ ap (λ z. z ++ y) e ∙ append_assoc a x y) ∙ append_assoc a (x ++ y) (10 ∷ [])

-- a text between two bytes as a line
pub between_on : (k : ℕ) (a b c d x : Bytes) → b ≡ a ++ k ∷ [] → c ≡ b ++ x → d ≡ c ++ k ∷ 10 ∷ [] → d ≡ a ++ ((k ∷ (x ++ k ∷ [])) ++ 10 ∷ [])
between_on k a b c d x e f h =
    h ∙ ap (λ z. z ++ k ∷ 10 ∷ []) (f ∙ ap (λ z. z ++ x) e ∙ append_assoc a (k ∷ []) x)
    ∙ append_assoc a (k ∷ x) (k ∷ 10 ∷ []) ∙ ap (λ z. a ++ k ∷ z) (sym (append_assoc x (k ∷ []) (10 ∷ [])))

-- three texts
pub three_on : (a b c d x y z : Bytes) → b ≡ a ++ x → c ≡ b ++ y → d ≡ c ++ z → d ≡ a ++ ((x ++ y) ++ z)
three_on a b c d x y z e f h = h ∙ ap (λ w. w ++ z) (f ∙ ap (λ w. w ++ y) e ∙ append_assoc a x y) ∙ append_assoc a (x ++ y) z

-- the time, the rows between two edges, and an empty line
pub frame_on : (a b c d t e r n : Bytes) → b ≡ a ++ t → c ≡ b ++ ((e ++ r) ++ e) → d ≡ c ++ n → d ≡ a ++ ((((t ++ e) ++ r) ++ e) ++ n)
frame_on a b c d t e r n f g h =
    three_on a b c d t ((e ++ r) ++ e) n f g h ∙ ap (λ w. a ++ (w ++ n)) (sym (append_assoc t (e ++ r) e) ∙ ap (λ w. w ++ e) (sym (append_assoc t e r)))

range_more : (a n : ℕ) → range_with_len a (suc n) ≡ range_with_len a n ++ (a + n) ∷ []
range_more a zero = let e : a ≡ a + 0 = omega arith in ap (λ (x : ℕ). x ∷ []) e
range_more a (suc n) =
    let e : a + 1 + n ≡ a + suc n = omega arith in
    ap (λ (r : List ℕ). a ∷ r) (range_more (a + 1) n ∙ ap (λ (x : ℕ). range_with_len (a + 1) n ++ x ∷ []) e)

range_step : (n : ℕ) → range_with_len 0 (n + 1) ≡ range_with_len 0 n ++ n ∷ []
range_step n =
    let e : n + 1 ≡ suc n = omega arith in
    let f : 0 + n ≡ n = omega arith in
    ap (range_with_len 0) e ∙ range_more 0 n ∙ ap (λ (x : ℕ). range_with_len 0 n ++ x ∷ []) f

-- one more text behind those of the numbers before it
pub range_texts : (f : ℕ → Bytes) (start old new : Bytes) (n : ℕ) → old ≡ start ++ flat_map f (range_with_len 0 n) → new ≡ old ++ f n → new ≡ start ++ flat_map f (range_with_len 0 (n + 1))
range_texts f start old new n a b =
    b ∙ ap (λ x. x ++ f n) a ∙ flat_map_more f start (range_with_len 0 n) n ∙ ap (λ r. start ++ flat_map f r) (sym (range_step n))

-- no text of a value is known before the first
pub none_known : (d w : ℕ) (k : KnownTexts) → k.first ≡ None → k.second ≡ None → AreKnown d w k
none_known d w k e f = (subst (IsKnown d w) (sym e) tt, subst (IsKnown d w) (sym f) tt)
