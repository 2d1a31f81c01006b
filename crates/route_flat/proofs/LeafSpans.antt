-- Spans of leaves as they are kept.
use Rattle.std.proofs.Common.{◌≡◌, ℕ, zero, suc, ◌+◌, ◌-◌, ◌<◌, ◌≤◌, List, [], ◌∷◌, ◌++◌, length, get_or, take, drop, replicate, refl, sym, ap, ◌∙◌, arith, length-append}
use Rattle.std.proofs.lemmas.List.{length-replicate}
use Rattle.port_net.specs.declared.span.Span.{Span}

-- one more span at the end is the same
shared_more : (spans : List Span) (rest : Span) (k n : ℕ) (d : Span) → k < length spans → get_or spans k d ≡ rest → drop (suc k) spans ≡ replicate n rest → drop k spans ≡ replicate (suc n) rest
shared_more [] rest k n d lt is same = absurd (omega arith)
shared_more (s ∷ ss) rest zero n d lt is same = λ j. is j ∷ same j
shared_more (s ∷ ss) rest (suc k) n d lt is same = shared_more ss rest k n d (omega arith) is same

-- and so from one place earlier on
pub shared_before : (spans : List Span) (rest : Span) (k : ℕ) (d : Span) → 0 < k → k ≤ length spans → get_or spans (k - 1) d ≡ rest → drop k spans ≡ replicate (length spans - k) rest → drop (k - 1) spans ≡ replicate (length spans - (k - 1)) rest
shared_before spans rest k d some all is same =
    let next : suc (k - 1) ≡ k = omega arith in
    let many : suc (length spans - k) ≡ length spans - (k - 1) = omega arith in
    shared_more spans rest (k - 1) (length spans - k) d (omega arith) is (ap (λ (m : ℕ). drop m spans) next ∙ same)
    ∙ ap (λ (m : ℕ). replicate m rest) many

whole : (xs : List Span) (k : ℕ) → take k xs ++ drop k xs ≡ xs
whole xs zero = refl
whole [] (suc k) = refl
whole (x ∷ xs) (suc k) = ap (λ (ys : List Span). x ∷ ys) (whole xs k)

-- what is kept of the spans, and what was the same
pub spans_back : (xs : List Span) (k n : ℕ) (rest : Span) → drop k xs ≡ replicate n rest → take k xs ++ replicate n rest ≡ xs
spans_back xs k n rest same = ap (λ (ys : List Span). take k xs ++ ys) (sym same) ∙ whole xs k

repeated : (n : ℕ) (rest : Span) (i : ℕ) (d : Span) → i < n → rest ≡ get_or (replicate n rest) i d
repeated zero rest i d lt = absurd (omega arith)
repeated (suc n) rest zero d lt = refl
repeated (suc n) rest (suc i) d lt = repeated n rest i d (omega arith)

-- the span of a leaf that there is
pub span_is : (xs : List Span) (n : ℕ) (rest : Span) (i : ℕ) (d : Span) → i < length xs + n → get_or xs i rest ≡ get_or (xs ++ replicate n rest) i d
span_is [] n rest i d lt = repeated n rest i d (omega arith)
span_is (x ∷ xs) n rest zero d lt = refl
span_is (x ∷ xs) n rest (suc i) d lt = span_is xs n rest i d (omega arith)

-- as many as are kept and are the same
pub spans_long : (xs : List Span) (n : ℕ) (rest : Span) → length (xs ++ replicate n rest) ≡ length xs + n
spans_long xs n rest = length-append xs (replicate n rest) ∙ ap (λ k. length xs + k) (length-replicate n rest)
