-- Numbers that are put behind texts.
use Rattle.std.proofs.Common.{◌≡◌, ℕ, ◌++◌, ap, ◌∙◌}
use Rattle.std.specs.Prelude.{decimal}
use Rattle.quantity.specs.Bytes.{Bytes}

-- one number more, with what stands before it
pub put_more : (old new whole what : Bytes) (n m : ℕ) → new ≡ old ++ what ++ decimal n → n ≡ m → old ≡ whole → new ≡ whole ++ what ++ decimal m
put_more old new whole what n m is same h = is ∙ ap (λ x. x ++ what ++ decimal n) h ∙ ap (λ k. whole ++ what ++ decimal k) same
