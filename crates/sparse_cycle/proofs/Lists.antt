-- What a test leaves out gives nothing.
use Rattle.std.proofs.Common.{◌≡◌, Bool, true, false, cond, List, [], ◌∷◌, ◌++◌, refl, sym, ◌∙◌, ap}
use Rattle.std.specs.List.{filter, flat_map}

kept_by : {X A : Type 0} (f : X → List A) (p : X → Bool) → ((x : X) → p x ≡ false → f x ≡ []) → (x : X) (xs : List X) (b : Bool) → p x ≡ b → flat_map f (filter p xs) ≡ flat_map f xs → flat_map f (cond b (x ∷ filter p xs) (filter p xs)) ≡ f x ++ flat_map f xs
kept_by f p quiet x xs true is rest = ap (λ l. f x ++ l) rest
kept_by f p quiet x xs false is rest = rest ∙ ap (λ l. l ++ flat_map f xs) (sym (quiet x is))

pub flat_map-kept : {X A : Type 0} (f : X → List A) (p : X → Bool) → ((x : X) → p x ≡ false → f x ≡ []) → (xs : List X) → flat_map f (filter p xs) ≡ flat_map f xs
flat_map-kept f p quiet [] = refl
flat_map-kept f p quiet (x ∷ xs) = kept_by f p quiet x xs (p x) refl (flat_map-kept f p quiet xs)
