-- A piece of a list is written element by element.
use Rattle.std.proofs.Common.{◌≡◌, ◌≢◌, ℕ, ◌+◌, ◌*◌, ◌<◌, ◌≤◌, List, [], ◌∷◌, ◌++◌, map, length, get_or, set, take, drop, sym, ◌∙◌, ap, arith, add-zero, inl, inr}
use Rattle.std.specs.Prelude.{◌⊎◌}
use Rattle.std.proofs.lemmas.List.{append-nil, append_assoc, take-append-drop, drop_more, length-append, length-map, length-take-le, map_more, set_at}
use Rattle.std.proofs.lemmas.Nat.{mul-le}
use Rattle.std.proofs.Math.Nat.{add-mul}
use Rattle.cell_table.specs.Table.{with_piece}
use Rattle.cell_table.proofs.Laid as laid

-- one element more is written
pub piece_more : {A B : Type 0} (f : A → B) (d : B) (ps : List A) (first p : ℕ) (q : A) (xs ys zs : List B) → first + length ps ≤ length xs → p < length ps → q ≡ get_or ps p q
    → ys ≡ with_piece first (map f (take p ps)) xs → zs ≡ set ys (first + p) (f q) → zs ≡ with_piece first (map f (take (p + 1) ps)) xs
piece_more f d ps first p q xs ys zs fits here is now put =
    let done = map f (take p ps) in
    let front = take first xs ++ done in
    let y = get_or xs (first + p) d in
    let rest = drop (first + p + 1) xs in
    let long : length done ≡ p = length-map (take p ps) f ∙ length-take-le p ps (omega (arith, here)) in
    let front-long : length front ≡ first + p = omega (arith, length-append (take first xs) done, length-take-le first xs (omega (arith, fits)), long) in
    let cut : drop (first + length done) xs ≡ y ∷ rest = ap (λ n. drop (first + n) xs) long ∙ drop_more xs (first + p) d (omega (arith, fits, here)) in
    let shape : ys ≡ front ++ y ∷ rest = now ∙ ap (λ us. front ++ us) cut in
    let grown : done ++ f q ∷ [] ≡ map f (take (p + 1) ps) = sym (map_more f ps p q here ∙ ap (λ x. done ++ f x ∷ []) (sym is)) in
    let grown-long : length (map f (take (p + 1) ps)) ≡ p + 1 = length-map (take (p + 1) ps) f ∙ length-take-le (p + 1) ps (omega (arith, here)) in
    put ∙ ap (λ us. set us (first + p) (f q)) shape ∙ set_at front y rest (f q) (first + p) front-long
    ∙ sym (append_assoc front (f q ∷ []) rest)
    ∙ ap (λ us. us ++ rest) (append_assoc (take first xs) done (f q ∷ []) ∙ ap (λ us. take first xs ++ us) grown)
    ∙ ap (λ n. take first xs ++ map f (take (p + 1) ps) ++ drop n xs) (omega (arith, grown-long))

-- the places of other cells stay
pub piece_elsewhere : {A : Type 0} (d : A) (xs new : List A) (i j m w : ℕ) → length new ≡ w → i * w + w ≤ length xs → j ≢ i → j * w ≤ m → m < j * w + w
    → get_or (with_piece (i * w) new xs) m d ≡ get_or xs m d
piece_elsewhere d xs new i j m w long fits ne low high =
    elim side [ inl before ↦ laid.piece_before d xs new (i * w) m (omega (arith, fits)) before | inr behind ↦ laid.piece_behind d xs new (i * w) m (omega (arith, fits)) behind ]
  where
    side : (m < i * w) ⊎ (i * w + length new ≤ m)
    side = elim (laid.order i j) [
      | inl le ↦
          let rows : (i + 1) * w ≤ j * w = mul-le (i + 1) w j w (omega (arith, le, ne)) (omega arith) in
          inr (omega (arith, rows, add-mul i 1 w, low, long))
      | inr lt ↦
          let rows : (j + 1) * w ≤ i * w = mul-le (j + 1) w i w (omega (arith, lt)) (omega arith) in
          inl (omega (arith, rows, add-mul j 1 w, high))
    ]

-- nothing is written
pub piece_none : {A : Type 0} (first : ℕ) (xs : List A) → xs ≡ with_piece first [] xs
piece_none first xs = sym (ap (λ us. us ++ drop (first + 0) xs) (append-nil (take first xs)) ∙ ap (λ n. take first xs ++ drop n xs) (add-zero first) ∙ take-append-drop first xs)
