-- What holds of each element of the lists that a cycle makes.
use Rattle.std.proofs.Common.{ℕ, ◌+◌, Option, Some, None, List, [], ◌∷◌, map}
use Rattle.std.specs.Prelude.{IfSome}
use Rattle.std.specs.List.{All, flat_map, filter_map, enumerate_from, cons_option}
use Rattle.std.proofs.lemmas.List.Elements.{All-nil, All-cons, All-head, All-tail, All-append}

pub flat_map-each : {X Y : Type 0} (P : Y → Type 0) (f : X → List Y) (Q : X → Type 0) → ((x : X) → Q x → All P (f x)) → (xs : List X) → All Q xs → All P (flat_map f xs)
flat_map-each P f Q each [] h = All-nil P
flat_map-each P f Q each (x ∷ xs) h =
    All-append P (f x) (flat_map f xs) (each x (All-head Q x xs h)) (flat_map-each P f Q each xs (All-tail Q x xs h))

pub filter_map-each : {X Y : Type 0} (P : Y → Type 0) (f : X → Option Y) (Q : X → Type 0) → ((x : X) → Q x → IfSome (f x) P) → (xs : List X) → All Q xs → All P (filter_map f xs)
filter_map-each P f Q each [] h = All-nil P
filter_map-each P f Q each (x ∷ xs) h = put (f x) (each x (All-head Q x xs h)) (filter_map-each P f Q each xs (All-tail Q x xs h))
  where
    put : (o : Option _) → IfSome o P → All P (filter_map f xs) → All P (cons_option o (filter_map f xs))
    put None k rest = rest
    put (Some y) k rest = All-cons P y (filter_map f xs) k rest

pub enumerated-each : {X : Type 0} (P : X → Type 0) (n : ℕ) (xs : List X) → All P xs → All (λ (p : ℕ × X). P p.1) (enumerate_from n xs)
enumerated-each {X} P n [] h = All-nil (λ (p : ℕ × X). P p.1)
enumerated-each {X} P n (x ∷ xs) h =
    All-cons (λ (p : ℕ × X). P p.1) (n, x) (enumerate_from (n + 1) xs) (All-head P x xs h) (enumerated-each P (n + 1) xs (All-tail P x xs h))

pub map-each : {X Y : Type 0} (P : Y → Type 0) (f : X → Y) (Q : X → Type 0) → ((x : X) → Q x → P (f x)) → (xs : List X) → All Q xs → All P (map f xs)
map-each P f Q each [] h = All-nil P
map-each P f Q each (x ∷ xs) h = All-cons P (f x) (map f xs) (each x (All-head Q x xs h)) (map-each P f Q each xs (All-tail Q x xs h))

pub all-each : {X : Type 0} (P : X → Type 0) → ((x : X) → P x) → (xs : List X) → All P xs
all-each P each [] = All-nil P
all-each P each (x ∷ xs) = All-cons P x xs (each x) (all-each P each xs)
