-- One piece after another on a file or a stream.
use Rattle.std.proofs.Common.{◌≡◌, ℕ, ◌+◌, ◌-◌, length, List, [], ◌++◌, take, drop, Bool, true, false, Option, Some, None, refl, sym, ◌∙◌, ap, arith, append_assoc, take-append-drop}
use Rattle.std.specs.Prelude.{if◌then◌else◌}
use Rattle.std.specs.Option.{option_map}
use Rattle.std.specs.Str.{bytes_eq}
use Rattle.std.proofs.lemmas.List.{append-nil, take-take, drop-take, take_rest}
use Rattle.room_edge.specs.Outside.{Files, puts, streams}
use Rattle.room_edge.specs.Only.{adds}

pub take_both : {X : Type 0} (n m : ℕ) (xs : List X) → take n xs ++ take m (drop n xs) ≡ take (n + m) xs
take_both n m xs = ap (λ l. take n xs ++ l) (sym (drop-take n m xs)) ∙ ap (λ l. l ++ drop n (take (n + m) xs)) (sym (take-take n (n + m) xs (omega arith))) ∙ take-append-drop n (take (n + m) xs)

option_nil : (old : Option (List ℕ)) → option_map (λ o. o ++ []) old ≡ old
option_nil None = refl
option_nil (Some o) = ap Some (append-nil o)

option_both : (a b : List ℕ) (old : Option (List ℕ)) → option_map (λ o. o ++ b) (option_map (λ o. o ++ a) old) ≡ option_map (λ o. o ++ (a ++ b)) old
option_both a b None = refl
option_both a b (Some o) = ap Some (append_assoc o a b)

-- at one name
nil_at : (hit : Bool) (old : Option (List ℕ)) → (if hit then option_map (λ o. o ++ []) old else old) ≡ old
nil_at true old = option_nil old
nil_at false old = refl

both_at : (hit : Bool) (a b : List ℕ) (old : Option (List ℕ)) →
    (if hit then option_map (λ o. o ++ b) (if hit then option_map (λ o. o ++ a) old else old) else (if hit then option_map (λ o. o ++ a) old else old))
    ≡ (if hit then option_map (λ o. o ++ (a ++ b)) old else old)
both_at true a b old = option_both a b old
both_at false a b old = refl

put_at : (hit : Bool) (a b : List ℕ) (old : Option (List ℕ)) →
    (if hit then option_map (λ o. o ++ b) (if hit then Some a else old) else (if hit then Some a else old))
    ≡ (if hit then Some (a ++ b) else old)
put_at true a b old = refl
put_at false a b old = refl

pub adds-nil : (made : Option Files) (name : List ℕ) → adds made name [] ≡ made
unfolding adds
adds-nil None name = refl
adds-nil (Some folder) name = ap Some (λ i n. nil_at (bytes_eq name n) (folder n) i)

pub adds-adds : (made : Option Files) (name a b : List ℕ) → adds (adds made name a) name b ≡ adds made name (a ++ b)
unfolding adds
adds-adds None name a b = refl
adds-adds (Some folder) name a b = ap Some (λ i n. both_at (bytes_eq name n) a b (folder n) i)

pub adds-puts : (made : Option Files) (name a b : List ℕ) → adds (puts made name a) name b ≡ puts made name (a ++ b)
unfolding adds puts
adds-puts None name a b = refl
adds-puts (Some folder) name a b = ap Some (λ i n. put_at (bytes_eq name n) a b (folder n) i)

pub streams-nil : (old : Option (List ℕ)) → streams old [] ≡ old
unfolding streams
streams-nil old = option_nil old

pub streams-streams : (old : Option (List ℕ)) (a b : List ℕ) → streams (streams old a) b ≡ streams old (a ++ b)
unfolding streams
streams-streams old a b = option_both a b old

-- the next piece of a list, after its first n
pub adds_more : (made : Option Files) (name bytes : List ℕ) (n m : ℕ) → adds (adds made name (take n bytes)) name (take m (drop n bytes)) ≡ adds made name (take (n + m) bytes)
adds_more made name bytes n m = adds-adds made name (take n bytes) (take m (drop n bytes)) ∙ ap (adds made name) (take_both n m bytes)

pub streams_more : (old : Option (List ℕ)) (bytes : List ℕ) (n m : ℕ) → streams (streams old (take n bytes)) (take m (drop n bytes)) ≡ streams old (take (n + m) bytes)
streams_more old bytes n m = streams-streams old (take n bytes) (take m (drop n bytes)) ∙ ap (streams old) (take_both n m bytes)

-- the same, as a loop over `&bytes[done..]` has it
pub adds_piece : (was now new : Option Files) (name bytes : List ℕ) (done n : ℕ) → now ≡ adds was name (take done bytes) → new ≡ adds now name (take n (take (length bytes - done) (drop done bytes))) → new ≡ adds was name (take (done + n) bytes)
adds_piece was now new name bytes done n before step =
    step ∙ ap (λ l. adds now name (take n l)) (take_rest bytes done) ∙ ap (λ m. adds m name (take n (drop done bytes))) before ∙ adds_more was name bytes done n

pub streams_piece : (was now new : Option (List ℕ)) (bytes : List ℕ) (done n : ℕ) → now ≡ streams was (take done bytes) → new ≡ streams now (take n (take (length bytes - done) (drop done bytes))) → new ≡ streams was (take (done + n) bytes)
streams_piece was now new bytes done n before step =
    step ∙ ap (λ l. streams now (take n l)) (take_rest bytes done) ∙ ap (λ m. streams m (take n (drop done bytes))) before ∙ streams_more was bytes done n
