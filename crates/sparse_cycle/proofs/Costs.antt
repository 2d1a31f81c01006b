-- What a cycle that stops costs.
use Rattle.std.proofs.Common.{◌≡◌, ℕ, zero, suc, ◌+◌, ◌<◌, Bool, true, false, cond, List, [], ◌∷◌, map, length, refl, sym, ◌∙◌, ap, arith, length-append}
use Rattle.std.specs.Prelude.{if◌then◌else◌}
use Rattle.std.specs.List.{sum_by, count_by, filter, flat_map, enumerate_from, range_with_len}
use Rattle.std.proofs.lemmas.List.{length-map}
use Rattle.std.proofs.lemmas.List.Sums.{sum_by-cons}
use Rattle.atomic_face.specs.declared.class.PortNo.{PortNo}
use Rattle.atomic_face.specs.Classes.{Bag}
use Rattle.quantity.specs.declared.value.Value.{Value}
use Rattle.run_model.specs.Cycle.{Moved, stayed, moved, stopped}
use Rattle.run_model.specs.Run.{PortRecord, port_records}
use Rattle.run_model.specs.Visits.{is_asked, cost}
use Rattle.sparse_cycle.specs.Woken.{CostsItsParts}
use Rattle.sparse_cycle.proofs.Asked.{Moves, tested}
use Rattle.sparse_cycle.proofs.Whole.{gave, test, move, given-is, moves-are, moves-here, touched-are}

-- each value of a bag is a record
records-long : (k : ℕ) (bags : List Bag) → length (flat_map port_records (enumerate_from k bags)) ≡ sum_by (λ (b : Bag). length b) bags
records-long k [] = refl
records-long k (b ∷ bs) =
    length-append (port_records (k, b)) (flat_map port_records (enumerate_from (k + 1) bs))
    ∙ (λ i. length-map {B = PortRecord} b (λ (o : PortNo × Value). record { leaf = k; port = o.0.0; value = o.1 }) i + records-long (k + 1) bs i)
    ∙ sym (sum_by-cons (λ (x : Bag). length x) b bs)

asks : (m : Moved) → Moves m → is_asked m ≡ true
asks stayed h = absurd h
asks (moved s) h = refl
asks (stopped why) h = refl

count-step : (xs : List ℕ) (x : ℕ) (m : Moved) (n : ℕ) (b : Bool) → is_asked m ≡ true → n ≡ length xs
    → cond (is_asked (if b then m else stayed)) 1 0 + n ≡ length (cond b (x ∷ xs) xs)
count-step xs x m n true asked same =
    let more : 1 + n ≡ suc (length xs) = omega (arith, same) in
    ap (λ c. cond c 1 0 + n) asked ∙ more
count-step xs x m n false asked same = omega (arith, same)

count-asked : (p : ℕ → Bool) (made : ℕ → Moved) (k n : ℕ) → ((j m : ℕ) → m ≡ k + j → j < n → Moves (made m))
    → count_by is_asked (map (tested p made) (range_with_len k n)) ≡ length (filter p (range_with_len k n))
count-asked p made k zero moves = refl
count-asked p made k (suc n) moves =
    let here : is_asked (made k) ≡ true = asks (made k) (moves 0 k (omega arith) (omega arith)) in
    let rest = count-asked p made (k + 1) n (λ j m is lt. moves (suc j) m (omega (arith, is)) (omega (arith, lt))) in
    sum_by-cons (λ (m : Moved). cond (is_asked m) 1 0) (tested p made k) (map (tested p made) (range_with_len (k + 1) n))
    ∙ count-step (filter p (range_with_len (k + 1) n)) k (made k) (count_by is_asked (map (tested p made) (range_with_len (k + 1) n))) (p k) here rest

pub costs-its-parts : CostsItsParts
costs-its-parts tree t s fits next =
    let asked = ap (count_by is_asked) (moves-are tree t s fits next)
    ∙ count-asked (test tree t s fits next) (move tree t s fits next) 0 (length s.leaf_states) (λ j m is lt. let same : m < length s.leaf_states = omega (arith, is, lt) in moves-here tree t s fits next m same)
    ∙ ap length (touched-are tree t s fits next) in
    let gave_as = sym (records-long 0 (gave tree t s fits next)) ∙ ap length (sym (given-is tree t s fits next)) in
    λ i. cost tree (gave_as i) (asked i)
