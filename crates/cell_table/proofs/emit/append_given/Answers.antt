use Rattle.std.proofs.Common.{◌≡◌, ℕ, ◌+◌, ◌<◌, Option, List, ◌∷◌, ◌++◌, length, get_or, drop, ◌∙◌, sym, ap, arith, append_assoc, add-one, drop-cons}
use Rattle.std.specs.List.{flat_map, enumerate_from}
use Rattle.quantity.specs.declared.value.Value.{Value}
use Rattle.atomic_face.specs.Classes.{Bag}
use Rattle.cell_table.specs.Told.{if_given}
use Rattle.cell_table.proofs.emit.append_given.Goals as goal

-- what is given from this port on is what it gives, and then what is given from the next on
from-port : (vs : List (Option Value)) (k : ℕ) (d : Option Value) → k < length vs
    → flat_map if_given (enumerate_from k (drop k vs)) ≡ (if_given (k, get_or vs k d) ++ flat_map if_given (enumerate_from (k + 1) (drop (k + 1) vs)))
from-port vs k d lt =
    let next : drop k vs ≡ (get_or vs k d ∷ drop (k + 1) vs) = rw (add-one, drop-cons vs k d) in
    ap (λ xs. flat_map if_given (enumerate_from k xs)) next

given-more : (all old new : Bag) (vs : List (Option Value)) (i k : ℕ) (d : Option Value) → k < length vs → i ≡ k
    → all ≡ (old ++ flat_map if_given (enumerate_from k (drop k vs))) → new ≡ (old ++ if_given (k, get_or vs i d))
    → all ≡ (new ++ flat_map if_given (enumerate_from (k + 1) (drop (k + 1) vs)))
given-more all old new vs i k d lt same before added =
    let rest = flat_map if_given (enumerate_from (k + 1) (drop (k + 1) vs)) in
    let one : new ≡ (old ++ if_given (k, get_or vs k d)) = added ∙ ap (λ j. old ++ if_given (k, get_or vs j d)) same in
    before ∙ ap (λ xs. old ++ xs) (from-port vs k d lt) ∙ sym (append_assoc old (if_given (k, get_or vs k d)) rest) ∙ ap (λ xs. xs ++ rest) (sym one)

pub loop-port-preserved : goal.loop-port-preserved
loop-port-preserved c =
    given-more _ c.loop-port.into.items c.append_one.new.into.items c.args.given.values c.from.result c.loop-port.port c.index-given-from.result (omega arith) c.from.ensures
    c.loop-port.invariant c.in_ok-append_one.ensures
