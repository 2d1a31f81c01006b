-- Pairs of rising times wait in a list one after another.
use Rattle.std.proofs.Common.{◌≡◌, ℕ, zero, suc, ◌+◌, ◌<◌, ◌≤◌, Option, false, List, [], ◌∷◌, map, length, get_or, set, take, refl, sym, ◌∙◌, ap, subst, arith, add-one}
use Rattle.std.specs.List.{All}
use Rattle.std.specs.Option.{is_some}
use Rattle.std.proofs.lemmas.Bool.{false≢true}
use Rattle.delay_lines.specs.Lists.{first_pair}
use Rattle.std.proofs.lemmas.Bool.Decides.{nat_tests}
use Rattle.std.proofs.lemmas.List.{get_or-map, get_or-set_same, length-map, set-set}
use Rattle.quantity.specs.declared.value.Value.{Value}
use Rattle.quantity.specs.Delay.{put_pair}
use Rattle.run_model.specs.CellStep.{PortState}
use Rattle.run_model.specs.Waiting.{RisesFrom}
use Rattle.cell_table.specs.declared.state.PortState as saved
use Rattle.cell_table.specs.Saved.{port_of_saved}

rises_at : (low : ℕ) (ps : List (ℕ × Value)) (i : ℕ) (d : ℕ × Value) → RisesFrom low ps → i < length ps → low ≤ (get_or ps i d).0
rises_at low [] i d r h = absurd (omega (arith, h))
rises_at low (p ∷ ps) zero d r h = r.0
rises_at low (p ∷ ps) (suc i) d r h = omega (arith, r.0, rises_at (p.0 + 1) ps i d r.1 (omega (arith, h)))

later : (at : ℕ) (v : Value) (p : ℕ × Value) (ps : List (ℕ × Value)) → p.0 < at → put_pair at v (p ∷ ps) ≡ p ∷ put_pair at v ps
later at v p ps lt = grind (arith, nat_tests)

pair_more : (low : ℕ) (ps : List (ℕ × Value)) (i : ℕ) (d : ℕ × Value) → RisesFrom low ps → i < length ps
    → put_pair (get_or ps i d).0 (get_or ps i d).1 (take i ps) ≡ take (suc i) ps
pair_more low [] i d r h = absurd (omega (arith, h))
pair_more low (p ∷ ps) zero d r h = refl
pair_more low (p ∷ ps) (suc i) d r h =
    let q = get_or ps i d in
    let before = rises_at (p.0 + 1) ps i d r.1 (omega (arith, h)) in
    later q.0 q.1 p (take i ps) (omega (arith, before)) ∙ ap (λ l. p ∷ l) (pair_more (p.0 + 1) ps i d r.1 (omega (arith, h)))

-- the list of a port has one pair more
pub list_more : (ps : List (ℕ × Value)) (old ls new : List (List (ℕ × Value))) (port i : ℕ) (q : ℕ × Value) → RisesFrom 0 ps → i < length ps → q ≡ get_or ps i q → port < length old
    → ls ≡ set old port (take i ps) → new ≡ set ls port (put_pair q.0 q.1 (get_or ls port [])) → new ≡ set old port (take (i + 1) ps)
list_more ps old ls new port i q rises here is inside now put =
    let at : get_or ls port [] ≡ take i ps = ap (λ xs. get_or xs port []) now ∙ get_or-set_same old port (take i ps) [] inside in
    let pair : put_pair q.0 q.1 (get_or ls port []) ≡ take (i + 1) ps =
    (λ k. put_pair (is k).0 (is k).1 (at k)) ∙ pair_more 0 ps i q rises here ∙ ap (λ n. take n ps) (sym (add-one i)) in
    put ∙ (λ k. set (now k) port (pair k)) ∙ set-set old port (take i ps) (take (i + 1) ps)

-- the lists of saved ports rise
pub saved_rises : (ps : List saved.PortState) → All (λ (p : PortState). RisesFrom 0 p.pairs) (map port_of_saved ps) → All (λ (p : saved.PortState). RisesFrom 0 p.pairs.items) ps
saved_rises ps rises k d h =
    let at : get_or (map port_of_saved ps) k (port_of_saved d) ≡ port_of_saved (get_or ps k d) = get_or-map port_of_saved ps k d (port_of_saved d) h in
    subst (λ (p : PortState). RisesFrom 0 p.pairs) at (rises k (port_of_saved d) (omega (arith, h, length-map ps port_of_saved)))

-- a list that is changed twice
pub changed_again : {A : Type 0} (a b c : List A) (k : ℕ) (x y : A) → b ≡ set a k x → c ≡ set b k y → c ≡ set a k y
changed_again a b c k x y first second = second ∙ ap (λ xs. set xs k y) first ∙ set-set a k x y

-- a list with no first pair is empty
pub is_empty : (l : List (ℕ × Value)) (o : Option (ℕ × Value)) → o ≡ first_pair l → is_some o ≡ false → l ≡ []
is_empty [] o e none = refl
is_empty (p ∷ ps) o e none = absurd (false≢true (sym none ∙ ap is_some e))
