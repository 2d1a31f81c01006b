use Rattle.std.proofs.Common.{◌≡◌, ℕ, ◌<◌, Bool, true, false, Some, None, List, [], length, get_or, get_or-set_same, set, refl, sym, ap, ◌∙◌, subst, arith}
use Rattle.std.specs.Prelude.{◌&&◌}
use Rattle.std.specs.List.{position}
use Rattle.std.proofs.lemmas.List.{length-set}
use Rattle.std.proofs.lemmas.List.Quantifiers.{position-Some}
use Rattle.atomic_face.specs.declared.class.Class.TheVariants.{Queue, Table}
use Rattle.atomic_face.proofs.ClassNumbers.{same_class-is}
use Rattle.atomic_face.specs.Stocked.{Stocked, is_free}
use Rattle.model_runs.proofs.tables.taken.Goals as goal

some_box : Stocked
some_box = record { box = record { kind = Queue; settings = []; state = [] }; taken = false }

first_true : (a b : Bool) → a && b ≡ true → a ≡ true
first_true true b e = refl
first_true false b e = e

-- the box that is taken is a table
kind_taken : (old new : List Stocked) (i : ℕ) → position (is_free Table) old ≡ Some i → ((d : Stocked) → new ≡ set old i (record (get_or old i d) { taken = true })) → (d : Stocked) → (get_or new i d).box.kind ≡ Table
kind_taken old new i e same d =
    let found = position-Some (is_free Table) old i d e in
    let within : i < length old = found.0 in
    rw (same d, get_or-set_same) (same_class-is _ Table (first_true _ _ found.1))

pub returns : goal.returns
returns g c =
    let at = c.in_ok-take.field-0.0 in
    let place = (position-Some (is_free Table) c.args.stock.now at some_box c.in_ok-take.ensures.0).0 in
    record {
      within = rw (c.in_ok-take.ensures.1 some_box, length-set) place;
      table = kind_taken c.args.stock.now c.take.new.self at c.in_ok-take.ensures.0 c.in_ok-take.ensures.1;
    }
