use Rattle.std.proofs.Common.{◌≡◌, get_or, arith}
use Rattle.std.specs.Prelude.{pos}
use Rattle.std.proofs.lemmas.Int.{to_z-of_z}
use mir.Val.{to_z, of_z}
use mir.Syntax.{w64}
use Rattle.atomic_kinds.proofs.PairLemmas.{first_is_pair}
use Rattle.atomic_kinds.proofs.cpu.first_pair.Goals as goal

pub returns-in-Some : goal.returns-in-Some
returns-in-Some c =
    let at : to_z w64 (of_z w64 (get_or c.args.words.now 0 (pos 0))) ≡ get_or c.args.words.now 0 (pos 0) = grind (arith, to_z-of_z) in
    let value : to_z w64 (of_z w64 (get_or c.args.words.now 1 (pos 0))) ≡ get_or c.args.words.now 1 (pos 0) = grind (arith, to_z-of_z) in
    first_is_pair c.args.before c.in-Some.pair c.args.words.now _ _ (pos 0) (omega arith) at value c.in-Some.ensures
