use Rattle.std.proofs.Common.{◌≡◌, Some, rules}
use Rattle.quantity.specs.declared.truth.Tri.TheVariants.{True, False}
use Rattle.rule_tree.specs.Phrases as P
use Rattle.rule_tree.specs.Phrases.{looked_up}
use Rattle.rule_words.specs.Reading.{constants}
use Rattle.rule_phrases.proofs.Fronts.{term_is}
use Rattle.rule_phrases.proofs.atom.constant_in.Goals as goal

pub returns-then-eq : goal.returns-then-eq
returns-then-eq c =
    let e : looked_up constants c.args.word.now ≡ Some (P.truth True) = search rules in
    λ names. term_is names (looked_up constants c.args.word.now) (P.truth True) c.truth.result e (c.truth.ensures names)

pub returns-then-eq-2 : goal.returns-then-eq-2
returns-then-eq-2 c =
    let e : looked_up constants c.args.word.now ≡ Some (P.truth False) = search rules in
    λ names. term_is names (looked_up constants c.args.word.now) (P.truth False) c.truth-then-eq-2.result e (c.truth-then-eq-2.ensures names)

pub returns-then-eq-3 : goal.returns-then-eq-3
returns-then-eq-3 c =
    let e : looked_up constants c.args.word.now ≡ Some P.now = search rules in
    λ names. term_is names (looked_up constants c.args.word.now) P.now c.now.result e (c.now.ensures names)
