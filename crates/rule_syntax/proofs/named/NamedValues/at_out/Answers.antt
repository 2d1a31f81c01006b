use Rattle.std.proofs.Common.{◌≡◌, ◌∷◌, ◌++◌, [], List, ℕ, subst}
use Rattle.rule_tree.specs.Phrases.{out}
use Rattle.rule_syntax.specs.RulesRead.{AreNamed, phrase_for}
use Rattle.rule_syntax.specs.declared.named.Kind.TheVariants.{Port}
use Rattle.rule_words.specs.Shown.{names_of}
use Rattle.rule_syntax.proofs.named.NamedValues.at_out.Goals as goal

pub returns : goal.returns
returns c =
    let names = names_of c.args.names.now in
    let here : c.as_slice.result.now ≡ out = c.as_slice.ensures in
    λ x h. subst (λ (w : List ℕ). AreNamed names Port c.add.new.self ([] ++ phrase_for w x ∷ [])) here (c.in_ok-add.ensures [] x (c.none-values.ensures names Port) h)
