-- The rule that a text is in a group, or its refusal: the first that applies.
use Rattle.std.specs.Prelude.{Bool, not, Option, Some, None, List, ◌∷◌, ◌++◌, []}
use Rattle.std.specs.Prelude.{map, length, if◌then◌else◌, codes}
use Rattle.std.specs.declared.result.Result.{Result}
use Rattle.std.specs.declared.result.Result.TheVariants.{Ok, Err}
use Rattle.std.specs.List.{list_any, find}
use Rattle.std.specs.Option.{ok_or, option_and_then}
use Rattle.std.specs.Bool.{then_some}
use Rattle.rule_tree.specs.Expression.{Rule}
use Rattle.quantity.specs.Bytes.{Bytes, is_among, has_repeat}
use Rattle.quantity.specs.Written.{for_ok}
use Rattle.rule_words.specs.declared.refusal.RuleRefusal.{RuleRefusal}
use Rattle.rule_words.specs.declared.refusal.RuleRefusal.TheVariants.{BadRule, BadSort}
use Rattle.rule_words.specs.declared.refusal.RuleRefusal.TheVariants.{RandomRefused}
use Rattle.rule_words.specs.declared.refusal.RuleRefusal.TheVariants.{UnknownFunction}
use Rattle.rule_words.specs.declared.refusal.RuleRefusal.TheVariants.{NotANeighbour}
use Rattle.rule_words.specs.declared.refusal.RuleRefusal.TheVariants.{UnknownVariable}
use Rattle.rule_words.specs.declared.refusal.RuleRefusal.TheVariants.{UnknownNeighbourPort}
use Rattle.rule_words.specs.declared.refusal.RuleRefusal.TheVariants.{TooLarge}
use Rattle.rule_words.specs.Tokens.{tokens, words_in, is_large}
use Rattle.rule_tree.specs.Phrases.{Assigned, Written, counts, functions, first_texts}
use Rattle.rule_words.specs.Reading.{written_rule}
use Rattle.rule_tree.specs.Scope.{Names, named_by, is_no_neighbour, is_no_variable, is_no_port}
use Rattle.rule_tree.specs.Scope.{rule_in, has_right_sorts}

-- the functions of CD++ that draw random numbers
abbrev pub random_names : List Bytes
random_names =
    codes "random" ∷ codes "randint" ∷ codes "randsign" ∷ codes "uniform" ∷ codes "normal"
    ∷ codes "exponential" ∷ codes "poisson" ∷ codes "binomial" ∷ codes "beta" ∷ codes "gamma" ∷ codes "chi" ∷ []

-- the words of the language
abbrev pub language : List Bytes
language =
    (codes "imp" ∷ codes "eqv" ∷ codes "or" ∷ codes "xor" ∷ codes "and" ∷ codes "not" ∷ codes "t"
    ∷ codes "f" ∷ codes "time"
    ∷ codes "portvalue" ∷ codes "thisport" ∷ []) ++ first_texts counts ++ first_texts functions

-- why a word is refused
abbrev pub word_refused : Bytes → Option RuleRefusal
word_refused w =
    if is_among random_names w then Some RandomRefused else if is_among language w then None
    else Some UnknownFunction

-- the first word that is no word of the language decides
abbrev pub words_refused : List Bytes → Option RuleRefusal
words_refused ws = option_and_then word_refused (find (λ w. not (is_among language w)) ws)

-- the ports at which a rule gives values
abbrev pub given_ports : Written → List Bytes
given_ports r = map (λ (g : Assigned). g.name) r.gives

-- two values are given at one port
abbrev pub has_port_twice : Written → Bool
has_port_twice r = has_repeat (given_ports r)

-- goes on unless there is a refusal
abbrev pub unless_some : {A : Type 0} → Option RuleRefusal → Result A RuleRefusal
    → Result A RuleRefusal
unless_some None next = next
unless_some (Some why) next = Err why

-- a refusal where this holds
abbrev pub where_true : Bool → RuleRefusal → Option RuleRefusal
where_true b why = then_some b why

-- a rule of the grammar, judged by what it names and by its sorts
abbrev pub rule_if_sound : Names → Written → Result Rule RuleRefusal
rule_if_sound names r =
    unless_some (where_true (has_port_twice r) BadRule)
    (unless_some (where_true (list_any (is_no_neighbour names) (named_by r)) NotANeighbour)
    (unless_some (where_true (list_any (is_no_variable names) (named_by r)) UnknownVariable)
    (unless_some (where_true (list_any (is_no_port names) (named_by r)) UnknownNeighbourPort)
    (unless_some
    (where_true (not (has_right_sorts (length names.offsets) (rule_in names r))) BadSort)
    (Ok (rule_in names r))))))

-- the order of refusals
unfoldable pub rule_of_text : Names → Bytes → Result Rule RuleRefusal
rule_of_text names text =
    for_ok (ok_or (tokens text) BadRule) (λ ts.
    unless_some (words_refused (words_in ts))
    (unless_some (where_true (is_large ts) TooLarge)
    (for_ok (ok_or (written_rule ts) BadRule) (rule_if_sound names))))
