-- Private: what is known of a rule when it is read.
use Rattle.std.specs.Prelude.{◌≡◌, ◌&&◌, not, ℕ, Bool, true, false, ⊤, Option, Some, None, List, []}
use Rattle.std.specs.Prelude.{◌∷◌, ◌++◌, map, length, codes, if◌then◌else◌}
use Rattle.std.specs.Bool.{then_some}
use Rattle.std.specs.Borrow.{Bor}
use Rattle.std.specs.List.{flat_map, list_all}
use Rattle.std.specs.Option.{option_map, option_or, unwrap_or}
use Rattle.std.specs.Str.{bytes_eq}
use Rattle.quantity.specs.Bytes.{Bytes, is_empty}
use Rattle.quantity.specs.Written.{for_some}
use Rattle.rule_tree.specs.Expression.{Expr}
use Rattle.rule_tree.specs.InCode.{expr_of, rule_of}
use Rattle.rule_words.specs.Reading.{assigned_at_out}
use Rattle.rule_tree.specs.Phrases.{Phrase, Assigned, Written}
use Rattle.rule_words.specs.Reading.{Prefix, block, cell_phrase_before, delay_before, given_in}
use Rattle.rule_words.specs.Reading.{last_block, number_before, question_before}
use Rattle.rule_words.specs.RuleOf.{has_port_twice}
use Rattle.rule_words.specs.declared.refusal.RuleRefusal.{RuleRefusal}
use Rattle.rule_words.specs.declared.refusal.RuleRefusal.TheVariants.{BadRule, BadSort}
use Rattle.rule_words.specs.declared.refusal.RuleRefusal.TheVariants.{NotANeighbour}
use Rattle.rule_words.specs.declared.refusal.RuleRefusal.TheVariants.{UnknownNeighbourPort}
use Rattle.rule_words.specs.declared.refusal.RuleRefusal.TheVariants.{UnknownVariable}
use Rattle.rule_tree.specs.Scope.{Names, Named, a_port, a_variable, named_by, named_in, numbered}
use Rattle.rule_tree.specs.Scope.{port_number, rule_in, variable_number, has_right_sorts}
use Rattle.rule_words.specs.Shown.{tokens_of}
use Rattle.rule_tree.specs.declared.function.Sort.TheVariants.{Number}
use Rattle.rule_tree.specs.Sound.{is_sort, sort_of}
use Rattle.rule_phrases.specs.declared.term.Term.{Term}
use Rattle.rule_phrases.specs.Terms.{Misses, StandsForPhrase}
use Rattle.rule_words.specs.Tokens.{Token, word, mark, is_mark}
use Rattle.rule_syntax.specs.declared.named.Kind.{Kind}
use Rattle.rule_syntax.specs.declared.named.Kind.TheVariants.{Port, Variable}
use Rattle.rule_syntax.specs.declared.named.NamedValue.{NamedValue}
use Rattle.rule_syntax.specs.declared.named.NamedValues.{NamedValues}
use Rattle.rule_tree.specs.declared.node.Give.{Give}
use Rattle.rule_tree.specs.declared.node.SetVariable.{SetVariable}
use Rattle.rule_syntax.specs.declared.assigned.NamedFront.{NamedFront}
use Rattle.rule_words.specs.declared.token.Token as T
use Rattle.rule_syntax.specs.declared.written.ReadRule.{ReadRule}

-- a rule that was read is what a written rule is in a group, with all that it is judged by
pub record IsRead (names : Names) (r : ReadRule) (w : Written) : Type 0 where
  pub tree : rule_of r.tree ≡ rule_in names w
  pub misses : Misses names r.lacks (named_by w)
  pub repeats : r.port_twice ≡ has_port_twice w
  pub sorted : r.right_sorts ≡ has_right_sorts (length names.offsets) (rule_in names w)

-- the first refusal that applies to a rule that was read; only private clauses name this
abbrev pub first_refusal : ReadRule → Option RuleRefusal
first_refusal r =
    if r.port_twice then Some BadRule else
    (if r.lacks.neighbour then Some NotANeighbour else
    (if r.lacks.variable then Some UnknownVariable else
    (if r.lacks.port then Some UnknownNeighbourPort else
    (if not r.right_sorts then Some BadSort else None))))

-- the same, where the tokens are a rule
abbrev pub AreRead : Names → Option Written → Option ReadRule → Type 0
AreRead names None None = ⊤
AreRead names None (Some r) = ⊥
AreRead names (Some w) None = ⊥
AreRead names (Some w) (Some r) = IsRead names r w

-- ---- values for ports, or for variables

-- the mark before a port's or a variable's name
abbrev pub mark_for : Kind → Bytes
mark_for Port = codes "~"
mark_for Variable = codes "$"

-- the number of a port or a variable
abbrev pub number_for : Names → Kind → Bytes → ℕ
number_for names Port w = unwrap_or (port_number names w) 0
number_for names Variable w = unwrap_or (variable_number names w) 0

-- a port or a variable by its name
abbrev pub named_for : Kind → Bytes → Named
named_for Port w = a_port w
named_for Variable w = a_variable w

-- a name that is given a phrase
abbrev pub phrase_for : Bytes → Phrase → Assigned
phrase_for w x = record { name = w; phrase = x }

-- the same with numbers in place of names
abbrev pub value_for : Names → Kind → Assigned → ℕ × Expr
value_for names kind x = (number_for names kind x.name, numbered names x.phrase)

-- all that is named there
abbrev pub names_for : Kind → Assigned → List Named
names_for kind x = named_for kind x.name ∷ named_in x.phrase

-- a sound number for a port or a variable
abbrev pub is_number : ℕ → ℕ × Expr → Bool
is_number offsets v = is_sort Number (sort_of v.1 offsets)

-- the words of some values
abbrev pub words_of : List NamedValue → List Bytes
words_of vs = map (λ (v : NamedValue). v.word.now) vs

-- the numbers and expressions of some values
abbrev pub values_of : List NamedValue → List (ℕ × Expr)
values_of vs = map (λ (v : NamedValue). (v.number, expr_of v.value)) vs

-- a value that a rule gives
abbrev pub give_of : NamedValue → Give
give_of v = record { port = v.number; value = v.value }

-- a variable that a rule sets
abbrev pub set_of : NamedValue → SetVariable
set_of v = record { variable = v.number; value = v.value }

-- values that were read are what assigned phrases are in a group
pub record AreNamed (names : Names) (kind : Kind) (vs : NamedValues)
    (xs : List Assigned) : Type 0 where
  pub words : words_of vs.list.items ≡ map (λ (x : Assigned). x.name) xs
  pub values : values_of vs.list.items ≡ map (value_for names kind) xs
  pub misses : Misses names vs.lacks (flat_map (names_for kind) xs)
  pub sorted : vs.are_numbers ≡ list_all (is_number (length names.offsets))
      (map (value_for names kind) xs)

-- the same, where there are any
abbrev pub AreValues : Names → Kind → Option (List Assigned) → Option NamedValues → Type 0
AreValues names kind None None = ⊤
AreValues names kind None (Some vs) = ⊥
AreValues names kind (Some xs) None = ⊥
AreValues names kind (Some xs) (Some vs) = AreNamed names kind vs xs

-- parts of tokens, where there are any
abbrev pub shown_parts : List (Bor (List T.Token)) → List (List Token)
shown_parts parts = map (λ (p : Bor (List T.Token)). tokens_of p.now) parts

-- parts, at least one
abbrev pub some_parts : Option (List (List Token)) → Option (List (List Token))
some_parts parts = for_some parts (λ ps. then_some (not (is_empty ps)) ps)

-- a value is added where there is one
abbrev pub IsAdded : Names → Kind → Option Assigned → NamedValues → NamedValues → Bool → Type 0
IsAdded names kind None old new is = is ≡ false
IsAdded names kind (Some x) old new is =
    (is ≡ true) × ((xs : List Assigned) → AreNamed names kind old xs
    → AreNamed names kind new (xs ++ x ∷ []))

-- values and the tokens behind them are what was read at the front of tokens
abbrev pub IsNamedFront : Names → Kind → Prefix (List Assigned) → Option NamedFront → Type 0
IsNamedFront names kind None None = ⊤
IsNamedFront names kind None (Some f) = ⊥
IsNamedFront names kind (Some p) None = ⊥
IsNamedFront names kind (Some p) (Some f) =
    AreNamed names kind f.values p.0 × (tokens_of f.rest.now ≡ p.1)

-- a mark and a word, then :=, and the tokens behind them
abbrev pub word_before : Bytes → List Token → Option (Bytes × List Token)
word_before kind (mark m ∷ word w ∷ mark a ∷ ts) =
    then_some (bytes_eq m kind && bytes_eq a (codes ":=")) (w, ts)
word_before kind ts = None

-- := is the third token
abbrev pub holds_sets : List Token → Bool
holds_sets (d ∷ w ∷ a ∷ ts) = is_mark (codes ":=") a
holds_sets ts = false

-- values in a block, and a value that is none
abbrev pub braced_value : List Token → Prefix (List Assigned)
braced_value ts =
    for_some (block (codes "{") (codes "}") ts) (λ b. option_map (λ xs. (xs, b.1)) (given_in b.0))

-- the undefined value, or a neighbour
abbrev pub question_or_cell : List Token → Prefix Phrase
question_or_cell ts = option_or (question_before ts) (cell_phrase_before ts)

-- a number, the undefined value or a neighbour
abbrev pub plain_before : List Token → Prefix Phrase
plain_before ts = option_or (number_before ts) (question_or_cell ts)

-- the same at the port out
abbrev pub plain_value : List Token → Prefix (List Assigned)
plain_value ts = option_map (λ x. (assigned_at_out x.0, x.1)) (plain_before ts)

-- ---- whatever is written

-- the rule of these parts is read, for all that they may stand for
abbrev pub ReadsParts : NamedValues → Term → Term → NamedValues → ReadRule → Type 0
ReadsParts given delay condition set rule =
    (names : Names) (w : Written) → AreNamed names Port given w.gives
    → StandsForPhrase names delay w.delay → StandsForPhrase names condition w.condition
    → AreNamed names Variable set w.sets → IsRead names rule w

-- the rule with these values and a delay, whose condition is all that stands behind it
abbrev pub in_front_of_last : List Assigned → List Assigned → Phrase × List Token → Option Written
in_front_of_last gs ss d =
    option_map (λ c. record {
      gives = gs;
      delay = d.0;
      condition = c;
      sets = ss;
    }) (last_block d.1)

-- the rule of these values is read by the tokens behind them, for all that they may stand for
abbrev pub ReadsBehind : Names → NamedValues → NamedValues → List Token → Option ReadRule → Type 0
ReadsBehind names given set ts rule =
    (gs ss : List Assigned) → AreNamed names Port given gs → AreNamed names Variable set ss
    → AreRead names (for_some (delay_before ts) (in_front_of_last gs ss)) rule

-- a value for a word is put behind others, for all that these and it may stand for
abbrev pub PutsNamed : Names → Kind → Bytes → Term → NamedValues → NamedValues → Type 0
PutsNamed names kind key term old new =
    (xs : List Assigned) (x : Phrase) → AreNamed names kind old xs → StandsForPhrase names term x
    → AreNamed names kind new (xs ++ phrase_for key x ∷ [])
