-- Private: groups whose sections are read, and rules that are read one after another.
use Rattle.std.specs.Prelude.{◌≡◌, ◌-◌, ℕ, Option, None, List, [], ◌∷◌, ◌++◌, map, codes, length}
use Rattle.std.specs.Prelude.{position, unwrap_or, slice_get, IfSome}
use Rattle.std.specs.declared.result.Result.{Result}
use Rattle.std.specs.declared.result.Result.TheVariants.{Ok, Err}
use Rattle.std.specs.List.{filter, filter_map, flat_map}
use Rattle.std.specs.Option.{option_map}
use Rattle.std.specs.Result.{result_ok}
use Rattle.std.specs.Str.{bytes_eq}
use Rattle.quantity.specs.Bytes.{Bytes}
use Rattle.source_text.specs.Shown.{texts}
use Rattle.std.specs.Prelude.{Vec}
use Rattle.std.specs.Global.{Global}
use Rattle.rule_tree.specs.declared.node.RuleTree.{RuleTree}
use Rattle.rule_tree.specs.declared.node.Give.{Give}
use Rattle.rule_tree.specs.declared.node.SetVariable.{SetVariable}
use Rattle.rule_tree.specs.Expression.{Expr, Rule}
use Rattle.rule_tree.specs.InCode.{expr_of, rule_of}
use Rattle.rule_tree.specs.Scope.{Names}
use Rattle.rule_syntax.specs.RuleOf as text
use Rattle.rule_syntax.specs.Shown.{names_of}
use Rattle.ma_lines.specs.declared.section.Entry.{Entry}
use Rattle.ma_lines.specs.Sections.{Section}
use Rattle.ma_lines.specs.InCode.{section_of}
use Rattle.model_text.specs.Refusals.{Refusal}
use Rattle.model_text.specs.Keyed.{least_refusal}
use Rattle.model_text.specs.Rules.{rule_refused, of_rules, of_group_rules, rules_in}
use Rattle.model_text.specs.Rules.{sections_named}
use Rattle.model_tree.specs.declared.group.PortRule.{PortRule}
use Rattle.model_walk.specs.declared.item.Item as kept
use Rattle.model_walk.specs.declared.refused.Refused.{Refused}
use Rattle.model_walk.specs.Shown.{refusal_of}
use Rattle.model_walk.specs.Least.{earlier_refusal}
use Rattle.model_walk.specs.LeastOf.{IsLeastOf}
use Rattle.model_walk.specs.Placed.{plain_group, placed_of}
use Rattle.model_walk.specs.declared.placed.PlacedGroup.{PlacedGroup}
use Rattle.model_walk.specs.declared.placed.PlacedRule.{PlacedRule}
use Rattle.model_walk.specs.declared.group_rules.GroupRules.{GroupRules}
use Rattle.model_rules.specs.declared.rules_in.ReadRules.{ReadRules}
use Rattle.model_rules.specs.declared.sets.ReadSets.{ReadSets}
use Rattle.model_rules.specs.declared.group.ReadGroups.{ReadGroups}
use Rattle.model_rules.specs.declared.group.LastRead.{LastRead}
use Rattle.model_walk.specs.Sets.{sets_shown, sets_of}

-- what is kept of the group is what its section says
abbrev pub IsPlaced : PlacedGroup → Type 0
IsPlaced g = plain_group g ≡ placed_of (section_of g.section.now)

-- the section of a group
abbrev pub group_section : PlacedGroup → Section
group_section g = section_of g.section.now

-- rules as plain values
abbrev pub rules_shown : Vec RuleTree Global → List Rule
rules_shown rules = map rule_of rules.items

-- the number of a name among names
abbrev pub number_of_set : List Bytes → Bytes → ℕ
number_of_set names name = unwrap_or (position (bytes_eq name) names) 0

-- the numbers of the sets that items name
abbrev pub numbers_of_sets : List Bytes → List kept.Item → List ℕ
numbers_of_sets names items = map (λ (i : kept.Item). number_of_set names i.text.now) items

-- the rules of a port by the number of their set
abbrev pub rules_by_number : List Bytes → PlacedRule → PortRule
rules_by_number names p =
    record { port = p.port.now; cell = p.cell; rules = number_of_set names p.rules.now }

-- the refusal in a result, where there is one
abbrev pub refusals : {A : Type 0} → Result A Refused → List Refused
refusals (Ok x) = []
refusals (Err why) = why ∷ []

-- the entries of rules
abbrev pub rule_entries : List Entry → List Entry
rule_entries es = filter (λ (e : Entry). bytes_eq e.key (codes "rule")) es

-- the rule of an entry, where it is one
abbrev pub rule_at : Names → Entry → Option Rule
rule_at names e = result_ok (text.rule_of_text names e.value)

-- what is read of these parts stands behind what was read, and what is refused of them is counted in
pub record Adds {A B : Type 0} (f : A → List Refusal) (F : List A → List B) (parts : List A)
    (first now : Option Refusal) (old new : List B) : Type 0 where
  pub refused : now ≡ earlier_refusal first (least_refusal (flat_map f parts))
  pub items : new ≡ old ++ F parts

-- the rules of these entries are added, or are what is read
abbrev pub AddsRules : Names → ReadRules → ReadRules → List Entry → Type 0
AddsRules names old new es =
    Adds (rule_refused names) (filter_map (rule_at names)) (rule_entries es)
    (option_map refusal_of old.refused) (option_map refusal_of new.refused)
    (map rule_of old.rules.items) (map rule_of new.rules.items)

abbrev pub HasRules : Names → List Entry → ReadRules → Type 0
HasRules names es read =
    Adds (rule_refused names) (filter_map (rule_at names)) (rule_entries es)
    None (option_map refusal_of read.refused) [] (map rule_of read.rules.items)

-- the same for the rules of sections
abbrev pub AddsSets : Names → ReadSets → ReadSets → List Section → Type 0
AddsSets names old new ss =
    Adds (of_rules names) (map (rules_in names)) ss
    (option_map refusal_of old.refused) (option_map refusal_of new.refused)
    (map rules_shown old.sets.items) (map rules_shown new.sets.items)

abbrev pub HasSets : Names → List Section → ReadSets → Type 0
HasSets names ss read =
    Adds (of_rules names) (map (rules_in names)) ss
    None (option_map refusal_of read.refused) [] (map rules_shown read.sets.items)

-- the same for groups
abbrev pub AddsGroups : List Section → ReadGroups → ReadGroups → List Section → Type 0
AddsGroups ss old new gs =
    Adds (of_group_rules ss) (map (sets_of ss)) gs
    (option_map refusal_of old.refused) (option_map refusal_of new.refused)
    (map sets_shown old.rules.items) (map sets_shown new.rules.items)

abbrev pub HasGroups : List Section → List Section → ReadGroups → Type 0
HasGroups ss gs read =
    Adds (of_group_rules ss) (map (sets_of ss)) gs
    None (option_map refusal_of read.refused) [] (map sets_shown read.rules.items)

-- ---- rule sets that the group before has too

-- a value for a port, and one for a variable
abbrev pub given : Give → ℕ × Expr
given g = (g.port, expr_of g.value)

abbrev pub set_to : SetVariable → ℕ × Expr
set_to x = (x.variable, expr_of x.value)

-- the rules of the sections of these names, and the least refusal of them
pub record AreSetsOf (ss : List Section) (names : Names) (named : List Bytes) (why : Option Refused)
    (kept : List (Vec RuleTree Global)) : Type 0 where
  pub refused : IsLeastOf (flat_map (of_rules names) (sections_named ss named)) why
  pub sets : map rules_shown kept ≡ map (rules_in names) (sections_named ss named)

-- a group's rule sets are read from these
abbrev pub AreReadFrom : List Section → LastRead → GroupRules → Type 0
AreReadFrom ss l r =
    AreSetsOf ss (names_of l.names.now) (texts l.named.keys) l.refused r.rule_sets.items

-- the rules of the last group
abbrev pub last_rules : List GroupRules → Option GroupRules
last_rules rs = slice_get rs (length rs - 1)

-- what is kept of the last group is what its rule sets were read from
abbrev pub KeepsLast : List Section → ReadGroups → Type 0
KeepsLast ss read = IfSome read.last (λ l. IfSome (last_rules read.rules.items) (AreReadFrom ss l))

-- read from these
pub record IsReadFrom (l : LastRead) (names : Names) (named : List Bytes) : Type 0 where
  pub same_names : names_of l.names.now ≡ names
  pub same_sections : texts l.named.keys ≡ named

-- whatever the sections, the last group's rule sets are read from these
abbrev pub AreLikeLast : ReadGroups → Names → List Bytes → Option Refused
    → List (Vec RuleTree Global) → Type 0
AreLikeLast read names named why sets =
    (ss : List Section) → KeepsLast ss read → AreSetsOf ss names named why sets
