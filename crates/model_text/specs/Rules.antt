-- The rules sections that groups name, and their rules.
use Rattle.std.specs.Prelude.{ℕ, Option, List, [], ◌∷◌, ◌++◌, map, take, drop, if◌then◌else◌, codes}
use Rattle.std.specs.declared.result.Result.{Result}
use Rattle.std.specs.declared.result.Result.TheVariants.{Ok, Err}
use Rattle.std.specs.List.{filter_map, flat_map, position}
use Rattle.std.specs.Option.{option_map, is_some, unwrap_or}
use Rattle.std.specs.Result.{result_ok}
use Rattle.std.specs.Str.{bytes_eq}
use Rattle.rule_tree.specs.Expression.{Rule}
use Rattle.cell_grid.specs.Region.{Region}
use Rattle.cell_grid.specs.Space.{dims_of}
use Rattle.model_tree.specs.Pull.{distinct}
use Rattle.quantity.specs.Bytes.{Bytes}
use Rattle.quantity.specs.declared.bounds.TheConstants.{MAX_RULES}
use Rattle.model_text.specs.declared.kind.Kind.TheVariants.{TooLarge, NoSection}
use Rattle.model_text.specs.Refusals.{Refusal, refusal, kind_of_rule}
use Rattle.ma_lines.specs.declared.section.Entry.{Entry}
use Rattle.ma_lines.specs.Sections.{Section}
use Rattle.rule_words.specs.declared.refusal.RuleRefusal.{RuleRefusal}
use Rattle.rule_tree.specs.Scope.{Names}
use Rattle.rule_syntax.specs.RuleOf.{rule_of_text}
use Rattle.model_text.specs.Keyed.{section_named, entries_of, texts_of, Item, least_refusal}
use Rattle.model_text.specs.Walk.{groups}
use Rattle.cell_grid.specs.ZoneTexts.{zone_in}
use Rattle.model_text.specs.Spaces.{space_of, offsets_of, PortPlace, port_place}

-- the names that a group's rules may use
abbrev pub rule_names_of : Section → Names
rule_names_of s =
    record {
      offsets = offsets_of s;
      dims = dims_of (space_of s);
      variables = texts_of (codes "statevariables") s;
      ports = texts_of (codes "neighborports") s;
    }

-- ---- the rules sections that a group names, with the lines of the entries

-- a name on the line of an entry
abbrev pub item_on_line : Entry → Bytes → Item
item_on_line e name = record { line = e.line; text = name }

-- the rules of a zone
abbrev pub zone_item : Section → Entry → Option Item
zone_item s e = option_map (λ (z : Region). item_on_line e z.name) (zone_in (space_of s) e.value)

-- the rules of a port
abbrev pub port_item : Section → Entry → Option Item
port_item s e = option_map (λ (p : PortPlace). item_on_line e p.rules) (port_place s e)

-- all that a group names
abbrev pub rules_named : Section → List Item
rules_named s =
    map (λ (e : Entry). item_on_line e e.value) (entries_of (codes "localtransition") s)
    ++ filter_map (zone_item s) (entries_of (codes "zone") s)
    ++ filter_map (port_item s) (entries_of (codes "portintransition") s)

-- each once: that of localtransition is number 0
abbrev pub rule_sets_named : Section → List Bytes
rule_sets_named s = distinct (map (λ (i : Item). i.text) (rules_named s))

-- the number of a rule set by its name
abbrev pub rule_set_number : Section → Bytes → ℕ
rule_set_number s name = unwrap_or (position (bytes_eq name) (rule_sets_named s)) 0

-- ---- the phase

-- no section has the name
abbrev pub absent : List Section → Item → List Refusal
absent ss i = if is_some (section_named ss i.text) then [] else refusal i.line NoSection ∷ []

-- a rule off the language
abbrev pub rule_refused : Names → Entry → List Refusal
rule_refused names e = refused (rule_of_text names e.value)
  where
    refused : Result Rule RuleRefusal → List Refusal
    refused (Ok r) = []
    refused (Err why) = refusal e.line (kind_of_rule why) ∷ []

-- the first rule past the most, where there is one
abbrev pub too_many : List Entry → List Refusal
too_many rules = map (λ (e : Entry). refusal e.line TooLarge) (take 1 (drop MAX_RULES rules))

-- what is refused of the rules of a section
abbrev pub of_rules : Names → Section → List Refusal
of_rules names s =
    flat_map (rule_refused names) (entries_of (codes "rule") s)
    ++ too_many (entries_of (codes "rule") s)

-- the sections of these names
abbrev pub sections_named : List Section → List Bytes → List Section
sections_named ss names = filter_map (section_named ss) names

-- what is refused of the rules of a group
abbrev pub of_group_rules : List Section → Section → List Refusal
of_group_rules ss s =
    flat_map (absent ss) (rules_named s)
    ++ flat_map (of_rules (rule_names_of s)) (sections_named ss (rule_sets_named s))

-- the least refusal of all rules
abbrev pub rules_refused : List Section → Option Refusal
rules_refused ss = least_refusal (flat_map (of_group_rules ss) (groups ss))

-- ---- the rules of a group

-- the rules of a section
abbrev pub rules_in : Names → Section → List Rule
rules_in names s =
    filter_map (λ (e : Entry). result_ok (rule_of_text names e.value)) (entries_of (codes "rule") s)

-- the rule sets of a group, by number
abbrev pub rule_sets_of : List Section → Section → List (List Rule)
rule_sets_of ss s = map (rules_in (rule_names_of s)) (sections_named ss (rule_sets_named s))
