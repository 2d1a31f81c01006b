-- Models that are read.
use Rattle.std.specs.Prelude.{◌≡◌, ℕ, true, None, List, [], ◌∷◌, map, length, ℤ, pos, negsuc, codes}
use Rattle.std.specs.declared.result.Result.{Result}
use Rattle.std.specs.declared.result.Result.TheVariants.{Ok, Err}
use Rattle.std.specs.Str.{str_to_ascii_uppercase}
use Rattle.quantity.specs.declared.place.Offset.{Offset}
use Rattle.quantity.specs.declared.value.Value.{Value}
use Rattle.quantity.specs.declared.value.Value.TheVariants.{Undefined, Num}
use Rattle.quantity.specs.declared.value.Compare.TheVariants.{Equal}
use Rattle.quantity.specs.declared.truth.Tri.TheVariants.{True}
use Rattle.rule_tree.specs.declared.node.Binary.TheVariants.{Cmp}
use Rattle.rule_tree.specs.declared.node.Count.TheVariants.{Ones}
use Rattle.rule_tree.specs.Expression.{Expr, Rule, number, truth, counted, two}
use Rattle.rule_tree.specs.Meaning.{whole}
use Rattle.cell_grid.specs.declared.grid.Border.TheVariants.{Wrapped}
use Rattle.atomic_face.specs.declared.class.Class.{Class}
use Rattle.atomic_face.specs.declared.class.Class.TheVariants.{Queue, Generator, Cpu, Counter, Table}
use Rattle.model_tree.specs.declared.group.PortRule.{PortRule}
use Rattle.model_tree.specs.declared.link.Link.{Link}
use Rattle.model_tree.specs.declared.link.End.TheVariants.{Own, Cell}
use Rattle.model_tree.specs.Tree.{Tree, Group, coupled, cells, atomic, nil, cons}
use Rattle.model_tree.specs.Examples.{default_settings, twice_and_once}
use Rattle.model_tree.specs.Sound.{is_sound_model}
use Rattle.quantity.specs.Bytes.{Bytes}
use Rattle.source_text.specs.Lines.{file}
use Rattle.ma_lines.specs.declared.section.Entry.{Entry}
use Rattle.ma_lines.specs.declared.section.LineRefusal.{LineRefusal}
use Rattle.ma_lines.specs.Sections.{Section, sections_of}
use Rattle.model_text.specs.Trees.{no_files}
use Rattle.model_text.specs.ModelOf.{ModelOf, model, missing, refused, model_of}
use Rattle.model_text.specs.Models.{line_model, blinker, port_model, queue_model, with_line}
use Rattle.model_text.specs.LifeModel.{made_text}

-- two boxes of each class
abbrev pub boxes : List Class
boxes = Queue ∷ Queue ∷ Generator ∷ Generator ∷ Cpu ∷ Cpu ∷ Counter ∷ Counter ∷ Table ∷ Table ∷ []

-- what is read where there are no files
abbrev pub model_without_files : List Bytes → ModelOf
model_without_files ls = (model_of (file ls) no_files boxes None).found

-- ---- a line of three cells

abbrev pub offset : ℤ → ℤ → Offset
offset row column = record { row = row; column = column; plane = pos 0 }

abbrev pub gives : ℕ → Expr → Rule
gives v condition =
    record {
      gives = (0, number (whole v)) ∷ [];
      delay = number (whole 100);
      condition = condition;
      sets = [];
    }

abbrev pub line_group : Group
line_group =
    record {
      name = codes "line";
      space = record { rows = 1; columns = 3; planes = None; border = Wrapped };
      settings = default_settings;
      offsets = offset (pos 0) (negsuc 0) ∷ offset (pos 0) (pos 0) ∷ offset (pos 0) (pos 1) ∷ [];
      initial = whole 0 ∷ whole 1 ∷ whole 0 ∷ [];
      zones = [];
      zone_rules = [];
      rule_sets =
          (gives 1 (two (Cmp Equal) (counted Ones) (number (whole 1))) ∷ gives 0 (truth True) ∷ [])
          ∷ [];
      port_rules = [];
      ins = [];
      outs = [];
      links = [];
      variables = [];
      variable_values = [];
      ports = [];
      port_values = [];
    }

abbrev pub line_tree : Tree
line_tree = coupled (codes "top") [] [] (cons (cells line_group) nil) []

pub record LineIsRead : Type 0 where
  pub tree : model_without_files line_model ≡ model line_tree
  pub upper : model_without_files
      (map str_to_ascii_uppercase (with_line 5 (codes "dim : (1,3) % x") line_model))
      ≡ model line_tree

-- ---- atomic components

-- a table of two states
abbrev pub light_model : Bytes → List Bytes
light_model hold =
    codes "[top]" ∷ codes "components : l@table" ∷ codes "in : p" ∷ codes "out : o"
    ∷ codes "link : p a@l" ∷ codes "link : out@l o" ∷ codes "[l]"
    ∷ codes "states : red green" ∷ hold ∷ codes "hold : green 00:00:00:050 2 red"
    ∷ codes "take : green a 9 red" ∷ []

abbrev pub settings_in : ModelOf → List (List ℤ)
settings_in (model (coupled name ins outs (cons (atomic n c settings) ts) links)) = settings ∷ []
settings_in a = []

pub record TableIsRead : Type 0 where
  pub settings : settings_in
      (model_without_files (light_model (codes "hold : red 00:00:00:030 1 green"))) ≡
      (pos 2 ∷ pos 0 ∷ pos 30 ∷ pos 100000 ∷ pos 1 ∷ pos 50 ∷ pos 200000 ∷ pos 0 ∷ pos 1 ∷ pos 0
      ∷ pos 900000 ∷ pos 0 ∷ []) ∷ []
  pub no_hold : settings_in (model_without_files (light_model (codes "initial : green"))) ≡
      (pos 2 ∷ pos 1 ∷ negsuc 0 ∷ pos 0 ∷ pos 0 ∷ pos 50 ∷ pos 200000 ∷ pos 0 ∷ pos 1 ∷ pos 0
      ∷ pos 900000 ∷ pos 0 ∷ []) ∷ []
  pub queue : model_without_files (codes "[top]" ∷ codes "components : q@queue" ∷ [])
      ≡ model (coupled (codes "top") [] [] (cons (atomic (codes "q") Queue (pos 0 ∷ [])) nil) [])

pub record QueueIsRead : Type 0 where
  pub tree : model_without_files queue_model ≡ model twice_and_once
  pub sound : is_sound_model twice_and_once ≡ true
  pub sound_line : is_sound_model line_tree ≡ true

-- ---- Life

abbrev pub first_group : Tree → List Group
first_group (coupled name ins outs (cons (cells g) ts) links) = g ∷ []
first_group t = []

abbrev pub group_in : ModelOf → List Group
group_in (model t) = first_group t
group_in (missing name) = []
group_in (refused r) = []

abbrev pub sizes : Group → ℕ × ℕ × ℕ
sizes g = (length g.offsets, length g.initial, length (g.rule_sets))

abbrev pub entries_in : Result (List Section) LineRefusal → List (List (ℕ × Bytes))
entries_in (Ok ss) = map (λ (s : Section). map (λ (e : Entry). (e.line, e.key)) s.entries) ss
entries_in (Err r) = []

pub record LifeIsRead : Type 0 where
  pub group : map sizes (group_in (model_without_files blinker)) ≡ (9, 25, 1) ∷ []
  pub lines : entries_in (sections_of (file blinker)) ≡
      ((2, codes "components") ∷ [])
      ∷ ((4, codes "type") ∷ (5, codes "width") ∷ (6, codes "height") ∷ (7, codes "delay")
      ∷ (8, codes "defaultdelaytime") ∷ (9, codes "border") ∷ (10, codes "neighbors")
      ∷ (11, codes "neighbors") ∷ (12, codes "neighbors") ∷ (13, codes "initialvalue")
      ∷ (14, codes "initialrowvalue") ∷ (15, codes "localtransition") ∷ [])
      ∷ ((17, codes "rule") ∷ (19, codes "rule") ∷ (20, codes "rule") ∷ []) ∷ []
  pub values : map (λ (g : Group). g.initial) (group_in (model_without_files blinker))
      ≡ map whole
      (0 ∷ 0 ∷ 0 ∷ 0 ∷ 0 ∷ 0 ∷ 0 ∷ 0 ∷ 0 ∷ 0 ∷ 0 ∷ 1 ∷ 1 ∷ 1 ∷ 0 ∷ 0 ∷ 0 ∷ 0 ∷ 0 ∷ 0 ∷ 0 ∷ 0 ∷ 0
      ∷ 0 ∷ 0 ∷ []) ∷ []

-- ---- groups with zones, ports and links

abbrev pub group_with_zones : List Bytes
group_with_zones =
    codes "[top]" ∷ codes "components : g" ∷ codes "[g]" ∷ codes "type : cell" ∷ codes "dim : (2,2)"
    ∷ codes "neighbors : (0,1)(0, 0) g(0,1)" ∷ codes "initialrow : 1 ? -2"
    ∷ codes "localtransition : r" ∷ codes "zone : z { (0,0)..(1,0) (1,1) }"
    ∷ codes "portInTransition : v@g(1, 1)  p" ∷ codes "link : in v@g(0,0)"
    ∷ codes "in : in" ∷ codes "zone : r { (0,1) }" ∷ codes "[r]" ∷ codes "[p]" ∷ codes "[z]"
    ∷ codes "rule : 0 100 { t }" ∷ []

pub record Shape : Type 0 where
  pub offsets : List Offset
  pub initial : List Value
  pub zone_rules : List ℕ
  pub rule_counts : List ℕ
  pub port_rules : List PortRule
  pub links : List Link

abbrev pub shape : Group → Shape
shape g =
    record {
      offsets = g.offsets;
      initial = g.initial;
      zone_rules = g.zone_rules;
      rule_counts = map length g.rule_sets;
      port_rules = g.port_rules;
      links = g.links;
    }

pub record GroupsAreRead : Type 0 where
  pub zoned_group : map shape (group_in (model_without_files group_with_zones)) ≡ record {
    offsets = offset (pos 0) (pos 1) ∷ offset (pos 0) (pos 0) ∷ [];
    initial = Undefined ∷ Undefined ∷ Undefined ∷ Num (negsuc 199999) ∷ [];
    zone_rules = 1 ∷ 0 ∷ [];
    rule_counts = 0 ∷ 1 ∷ 0 ∷ [];
    port_rules = record { port = codes "v"; cell = 3; rules = 2 } ∷ [];
    links = record { from = Own (codes "in"); to = Cell (codes "v") 0 } ∷ [];
  } ∷ []
  pub port_group : map (λ (g : Group). g.links) (group_in (model_without_files port_model))
      ≡ (record { from = Own (codes "in"); to = Cell (codes "v") 0 } ∷ []) ∷ []
  pub made : map sizes (group_in (model_of (made_text 5) no_files boxes None).found)
      ≡ (9, 25, 1) ∷ []
