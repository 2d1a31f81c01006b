-- Refusals of models: a line and a kind, and the number, name and text of each kind.
use Rattle.std.specs.Prelude.{ℕ, ◌∷◌, ◌++◌, codes, decimal}
use Rattle.quantity.specs.Bytes.{Bytes}
use Rattle.ma_lines.specs.declared.section.LineRefusal.TheVariants as L
use Rattle.ma_lines.specs.declared.section.LineRefusal.{LineRefusal}
use Rattle.model_tree.specs.declared.refusal.LinkRefusal.TheVariants as K
use Rattle.model_tree.specs.declared.refusal.LinkRefusal.{LinkRefusal}
use Rattle.rule_words.specs.declared.refusal.RuleRefusal.TheVariants as R
use Rattle.rule_words.specs.declared.refusal.RuleRefusal.{RuleRefusal}
use Rattle.model_text.specs.declared.kind.Kind.{Kind}
use Rattle.model_text.specs.declared.kind.Kind.TheVariants.{BadLine, DuplicateSection, NoTop, DuplicateKey, MissingKey, BadValue, UnknownComponent, DuplicateComponent, ComponentCycle, UnknownClass, OutOfStock, BadParameter, UnknownPort, SelfLink, PassThrough, DuplicateLink, TooManyRoutes, BadRule, BadSort, RandomRefused, UnknownFunction, NotANeighbour, BadZone, BadInitial, TooLarge, TooLong, NoSection, NoSuchPlane, UnknownVariable, UnknownNeighbourPort}

-- why a model is refused, and the line; line 0 is the whole file
pub record Refusal : Type 0 where
  pub line : ℕ
  pub kind : Kind

-- a kind on a line
abbrev pub refusal : ℕ → Kind → Refusal
refusal line kind = record { line = line; kind = kind }

-- ---- numbers, names and texts

-- the number that is shown, by which refusals on one line are ordered
abbrev pub kind_number : Kind → ℕ
kind_number BadLine = 1
kind_number DuplicateSection = 2
kind_number NoTop = 3
kind_number DuplicateKey = 5
kind_number MissingKey = 6
kind_number BadValue = 7
kind_number UnknownComponent = 8
kind_number DuplicateComponent = 9
kind_number ComponentCycle = 10
kind_number UnknownClass = 11
kind_number OutOfStock = 12
kind_number BadParameter = 13
kind_number UnknownPort = 14
kind_number SelfLink = 15
kind_number PassThrough = 16
kind_number DuplicateLink = 17
kind_number TooManyRoutes = 18
kind_number BadRule = 19
kind_number BadSort = 20
kind_number RandomRefused = 21
kind_number UnknownFunction = 22
kind_number NotANeighbour = 23
kind_number BadZone = 24
kind_number BadInitial = 25
kind_number TooLarge = 26
kind_number TooLong = 27
kind_number NoSection = 28
kind_number NoSuchPlane = 29
kind_number UnknownVariable = 30
kind_number UnknownNeighbourPort = 31

-- the name that is shown
abbrev pub kind_name : Kind → Bytes
kind_name BadLine = codes "BadLine"
kind_name DuplicateSection = codes "DuplicateSection"
kind_name NoTop = codes "NoTop"
kind_name DuplicateKey = codes "DuplicateKey"
kind_name MissingKey = codes "MissingKey"
kind_name BadValue = codes "BadValue"
kind_name UnknownComponent = codes "UnknownComponent"
kind_name DuplicateComponent = codes "DuplicateComponent"
kind_name ComponentCycle = codes "ComponentCycle"
kind_name UnknownClass = codes "UnknownClass"
kind_name OutOfStock = codes "OutOfStock"
kind_name BadParameter = codes "BadParameter"
kind_name UnknownPort = codes "UnknownPort"
kind_name SelfLink = codes "SelfLink"
kind_name PassThrough = codes "PassThrough"
kind_name DuplicateLink = codes "DuplicateLink"
kind_name TooManyRoutes = codes "TooManyRoutes"
kind_name BadRule = codes "BadRule"
kind_name BadSort = codes "BadSort"
kind_name RandomRefused = codes "RandomRefused"
kind_name UnknownFunction = codes "UnknownFunction"
kind_name NotANeighbour = codes "NotANeighbour"
kind_name BadZone = codes "BadZone"
kind_name BadInitial = codes "BadInitial"
kind_name TooLarge = codes "TooLarge"
kind_name TooLong = codes "TooLong"
kind_name NoSection = codes "NoSection"
kind_name NoSuchPlane = codes "NoSuchPlane"
kind_name UnknownVariable = codes "UnknownVariable"
kind_name UnknownNeighbourPort = codes "UnknownNeighbourPort"

-- number and name, as they are shown
abbrev pub kind_text : Kind → Bytes
kind_text k = decimal (kind_number k) ++ 32 ∷ kind_name k

-- ---- refusals of parts; want of memory is none of the model's

-- the refusal of a model by a line that is refused where its file is cut into sections
abbrev pub refusal_of_line : LineRefusal → Refusal
refusal_of_line (L.BadLine line) = refusal line BadLine
refusal_of_line (L.DuplicateSection line) = refusal line DuplicateSection
refusal_of_line L.Memory = refusal 0 BadLine

-- why a link is refused
abbrev pub kind_of_link : LinkRefusal → Kind
kind_of_link K.UnknownPort = UnknownPort
kind_of_link K.SelfLink = SelfLink
kind_of_link K.PassThrough = PassThrough
kind_of_link K.DuplicateLink = DuplicateLink
kind_of_link K.Memory = UnknownPort

-- why a rule is refused
abbrev pub kind_of_rule : RuleRefusal → Kind
kind_of_rule R.BadRule = BadRule
kind_of_rule R.BadSort = BadSort
kind_of_rule R.RandomRefused = RandomRefused
kind_of_rule R.UnknownFunction = UnknownFunction
kind_of_rule R.NotANeighbour = NotANeighbour
kind_of_rule R.UnknownVariable = UnknownVariable
kind_of_rule R.UnknownNeighbourPort = UnknownNeighbourPort
kind_of_rule R.TooLarge = TooLarge
kind_of_rule R.Memory = BadRule
