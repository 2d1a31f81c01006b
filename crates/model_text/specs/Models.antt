-- Files of models, and the made model.
use Rattle.std.specs.Prelude.{ℕ, ◌-◌, List, ◌∷◌, ◌++◌, take, drop, codes, []}
use Rattle.quantity.specs.Bytes.{Bytes}
use Rattle.model_text.specs.LifeModel.{life_model}

-- three cells in a ring: a cell is 1 where one of the three that it sees is
abbrev pub line_model : List Bytes
line_model =
    codes "[top]" ∷ codes "components : line" ∷ codes "[line]" ∷ codes "type : cell"
    ∷ codes "dim : (1,3)" ∷ codes "delay : transport"
    ∷ codes "defaultDelayTime : 100" ∷ codes "border : wrapped"
    ∷ codes "neighbors : line(0,-1) line(0,0) line(0,1)" ∷ codes "initialvalue : 0"
    ∷ codes "initialrowvalue : 0 010" ∷ codes "localtransition : r" ∷ codes "[r]"
    ∷ codes "rule : 1 100 { truecount = 1 }"
    ∷ codes "rule : 0 100 { t }" ∷ []

-- Life in five rows and columns, with a row of three
abbrev pub blinker : List Bytes
blinker = life_model (codes "5") (codes "initialrowvalue : 2 01110" ∷ [])

-- one cell without neighbours, whose port v takes what comes at the input p of top
abbrev pub port_model : List Bytes
port_model =
    codes "[top]" ∷ codes "components : g" ∷ codes "in : p" ∷ codes "link : p in@g" ∷ codes "[g]"
    ∷ codes "type : cell" ∷ codes "dim : (1,1)"
    ∷ codes "delay : transport" ∷ codes "defaultDelayTime : 100" ∷ codes "border : nowrapped"
    ∷ codes "initialvalue : 0" ∷ codes "in : in"
    ∷ codes "link : in v@g(0,0)" ∷ codes "localtransition : r" ∷ codes "[r]"
    ∷ codes "rule : 0 100 { t }" ∷ []

-- one cell that sees itself, with these lines behind its neighbours and these rules
abbrev pub cell_model : List Bytes → List Bytes → List Bytes
cell_model keys rules =
    codes "[top]" ∷ codes "components : g" ∷ codes "[g]" ∷ codes "type : cell" ∷ codes "dim : (1,1)"
    ∷ codes "neighbors : g(0,0)"
    ∷ (keys ++ (codes "initialvalue : 0" ∷ codes "localtransition : r" ∷ codes "[r]" ∷ rules))

-- two generators, of which one is in a component with two outputs, and a queue that takes from all
abbrev pub queue_model : List Bytes
queue_model =
    codes "[top]" ∷ codes "components : s h@generator q@queue" ∷ codes "out : o"
    ∷ codes "link : out@h in@q" ∷ codes "link : a@s in@q"
    ∷ codes "link : b@s in@q" ∷ codes "link : out@q o" ∷ codes "[s]"
    ∷ codes "components : g@generator" ∷ codes "out : a b"
    ∷ codes "link : out@g a" ∷ codes "link : out@g b" ∷ codes "[g]" ∷ codes "value : 7"
    ∷ codes "count : 1" ∷ codes "[h]" ∷ codes "value : 8"
    ∷ codes "count : 1" ∷ []

-- ---- changes of a model

-- another line of this number
abbrev pub with_line : ℕ → Bytes → List Bytes → List Bytes
with_line n l ls = take (n - 1) ls ++ (l ∷ drop n ls)

-- without the line of this number
abbrev pub without_line : ℕ → List Bytes → List Bytes
without_line n ls = take (n - 1) ls ++ drop n ls
