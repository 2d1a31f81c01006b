-- Parameters that give settings, and parameters that are off their form.
use Rattle.std.specs.Prelude.{◌≡◌, ℕ, ◌^◌, ◌+◌, true, false, Option, Some, None, List, [], ◌∷◌, ◌++◌, length, map, replicate, pos, negsuc, codes}
use Rattle.std.specs.List.{flat_map}
use Rattle.std.specs.Option.{option_map}
use Rattle.quantity.specs.declared.bounds.TheConstants.{MAX_TIME}
use Rattle.quantity.specs.Bytes.{Bytes}
use Rattle.atomic_face.specs.declared.class.Class.TheVariants.{Queue, Generator, Cpu, Counter, Table}
use Rattle.atomic_face.specs.declared.class.PortNo.{PortNo}
use Rattle.atomic_face.specs.declared.params.Param.{Param}
use Rattle.atomic_face.specs.ClassNames.{class_named}
use Rattle.atomic_face.specs.PortNames.{output_named, port_named}
use Rattle.atomic_face.specs.TableSettings.{one_too_many, states_of}
use Rattle.atomic_face.specs.Settings.{settings_of, lines_off, first_line_off}
use Rattle.atomic_face.specs.Once.{are_once}
use Rattle.atomic_face.specs.BoxStates.{is_box_state}

-- a port of this number
abbrev pub port : ℕ → Option PortNo
port n = Some (record { 0 = n })

-- a parameter on a line
abbrev pub param : ℕ → Bytes → Bytes → Param
param line key value = record { line = line; key = key; value = value }

-- names of classes, and a name of none
pub record ClassesAreNamed : Type 0 where
  pub queue : class_named (codes "queue") ≡ Some Queue
  pub generator : class_named (codes "generator") ≡ Some Generator
  pub cpu : class_named (codes "cpu") ≡ Some Cpu
  pub counter : class_named (codes "counter") ≡ Some Counter
  pub table : class_named (codes "table") ≡ Some Table
  pub other : class_named (codes "server") ≡ None

-- names of ports by class, and names of none
pub record PortsAreNumbered : Type 0 where
  pub queue_in : port_named Queue (codes "in") ≡ port 0
  pub done : port_named Queue (codes "done") ≡ port 1
  pub no_input : port_named Generator (codes "in") ≡ None
  pub cpu_in : port_named Cpu (codes "in") ≡ port 0
  pub reset : port_named Counter (codes "reset") ≡ port 1
  pub no_output : port_named Counter (codes "out") ≡ None
  pub d : port_named Table (codes "d") ≡ port 3
  pub e : port_named Table (codes "e") ≡ None
  pub out : output_named (codes "out") ≡ port 0
  pub no_input_is_an_output : output_named (codes "in") ≡ None

-- 64 names: each letter alone, and behind an a, a b and a c, of the first 16
abbrev pub sixty_four : List Bytes
sixty_four =
    flat_map (λ first. map (λ second. first ++ second ∷ []) (codes "abcdefghijklmnop"))
    ([] ∷ codes "a" ∷ codes "b" ∷ codes "c" ∷ [])

-- names with a blank behind each
abbrev pub join_words : List Bytes → Bytes
join_words names = flat_map (λ name. name ++ codes " ") names

-- a table of two states, with this line
abbrev pub light : Param → List Param
light second =
    param 8 (codes "states") (codes "red green") ∷ second
    ∷ param 10 (codes "hold") (codes "green 00:00:00:050 2 red")
    ∷ param 11 (codes "take") (codes "green a 9 red") ∷ []

-- the settings of each class, with parameters and without
pub record ParametersGiveSettings : Type 0 where
  pub queue : settings_of Queue [] ≡ pos 0 ∷ []
  pub generator : settings_of Generator [] ≡ pos 0 ∷ pos 1000 ∷ pos 100000 ∷ pos 0 ∷ negsuc 0 ∷ []
  pub cpu : settings_of Cpu (param 3 (codes "delay") (codes "0:0:1:0") ∷ []) ≡ pos 1000 ∷ []
  pub counter : settings_of Counter [] ≡ pos 0 ∷ pos 0 ∷ pos 100000 ∷ []
  pub bounded : settings_of Generator
      (param 3 (codes "count") (codes "4") ∷ param 2 (codes "value") (codes "?") ∷ []) ≡
      pos 0 ∷ pos 1000 ∷ pos (10 ^ 16) ∷ pos 0 ∷ pos 4 ∷ []
  pub idle : settings_of Table [] ≡ pos 1 ∷ pos 0 ∷ negsuc 0 ∷ pos 0 ∷ pos 0 ∷ []
  pub two_states : settings_of Table
      (light (param 9 (codes "hold") (codes "red 00:00:00:030 1 green"))) ≡
      pos 2 ∷ pos 0 ∷ pos 30 ∷ pos 100000 ∷ pos 1 ∷ pos 50 ∷ pos 200000 ∷ pos 0 ∷ pos 1 ∷ pos 0
      ∷ pos 900000 ∷ pos 0 ∷ []
  pub no_hold : settings_of Table (light (param 9 (codes "initial") (codes "green"))) ≡
      pos 2 ∷ pos 1 ∷ negsuc 0 ∷ pos 0 ∷ pos 0 ∷ pos 50 ∷ pos 200000 ∷ pos 0 ∷ pos 1 ∷ pos 0
      ∷ pos 900000 ∷ pos 0 ∷ []
  pub any_and_last : settings_of Table
      (param 1 (codes "hold") (codes "idle 0:0:0:1 last idle")
      ∷ param 2 (codes "take") (codes "idle d any idle") ∷ []) ≡
      pos 1 ∷ pos 0 ∷ pos 1 ∷ pos (10 ^ 16 + 1) ∷ pos 0 ∷ pos 0 ∷ pos 3 ∷ pos (10 ^ 16 + 1) ∷ pos 0
      ∷ []

-- the least line off its form, and keys that stand again
pub record ParametersAreRefused : Type 0 where
  pub period : first_line_off Generator (param 4 (codes "period") (codes "0:0:0:0") ∷ []) ≡ Some 4
  pub count : first_line_off Generator (param 4 (codes "count") (codes "0") ∷ []) ≡ Some 4
  pub least : first_line_off Counter
      (param 4 (codes "step") (codes "x") ∷ param 5 (codes "delay") (codes "x") ∷ []) ≡ Some 4
  pub other_key : first_line_off Queue (param 4 (codes "period") (codes "x") ∷ []) ≡ None
  pub no_state : first_line_off Table
      (light (param 9 (codes "hold") (codes "blue 00:00:00:030 1 red"))) ≡ Some 9
  pub state_again : first_line_off Table
      (light (param 9 (codes "hold") (codes "green 00:00:00:030 1 red"))) ≡ Some 10
  pub no_initial : first_line_off Table (light (param 9 (codes "initial") (codes "blue"))) ≡ Some 9
  pub no_port : first_line_off Table (light (param 9 (codes "take") (codes "red e 1 red"))) ≡ Some 9
  pub states_alone : lines_off Table
      (param 7 (codes "states") (codes "red red") ∷ param 8 (codes "hold") (codes "x") ∷ [])
      ≡ 7 ∷ []
  pub right : first_line_off Table (light
      (param 9 (codes "hold") (codes "red 00:00:00:030 1 green"))) ≡ None
  pub too_many_states : states_of (param 7 (codes "states")
      (join_words (sixty_four ++ codes "dd" ∷ [])) ∷ []) ≡ None
  pub states : option_map length (states_of (param 7 (codes "states") (join_words sixty_four) ∷ []))
      ≡ Some 64
  pub too_many_entries : one_too_many
      (replicate 1024 (param 5 (codes "take") []) ++ param 6 (codes "hold") [] ∷ []) ≡ 6 ∷ []
  pub entries : one_too_many (replicate 1024 (param 5 (codes "take") [])) ≡ []
  pub twice : are_once Queue (param 3 (codes "preparation") (codes "x")
      ∷ param 4 (codes "preparation") (codes "y") ∷ []) ≡ false
  pub holds_again : are_once Table (light
      (param 9 (codes "hold") (codes "red 00:00:00:030 1 green"))) ≡ true

-- numbers that are a state of a class, and numbers that are none
pub record WordsAreAState : Type 0 where
  pub idle_queue : is_box_state Queue (pos 0 ∷ []) (pos 0 ∷ negsuc 0 ∷ []) ≡ true
  pub idle_with_value : is_box_state Queue (pos 0 ∷ []) (pos 0 ∷ negsuc 0 ∷ pos 100000 ∷ []) ≡ false
  pub preparing : is_box_state Queue (pos 0 ∷ []) (pos 1 ∷ pos 5 ∷ pos 100000 ∷ []) ≡ true
  pub no_phase : is_box_state Queue (pos 0 ∷ []) (pos 3 ∷ negsuc 0 ∷ pos 100000 ∷ []) ≡ false
  pub counted_out : is_box_state Generator (pos 0 ∷ pos 10 ∷ pos 1 ∷ pos 0 ∷ pos 2 ∷ [])
      (negsuc 0 ∷ pos 1 ∷ pos 0 ∷ []) ≡ true
  pub past_the_count : is_box_state Generator (pos 0 ∷ pos 10 ∷ pos 1 ∷ pos 0 ∷ pos 2 ∷ [])
      (pos 10 ∷ pos 1 ∷ pos 3 ∷ []) ≡ false
  pub falling : is_box_state Cpu (pos 0 ∷ []) (pos 5 ∷ pos 1 ∷ pos 4 ∷ pos 1 ∷ []) ≡ false
  pub half_a_pair : is_box_state Cpu (pos 0 ∷ []) (pos 5 ∷ []) ≡ false
  pub counter : is_box_state Counter (pos 0 ∷ pos 0 ∷ pos 0 ∷ [])
      (pos (10 ^ 16) ∷ pos MAX_TIME ∷ []) ≡ true
  pub one_word : is_box_state Counter (pos 0 ∷ pos 0 ∷ pos 0 ∷ []) (pos 0 ∷ []) ≡ false
  pub no_value : is_box_state Counter (pos 0 ∷ pos 0 ∷ pos 0 ∷ [])
      (pos (10 ^ 16 + 1) ∷ negsuc 0 ∷ []) ≡ false
  pub table : is_box_state Table (pos 1 ∷ pos 0 ∷ negsuc 0 ∷ pos 0 ∷ pos 0 ∷ [])
      (pos 0 ∷ negsuc 0 ∷ pos (10 ^ 16) ∷ []) ≡ true
  pub no_such_state : is_box_state Table (pos 1 ∷ pos 0 ∷ negsuc 0 ∷ pos 0 ∷ pos 0 ∷ [])
      (pos 1 ∷ negsuc 0 ∷ pos (10 ^ 16) ∷ []) ≡ false
