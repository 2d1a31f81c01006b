-- What is said at the end of a run: a line shown where it is done, and else a complaint.
use Rattle.std.specs.Prelude.{ℕ, Bool, false, ◌==◌, Option, Some, None, List, [], ◌++◌, length, slice_get, if◌then◌else◌, codes, decimal}
use Rattle.std.specs.List.{filter_map, flat_map, count_by, sum_by, last_or, range_with_len}
use Rattle.std.specs.Option.{option_map, unwrap_or}
use Rattle.quantity.specs.declared.value.Value.{Value}
use Rattle.quantity.specs.Arithmetic.{same_value}
use Rattle.quantity.specs.Bytes.{Bytes}
use Rattle.quantity.specs.Times.{time_text}
use Rattle.quantity.specs.ValueTexts.{text5}
use Rattle.rule_tree.specs.declared.outcome.RuleStop.{RuleStop}
use Rattle.rule_tree.specs.declared.outcome.RuleStop.TheVariants.{NoTrueRule, Overflow, BadDelay}
use Rattle.rule_tree.specs.Meaning.{whole}
use Rattle.model_tree.specs.Tree.{Tree, leaves, leaf_count}
use Rattle.run_model.specs.Run.{Event, PortRecord, Cycle, Verdict, done, too_many, stop}
use Rattle.text_forms.specs.LogLine.{leaf_name_text}
use Rattle.text_forms.specs.Lines.{leaf_name, line_with_end}
use Rattle.served_tree.specs.Order.{mark_of}
use Rattle.answer_model.specs.Asked.{Asked, file, made}
use Rattle.answer_model.specs.declared.status.Status.{Status}
use Rattle.answer_model.specs.declared.status.Status.TheVariants as exit

-- ---- of a run that is done

-- the last value that the leaf gave at its port `out` is 1
abbrev pub is_one_last : List Cycle → ℕ → Bool
is_one_last cycles leaf =
    elim (last_or None (filter_map value (flat_map (λ (c : Cycle). c.y) cycles)))
    [ None ↦ false | Some v ↦ same_value v (whole 1) ]
  where
    value : PortRecord → Option Value
    value r = if r.leaf == leaf then Some r.value else None

-- the last line of a run that came to its end
abbrev pub end_line : ℕ → List Cycle → Bytes
end_line end cycles = codes "end " ++ time_text end ++ codes " cycles " ++ decimal (length cycles)

-- the end of a made model: its size, and what there is to count
abbrev pub made_line : ℕ → Tree → List Cycle → Bytes
made_line size tree cycles =
    codes "made " ++ decimal size ++ codes " cells " ++ decimal (leaf_count tree)
    ++ codes " cycles " ++ decimal (length cycles)
    ++ codes " y " ++ decimal (sum_by (λ (c : Cycle). length c.y) cycles) ++ codes " s "
    ++ decimal (sum_by (λ (c : Cycle). length c.s) cycles)
    ++ codes " ones "
    ++ decimal (count_by (is_one_last cycles) (range_with_len 0 (leaf_count tree)))

-- the same, or for a made model its line with the size
abbrev pub done_line : Asked → Tree → List Cycle → Bytes
done_line a tree cycles =
    elim a.source [ file name ↦ end_line a.end cycles | made size ↦ made_line size tree cycles ]

-- the mark of the order of service, where one is asked for
abbrev pub mark_text : Asked → Tree → List Event → Bytes
mark_text a tree events =
    elim a.seed
    [ None ↦ [] | Some seed ↦ codes " mark " ++ decimal (mark_of tree events a.end a.limit seed) ]

-- ---- of a run that stopped

-- what stopped, at which leaf and time
abbrev pub stopped_at : Bytes → Tree → ℕ → ℕ → Bytes
stopped_at what tree leaf t =
    what ++ codes ": "
    ++ unwrap_or (option_map (λ l. leaf_name_text (leaf_name l)) (slice_get (leaves tree) leaf)) []
    ++ codes " at " ++ time_text t

-- the complaint of a run that a rule stopped
abbrev pub stop_line : Tree → ℕ → ℕ → RuleStop → Bytes
stop_line tree leaf t NoTrueRule = stopped_at (codes "no true rule") tree leaf t
stop_line tree leaf t Overflow = stopped_at (codes "overflow") tree leaf t
stop_line tree leaf t (BadDelay d) =
    stopped_at (codes "bad delay") tree leaf t ++ codes ": " ++ text5 d

-- the status of a run that a rule stopped
abbrev pub stop_status : RuleStop → Status
stop_status NoTrueRule = exit.NoTrueRule
stop_status Overflow = exit.Overflow
stop_status (BadDelay d) = exit.BadDelay

-- the complaint of too many cycles at one time
abbrev pub many_line : ℕ → ℕ → Bytes
many_line limit t = codes "too many cycles: limit " ++ decimal limit ++ codes " at " ++ time_text t

-- ---- by the verdict

-- what a run's end says: status, shown line, complaint
pub record Said : Type 0 where
  pub status : Status
  pub shown : Bytes
  pub complained : Bytes

-- a run that is done shows this line
abbrev pub shows : Bytes → Said
shows line = record { status = exit.Done; shown = line_with_end line; complained = [] }

-- a run that stopped complains by this line
abbrev pub complains : Status → Bytes → Said
complains status line = record { status = status; shown = []; complained = line_with_end line }

-- what a run with this verdict says
abbrev pub verdict_message : Asked → Tree → List Event → List Cycle → Verdict → Said
verdict_message a tree events cycles done =
    shows (done_line a tree cycles ++ mark_text a tree events)
verdict_message a tree events cycles (too_many t) =
    complains exit.TooManyCycles (many_line a.limit t)
verdict_message a tree events cycles (stop leaf t why) =
    complains (stop_status why) (stop_line tree leaf t why)
