use Rattle.std.proofs.Common.{◌≡◌, Some, sym, ap, ◌∙◌}
use Rattle.std.specs.Option.{option_map}
use Rattle.model_text.specs.Refusals.{refusal}
use Rattle.model_walk.specs.declared.refused.Refused.{Refused}
use Rattle.model_walk.specs.Shown.{refusal_of}
use Rattle.model_build.proofs.Stocks.{take-keeps, take-lacks}
use Rattle.model_build.proofs.component_box.take_box.Goals as goal

pub returns-in-Ok-clause-classes : goal.returns-in-Ok-clause-classes
returns-in-Ok-clause-classes g c = take-keeps c.args.class c.args.stock.now c.take.new.self c.in-Ok.at c.in-Ok.ensures

pub returns-in-Err-clause-refused : goal.returns-in-Err-clause-refused
returns-in-Err-clause-refused g c = λ why e.
    let is : record { line = c.args.line; kind = c.kind_of.result } ≡ why = cc in
    ap (option_map (refusal c.args.line)) (take-lacks c.args.class c.args.stock.now c.take.new.self c.in-Err.why c.in-Err.ensures ∙ ap Some (sym c.kind_of.ensures))
    ∙ ap (λ (w : Refused). Some (refusal_of w)) is
