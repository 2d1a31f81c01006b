use Rattle.std.proofs.Common.{◌≡◌, Err, map, ap, ◌∙◌, rules}
use Rattle.model_text.specs.Walk.{atomics}
use Rattle.model_walk.specs.declared.refused.Stop.{Stop}
use Rattle.model_walk.specs.declared.refused.Stop.TheVariants as Stops
use Rattle.model_walk.specs.Placed.{plain_group}
use Rattle.model_walk.specs.Shown.{refusal_of}
use Rattle.model_build.specs.Settled.{classes_of}
use Rattle.model_build.specs.Boxes.{settings_of_stock}
use Rattle.model_read.proofs.Joined.{all_pass, stops_second, stops_third}
use Rattle.model_read.proofs.Started.{has_settings, has_boxes}
use Rattle.model_read.proofs.phases.judge_met.Goals as goal

pub returns-in_err-parts-clause-refused : goal.returns-in_err-parts-clause-refused
returns-in_err-parts-clause-refused g c = λ why e.
    let is : c.from_residual.result ≡ Err c.in_err-parts.field-0.0 = search rules in
    let same : c.in_err-parts.field-0.0 ≡ Stops.Refused why = cc in
    let w = c.requires in
    stops_second (classes_of c.args.stock.now) c.args.sections.now (refusal_of why) (w.walk.top, (w.walk.passes, (w.keys, (w.cells, tt)))) (c.in_err-parts.ensures.refused why (ap (λ (s : Stop). Err s) same))

pub returns-in_err-links-clause-refused : goal.returns-in_err-links-clause-refused
returns-in_err-links-clause-refused g c = λ why e.
    let is : c.from_residual-in_err-links.result ≡ Err c.in_err-links.field-0.0 = search rules in
    let same : c.in_err-links.field-0.0 ≡ Stops.Refused why = cc in
    let w = c.requires in
    let p = c.in_ok-parts.ensures in
    stops_third (classes_of c.args.stock.now) c.args.sections.now (refusal_of why) (w.walk.top, (w.walk.passes, (w.keys, (w.cells, tt)))) (p.spaces, (p.stock, (p.rules, tt)))
    (c.in_err-links.ensures.refused why (ap (λ (s : Stop). Err s) same))

pub returns-in-Ok-clause-tree : goal.returns-in-Ok-clause-tree
returns-in-Ok-clause-tree g c =
    let ss = c.args.sections.now in
    let stock = c.read_parts.new.stock in
    c.in-Ok.ensures.tree (settings_of_stock stock) (has_settings ss stock c.in_ok-parts.parts.atomics.items (atomics ss) c.in_ok-parts.ensures.named c.in_ok-parts.ensures.boxes)

pub returns-in-Ok-clause-boxes : goal.returns-in-Ok-clause-boxes
returns-in-Ok-clause-boxes g c =
    let ss = c.args.sections.now in
    let stock = c.read_parts.new.stock in
    has_boxes ss stock c.in-Ok.judged.top c.in_ok-parts.parts.atomics.items (atomics ss) c.in-Ok.ensures.atomics c.in_ok-parts.ensures.named c.in_ok-parts.ensures.boxes c.in_ok-parts.ensures.apart

-- ---- what the later stages stand on

pub read_parts-requires : goal.read_parts-requires
read_parts-requires g c =
    let w = c.requires in
    record { walk = w.walk; keys = w.keys; cells = w.cells; free = w.free }

pub read_links-requires : goal.read_links-requires
read_links-requires g c =
    let w = c.requires in
    let p = c.in_ok-parts.ensures in
    record { walk = w.walk; keys = w.keys; spaces = p.spaces; groups = ap (map plain_group) c.deref.ensures.value ∙ p.groups }

pub built-requires : goal.built-requires
built-requires g c =
    let w = c.requires in
    let p = c.in_ok-parts.ensures in
    let l = c.in_ok-links.ensures in
    let classes = classes_of c.args.stock.now in
    record {
      passed = (
        classes,
        all_pass classes c.args.sections.now (w.walk.top, (w.walk.passes, (w.keys, (w.cells, tt)))) (p.spaces, (p.stock, (p.rules, tt))) (l.right, (l.few, tt)),
      );
      walk = w.walk;
      groups = p.groups;
      values = p.values;
      rules = p.sets;
      atomics = p.named;
      links = l.links;
    }

-- ---- what is answered

pub returns-in-Ok-clause-passed : goal.returns-in-Ok-clause-passed
returns-in-Ok-clause-passed g c =
    let w = c.requires in
    let p = c.in_ok-parts.ensures in
    let l = c.in_ok-links.ensures in
    all_pass (classes_of c.args.stock.now) c.args.sections.now (w.walk.top, (w.walk.passes, (w.keys, (w.cells, tt)))) (p.spaces, (p.stock, (p.rules, tt))) (l.right, (l.few, tt))
