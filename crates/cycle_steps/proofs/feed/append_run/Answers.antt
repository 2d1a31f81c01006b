use Rattle.std.proofs.Common.{◌++◌, ◌∷◌, [], ◌∙◌, Bool, List, map, ap, sym, append-nil, cond, eqb, refl}
use Rattle.std.specs.List.{filter}
use Rattle.std.proofs.lemmas.Bool.{eq-eqb}
use Rattle.run_model.specs.Run.{PortRecord}
use Rattle.text_forms.specs.declared.records.YRecord.{YRecord}
use Rattle.text_forms.specs.Held.{x_at, out_at}
use Rattle.sparse_cycle.specs.Feed.{values_of_leaf}
use Rattle.cycle_steps.specs.Untimed.{y_record, y_records}
use Rattle.cycle_steps.specs.Routed.{fed_to, out_to}
use Rattle.cycle_steps.proofs.Growth.{grown-same, grown-after}
use Rattle.cycle_steps.proofs.OneMore.{appends-more, appended-all, fed-kept, out-kept}
use Rattle.cycle_steps.proofs.Runs.{none-above, fed-none, out-none}
use Rattle.cycle_steps.proofs.feed.append_run.Goals as goal

pub returns-then-r-leaf-clause-x : goal.returns-then-r-leaf-clause-x
returns-then-r-leaf-clause-x c =
    sym (c.loop-r.invariant.x ∙ ap (λ vs. c.loop-r.x.items ++ map (x_at c.args.t) (fed_to c.args.to vs))
    (none-above c.args.leaf c.loop-r.r-index c.args.rest.now c.requires.rise c.requires.above c.r-item.result c.r-item.is c.loop-r-test.true c.if-r-leaf.true)
    ∙ ap (λ rs. c.loop-r.x.items ++ map (x_at c.args.t) rs) (fed-none c.args.to)
    ∙ append-nil c.loop-r.x.items)

pub returns-then-r-leaf-clause-out : goal.returns-then-r-leaf-clause-out
returns-then-r-leaf-clause-out c =
    sym (c.loop-r.invariant.out ∙ ap (λ vs. c.loop-r.out.items ++ map (out_at c.args.t) (out_to c.args.to vs))
    (none-above c.args.leaf c.loop-r.r-index c.args.rest.now c.requires.rise c.requires.above c.r-item.result c.r-item.is c.loop-r-test.true c.if-r-leaf.true)
    ∙ ap (λ rs. c.loop-r.out.items ++ map (out_at c.args.t) rs) (out-none c.args.to)
    ∙ append-nil c.loop-r.out.items)

pub loop-r-preserved : goal.loop-r-preserved
loop-r-preserved c =
    let t = c.args.t in
    let l = c.args.leaf in
    let r = c.r-item.result in
    let at = λ (r : PortRecord). eqb r.leaf l in
    let values = λ (b : Bool). map (λ (r : PortRecord). r.value) (cond b (y_record r ∷ []) []) in
    let here = sym (eq-eqb r.leaf l c.if-r-leaf.false) in
    record {
      x = appends-more (λ (rs : List YRecord). map (x_at t) (fed_to c.args.to (values_of_leaf (y_records rs) l)))
          (λ r rs. fed-kept (λ (r : PortRecord). r.value) t c.args.to (eqb r.leaf l) (y_record r) (filter at (y_records rs)))
          c.args.rest.now c.loop-r.r-index r _ c.loop-r.x.items c.append_value.new.x.items c.loop-r-test.true c.r-item.is c.loop-r.invariant.x
          ((rw c.get.ensures at c.in_ok-append_value.ensures.x) ∙ ap (λ b. c.loop-r.x.items ++ map (x_at t) (fed_to c.args.to (values b))) here);
      out = appends-more (λ (rs : List YRecord). map (out_at t) (out_to c.args.to (values_of_leaf (y_records rs) l)))
          (λ r rs. out-kept (λ (r : PortRecord). r.value) t c.args.to (eqb r.leaf l) (y_record r) (filter at (y_records rs)))
          c.args.rest.now c.loop-r.r-index r _ c.loop-r.out.items c.append_value.new.out.items c.loop-r-test.true c.r-item.is c.loop-r.invariant.out
          ((rw c.get.ensures at c.in_ok-append_value.ensures.out) ∙ ap (λ b. c.loop-r.out.items ++ map (out_at t) (out_to c.args.to (values b))) here);
      x_grows = grown-after _ _ _ c.loop-r.invariant.x_grows c.append_value.ensures.x_grows;
      out_grows = grown-after _ _ _ c.loop-r.invariant.out_grows c.append_value.ensures.out_grows;
    }

pub returns-clause-x : goal.returns-clause-x
returns-clause-x c =
    appended-all (λ (rs : List YRecord). map (x_at c.args.t) (fed_to c.args.to (values_of_leaf (y_records rs) c.args.leaf))) (ap (map (x_at c.args.t)) (fed-none c.args.to))
    c.args.rest.now c.loop-r.r-index _ c.loop-r.x.items c.loop-r-test.false c.loop-r.invariant.x

pub returns-clause-out : goal.returns-clause-out
returns-clause-out c =
    appended-all (λ (rs : List YRecord). map (out_at c.args.t) (out_to c.args.to (values_of_leaf (y_records rs) c.args.leaf))) (ap (map (out_at c.args.t)) (out-none c.args.to))
    c.args.rest.now c.loop-r.r-index _ c.loop-r.out.items c.loop-r-test.false c.loop-r.invariant.out

pub returns-in_err-append_value-clause-x_grows : goal.returns-in_err-append_value-clause-x_grows
returns-in_err-append_value-clause-x_grows c = grown-after _ _ _ c.loop-r.invariant.x_grows c.append_value.ensures.x_grows

pub returns-in_err-append_value-clause-out_grows : goal.returns-in_err-append_value-clause-out_grows
returns-in_err-append_value-clause-out_grows c = grown-after _ _ _ c.loop-r.invariant.out_grows c.append_value.ensures.out_grows

pub loop-r-init : goal.loop-r-init
loop-r-init c = record { x = refl; out = refl; x_grows = grown-same _ _ refl; out_grows = grown-same _ _ refl }
