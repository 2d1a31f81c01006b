use Rattle.std.proofs.Common.{map, ◌++◌, refl, ap, ◌∙◌}
use Rattle.std.specs.List.{filter}
use Rattle.std.proofs.lemmas.Result.{on_ok_weaker}
use Rattle.run_model.specs.Run.{port_records, is_of_out}
use Rattle.text_forms.specs.Held.{y_at, x_at, s_at}
use Rattle.tree_mail.specs.Recorded.{is_further, move_record}
use Rattle.tree_mail.proofs.records.record_leaf.Goals as goal

pub returns : goal.returns
returns c =
    let old = c.args.records.now in
    let t = c.args.t in
    let l = c.args.leaf in
    on_ok_weaker c.record_move.result
    (λ s. record {
      y = c.in_ok-record_ports.ensures.y ∙ ap (λ bag. old.y.items ++ map (y_at t) (filter is_of_out (port_records (l, bag)))) c.gave_in.ensures;
      n = c.in_ok-record_ports.ensures.n ∙ ap (λ bag. old.n.items ++ map (y_at t) (filter is_further (port_records (l, bag)))) c.gave_in.ensures;
      x = c.in_ok-record_taken.ensures ∙ ap (λ bag. old.x.items ++ map (x_at t) (port_records (l, bag))) c.deref.ensures.value;
      s = s ∙ ap (λ next. old.s.items ++ map (s_at t) (move_record l c.args.kept.now.became next)) c.next_of.ensures;
      out = refl;
    })
    c.record_move.ensures
