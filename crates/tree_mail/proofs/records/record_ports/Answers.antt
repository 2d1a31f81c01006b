use Rattle.std.proofs.Common.{[], ◌∷◌, ◌+◌, map, drop, refl}
use Rattle.std.specs.List.{filter}
use Rattle.atomic_face.specs.Classes.{Bag}
use Rattle.run_model.specs.Run.{port_records, is_of_out}
use Rattle.text_forms.specs.Held.{y_at}
use Rattle.tree_mail.specs.Recorded.{is_further}
use Rattle.tree_mail.proofs.Rest.{further, all-made}
use Rattle.tree_mail.proofs.Recording.{ports-first}
use Rattle.tree_mail.proofs.records.record_ports.Goals as goal

pub loop-given-preserved : goal.loop-given-preserved
loop-given-preserved c =
    let t = c.args.t in
    let l = c.args.leaf in
    let Y = λ (bag : Bag). map (y_at t) (filter is_of_out (port_records (l, bag))) in
    let N = λ (bag : Bag). map (y_at t) (filter is_further (port_records (l, bag))) in
    let x = c.given-item.result in
    let rest = drop (c.loop-given.given-index + 1) c.args.bag.now in
    record {
      y = further Y Y c.args.bag.now c.loop-given.given-index x x c.loop-given-test.true c.given-item.is (Y (x ∷ [])) (ports-first t l is_of_out x rest)
          c.loop-given.y.items c.record_port.new.y.items _ c.in_ok-record_port.ensures.y c.loop-given.invariant.y;
      n = further N N c.args.bag.now c.loop-given.given-index x x c.loop-given-test.true c.given-item.is (N (x ∷ [])) (ports-first t l is_further x rest)
          c.loop-given.n.items c.record_port.new.n.items _ c.in_ok-record_port.ensures.n c.loop-given.invariant.n;
    }

pub returns-clause-y : goal.returns-clause-y
returns-clause-y c =
    let Y = λ (bag : Bag). map (y_at c.args.t) (filter is_of_out (port_records (c.args.leaf, bag))) in
    all-made Y c.args.bag.now c.loop-given.given-index c.loop-given-test.false refl c.loop-given.y.items _ c.loop-given.invariant.y

pub returns-clause-n : goal.returns-clause-n
returns-clause-n c =
    let N = λ (bag : Bag). map (y_at c.args.t) (filter is_further (port_records (c.args.leaf, bag))) in
    all-made N c.args.bag.now c.loop-given.given-index c.loop-given-test.false refl c.loop-given.n.items _ c.loop-given.invariant.n
