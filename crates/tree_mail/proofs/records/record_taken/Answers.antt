use Rattle.std.proofs.Common.{rules, ◌≡◌, [], ◌∷◌, ◌++◌, map, refl}
use Rattle.atomic_face.specs.Classes.{Bag}
use Rattle.run_model.specs.Run.{port_records}
use Rattle.text_forms.specs.Held.{x_at}
use Rattle.tree_mail.proofs.Rest.{further, all-made}
use Rattle.tree_mail.proofs.Recording.{record_at}
use Rattle.tree_mail.proofs.records.record_taken.Goals as goal

pub loop-taken-preserved : goal.loop-taken-preserved
loop-taken-preserved c =
    let F = λ (bag : Bag). map (x_at c.args.t) (port_records (c.args.leaf, bag)) in
    let x = c.taken-item.result in
    let pushed : c.push.new.self.items ≡ c.loop-taken.x.items ++ x_at c.args.t (record_at c.args.leaf x) ∷ [] = search rules in
    further F F c.args.bag.now c.loop-taken.taken-index x x c.loop-taken-test.true c.taken-item.is (F (x ∷ [])) refl
    c.loop-taken.x.items c.push.new.self.items _ pushed c.loop-taken.invariant

pub returns : goal.returns
returns c =
    let F = λ (bag : Bag). map (x_at c.args.t) (port_records (c.args.leaf, bag)) in
    all-made F c.args.bag.now c.loop-taken.taken-index c.loop-taken-test.false refl c.loop-taken.x.items _ c.loop-taken.invariant
