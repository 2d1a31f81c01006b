use Rattle.std.proofs.Common.{rules, ◌≡◌, [], ◌∷◌, ◌++◌, map, refl}
use Rattle.atomic_face.specs.Classes.{Bag}
use Rattle.text_forms.specs.Held.{out_at}
use Rattle.served_tree.specs.KeptCycle.{out_record}
use Rattle.tree_mail.proofs.Rest.{further, all-made}
use Rattle.tree_mail.proofs.records.record_out.Goals as goal

pub loop-given-preserved : goal.loop-given-preserved
loop-given-preserved c =
    let F = λ (bag : Bag). map (out_at c.args.t) (map out_record bag) in
    let x = c.given-item.result in
    let pushed : c.push.new.self.items ≡ c.loop-given.out.items ++ out_at c.args.t (out_record x) ∷ [] = search rules in
    further F F c.args.bag.now c.loop-given.given-index x x c.loop-given-test.true c.given-item.is (F (x ∷ [])) refl
    c.loop-given.out.items c.push.new.self.items _ pushed c.loop-given.invariant

pub returns : goal.returns
returns c =
    let F = λ (bag : Bag). map (out_at c.args.t) (map out_record bag) in
    all-made F c.args.bag.now c.loop-given.given-index c.loop-given-test.false refl c.loop-given.out.items _ c.loop-given.invariant
