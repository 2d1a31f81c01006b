use Rattle.std.proofs.Common.{◌≡◌, ◌∙◌, length, take, sym, ap, arith}
use Rattle.cycle_steps.proofs.Growth.{cut-back}
use Rattle.cycle_steps.proofs.feed.feed.Goals as goal

pub returns-in_default-clause-x_kept : goal.returns-in_default-clause-x_kept
returns-in_default-clause-x_kept g c =
    let len : length c.args.x.now.items ≡ c.len-x_len.result = omega (arith, c.args.x.now.ok.0) in
    c.truncate.ensures.items ∙ ap (λ n. take n c.feed_all.new.x.items) (sym len) ∙ cut-back _ _ c.feed_all.ensures.x_grows

pub returns-in_default-clause-out_kept : goal.returns-in_default-clause-out_kept
returns-in_default-clause-out_kept g c =
    let len : length c.args.out.now.items ≡ c.len-out_len.result = omega (arith, c.args.out.now.ok.0) in
    c.truncate-in_default.ensures.items ∙ ap (λ n. take n c.feed_all.new.out.items) (sym len) ∙ cut-back _ _ c.feed_all.ensures.out_grows
