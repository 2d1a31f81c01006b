use Rattle.std.proofs.Common.{ltb, ltb-true, ltb-false, arith, rules}
use Rattle.std.proofs.lemmas.List.Sorted.{IsPartitionPoint-from_clause, IsPartitionedBy-ltb}
use Rattle.text_forms.specs.declared.records.XRecord.{XRecord}
use Rattle.cycle_steps.proofs.bag.first_fed.Goals as goal

pub returns-clause-before : goal.returns-clause-before
returns-clause-before c =
    let parted = IsPartitionedBy-ltb (λ (p : XRecord). p.leaf) _ c.args.leaf c.requires in
    let point = IsPartitionPoint-from_clause (λ (p : XRecord). ltb p.leaf c.args.leaf) _ _ c.partition_point.ensures.partitioned parted (λ a r q k. search rules) in
    λ k d h. ltb-true _ _ (point.0 k d (omega arith) h)

pub returns-clause-above : goal.returns-clause-above
returns-clause-above c =
    let parted = IsPartitionedBy-ltb (λ (p : XRecord). p.leaf) _ c.args.leaf c.requires in
    let point = IsPartitionPoint-from_clause (λ (p : XRecord). ltb p.leaf c.args.leaf) _ _ c.partition_point.ensures.partitioned parted (λ a r q k. search rules) in
    λ k d from within. ltb-false _ _ (point.1 k d from within)
