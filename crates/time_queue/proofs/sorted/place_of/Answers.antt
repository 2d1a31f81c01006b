use Rattle.std.proofs.Common.{ltb, arith, rules}
use Rattle.std.proofs.lemmas.Bool.{ltb-true, ltb-false}
use Rattle.std.proofs.lemmas.List.Sorted.{IsPartitionPoint-from_clause, IsPartitionedBy-ltb}
use Rattle.time_queue.specs.declared.entry.Entry.{Entry}
use Rattle.time_queue.specs.Sorted.{rank}
use Rattle.time_queue.proofs.sorted.place_of.Goals as goal

pub returns-clause-before : goal.returns-clause-before
returns-clause-before c =
    let point = IsPartitionPoint-from_clause (λ (e : Entry). ltb (rank e) (rank c.args.entry)) _ _ c.partition_point.ensures.partitioned (IsPartitionedBy-ltb rank _ (rank c.args.entry) c.requires) (λ a r q k. search rules) in
    λ k d below. ltb-true _ _ (point.0 k d (omega arith) below)

pub returns-clause-behind : goal.returns-clause-behind
returns-clause-behind c =
    let point = IsPartitionPoint-from_clause (λ (e : Entry). ltb (rank e) (rank c.args.entry)) _ _ c.partition_point.ensures.partitioned (IsPartitionedBy-ltb rank _ (rank c.args.entry) c.requires) (λ a r q k. search rules) in
    λ k d behind within. ltb-false _ _ (point.1 k d behind within)
