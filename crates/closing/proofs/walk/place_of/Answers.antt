-- `closing::walk::place_of` meets its contract: the neighbours after the first, up to the place, are not above v.
-- Assumes nothing.
use Rattle.std.proofs.Common.{leb, ◌%◌, rules}
use Rattle.std.proofs.lemmas.List.Sorted.{IsPartitionPoint-from_clause, IsPartitionedBy-leb}
use Rattle.state.specs.Layout.{radix}
use Rattle.closing.specs.Laws.Seeking.{others_rise, others_passed}
use Rattle.closing.proofs.walk.place_of.Goals as goal

pub returns : goal.returns
returns c =
    let parted = IsPartitionedBy-leb (λ w. w % radix) _ c.args.v (others_rise c.requires) in
    let point = IsPartitionPoint-from_clause (λ w. leb (w % radix) c.args.v) _ _ c.partition_point.ensures.partitioned parted (λ a r q k. search rules) in
    others_passed c.requires _ point c.partition_point.ensures.bound
