use Rattle.std.proofs.Common.{◌≡◌, true, false, int_lt, rules}
use Rattle.std.specs.List.Sorted.{IsPartitionPoint}
use Rattle.std.proofs.lemmas.List.Sorted.{IsPartitionPoint-from_clause}
use Rattle.stable.proofs.HalvingLemmas.{numbers_parted, values_parted}
use Rattle.stable.proofs.halving.count_in.Goals as goal

pub returns-clause-point : goal.returns-clause-point
returns-clause-point c =
    let n = c.args.number in
    let xs = c.in-Ints.numbers.now in
    let b = c.args.block.now in
    let lent = c.in-Ints.ensures in
    let m = c.partition_point.result in
    let cut : IsPartitionPoint (λ x. int_lt x n ≡ true) (λ x. int_lt x n ≡ false) xs m =
    IsPartitionPoint-from_clause (λ x. int_lt x n) xs m c.partition_point.ensures.partitioned
    (numbers_parted n xs b lent c.requires.parted) (λ a r f k.
    search rules) in
    values_parted n xs b lent m c.partition_point.ensures.bound cut
