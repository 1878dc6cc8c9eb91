use Rattle.std.proofs.Common.{◌≡◌, ◌-◌, ◌<◌, true, false, sym, subst, to_z, of_z, w64, arith, rules}
use Rattle.std.specs.List.Sorted.{IsPartitionedBy, IsPartitionPoint}
use Rattle.std.proofs.lemmas.Int.{to_z-of_z}
use Rattle.std.proofs.lemmas.List.Sorted.{IsPartitionPoint-from_clause}
use Rattle.stable.specs.Column.{is_below}
use Rattle.stable.proofs.ColumnLemmas.{length_blocks}
use Rattle.stable.proofs.HalvingLemmas.{begins, blocks_parted, block_parted, halved, long, none_below, typed}
use Rattle.stable.proofs.halving.count_below.Goals as goal

pub returns-then-after-eq0-clause-point : goal.returns-then-after-eq0-clause-point
returns-then-after-eq0-clause-point c =
    let n = c.args.number in
    let blocks = c.args.blocks.now in
    let after = c.partition_point-after.result in
    let cut : IsPartitionPoint (λ b. begins n b ≡ true) (λ b. begins n b ≡ false) blocks after =
    IsPartitionPoint-from_clause (begins n) blocks after c.partition_point-after.ensures.partitioned
    (blocks_parted n blocks c.requires.blocked c.requires.parted) (λ a r f k.
    search rules) in
    none_below n blocks c.requires.blocked c.requires.parted after cut c.if-after-eq0.true

pub overflow_mul-result : goal.overflow_mul-result
overflow_mul-result c =
    omega (arith, c.if-after-eq0.false, c.partition_point-after.ensures.bound, c.requires.room, c.requires.blocked, length_blocks)

pub count_in-requires-clause-typed : goal.count_in-requires-clause-typed
count_in-requires-clause-typed c =
    let n = c.args.number in
    let blocks = c.args.blocks.now in
    let some : 0 < c.partition_point-after.result = omega (arith, c.if-after-eq0.false) in
    typed n blocks c.requires.blocked c.requires.parted (c.partition_point-after.result - 1) c.index-blocks-before.result
    c.index-blocks-before.is (omega (arith, some, c.partition_point-after.ensures.bound))

pub count_in-requires-clause-parted : goal.count_in-requires-clause-parted
count_in-requires-clause-parted c =
    let n = c.args.number in
    let blocks = c.args.blocks.now in
    let some : 0 < c.partition_point-after.result = omega (arith, c.if-after-eq0.false) in
    let same : to_z w64 (of_z w64 n) ≡ n = to_z-of_z w64 n c.ranges.number in
    subst (λ m. IsPartitionedBy (is_below m) c.index-blocks-before.result.values) (sym same)
    (block_parted n blocks c.requires.blocked c.requires.parted (c.partition_point-after.result - 1) c.index-blocks-before.result
    c.index-blocks-before.is (omega (arith, some, c.partition_point-after.ensures.bound)))

pub overflow_add-result : goal.overflow_add-result
overflow_add-result c =
    let n = c.args.number in
    let blocks = c.args.blocks.now in
    let some : 0 < c.partition_point-after.result = omega (arith, c.if-after-eq0.false) in
    let within =
    long n blocks c.requires.blocked c.requires.parted (c.partition_point-after.result - 1) c.index-blocks-before.result
    c.index-blocks-before.is (omega (arith, some, c.partition_point-after.ensures.bound)) in
    omega (arith, within, c.count_in.ensures.few, c.requires.room)

pub returns-clause-few : goal.returns-clause-few
returns-clause-few c =
    let n = c.args.number in
    let blocks = c.args.blocks.now in
    let some : 0 < c.partition_point-after.result = omega (arith, c.if-after-eq0.false) in
    let within =
    long n blocks c.requires.blocked c.requires.parted (c.partition_point-after.result - 1) c.index-blocks-before.result
    c.index-blocks-before.is (omega (arith, some, c.partition_point-after.ensures.bound)) in
    omega (arith, within, c.count_in.ensures.few)

pub returns-clause-point : goal.returns-clause-point
returns-clause-point c =
    let n = c.args.number in
    let blocks = c.args.blocks.now in
    let after = c.partition_point-after.result in
    let some : 0 < after = omega (arith, c.if-after-eq0.false) in
    let cut : IsPartitionPoint (λ b. begins n b ≡ true) (λ b. begins n b ≡ false) blocks after =
    IsPartitionPoint-from_clause (begins n) blocks after c.partition_point-after.ensures.partitioned
    (blocks_parted n blocks c.requires.blocked c.requires.parted) (λ a r f k.
    search rules) in
    let same : to_z w64 (of_z w64 n) ≡ n = to_z-of_z w64 n c.ranges.number in
    let b = c.index-blocks-before.result in
    let inside =
    subst (λ m. IsPartitionPoint (λ v. is_below m v ≡ true) (λ v. is_below m v ≡ false) b.values c.count_in.result) same
    c.count_in.ensures.point in
    halved n blocks c.requires.blocked c.requires.parted after cut (after - 1) (omega (arith, some))
    c.partition_point-after.ensures.bound b c.index-blocks-before.is c.count_in.result inside c.count_in.ensures.few
