use Rattle.std.proofs.Common.{◌≡◌, ◌<◌, ◌&&◌, true, false, leb, eqb, sym, ap, ◌∙◌, arith, rules, tests}
use Rattle.std.specs.List.Sorted.{IsPartitionPoint}
use Rattle.std.proofs.lemmas.List.Sorted.{IsPartitionedBy-leb, IsPartitionPoint-from_clause}
use Rattle.devices.proofs.WholeLemmas.{ends, generations_sorted, none_before, shown_at}
use Rattle.devices.proofs.reading.is_whole.Goals as goal

pub returns-then-end-eq0 : goal.returns-then-end-eq0
returns-then-end-eq0 c =
    let g = c.args.generation in
    let parts = c.args.parts.now in
    let end = c.partition_point-end.result in
    let sorted = IsPartitionedBy-leb (λ p. p.generation) parts g (generations_sorted parts c.requires) in
    let cut : IsPartitionPoint (λ p. leb p.generation g ≡ true) (λ p. leb p.generation g ≡ false) parts end =
    IsPartitionPoint-from_clause (λ p. leb p.generation g) parts end c.partition_point-end.ensures.partitioned sorted (λ a r f k.
    search (rules, tests)) in
    sym (none_before g parts end c.requires c.partition_point-end.ensures.bound cut c.if-end-eq0.true)

pub returns-then-part : goal.returns-then-part
returns-then-part c =
    let g = c.args.generation in
    let parts = c.args.parts.now in
    let end = c.partition_point-end.result in
    let part = c.index-parts-end.result in
    let sorted = IsPartitionedBy-leb (λ p. p.generation) parts g (generations_sorted parts c.requires) in
    let cut : IsPartitionPoint (λ p. leb p.generation g ≡ true) (λ p. leb p.generation g ≡ false) parts end =
    IsPartitionPoint-from_clause (λ p. leb p.generation g) parts end c.partition_point-end.ensures.partitioned sorted (λ a r f k.
    search (rules, tests)) in
    let some : 0 < end = omega (arith, c.if-end-eq0.false) in
    sym (shown_at g parts end c.requires c.partition_point-end.ensures.bound cut part some
    ∙ ap (ends g) (sym c.index-parts-end.is)
    ∙ ap (λ b. b && eqb part.generation g) c.if-part.true)

pub returns-else-part : goal.returns-else-part
returns-else-part c =
    let g = c.args.generation in
    let parts = c.args.parts.now in
    let end = c.partition_point-end.result in
    let part = c.index-parts-end.result in
    let sorted = IsPartitionedBy-leb (λ p. p.generation) parts g (generations_sorted parts c.requires) in
    let cut : IsPartitionPoint (λ p. leb p.generation g ≡ true) (λ p. leb p.generation g ≡ false) parts end =
    IsPartitionPoint-from_clause (λ p. leb p.generation g) parts end c.partition_point-end.ensures.partitioned sorted (λ a r f k.
    search (rules, tests)) in
    let some : 0 < end = omega (arith, c.if-end-eq0.false) in
    c.if-part.false
    ∙
    sym (shown_at g parts end c.requires c.partition_point-end.ensures.bound cut part some
    ∙ ap (ends g) (sym c.index-parts-end.is)
    ∙ ap (λ b. b && eqb part.generation g) c.if-part.false)
