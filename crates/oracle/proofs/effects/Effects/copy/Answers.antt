use Rattle.std.proofs.Common.{◌∙◌, ◌++◌, T, ap, subst}
use Rattle.values.specs.Orders.{key_cmp, key_cmp_total}
use Rattle.model.specs.Maps.{put, is_sorted}
use Rattle.oracle.proofs.OrderedMapLemmas.{copied-put, is_sorted-ordered}
use Rattle.oracle.proofs.effects.Effects.copy.Goals as goal

pub loop-key-preserved : goal.loop-key-preserved
loop-key-preserved c =
    let ordered = is_sorted-ordered key_cmp c.by_key-key-items.result.now.entries c.into_iter-key-iterator.ensures.into_iter_gives.5 in
    ap (λ es. es ++ c.next.new.self) c.in_ok-put.ensures.ok
    ∙ ap (λ v. put key_cmp c.in_ok-copy.field-0 v c.loop-key.copied.entries ++ c.next.new.self) c.in_ok-copy_effect.ensures
    ∙ ap (λ k. put key_cmp k c.in-Some.effect.now c.loop-key.copied.entries ++ c.next.new.self) c.in_ok-copy.ensures
    ∙ copied-put key_cmp key_cmp_total c.args.self.now c.loop-key.copied.entries c.loop-key.key-iterator c.next.new.self
    c.in-Some.key.now c.in-Some.effect.now
    (subst (λ es. T (is_sorted key_cmp es)) c.by_key-key-items.ensures ordered) c.loop-key.invariant c.in-Some.ensures.steps
