use Rattle.std.proofs.Common.{◌≡◌, ◌+◌, ◌%◌, ◌++◌, ◌∷◌, [], length, sym, ap, subst, ◌∙◌, arith}
use Rattle.blocks.specs.Column.{Column, AllFit}
use Rattle.stable.specs.Column.{joined, all_may_stand}
use Rattle.stable.proofs.PushLemmas.{shown, kept, in_new}
use Rattle.stable.proofs.StandLemmas.{more_stand, block_stands}
use Rattle.stable.proofs.column.Column.push_block.Goals as goal
use Rattle.std.proofs.lemmas.Grind.{common_steps}

pub invariant_of-self-2 : goal.invariant_of-self-2
invariant_of-self-2 c =
    let inside = c.self.inside in
    let more = c.args.block.values in
    let filled : inside.count % 1024 ≡ 0 =
    omega (arith, c.requires.filled, ap (λ (x : Column). length x.values) c.self.view_is, c.self.invariant.blocked.counted) in
    let same : ◌≡◌ {A = Column} c.args.block (record { ty = inside.ty; values = more }) =
    ap (λ ty. record { ty = ty; values = more }) (c.requires.typed ∙ sym (ap (λ (x : Column). x.ty) c.self.view_is)) in
    let longer =
    c.in_ok-push.ensures.items
    ∙ ap (λ (b : Column). inside.blocks.items ++ b ∷ []) same
    ∙ in_new inside.ty inside.count inside.blocks.items c.self.invariant.blocked more filled
    (omega (arith, c.len-more.ensures.len, c.len-more.ensures.few)) c.requires.some in
    let fit : AllFit inside.ty more =
    subst (λ ty. AllFit ty more) (c.requires.typed ∙ sym (ap (λ (x : Column). x.ty) c.self.view_is)) c.len-more.ensures.fit in
    record {
      blocked =
          kept inside.ty inside.count inside.blocks.items c.self.invariant.blocked more c.push.new.self.items longer
          (inside.count + c.len-more.result) (ap (λ n. inside.count + n) c.len-more.ensures.len);
      fit =
          subst (all_may_stand inside.ty)
          (sym (shown inside.ty inside.count inside.blocks.items c.self.invariant.blocked more c.push.new.self.items longer))
          (more_stand inside.ty (joined inside.blocks.items) more c.self.invariant.fit (block_stands inside.ty more fit));
    }

pub returns-clause-ok : goal.returns-clause-ok
returns-clause-ok c = grind (arith, common_steps, c.requires.filled, c.self.invariant.blocked.counted, c.requires.typed, c.in_ok-push.ensures.items, c.self.invariant.blocked, c.len-more.ensures.len, c.len-more.ensures.few, c.requires.some, in_new, shown)
