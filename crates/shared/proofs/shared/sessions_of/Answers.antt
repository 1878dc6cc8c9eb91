use Rattle.std.proofs.Common.{◌++◌, ◌∷◌, [], sym, ◌∙◌, arith}
use Rattle.std.proofs.lemmas.List.FromFn.{map-range_with_len_more}
use Rattle.shared.specs.Sessions.{new_seat}
use Rattle.shared.proofs.shared.sessions_of.Goals as goal

pub push_reserved-requires : goal.push_reserved-requires
push_reserved-requires g c =
    let inv = c.loop-client.invariant in
    omega (arith, inv.len, inv.room, c.loop-client-test.true)

pub loop-client-preserved : goal.loop-client-preserved
loop-client-preserved g c =
    let inv = c.loop-client.invariant in
    let split = c.split_off-share.ensures in
    let n = c.loop-client.client in
    record {
      parts = omega (arith, inv.parts, split.parts_left);
      amount = omega (arith, inv.amount, split.amount_left);
      sessions =
          c.push_reserved.ensures.items
          ∙ (λ i. inv.sessions i ++ c.new-session.ensures i ∷ [])
          ∙ sym (map-range_with_len_more new_seat 0 n n (omega arith));
      len = omega (arith, inv.len, c.push_reserved.ensures.len);
      room = omega (arith, inv.room, c.push_reserved.ensures.capacity);
      view = c.reader_of.ensures.writer.1 ∙ inv.view;
      shown = c.reader_of.ensures.writer.0 ∙ inv.shown;
    }
