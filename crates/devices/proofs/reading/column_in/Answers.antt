use Rattle.std.proofs.Common.{◌≡◌, ◌++◌, ◌∷◌, [], List, length, sym, ap, ◌∙◌, arith}
use Rattle.values.specs.declared.value.Value.{Value}
use Rattle.frames.specs.declared.frame.Part.{Part}
use Rattle.blocks.specs.Column.{Column}
use Rattle.devices.specs.Stored.{values_in}
use Rattle.devices.proofs.TurnsLemmas.{stacked, values_more, values_other, values_none, taken_on, all_taken}
use Rattle.devices.proofs.reading.column_in.Goals.{else-part-generation-via-then-part-generation+else-len-gt0, else-part-generation-via-else-part-generation}
use Rattle.devices.proofs.reading.column_in.Goals as goal

pub push_block-requires-clause-filled : goal.push_block-requires-clause-filled
push_block-requires-clause-filled c =
    let rest = c.next.new.self.rest.items in
    let split : c.loop-part.yielded ++ c.in-Some.part ∷ rest ≡ c.args.parts.items =
    ap (λ (ps : List Part). c.loop-part.yielded ++ ps) (sym c.in-Some.ensures.steps.0) ∙ c.loop-part.invariant.taken in
    let block =
    stacked c.args.ty c.args.generation c.args.parts.items c.loop-part.yielded rest c.in-Some.part c.requires split
    c.if-part-generation.true in
    omega (arith, block.full, ap (λ (x : Column). length x.values) c.loop-part.invariant.column)

pub push_block-requires-clause-room : goal.push_block-requires-clause-room
push_block-requires-clause-room c =
    let rest = c.next.new.self.rest.items in
    let split : c.loop-part.yielded ++ c.in-Some.part ∷ rest ≡ c.args.parts.items =
    ap (λ (ps : List Part). c.loop-part.yielded ++ ps) (sym c.in-Some.ensures.steps.0) ∙ c.loop-part.invariant.taken in
    let block =
    stacked c.args.ty c.args.generation c.args.parts.items c.loop-part.yielded rest c.in-Some.part c.requires split
    c.if-part-generation.true in
    omega (arith, block.full, block.is.numbered, ap (λ (x : Column). length x.values) c.loop-part.invariant.column)

pub push_block-requires-clause-typed : goal.push_block-requires-clause-typed
push_block-requires-clause-typed c =
    let rest = c.next.new.self.rest.items in
    let split : c.loop-part.yielded ++ c.in-Some.part ∷ rest ≡ c.args.parts.items =
    ap (λ (ps : List Part). c.loop-part.yielded ++ ps) (sym c.in-Some.ensures.steps.0) ∙ c.loop-part.invariant.taken in
    let block =
    stacked c.args.ty c.args.generation c.args.parts.items c.loop-part.yielded rest c.in-Some.part c.requires split
    c.if-part-generation.true in
    ap (λ (b : Column). b.ty) c.in_ok-read.ensures ∙ block.is.typed ∙ sym (ap (λ (x : Column). x.ty) c.loop-part.invariant.column)

pub loop-part-preserved-then-len-gt0 : goal.loop-part-preserved-then-len-gt0
loop-part-preserved-then-len-gt0 c =
    let rest = c.next.new.self.rest.items in
    let part = c.in-Some.part in
    let front = c.loop-part.yielded in
    let split : front ++ part ∷ rest ≡ c.args.parts.items =
    ap (λ (ps : List Part). front ++ ps) (sym c.in-Some.ensures.steps.0) ∙ c.loop-part.invariant.taken in
    record {
      taken = taken_on c.args.parts.items front rest part split;
      column = c.in_ok-push_block.ensures.ok
          ∙ ap (λ (b : Column). record { ty = c.loop-part.column.ty; values = c.loop-part.column.values ++ b.values }) c.in_ok-read.ensures
          ∙ ap (λ (x : Column). record { ty = x.ty; values = x.values ++ part.block.values }) c.loop-part.invariant.column
          ∙ ap (λ (vs : List Value). record { ty = c.args.ty; values = vs })
          (sym (values_more c.args.generation front part c.if-part-generation.true));
    }

pub loop-part-preserved : goal.loop-part-preserved
loop-part-preserved c =
    let rest = c.next.new.self.rest.items in
    let part = c.in-Some.part in
    let front = c.loop-part.yielded in
    let split : front ++ part ∷ rest ≡ c.args.parts.items =
    ap (λ (ps : List Part). front ++ ps) (sym c.in-Some.ensures.steps.0) ∙ c.loop-part.invariant.taken in
    let same : values_in c.args.generation (front ++ part ∷ []) ≡ values_in c.args.generation front = elim c.else-part-generation.branch [
      | else-part-generation-via-then-part-generation+else-len-gt0 w ↦ values_none c.args.generation front part
          (omega (arith, w.len.ensures.len, w.if-len-gt0.false))
      | else-part-generation-via-else-part-generation w ↦ values_other c.args.generation front part
          (λ e. absurd (w.if-part-generation.false e))
    ] in
    record {
      taken = taken_on c.args.parts.items front rest part split;
      column = c.loop-part.invariant.column ∙ ap (λ (vs : List Value). record { ty = c.args.ty; values = vs }) (sym same);
    }

pub returns : goal.returns
returns c =
    let none : length c.loop-part.part-iterator.rest.items ≡ 0 =
    omega (arith, c.loop-part.part-iterator.rest.ok.0, c.in-None.ensures.steps.0) in
    c.loop-part.invariant.column
    ∙ ap (λ (ps : List Part). record { ty = c.args.ty; values = values_in c.args.generation ps })
    (all_taken c.loop-part.yielded c.loop-part.part-iterator.rest.items c.args.parts.items none c.loop-part.invariant.taken)
