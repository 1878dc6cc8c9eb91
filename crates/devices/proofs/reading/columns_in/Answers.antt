use Rattle.std.proofs.Common.{◌≡◌, ℕ, ◌++◌, ◌∷◌, [], List, Vec, Global, length, get_or, sym, ap, subst, ◌∙◌, arith}
use Rattle.values.specs.declared.value.ColumnType.TheVariants as column
use Rattle.frames.specs.declared.frame.Part.{Part}
use Rattle.blocks.specs.Column.{Column}
use Rattle.devices.specs.Turns.{AreInTurn}
use Rattle.devices.proofs.ImageLemmas.{column_of, so_far_few, length-made, next_in_turn, made_on, columns_taken}
use Rattle.devices.proofs.reading.columns_in.Goals as goal
use Rattle.std.proofs.lemmas.Grind.{common_steps}

abbrev blocks_in : Vec Part Global → List Part
blocks_in p = p.items

abbrev left : Vec Part Global → List (Vec Part Global) → List (Vec Part Global)
left p ps = p ∷ ps

pub bounds-types-len : goal.bounds-types-len
bounds-types-len c = grind (arith, common_steps, c.in-Some.ensures.steps.0, c.loop-parts.invariant.taken, c.requires.even, c.loop-parts.invariant.made, c.len.ensures, so_far_few, length-made)

pub column_in-requires : goal.column_in-requires
column_in-requires c =
    let front = c.loop-parts.yielded in
    let split : front ++ c.in-Some.parts ∷ c.next.new.self.rest.items ≡ c.args.columns.items =
    ap (λ (ps : List (Vec Part Global)). front ++ ps) (sym c.in-Some.ensures.steps.0) ∙ c.loop-parts.invariant.taken in
    let counted : length c.loop-parts.made.items ≡ c.len.result = omega (arith, c.len.ensures, c.loop-parts.made.ok.0) in
    subst (λ (n : ℕ). AreInTurn (get_or c.args.types.now n column.Int) c.in-Some.parts.items) counted
    (next_in_turn blocks_in c.args.generation c.args.types.now c.args.columns.items front c.next.new.self.rest.items
    c.in-Some.parts c.requires.even split c.loop-parts.made.items c.loop-parts.invariant.made c.requires.turn)

pub loop-parts-preserved : goal.loop-parts-preserved
loop-parts-preserved c =
    let front = c.loop-parts.yielded in
    let rest = c.next.new.self.rest.items in
    let parts = c.in-Some.parts in
    let types = c.args.types.now in
    let split : front ++ parts ∷ rest ≡ c.args.columns.items =
    ap (λ (ps : List (Vec Part Global)). front ++ ps) (sym c.in-Some.ensures.steps.0) ∙ c.loop-parts.invariant.taken in
    let counted : c.len.result ≡ length c.loop-parts.made.items = omega (arith, c.len.ensures, c.loop-parts.made.ok.0) in
    let one :
    c.in_ok-column_in.field-0
    ≡ column_of c.args.generation (get_or types (length c.loop-parts.made.items) column.Int) parts.items =
    c.in_ok-column_in.ensures ∙ ap (λ (n : ℕ). column_of c.args.generation (get_or types n column.Int) parts.items) counted in
    record {
      taken = columns_taken blocks_in c.args.generation types c.args.columns.items front rest parts c.requires.even split;
      made = c.in_ok-push.ensures.items ∙ ap (λ (column : Column). c.loop-parts.made.items ++ column ∷ []) one
          ∙ made_on blocks_in c.args.generation types c.args.columns.items front rest parts c.requires.even split
          c.loop-parts.made.items c.loop-parts.invariant.made;
    }
