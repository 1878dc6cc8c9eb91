use Rattle.std.proofs.Common.{◌≡◌, ℕ, ◌+◌, ◌<◌, Some, List, [], ◌∷◌, ◌++◌, length, map, drop, get_or, sym, ap, subst, ◌∙◌, Vec, Global, arith}
use Rattle.std.specs.Borrow.{Bor}
use Rattle.std.proofs.Math.ListN.{get_or-map}
use Rattle.std.proofs.lemmas.List.{length-map, length_push, map_push}
use Rattle.std.proofs.lemmas.Result.{err_from_is_err_and}
use Rattle.values.specs.declared.value.ColumnType.TheVariants as column
use Rattle.frames.specs.declared.frame.Part.{Part}
use Rattle.frames.specs.Reading.{frames_of, parts_after, Fails}
use Rattle.devices.specs.Stored.{all_parts}
use Rattle.devices.specs.Turns.{AreInTurn, AreAllInTurn}
use Rattle.devices.proofs.ImageLemmas.{all_in_turn_push}
use Rattle.devices.proofs.PartsLemmas.{columns_after, columns_on, columns_fault}
use Rattle.devices.proofs.reading.read_parts.Goals as goal

abbrev blocks_in : Vec Part Global → List Part
blocks_in p = p.items

abbrev bytes_in : Bor (List ℕ) → List ℕ
bytes_in c = c.now

abbrev no_bytes : Bor (List ℕ)
no_bytes = record { ref_ptr = (0, 0); now = [] }

pub returns-in_err-read_in_turn-clause-parts : goal.returns-in_err-read_in_turn-clause-parts
returns-in_err-read_in_turn-clause-parts c =
    let e = err_from_is_err_and c.from_residual.result c.from_residual.ensures.1 in
    let types = c.args.types.now in
    let columns = map bytes_in c.args.columns.now in
    let col = c.loop-col.col in
    let fault = c.in_err-read_in_turn.field-0.0 in
    let few : col < length types = omega (arith, c.requires) in
    let even : length columns ≡ length types = omega (arith, c.requires, length-map c.args.columns.now bytes_in) in
    let bytes : get_or columns col [] ≡ (get_or c.args.columns.now col no_bytes).now =
    get_or-map bytes_in c.args.columns.now col no_bytes in
    rw (e.1, e.2) (columns_fault types columns col column.Int [] (map blocks_in c.loop-col.parts.items)
    (all_parts 0 types columns) few even c.loop-col.invariant.read fault
    (subst (λ (bs : List ℕ). Fails fault (parts_after [] (frames_of col (Some (get_or types col column.Int)) bs)))
    (sym bytes) c.in_err-read_in_turn.ensures.parts))

pub loop-col-preserved : goal.loop-col-preserved
loop-col-preserved c =
    let types = c.args.types.now in
    let columns = map bytes_in c.args.columns.now in
    let col = c.loop-col.col in
    let parts = c.in_ok-read_in_turn.field-0 in
    let few : col < length types = omega (arith, c.requires) in
    let even : length columns ≡ length types = omega (arith, c.requires, length-map c.args.columns.now bytes_in) in
    let bytes : get_or columns col [] ≡ (get_or c.args.columns.now col no_bytes).now =
    get_or-map bytes_in c.args.columns.now col no_bytes in
    let pushed : map blocks_in c.push.new.self.items ≡ map blocks_in c.loop-col.parts.items ++ parts.items ∷ [] =
    ap (map blocks_in) c.in_ok-push.ensures.items ∙ map_push blocks_in c.loop-col.parts.items parts in
    let read = c.in_ok-read_in_turn.ensures.turn in
    let next : AreInTurn (get_or types (length (map blocks_in c.loop-col.parts.items)) column.Int) parts.items =
    subst (λ (n : ℕ). AreInTurn (get_or types n column.Int) parts.items)
    (sym (length-map c.loop-col.parts.items blocks_in ∙ c.loop-col.invariant.count)) read in
    record {
      read = ap (λ (front : List (List Part)). columns_after front
          (all_parts (col + 1) (drop (col + 1) types) (drop (col + 1) columns))) pushed
          ∙ columns_on types columns col column.Int [] (map blocks_in c.loop-col.parts.items)
          (all_parts 0 types columns) few even c.loop-col.invariant.read parts.items
          (ap (λ (bs : List ℕ). parts_after [] (frames_of col (Some (get_or types col column.Int)) bs)) bytes
          ∙ c.in_ok-read_in_turn.ensures.parts);
      turn = subst (AreAllInTurn types) (sym pushed) (all_in_turn_push types
          (map blocks_in c.loop-col.parts.items) parts.items c.loop-col.invariant.turn next);
      count = ap (λ (ps : List (Vec Part Global)). length ps) c.in_ok-push.ensures.items ∙ length_push c.loop-col.parts.items parts ∙
          ap (λ n. n + 1) c.loop-col.invariant.count;
    }
