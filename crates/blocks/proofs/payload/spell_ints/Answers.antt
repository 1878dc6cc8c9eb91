use Rattle.std.proofs.Common.{◌≡◌, ◌<◌, pos, ◌*◌, ◌++◌, [], ◌+◌, ◌-◌, length, get_or, map, take, drop, sym, ap, ◌∙◌, arith, rules, FitsSigned}
use Rattle.std.specs.List.{flat_map}
use Rattle.std.specs.Int.{w64, to_be_bytes, cast_unsigned}
use Rattle.std.proofs.lemmas.List.{length-append, length-take, length-drop, map_more, flat_map_more}
use Rattle.std.proofs.lemmas.Int.{to_z-of_z}
use Rattle.std.proofs.lemmas.Slice.{take-put_mid}
use Rattle.values.specs.declared.value.Value.TheVariants.{Int}
use Rattle.blocks.specs.Payload.{spelling}
use Rattle.blocks.proofs.payload.spell_ints.Goals as goal

pub loop-i-preserved : goal.loop-i-preserved
loop-i-preserved c =
    let i = c.loop-i.i in
    let ints = c.args.ints.now in
    let room = c.loop-i.room in
    let word = c.copy_from_slice.new.self in
    let kept = c.loop-i.invariant in
    let fits : FitsSigned w64 (get_or ints i (pos 0)) = search rules in
    let spelt : word ≡ spelling (Int (get_or ints i (pos 0))) =
    c.copy_from_slice.ensures.after
    ∙ c.to_be_bytes.ensures
    ∙ ap (λ x. to_be_bytes w64 (cast_unsigned w64 x)) (to_z-of_z w64 (get_or ints i (pos 0)) fits) in
    let within : i < length ints = omega arith in
    let eight : length word ≡ 8 = ap length spelt in
    let front = take (8 * i) room in
    let more :
    flat_map spelling (map Int (take (i + 1) ints))
    ≡ flat_map spelling (map Int (take i ints)) ++ spelling (Int (get_or ints i (pos 0))) =
    ap (flat_map spelling) (map_more Int ints i (pos 0) within)
    ∙ sym (flat_map_more spelling [] (map Int (take i ints)) (Int (get_or ints i (pos 0)))) in
    record {
      room =
          omega (
            arith,
            kept.room,
            within,
            eight,
            length-append front (word ++ drop (8 * i + 8 - 8 * i) (drop (8 * i) room)),
            length-append word (drop (8 * i + 8 - 8 * i) (drop (8 * i) room)),
            length-take (8 * i) room,
            length-drop (8 * i + 8 - 8 * i) (drop (8 * i) room),
            length-drop (8 * i) room,
          );
      spelt =
          take-put_mid (8 * i) (8 * i + 8 - 8 * i) room word (8 * (i + 1)) (omega (arith, eight))
          (omega (arith, kept.room, within))
          ∙ ap (λ xs. xs ++ word) kept.spelt
          ∙ ap (λ xs. flat_map spelling (map Int (take i ints)) ++ xs) spelt
          ∙ sym more;
    }
