use Rattle.std.proofs.Common.{◌≡◌, ◌<◌, [], ◌∷◌, ◌++◌, ◌+◌, length, get_or, map, take, append_assoc, sym, ap, ◌∙◌, arith}
use Rattle.std.specs.List.{flat_map}
use Rattle.std.proofs.lemmas.List.{map_more, flat_map_more}
use Rattle.std.proofs.lemmas.Option.{get_or_from_slice_get}
use Rattle.values.specs.declared.value.Value.TheVariants.{Text}
use Rattle.blocks.specs.Payload.{spelling}
use Rattle.blocks.proofs.payload.append_texts.Goals as goal

pub loop-i-preserved : goal.loop-i-preserved
loop-i-preserved c =
    let i = c.loop-i.i in
    let texts = c.args.texts.now in
    let old = c.args.out.now.items in
    let t = c.get-text.result.now in
    let read : get_or texts i [] ≡ t = get_or_from_slice_get texts i t [] c.get-text.ensures.text in
    let within : i < length texts = omega (arith, c.requires.there, c.loop-i-test.true) in
    let front = flat_map spelling (map Text (take i texts)) in
    let more : flat_map spelling (map Text (take (i + 1) texts)) ≡ front ++ spelling (Text t) =
    ap (flat_map spelling) (map_more Text texts i [] within ∙ ap (λ s. map Text (take i texts) ++ Text s ∷ []) read)
    ∙ sym (flat_map_more spelling [] (map Text (take i texts)) (Text t)) in
    let word = c.to_be_bytes.result in
    let put : c.extend_from_slice-in-loop-i.new.self.items ≡ ((old ++ front) ++ word) ++ t =
    c.in_ok-extend_from_slice-2.ensures.items ∙ ap (λ xs. c.extend_from_slice.new.self.items ++ xs) c.as_bytes.ensures.value
    ∙ ap (λ xs. xs ++ t) (c.in_ok-extend_from_slice.ensures.items ∙ ap (λ xs. xs ++ word) c.loop-i.invariant) in
    put
    ∙ append_assoc (old ++ front) word t
    ∙ append_assoc old front (word ++ t)
    ∙ ap (λ w. old ++ (front ++ (w ++ t))) c.to_be_bytes.ensures
    ∙ ap (λ xs. old ++ xs) (sym more)
