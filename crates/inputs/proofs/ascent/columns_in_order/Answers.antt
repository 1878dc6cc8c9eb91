use Rattle.std.proofs.Common.{◌∙◌, ◌<◌, ◌++◌, ◌∷◌, [], List, length, map, take, get_or, sym, ap, subst}
use Rattle.std.specs.List.{All}
use Rattle.std.proofs.lemmas.List.{take_more, take_all, map-append}
use Rattle.blocks.specs.Column.{Column}
use Rattle.stable.specs.Rows.{gathered}
use Rattle.inputs.proofs.ascent.columns_in_order.Goals as goal

pub gather-requires-clause-within : goal.gather-requires-clause-within
gather-requires-clause-within c =
    let mine = c.column-item.result in
    subst (λ (x : Column). All (λ place. place < length x.values) c.args.places.now) (sym c.column-item.is)
    (c.requires.within c.loop-column.column-index mine c.loop-column-test.true)

pub loop-column-preserved : goal.loop-column-preserved
loop-column-preserved c =
    let columns = c.args.columns.now in
    let places = c.args.places.now in
    let i = c.loop-column.column-index in
    let mine = c.column-item.result in
    let put = gathered places in
    let made = c.in_ok-gather.field-0 in
    c.in_ok-push.ensures.items
    ∙ ap (λ (cs : List Column). cs ++ made ∷ []) c.loop-column.invariant
    ∙ ap (λ (x : Column). map put (take i columns) ++ x ∷ []) (c.in_ok-gather.ensures ∙ ap put c.column-item.is)
    ∙ sym (map-append put (take i columns) (get_or columns i mine ∷ []))
    ∙ ap (map put) (sym (take_more columns i mine c.loop-column-test.true))

pub returns : goal.returns
returns c =
    c.loop-column.invariant
    ∙ ap (map (gathered c.args.places.now)) (take_all c.loop-column.column-index c.args.columns.now c.loop-column-test.false)
