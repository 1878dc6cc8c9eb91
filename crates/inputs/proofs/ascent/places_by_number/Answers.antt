use Rattle.inputs.proofs.NumberLemmas.{apart-places, places-moved, places-sorted}
use Rattle.inputs.proofs.ascent.places_by_number.Goals as goal

pub returns-clause-each_once : goal.returns-clause-each_once
returns-clause-each_once c =
    let moved = rw c.in_ok-keyed.ensures at c.in_ok-apart.ensures.each_once in
    rw (c.in_ok-places.ensures, c.as_slice.ensures.value) (places-moved c.args.column.now c.args.count _ moved)

pub returns-clause-sorted : goal.returns-clause-sorted
returns-clause-sorted c =
    let moved = rw c.in_ok-keyed.ensures at c.in_ok-apart.ensures.each_once in
    rw (c.in_ok-places.ensures, c.as_slice.ensures.value)
    (places-sorted c.args.column.now c.args.count c.requires.int c.requires.filled c.len-known.ensures.fit _ moved
    c.in_ok-apart.ensures.sorted)

pub returns-clause-apart : goal.returns-clause-apart
returns-clause-apart c is =
    let moved = rw c.in_ok-keyed.ensures at c.in_ok-apart.ensures.each_once in
    rw (c.in_ok-places.ensures, c.as_slice.ensures.value)
    (apart-places c.args.column.now c.args.count c.requires.int c.requires.filled c.len-known.ensures.fit _ moved
    (c.in_ok-apart.ensures.apart is))
