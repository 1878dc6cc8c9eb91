use Rattle.std.proofs.Common.{◌≡◌, List, ap, ◌∙◌, subst, length, arith}
use Rattle.std.specs.Prelude.{IfOk}
use Rattle.std.proofs.lemmas.List.{length-map}
use Rattle.values.specs.declared.row.Row.{Row}
use Rattle.model.proofs.CallerLemmas.{merged_rows_from_nothing}
use Rattle.stable.specs.Stable.{Stable}
use Rattle.merge.specs.Image.{image_rows}
use Rattle.txn.specs.Version.{lower_rows, lower_table}
use Rattle.manager.specs.Pinned.{Pinned}
use Rattle.manager.specs.Restacked.{stable_of}
use Rattle.manager.proofs.pin.Pin.to_table.Goals.{After-image}
use Rattle.manager.proofs.pin.Pin.to_table.Goals as goal

rows_are : (c : After-image) → image_rows c.image.result ≡ lower_rows c.self.inside.version.layers
rows_are c = ap image_rows c.image.ensures.layers ∙ merged_rows_from_nothing 0 (lower_rows c.self.inside.version.layers)

pub to_table-requires : goal.to_table-requires
to_table-requires c =
    let l = c.self.inside.version.layers in
    let within = c.self.invariant.0 in
    let limited = c.self.invariant.1 in
    let count : length (lower_table l) ≡ length (lower_rows l) = length-map _ _ in
    let same : length (image_rows c.image.result) ≡ length (lower_rows l) =
    ap (λ (rs : List Row). length rs) (rows_are (goal.at.to_table-requires c).After-image) in
    omega (arith, within, limited, count, same)

pub returns : goal.returns
returns c =
    let v = c.self.inside.version in
    let made : ◌≡◌ {A = Stable} (record { schema = c.image.result.schema; rows = image_rows c.image.result }) (stable_of v) =
    λ j. record { schema = c.image.ensures.schema j; rows = rows_are (goal.at.returns c).After-image j } in
    subst (λ (s : Stable). IfOk c.to_table.result (λ table. table ≡ s)) (made ∙ ap (λ (p : Pinned). stable_of p.version) c.self.view_is)
    c.to_table.ensures
