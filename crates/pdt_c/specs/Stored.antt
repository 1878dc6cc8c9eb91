-- The bytes of a checkpoint.
use Rattle.std.specs.Prelude.{ℕ, List, [], map, get_or}
use Rattle.pdt_c.specs.declared.handles.image.Columns.{Columns}

-- the bytes of a column, none where there is no such column
abbrev pub bytes_at : Columns → ℕ → List ℕ
bytes_at c col = get_or (map (λ column. column.items) c.bytes.items) col []
