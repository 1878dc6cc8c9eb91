-- What is written, record by record and some records at a time.
use Rattle.std.proofs.Common.{◌≡◌, ◌∙◌, ℕ, suc, List, [], ◌∷◌, ◌++◌, map, drop, Some}
use Rattle.std.proofs.Common.{refl, sym, ap, append_assoc, nat_lt}
use Rattle.std.proofs.lemmas.List.{append-nil, map-append}
use Rattle.std.proofs.lemmas.Grind.{flat_map-append}
use Rattle.std.specs.List.{flat_map}
use Rattle.std.specs.List.{slice_get}
use Rattle.values.specs.declared.row.Row.{Row}
use Rattle.values.specs.declared.value.ColumnType.{ColumnType}
use Rattle.model.specs.Merging.{merged_rows}
use Rattle.model.proofs.CallerLemmas.{merged_rows_from_nothing}
use Rattle.stable.specs.Stable.{Stable, IsStable, table_in}
use Rattle.delta.specs.Tree.{Tree}
use Rattle.merge.specs.Image.{AreStacked, image_rows, stack_of}
use Rattle.txn.specs.Version.{empty_tree}
use Rattle.txn.proofs.CallerLemmas.{no_layer}
use Rattle.pdtcli.specs.Output.{header_cells, kind_text, records_text, lines_text}
use Rattle.pdtcli.specs.Records.{record_text}
use Rattle.inputs.specs.Reading.{Fields}
use Rattle.pdtcli.specs.Replies.{line_fields, line_records, shown_fields, shown_rows}
use Rattle.pdtcli.specs.declared.reply.Reply.{Reply}
use Rattle.pdtcli.specs.declared.reply.Reply.TheVariants.{Scanned}
use Rattle.pdtcli.specs.declared.reply.ReplyLine.{ReplyLine}
use Rattle.inputs.proofs.CallerLemmas.{drop-slice_get}

-- ---- texts

pub records_text-append : (rs qs : List Fields) → records_text (rs ++ qs) ≡ records_text rs ++ records_text qs
records_text-append [] qs = refl
records_text-append (r ∷ rs) qs =
    ap (λ (z : List ℕ). record_text r ++ z) (records_text-append rs qs)
    ∙ sym (append_assoc (record_text r) (records_text rs) (records_text qs))

-- one record more
pub records_text-more : (rs : List Fields) (fields : Fields)
    → records_text rs ++ record_text fields ≡ records_text (rs ++ fields ∷ [])
records_text-more rs fields =
    ap (λ (z : List ℕ). records_text rs ++ z) (sym (append-nil (record_text fields))) ∙ sym (records_text-append rs (fields ∷ []))

-- one reply line more
pub lines_text-more : (clients : List (List ℕ)) (lines : List ReplyLine) (line : ReplyLine)
    → lines_text clients lines ++ records_text (line_records clients line) ≡ lines_text clients (lines ++ line ∷ [])
lines_text-more clients lines line =
    let records : ReplyLine → List Fields = line_records clients in
    sym (ap records_text
    (flat_map-append records lines (line ∷ []) ∙ ap (λ rs. flat_map records lines ++ rs) (append-nil (records line)))
    ∙ records_text-append (flat_map records lines) (records line))

-- the rows of a line, and its last record
pub line_text-parts : (clients : List (List ℕ)) (line : ReplyLine)
    → records_text (map (shown_fields clients line) (shown_rows line.reply)) ++ record_text (line_fields clients line)
    ≡ records_text (line_records clients line)
line_text-parts clients line = records_text-more (map (shown_fields clients line) (shown_rows line.reply)) (line_fields clients line)

-- no other reply than a scan's shows a row
pub no_row_shown : (r : Reply) → ((rows : List Row) → r ≡ Scanned rows → ⊥) → shown_rows r ≡ []
no_row_shown (Scanned rows) not = absurd (not rows refl)
no_row_shown r not = refl

-- one row of it more
pub shown_text-more : (clients : List (List ℕ)) (line : ReplyLine) (rows : List Row) (row : Row)
    → records_text (map (shown_fields clients line) rows) ++ record_text (shown_fields clients line row)
    ≡ records_text (map (shown_fields clients line) (rows ++ row ∷ []))
shown_text-more clients line rows row =
    records_text-more (map (shown_fields clients line) rows) (shown_fields clients line row)
    ∙ ap records_text (sym (map-append (shown_fields clients line) rows (row ∷ [])))

-- ---- the header

-- one header cell more
pub header_cells-more :
    (before : Fields) (key_cols at : ℕ) (names : List (List ℕ)) (types : List ColumnType) (name : List ℕ) (type : ColumnType)
    → slice_get names at ≡ Some name → slice_get types at ≡ Some type
    → before ++ header_cells key_cols at (drop at names) (drop at types)
    ≡ (before ++ (name ++ kind_text type (nat_lt at key_cols)) ∷ [])
    ++ header_cells key_cols (suc at) (drop (suc at) names) (drop (suc at) types)
header_cells-more before key_cols at names types name type n t =
    rw (drop-slice_get names at name n, drop-slice_get types at type t)
    (sym (append_assoc before ((name ++ kind_text type (nat_lt at key_cols)) ∷ [])
    (header_cells key_cols (suc at) (drop (suc at) names) (drop (suc at) types))))

-- ---- a stable table alone

module _ (s : Stable) where
  abbrev none : Tree
  none = empty_tree s.schema.key_cols

  pub are_stacked_alone : IsStable s → AreStacked s none none none
  are_stacked_alone h = record {
    lower = no_layer s.schema (table_in s) h.table;
    middle = no_layer s.schema (table_in s) h.table;
    upper = no_layer s.schema (table_in s) h.table;
  }

  pub image_rows-alone : image_rows (stack_of s none none none) ≡ s.rows
  image_rows-alone =
      merged_rows_from_nothing 0 (merged_rows (merged_rows s.rows []) [])
      ∙ merged_rows_from_nothing 0 (merged_rows s.rows [])
      ∙ merged_rows_from_nothing 0 s.rows
