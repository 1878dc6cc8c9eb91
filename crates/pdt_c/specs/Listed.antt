-- A manifest as it is kept for C, and the parts of it that C takes.
use Rattle.std.specs.Prelude.{◌∷◌, ℕ, List, map}
use Rattle.manifest.specs.Manifest.{Fields, Table}
use Rattle.manifest.specs.declared.entries.FileMark.{FileMark}
use Rattle.manifest.specs.declared.entries.ManifestHead.{ManifestHead}
use Rattle.pdt_c.specs.declared.calls.manifests.HeadRecord.{HeadRecord}
use Rattle.pdt_c.specs.declared.calls.manifests.MarkRecord.{MarkRecord}
use Rattle.pdt_c.specs.declared.handles.listed.LineRecord.{LineRecord}
use Rattle.pdt_c.specs.declared.handles.listed.ListedTable.{ListedTable}

-- a table that is kept, as the manifest says it
abbrev pub listed_now : ListedTable → Table
listed_now t = record {
  line = record {
    number = t.line.number;
    commit = t.line.commit;
    folder = t.line.folder;
    recent = t.line.recent;
    limit = t.line.limit;
    by_row = t.line.by_row;
    width = t.line.width;
    name = t.name.items;
  };
  header = t.header;
  columns = t.columns.items;
}

abbrev pub head_record : ManifestHead → HeadRecord
head_record h = record {
  store = h.store;
  salt = h.salt;
  commit = h.commit;
  first_file = h.first_file;
  next_folder = h.next_folder;
  next_table = h.next_table;
}

-- what the line of a table says beside its name
abbrev pub line_record : Table → LineRecord
line_record t = record {
  commit = t.line.commit;
  folder = t.line.folder;
  recent = t.line.recent;
  limit = t.line.limit;
  width = t.line.width;
  number = t.line.number;
  by_row = t.line.by_row;
}

abbrev pub mark_record : FileMark → MarkRecord
mark_record mark = record { size = mark.size; check = mark.check }

-- the marks of the files of a table's image: the header's, and then the columns'
abbrev pub marks_of : Table → List FileMark
marks_of t = t.header ∷ t.columns

-- ---- what C gives

abbrev pub head_of : HeadRecord → ManifestHead
head_of h = record {
  store = h.store;
  salt = h.salt;
  commit = h.commit;
  first_file = h.first_file;
  next_table = h.next_table;
  next_folder = h.next_folder;
}

abbrev pub mark_of : MarkRecord → FileMark
mark_of mark = record { size = mark.size; check = mark.check }

-- a table of a line, a name, and the marks of its header and its columns
abbrev pub table_of : LineRecord → List ℕ → MarkRecord → List MarkRecord → Table
table_of line name header columns = record {
  line = record {
    number = line.number;
    commit = line.commit;
    folder = line.folder;
    recent = line.recent;
    limit = line.limit;
    by_row = line.by_row;
    width = line.width;
    name = name;
  };
  header = mark_of header;
  columns = map mark_of columns;
}
