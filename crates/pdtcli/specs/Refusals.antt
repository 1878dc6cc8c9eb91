-- The lines that the program writes of a refusal.
use Rattle.std.specs.Prelude.{ℕ, List, Bool, true, false, ◌++◌, Option, Some, None, codes}
use Rattle.std.specs.Fmt.{decimal}
use Rattle.pdtcli.specs.declared.output.ShowFault.{ShowFault}
use Rattle.pdtcli.specs.declared.output.ShowFault.TheVariants as show_fault
use Rattle.pdtcli.specs.declared.refusal.Refusal.{Refusal}
use Rattle.pdtcli.specs.declared.refusal.Refusal.TheVariants as refusal

abbrev pub show_fault_text : ShowFault → List ℕ
show_fault_text show_fault.Write = codes "Write"
show_fault_text show_fault.NoMemory = codes "NoMemory"

-- the part that was refused
abbrev pub part_text : Refusal → List ℕ
part_text refusal.UnreadableTable = codes "table"
part_text (refusal.Table fault) = codes "table"
part_text refusal.UnreadableScript = codes "script"
part_text (refusal.Script fault) = codes "script"
part_text (refusal.Open fault) = codes "open"
part_text refusal.CannotMake = codes "store"
part_text (refusal.Store fault) = codes "store"
part_text refusal.UnreadableStore = codes "store"
part_text (refusal.Header fault) = codes "store"
part_text (refusal.Columns fault) = codes "store"
part_text refusal.NoCommits = codes "store"
part_text refusal.NoImages = codes "store"
part_text (refusal.ImagesHeader fault) = codes "store"
part_text (refusal.JournalHeader fault) = codes "store"
part_text refusal.OtherStore = codes "store"
part_text (refusal.Images fault) = codes "store"
part_text (refusal.Commits fault) = codes "store"
part_text refusal.NoDatabase = codes "store"
part_text refusal.DamagedManifest = codes "store"
part_text refusal.NoTable = codes "store"
part_text refusal.NotNamed = codes "store"
part_text (refusal.MissingJournal file) = codes "store"
part_text refusal.BadManifest = codes "store"
part_text refusal.DamagedHeader = codes "store"
part_text (refusal.DamagedColumn col) = codes "store"
part_text refusal.JournalFailed = codes "store"
part_text (refusal.Run fault) = codes "run"
part_text (refusal.Threads fault) = codes "run"
part_text (refusal.Output fault) = codes "output"

-- the fault's text, where it is known: a text that is derived from the fault's type is not
abbrev pub fault_text : Refusal → Option (List ℕ)
fault_text refusal.UnreadableTable = Some (codes "Unreadable")
fault_text (refusal.Table fault) = None
fault_text refusal.UnreadableScript = Some (codes "Unreadable")
fault_text (refusal.Script fault) = None
fault_text (refusal.Open fault) = None
fault_text refusal.CannotMake = Some (codes "CannotMake")
fault_text (refusal.Store fault) = None
fault_text refusal.UnreadableStore = Some (codes "Unreadable")
fault_text (refusal.Header fault) = None
fault_text (refusal.Columns fault) = None
fault_text refusal.NoCommits = Some (codes "NoCommits")
fault_text refusal.NoImages = Some (codes "NoImages")
fault_text (refusal.ImagesHeader fault) = None
fault_text (refusal.JournalHeader fault) = None
fault_text refusal.OtherStore = Some (codes "OtherStore")
fault_text (refusal.Images fault) = None
fault_text (refusal.Commits fault) = None
fault_text refusal.NoDatabase = Some (codes "NoDatabase")
fault_text refusal.DamagedManifest = Some (codes "DamagedManifest")
fault_text refusal.NoTable = Some (codes "NoTable")
fault_text refusal.NotNamed = Some (codes "NotNamed")
fault_text (refusal.MissingJournal file) = Some (codes "MissingJournal " ++ decimal file)
fault_text refusal.BadManifest = Some (codes "BadManifest")
fault_text refusal.DamagedHeader = Some (codes "DamagedHeader")
fault_text (refusal.DamagedColumn col) = Some (codes "DamagedColumn " ++ decimal col)
fault_text refusal.JournalFailed = Some (codes "JournalFailed")
fault_text (refusal.Run fault) = Some (codes "NoMemory")
fault_text (refusal.Threads fault) = None
fault_text (refusal.Output fault) = Some (show_fault_text fault)

abbrev pub fault_line : List ℕ → Option (List ℕ) → Option (List ℕ)
fault_line part None = None
fault_line part (Some fault) = Some (codes "pdt: " ++ (part ++ (codes ": " ++ fault)))

-- `pdt: `, the part, `: ` and the fault
abbrev pub refusal_text : Refusal → Option (List ℕ)
refusal_text refusal = fault_line (part_text refusal) (fault_text refusal)

-- whether the output was refused, before which some of it may have gone out
abbrev pub is_output : Refusal → Bool
is_output (refusal.Output fault) = true
is_output other = false
