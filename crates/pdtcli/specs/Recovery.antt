-- What the program makes of the files of a store: the columns that its header says, and the image that they store.
use Rattle.std.specs.Prelude.{◌≡◌, ◌≢◌, ◌⊎◌, ℕ, List, Ok, Err, IsOkAnd}
use Rattle.values.specs.Shape.{Columns}
use Rattle.values.specs.declared.row.Row.{Row}
use Rattle.frames.specs.declared.fault.ReadFault.TheVariants as read_fault
use Rattle.devices.specs.Stored.{Image, stored_image}
use Rattle.devices.specs.declared.fault.StoreFault.TheVariants as store_fault
use Rattle.inputs.specs.Input.{IsFaultOf, IsTableOf}
use Rattle.inputs.specs.declared.fault.TableFault.{TableFault}
use Rattle.pdtcli.specs.Program.{File, IsTableFault}
use Rattle.pdtcli.specs.declared.program.FileFault.TheVariants as file
use Rattle.pdtcli.specs.declared.refusal.Refusal.{Refusal}
use Rattle.pdtcli.specs.declared.refusal.Refusal.TheVariants.{CannotMake, Store, UnreadableStore, Header, Columns as InColumns, Output}

-- the file says these columns, and some rows
abbrev pub HasHeader : File → Columns → Type 0
HasHeader header schema = IsOkAnd header (λ text. (rows : List Row) × IsTableOf text schema rows)

-- the text of a header says other columns, or has a fault
abbrev pub SaysOthers : Columns → List ℕ → Type 0
SaysOthers schema text =
    ((other : Columns) × HasHeader (Ok text) other × (other ≢ schema)) ⊎ ((fault : TableFault) × IsFaultOf text fault)

-- a store's header, of this text, is not made: it would not say the columns, or memory is refused
abbrev pub IsHeaderLost : Columns → List ℕ → Refusal → Type 0
IsHeaderLost schema text CannotMake = SaysOthers schema text
IsHeaderLost schema text (Store fault) = fault ≡ store_fault.NoMemory
IsHeaderLost schema text refusal = ⊥

-- the file can't be read, or its text has this fault
abbrev pub IsHeaderRefusal : File → Refusal → Type 0
IsHeaderRefusal header UnreadableStore = header ≡ Err file.Unreadable
IsHeaderRefusal header (Header fault) = IsTableFault header fault
IsHeaderRefusal header refusal = ⊥

-- the columns store this image
abbrev pub IsStored : Columns → List (List ℕ) → Image → Type 0
IsStored schema columns image = stored_image schema columns ≡ Ok image

-- the columns have this fault, unless memory was refused; or the image that they store isn't written whole
abbrev pub IsRecoveryRefusal : Columns → List (List ℕ) → Refusal → Type 0
IsRecoveryRefusal schema columns (InColumns fault) = fault ≢ read_fault.NoMemory → stored_image schema columns ≡ Err fault
IsRecoveryRefusal schema columns (Output fault) = (image : Image) × IsStored schema columns image
IsRecoveryRefusal schema columns refusal = ⊥
