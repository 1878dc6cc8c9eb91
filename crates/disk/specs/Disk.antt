-- Files that grow at their end, the names of one folder, and what a crash may leave of both.
--
-- What is assumed of a file system and its device, by name:
--   synced bytes stay     after a sync (fsync, fdatasync) has returned without an error, what was written before it began is durable. The
--                         device honours flushes
--   no second sync        once a write or a sync of a file has failed, no later sync of that file promises anything: since 2018 Linux
--                         reports such an error once, marks the pages clean, and a later fsync succeeds
--   appending keeps       a sector keeps its durable bytes while bytes are appended behind them
--   old or new            a name is what it was at some moment since the folder was synced: after a rename, the new name has the old
--                         or the new file. Each name goes by itself, so of a rename a crash may leave one half, both, or neither
--                         (POSIX promises no more; "All File Systems Are Not Created Equal", OSDI 2014, shows what systems do)
--   synced names stay     after a sync of the folder has returned without an error, the names that were there when it began are durable,
--                         also where an earlier sync of the folder had failed: a file system that can't write its own log stops
-- Not assumed: that appended bytes become durable in their order, or at all, before a sync; that the end of a file holds what was
-- appended there rather than other bytes; any order among names.
use Rattle.std.specs.Prelude.{◌≡◌, ◌≤◌, ℕ, suc, ◌+◌, ◌-◌, ◌==◌, min, max, if◌then◌else◌, Bool, true, false, Option, Some, None, List, [], ◌∷◌, ◌++◌, length, take, drop}

-- a file: its bytes as they are read, how many of them are durable, and whether each write and each sync of it has succeeded so far
pub record File : Type 0 where
  pub bytes : List ℕ
  pub durable : ℕ
  pub sound : Bool

-- a change of a name: it was given to a file, or removed
pub record Link : Type 0 where
  pub name : ℕ
  pub file : Option ℕ

-- Files by number, how many there are, the changes of names with the newest first, and how many of these a crash may undo.
pub record Disk : Type 0 where
  pub files : ℕ → File
  pub count : ℕ
  pub links : List Link
  pub pending : ℕ

-- the file of a name, where it has one
abbrev pub named : ℕ → List Link → Option ℕ
named name [] = None
named name (l ∷ links) = if l.name == name then l.file else named name links

-- ---- what a crash may leave

-- Of a file: the durable bytes, maybe more of what was appended, and then maybe other bytes, in sectors that were torn. It isn't longer
-- than it was.
pub record Left (f : File) (bytes : List ℕ) : Type 0 where
  -- how many bytes are as they were appended
  pub size : ℕ
  pub other : List ℕ
  pub kept : f.durable ≤ size
  pub within : size ≤ length f.bytes
  pub spelt : bytes ≡ take size f.bytes ++ other
  pub no_longer : length bytes ≤ length f.bytes

-- of a name: the file that it had before some of the changes that aren't durable
pub record MayName (d : Disk) (name : ℕ) (file : Option ℕ) : Type 0 where
  pub undone : ℕ
  pub few : undone ≤ d.pending
  pub was : named name (drop undone d.links) ≡ file

-- all of a disk is durable
pub record IsAtRest (d : Disk) : Type 0 where
  pub files : (i : ℕ) → (d.files i).durable ≡ length (d.files i).bytes
  pub sound : (i : ℕ) → (d.files i).sound ≡ true
  pub names : d.pending ≡ 0

-- of a disk: what may be left of each file and of each name, and all of that is durable
pub record MayLeave (d left : Disk) : Type 0 where
  pub files : (i : ℕ) → Left (d.files i) (left.files i).bytes
  pub names : (name : ℕ) → MayName d name (named name left.links)
  pub count : left.count ≡ d.count
  pub rest : IsAtRest left

-- ---- what changes a disk

-- One call of the system. A sync is of what was there when it began: so many bytes of a file, so many changes of names.
pub data Step : Type 0 where
  Append : (file : ℕ) (bytes : List ℕ) → Step
  Sync : (file upto : ℕ) → Step
  Create : (name : ℕ) → Step
  Rename : (old new : ℕ) → Step
  Unlink : (name : ℕ) → Step
  SyncNames : (upto : ℕ) → Step

abbrev pub with_file : ℕ → File → Disk → Disk
with_file i f d = record d { files = λ j. if j == i then f else d.files j }

abbrev pub with_bytes : List ℕ → File → File
with_bytes bytes f = record f { bytes = bytes }

abbrev pub linked : ℕ → Option ℕ → Disk → Disk
linked name file d = record d { links = record { name = name; file = file } ∷ d.links; pending = suc d.pending }

-- A call has begun: from now on what it writes may be there. A name that is created has a new file.
abbrev pub begun : Step → Disk → Disk
begun (Append i bytes) d = with_file i (with_bytes ((d.files i).bytes ++ bytes) (d.files i)) d
begun (Sync i upto) d = d
begun (Create name) d = record (linked name (Some d.count) d) { count = suc d.count }
begun (Rename old new) d = linked old None (linked new (named old d.links) d)
begun (Unlink name) d = linked name None d
begun (SyncNames upto) d = d

-- a sync makes bytes of a sound file durable; of another file it says nothing
abbrev pub synced : ℕ → File → File
synced upto f = if f.sound then record f { durable = max f.durable (min upto (length f.bytes)) } else f

-- a call has returned without an error: what it makes durable is durable
abbrev pub done : Step → Disk → Disk
done (Append i bytes) d = d
done (Sync i upto) d = with_file i (synced upto (d.files i)) d
done (Create name) d = d
done (Rename old new) d = d
done (Unlink name) d = d
done (SyncNames upto) d = record d { pending = min d.pending (length d.links - upto) }

-- A call has returned an error. Of a write that was the last of its file, so many bytes were taken, and no sync makes the file's bytes
-- durable any more. A change of a name is there or not, as before.
abbrev pub failed : Step → ℕ → Disk → Disk
failed (Append i bytes) taken d =
    with_file i (record {
      bytes = take (((length (d.files i).bytes) - length bytes) + taken) (d.files i).bytes;
      durable = min (d.files i).durable (((length (d.files i).bytes) - length bytes) + taken);
      sound = false;
    }) d
failed (Sync i upto) taken d = with_file i (record (d.files i) { sound = false }) d
failed (Create name) taken d = d
failed (Rename old new) taken d = d
failed (Unlink name) taken d = d
failed (SyncNames upto) taken d = d

-- ---- between two crashes

-- two disks read the same
pub record ReadsAlike (d e : Disk) : Type 0 where
  pub files : (i : ℕ) → (e.files i).bytes ≡ (d.files i).bytes
  pub names : (name : ℕ) → named name e.links ≡ named name d.links

-- the disk that reads the same, all of it durable
abbrev pub settled : Disk → Disk
settled d =
    record d {
      files = λ i. record { bytes = (d.files i).bytes; durable = length (d.files i).bytes; sound = true };
      pending = 0;
    }

-- no more bytes are durable than there are
abbrev pub IsDisk : Disk → Type 0
IsDisk d = (i : ℕ) → (d.files i).durable ≤ length (d.files i).bytes
