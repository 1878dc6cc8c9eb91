-- The files of a database's journal, and the one journal that they are.
use Rattle.std.specs.Prelude.{◌≡◌, ◌≢◌, ◌<◌, ◌≤◌, ◌⊎◌, ◌^◌, ℕ, ◌==◌, nat_le, Bool, true, ◌&&◌, if◌then◌else◌, Option, Some, None, Result, Ok, Err, List, [], ◌∷◌, ◌++◌, length}
use Rattle.journal.specs.Header.{HeaderFields, header_in, seed_of}
use Rattle.journal.specs.declared.fault.HeaderFault.{HeaderFault}
use Rattle.manifest.specs.Reading.{◌>>=◌}
use Rattle.manifest.specs.declared.entries.ManifestHead.{ManifestHead}
use Rattle.segments.specs.declared.fault.JoinFault.{JoinFault}
use Rattle.segments.specs.declared.fault.JoinFault.TheVariants.{OtherStore, BadManifest, NoMemory}
use Rattle.segments.specs.declared.pieces.Piece.{Piece as Lent}

-- the frames of a file, and the number of the commit before them, where the file has a header
pub record Piece : Type 0 where
  pub base : Option ℕ
  pub frames : List ℕ

abbrev pub piece_now : Lent → Piece
piece_now p = record { base = p.base; frames = p.frames.now }

-- what a file has whose header says this: one without a header has frames alone; none where the header is another database's
abbrev pub piece_by : ManifestHead → List ℕ → Result (HeaderFields × List ℕ) HeaderFault → Option Piece
piece_by head bytes (Ok found) =
    if (found.0.salt == head.salt) && (found.0.store == head.store) then Some (record { base = Some found.0.base; frames = found.1 })
    else None
piece_by head bytes (Err fault) = Some (record { base = None; frames = bytes })

unfoldable pub piece_of : ManifestHead → List ℕ → Option Piece
piece_of head bytes = piece_by head bytes (header_in bytes)

-- what the files have in turn; none where one is another database's
unfoldable pub pieces_of : ManifestHead → List (List ℕ) → Option (List Piece)
pieces_of head [] = Some []
pieces_of head (file ∷ files) = piece_of head file >>= λ p. pieces_of head files >>= λ ps. Some (p ∷ ps)

-- the frames of all files, behind one another
unfoldable pub frames_of : List Piece → List ℕ
frames_of [] = []
frames_of (p ∷ ps) = p.frames ++ frames_of ps

-- the number of the commit before the first frame; where the first file has no header, a commit that was safe
abbrev pub base_or : ℕ → Option ℕ → ℕ
base_or commit None = commit
base_or commit (Some base) = base

abbrev pub base_of : ℕ → List Piece → ℕ
base_of commit [] = commit
base_of commit (p ∷ ps) = base_or commit p.base

-- how many bytes of frames the last file has that has any; as many as were found before, where none of these has
unfoldable pub last_len : ℕ → List Piece → ℕ
last_len found [] = found
last_len found (p ∷ ps) = last_len (if length p.frames == 0 then found else length p.frames) ps

abbrev pub is_behind : ℕ → Option ℕ → Bool
is_behind newest None = true
is_behind newest (Some base) = nat_le base newest

-- whether no file begins after the newest commit
unfoldable pub are_behind : ℕ → List Piece → Bool
are_behind newest [] = true
are_behind newest (p ∷ ps) = is_behind newest p.base && are_behind newest ps

-- files are those of a database's journal: it has these frames, the first of them behind the base
pub record IsJoined (head : ManifestHead) (files : List (List ℕ)) (pieces : List Piece) (base : ℕ) (frames : List ℕ) : Type 0 where
  pub pieces_are : pieces_of head files ≡ Some pieces
  pub base_is : base ≡ base_of head.commit pieces
  pub frames_are : frames ≡ frames_of pieces
  pub seeded : seed_of head.salt ≢ 0
  pub low : base < 2 ^ 63

-- a salt makes no seed, or the commit before the first frame has a number that none has
abbrev pub IsNoJournal : ManifestHead → List Piece → Type 0
IsNoJournal head pieces = (seed_of head.salt ≡ 0) ⊎ (2 ^ 63 ≤ base_of head.commit pieces)

-- files are no journal of a database, and this is why
abbrev pub AreNoJournal : ManifestHead → List (List ℕ) → JoinFault → Type 0
AreNoJournal head files OtherStore = pieces_of head files ≡ None
AreNoJournal head files BadManifest = (pieces : List Piece) × (pieces_of head files ≡ Some pieces) × IsNoJournal head pieces
AreNoJournal head files NoMemory = Unit {0}
