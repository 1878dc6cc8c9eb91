-- The steps of a journal, as C takes them.
use Rattle.std.specs.Prelude.{◌≡◌, ℕ, zero, suc, ◌==◌, if◌then◌else◌, Option, Some, None, is_some, List, [], ◌∷◌, ◌++◌, length}
use denote.RawPtr.{InBlock}
use Rattle.values.specs.Shape.{Columns}
use Rattle.delta.specs.Tree.{Tree}
use Rattle.journal_steps.specs.Batch.{BatchFields, SealedFields, batch_bytes, header_part, sealed_bytes}
use Rattle.journal_steps.specs.Progress.{Progress, due, lane_toward, newest}
use Rattle.journal_steps.specs.declared.step.Goal.TheVariants as target
use Rattle.journal_steps.specs.declared.step.Lane.{Lane}
use Rattle.journal_steps.specs.declared.step.Lane.TheVariants as lane
use Rattle.journal_steps.specs.declared.step.Step.{Step}
use Rattle.journal_steps.specs.declared.step.Step.TheVariants as step
use Rattle.pdt_c.specs.Journals.{IsPartOf}
use Rattle.pdt_c.specs.declared.calls.steps.FramePiece.{FramePiece}
use Rattle.pdt_c.specs.declared.calls.steps.JournalNumbers.{JournalNumbers}
use Rattle.pdt_c.specs.declared.calls.steps.TheConstants.{APPEND, CREATE, NOTHING, SYNC, SYNC_NAMES, TO_BE_DURABLE, TO_BE_WRITTEN}

-- a journal, and the parts of a commit that isn't added yet
pub record Journaling : Type 0 where
  pub progress : Progress
  pub parts : List ℕ

-- a batch whose append is under way, before its heads are filled and after
pub record AppendingFields : Type 0 where
  pub taken : Option BatchFields
  pub sealed : Option SealedFields

-- the part of a commit's tree, of so many bytes, is behind those of the commit so far
abbrev pub IsStaged : Columns → ℕ → Option Tree → Journaling → Journaling → ℕ → Type 0
IsStaged schema table tree old new len =
    (part : List ℕ) × IsPartOf schema table tree part × (new ≡ record old { parts = old.parts ++ part }) × (len ≡ length part)

-- a journal whose steps have come further
abbrev pub moved : (Progress → Progress) → Option Journaling → Option Journaling
moved step None = None
moved step (Some j) = Some (record j { progress = step j.progress })

-- a journal with no part of a commit that isn't added
abbrev pub without_parts : Option Journaling → Option Journaling
without_parts None = None
without_parts (Some j) = Some (record j { parts = [] })

-- ---- what is due

-- the lane in which a step is asked for
abbrev pub lane_for : ℕ → Progress → Lane
lane_for goal p =
    if goal == TO_BE_WRITTEN then lane_toward target.Written p
    else if goal == TO_BE_DURABLE then lane_toward target.Durable p
    else lane.Next

abbrev pub kind_in : Lane → ℕ
kind_in lane.Append = APPEND
kind_in lane.Sync = SYNC
kind_in lane.Next = CREATE

-- the kind of step that is due in a lane
abbrev pub kind_due : Lane → Progress → ℕ
kind_due l p = if is_some (due l p) then kind_in l else NOTHING

-- the lane of a step of a kind, and of one that isn't an append
abbrev pub lane_of : ℕ → Lane
lane_of kind = if kind == APPEND then lane.Append else if kind == SYNC then lane.Sync else lane.Next

abbrev pub lane_beside : ℕ → Lane
lane_beside kind = if kind == SYNC then lane.Sync else lane.Next

-- a step is told: its kind, and the file's number where it is of one
abbrev pub IsToldStep : Option Step → ℕ → ℕ → ℕ → Type 0
IsToldStep None kind old new = (kind ≡ NOTHING) × (new ≡ old)
IsToldStep (Some (step.Append batch)) kind old new = (kind ≡ APPEND) × (new ≡ batch.seq)
IsToldStep (Some (step.Sync seq)) kind old new = (kind ≡ SYNC) × (new ≡ seq)
IsToldStep (Some (step.Create seq)) kind old new = (kind ≡ CREATE) × (new ≡ seq)
IsToldStep (Some step.SyncNames) kind old new = (kind ≡ SYNC_NAMES) × (new ≡ old)

-- the room for a batch, once a step has begun: it has the commits of an append
abbrev pub room_after : Option Step → Option AppendingFields → Option AppendingFields
room_after None room = room
room_after (Some (step.Append batch)) room = Some (record { taken = Some batch; sealed = None })
room_after (Some (step.Sync seq)) room = room
room_after (Some (step.Create seq)) room = room
room_after (Some step.SyncNames) room = room

-- how far a journal is, as C is told it
abbrev pub numbers_of : Progress → JournalNumbers
numbers_of p =
    record { newest = newest p; written = p.written; durable = p.durable; file = p.seq; first_file = p.first; has_failed = p.broken }

-- ---- what is written

-- the heads of a batch are filled: its header's bytes, and behind them its frames, are its bytes
abbrev pub IsSealedAs : Option BatchFields → Option SealedFields → List ℕ → Type 0
IsSealedAs None sealed header = header ≡ []
IsSealedAs (Some batch) None header = ⊥
IsSealedAs (Some batch) (Some sealed) header = (sealed_bytes sealed ≡ batch_bytes batch) × (header ≡ header_part sealed.header)

abbrev pub frames_of : Option SealedFields → List (List ℕ)
frames_of None = []
frames_of (Some sealed) = sealed.frames

-- where the bytes of a frame are, and how many
abbrev pub IsPiece : FramePiece → List ℕ → Type 0
IsPiece piece frame = (piece.len ≡ length frame) × InBlock piece.at

-- so many pieces are of the first frames, in turn
abbrev pub ArePieces : ℕ → List FramePiece → List (List ℕ) → Type 0
ArePieces zero pieces frames = Unit {0}
ArePieces (suc n) [] frames = ⊥
ArePieces (suc n) (p ∷ pieces) [] = ⊥
ArePieces (suc n) (p ∷ pieces) (f ∷ frames) = IsPiece p f × ArePieces n pieces frames
