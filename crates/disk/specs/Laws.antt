-- What a crash may leave, for all disks and every crash.
use Rattle.std.specs.Prelude.{◌≡◌, ℕ, List, length, take}
use Rattle.disk.specs.Disk.{Disk, IsDisk, MayLeave, ReadsAlike, Step, Append, begun, named, settled}

-- a second crash, before anything is written, leaves what the first one left
abbrev pub ACrashOfACrash : Type 0
ACrashOfACrash = (d c e : Disk) → MayLeave d c → MayLeave c e → ReadsAlike c e × MayLeave d e

-- durable bytes stay, and so does all of a file whose bytes are all durable
abbrev pub WhatWasSyncedStays : Type 0
WhatWasSyncedStays =
    (d c : Disk) (i : ℕ) → MayLeave d c
    → (take (d.files i).durable (c.files i).bytes ≡ take (d.files i).durable (d.files i).bytes)
    × ((d.files i).durable ≡ length (d.files i).bytes → (c.files i).bytes ≡ (d.files i).bytes)

-- where the folder was synced and no name has changed since, each name stays
abbrev pub ASyncedNameStays : Type 0
ASyncedNameStays = (d c : Disk) (name : ℕ) → MayLeave d c → d.pending ≡ 0 → named name c.links ≡ named name d.links

-- What a crash may leave before a call, it may leave once the call has begun, and so at any moment of the call. So a theorem about crashes
-- has to look at calls that have begun, and at no moment between.
abbrev pub ACrashBeforeAStep : Type 0
ACrashBeforeAStep = (d c : Disk) (step : Step) → MayLeave d c → MayLeave (begun step d) (record c { count = (begun step d).count })

-- what a crash may leave of a part of a write, it may leave of the write
abbrev pub ACrashInAWrite : Type 0
ACrashInAWrite =
    (d c : Disk) (i n : ℕ) (bytes : List ℕ) → MayLeave (begun (Append i (take n bytes)) d) c → MayLeave (begun (Append i bytes) d) c

-- A process that is killed leaves what is read: some crash leaves the same. Whether it is durable then isn't said.
abbrev pub AKillIsACrash : Type 0
AKillIsACrash = (d : Disk) → IsDisk d → MayLeave d (settled d) × ReadsAlike d (settled d)
