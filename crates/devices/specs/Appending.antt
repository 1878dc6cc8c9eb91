-- A store between two calls, and what becomes of a table's image that it is offered.
use Rattle.std.specs.Prelude.{◌≡◌, ℕ, suc, ◌<◌, ◌≤◌, ◌^◌, Bool, true, false, List, map, Result, Ok, Err}
use Rattle.values.specs.Shape.{Columns}
use Rattle.stable.specs.Stable.{Stable}
use Rattle.devices.specs.Image.{pieces_of}
use Rattle.devices.specs.Ready.{AreReady}
use Rattle.devices.specs.Store.{StopsAt, appended, have_failed}
use Rattle.devices.specs.Stored.{StaysOrIs, stored_image}
use Rattle.devices.specs.declared.fault.StoreFault.{StoreFault}
use Rattle.devices.specs.declared.fault.StoreFault.TheVariants.{WrongCount, StoreFailed, GenerationsSpent, NoMemory, DeviceFailed}

-- what each device has taken, whether one has failed, and the generation of the next image
pub record Taken : Type 0 where
  pub contents : List (List ℕ)
  pub failed : Bool
  pub next : ℕ

-- what a store's devices have taken, by what each has taken and how often it has failed
abbrev pub taken_by : {A : Type 0} → (A → List ℕ) → (A → ℕ) → List A → ℕ → Taken
taken_by contents failures devices next =
    record { contents = map contents devices; failed = have_failed (map failures devices); next = next }

-- none of the devices has failed, and a generation is left
pub record MayTake (store : Taken) : Type 0 where
  pub sound : store.failed ≡ false
  pub left : store.next < 2 ^ 32

-- each device has taken the piece of its column
abbrev pub with_image : Stable → Taken → Taken
with_image table store = record { contents = appended store.contents (pieces_of store.next table); failed = false; next = suc store.next }

-- the devices before number i have taken their pieces, and that one has failed
pub record FailsAt (i : ℕ) (table : Stable) (old new : Taken) : Type 0 where
  pub contents : StopsAt i old.contents (pieces_of old.next table) new.contents
  pub failed : new.failed ≡ true
  pub next : new.next ≡ old.next

-- the store takes the image under the next generation, or tells why not; nothing changes then, unless a device failed
abbrev pub Appends : Stable → Taken → Result ℕ StoreFault → Taken → Type 0
Appends table old (Ok generation) new = MayTake old × (generation ≡ old.next) × (new ≡ with_image table old)
Appends table old (Err (DeviceFailed i)) new = MayTake old × FailsAt i table old new
Appends table old (Err StoreFailed) new = (old.failed ≡ true) × (new ≡ old)
Appends table old (Err GenerationsSpent) new = (old.failed ≡ false) × (2 ^ 32 ≤ old.next) × (new ≡ old)
Appends table old (Err NoMemory) new = MayTake old × (new ≡ old)
Appends table old (Err WrongCount) new = ⊥

-- as long as no device has failed, the next image may follow what they took
abbrev pub MayFollow : Columns → Taken → Type 0
MayFollow schema store = store.failed ≡ false → AreReady store.next schema.types store.contents

-- the columns store the table under its generation; where a device failed what they stored before, or that; else what they stored before
abbrev pub Stores : Columns → Stable → Taken → Result ℕ StoreFault → Taken → Type 0
Stores schema table old (Ok generation) new = stored_image schema new.contents ≡ Ok (record { generation = generation; table = table })
Stores schema table old (Err (DeviceFailed i)) new =
    StaysOrIs schema old.contents (record { generation = old.next; table = table }) new.contents
Stores schema table old (Err WrongCount) new = stored_image schema new.contents ≡ stored_image schema old.contents
Stores schema table old (Err StoreFailed) new = stored_image schema new.contents ≡ stored_image schema old.contents
Stores schema table old (Err GenerationsSpent) new = stored_image schema new.contents ≡ stored_image schema old.contents
Stores schema table old (Err NoMemory) new = stored_image schema new.contents ≡ stored_image schema old.contents
