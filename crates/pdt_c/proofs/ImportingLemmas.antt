-- What C is told of marks that don't say the number of an image.
use Rattle.std.proofs.Common.{◌≢◌, ◌≤◌, ◌<◌, ◌^◌, ◌+◌, ℕ, List, Result, Ok, Err}
use Rattle.std.specs.Prelude.{IfErr}
use Rattle.devices.specs.Stored.{Image}
use Rattle.journal.specs.Reading.{read_of}
use Rattle.pdt_c.specs.Importing.{IsStoredIn, IsUnmarked, IsUntold}
use Rattle.pdt_c.specs.declared.codes.TheConstants.{BAD_STORE, DONE, ROT}

-- what holds of a fault
pub err_then : {A E : Type 0} (P Q : E → Type 0) → ((e : E) → P e → Q e) → (r : Result A E) → IfErr r P → IfErr r Q
err_then P Q f (Ok x) h = tt
err_then P Q f (Err e) h = f e h

-- the columns store an image, so that the marks are what is told
pub untold_of : (header : List ℕ) (columns : List (List ℕ)) (seed base : ℕ) (marks : List ℕ) (image : Image) (code place : ℕ)
    → IsStoredIn header columns image
    → (code ≢ DONE) × (code ≢ BAD_STORE)
    × (base < 2 ^ 63 → ROT ≤ code → IsUnmarked base image.generation (read_of seed (base + 1) marks) code place)
    → IsUntold header columns seed base marks code place
untold_of header columns seed base marks image code place stored told =
    record {
      some = told.0;
      unstored = λ is. absurd (told.1 is);
      unmarked = λ marked under. record { image = image; stored = stored; unmarked = told.2 under marked };
    }
