-- Frames after frames, and what is read of them.
use Rattle.std.proofs.Common.{◌≡◌, ℕ, true, Option, Some, List, [], ◌∷◌, ◌++◌, Ok, refl, ap, append_assoc, arith}
use Rattle.std.proofs.lemmas.Bool.{lt-ltb}
use Rattle.std.proofs.lemmas.Grind.{flat_map-append}
use Rattle.std.proofs.lemmas.List.{append-nil}
use Rattle.values.specs.declared.value.ColumnType.{ColumnType}
use Rattle.frames.specs.declared.frame.Frame.{Frame}
use Rattle.frames.specs.declared.frame.Frame.TheVariants.{Header, Block, End}
use Rattle.frames.specs.declared.seam.Seam.{Seam}
use Rattle.frames.specs.Column.{AreFramesAt, IsColumn, column_bytes, is_above, is_rest, seam_after, seam_after_all, start}
use Rattle.frames.specs.Reading.{AreWanted, frames_of, parts_after, parts_of}
use Rattle.frames.proofs.AgainLemmas.{column_again}
use Rattle.devices.specs.Ready.{AreBelow}
use Rattle.std.proofs.lemmas.Grind.{common_steps}

pub seam_after_all-append : (seam : Seam) (frames more : List Frame)
    → seam_after_all seam (frames ++ more) ≡ seam_after_all (seam_after_all seam frames) more
seam_after_all-append seam [] more = refl
seam_after_all-append seam (frame ∷ frames) more = seam_after_all-append (seam_after seam frame) frames more

AreFramesAt-append : (seam : Seam) (frames more : List Frame) → AreFramesAt seam frames → AreFramesAt (seam_after_all seam frames) more
    → AreFramesAt seam (frames ++ more)
AreFramesAt-append seam [] more a b = b
AreFramesAt-append seam (frame ∷ frames) more a b = (a.0, AreFramesAt-append (seam_after seam frame) frames more a.1 b)

pub AreWanted-append : (wanted : Option ColumnType) (frames more : List Frame) → AreWanted wanted frames → AreWanted wanted more
    → AreWanted wanted (frames ++ more)
AreWanted-append wanted [] more a b = b
AreWanted-append wanted (Header kind ∷ frames) more a b = (a.0, AreWanted-append wanted frames more a.1 b)
AreWanted-append wanted (Block part ∷ frames) more a b = AreWanted-append wanted frames more a b
AreWanted-append wanted (End ∷ frames) more a b = AreWanted-append wanted frames more a b

pub parts_of-append : (frames more : List Frame) → parts_of (frames ++ more) ≡ parts_of frames ++ parts_of more
parts_of-append [] more = refl
parts_of-append (Header kind ∷ frames) more = parts_of-append frames more
parts_of-append (Block part ∷ frames) more = ap (λ ps. part ∷ ps) (parts_of-append frames more)
parts_of-append (End ∷ frames) more = parts_of-append frames more

-- a generation above each before it is above the newest of them
newest_above : (next : ℕ) (seam : Seam) (frames : List Frame) → is_above seam.newest next ≡ true → AreBelow next (parts_of frames)
    → is_above (seam_after_all seam frames).newest next ≡ true
newest_above next seam [] h below = h
newest_above next seam (Header kind ∷ frames) h below = newest_above next (seam_after seam (Header kind)) frames h below
newest_above next seam (Block part ∷ frames) h below = newest_above next (seam_after seam (Block part)) frames (lt-ltb _ _ below.0) below.1
newest_above next seam (End ∷ frames) h below = newest_above next (seam_after seam End) frames h below

pub above_all : (next : ℕ) (frames : List Frame) → AreBelow next (parts_of frames)
    → is_above (seam_after_all start frames).newest next ≡ true
above_all next frames below = newest_above next start frames refl below

-- frames that may follow whole frames, and a rest
pub column_after : (old : List ℕ) (frames more : List Frame) (rest : List ℕ) → IsColumn old frames []
    → AreFramesAt (seam_after_all start frames) more
    → is_rest (seam_after_all (seam_after_all start frames) more) rest ≡ true
    → IsColumn (old ++ (column_bytes more ++ rest)) (frames ++ more) rest
column_after old frames more rest is lawful torn =
    grind (arith, common_steps, AreFramesAt-append, seam_after_all-append, append-nil, append_assoc, flat_map-append)

-- the blocks that are read of a column are those among its frames
pub parts_again : (ty : ColumnType) (bytes : List ℕ) (frames : List Frame) (rest : List ℕ) → IsColumn bytes frames rest
    → AreWanted (Some ty) frames
    → (col : ℕ) → parts_after [] (frames_of col (Some ty) bytes) ≡ Ok (parts_of frames)
parts_again ty bytes frames rest is wanted col = ap (parts_after []) (column_again col bytes frames rest (Some ty) is wanted)
