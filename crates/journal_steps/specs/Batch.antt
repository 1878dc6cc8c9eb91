-- Commits that are appended to a journal's file together.
use Rattle.std.specs.Prelude.{ℕ, ◌+◌, ◌<◌, ◌≤◌, ◌^◌, Option, Some, None, List, [], ◌∷◌, ◌++◌, length, drop}
use Rattle.std.specs.List.{AllByRecursion}
use Rattle.journal.specs.Frame.{Logged, journal_bytes}
use Rattle.journal.specs.Header.{HeaderFields, header_bytes}

-- the frames of payloads, the first with this number; each says that the commits up to `durable` are durable
abbrev pub framed : ℕ → ℕ → List (List ℕ) → List Logged
framed next durable [] = []
framed next durable (payload ∷ payloads) =
    record { number = next; synced = durable; payload = payload } ∷ framed (next + 1) durable payloads

-- the number of the file, its header where these are its first commits, the seed of its checks, the number of the first commit, the newest
-- commit that is durable, and the payloads
pub record BatchFields : Type 0 where
  pub seq : ℕ
  pub header : Option HeaderFields
  pub seed : ℕ
  pub first : ℕ
  pub durable : ℕ
  pub payloads : List (List ℕ)

abbrev pub batch_frames : BatchFields → List Logged
batch_frames b = framed b.first b.durable b.payloads

abbrev pub header_part : Option HeaderFields → List ℕ
header_part None = []
header_part (Some header) = header_bytes header

-- what is appended
abbrev pub batch_bytes : BatchFields → List ℕ
batch_bytes b = header_part b.header ++ journal_bytes b.seed (batch_frames b)

abbrev pub HaveSizes : List (List ℕ) → Type 0
HaveSizes payloads = AllByRecursion (λ payload. length payload < 2 ^ 32) payloads

-- the payload of a frame, which is behind its head
abbrev pub payload_in : List ℕ → List ℕ
payload_in frame = drop 28 frame

-- each frame has room for its head
abbrev pub HaveRooms : List (List ℕ) → Type 0
HaveRooms frames = AllByRecursion (λ frame. 28 ≤ length frame) frames

-- lists one behind the other
abbrev pub together : List (List ℕ) → List ℕ
together [] = []
together (b ∷ bs) = b ++ together bs

-- the header of a batch whose heads are filled, and its frames
pub record SealedFields : Type 0 where
  pub header : Option HeaderFields
  pub frames : List (List ℕ)

abbrev pub sealed_bytes : SealedFields → List ℕ
sealed_bytes s = header_part s.header ++ together s.frames

-- it can be spelt
pub record IsBatch (b : BatchFields) : Type 0 where
  pub sizes : HaveSizes b.payloads
  pub numbers : b.first + length b.payloads ≤ 2 ^ 63
