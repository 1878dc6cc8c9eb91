-- Manifests of later versions: the first line, with the version, and the last, with the check, are those of every version.
use Rattle.std.specs.Prelude.{◌≡◌, ◌<◌, ℕ, ◌-◌, ◌^◌, nat_lt, if◌then◌else◌, Option, Some, None, List, ◌++◌, codes}
use Rattle.manifest.specs.Manifest.{number_text, with_end}
use Rattle.manifest.specs.Reading.{◌>>=◌, after_word, checked, number_at}

-- bytes are a manifest of a later version: it has its check, and its first line says a version above 1
pub record IsLater (bytes : List ℕ) : Type 0 where
  pub version : ℕ
  pub rest : List ℕ
  pub above : 1 < version
  pub below : version < 2 ^ 32
  pub spelt : bytes ≡ with_end (codes "narthexmace " ++ (number_text 10 version ++ rest))

-- a version that is above this one
abbrev pub later : ℕ × List ℕ → Option ℕ
later n = if nat_lt 1 n.0 then Some n.0 else None

-- the version that a first line says, where it is above this one
abbrev pub later_in : List ℕ → Option ℕ
later_in body = after_word (codes "narthexmace ") body >>= λ rest. number_at (2 ^ 32 - 1) 10 rest >>= later

unfoldable pub later_version : List ℕ → Option ℕ
later_version bytes = checked bytes >>= later_in
