-- The files of a database's journal, by the names in its folder.
use Rattle.std.specs.Prelude.{◌≡◌, ◌<◌, ◌≤◌, ◌⊎◌, ◌^◌, ℕ, List, [], ◌∷◌, ◌++◌, codes}
use Rattle.std.specs.Fmt.{decimal}

-- the name of the journal's file of a number
abbrev pub journal_name : ℕ → List ℕ
journal_name n = codes "journal-" ++ decimal n

-- one of the names is that of a number's file
unfoldable pub HasFile : List (List ℕ) → ℕ → Type 0
HasFile [] n = ⊥
HasFile (name ∷ names) n = (name ≡ journal_name n) ⊎ HasFile names n

-- of the numbers of the files this one is the greatest
pub record IsGreatest (names : List (List ℕ)) (last : ℕ) : Type 0 where
  pub there : HasFile names last
  pub no_more : (n : ℕ) → last < n → n < 2 ^ 64 → HasFile names n → ⊥

-- the files stand in turn from the first to the last, and there are no more
pub record IsLast (first : ℕ) (names : List (List ℕ)) (last : ℕ) : Type 0 where
  pub in_turn : first ≤ last
  pub there : (n : ℕ) → first ≤ n → n ≤ last → HasFile names n
  pub no_more : (n : ℕ) → last < n → n < 2 ^ 64 → HasFile names n → ⊥

-- a file is the first that isn't there, and it is wanted: it is the first of the journal, or a later one is there
pub record IsMissing (first : ℕ) (names : List (List ℕ)) (missing : ℕ) : Type 0 where
  pub in_turn : first ≤ missing
  pub before : (n : ℕ) → first ≤ n → n < missing → HasFile names n
  pub gone : HasFile names missing → ⊥
  pub wanted : (missing ≡ first) ⊎ ((n : ℕ) × (missing < n) × HasFile names n)
