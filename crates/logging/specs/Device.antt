-- What a journal's device was handed, and what it has said of it.
use Rattle.std.specs.Prelude.{ℕ, List}

-- the bytes in order, how many of them are safe, and how often it has failed
pub record Device : Type 0 where
  pub appended : List ℕ
  pub safe : ℕ
  pub failures : ℕ
