-- What a device has taken, and what it leaves at its end.
use Rattle.std.specs.Prelude.{◌≡◌, ℕ, ◌<◌, ◌==◌, cond, List, [], ◌∷◌, ◌++◌}
use Rattle.std.specs.Vec.{vec_len, vec_capacity}
use Rattle.std.specs.declared.alloc.Global.{Global}
use Rattle.std.specs.declared.vec.Vec.{Vec}

-- the bytes that a device has taken, and how often it has failed
pub record Device : Type 0 where
  pub contents : List ℕ
  pub failures : ℕ

-- the bytes, with a clean end after them where nothing failed
abbrev pub ended_contents : List ℕ → ℕ → List ℕ
ended_contents contents failures = cond (failures == 0) (contents ++ 69 ∷ []) contents

-- whether there is room for the clean end, where nothing failed
abbrev pub HasRoom : Vec ℕ Global → ℕ → Type 0
HasRoom contents failures = failures ≡ 0 → vec_len contents < vec_capacity contents
