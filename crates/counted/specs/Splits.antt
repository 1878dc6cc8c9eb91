-- A leaf that becomes two.
use Rattle.std.specs.Prelude.{◌≡◌, ℕ, ◌+◌, ◌≤◌, ℤ, Option, IfSome, IsSome, List, ◌++◌, length, take, drop, slice_index_or}
use Rattle.model.specs.declared.entry.Entry.{Entry}
use Rattle.counted.specs.declared.node.Child.{Child}
use Rattle.counted.specs.Edits.{put_items, edited}
use Rattle.counted.specs.Shapes.{AreChildren, all_items, depth_of, items_of}
use Rattle.counted.specs.Sums.{weight_of}

-- an entry is put into a child, and nothing goes: the children afterwards, and what that adds
pub record IsSplit (children : List Child) (i at gone : ℕ) (put : Option Entry) (new : List Child) (added : ℤ) : Type 0 where
  pub keeps : gone ≡ 0
  pub some : IsSome put
  pub net : IfSome put (λ e. added ≡ weight_of e.change)
  pub each : AreChildren new
  pub depth : depth_of new ≡ depth_of children
  pub wide : length children ≤ length new
  pub child : Child
  pub items : all_items new ≡ all_items (take i children)
      ++ edited at 0 (put_items put) (items_of (slice_index_or children i child)) ++ all_items (drop (i + 1) children)
