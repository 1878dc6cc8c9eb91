-- A tree may go to another thread, and several may read it: from the same of what its nodes hold, through each level.
use mathlib.Core.Path.{◌≡◌}
use denote.RattleType.{RattleType}
use denote.Struct.Field.{Field, row_field, usize-field, i64-field}
use denote.Hole.{as_row}
use denote.Model.Cut.{rejoined, split_one}
use denote.Model.Local.{Parts, rows}
use denote.Model.Marks.{both_send, both_sync}
use denote.Param.Send.{IsSend, IsSync, recorded_send, recorded_sync, view_send, view_sync, sendable}
use denote.Param.SendFields.{as_row_send, as_row_sync, declared_send, declared_sync, variants_send, variants_sync}
use Rattle.std.proofs.Crossing.{crosses, Arc-send, Arc-sync, Vec-send, Vec-sync}
use Rattle.std.specs.contracts.alloc.Global as Global
use Rattle.std.specs.contracts.impls.GlobalAllocator.TheImpl.{ghosts}
use Rattle.std.specs.contracts.vec.Vec as Vec
use Rattle.counted.specs.contracts.entry.Lead as Lead
use Rattle.counted.specs.contracts.entry.SharedEntry as SharedEntry
use Rattle.counted.specs.contracts.tree.CountedTree as CountedTree
use Rattle.counted.specs.declared.node.Node.TheDeep.{the_members, member-Node, joins-Node, joins-Body, joins-Child}
use Rattle.counted.specs.contracts.node.Node.TheKnot.{frame, step, sizes, type-Node, type-Body, type-Child, at-Child, at-Body}
use Rattle.counted.specs.contracts.node.Node.TheKnot.{at-Node, view-Node, hole-Node}

entry_send : IsSend SharedEntry.the_row
entry_send = search (sendable, crosses) depth 60 fits 20000

entry_sync : IsSync SharedEntry.the_row
entry_sync = search (sendable, crosses) depth 60 fits 20000

lead_send : IsSend (Lead.the_field).row
lead_send = search (sendable, crosses) depth 60

lead_sync : IsSync (Lead.the_field).row
lead_sync = search (sendable, crosses) depth 60

abbrev leaf : Field
leaf = Vec.the_field SharedEntry.the_row Global.the_row ghosts

number_send : IsSend (as_row usize-field)
number_send = search (sendable, crosses) depth 60

number_sync : IsSync (as_row usize-field)
number_sync = search (sendable, crosses) depth 60

net_send : IsSend (as_row i64-field)
net_send = search (sendable, crosses) depth 60

net_sync : IsSync (as_row i64-field)
net_sync = search (sendable, crosses) depth 60

module _ (R : RattleType) (D : Type 0) (split : D → R.Denot) (join : R.Denot → D) (joins : (d : D) → join (split d) ≡ d) where
  rejoined_send : IsSend R → IsSend (rejoined R D split join joins)
  rejoined_send s = recorded_send R D split (split_one R D split join joins) s

  rejoined_sync : IsSync R → IsSync (rejoined R D split join joins)
  rejoined_sync s = recorded_sync R D split (split_one R D split join joins) s

module _ (p : Parts frame) (s : IsSend (rows frame p member-Node)) (y : IsSync (rows frame p member-Node)) where
  child_send : IsSend (at-Child p)
  child_send = rejoined_send _ _ _ _ joins-Child (declared_send (type-Child (rows frame p member-Node)) (
    as_row_send (row_field (as_row usize-field)) number_send,
    (
      as_row_send (row_field (as_row i64-field)) net_send,
      (
        as_row_send (row_field (as_row Lead.the_field)) (as_row_send Lead.the_field lead_send),
        (as_row_send (row_field _) (Arc-send (rows frame p member-Node) s y), tt),
      ),
    ),
  ))

  child_sync : IsSync (at-Child p)
  child_sync = rejoined_sync _ _ _ _ joins-Child (declared_sync (type-Child (rows frame p member-Node)) (
    as_row_sync (row_field (as_row usize-field)) number_sync,
    (
      as_row_sync (row_field (as_row i64-field)) net_sync,
      (
        as_row_sync (row_field (as_row Lead.the_field)) (as_row_sync Lead.the_field lead_sync),
        (as_row_sync (row_field _) (Arc-sync (rows frame p member-Node) s y), tt),
      ),
    ),
  ))

  body_send : IsSend (at-Body p)
  body_send = rejoined_send _ _ _ _ joins-Body (variants_send (type-Body (at-Child p)) (
    (as_row_send (row_field (as_row leaf)) (as_row_send leaf (Vec-send SharedEntry.the_row entry_send)), tt),
    ((as_row_send (row_field _) (Vec-send (at-Child p) child_send), tt), tt),
  ))

  body_sync : IsSync (at-Body p)
  body_sync = rejoined_sync _ _ _ _ joins-Body (variants_sync (type-Body (at-Child p)) (
    (as_row_sync (row_field (as_row leaf)) (as_row_sync leaf (Vec-sync SharedEntry.the_row entry_sync)), tt),
    ((as_row_sync (row_field _) (Vec-sync (at-Child p) child_sync), tt), tt),
  ))

  node_body_send : IsSend (at-Node p)
  node_body_send =
      rejoined_send _ _ _ _ joins-Node (declared_send (type-Node (at-Body p)) (as_row_send (row_field (at-Body p)) body_send, tt))

  node_body_sync : IsSync (at-Node p)
  node_body_sync =
      rejoined_sync _ _ _ _ joins-Node (declared_sync (type-Node (at-Body p)) (as_row_sync (row_field (at-Body p)) body_sync, tt))

  view_sends : IsSend (view-Node p)
  view_sends = view_send _ _ _ _ _ node_body_send

  view_syncs : IsSync (view-Node p)
  view_syncs = view_sync _ _ _ _ _ node_body_sync

sends : (p : Parts frame) → ((j : the_members) → IsSend (rows frame p j)) → ((j : the_members) → IsSync (rows frame p j))
    → (i : the_members) → IsSend (rows frame (step p) i)
sends p s y member-Node = record { owned = (view_sends p (s member-Node) (y member-Node)).owned; leaving = λ k d w. tt }

syncs : (p : Parts frame) → ((j : the_members) → IsSend (rows frame p j)) → ((j : the_members) → IsSync (rows frame p j))
    → (i : the_members) → IsSync (rows frame (step p) i)
syncs p s y member-Node = record { shared = (view_syncs p (s member-Node) (y member-Node)).shared }

pub node_send : IsSend hole-Node
node_send = both_send frame step sizes sends syncs member-Node

pub node_sync : IsSync hole-Node
node_sync = both_sync frame step sizes sends syncs member-Node

pub tree_send : IsSend CountedTree.the_row
tree_send = search (node_send, node_sync, sendable, crosses) depth 60

pub tree_sync : IsSync CountedTree.the_row
tree_sync = search (node_send, node_sync, sendable, crosses) depth 60
