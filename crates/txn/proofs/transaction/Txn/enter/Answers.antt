use Rattle.std.proofs.Common.{◌≡◌, List, ◌∷◌, ◌++◌, [], sym, ap, ◌∙◌, subst, rules}
use Rattle.model.specs.declared.write.Write.{Write}
use Rattle.model.specs.declared.write.WriteReply.{WriteReply}
use Rattle.model.specs.Writes.{reply_where}
use Rattle.delta.specs.Search.{past_cmp, stands_before, IsSplit}
use Rattle.delta.specs.Tree.{Tree}
use Rattle.txn.specs.Edit.{is_inserted, is_there}
use Rattle.txn.specs.Txn.{Transaction, transaction_at, entries_of, IsTransaction, tree_of}
use Rattle.txn.proofs.TxnLemmas.{IsSeen, seen, seen_place, seen_may, seen_room, seen_next, seen_tree, tree_ordered, tree_split}
use Rattle.txn.specs.Version.{table_version}
use Rattle.txn.proofs.transaction.Txn.enter.Goals as goal

-- what a transaction's fields keep
abbrev Kept : Tree → Transaction → Type 0
Kept tree txn = IsTransaction txn × (tree ≡ tree_of txn)

-- the transaction that the fields are
abbrev fields : (c : goal.After-write-3-1) → Transaction
fields c =
    let inside = c.self.inside in
    transaction_at (table_version inside.version) inside.row_limit inside.client inside.writes.items

is_seen : (c : goal.After-write-3-1)
    → IsSeen (fields c) c.args.write c.find-found.result.sid (is_inserted c.find-found.result.row) c.reply_where-reply.result
is_seen c = search rules

pub edit-requires-clause-sid : goal.edit-requires-clause-sid
edit-requires-clause-sid c =
    seen_place (fields c) c.self.invariant.0 c.self.inside.tree c.self.invariant.1 c.args.write c.find-found.result.sid
    (is_inserted c.find-found.result.row) c.reply_where-reply.result (is_seen c)

pub edit-requires-clause-ordered : goal.edit-requires-clause-ordered
edit-requires-clause-ordered c = tree_ordered (fields c) c.self.invariant.0 c.self.inside.tree c.self.invariant.1

pub edit-requires-clause-place : goal.edit-requires-clause-place
edit-requires-clause-place c =
    tree_split (fields c) c.self.invariant.0 c.self.inside.tree c.self.invariant.1 c.args.self.now c.self.view_is c.args.write
    c.schema.result.now c.key_cols-key_cols.result c.key_of_write.result.now c.find-found.result.sid c.find-found.result.index
    c.schema.ensures c.key_cols-key_cols.ensures.count c.key_of_write.ensures c.find-found.ensures.place

pub edit-requires-clause-may : goal.edit-requires-clause-may
edit-requires-clause-may c =
    seen_may (fields c) c.self.invariant.0 c.self.inside.tree c.self.invariant.1 c.args.write c.find-found.result.sid
    (is_inserted c.find-found.result.row) c.reply_where-reply.result (is_seen c)

pub edit-requires-clause-room : goal.edit-requires-clause-room
edit-requires-clause-room c =
    seen_room (fields c) c.self.invariant.0 c.self.inside.tree c.self.invariant.1 c.args.write c.find-found.result.sid
    (is_inserted c.find-found.result.row) c.reply_where-reply.result (is_seen c)

pub invariant_of-self-2 : goal.invariant_of-self-2
invariant_of-self-2 c =
    let inside = c.self.inside in
    let txn : Transaction = transaction_at (table_version inside.version) inside.row_limit inside.client inside.writes.items in
    let reply = c.reply_where-reply.result in
    let s : IsSeen txn c.args.write c.find-found.result.sid (is_inserted c.find-found.result.row) reply =
    seen txn c.args.self.now c.self.view_is c.args.write c.schema.result.now c.key_cols-key_cols.result c.key_of_write.result.now
    c.find-found.result.sid c.len.result (is_there c.find-found.result.row) (is_inserted c.find-found.result.row) reply
    c.requires
    c.schema.ensures c.key_cols-key_cols.ensures.count c.key_of_write.ensures c.find-found.ensures.found c.len.ensures
    (c.reply_where-reply.ensures ∙ ap (λ b. reply_where c.self.inside.row_limit b c.len.result c.args.write) c.is_there.ensures)
    in
    let kept =
    seen_next txn c.self.invariant.0 inside.tree c.self.invariant.1 c.args.write c.find-found.result.sid
    (is_inserted c.find-found.result.row) reply s in
    let tree =
    c.in_ok-edit.ensures.ok
    ∙ seen_tree txn c.self.invariant.0 inside.tree c.self.invariant.1 c.args.write c.find-found.result.sid
    (is_inserted c.find-found.result.row) reply s in
    let items : c.push_reserved.new.self.items ≡ inside.writes.items ++ (c.args.write, reply) ∷ [] =
    c.push_reserved.ensures.items ∙ ap (λ ws. ws ++ (c.args.write, reply) ∷ []) c.in_ok-reserve_one.ensures.items in
    subst
    (λ (ws : List (Write × WriteReply)). Kept c.edit.new.tree (transaction_at (table_version inside.version) inside.row_limit inside.client ws))
    (sym items) (kept, tree)
