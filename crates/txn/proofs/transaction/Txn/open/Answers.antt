use Rattle.std.proofs.Common.{◌≡◌, List, [], refl, sym, ap, ◌∙◌, subst}
use Rattle.values.specs.Shape.{Columns, IsSchema}
use Rattle.model.specs.declared.write.Write.{Write}
use Rattle.model.specs.declared.write.WriteReply.{WriteReply}
use Rattle.delta.specs.Tree.{Tree}
use Rattle.txn.specs.Txn.{Transaction, transaction_at, IsTransaction, tree_of}
use Rattle.txn.specs.Version.{table_version}
use Rattle.txn.proofs.transaction.Txn.open.Goals as goal
