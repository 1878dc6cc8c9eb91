use Rattle.std.proofs.Common.{sym, subst}
use Rattle.manager.specs.Managed.{Managed, IsOwn}
use Rattle.manager.specs.Restacked.{restacked}
use Rattle.manager.proofs.HistoryLemmas.{own_over}
use Rattle.manager.proofs.manager.Manager.restack.Goals as goal

pub returns-clause-own : goal.returns-clause-own
returns-clause-own c =
    λ txn own. subst (λ (v : Managed). IsOwn v txn) (sym c.install_restack.ensures)
    (own_over c.args.self.now (restacked c.args.self.now.layers) txn own)
