use Rattle.std.proofs.Common.{rules, ◌≡◌, ◌∙◌, ℕ, List, length, refl, ap, sym, subst, arith}
use Rattle.manager.specs.Managed.{Managed, IsManaged}
use Rattle.pdtcli.proofs.ClientsLemmas.{none_made}
use Rattle.pdtcli.proofs.clients.run_clients.Goals as goal

pub returns-then-is_empty-clause-run : goal.returns-then-is_empty-clause-run
returns-then-is_empty-clause-run g c =
    let names = c.in_ok-names.names in
    let none : length names.items ≡ 0 = let a = c.is_empty.ensures in let b = c.if-is_empty.true in let k = names.ok in search rules in
    let clients = c.in_ok-names.ensures ∙ c.clients.ensures in
    let same = ap (λ (texts : List (List ℕ)). length texts) clients in
    let counts = c.new-then-is_empty.ensures.items in
    rw c.new-left.ensures (record {
      clients = clients;
      made =
          none_made c.args.manager c.args.script.now.calls (length c.args.script.now.clients) _ (sym same ∙ none) refl
          c.new.ensures.items counts;
      records = rw counts (omega arith);
      lawful = subst (λ (m : Managed). IsManaged m) c.manager.view_is c.manager.invariant.0.lawful;
    })
