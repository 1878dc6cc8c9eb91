-- What a manager holds after a commit.
use Rattle.std.proofs.Common.{◌≡◌, suc, ◌+◌, ◌-◌, ◌<◌, ◌≤◌, ◌^◌, List, [], ◌∷◌, ◌++◌, length, drop, ℕ, Some, None, refl, sym, ap, ◌∙◌, subst, arith}
use Rattle.std.specs.Prelude.{nat_lt}
use Rattle.std.specs.List.{list_any}
use Rattle.std.proofs.lemmas.List.{length-append}
use Rattle.circular_buffer.specs.Buffer.{keep_last}
use Rattle.model.specs.declared.write.CommitReply.{CommitReply}
use Rattle.model.specs.declared.write.CommitReply.TheVariants.{Committed}
use Rattle.model.specs.Effects.{table_with}
use Rattle.model.specs.Clashes.{conflicts}
use Rattle.model.specs.History.{IsLegal, table_with_all}
use Rattle.delta.specs.Tree.{Tree}
use Rattle.txn.specs.Txn.{Transaction, IsTransaction, effects_of}
use Rattle.txn.specs.Version.{Lower, LayeredVersion, numbered}
use Rattle.manager.specs.History.{Recorded}
use Rattle.manager.specs.Managed.{Managed, managed_of, newest_table, newest_number, IsOwn, is_too_old, commits_in, commits_since, reply_due, record_of, with_record, with_layers}
use Rattle.manager.specs.Kept.{HoldsNewest, commit_trees}
use Rattle.manager.specs.Prepared.{LeavesTable, Granted, IsGrant, IsInstalled, IsPrepared, Prepared}
use Rattle.manager.proofs.HistoryLemmas.{granted_when, managed_over, next_managed, refused_commits, granted_commits, table_with_all-one}
use Rattle.manager.proofs.KeptLemmas.{kept_next}

module _ (m : Managed) (l : Lower) (newest : LayeredVersion) (kept : List Tree) (h : HoldsNewest m l newest kept)
    (txn : Transaction) (k : IsTransaction txn) (own : IsOwn m txn) (few : m.made < 2 ^ 62) where
  -- a commit that leaves the table
  pub refused_holds : (reply : CommitReply) → reply ≡ reply_due m txn → LeavesTable reply
      → HoldsNewest (with_record m (record_of txn reply)) l newest kept
  refused_holds reply due leaves_it =
      let same = sym (refused_commits m h.lawful txn k own reply due leaves_it) in
      record {
        lawful = next_managed m h.lawful txn k own reply due few;
        folded = h.folded;
        newest_is =
            h.newest_is
            ∙ (λ i. record
            { schema = m.schema; table = table_with_all m.start.table (same i); number = m.start.base + length (same i) });
        layers_are = h.layers_are ∙ (λ i. numbered l (m.start.base + length (same i)));
        kept_are = h.kept_are ∙ (λ i. keep_last m.start.recent (drop (m.floor - m.start.base) (commit_trees m.schema m.start.table (same i))));
      }

  -- and one that is granted
  pub granted_holds : (grant : Granted) → Committed (suc (newest_number m)) ≡ reply_due m txn → IsGrant m (effects_of txn) grant →
      HoldsNewest (with_layers (with_record m (record_of txn (Committed (suc (newest_number m))))) grant.layers) grant.layers
      grant.version (keep_last m.start.recent (kept ++ grant.tree ∷ []))
  granted_holds grant due is =
      let x = effects_of txn in
      let clash = list_any (conflicts m.start.rule x) (commits_since m txn) in
      let full = nat_lt m.start.limit (length (table_with (newest_table m) x)) in
      let tests = granted_when (is_too_old m txn) clash full (newest_number m) (suc (newest_number m)) due in
      let more = sym (granted_commits m h.lawful txn k own (Committed (suc (newest_number m))) due (suc (newest_number m)) refl tests.0) in
      let one = length-append (commits_in m) (x ∷ []) in
      let number : suc (newest_number m) ≡ m.start.base + length (commits_in m ++ x ∷ []) = omega (arith, one) in
      let table = sym (table_with_all-one m.start.table (commits_in m) x) in
      let reached = h.lawful.reached in
      let above : m.floor - m.start.base ≤ length (commits_in m) = omega (arith, reached) in
      record {
        lawful =
            managed_over (with_record m (record_of txn (Committed (suc (newest_number m))))) grant.layers
            (next_managed m h.lawful txn k own (Committed (suc (newest_number m))) due few);
        folded = is.folded;
        newest_is =
            is.version_is
            ∙ (λ i. record { schema = m.schema; table = table i; number = number i })
            ∙ (λ i. record { schema = m.schema; table = table_with_all m.start.table (more i); number = m.start.base + length (more i) });
        layers_are = is.layers_are ∙ ap (numbered grant.layers) (number ∙ (λ i. m.start.base + length (more i)));
        kept_are =
            ap (λ (ts : List Tree). keep_last m.start.recent (ts ++ grant.tree ∷ [])) h.kept_are
            ∙ kept_next m.schema m.start.table (commits_in m) m.start.recent (m.floor - m.start.base) x grant.tree above is.tree_is
            ∙ (λ i. keep_last m.start.recent (drop (m.floor - m.start.base) (commit_trees m.schema m.start.table (more i))));
      }

module _ (h : Recorded) (made : ℕ) (newest : LayeredVersion) (kept : List Tree)
    (holds : HoldsNewest (managed_of h made newest.layers) newest.layers newest kept) (txn : Transaction) (k : IsTransaction txn)
    (own : IsOwn (managed_of h made newest.layers) txn) (p : Prepared) (told : IsPrepared (managed_of h made newest.layers) txn p)
  where
    -- the record of a commit that was prepared is legal after those before it
    pub legal_after : IsLegal h.schema h.start (h.records ++ record_of txn p.reply ∷ [])
    legal_after = (next_managed (managed_of h made newest.layers) holds.lawful txn k own p.reply told.due told.few).legal

    -- what a manager holds once it is entered, where it leaves the table
    pub refused_after : p.granted ≡ None
        → HoldsNewest (managed_of (record h { records = h.records ++ record_of txn p.reply ∷ [] }) (suc made) newest.layers) newest.layers
        newest kept
    refused_after none =
        let m = managed_of h made newest.layers in
        refused_holds m newest.layers newest kept holds txn k own told.few p.reply told.due
        (subst (IsInstalled m txn p.reply) none told.installed)

    -- and where it is granted
    pub granted_after : (g : Granted) → p.granted ≡ Some g
        → HoldsNewest (managed_of (record h { records = h.records ++ record_of txn p.reply ∷ [] }) (suc made) g.layers) g.layers g.version
        (keep_last h.start.recent (kept ++ g.tree ∷ []))
    granted_after g some =
        let m : Managed = managed_of h made newest.layers in
        let installed : IsInstalled m txn p.reply (Some g) = subst (IsInstalled m txn p.reply) some told.installed in
        let reply = installed.0 in
        subst
        (λ (r : CommitReply). HoldsNewest (with_layers (with_record m (record_of txn r)) g.layers) g.layers g.version
        (keep_last h.start.recent (kept ++ g.tree ∷ []))) (sym reply)
        (granted_holds m newest.layers newest kept holds txn k own told.few g (sym reply ∙ told.due) installed.1)
