-- What was prepared for a commit, where it is granted.
use Rattle.std.proofs.Common.{◌≡◌, ℕ, suc, ◌-◌, ◌≤◌, Bool, false, Option, Some, None, length, take, refl, sym, ap, ◌∙◌, subst, arith}
use Rattle.std.specs.Prelude.{nat_lt, option_map}
use Rattle.std.specs.List.{list_any}
use Rattle.values.specs.Shape.{Columns}
use Rattle.values.specs.declared.limits.TheConstants.{MAX_ROWS}
use Rattle.model.specs.declared.write.CommitReply.{CommitReply}
use Rattle.model.specs.declared.write.CommitReply.TheVariants.{Committed, Conflict, TooOld, Full}
use Rattle.model.specs.Clashes.{conflicts}
use Rattle.model.specs.Effects.{AreOver, table_with}
use Rattle.model.specs.History.{table_with_all}
use Rattle.model.specs.Laws.{AreCommits}
use Rattle.model.specs.Table.{Table}
use Rattle.model.proofs.CallerLemmas.{AreCommits-drop, commits_fit, fits_newest, table_with_all-drop}
use Rattle.delta.specs.Tree.{Tree}
use Rattle.txn.specs.Txn.{IsTransaction, Transaction, effects_of}
use Rattle.txn.proofs.CallerLemmas.{over}
use Rattle.manager.specs.Managed.{IsManaged, IsOwn, Managed, commits_in, commits_since, is_too_old, newest_number, newest_table, reply_due}
use Rattle.manager.specs.Prepared.{Granted, IsGrant, IsInstalled, IsPrepared, Prepared, tree_in}
use Rattle.manager.proofs.HistoryLemmas.{above_base, granted_when, newest_within}

-- ---- the effects of a granted commit fit the newest table

module _ (m : Managed) (txn : Transaction) (h : IsManaged m) (k : IsTransaction txn) (own : IsOwn m txn) (n : ℕ)
    (due : Committed n ≡ reply_due m txn) where
  abbrev clash : Bool
  clash = list_any (conflicts m.start.rule (effects_of txn)) (commits_since m txn)

  tests : (is_too_old m txn ≡ false) × ((clash ≡ false) × (nat_lt m.start.limit (length (table_with (newest_table m) (effects_of txn))) ≡ false))
  tests =
      granted_when (is_too_old m txn) clash (nat_lt m.start.limit (length (table_with (newest_table m) (effects_of txn)))) (newest_number m) n due

  snapshot_is : table_with_all m.start.table (take (txn.begin - m.start.base) (commits_in m)) ≡ txn.table
  snapshot_is = sym (own.snapshot (above_base m txn own tests.0))

  over_snapshot : AreOver m.schema txn.table (effects_of txn)
  over_snapshot = subst (λ (s : Columns). AreOver s txn.table (effects_of txn)) own.schema (over txn k)

  since_fit : AreCommits m.schema txn.table (commits_since m txn)
  since_fit = subst (λ (t : Table). AreCommits m.schema t (commits_since m txn)) snapshot_is
      (AreCommits-drop m.schema m.start.table (commits_in m) (txn.begin - m.start.base)
      (commits_fit m.schema m.start m.history h.table h.legal))

  since_newest : table_with_all txn.table (commits_since m txn) ≡ newest_table m
  since_newest =
      sym (ap (λ (t : Table). table_with_all t (commits_since m txn)) snapshot_is)
      ∙ table_with_all-drop m.start.table (commits_in m) (txn.begin - m.start.base)

  pub granted_over : AreOver m.schema (newest_table m) (effects_of txn)
  granted_over =
      subst (λ (t : Table). AreOver m.schema t (effects_of txn)) since_newest
      (fits_newest m.schema m.start.rule txn.table (effects_of txn) (commits_since m txn) over_snapshot since_fit tests.1.0)

pub newest_few : (m : Managed) → IsManaged m → length (newest_table m) ≤ MAX_ROWS
newest_few m h = let within = newest_within m h in let most = h.limited in omega (arith, within, most)

-- ---- what was prepared has a tree and a version together

or_else : {A : Type 0} → A → Option A → A
or_else x None = x
or_else x (Some y) = y

some_same : {A : Type 0} (x y : A) → Some x ≡ Some y → x ≡ y
unfolding or_else
some_same x y e = ap (or_else x) e

module _ (m : Managed) (txn : Transaction) (p : Prepared) (is : IsPrepared m txn p) where
  -- a grant, where there is a tree
  pub granted : (tree : Tree) → tree_in p ≡ Some tree → (g : Granted) × (p.granted ≡ Some g) × (g.tree ≡ tree)
  granted tree has = by p.granted refl has
    where
      by : (o : Option Granted) → p.granted ≡ o → option_map (λ g. g.tree) o ≡ Some tree
          → (g : Granted) × (p.granted ≡ Some g) × (g.tree ≡ tree)
      by None here e = absurd cc
      by (Some g) here e = (g, here, some_same g.tree tree e)

  pub grant_is : (g : Granted) → p.granted ≡ Some g → (p.reply ≡ Committed (suc (newest_number m))) × IsGrant m (effects_of txn) g
  grant_is g here = subst (IsInstalled m txn p.reply) here is.installed

-- ---- the number of a granted commit

number_in : CommitReply → ℕ
number_in (Committed n) = n
number_in (Conflict n) = n
number_in (TooOld n) = n
number_in (Full n) = n

pub same_number : (n k : ℕ) → Committed n ≡ Committed k → n ≡ k
unfolding number_in
same_number n k e = ap number_in e
