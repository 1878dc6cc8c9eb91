-- A fold, a checkpoint and a cut leave the commits of the list.
use Rattle.std.proofs.Common.{◌≡◌, ℕ, Result, Ok, Err, List, [], refl, ap, ◌∙◌, ⊎_elim}
use Rattle.std.specs.Prelude.{MatchResult, OnOk, OnErr}
use Rattle.txn.specs.Version.{LayeredVersion}
use Rattle.manager.specs.Managed.{Managed}
use Rattle.manager.specs.declared.fault.CheckpointFault.{CheckpointFault}
use Rattle.manager.specs.declared.fault.CheckpointFault.TheVariants.{StoreFailed, GenerationsSpent, NoMemory, DeviceFailed}
use Rattle.publishing.specs.declared.item.Item.{Item}
use Rattle.publishing.specs.declared.item.Item.TheVariants.{Opens, Commits, Same, Cuts}
use Rattle.publishing.specs.Lists.{IsCutAfter, IsCutAt, IsSame, IsShownAgain, commits_of_item}
use Rattle.shared.specs.Stands.{IsShownBefore, Stand}
use Rattle.durable_sessions.specs.Payloads.{effects_in}
use Rattle.durable_sessions.proofs.PayloadsLemmas.{effects_same}

same_commits : (v : LayeredVersion) (item : Item) → IsSame v item → commits_of_item item ≡ []
same_commits v (Opens manager) h = absurd h
same_commits v (Commits txn version) h = absurd h
same_commits v (Same version) h = refl
same_commits v (Cuts base version) h = absurd h

cut_commits : (n : ℕ) (v : LayeredVersion) (item : Item) → IsCutAt n v item → commits_of_item item ≡ []
cut_commits n v (Opens manager) h = absurd h
cut_commits n v (Commits txn version) h = absurd h
cut_commits n v (Same version) h = absurd h
cut_commits n v (Cuts base version) h = refl

module _ (o : Managed) (old new : List Item) where
  again : (v : LayeredVersion) → IsShownAgain old v new → effects_in o new ≡ effects_in o old
  again v h = ap (effects_in o) h.2 ∙ effects_same o old h.0 (same_commits v h.0 h.1)

  pub after_fold : {A E : Type 0} (v : LayeredVersion) (r : Result A E) → MatchResult r (λ _. IsShownAgain old v new) (λ _. new ≡ old)
      → effects_in o new ≡ effects_in o old
  after_fold v (Ok x) h = again v h
  after_fold v (Err e) h = ap (effects_in o) h

  pub after_checkpoint : (v : LayeredVersion) (r : Result ℕ CheckpointFault) → IsShownBefore old v r new → effects_in o new ≡ effects_in o old
  after_checkpoint v (Ok generation) h = again v h
  after_checkpoint v (Err (DeviceFailed i)) h = again v h
  after_checkpoint v (Err StoreFailed) h = ⊎_elim (λ (e : new ≡ old). ap (effects_in o) e) (λ (s : IsShownAgain old v new). again v s) h
  after_checkpoint v (Err GenerationsSpent) h = ⊎_elim (λ (e : new ≡ old). ap (effects_in o) e) (λ (s : IsShownAgain old v new). again v s) h
  after_checkpoint v (Err NoMemory) h = ⊎_elim (λ (e : new ≡ old). ap (effects_in o) e) (λ (s : IsShownAgain old v new). again v s) h

  pub after_cut : {A E : Type 0} (n : ℕ) (v : LayeredVersion) (r : Result A E) → OnOk r (IsCutAfter old n v new) → OnErr r (new ≡ old)
      → effects_in o new ≡ effects_in o old
  after_cut n v (Ok x) h same = ap (effects_in o) h.2 ∙ effects_same o old h.0 (cut_commits n v h.0 h.1)
  after_cut n v (Err e) h same = ap (effects_in o) same

-- where nothing changed, the list is the same
pub list_kept : {A E : Type 0} (r : Result A E) (old new : Stand) → OnErr r (new ≡ old) → OnErr r (new.list ≡ old.list)
list_kept (Ok x) old new h = tt
list_kept (Err e) old new h = ap (λ (s : Stand). s.list) h
