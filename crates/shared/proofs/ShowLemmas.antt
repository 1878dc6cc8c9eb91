-- What is published of a commit.
use Rattle.std.proofs.Common.{◌≡◌, ℕ, suc, Option, Some, None, Result, Ok, Err, List, [], refl, sym, ap, ◌∙◌, inr, subst}
use Rattle.std.specs.Prelude.{MatchResult, OnOk}
use Rattle.std.specs.Option.{option_map}
use Rattle.model.specs.declared.write.CommitReply.{CommitReply}
use Rattle.model.specs.declared.write.CommitReply.TheVariants.{Committed, Conflict, TooOld, Full}
use Rattle.model.specs.Effects.{Effects, table_with}
use Rattle.txn.specs.Txn.{Transaction, effects_of}
use Rattle.txn.specs.Version.{Lower, LayeredVersion, table_version}
use Rattle.manager.specs.Layers.{AreWritten}
use Rattle.manager.specs.Managed.{Managed, newest_number, newest_table}
use Rattle.manager.specs.declared.fault.CheckpointFault.{CheckpointFault}
use Rattle.manager.specs.declared.fault.CheckpointFault.TheVariants.{StoreFailed, GenerationsSpent, NoMemory, DeviceFailed}
use Rattle.manager.specs.Prepared.{Granted, IsInstalled, LeavesTable}
use Rattle.publishing.specs.declared.item.Item.{Item}
use Rattle.publishing.specs.Commits.{Commit, granted_by}
use Rattle.publishing.specs.Lists.{IsShownAgain}
use Rattle.shared.specs.Stands.{IsShownAfter, IsShownBefore}

-- a reply with no version leaves the table
pub leaves_when : (m : Managed) (txn : Transaction) (reply : CommitReply) (g : Option Granted) → IsInstalled m txn reply g →
    option_map (λ g. g.version) g ≡ None → LeavesTable reply
leaves_when m txn reply (Some g) h none = cc none
leaves_when m txn reply None h none = h

pub leaves_none : (c : Commit) (reply : CommitReply) → LeavesTable reply → granted_by c reply ≡ []
leaves_none c (Committed n) h = absurd h
leaves_none c (Conflict n) h = refl
leaves_none c (TooOld n) h = refl
leaves_none c (Full n) h = refl

pub shown_none : (o : Managed) (layers : Lower) (x : Effects) (list : List Item) (reply : CommitReply) → LeavesTable reply
    → IsShownAfter o layers x reply list
shown_none o layers x list (Committed n) h = absurd h
shown_none o layers x list (Conflict n) h = tt
shown_none o layers x list (TooOld n) h = tt
shown_none o layers x list (Full n) h = tt

-- and one with a version is under the layers that the commit makes
pub written_when : (m : Managed) (txn : Transaction) (reply : CommitReply) (g : Option Granted) (v : LayeredVersion)
    → IsInstalled m txn reply g →
    option_map (λ g. g.version) g ≡ Some v → AreWritten m.layers (effects_of txn) v.layers
written_when m txn reply (Some g) v h some =
    let same : g.version ≡ v = cc some in
    subst (AreWritten m.layers (effects_of txn))
    (sym (ap (λ (w : LayeredVersion). w.layers) h.1.layers_are) ∙ ap (λ (w : LayeredVersion). w.layers) same) h.1.written
written_when m txn reply None v h some = cc some

-- and one with a version is Committed
pub granted_when : (m : Managed) (txn : Transaction) (reply : CommitReply) (g : Option Granted) (v : LayeredVersion)
    → IsInstalled m txn reply g →
    option_map (λ g. g.version) g ≡ Some v →
    (reply ≡ Committed (suc (newest_number m)))
    × (table_version v ≡ record { schema = m.schema; table = table_with (newest_table m) (effects_of txn); number = suc (newest_number m) })
granted_when m txn reply (Some g) v h some =
    let same : g.version ≡ v = cc some in
    (h.0, ap table_version (sym same) ∙ h.1.version_is)
granted_when m txn reply None v h some = cc some

pub on_ok : {A E : Type 0} (X Y P : Type 0) (r : Result A E) → MatchResult r (λ _. X) (λ _. Y) → (X → P) → OnOk r P
on_ok X Y P (Ok x) h f = f h
on_ok X Y P (Err e) h f = tt

pub ok_more : {A E : Type 0} (X Y P : Type 0) (r : Result A E) → MatchResult r (λ _. X) (λ _. Y) → (X → P) → MatchResult r (λ _. P) (λ _. Y)
ok_more X Y P (Ok x) h f = f h
ok_more X Y P (Err e) h f = h

-- what was published before the devices were asked, whatever they answer
pub shown_before : (old new : List Item) (v : LayeredVersion) (answer : Result ℕ CheckpointFault) → IsShownAgain old v new
    → IsShownBefore old v answer new
shown_before old new v (Ok generation) h = h
shown_before old new v (Err StoreFailed) h = inr h
shown_before old new v (Err GenerationsSpent) h = inr h
shown_before old new v (Err NoMemory) h = inr h
shown_before old new v (Err (DeviceFailed i)) h = h

pub either_way : {A E : Type 0} (X Y P : Type 0) (r : Result A E) → MatchResult r (λ _. X) (λ _. Y) → (X → P) → (Y → P) → P
either_way X Y P (Ok x) h f k = f h
either_way X Y P (Err e) h f k = k h
