-- The list of what was published since an opening, and the table at each of its numbers.
use Rattle.std.specs.Prelude.{true, ◌≡◌, ℕ, ◌+◌, ◌-◌, ◌≤◌, List, [], ◌∷◌, ◌++◌, length, take, drop}
use Rattle.logbook.specs.Pages.{Book}
use Rattle.model.specs.declared.write.CommitReply.{CommitReply}
use Rattle.model.specs.declared.clash.ConflictRule.TheVariants.{ByColumn}
use Rattle.model.specs.Table.{Table}
use Rattle.model.specs.History.{Start, table_with_all, due_reply}
use Rattle.txn.specs.Txn.{Transaction, effects_of}
use Rattle.txn.specs.Version.{LayeredVersion, TableVersion, alone, numbered}
use Rattle.manager.specs.Managed.{Managed, newest_number}
use Rattle.manager.specs.History.{Recorded}
use Rattle.publishing.specs.Commits.{Commit, commit_of, commits_from_records, commits_made, all_effects}
use Rattle.publishing.specs.declared.item.Item.{Item}
use Rattle.publishing.specs.declared.item.Item.TheVariants.{Opens, Commits, Same, Cuts}

abbrev pub commits_of_item : Item → List Commit
commits_of_item (Opens manager) = []
commits_of_item (Commits txn version) = commit_of txn.value ∷ []
commits_of_item (Same version) = []
commits_of_item (Cuts base version) = []

-- the commits that were published, in order
abbrev pub commits_in : List Item → List Commit
commits_in [] = []
commits_in (item ∷ list) = commits_of_item item ++ commits_in list

abbrev pub base_after : ℕ → Item → ℕ
base_after base (Opens manager) = base
base_after base (Commits txn version) = base
base_after base (Same version) = base
base_after base (Cuts next version) = next

-- the base of the last cut
abbrev pub last_base : ℕ → List Item → ℕ
last_base base [] = base
last_base base (item ∷ list) = last_base (base_after base item) list

-- the manager's newest version, under its layers
abbrev pub layered_version : Managed → LayeredVersion
layered_version m = numbered m.layers (newest_number m)

-- the version that an item published
abbrev pub version_of_item : Item → LayeredVersion
version_of_item (Opens manager) = layered_version manager.value
version_of_item (Commits txn version) = version.value
version_of_item (Same version) = version.value
version_of_item (Cuts base version) = version.value

-- the version after items
abbrev pub last_version : LayeredVersion → List Item → LayeredVersion
last_version v [] = v
last_version v (item ∷ list) = last_version (version_of_item item) list

-- the item is this version of the same table
abbrev pub IsSame : LayeredVersion → Item → Type 0
IsSame v (Opens manager) = ⊥
IsSame v (Commits txn version) = ⊥
IsSame v (Same version) = version.value ≡ v
IsSame v (Cuts base version) = ⊥

-- the item is a cut at this number, and this version
abbrev pub IsCutAt : ℕ → LayeredVersion → Item → Type 0
IsCutAt base v (Opens manager) = ⊥
IsCutAt base v (Commits txn version) = ⊥
IsCutAt base v (Same version) = ⊥
IsCutAt base v (Cuts at version) = (at ≡ base) × (version.value ≡ v)

-- the list after this version of the same table
abbrev pub IsShownAgain : List Item → LayeredVersion → List Item → Type 0
IsShownAgain old v new = (item : Item) × IsSame v item × (new ≡ old ++ item ∷ [])

-- the list after a cut at this number, under this version
abbrev pub IsCutAfter : List Item → ℕ → LayeredVersion → List Item → Type 0
IsCutAfter old base v new = (item : Item) × IsCutAt base v item × (new ≡ old ++ item ∷ [])

-- an opening: the book of its list, and the manager that it took
pub record Opened : Type 0 where
  pub book : Book
  pub manager : Managed

-- stands where there is no manager
abbrev pub no_manager : Managed
no_manager = record {
  schema = record { names = []; types = []; key_cols = 0 };
  start = record { table = []; base = 0; limit = 0; recent = 0; rule = ByColumn };
  history = [];
  made = 0;
  keeps = true;
  floor = 0;
  layers = alone (record { schema = record { names = []; types = []; key_cols = 0 }; rows = [] });
}

-- the manager with which a book begins, and the items after it
abbrev pub manager_of_item : Item → Managed
manager_of_item (Opens manager) = manager.value
manager_of_item (Commits txn version) = no_manager
manager_of_item (Same version) = no_manager
manager_of_item (Cuts base version) = no_manager

abbrev pub manager_in : List Item → Managed
manager_in [] = no_manager
manager_in (item ∷ log) = manager_of_item item

abbrev pub items_in : List Item → List Item
items_in [] = []
items_in (item ∷ log) = log

-- a beginning of the list of an opening
pub record Known : Type 0 where
  pub opening : Opened
  pub list : List Item

-- a list of the opening with one item more
abbrev pub with_item : Known → Item → Known
with_item known item = record { opening = known.opening; list = known.list ++ item ∷ [] }

module _ (o : Managed) where
  -- the commits that were held at the opening, and those that were published
  abbrev pub all_commits : List Item → List Commit
  all_commits list = commits_made o ++ commits_in list

  -- the number of the newest one
  abbrev pub number_in : List Item → ℕ
  number_in list = o.start.base + length (all_commits list)

  -- the table of a number, from the opening's base on
  abbrev pub table_at : List Item → ℕ → Table
  table_at list k = table_with_all o.start.table (take (k - o.start.base) (all_effects (all_commits list)))

  -- the version of the newest number
  abbrev pub version_in : List Item → TableVersion
  version_in list = record { schema = o.schema; table = table_at list (number_in list); number = number_in list }

  -- the version that is published: that of the last item, or the manager's at the opening
  abbrev pub shown_in : List Item → LayeredVersion
  shown_in list = last_version (layered_version o) list

  -- where the history starts: at the last cut, or where it started at the opening
  abbrev pub base_in : List Item → ℕ
  base_in list = last_base o.start.base list

  abbrev pub start_in : List Item → Start
  start_in list = record {
    table = table_at list (base_in list);
    base = base_in list;
    limit = o.start.limit;
    recent = o.start.recent;
    rule = o.start.rule;
  }

  -- the commits since then
  abbrev pub commits_since_start : List Item → List Commit
  commits_since_start list = drop (base_in list - o.start.base) (all_commits list)

  -- the reply that is due to a transaction once these items are published
  abbrev pub reply_at : List Item → Transaction → CommitReply
  reply_at list txn = due_reply (start_in list) (all_effects (commits_since_start list)) txn.begin (effects_of txn)

  -- a transaction that began at a number of the list
  pub record IsBegun (list : List Item) (txn : Transaction) : Type 0 where
    pub schema : txn.schema ≡ o.schema
    pub limit : txn.limit ≡ o.start.limit
    pub from_base : o.start.base ≤ txn.begin
    pub begun : txn.begin ≤ number_in list
    pub snapshot : txn.table ≡ table_at list txn.begin

  -- a history whose commits, and whose start, are those of the list, and whose records are kept where the opening keeps them
  pub record IsOfList (list : List Item) (h : Recorded) : Type 0 where
    pub schema : h.schema ≡ o.schema
    pub start : h.start ≡ start_in list
    pub commits : commits_from_records h.schema h.start [] h.records ≡ commits_since_start list
    pub keeps : h.keeps ≡ o.keeps

  -- a manager whose commits, and whose start, are those of the list, and which keeps records where the opening does
  pub record IsListed (list : List Item) (m : Managed) : Type 0 where
    pub schema : m.schema ≡ o.schema
    pub start : m.start ≡ start_in list
    pub commits : commits_made m ≡ commits_since_start list
    pub from_base : o.start.base ≤ base_in list
    pub based : base_in list ≤ number_in list
    pub keeps : m.keeps ≡ o.keeps
