-- What is left of the manager that sessions shared.
use Rattle.std.specs.Prelude.{◌≡◌, ℕ, ◌+◌, List, [], ◌∷◌, ◌++◌, All, length}
use mathlib.Core.List.{IsPrefix}
use Rattle.model.specs.declared.write.CommitReply.{CommitReply}
use Rattle.model.specs.declared.write.CommitReply.TheVariants.{Committed, Conflict, TooOld, Full}
use Rattle.model.specs.History.{Record}
use Rattle.manager.specs.Managed.{Managed}
use Rattle.publishing.specs.declared.item.Item.{Item}
use Rattle.manager.specs.History.{Recorded}
use Rattle.publishing.specs.Lists.{IsListed, IsOfList}
use Rattle.shared.specs.Sessions.{Seat}

-- how many commits a reply grants
abbrev pub commits_by : CommitReply → ℕ
commits_by (Committed n) = 1
commits_by (Conflict n) = 0
commits_by (TooOld n) = 0
commits_by (Full n) = 0

-- how many of the records are commits
abbrev pub count_commits : List Record → ℕ
count_commits [] = 0
count_commits (r ∷ records) = commits_by r.reply + count_commits records

-- a manager goes on from what it was: the records that cuts have handed out since, and those that it has, are those that it
-- had and those that it made since, and its history starts past the commits among those handed out
pub record GoesOn (old new : Managed) : Type 0 where
  pub handed : List Record
  pub added : List Record
  pub records : handed ++ new.history ≡ old.history ++ added
  pub made : new.made ≡ old.made + length added
  pub base : new.start.base ≡ old.start.base + count_commits handed

-- a history that was handed out is of this opening: it is under the same schema, limits and rule, and some published list has
-- its start, at the list's last cut or where it started at the opening, over the table of that number, and its commits since
abbrev pub IsHandedOut : Managed → Recorded → Type 0
IsHandedOut o history = (list : List Item) × IsOfList o list history

-- both are beginnings of one published list
abbrev pub AreOfOneList : List Item → List Item → Type 0
AreOfOneList xs ys = (zs : List Item) × IsPrefix xs zs × IsPrefix ys zs

-- the manager that comes back is the one of the opening as its published list has left it: the schema, the limits and the rule
-- are the same, its history starts at the list's last cut, or where it started, over the table of that number, and its commits
-- are those of the list since. What each session has seen is a beginning of the same list
pub record IsClosed (o : Managed) (seats : List Seat) (m : Managed) : Type 0 where
  pub list : List Item
  pub listed : IsListed o list m
  pub seen : All (λ (s : Seat). AreOfOneList s.seen list) seats
  pub goes_on : GoesOn o m

-- and another list is a beginning of the same one
abbrev pub IsClosedWith : Managed → List Seat → Managed → List Item → Type 0
IsClosedWith o seats m also = (closed : IsClosed o seats m) × AreOfOneList also closed.list
