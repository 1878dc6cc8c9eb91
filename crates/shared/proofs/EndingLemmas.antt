-- What cuts have handed out, and what the manager still has.
use Rattle.std.specs.Prelude.{IfOk}
use Rattle.std.proofs.Common.{◌≡◌, ◌+◌, ◌-◌, ◌≤◌, Result, Ok, Err, List, [], ◌∷◌, ◌++◌, length, take, refl, sym, ap, ◌∙◌, arith, length-append, append_assoc}
use Rattle.std.proofs.lemmas.List.{append-nil}
use Rattle.std.proofs.lemmas.List.Elements.{All-nil}
use mathlib.Core.List.{IsPrefix}
use Rattle.values.specs.Shape.{Columns}
use Rattle.model.specs.declared.write.CommitReply.{CommitReply}
use Rattle.model.specs.declared.write.CommitReply.TheVariants.{Committed, Conflict, TooOld, Full}
use Rattle.model.specs.Effects.{Effects}
use Rattle.model.specs.History.{Start, Record, commits_after, commits_from, commits_with, effects_of_record, table_with_all}
use Rattle.txn.specs.Version.{Lower}
use Rattle.manager.specs.Managed.{Managed, cut_of, with_layers, with_record}
use Rattle.publishing.specs.Commits.{all_effects}
use Rattle.manager.specs.History.{Recorded}
use Rattle.publishing.specs.declared.item.Item.{Item}
use Rattle.publishing.specs.Lists.{IsOfList, all_commits, base_in}
use Rattle.publishing.proofs.CallerLemmas.{listed_at_opening}
use Rattle.shared.specs.Endings.{AreOfOneList, GoesOn, IsClosed, IsHandedOut, commits_by, count_commits}
use Rattle.shared.specs.Sessions.{Seat}

count_commits-append : (xs ys : List Record) → count_commits (xs ++ ys) ≡ count_commits xs + count_commits ys
count_commits-append [] ys = omega arith
count_commits-append (r ∷ xs) ys = let rest = count_commits-append xs ys in omega (arith, rest)

length-commits_with : (before : List Effects) (effects : Effects) (reply : CommitReply)
    → length (commits_with before effects reply) ≡ length before + commits_by reply
length-commits_with before effects (Committed n) = length-append before (effects ∷ [])
length-commits_with before effects (Conflict n) = omega arith
length-commits_with before effects (TooOld n) = omega arith
length-commits_with before effects (Full n) = omega arith

module _ (schema : Columns) (start : Start) where
  length-commits_from : (before : List Effects) (history : List Record)
      → length (commits_from schema start before history) ≡ length before + count_commits history
  length-commits_from before [] = omega arith
  length-commits_from before (r ∷ history) =
      let one = length-commits_with before (effects_of_record schema start before r) r.reply in
      let rest = length-commits_from (commits_after schema start before r) history in
      omega (arith, one, rest)

pub goes_on-self : (m : Managed) → GoesOn m m
goes_on-self m = record { handed = []; added = []; records = sym (append-nil m.history); made = omega arith; base = omega arith }

module _ (o m : Managed) (g : GoesOn o m) where
  pub goes_on-record : (r : Record) → GoesOn o (with_record m r)
  goes_on-record r =
      let made = g.made in
      let len = length-append g.added (r ∷ []) in
      record {
        handed = g.handed;
        added = g.added ++ r ∷ [];
        records =
            sym (append_assoc g.handed m.history (r ∷ []))
            ∙ ap (λ (rs : List Record). rs ++ r ∷ []) g.records
            ∙ append_assoc o.history g.added (r ∷ []);
        made = omega (arith, made, len);
        base = g.base;
      }

  pub goes_on-over : (layers : Lower) → GoesOn o (with_layers m layers)
  goes_on-over layers = record { handed = g.handed; added = g.added; records = g.records; made = g.made; base = g.base }

  pub goes_on-cut : GoesOn o (cut_of m)
  goes_on-cut =
      let base = g.base in
      let len = length-commits_from m.schema m.start [] m.history in
      let both = count_commits-append g.handed m.history in
      record {
        handed = g.handed ++ m.history;
        added = g.added;
        records = append-nil (g.handed ++ m.history) ∙ g.records;
        made = g.made;
        base = omega (arith, base, len, both);
      }

  handed_count : length g.handed + length m.history ≡ length o.history + length g.added
  handed_count =
      let all = ap (λ (rs : List Record). length rs) g.records in
      let left = length-append g.handed m.history in
      let right = length-append o.history g.added in
      omega (arith, all, left, right)

  pub goes_on-made : o.made + length m.history ≤ length o.history + m.made
  goes_on-made =
      let count = handed_count in
      let made = g.made in
      omega (arith, count, made)

no_records : (xs : List Record) → length xs ≡ 0 → xs ≡ []
no_records [] none = refl
no_records (x ∷ xs) none = absurd (omega (arith, none))

-- where no cut took a record
pub keeps_all : (o : Managed) (seats : List Seat) (m : Managed) → IsClosed o seats m
    → length o.history + m.made ≡ length m.history + o.made →
    (m.start ≡ o.start) × IsPrefix o.history m.history
keeps_all o seats m c all =
    let g = c.goes_on in
    let count = handed_count o m g in
    let made = g.made in
    let none : g.handed ≡ [] = no_records g.handed (omega (arith, count, made, all)) in
    let base = g.base in
    let no_commits = ap count_commits none in
    let from = ap (λ (s : Start). s.base) c.listed.start in
    let same : base_in o c.list ≡ o.start.base = omega (arith, base, no_commits, from) in
    let nothing : base_in o c.list - o.start.base ≡ 0 = omega (arith, same) in (
      c.listed.start
          ∙ (λ i. record {
            table = table_with_all o.start.table (take (nothing i) (all_effects (all_commits o c.list)));
            base = same i;
            limit = o.start.limit;
            recent = o.start.recent;
            rule = o.start.rule;
          }),
      (g.added, sym g.records ∙ ap (λ (rs : List Record). rs ++ m.history) none),
    )

-- nothing has happened since the opening
pub closed_at_opening : (o : Managed) → IsClosed o [] o
closed_at_opening o =
    record
    { list = []; listed = listed_at_opening o; seen = All-nil (λ (s : Seat). AreOfOneList s.seen []); goes_on = goes_on-self o }

-- what a cut hands out under the lock is of the opening
pub handed_on : {E : Type 0} (o : Managed) (list : List Item) (r : Result Recorded E) → IfOk r (λ h. IsOfList o list h)
    → IfOk r (λ h. IsHandedOut o h)
handed_on o list (Ok h) is = (list, is)
handed_on o list (Err e) is = tt
