-- What a commit reply says to the session that asked for it.
use Rattle.std.proofs.Common.{◌≡◌, ℕ, suc, ◌-◌, ◌<◌, ◌≤◌, Bool, true, false, cond, List, [], ◌∷◌, ◌++◌, length, Some, slice_get, refl, sym, ap, ◌∙◌, subst, arith, length-append}
use Rattle.std.specs.Prelude.{nat_lt}
use Rattle.std.specs.List.{list_any}
use Rattle.std.proofs.lemmas.List.{append-nil}
use mathlib.Core.List.{IsPrefix}
use Rattle.model.specs.declared.write.CommitReply.{CommitReply}
use Rattle.model.specs.declared.write.CommitReply.TheVariants.{Committed, Conflict, TooOld, Full}
use Rattle.model.specs.Clashes.{conflicts}
use Rattle.model.specs.Effects.{table_with}
use Rattle.txn.specs.Txn.{Transaction, effects_of}
use Rattle.manager.specs.Managed.{Managed, IsOwn, commits_since, is_too_old, newest_number, newest_table, reply_due}
use Rattle.publishing.specs.declared.item.Item.{Item}
use Rattle.publishing.specs.Commits.{Commit, commit_of}
use Rattle.publishing.specs.Lists.{all_commits, number_in, IsBegun, IsListed}
use Rattle.publishing.proofs.CallerLemmas.{begun_here, own_here, prefix_trans, prefix_length, prefix_get, all_commits-prefix, all_commits-push, begun_more, number_is, reply_here}
use Rattle.shared.specs.Sessions.{HasNumber, IsReplied, StandsAt, number_of}
use Rattle.shared.specs.Stands.{IsGrown}

-- the number in a reply that is due
due_numbered : (old clash full : Bool) (n : ℕ) (reply : CommitReply)
    → reply ≡ cond old (TooOld n) (cond clash (Conflict n) (cond full (Full n) (Committed (suc n)))) → HasNumber reply n
due_numbered true clash full n reply is = subst (λ (r : CommitReply). HasNumber r n) (sym is) refl
due_numbered false true full n reply is = subst (λ (r : CommitReply). HasNumber r n) (sym is) refl
due_numbered false false true n reply is = subst (λ (r : CommitReply). HasNumber r n) (sym is) refl
due_numbered false false false n reply is = subst (λ (r : CommitReply). HasNumber r n) (sym is) refl

pub numbered_due : (m : Managed) (txn : Transaction) (reply : CommitReply) → reply ≡ reply_due m txn → HasNumber reply (newest_number m)
numbered_due m txn reply due =
    due_numbered (is_too_old m txn) (list_any (conflicts m.start.rule (effects_of txn)) (commits_since m txn))
    (nat_lt m.start.limit (length (table_with (newest_table m) (effects_of txn)))) (newest_number m) reply due

-- a list that a reply left no shorter
grown_prefix : (ys zs : List Item) (txn : Transaction) (reply : CommitReply) → IsGrown ys zs txn reply → IsPrefix ys zs
grown_prefix ys zs txn (Committed n) g = (g.0 ∷ [], sym g.1)
grown_prefix ys zs txn (Conflict n) g = ([], append-nil ys ∙ sym g)
grown_prefix ys zs txn (TooOld n) g = ([], append-nil ys ∙ sym g)
grown_prefix ys zs txn (Full n) g = ([], append-nil ys ∙ sym g)

at_end : (cs : List Commit) (c : Commit) → slice_get (cs ++ c ∷ []) (length cs) ≡ Some c
at_end [] c = refl
at_end (x ∷ cs) c = at_end cs c

module _ (o : Managed) where
  number_prefix : (ys zs : List Item) → IsPrefix ys zs → number_in o ys ≤ number_in o zs
  number_prefix ys zs p = let le = prefix_length (all_commits o ys) (all_commits o zs) (all_commits-prefix o ys zs p) in omega (arith, le)

  -- a commit is the last one of the list that it left
  pushed : (ys zs : List Item) (txn : Transaction) (n : ℕ) → IsGrown ys zs txn (Committed n)
      → all_commits o zs ≡ all_commits o ys ++ commit_of txn ∷ []
  pushed ys zs txn n g = ap (all_commits o) g.1 ∙ all_commits-push o ys g.0 ∙ ap (λ (cs : List Commit). all_commits o ys ++ cs) g.2

  grown_number : (ys zs : List Item) (txn : Transaction) (reply : CommitReply) → HasNumber reply (number_in o ys)
      → IsGrown ys zs txn reply → number_of reply ≤ number_in o zs
  grown_number ys zs txn (Committed n) h g =
      let len = ap (λ (cs : List Commit). length cs) (pushed ys zs txn n g) in
      let one = length-append (all_commits o ys) (commit_of txn ∷ []) in
      omega (arith, h, len, one)
  grown_number ys zs txn (Conflict n) h g = let e = ap (number_in o) g in omega (arith, h, e)
  grown_number ys zs txn (TooOld n) h g = let e = ap (number_in o) g in omega (arith, h, e)
  grown_number ys zs txn (Full n) h g = let e = ap (number_in o) g in omega (arith, h, e)

  grown_stands : (ys zs : List Item) (txn : Transaction) (reply : CommitReply) → HasNumber reply (number_in o ys)
      → IsGrown ys zs txn reply → StandsAt o zs (commit_of txn) reply
  grown_stands ys zs txn (Committed n) h g =
      let at : n - suc o.start.base ≡ length (all_commits o ys) = omega (arith, h) in
      (λ i. slice_get (pushed ys zs txn n g i) (at i)) ∙ at_end (all_commits o ys) (commit_of txn)
  grown_stands ys zs txn (Conflict n) h g = tt
  grown_stands ys zs txn (TooOld n) h g = tt
  grown_stands ys zs txn (Full n) h g = tt

  stands_more : (ys zs : List Item) (c : Commit) (reply : CommitReply) → IsPrefix ys zs → StandsAt o ys c reply → StandsAt o zs c reply
  stands_more ys zs c (Committed n) p at =
      prefix_get (all_commits o ys) (all_commits o zs) (n - suc o.start.base) c (all_commits-prefix o ys zs p) at
  stands_more ys zs c (Conflict n) p at = tt
  stands_more ys zs c (TooOld n) p at = tt
  stands_more ys zs c (Full n) p at = tt

  -- the list that a reply left has its number
  pub reached_by : (ys zs : List Item) (m : Managed) (txn : Transaction) (reply : CommitReply) → IsListed o ys m → reply ≡ reply_due m txn →
      IsGrown ys zs txn reply → number_of reply ≤ number_in o zs
  reached_by ys zs m txn reply l due g =
      grown_number ys zs txn reply (subst (HasNumber reply) (number_is o ys m l) (numbered_due m txn reply due)) g

  -- the session had seen xs; the manager's list was ys, and is ys'; the session then has seen zs
  pub replied : (xs ys both ys' zs : List Item) (m : Managed) (txn : Transaction) (reply : CommitReply) →
      IsPrefix xs both → IsPrefix both zs → IsPrefix ys' zs → number_in o xs ≤ number_in o ys → IsBegun o xs txn → IsListed o ys m →
      reply ≡ reply_due m txn → IsGrown ys ys' txn reply → IsReplied o xs zs txn reply
  replied xs ys both ys' zs m txn reply p q told le b l due g =
      let longer = prefix_trans xs both zs p q in
      let number : HasNumber reply (number_in o ys) = subst (HasNumber reply) (number_is o ys m l) (numbered_due m txn reply due) in
      let reached = grown_number ys ys' txn reply number g in
      let more = number_prefix ys' zs told in
      record {
        longer = longer;
        begun = b.begun;
        snapshot = (begun_more o xs zs txn longer b).snapshot;
        decided = ys;
        among = prefix_trans ys ys' zs (grown_prefix ys ys' txn reply g) told;
        caught_up = le;
        due = due ∙ reply_here o ys m l txn;
        numbered = number;
        reached = omega (arith, reached, more);
        stands = stands_more ys' zs (commit_of txn) reply told (grown_stands ys ys' txn reply number g);
      }

  -- a session that begins again after its commit begins past it
  pub begins_after : (xs ys zs : List Item) (txn : Transaction) (n : ℕ) → IsReplied o xs ys txn (Committed n) → IsPrefix ys zs
      → txn.begin < number_in o zs
  begins_after xs ys zs txn n r p =
      let more = number_prefix ys zs p in
      omega (arith, r.begun, r.caught_up, r.numbered, r.reached, more)

-- who has seen more commits than the manager holds has seen more than were held at the opening
pub more_than_held : (o : Managed) (seen list : List Item) → number_in o list < number_in o seen → number_in o [] < number_in o seen
more_than_held o seen list lt = let le = number_prefix o [] list (list, refl) in omega (arith, le, lt)

-- a transaction that began in what was seen is the manager's, whose list is no shorter
pub own_held : (o : Managed) (seen list both : List Item) (m : Managed) (txn : Transaction) → IsPrefix seen both → IsPrefix list both →
    number_in o seen ≤ number_in o list → IsListed o list m → IsBegun o seen txn → IsOwn m txn
own_held o seen list both m txn p q le l b = own_here o list m l txn (begun_here o seen list both txn p q le b)
