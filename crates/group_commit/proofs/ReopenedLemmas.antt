-- Older frames, and what is written behind them.
use Rattle.std.proofs.Common.{◌≡◌, ℕ, zero, suc, ◌+◌, ◌-◌, ◌≤◌, List, [], ◌∷◌, ◌++◌, length, take, drop, sym, ap, ◌∙◌, subst, arith, length-append}
use mathlib.Core.List.{IsPrefix}
use Rattle.std.proofs.Math.Seq.{take-append-add}
use Rattle.std.proofs.lemmas.Grind.{flat_map-append}
use Rattle.std.proofs.lemmas.List.{append_assoc, length-map, length-take, map-append, take-append-drop, take-map}
use Rattle.std.proofs.lemmas.List.Elements.{All-append, All-take}
use Rattle.journal.specs.Frame.{AreLogged, Logged, frame_bytes, journal_bytes}
use Rattle.journal.specs.Laws.{ACrashLeavesWholeFrames, AJournalGoesOn}
use Rattle.group_commit.specs.Laws.{ACrashLeavesWhatIsWritten}
use Rattle.group_commit.specs.Reopened.{ACrashLeavesOlderFrames, AReopenedJournalIsOne}
use Rattle.group_commit.specs.Batch.{SyncedAtMost, payloads_of}
use Rattle.group_commit.proofs.GroupLogLemmas.{count_of, say_more}

pub a_reopened_journal_is_one : AJournalGoesOn → AReopenedJournalIsOne
a_reopened_journal_is_one goes_on front base seed older device written tried are h =
    let first = journal_bytes seed older in
    let frames = journal_bytes seed h.logged in
    let part = take h.taken (journal_bytes seed h.more) in
    let whole : (older ++ h.logged) ++ h.more ≡ older ++ (h.logged ++ h.more) = append_assoc older h.logged h.more in
    let both : journal_bytes seed (older ++ h.logged) ≡ first ++ frames = flat_map-append (frame_bytes seed) older h.logged in
    let later : AreLogged ((base + 1) + length older) (h.logged ++ h.more) =
    subst (λ n. AreLogged n (h.logged ++ h.more)) (omega arith) h.numbered in
    let numbered : AreLogged (base + 1) (older ++ (h.logged ++ h.more)) = (goes_on seed (base + 1) older (h.logged ++ h.more) are.numbered later).0 in
    let joined : (front ++ first) ++ frames ≡ front ++ journal_bytes seed (older ++ h.logged) =
    append_assoc front first frames ∙ ap (λ (b : List ℕ). front ++ b) (sym both) in
    let size = ap (λ (b : List ℕ). length b) joined in
    let safe = h.safe in
    let count : length (payloads_of older ++ written) ≡ length older + length written =
    length-append (payloads_of older) written ∙ ap (λ n. n + length written) (length-map _ _) in
    let n = base + length (payloads_of older ++ written) in
    record {
      logged = older ++ h.logged;
      more = h.more;
      numbered = subst (AreLogged (base + 1)) (sym whole) numbered;
      written_are = map-append (λ (l : Logged). l.payload) older h.logged ∙ ap (λ (p : List (List ℕ)). payloads_of older ++ p) h.written_are;
      tried_are =
          ap payloads_of whole ∙ map-append (λ (l : Logged). l.payload) older (h.logged ++ h.more)
          ∙ ap (λ (p : List (List ℕ)). payloads_of older ++ p) h.tried_are;
      taken = h.taken;
      appended =
          h.appended
          ∙ sym (append_assoc (front ++ first) frames part)
          ∙ ap (λ (b : List ℕ). b ++ part) joined
          ∙ append_assoc front (journal_bytes seed (older ++ h.logged)) part;
      safe = omega (arith, size, safe);
      known =
          subst (SyncedAtMost n) (sym whole)
          (All-append (λ (l : Logged). l.synced ≤ n) older (h.logged ++ h.more)
          (say_more (base + length older) n older (omega (arith, count)) are.known)
          (say_more ((base + length older) + length written) n (h.logged ++ h.more) (omega (arith, count)) h.known));
    }

are_taken : (n next : ℕ) (logged : List Logged) → AreLogged next logged → AreLogged next (take n logged)
are_taken zero next logged are = tt
are_taken (suc n) next [] are = tt
are_taken (suc n) next (l ∷ logged) are = (are.0, are.1, are_taken n (next + 1) logged are.2)

-- so many of a list have a beginning that is no longer
prefix_taken : (xs ys zs : List (List ℕ)) (n : ℕ) → zs ≡ xs ++ ys → length xs ≤ n → IsPrefix xs (take n zs)
prefix_taken xs ys zs n is le =
    let split : n ≡ length xs + (n - length xs) = omega (arith, le) in (
      take (n - length xs) ys,
      sym (ap (take n) is ∙ ap (λ k. take k (xs ++ ys)) split ∙ take-append-add xs ys (n - length xs)),
    )

pub a_crash_leaves_older_frames : ACrashLeavesWhatIsWritten → ACrashLeavesWholeFrames → ACrashLeavesOlderFrames
a_crash_leaves_older_frames law reads front base seed device written tried bytes h small few left =
    let found = law front base seed device written tried bytes h left in
    let logged = found.2 in
    let numbered : AreLogged (base + 1) logged = found.3 in
    let is : payloads_of logged ≡ tried = found.4 in
    let known : SyncedAtMost (base + length written) logged = found.6 in
    let count : length logged ≡ length tried = count_of logged tried is in
    let tail : tried ≡ written ++ payloads_of h.more =
    sym h.tried_are ∙ map-append (λ (l : Logged). l.payload) h.logged h.more ∙ ap (λ (p : List (List ℕ)). p ++ payloads_of h.more) h.written_are in (
      found.0,
      found.1,
      logged,
      λ chance.
          let read = reads seed (base + 1) logged (length written) found.0 small (omega (arith, few, count)) numbered (found.5 chance) in
          let whole = read.0 in
          let safe = read.1 in
          let within = read.2 in
          let older = take whole logged in
          let long : length older ≡ whole = omega (arith, length-take whole logged, within) in
          let taken : payloads_of older ≡ take whole tried =
          sym (take-map (λ (l : Logged). l.payload) whole logged) ∙ ap (take whole) is in
          record {
            older = older;
            rest = read.3;
            ending = read.4;
            reads = read.5;
            sound = read.6;
            spelt = read.7;
            are_older = record {
              numbered = are_taken whole (base + 1) logged numbered;
              known =
                  say_more (base + length written) (base + length older) older (omega (arith, safe, long))
                  (All-take (λ (l : Logged). l.synced ≤ base + length written) whole logged known);
            };
            all = subst (IsPrefix written) (sym taken) (prefix_taken written (payloads_of h.more) tried whole tail safe);
            few = (drop whole tried, ap (λ (p : List (List ℕ)). p ++ drop whole tried) taken ∙ take-append-drop whole tried);
          },
    )
