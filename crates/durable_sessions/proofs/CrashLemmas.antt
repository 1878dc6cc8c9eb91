-- What a crash leaves.
use Rattle.std.proofs.Common.{◌≡◌, ℕ, ◌+◌, ◌-◌, ◌≤◌, ◌^◌, List, [], ◌∷◌, ◌++◌, length, length-append, map, refl, sym, ap, ◌∙◌, subst, arith}
use Rattle.std.proofs.lemmas.List.{length-map}
use Rattle.values.specs.Shape.{Columns}
use Rattle.codec.specs.Reading.{decoded}
use Rattle.model.specs.declared.entry.Entry.{Entry}
use Rattle.model.specs.Effects.{Effects, table_with}
use Rattle.model.specs.History.{table_with_all}
use Rattle.model.specs.Laws.{AreCommits}
use Rattle.model.specs.Table.{Table}
use Rattle.journal.specs.Frame.{Logged, journal_bytes}
use Rattle.journal.specs.Laws.{IsSeed}
use Rattle.logging.specs.Device.{Device}
use Rattle.logging.specs.Left.{IsNoChance, MayLeave}
use Rattle.group_commit.specs.GroupLog.{HoldsNow}
use Rattle.group_commit.specs.Laws.{ACrashLeavesWhatIsWritten}
use Rattle.group_commit.specs.Laws as group_commit
use Rattle.group_commit.specs.Reopened.{AReopenedJournalIsOne}
use Rattle.group_commit.specs.Batch.{IsBatch, SyncedAtMost, payloads_of}
use Rattle.publishing.specs.Lists.{number_in}
use Rattle.replay.specs.Recovered.{IsCrashed}
use Rattle.replay.specs.Replayed.{AreSaid}
use Rattle.durable_sessions.specs.Laws.{ABatchAtAnyMoment, ACrashLeavesWhatIsAcknowledged, ACrashOfAReopenedJournal}
use Rattle.durable_sessions.specs.Payloads.{effects_in, payloads_in}
use Rattle.durable_sessions.proofs.PayloadsLemmas.{payloads_count, said-trees}

pub at_any_moment : group_commit.ABatchAtAnyMoment → ABatchAtAnyMoment
at_any_moment law o table front seed d written to bytes now same held sound waiting midst =
    subst (λ (w : List (List ℕ)). HoldsNow front o.start.base seed now w (payloads_in o table to)) same
    (law front o.start.base seed d (payloads_in o table to) bytes now held sound
    (subst (λ (w : List (List ℕ)). IsBatch seed o.start.base w (payloads_in o table to) bytes) (sym same) waiting) midst)

decoded_each : (decode : List ℕ → List Entry) (logged : List Logged) → map (λ (l : Logged). decode l.payload) logged ≡ map decode (payloads_of logged)
decoded_each decode [] = refl
decoded_each decode (l ∷ logged) = ap (λ (es : List (List Entry)). decode l.payload ∷ es) (decoded_each decode logged)

-- what the device holds is the payloads of commits: a crash leaves what recovery asks for
recovered : ACrashLeavesWhatIsWritten → (schema : Columns) (table : ℕ) (t : Table) (commits : List Effects)
    (front : List ℕ) (base seed : ℕ) (device : Device) (written tried : List (List ℕ)) (bytes : List ℕ)
    → HoldsNow front base seed device written tried → AreCommits schema t commits → AreSaid schema table t commits tried
    → IsSeed seed → (base + 1) + length tried ≤ 2 ^ 63
    → (left : MayLeave device.appended device.safe bytes)
    → (rest : List ℕ) × (bytes ≡ front ++ rest) × (logged : List Logged)
    × (IsNoChance seed (base + 1) logged (left.size - length front) left.other rest
    → (crash : IsCrashed (decoded schema table) schema seed base t commits (length written) rest)
    × AreSaid schema table t commits (map (λ l. l.payload) crash.logged))
    × SyncedAtMost (base + length written) logged
recovered law schema table t commits front base seed device written tried bytes held fit said small few left =
    let found = law front base seed device written tried bytes held left in
    let logged = found.2 in
    let is : payloads_of logged ≡ tried = found.4 in
    let decode = decoded schema table in
    let count : length logged ≡ length tried = sym (length-map _ _) ∙ ap (λ (p : List (List ℕ)). length p) is in
    let again : AreSaid schema table t commits (payloads_of logged) = subst (AreSaid schema table t commits) (sym is) said in (
      found.0,
      found.1,
      logged,
      (λ chance. (
        record {
          small = small;
          logged = logged;
          logs = record {
            commits_fit = fit;
            numbered = found.3;
            entries = decoded_each decode logged ∙ said-trees schema table t commits (payloads_of logged) again;
          };
          few = omega (arith, few, count);
          left = found.5 chance;
        },
        again,
      )),
      found.6,
    )

pub the_acknowledged : ACrashLeavesWhatIsWritten → ACrashLeavesWhatIsAcknowledged
the_acknowledged law o table front seed device written tried bytes lasts spelt small few left =
    let base = o.start.base in
    let number = payloads_count o table tried in
    let safe = payloads_count o table written in
    let commits = effects_in o tried in
    let found = recovered law o.schema table o.start.table commits front base seed device (payloads_in o table written)
    (payloads_in o table tried) bytes lasts spelt.fit spelt.said small (omega (arith, few, number)) left in (
      found.0,
      found.1,
      found.2,
      (λ chance. subst
          (λ (s : ℕ). (crash : IsCrashed (decoded o.schema table) o.schema seed base o.start.table commits s found.0)
          × AreSaid o.schema table o.start.table commits (map (λ l. l.payload) crash.logged))
          (omega (arith, safe)) (found.3 chance)),
      subst (λ (n : ℕ). SyncedAtMost n found.2) (sym safe) found.4,
    )

-- ---- a journal that is opened again

commits-join : (schema : Columns) (t : Table) (xs ys : List Effects) → AreCommits schema t xs → AreCommits schema (table_with_all t xs) ys
    → AreCommits schema t (xs ++ ys)
commits-join schema t [] ys h k = k
commits-join schema t (x ∷ xs) ys h k = (h.0, commits-join schema (table_with t x) xs ys h.1 k)

said-join : (schema : Columns) (table : ℕ) (t : Table) (xs ys : List Effects) (ps qs : List (List ℕ)) → AreSaid schema table t xs ps
    → AreSaid schema table (table_with_all t xs) ys qs → AreSaid schema table t (xs ++ ys) (ps ++ qs)
said-join schema table t [] ys [] qs h k = k
said-join schema table t (x ∷ xs) ys (p ∷ ps) qs h k = (h.0, said-join schema table (table_with t x) xs ys ps qs h.1 k)
said-join schema table t [] ys (p ∷ ps) qs h k = absurd h
said-join schema table t (x ∷ xs) ys [] qs h k = absurd h

pub the_reopened : AReopenedJournalIsOne → ACrashLeavesWhatIsWritten → ACrashOfAReopenedJournal
the_reopened one law o table front seed base t older_commits older whole device written tried bytes is lasts spelt small few left =
    let wrote = payloads_in o table written in
    let tries = payloads_in o table tried in
    let held : HoldsNow (front ++ journal_bytes seed older) (base + length older) seed device wrote tries =
    subst (λ (e : List ℕ × ℕ). HoldsNow e.0 e.1 seed device wrote tries) (λ i. (is.front_is i, is.base_is i)) lasts in
    let both : HoldsNow front base seed device (payloads_of older ++ wrote) (payloads_of older ++ tries) =
    one front base seed older device wrote tries is.are_older held in
    let commits = older_commits ++ effects_in o tried in
    let fit : AreCommits o.schema t commits =
    commits-join o.schema t older_commits (effects_in o tried) is.fit
    (subst (λ (s : Table). AreCommits o.schema s (effects_in o tried)) is.table_is spelt.fit) in
    let said : AreSaid o.schema table t commits (payloads_of older ++ tries) =
    said-join o.schema table t older_commits (effects_in o tried) (payloads_of older) tries is.said
    (subst (λ (s : Table). AreSaid o.schema table s (effects_in o tried) tries) is.table_is spelt.said) in
    let base_is = is.base_is in
    let older_count : length (payloads_of older) ≡ length older = length-map _ _ in
    let tried_count : length (payloads_of older ++ tries) ≡ length older + length tries =
    (let e = length-append (payloads_of older) tries in omega (arith, e, older_count)) in
    let written_count : length (payloads_of older ++ wrote) ≡ length older + length wrote =
    (let e = length-append (payloads_of older) wrote in omega (arith, e, older_count)) in
    let number = payloads_count o table tried in
    let safe = payloads_count o table written in
    let found = recovered law o.schema table t commits front base seed device (payloads_of older ++ wrote) (payloads_of older ++ tries) bytes both
    fit said small (omega (arith, few, number, base_is, tried_count)) left in
    let enough : base + length (payloads_of older ++ wrote) ≡ number_in o written = omega (arith, safe, base_is, written_count) in (
      found.0,
      found.1,
      found.2,
      (λ chance. subst
          (λ (s : ℕ). (crash : IsCrashed (decoded o.schema table) o.schema seed base t commits s found.0)
          × AreSaid o.schema table t commits (map (λ l. l.payload) crash.logged))
          (omega (arith, enough)) (found.3 chance)),
      subst (λ (n : ℕ). SyncedAtMost n found.2) enough found.4,
    )
