-- What waits after each call.
use Rattle.std.proofs.Common.{◌≡◌, ℕ, ◌+◌, ◌<◌, ◌≤◌, ◌^◌, List, [], ◌∷◌, ◌++◌, length, refl, sym, ap, ◌∙◌, subst, arith, Ok}
use Rattle.std.proofs.lemmas.List.{append-nil}
use Rattle.values.specs.Shape.{Columns}
use Rattle.codec.specs.Reading.{entries_in}
use Rattle.model.specs.declared.write.CommitReply.{CommitReply}
use Rattle.model.specs.declared.write.CommitReply.TheVariants.{Committed, Conflict, TooOld, Full}
use Rattle.model.specs.Effects.{AreOver, Effects}
use Rattle.model.specs.Entries.{canonical_entries}
use Rattle.model.specs.History.{table_with_all}
use Rattle.model.specs.Laws.{AreCommits}
use Rattle.model.specs.Table.{Table}
use Rattle.journal.specs.Frame.{Fits, Logged, frame_bytes}
use Rattle.group_commit.specs.Laws.{ABatchGrows}
use Rattle.group_commit.specs.Batch.{IsBatch}
use Rattle.txn.specs.Txn.{IsTransaction, Transaction, effects_of}
use Rattle.manager.specs.Managed.{IsManaged, IsOwn, Managed, reply_due}
use Rattle.manager.proofs.CallerLemmas.{granted_over}
use Rattle.publishing.specs.declared.item.Item.{Item}
use Rattle.publishing.specs.Lists.{IsListed}
use Rattle.publishing.proofs.CallerLemmas.{number_is}
use Rattle.replay.specs.Replayed.{AreSaid}
use Rattle.durable.specs.Durable.{payload_for}
use Rattle.shared.specs.Stands.{IsGrown}
use Rattle.shared.proofs.RepliesLemmas.{numbered_due}
use Rattle.durable_sessions.specs.Queues.{IsQueuedFor}
use Rattle.durable_sessions.specs.Payloads.{effects_in, payloads_from, payloads_in}
use Rattle.durable.specs.Spelled.{IsReadBack, payload_of}
use Rattle.durable_sessions.specs.Staged.{Queued, staged_of}
use Rattle.durable_sessions.proofs.PayloadsLemmas.{commits-append, effects_grown, number_small, payloads-append, payloads_count, said-append, table_after}

module _ (o : Managed) (base seed table : ℕ) (from list : List Item) (q : Queued) (is : IsQueuedFor o base seed table from list q) where
  -- a list of the same commits
  pub queued_same : (new : List Item) → effects_in o new ≡ effects_in o list → IsQueuedFor o base seed table from new q
  queued_same new same = record {
    none = is.none;
    seed_is = is.seed_is;
    table_is = is.table_is;
    base_is = is.base_is;
    spelt = record {
      fit = subst (AreCommits o.schema o.start.table) (sym same) is.spelt.fit;
      said = subst (λ (es : List Effects). AreSaid o.schema table o.start.table es (payloads_from table o.start.table es)) (sym same) is.spelt.said;
    };
    waiting =
        subst (λ (es : List Effects). IsBatch seed base (payloads_in o table from) (payloads_from table o.start.table es) q.waiting)
        (sym same) is.waiting;
  }

  -- nothing is staged, and nothing was
  pub queued_none : (new : List Item) → new ≡ list → IsQueuedFor o base seed table from new (record q { waiting = q.waiting ++ []; staged = [] })
  queued_none new same =
      subst (λ (l : List Item). IsQueuedFor o base seed table from l (record q { waiting = q.waiting ++ []; staged = [] })) (sym same)
      (record {
        none = refl;
        seed_is = is.seed_is;
        table_is = is.table_is;
        base_is = is.base_is;
        spelt = is.spelt;
        waiting =
            subst (λ (b : List ℕ). IsBatch seed base (payloads_in o table from) (payloads_in o table list) b) (sym (append-nil q.waiting))
            is.waiting;
      })

  -- what was staged is given up
  pub queued_unstaged : (q1 q2 : Queued) (staged : List ℕ) → q1 ≡ record q { staged = staged } → q2 ≡ record q1 { staged = [] }
      → IsQueuedFor o base seed table from list q2
  queued_unstaged q1 q2 staged e1 e2 =
      subst (IsQueuedFor o base seed table from list) (sym (e2 ∙ ap (λ (p : Queued). record p { staged = [] }) e1))
      (record {
        none = refl;
        seed_is = is.seed_is;
        table_is = is.table_is;
        base_is = is.base_is;
        spelt = is.spelt;
        waiting = is.waiting;
      })

  module _ (goes_on : ABatchGrows) (m : Managed) (h : IsManaged m) (l : IsListed o list m) (txn : Transaction) (k : IsTransaction txn)
      (own : IsOwn m txn) (synced : ℕ) (small : synced < 2 ^ 64) (known : synced ≤ base + length (payloads_in o table from)) where
    joins : (n : ℕ) (new : List Item) → Committed n ≡ reply_due m txn → IsReadBack m table txn (Committed n)
        → IsGrown list new txn (Committed n)
        → IsQueuedFor o base seed table from new
        (record q { waiting = q.waiting ++ staged_of seed table m txn synced (Committed n); staged = [] })
    joins n new due back g =
        let t = o.start.table in
        let x = effects_of txn in
        let old = effects_in o list in
        let more : effects_in o new ≡ old ++ x ∷ [] = ap (effects_in o) g.1 ∙ effects_grown o list g.0 txn g.2 in
        let here = table_after o list m l in
        let over : AreOver o.schema (table_with_all t old) x =
        subst (λ (e : Columns × Table). AreOver e.0 e.1 x) (λ i. (l.schema i, here i)) (granted_over m txn h k own n due) in
        let one : entries_in o.schema table (payload_for table (canonical_entries (table_with_all t old) x))
        ≡ Ok (canonical_entries (table_with_all t old) x) =
        subst (λ (e : Columns × Table). entries_in e.0 table (payload_for table (canonical_entries e.1 x)) ≡ Ok (canonical_entries e.1 x))
        (λ i. (l.schema i, here i)) back.1 in
        let frame : Logged = record { number = n; synced = synced; payload = payload_of table m txn } in
        let number = numbered_due m txn (Committed n) due in
        let at = number_is o list m l in
        let count = payloads_count o table list in
        let from_base = is.base_is in
        let few = number_small m h in
        let fits : Fits frame = record { number = omega (arith, number, few); synced = small; size = back.0 } in
        let waits = goes_on seed base (payloads_in o table from) (payloads_in o table list) q.waiting frame is.waiting
        (omega (arith, number, at, count, from_base)) fits known in
        let payloads : payloads_in o table list ++ payload_of table m txn ∷ [] ≡ payloads_in o table new =
        ap (λ (s : Table). payloads_in o table list ++ payload_for table (canonical_entries s x) ∷ []) here
        ∙ sym (payloads-append table t old x)
        ∙ sym (ap (payloads_from table t) more) in
        record {
          none = refl;
          seed_is = is.seed_is;
          table_is = is.table_is;
          base_is = is.base_is;
          spelt = record {
            fit = subst (AreCommits o.schema t) (sym more) (commits-append o.schema t old x is.spelt.fit over);
            said =
                subst (λ (es : List Effects). AreSaid o.schema table t es (payloads_from table t es)) (sym more)
                (subst (AreSaid o.schema table t (old ++ x ∷ [])) (sym (payloads-append table t old x))
                (said-append o.schema table t old (payloads_in o table list) x _ is.spelt.said one));
          };
          waiting =
              subst (λ (p : List (List ℕ)). IsBatch seed base (payloads_in o table from) p (q.waiting ++ frame_bytes seed frame)) payloads waits;
        }

    -- a commit was decided and published, and its frame waits
    pub queued_commit : (reply : CommitReply) (new : List Item) → reply ≡ reply_due m txn → IsReadBack m table txn reply
        → IsGrown list new txn reply
        → IsQueuedFor o base seed table from new
        (record q { waiting = q.waiting ++ staged_of seed table m txn synced reply; staged = [] })
    queued_commit (Committed n) new due back g = joins n new due back g
    queued_commit (Conflict n) new due back g = queued_none new g
    queued_commit (TooOld n) new due back g = queued_none new g
    queued_commit (Full n) new due back g = queued_none new g

    -- the queue that was staged, and then appended
    pub queued_after : (reply : CommitReply) (new : List Item) (q1 q2 : Queued) → reply ≡ reply_due m txn
        → IsReadBack m q.table txn reply → IsGrown list new txn reply
        → q1 ≡ record q { staged = staged_of q.seed q.table m txn synced reply }
        → q2 ≡ record q1 { waiting = q1.waiting ++ q1.staged; staged = [] }
        → IsQueuedFor o base seed table from new q2
    queued_after reply new q1 q2 due back g e1 e2 =
        let whole : q2 ≡ record q { waiting = q.waiting ++ staged_of seed table m txn synced reply; staged = [] } =
        e2
        ∙ ap (λ (p : Queued). record p { waiting = p.waiting ++ p.staged; staged = [] }) e1
        ∙ (λ i. record q { waiting = q.waiting ++ staged_of (is.seed_is i) (is.table_is i) m txn synced reply; staged = [] }) in
        subst (IsQueuedFor o base seed table from new) (sym whole)
        (queued_commit reply new due (subst (λ n. IsReadBack m n txn reply) is.table_is back) g)
