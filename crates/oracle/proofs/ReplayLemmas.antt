-- Where the writes fit the schema, a history whose records are due is legal; and a legal one is due, where none began below.
use Rattle.std.proofs.Common.{◌≡◌, ◌∙◌, ℕ, zero, suc, ◌+◌, ◌<◌, ◌≤◌, Bool, true, false, cond, ◌&&◌, Option, Some, None, List, [], ◌∷◌, map, length, refl, sym, ap, subst, arith}
use Rattle.std.specs.Prelude.{IsTrue, IsSomeAnd, nat_le, slice_get}
use Rattle.std.specs.List.{list_all}
use Rattle.std.proofs.lemmas.Bool.Decides.{nat_tests}
use Rattle.values.specs.Shape.{Columns}
use Rattle.model.specs.Table.{Table, IsTable}
use Rattle.model.specs.Effects.{Effects}
use Rattle.model.specs.History.{table_after, Start, Record, writes_of, due_reply, commits_with, effects_of_record, IsSnapshot, IsLegalRecord, IsLegalFrom, commits_after}
use Rattle.values.specs.Orders.{key_cmp}
use Rattle.model.specs.declared.write.Write.{Write}
use Rattle.model.specs.declared.write.WriteReply.{WriteReply}
use Rattle.model.specs.declared.write.CommitReply.{CommitReply}
use Rattle.model.specs.Maps.{alter}
use Rattle.model.specs.Composition.{composed_effect}
use Rattle.model.specs.Writes.{write_fits_schema, key_of_write, effect_of_write, is_done, effects_after, effects_after_all}
use Rattle.model.proofs.CallerLemmas.{IsSnapshot-table_after, IsSnapshot-any, due_reply-cut, left_true, right_true}
use Rattle.oracle.specs.Replay.{GotDueReplies, effects_when, effects_when_all, keyed_by, snapshot_at, IsDue, IsDueAs, AreDueFrom, AllFitSchema, AreTables, AllBeginFrom}

-- ---- one record

-- an older table is one of the schema
older_is : (schema : Columns) (older : List Table) (k : ℕ) (t : Table) → AreTables schema older → slice_get older k ≡ Some t →
    IsTable schema t
older_is schema [] k t h at = cc
older_is schema (s ∷ older) zero t h at = let same : s ≡ t = cc in subst (IsTable schema) same h.0
older_is schema (s ∷ older) (suc k) t h at = older_is schema older k t h.1 at

-- the value of which something holds
some_and : {A : Type 0} (o : Option A) (P : A → Type 0) → IsSomeAnd o P → (v : A) × (o ≡ Some v) × P v
some_and None P h = absurd h
some_and (Some v) P h = (v, refl, h)

module _ (schema : Columns) (start : Start) (older : List Table) where
  -- a record that is due is legal, where its writes fit and the older tables are of the schema
  to_legal : (commits : List Effects) (r : Record) → IsTrue (list_all (write_fits_schema schema) (writes_of r)) →
      AreTables schema older → IsDue schema.key_cols start older commits r → IsLegalRecord schema start commits r
  to_legal commits r fitting tables due =
      elim (nat_le start.base r.begin) as (λ b. nat_le start.base r.begin ≡ b → Answered b → IsLegalRecord schema start commits r) [
        | true ↦ λ is answered. over now (IsSnapshot-table_after schema start commits r.begin (above is)) answered
        | false ↦ λ is answered.
            let found = some_and (slice_get older r.begin) Got answered in
            let table = older_is schema older r.begin found.0 tables found.1 in
            over found.0 (IsSnapshot-any schema start commits r.begin found.0 (below is) table) found.2
      ] refl due.answered
    where
      now : Table
      now = table_after start commits r.begin

      Got : Table → Type 0
      Got t = GotDueReplies schema.key_cols start.limit t [] r.writes

      Answered : Bool → Type 0
      Answered b = IsSomeAnd (cond b (Some now) (slice_get older r.begin)) Got

      above : nat_le start.base r.begin ≡ true → start.base ≤ r.begin
      above is = grind (arith, nat_tests)

      below : nat_le start.base r.begin ≡ false → r.begin < start.base
      below is = grind (arith, nat_tests)

      over : (t : Table) → IsSnapshot schema start commits r.begin t → Got t → IsLegalRecord schema start commits r
      over t is got = record {
        begun = due.begun;
        fitting = fitting;
        snapshot = t;
        is_snapshot = is;
        answered = got;
        replied = due.replied;
      }

  -- and a legal one that began at the base or later is due
  to_due : (commits : List Effects) (r : Record) → nat_le start.base r.begin ≡ true →
      IsLegalRecord schema start commits r → IsDue schema.key_cols start older commits r
  to_due commits r above legal =
      let at : start.base ≤ r.begin = grind (arith, nat_tests) in
      let same : legal.snapshot ≡ table_after start commits r.begin = legal.is_snapshot.kept at in
      let Got : Table → Type 0 = λ t. GotDueReplies schema.key_cols start.limit t [] r.writes in
      let P : Bool → Type 0 = λ b. IsSomeAnd (cond b (Some (table_after start commits r.begin)) (slice_get older r.begin)) Got in
      record { begun = legal.begun; answered = subst P (sym above) (subst Got same legal.answered); replied = legal.replied }

  -- ---- all records

  pub legal-due : (commits : List Effects) (history : List Record) → AllFitSchema schema history → AreTables schema older →
      AreDueFrom schema.key_cols start older commits history → IsLegalFrom schema start commits history
  legal-due commits [] fitting tables due = tt
  legal-due commits (r ∷ history) fitting tables due = (
    to_legal commits r (left_true _ _ fitting) tables due.0,
    legal-due (commits_after schema start commits r) history (right_true _ _ fitting) tables due.1,
  )

  pub due-legal : (commits : List Effects) (history : List Record) → AllBeginFrom start.base history →
      IsLegalFrom schema start commits history → AreDueFrom schema.key_cols start older commits history
  due-legal commits [] above legal = tt
  due-legal commits (r ∷ history) above legal = (
    to_due commits r (left_true _ _ above) legal.0,
    due-legal (commits_after schema start commits r) history (right_true _ _ above) legal.1,
  )

-- ---- the record at hand

module _ (key_cols : ℕ) (start : Start) (older : List Table) (commits : List Effects) (r : Record) where
  -- the writes were answered over a table that was found
  abbrev Answered : Option Table → Type 0
  Answered o = IsSomeAnd o (λ t. GotDueReplies key_cols start.limit t [] r.writes)

  -- the table of its number is there, and these are the effects of its writes over it
  module _ (t : Table) (found : snapshot_at start older commits r.begin ≡ Some t)
      (effects : Effects) (effects_are : effects ≡ effects_after_all key_cols start.limit t [] (writes_of r)) where
    -- the effects over the snapshot are those of the record, where it began at the base or later
    same_effects : start.base ≤ r.begin → effects ≡ effects_of_record (keyed_by key_cols) start commits r
    same_effects above =
        let is : nat_le start.base r.begin ≡ true = grind (arith, nat_tests) in
        let now = table_after start commits r.begin in
        let here : ◌≡◌ {A = Option Table} (Some now) (Some t) = sym (ap (λ b. cond b (Some now) (slice_get older r.begin)) is) ∙ found in
        let same : now ≡ t = cc in
        effects_are ∙ ap (λ s. effects_after_all key_cols start.limit s [] (writes_of r)) (sym same)

    -- and below it nothing looks at them
    same_reply : due_reply start commits r.begin effects
        ≡ due_reply start commits r.begin (effects_of_record (keyed_by key_cols) start commits r)
    same_reply =
        let of_record = effects_of_record (keyed_by key_cols) start commits r in
        let reply : Effects → CommitReply = λ x. due_reply start commits r.begin x in
        elim (nat_le start.base r.begin) as (λ b. nat_le start.base r.begin ≡ b → reply effects ≡ reply of_record) [
          | true ↦ λ is.
              let above : start.base ≤ r.begin = grind (arith, nat_tests) in
              ap reply (same_effects above)
          | false ↦ λ is.
              let below : r.begin < start.base = grind (arith, nat_tests) in
              let old = due_reply-cut (keyed_by key_cols) start commits r.begin in
              old effects below ∙ sym (old of_record below)
        ] refl

    -- what it leaves with these effects is what it leaves with its own
    same_commits : r.reply ≡ due_reply start commits r.begin effects →
        commits_with commits effects r.reply ≡ commits_after (keyed_by key_cols) start commits r
    same_commits replied =
        let of_record = effects_of_record (keyed_by key_cols) start commits r in
        let Same : Effects → CommitReply → Type 0 = λ x reply. commits_with commits x reply ≡ commits_with commits of_record reply in
        elim (nat_le start.base r.begin) as (λ b. nat_le start.base r.begin ≡ b → Same effects r.reply) [
          | true ↦ λ is.
              let above : start.base ≤ r.begin = grind (arith, nat_tests) in
              ap (λ x. commits_with commits x r.reply) (same_effects above)
          | false ↦ λ is.
              let below : r.begin < start.base = grind (arith, nat_tests) in
              let old = replied ∙ due_reply-cut (keyed_by key_cols) start commits r.begin effects below in
              subst (Same effects) (sym old) refl
        ] refl

    -- so it is due with them, where it began at a number that was there and got the replies that are due
    pub is_due : r.begin ≤ start.base + length commits → GotDueReplies key_cols start.limit t [] r.writes →
        r.reply ≡ due_reply start commits r.begin effects → IsDueAs key_cols start older commits r (Some effects)
    is_due begun got replied = (
      record {
        begun = begun;
        answered = subst Answered (sym found) got;
        replied = replied ∙ same_reply;
      },
      same_commits replied,
    )

-- where each write got the reply that is due, the effects of those that were done are the transaction's
pub effects_when_all-due : (key_cols limit : ℕ) (t : Table) (effects : Effects) (writes : List (Write × WriteReply))
    → GotDueReplies key_cols limit t effects writes
    → effects_when_all key_cols effects writes ≡ effects_after_all key_cols limit t effects (map (λ w. w.0) writes)
effects_when_all-due key_cols limit t effects [] h = refl
effects_when_all-due key_cols limit t effects (w ∷ writes) h =
    let step =
    λ (reply : WriteReply). cond (is_done reply) (alter key_cmp (key_of_write key_cols w.0) (composed_effect (effect_of_write w.0)) effects) effects
    in
    let after = effects_after key_cols limit t effects w.0 in
    let same : effects_when key_cols effects w ≡ after = ap step (cc h) in
    let rest : GotDueReplies key_cols limit t after writes = cc h in
    ap (λ e. effects_when_all key_cols e writes) same ∙ effects_when_all-due key_cols limit t after writes rest
