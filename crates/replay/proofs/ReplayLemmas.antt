-- What commits make of a manager, when they are made again.
use Rattle.std.proofs.Common.{◌≡◌, ℕ, zero, suc, ◌+◌, ◌<◌, inl, inr, Ok, List, [], ◌∷◌, ◌++◌, length, map, take, get_or, refl, sym, ap, ◌∙◌, arith}
use Rattle.std.proofs.Math.Seq.{take-suc}
use Rattle.std.proofs.lemmas.List.{map-append}
use Rattle.values.specs.Shape.{Columns}
use Rattle.values.specs.declared.row.Row.{Row}
use Rattle.model.specs.declared.entry.Entry.{Entry}
use Rattle.std.specs.Bool.{passes}
use Rattle.codec.specs.Reading.{entries_in}
use Rattle.model.specs.Effects.{AreOver, Effects, table_with}
use Rattle.model.specs.Entries.{canonical_entries}
use Rattle.model.specs.History.{table_with_all}
use Rattle.model.specs.Laws.{AreCommits, MergesToTable}
use Rattle.model.proofs.CallerLemmas.{leaves, table_of-rows_of}
use Rattle.model.specs.Merging.{merged_rows}
use Rattle.model.specs.Table.{Table, is_keyed_table, rows_of, table_of}
use Rattle.delta.specs.Tree.{Tree}
use Rattle.merge.specs.Image.{IsLayer}
use Rattle.manager.specs.Managed.{Managed, newest_number, newest_table}
use Rattle.manager.specs.Redone.{IsRedone}
use Rattle.std.specs.Prelude.{IsOk}
use Rattle.replay.specs.Replayed.{AreRead, AreSaid, IsCaused, IsNamed, IsNamedAt, IsPastLimit, IsReplayed, IsStopped, IsTooLarge, rows_after}
use Rattle.journal.specs.Frame.{Logged}
use Rattle.replay.specs.declared.fault.RecoverFault.{RecoverFault}
use Rattle.replay.specs.declared.fault.RecoverFault.TheVariants as fault
use Rattle.replay.proofs.RecoveryLemmas.{rows_after-append}

next : (n : ℕ) → suc n + 0 ≡ n + 1
next n = omega arith

pub redone_replayed : (m new : Managed) (tree : Tree) (w : IsLayer m.schema (newest_table m) tree)
    → ((schema : Columns) → MergesToTable schema)
    → IsRedone m w.effects new → IsReplayed m (merged_rows (rows_of (newest_table m)) tree.entries) 1 new
redone_replayed m new tree w merges is = record {
  rows_are =
      ap (λ (v : Managed). rows_of (newest_table v)) is.kept
      ∙ sym (merges m.schema (newest_table m) w.effects w.over)
      ∙ ap (merged_rows (rows_of (newest_table m))) (sym w.entries);
  number = ap newest_number is.kept ∙ next (newest_number m);
  schema = ap (λ (v : Managed). v.schema) is.kept;
  limit = ap (λ (v : Managed). v.start.limit) is.kept;
  recent = ap (λ (v : Managed). v.start.recent) is.kept;
  rule = ap (λ (v : Managed). v.start.rule) is.kept;
}

-- ---- one after the other

-- a replay, and then another
pub replayed_then : (first middle last : Managed) (rows more : List Row) (m n k : ℕ) → m + n ≡ k → IsReplayed first rows m middle
    → IsReplayed middle more n last → IsReplayed first more k last
replayed_then first middle last rows more m n k sum a b = record {
  rows_are = b.rows_are;
  number = (let p = a.number in let q = b.number in omega (arith, p, q, sum));
  schema = b.schema ∙ a.schema;
  limit = b.limit ∙ a.limit;
  recent = b.recent ∙ a.recent;
  rule = b.rule ∙ a.rule;
}

pub first_more : {V A : Type 0} (f : V → A) (vs : List V) (i : ℕ) (d : V) → i < length vs
    → map f (take (suc i) vs) ≡ map f (take i vs) ++ f (get_or vs i d) ∷ []
first_more f vs i d lt = ap (map f) (take-suc vs i d lt) ∙ map-append f (take i vs) (get_or vs i d ∷ [])

-- one more of the logged commits is replayed, and the Write-PDT may be folded
pub replayed_more : {V : Type 0} (f : V → List Entry) (first middle after last : Managed) (rows : List Row) (vs : List V) (i : ℕ) (d : V)
    (entries : List Entry) → i < length vs → entries ≡ f (get_or vs i d)
    → IsReplayed first (rows_after rows (map f (take i vs))) i middle
    → IsReplayed middle (merged_rows (rows_of (newest_table middle)) entries) 1 after
    → IsReplayed after (rows_of (newest_table after)) 0 last
    → IsReplayed first (rows_after rows (map f (take (i + 1) vs))) (i + 1) last
replayed_more f first middle after last rows vs i d entries lt same a b c =
    let one : suc i ≡ i + 1 = omega arith in
    let sum : i + 1 + 0 ≡ i + 1 = omega arith in
    let two = replayed_then first middle after (rows_after rows (map f (take i vs))) (merged_rows (rows_of (newest_table middle)) entries) i 1
    (i + 1) refl a b in
    let all = replayed_then first after last (merged_rows (rows_of (newest_table middle)) entries) (rows_of (newest_table after)) (i + 1) 0
    (i + 1) sum two c in
    record {
      rows_are =
          c.rows_are
          ∙ b.rows_are
          ∙ ap (λ (rs : List Row). merged_rows rs entries) a.rows_are
          ∙ ap (merged_rows (rows_after rows (map f (take i vs)))) same
          ∙ sym (rows_after-append rows (map f (take i vs)) (f (get_or vs i d) ∷ []))
          ∙ sym (ap (rows_after rows) (first_more f vs i d lt))
          ∙ ap (λ n. rows_after rows (map f (take n vs))) one;
      number = all.number;
      schema = all.schema;
      limit = all.limit;
      recent = all.recent;
      rule = all.rule;
    }

-- ---- payloads that are read, and rows that are too many

-- one payload more is read
pub are_read-append : (schema : Columns) (table : ℕ) (payloads : List (List ℕ)) (payload : List ℕ) → AreRead schema table payloads
    → IsOk (entries_in schema table payload) → AreRead schema table (payloads ++ payload ∷ [])
are_read-append schema table [] payload h is = (is, tt)
are_read-append schema table (p ∷ payloads) payload h is = (h.0, are_read-append schema table payloads payload h.1 is)

-- rows above a limit are past it, whatever is logged after them
pub past_now : (limit : ℕ) (rows : List Row) (logged : List (List Entry)) → limit < length rows → IsPastLimit limit rows logged
past_now limit rows [] h = h
past_now limit rows (entries ∷ logged) h = inl h

-- and so are those that one of the logged commits leaves
pub past_at : {V : Type 0} (f : V → List Entry) (limit : ℕ) (rows : List Row) (vs : List V) (i : ℕ) (d : V) → i < length vs
    → IsTooLarge limit (rows_after rows (map f (take i vs))) (f (get_or vs i d)) → IsPastLimit limit rows (map f vs)
past_at f limit rows [] i d lt h = absurd (omega (arith, lt))
past_at f limit rows (v ∷ vs) zero d lt (inl many) = inr (inl many)
past_at f limit rows (v ∷ vs) zero d lt (inr more) = inr (inr (past_now limit (merged_rows rows (f v)) (map f vs) more))
past_at f limit rows (v ∷ vs) (suc i) d lt h = inr (inr (past_at f limit (merged_rows rows (f v)) vs i d (omega (arith, lt)) h))

-- what stops a frame has its cause
pub stopped_caused : (recent limit : ℕ) (rows here : List Row) (entries : List Entry) (logged : List (List Entry)) (f : RecoverFault)
    → IsStopped limit here entries f → (IsTooLarge limit here entries → IsPastLimit limit rows logged)
    → IsCaused recent limit rows logged f
stopped_caused recent limit rows here entries logged fault.TooManyRows h past = past h
stopped_caused recent limit rows here entries logged fault.BadLimit h past = absurd h
stopped_caused recent limit rows here entries logged fault.NumbersSpent h past = tt
stopped_caused recent limit rows here entries logged fault.NoMemory h past = tt
stopped_caused recent limit rows here entries logged (fault.Rot n) h past = tt
stopped_caused recent limit rows here entries logged (fault.Gap n) h past = tt
stopped_caused recent limit rows here entries logged (fault.BadPayload n p) h past = tt
stopped_caused recent limit rows here entries logged (fault.Misfit n) h past = tt

-- a frame that is named is one of them
pub named_at : (schema : Columns) (table : ℕ) (logged : List Logged) (i : ℕ) (d : Logged) (f : RecoverFault) → i < length logged
    → IsNamedAt schema table (get_or logged i d) f → IsNamed schema table logged f
named_at schema table [] i d f lt h = absurd (omega (arith, lt))
named_at schema table (l ∷ logged) zero d f lt h = inl h
named_at schema table (l ∷ logged) (suc i) d f lt h = inr (named_at schema table logged i d f (omega (arith, lt)) h)

-- ---- frames that say commits

-- the same entries of two effects leave the same table
pub same_table : ((schema : Columns) → MergesToTable schema) → (schema : Columns) (t : Table) (x y : Effects) → AreOver schema t x
    → AreOver schema t y → canonical_entries t x ≡ canonical_entries t y → table_with t x ≡ table_with t y
same_table merges schema t x y over other same =
    let keys = schema.key_cols in
    sym (table_of-rows_of keys (table_with t x) (passes (is_keyed_table keys (table_with t x)) (leaves schema t x over).keyed))
    ∙ ap (table_of keys) (sym (merges schema t x over) ∙ ap (merged_rows (rows_of t)) same ∙ merges schema t y other)
    ∙ table_of-rows_of keys (table_with t y) (passes (is_keyed_table keys (table_with t y)) (leaves schema t y other).keyed)

-- the commit that a payload says, over the table that those before it leave
pub said_at : (schema : Columns) (table : ℕ) (t : Table) (commits : List Effects) (payloads : List (List ℕ)) (i : ℕ)
    → AreCommits schema t commits → AreSaid schema table t commits payloads → i < length payloads
    → (x : Effects) × AreOver schema (table_with_all t (take i commits)) x
    × (entries_in schema table (get_or payloads i []) ≡ Ok (canonical_entries (table_with_all t (take i commits)) x))
    × (take (suc i) commits ≡ take i commits ++ x ∷ [])
said_at schema table t commits [] i h s lt = absurd (omega (arith, lt))
said_at schema table t [] (p ∷ payloads) i h s lt = absurd s
said_at schema table t (x ∷ commits) (p ∷ payloads) zero h s lt = (x, h.0, s.0, refl)
said_at schema table t (x ∷ commits) (p ∷ payloads) (suc i) h s lt =
    let rest = said_at schema table (table_with t x) commits payloads i h.1 s.1 (omega (arith, lt)) in
    (rest.0, rest.1, rest.2, ap (λ (cs : List Effects). x ∷ cs) rest.3)
