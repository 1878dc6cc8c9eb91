use Rattle.std.proofs.Common.{◌≡◌, ℕ, List, map, sym, ap, ◌∙◌, subst}
use Rattle.values.specs.Shape.{Columns}
use Rattle.values.specs.declared.row.Row.{Row}
use Rattle.codec.specs.Reading.{decoded}
use Rattle.journal.specs.Frame.{Logged}
use Rattle.journal.specs.Reading.{logged_in}
use Rattle.model.specs.declared.entry.Entry.{Entry}
use Rattle.model.specs.Laws.{AreCommits}
use Rattle.model.specs.Table.{Table, rows_of, table_of}
use Rattle.model.proofs.CallerLemmas.{rows_of-table_of}
use Rattle.manager.specs.Managed.{Managed, newest_table}
use Rattle.replay.specs.Own.{own_frames}
use Rattle.replay.specs.Replayed.{AreRead, AreSaid, IsCaused, IsNamed, rows_after}
use Rattle.replay.proofs.OwnLemmas.{are_read-own, caused-own, named-own, passed_on, rows_after-own, said-own, said_in_frames}
use Rattle.replay.proofs.remaking.made_again.Goals.{After-replay}
use Rattle.replay.proofs.remaking.made_again.Goals as goal

-- the manager is opened over the stable table
opened_rows : (c : After-replay) → rows_of (newest_table c.in_ok-manager.manager) ≡ c.args.stable.rows
opened_rows c =
    ap (λ (m : Managed). rows_of (newest_table m)) c.in_ok-manager.ensures.ok
    ∙ rows_of-table_of c.args.stable.schema.key_cols c.args.stable.rows

opened_table : (c : After-replay) → newest_table c.in_ok-manager.manager ≡ table_of c.args.stable.schema.key_cols c.args.stable.rows
opened_table c = ap newest_table c.in_ok-manager.ensures.ok

opened_schema : (c : After-replay) → c.in_ok-manager.manager.schema ≡ c.args.stable.schema
opened_schema c = ap (λ (m : Managed). m.schema) c.in_ok-manager.ensures.ok

-- what the table's own frames say
module _ {A : Type 0} (d : List ℕ → A) (c : After-replay) (since : List Logged)
    (same : map logged_in c.args.own.now ≡ own_frames c.args.table since) where
  own_said : map (λ f. d f.payload.now) c.args.own.now ≡ map (λ l. d l.payload) (own_frames c.args.table since)
  own_said = said_in_frames d c.args.own.now (own_frames c.args.table since) same

-- as the manager reads it
own_logged : (c : After-replay) (since : List Logged) → map logged_in c.args.own.now ≡ own_frames c.args.table since
    → map (λ f. decoded c.in_ok-manager.manager.schema c.args.table f.payload.now) c.args.own.now
    ≡ map (λ l. decoded c.args.stable.schema c.args.table l.payload) (own_frames c.args.table since)
own_logged c since same =
    (λ i. map (λ f. decoded (opened_schema c i) c.args.table f.payload.now) c.args.own.now)
    ∙ own_said (decoded c.args.stable.schema c.args.table) c since same

pub returns-clause-rows : goal.returns-clause-rows
returns-clause-rows c = λ since same.
    let before = (goal.at.returns-clause-rows c).After-replay in
    c.in_ok-replay.ensures.ok.rows_are
    ∙ (λ i. rows_after (opened_rows before i) (own_logged before since same i))
    ∙ rows_after-own c.other_tables_read_none.ensures c.args.stable.schema c.args.table c.args.stable.rows since

pub returns-clause-read : goal.returns-clause-read
returns-clause-read c = λ since same.
    let before = (goal.at.returns-clause-read c).After-replay in
    are_read-own c.other_tables_read_none.ensures c.args.stable.schema c.args.table since
    (subst (λ (e : Columns × List (List ℕ)). AreRead e.0 c.args.table e.1)
    (λ i. (opened_schema before i, own_said (λ (bytes : List ℕ). bytes) before since same i)) c.in_ok-replay.ensures.read)

pub returns-in_err-manager-clause-caused : goal.returns-in_err-manager-clause-caused
returns-in_err-manager-clause-caused c =
    passed_on c.from_residual.result c.in_err-manager.field-0.0 _ c.from_residual.ensures.1
    (λ since same. c.in_err-manager.ensures.caused (map (λ l. decoded c.args.stable.schema c.args.table l.payload) since))

pub returns-in_err-replay-clause-caused : goal.returns-in_err-replay-clause-caused
returns-in_err-replay-clause-caused c =
    let before = (goal.at.returns-in_err-replay-clause-caused c).After-replay in
    let limits = c.args.limits in
    let limit : c.in_ok-manager.manager.start.limit ≡ limits.row_limit = ap (λ (m : Managed). m.start.limit) c.in_ok-manager.ensures.ok in
    passed_on c.from_residual-in_err-replay.result c.in_err-replay.field-0.0 _ c.from_residual-in_err-replay.ensures.1
    (λ since same. caused-own c.other_tables_read_none.ensures c.args.stable.schema c.args.table limits.recent limits.row_limit c.args.stable.rows
    since c.in_err-replay.field-0.0
    (subst (λ (e : ℕ × (List Row × List (List Entry))). IsCaused limits.recent e.0 e.1.0 e.1.1 c.in_err-replay.field-0.0)
    (λ i. (limit i, (opened_rows before i, own_logged before since same i))) (c.in_err-replay.ensures.caused limits.recent)))

pub returns-in_err-replay-clause-named : goal.returns-in_err-replay-clause-named
returns-in_err-replay-clause-named c =
    let before = (goal.at.returns-in_err-replay-clause-named c).After-replay in
    passed_on c.from_residual-in_err-replay.result c.in_err-replay.field-0.0 _ c.from_residual-in_err-replay.ensures.1
    (λ misfit since same. named-own c.other_tables_read_none.ensures c.args.stable.schema c.args.table since c.in_err-replay.field-0.0
    (subst (λ (e : Columns × List Logged). IsNamed e.0 c.args.table e.1 c.in_err-replay.field-0.0)
    (λ i. (opened_schema before i, same i)) (c.in_err-replay.ensures.named misfit)))

pub returns-in_err-replay-clause-fits : goal.returns-in_err-replay-clause-fits
returns-in_err-replay-clause-fits c =
    let before = (goal.at.returns-in_err-replay-clause-fits c).After-replay in
    let columns = c.args.stable.schema in
    let t = table_of columns.key_cols c.args.stable.rows in
    let over : (c.in_ok-manager.manager.schema, newest_table c.in_ok-manager.manager) ≡ (columns, t) =
    (λ i. (opened_schema before i, opened_table before i)) in
    passed_on c.from_residual-in_err-replay.result c.in_err-replay.field-0.0 _ c.from_residual-in_err-replay.ensures.1
    (λ misfit since same commits are said.
    let own = said-own c.other_tables_read_none.ensures columns c.args.table (c.merges_to_table.ensures columns) t commits since are said in
    c.in_err-replay.ensures.fits misfit own.0
    (subst (λ (e : Columns × Table). AreCommits e.0 e.1 own.0) (sym over) own.1)
    (subst (λ (e : Columns × Table). AreSaid e.0 c.args.table e.1 own.0 (map (λ f. f.payload.now) c.args.own.now)) (sym over)
    (subst (AreSaid columns c.args.table t own.0) (sym (own_said (λ (bytes : List ℕ). bytes) before since same)) own.2)))
