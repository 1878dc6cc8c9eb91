use Rattle.std.proofs.Common.{◌≡◌, ◌↔◌, Bool, [], subst, sym}
use Rattle.std.specs.Prelude.{IsTrue}
use Rattle.std.proofs.lemmas.Result.{IfOk-weaker}
use Rattle.values.specs.Shape.{Columns}
use Rattle.model.specs.History.{IsLegal}
use Rattle.oracle.specs.Replay.{AreDueFrom, AllFitSchema, AreTables, AllBeginFrom}
use Rattle.oracle.proofs.ReplayLemmas.{legal-due, due-legal}
use Rattle.oracle.proofs.replay.is_legal.Goals as goal

pub returns-clause-legal : goal.returns-clause-legal
returns-clause-legal c =
    let start = c.args.start.now in
    let older = c.args.older.now in
    let history = c.args.history.now in
    let Due : Bool → Type 0 = λ b. IsTrue b ↔ AreDueFrom c.args.key_cols start older [] history in
    let Legal : Bool → Type 0 = λ b. (schema : Columns) → schema.key_cols ≡ c.args.key_cols → AllFitSchema schema history →
    AreTables schema older → IsTrue b → IsLegal schema start history in
    IfOk-weaker c.are_due.result Due Legal
    (λ b due schema same fitting tables yes.
    let here = subst (λ k. AreDueFrom k start older [] history) (sym same) (due.0 yes) in
    legal-due schema start older [] history fitting tables here)
    c.are_due.ensures

pub returns-clause-only : goal.returns-clause-only
returns-clause-only c =
    let start = c.args.start.now in
    let older = c.args.older.now in
    let history = c.args.history.now in
    let Due : Bool → Type 0 = λ b. IsTrue b ↔ AreDueFrom c.args.key_cols start older [] history in
    let Only : Bool → Type 0 = λ b. (schema : Columns) → schema.key_cols ≡ c.args.key_cols → AllBeginFrom start.base history →
    IsLegal schema start history → IsTrue b in
    IfOk-weaker c.are_due.result Due Only
    (λ b due schema same above legal.
    let here = due-legal schema start older [] history above legal in
    due.1 (subst (λ k. AreDueFrom k start older [] history) same here))
    c.are_due.ensures
