use Rattle.std.proofs.Common.{Result, Ok, Err, inr}
use Rattle.std.specs.Result.{IfOk}
use Rattle.pdtcli.proofs.explanation.explain_script_text.Goals as goal

-- what a result says, said of it in other words
then-ok : {T E : Type 0} (r : Result T E) (P Q : T → Type 0) → ((x : T) → P x → Q x) → IfOk r P → IfOk r Q
then-ok (Ok x) P Q f h = f x h
then-ok (Err e) P Q f h = tt

pub returns-in-Ok : goal.returns-in-Ok
returns-in-Ok c =
    let stable = c.in-Ok.stable in
    let told = rw c.schema.ensures.columns at c.explain_script.ensures in
    then-ok c.explain_script.result _ _ (λ sentence is. inr (stable.schema, stable.rows, c.in-Ok.ensures.ok, is.0, is.1)) told
