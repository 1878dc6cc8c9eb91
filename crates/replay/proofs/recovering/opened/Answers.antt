use Rattle.std.proofs.Common.{◌≡◌, ℕ, ◌<◌, Bool, true, false, cond, Some, None, Result, Err, length, refl, arith}
use Rattle.std.specs.Prelude.{IsOkUnless, MatchOption, nat_lt}
use Rattle.std.proofs.lemmas.Bool.Decides.{nat_tests}
use Rattle.manager.specs.Managed.{Managed, fault_of_opening, is_bad_limit}
use Rattle.manager.specs.declared.fault.OpenFault.{OpenFault}
use Rattle.manager.specs.declared.fault.OpenFault.TheVariants.{BadLimit, NoMemory, TooManyRows}
use Rattle.stable.specs.Stable.{Stable}
use Rattle.replay.proofs.ReplayLemmas.{past_now}
use Rattle.replay.proofs.recovering.opened.Goals as goal

-- what is answered then
abbrev refused : Result Managed OpenFault
refused = Err TooManyRows

-- a table that isn't opened for its rows has more than the limit
past_limit : (s : Stable) (recent limit : ℕ)
    → MatchOption (fault_of_opening s recent limit) (IsOkUnless refused NoMemory)
    (λ f. refused ≡ Err f)
    → limit < length s.rows
past_limit s recent limit told = by (is_bad_limit recent limit) (nat_lt limit (length s.rows)) refl told
  where
    by : (bad many : Bool) → nat_lt limit (length s.rows) ≡ many
        → MatchOption (cond bad (Some BadLimit) (cond many (Some TooManyRows) None)) (IsOkUnless refused NoMemory)
        (λ f. refused ≡ Err f)
        → limit < length s.rows
    by true many e h = cc h
    by false true e h = grind (arith, nat_tests)
    by false false e h = cc h

pub returns-in-Err-TooManyRows-clause-caused : goal.returns-in-Err-TooManyRows-clause-caused
returns-in-Err-TooManyRows-clause-caused c = λ logged.
    let told = rw c.in-Err-TooManyRows.field-0-is at c.in-Err-TooManyRows.ensures.fault in
    past_now c.args.limits.row_limit c.args.image.table.rows logged
    (past_limit c.args.image.table c.args.limits.recent c.args.limits.row_limit told)
