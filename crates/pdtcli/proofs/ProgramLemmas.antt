-- What an opening's answer says of its first fault, and what is so of a refusal that is passed up.
use Rattle.std.proofs.Common.{◌≡◌, Option, Some, None, Result, Ok, Err, sym, refl, subst}
use Rattle.std.specs.Prelude.{IfErr, IsErrAnd, IsOkUnless, MatchOption, unwrap_or}
use Rattle.manager.specs.Managed.{Managed}
use Rattle.manager.specs.declared.fault.OpenFault.{OpenFault}
use Rattle.manager.specs.declared.fault.OpenFault.TheVariants.{NoMemory}

-- a refusal is for the first fault, or for want of memory where there is none
pub refused_for : (first : Option OpenFault) (fault : OpenFault)
    → MatchOption first (fault ≡ NoMemory) (λ f. ◌≡◌ {A = Result Managed OpenFault} (Err fault) (Err f))
    → fault ≡ unwrap_or first NoMemory
refused_for None fault h = h
refused_for (Some f) fault h = cc h

-- what was opened has no fault
pub no_fault : (first : Option OpenFault) (m : Managed) → MatchOption first (IsOkUnless (Ok m) NoMemory) (λ f. Ok m ≡ Err f) → first ≡ None
no_fault None m h = refl
no_fault (Some f) m h = cc h

-- what is so of the refusal is so of the answer that it passes up
pub passed_up : {T E : Type 0} (answer : Result T E) (refusal : E) (Is : E → Type 0) → IsErrAnd answer (λ e. e ≡ refusal)
    → Is refusal → IfErr answer Is
passed_up (Ok x) refusal Is is h = absurd is
passed_up (Err e) refusal Is is h = subst Is (sym is) h
