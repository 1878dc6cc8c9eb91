-- What a step that is due says of the progress that it is due in.
use Rattle.std.proofs.Common.{◌≡◌, ◌≢◌, ◌≤◌, ◌<◌, ℕ, ◌+◌, Bool, true, false, cond, eqb, ltb, Option, Some, None, List, [], ◌∷◌, length, refl, sym, subst, ◌∙◌, inl, inr, arith}
use Rattle.std.proofs.lemmas.Bool.{cases_lt, ltb-true}
use Rattle.std.proofs.lemmas.Bool.Decides.{eqb_tells}
use Rattle.journal_steps.specs.Batch.{BatchFields}
use Rattle.journal_steps.specs.Progress.{Progress, batch_of, due, due_batch, due_next_by, due_sync_by, is_kept}
use Rattle.journal_steps.specs.declared.step.Ahead.{Ahead}
use Rattle.journal_steps.specs.declared.step.Ahead.TheVariants.{NotWanted, Wanted, Making, Made, Keeping, Kept}
use Rattle.journal_steps.specs.declared.step.Lane.{Lane}
use Rattle.journal_steps.specs.declared.step.Lane.TheVariants as lane
use Rattle.journal_steps.specs.declared.step.Step.{Step}
use Rattle.journal_steps.specs.declared.step.Step.TheVariants.{Append, Sync, Create, SyncNames}

pub record IsDueBatch (b : BatchFields) (p : Progress) : Type 0 where
  pub sound : p.broken ≡ false
  pub idle : p.written ≡ p.taken
  pub some : 0 < length p.waiting
  pub is : b ≡ batch_of p.waiting p

abbrev pub IsDue : Option Step → Progress → Type 0
IsDue None p = Unit {0}
IsDue (Some (Append b)) p = IsDueBatch b p
IsDue (Some (Sync seq)) p = (p.broken ≡ false) × (p.syncing ≡ None) × (p.durable < p.written)
IsDue (Some (Create seq)) p = (p.ahead ≡ Wanted) × (seq ≡ p.seq + 1)
IsDue (Some SyncNames) p = p.ahead ≡ Made

pub true_false : true ≡ false → ⊥
true_false e = subst (λ b. cond b (Unit {0}) ⊥) e tt

pub equal_of : (a b : ℕ) → eqb a b ≡ true → a ≡ b
equal_of a b e = elim (eqb_tells a b) [ inl same ↦ same.1 | inr other ↦ absurd (true_false (sym e ∙ other.0)) ]

pub differ_of : (a b : ℕ) → eqb a b ≡ false → a ≢ b
differ_of a b e same =
    elim (eqb_tells a b) [ inl is ↦ true_false (sym is.0 ∙ e) | inr other ↦ other.1 same ]

pub below_of : (a b : ℕ) → a ≤ b → a ≢ b → a < b
below_of a b le differ = elim (cases_lt a b) [ inl lt ↦ lt | inr past ↦ absurd (differ (omega (arith, le, past))) ]

due_batch_is : (ws : List (List ℕ)) (p : Progress) → p.waiting ≡ ws → p.broken ≡ false → p.written ≡ p.taken → IsDue (due_batch ws p) p
due_batch_is [] p e sound idle = tt
due_batch_is (w ∷ ws) p e sound idle =
    record {
      sound = sound;
      idle = idle;
      some = subst (λ (x : List (List ℕ)). 0 < length x) (sym e) (let lt : 0 < length (w ∷ ws) = omega arith in lt);
      is = subst (λ (x : List (List ℕ)). batch_of x p ≡ batch_of p.waiting p) e refl;
    }

append_idle : (b : Bool) (p : Progress) → eqb p.written p.taken ≡ b → p.broken ≡ false → IsDue (cond b (due_batch p.waiting p) None) p
append_idle true p e sound = due_batch_is p.waiting p refl sound (equal_of p.written p.taken e)
append_idle false p e sound = tt

append_kept : (b : Bool) (p : Progress) → p.broken ≡ false
    → IsDue (cond b None (cond (eqb p.written p.taken) (due_batch p.waiting p) None)) p
append_kept true p sound = tt
append_kept false p sound = append_idle (eqb p.written p.taken) p refl sound

append_sound : (b : Bool) (p : Progress) → p.broken ≡ b
    → IsDue (cond b None (cond (is_kept p.ahead) None (cond (eqb p.written p.taken) (due_batch p.waiting p) None))) p
append_sound true p e = tt
append_sound false p e = append_kept (is_kept p.ahead) p e

sync_behind : (b : Bool) (p : Progress) → ltb p.durable p.written ≡ b → p.broken ≡ false → p.syncing ≡ None
    → IsDue (cond b (Some (Sync p.seq)) None) p
sync_behind true p e sound none = (sound, none, ltb-true p.durable p.written e)
sync_behind false p e sound none = tt

sync_sound : (b : Bool) (p : Progress) → p.broken ≡ b → p.syncing ≡ None
    → IsDue (cond b None (cond (ltb p.durable p.written) (Some (Sync p.seq)) None)) p
sync_sound true p e none = tt
sync_sound false p e none = sync_behind (ltb p.durable p.written) p refl e none

sync_by : (s : Option ℕ) (p : Progress) → p.syncing ≡ s → IsDue (due_sync_by s p) p
sync_by (Some upto) p e = tt
sync_by None p e = sync_sound p.broken p refl e

create_by : (b : Bool) (p : Progress) → p.ahead ≡ Wanted → IsDue (cond b None (Some (Create (p.seq + 1)))) p
create_by true p e = tt
create_by false p e = (e, refl)

names_by : (b : Bool) (p : Progress) → p.ahead ≡ Made → IsDue (cond b None (Some SyncNames)) p
names_by true p e = tt
names_by false p e = e

next_by : (a : Ahead) (p : Progress) → p.ahead ≡ a → IsDue (due_next_by a p) p
next_by NotWanted p e = tt
next_by Wanted p e = create_by p.broken p e
next_by Making p e = tt
next_by Made p e = names_by p.broken p e
next_by Keeping p e = tt
next_by Kept p e = tt

pub due_is : (l : Lane) (p : Progress) → IsDue (due l p) p
due_is lane.Append p = append_sound p.broken p refl
due_is lane.Sync p = sync_by p.syncing p refl
due_is lane.Next p = next_by p.ahead p refl
