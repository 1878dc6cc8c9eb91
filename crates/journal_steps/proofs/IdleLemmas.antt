-- Steps that don't fail leave nothing behind.
use Rattle.std.proofs.Common.{◌≡◌, ◌≤◌, ◌<◌, ℕ, ◌+◌, Bool, true, false, cond, eqb, ltb, Some, None, List, [], ◌∷◌, length, refl, sym, subst, ◌∙◌, inl, inr, arith}
use Rattle.std.proofs.lemmas.Bool.{cases_lt, ltb-true, lt-ltb}
use Rattle.std.proofs.lemmas.Bool.Decides.{eqb_tells}
use Rattle.journal_steps.specs.Laws.{AllDurable, GoesOn, ThreeStepsGoOn, TwoStepsMakeAllDurable, idle, stepped}
use Rattle.journal_steps.specs.Progress.{began, due_batch, ended}
use Rattle.journal_steps.specs.declared.step.Ahead.TheVariants.{NotWanted, Kept}
use Rattle.journal_steps.specs.declared.step.Lane.TheVariants as lane
use Rattle.journal_steps.specs.declared.step.Step.TheVariants.{Sync}
use Rattle.journal_steps.proofs.DueLemmas.{below_of, differ_of, equal_of, true_false}

same_tells : (n : ℕ) → eqb n n ≡ true
same_tells n = elim (eqb_tells n n) [ inl same ↦ same.0 | inr other ↦ absurd (other.1 refl) ]

not_less : (a b : ℕ) → a ≤ b → ltb a b ≡ false → a ≡ b
not_less a b le e = elim (cases_lt a b) [ inl lt ↦ absurd (true_false (sym (lt-ltb a b lt) ∙ e)) | inr past ↦ omega (arith, le, past) ]

below : (a b : ℕ) → a ≤ b → eqb a b ≡ false → a < b
below a b le e = below_of a b le (differ_of a b e)

-- ---- a sync

-- of a journal whose appends are done and that no file is wanted for
sync_all : (b : Bool) (salt store taken durable base seq first : ℕ) → durable ≤ taken → ltb durable taken ≡ b
    → let p = idle salt store taken durable base seq first NotWanted [] in
    AllDurable taken (ended lane.Sync (began (cond b (Some (Sync seq)) None) p))
sync_all true salt store taken durable base seq first le e = record { durable = refl; taken = refl; waiting = refl; syncing = refl }
sync_all false salt store taken durable base seq first le e =
    record { durable = not_less durable taken le e; taken = refl; waiting = refl; syncing = refl }

synced_all : (salt store taken durable base seq first : ℕ) → durable ≤ taken
    → AllDurable taken (stepped lane.Sync (idle salt store taken durable base seq first NotWanted []))
synced_all salt store taken durable base seq first le = sync_all (ltb durable taken) salt store taken durable base seq first le refl

-- ---- an append, and then a sync

appended : (salt store taken durable base seq first : ℕ) (ws : List (List ℕ)) → durable ≤ taken
    → let p = idle salt store taken durable base seq first NotWanted ws in
    AllDurable (taken + length ws) (stepped lane.Sync (ended lane.Append (began (due_batch ws p) p)))
appended salt store taken durable base seq first [] le =
    let none : taken ≡ taken + 0 = omega arith in
    subst (λ n. AllDurable n (stepped lane.Sync (idle salt store taken durable base seq first NotWanted []))) none
    (synced_all salt store taken durable base seq first le)
appended salt store taken durable base seq first (w ∷ ws) le =
    synced_all salt store (taken + length (w ∷ ws)) durable base seq first (omega (arith, le))

pub two_steps_make_all_durable : TwoStepsMakeAllDurable
two_steps_make_all_durable salt store taken durable base seq first ws le =
    let p = idle salt store taken durable base seq first NotWanted ws in
    subst (λ b. AllDurable (taken + length ws) (stepped lane.Sync (ended lane.Append (began (cond b (due_batch ws p) None) p))))
    (sym (same_tells taken)) (appended salt store taken durable base seq first ws le)

-- ---- the next file

-- the journal has turned over: a sync changes nothing
turned_already : (b : Bool) (salt store taken durable seq first : ℕ) (ws : List (List ℕ)) → durable ≡ taken → ltb durable taken ≡ b
    → let p = idle salt store taken durable taken (seq + 1) first NotWanted ws in
    GoesOn seq taken ws (ended lane.Sync (began (cond b (Some (Sync (seq + 1))) None) p))
turned_already true salt store taken durable seq first ws same e = absurd (omega (arith, same, ltb-true durable taken e))
turned_already false salt store taken durable seq first ws same e =
    record { seq = refl; base = refl; durable = same; ahead = refl; waiting = refl }

-- a sync is done whose commits are all that were handed out
turn_by : (b : Bool) (salt store taken base seq first : ℕ) (ws : List (List ℕ)) → b ≡ true
    → let p = idle salt store taken taken base seq first Kept ws in
    GoesOn seq taken ws (cond b (record p { seq = seq + 1; base = taken; ahead = NotWanted }) p)
turn_by true salt store taken base seq first ws e = record { seq = refl; base = refl; durable = refl; ahead = refl; waiting = refl }
turn_by false salt store taken base seq first ws e = absurd (true_false (sym e))

turns_now : (b : Bool) (salt store taken durable base seq first : ℕ) (ws : List (List ℕ)) → ltb durable taken ≡ b → durable < taken
    → let p = idle salt store taken durable base seq first Kept ws in
    GoesOn seq taken ws (ended lane.Sync (began (cond b (Some (Sync seq)) None) p))
turns_now true salt store taken durable base seq first ws e lt =
    turn_by (eqb taken taken) salt store taken base seq first ws (same_tells taken)
turns_now false salt store taken durable base seq first ws e lt = absurd (true_false (sym (lt-ltb durable taken lt) ∙ e))

-- where its name is durable, and the journal has turned over or not
kept_then : (b : Bool) (salt store taken durable base seq first : ℕ) (ws : List (List ℕ)) → durable ≤ taken → eqb durable taken ≡ b
    → let p = idle salt store taken durable base seq first Kept ws in
    GoesOn seq taken ws (stepped lane.Sync (cond b (record p { seq = seq + 1; base = taken; ahead = NotWanted }) p))
kept_then true salt store taken durable base seq first ws le e =
    turned_already (ltb durable taken) salt store taken durable seq first ws (equal_of durable taken e) refl
kept_then false salt store taken durable base seq first ws le e =
    turns_now (ltb durable taken) salt store taken durable base seq first ws refl (below durable taken le e)

pub three_steps_go_on : ThreeStepsGoOn
three_steps_go_on salt store taken durable base seq first ws le =
    kept_then (eqb durable taken) salt store taken durable base seq first ws le refl
