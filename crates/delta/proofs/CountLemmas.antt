-- How many inserts and deletes entries have, part by part.
use Rattle.std.proofs.Common.{◌≡◌, ℕ, ◌+◌, ◌≤◌, List, [], ◌∷◌, ◌++◌, length, sym, arith, zero-add, rules}
use Rattle.model.specs.declared.entry.Entry.{Entry}
use Rattle.model.specs.declared.entry.Change.{Change}
use Rattle.model.specs.declared.entry.Change.TheVariants.{Ins, Del, Mod}
use Rattle.model.specs.Places.{insert_count, delete_count}
use Rattle.std.proofs.lemmas.Grind.{common_steps}

-- how many rows a change inserts
abbrev pub insert_worth : Change → ℕ
insert_worth (Ins row) = 1
insert_worth (Del key) = 0
insert_worth (Mod col value) = 0

-- and how many it deletes
abbrev pub delete_worth : Change → ℕ
delete_worth (Ins row) = 0
delete_worth (Del key) = 1
delete_worth (Mod col value) = 0

-- one entry in front adds what its change is worth
pub insert_count-cons : (e : Entry) (es : List Entry) → insert_count (e ∷ es) ≡ insert_worth e.change + insert_count es
insert_count-cons e es = search rules

-- among the deletes too
pub delete_count-cons : (e : Entry) (es : List Entry) → delete_count (e ∷ es) ≡ delete_worth e.change + delete_count es
delete_count-cons e es = search rules

step_add : (w a b n m : ℕ) → n ≡ w + m → m ≡ a + b → n ≡ (w + a) + b
step_add w a b n m p q = omega arith

-- lists have as many inserts as their parts together
pub insert_count-append : (xs ys : List Entry) → insert_count (xs ++ ys) ≡ insert_count xs + insert_count ys
insert_count-append [] ys = sym (zero-add (insert_count ys))
insert_count-append (x ∷ xs) ys = grind (arith, common_steps, insert_count-append xs ys, step_add, insert_count-cons)

-- and as many deletes
pub delete_count-append : (xs ys : List Entry) → delete_count (xs ++ ys) ≡ delete_count xs + delete_count ys
delete_count-append [] ys = sym (zero-add (delete_count ys))
delete_count-append (x ∷ xs) ys = grind (arith, common_steps, delete_count-append xs ys, step_add, delete_count-cons)

worth_le : (c : Change) → insert_worth c + delete_worth c ≤ 1
worth_le (Ins row) = omega arith
worth_le (Del key) = omega arith
worth_le (Mod col value) = omega arith

-- each entry counts once at most
pub counts-le : (es : List Entry) → insert_count es + delete_count es ≤ length es
counts-le [] = omega arith
counts-le (e ∷ es) = omega (arith, worth_le e.change, insert_count-cons e es, delete_count-cons e es, counts-le es)
