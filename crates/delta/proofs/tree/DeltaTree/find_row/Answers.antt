use Rattle.std.proofs.Common.{◌≡◌, ℕ, ◌+◌, ◌&&◌, false, List, drop, sym, ap, ◌∙◌, subst, arith}
use Rattle.std.specs.Prelude.{◌==◌, Some, slice_get}
use Rattle.std.specs.Option.{option_copied}
use Rattle.std.proofs.lemmas.Float.{T_from_true}
use Rattle.model.specs.declared.entry.Entry.{Entry}
use Rattle.model.specs.Entries.{is_insert}
use Rattle.model.specs.declared.entry.Change.{Change}
use Rattle.model.specs.declared.entry.Change.TheVariants.{Ins, Del, Mod}
use Rattle.counted.specs.Changes.{change_of}
use Rattle.delta.specs.Folds.{IsRunOf}
use Rattle.delta.specs.declared.folds.Fold.TheVariants.{Into}
use Rattle.delta.specs.declared.places.Place.{Place}
use Rattle.delta.specs.Positions.{IsAtRid}
use Rattle.delta.specs.Walks.{place_at}
use Rattle.delta.proofs.AheadLemmas.{next_is}
use Rattle.delta.proofs.PositionsLemmas.{row_only}
use Rattle.delta.proofs.RowLemmas.{row_is, base_is, base_split, no_insert}
use Rattle.delta.proofs.tree.DeltaTree.find_row.Goals.{After-next-next, In-Base}
use Rattle.delta.proofs.tree.DeltaTree.find_row.Goals as goal
use Rattle.std.proofs.lemmas.Grind.{common_steps}

-- a change of an insert replaces no others
run_none : (key_cols : ℕ) (es : List Entry) (c : Change) (n : ℕ) → IsRunOf key_cols es c (Into n)
run_none key_cols es (Ins row) n = tt
run_none key_cols es (Del key) n = tt
run_none key_cols es (Mod col value) n = tt

-- what was read is the entry at the walk, and what is left comes behind it
next : (c : After-next-next) →
    let n = c.find_walk-index.result.index in
    (option_copied c.next-next.result ≡ slice_get c.args.self.now.entries n)
    × (c.next-next.new.self ≡ drop (n + 1) c.args.self.now.entries)
next c =
    let walk = c.find_walk-index in
    next_is c.args.self.now.entries walk.result.index walk.result.entries c.next-next.new.self c.next-next.result walk.ensures.rest
    c.next-next.ensures.steps

-- where the row is a base row, no insert stands there
base : (c : In-Base) (e : Entry) → slice_get c.args.self.now.entries c.find_walk-index.result.index ≡ Some e
    → ((e.sid == c.find_walk-index.result.sid) && is_insert e.change) ≡ false
base c e is =
    let walk = c.find_walk-index in
    let read = (next (goal.at.run_from-requires-clause-split c).After-next-next).0 in
    no_insert walk.result.index walk.result.sid c.in-Base.field-0 _ (sym c.row_at.ensures ∙ c.in-Base.is) e (read ∙ is)

pub run_from-requires-clause-ahead : goal.run_from-requires-clause-ahead
run_from-requires-clause-ahead c = grind (arith, common_steps, c.find_walk-index.ensures.walk.within, next, next_is)

pub run_from-requires-clause-split : goal.run_from-requires-clause-split
run_from-requires-clause-split c =
    let t = c.args.self.now in
    let walk = c.find_walk-index in
    base_split t.key_cols c.args.rid walk.result.sid t.entries walk.result.index (T_from_true _ walk.ensures.lawful.ordered)
    walk.ensures.walk (base c)

pub returns-in-Inserted : goal.returns-in-Inserted
returns-in-Inserted c =
    let t = c.args.self.now in
    let walk = c.find_walk-index in
    let n = walk.result.index in
    let s = walk.result.sid in
    let ordered = T_from_true _ walk.ensures.lawful.ordered in
    let read = (next (goal.at.returns-in-Inserted c).After-next-next).0 in
    let found = ap (place_at n s) (sym read) ∙ sym c.row_at.ensures ∙ c.in-Inserted.is in
    let at =
    subst (λ (place : Place). IsAtRid t.entries c.args.rid place) found
    (row_is t.key_cols c.args.rid s t.entries n ordered walk.ensures.walk) in
    record {
      at = at;
      only = λ place there. row_only t.key_cols t.entries ordered c.args.rid place _ there at;
      run = run_none t.key_cols t.entries (change_of c.args.change) c.in-Inserted.at;
    }

pub returns-in-Base : goal.returns-in-Base
returns-in-Base c =
    let t = c.args.self.now in
    let walk = c.find_walk-index in
    let ordered = T_from_true _ walk.ensures.lawful.ordered in
    let at =
    subst (λ (place : Place). IsAtRid t.entries c.args.rid place) (sym c.run_from.ensures.row)
    (base_is t.key_cols c.args.rid walk.result.sid t.entries walk.result.index ordered walk.ensures.walk
    (base (goal.at.returns-in-Base c).In-Base)) in
    record {
      at = at;
      only = λ place there. row_only t.key_cols t.entries ordered c.args.rid place _ there at;
      run = c.run_from.ensures.run;
    }
