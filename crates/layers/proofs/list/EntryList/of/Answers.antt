use Rattle.std.proofs.Common.{◌≤◌, length, sym, ◌∙◌, subst, arith}
use Rattle.model.specs.Entries.{IsLawful}
use Rattle.delta.specs.Tree.{Tree}
use Rattle.layers.proofs.SerialLemmas.{all_taken}
use Rattle.layers.proofs.ShiftLemmas.{all_unshifted}
use Rattle.layers.proofs.list.EntryList.of.Goals as goal

pub invariant_of-result : goal.invariant_of-result
invariant_of-result c =
    let tree = c.args.tree.now in
    let es = c.in_ok-entries.entries.items in
    let ss = c.in_ok-shifts.shifts.items in
    let end : length tree.entries ≤ c.len.result = omega (arith, c.len.ensures) in
    let whole = c.in_ok-entries.ensures.entries ∙ all_taken c.len.result tree.entries end in
    let still = all_unshifted ss es c.in_ok-shifts.ensures.none ∙ whole in
    let law = subst (λ (t : Tree). IsLawful t.key_cols t.entries)
    (λ i. record { key_cols = sym c.key_cols.ensures i; entries = sym still i }) c.in_ok-entries.ensures.lawful in
    (law, omega (arith, c.in_ok-shifts.ensures.covered, c.len-2.ensures, c.in_ok-entries.entries.ok.0))

pub returns : goal.returns
returns c =
    let tree = c.args.tree.now in
    let es = c.in_ok-entries.entries.items in
    let ss = c.in_ok-shifts.shifts.items in
    let end : length tree.entries ≤ c.len.result = omega (arith, c.len.ensures) in
    let whole = c.in_ok-entries.ensures.entries ∙ all_taken c.len.result tree.entries end in
    let still = all_unshifted ss es c.in_ok-shifts.ensures.none ∙ whole in
    λ i. record { key_cols = c.key_cols.ensures i; entries = still i }
