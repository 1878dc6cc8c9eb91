use Rattle.std.proofs.Common.{◌≡◌, List, length, sym, ap, ◌∙◌, subst, arith}
use Rattle.std.specs.Vec.{with_items}
use Rattle.std.proofs.lemmas.List.{with_items_is}
use Rattle.model.specs.declared.entry.Entry.{Entry}
use Rattle.model.specs.Entries.{IsLawful}
use Rattle.model.specs.Rebasing.{first_clash, rebased_entries}
use Rattle.delta.specs.Tree.{Tree}
use Rattle.layers.specs.Over.{AreAligned}
use Rattle.layers.specs.Shifts.{shifted_entries}
use Rattle.layers.proofs.SerialLemmas.{conflicting, unconflicting, rebased_is, lawful}
use Rattle.layers.proofs.list.EntryList.pass.Goals as goal

pub invariant_of-result : goal.invariant_of-result
invariant_of-result c =
    let x = c.args.self in
    let y = c.args.other.now in
    let own = (λ i. shifted_entries (c.deref_mut-2.ensures.value i) (c.deref_mut.ensures.value i))
    ∙ ap (λ (t : Tree). t.entries) c.self.view_is in
    let none =
    ap (λ (es : List Entry). first_clash c.args.rule y.key_cols es y.entries) (sym own) ∙ sym c.move_past.ensures.clash ∙ c.in-None.is in
    let moved = c.move_past.ensures.moved c.in-None.is ∙ ap (rebased_entries y.key_cols y.entries) own in
    let new = shifted_entries c.move_past.new.shifts c.move_past.new.entries in
    let law = lawful c.args.rule x y c.requires new none moved in
    let back = with_items_is c.self.inside.entries c.move_past.new.entries (c.move_past.auto.entries ∙ c.deref_mut.ensures.len) in
    let shifts = with_items_is c.self.inside.shifts c.move_past.new.shifts (c.move_past.auto.shifts ∙ c.deref_mut-2.ensures.len) in
    let cols = ap (λ (t : Tree). t.key_cols) c.self.view_is in (
      subst (λ (t : Tree). IsLawful t.key_cols t.entries)
          (λ i. record { key_cols = sym cols i; entries = shifted_entries (sym shifts i) (sym back i) }) law,
      omega (
        arith,
        ap length back,
        ap length shifts,
        c.self.invariant.1,
        ap length c.deref_mut.ensures.value,
        ap length c.deref_mut-2.ensures.value,
        c.move_past.auto.entries,
        c.move_past.auto.shifts,
      ),
    )

pub returns-in-Some : goal.returns-in-Some
returns-in-Some c =
    let y = c.args.other.now in
    let own = (λ i. shifted_entries (c.deref_mut-2.ensures.value i) (c.deref_mut.ensures.value i))
    ∙ ap (λ (t : Tree). t.entries) c.self.view_is in
    let found =
    ap (λ (es : List Entry). first_clash c.args.rule y.key_cols es y.entries) (sym own) ∙ sym c.move_past.ensures.clash ∙ c.in-Some.is in
    λ (w : AreAligned c.args.self y). conflicting c.args.rule c.args.self y w c.in-Some.clash found

pub returns-in-None : goal.returns-in-None
returns-in-None c =
    let x = c.args.self in
    let y = c.args.other.now in
    let own = (λ i. shifted_entries (c.deref_mut-2.ensures.value i) (c.deref_mut.ensures.value i))
    ∙ ap (λ (t : Tree). t.entries) c.self.view_is in
    let none =
    ap (λ (es : List Entry). first_clash c.args.rule y.key_cols es y.entries) (sym own) ∙ sym c.move_past.ensures.clash ∙ c.in-None.is in
    let moved = c.move_past.ensures.moved c.in-None.is ∙ ap (rebased_entries y.key_cols y.entries) own in
    let back = with_items_is c.self.inside.entries c.move_past.new.entries (c.move_past.auto.entries ∙ c.deref_mut.ensures.len) in
    let shifts = with_items_is c.self.inside.shifts c.move_past.new.shifts (c.move_past.auto.shifts ∙ c.deref_mut-2.ensures.len) in
    let cols = ap (λ (t : Tree). t.key_cols) c.self.view_is in
    let new = shifted_entries c.move_past.new.shifts c.move_past.new.entries in
    let list : Tree = record {
      key_cols = c.self.inside.key_cols;
      entries =
          shifted_entries (with_items c.self.inside.shifts c.move_past.new.shifts).items
          (with_items c.self.inside.entries c.move_past.new.entries).items;
    } in
    let list_is : list ≡ record { key_cols = x.key_cols; entries = new } =
    λ i. record { key_cols = cols i; entries = shifted_entries (shifts i) (back i) } in
    λ (w : AreAligned x y).
    (unconflicting c.args.rule x y w none, rebased_is c.args.rule x y w list new none moved list_is)
