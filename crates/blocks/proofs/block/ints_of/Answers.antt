use Rattle.std.proofs.Common.{◌≡◌, ◌++◌, ◌∷◌, [], map, take, subst, sym, ap, ◌∙◌, FitsSigned, rules}
use Rattle.std.specs.Int.{w64}
use Rattle.std.proofs.lemmas.Int.{to_z-of_z}
use Rattle.std.proofs.lemmas.List.{take_all, take_more, map_push}
use Rattle.values.specs.declared.value.ColumnType.TheVariants as column
use Rattle.values.specs.declared.value.Value.TheVariants.{Int}
use Rattle.blocks.specs.Column.{AllFit}
use Rattle.blocks.proofs.FitLemmas.{ints_fit_push, is_int, typed_at}
use Rattle.blocks.proofs.block.ints_of.Goals as goal

pub unreachable-requires : goal.unreachable-requires
unreachable-requires c =
    let value = c.value-item.result in
    let i = c.loop-value.value-index in
    let typed = typed_at column.Int c.args.values.now i value c.requires c.loop-value-test.true c.value-item.is in
    is_int value typed c.in_default.not-Int

pub loop-value-preserved : goal.loop-value-preserved
loop-value-preserved c =
    let ints = c.loop-value.ints.items in
    let number = c.in-Int.number in
    let fits : FitsSigned w64 number = search rules in
    let pushed : c.push.new.self.items ≡ ints ++ number ∷ [] =
    c.in_ok-push-in-Int.ensures.items ∙ ap (λ x. ints ++ x ∷ []) (to_z-of_z w64 number fits) in
    let values = c.args.values.now in
    let i = c.loop-value.value-index in
    let next = take_more values i c.value-item.result c.loop-value-test.true
    ∙ ap (λ value. take i values ++ value ∷ []) (sym c.value-item.is ∙ c.in-Int.is) in
    record {
      same = ap (map Int) pushed ∙ map_push Int ints number
          ∙ ap (λ front. front ++ Int number ∷ []) c.loop-value.invariant.same ∙ sym next;
      fit = rw pushed (ints_fit_push ints number c.loop-value.invariant.fit fits);
    }

pub returns-clause-fit : goal.returns-clause-fit
returns-clause-fit c =
    let whole = take_all c.loop-value.value-index c.args.values.now c.loop-value-test.false in
    subst (AllFit column.Int) (c.loop-value.invariant.same ∙ whole) c.loop-value.invariant.fit
