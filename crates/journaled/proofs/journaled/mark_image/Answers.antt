use Rattle.std.proofs.Common.{◌≡◌, ◌∙◌, ℕ, ap, subst, OnOk}
use Rattle.images.specs.Images.{with_mark}
use Rattle.manager.specs.Managed.{newest_number}
use Rattle.txn.specs.Version.{LayeredVersion}
use Rattle.journaled.proofs.journaled.mark_image.Goals as goal

pub returns-clause-ok : goal.returns-clause-ok
returns-clause-ok g c =
    let number : c.number-number.result ≡ newest_number c.args.manager.now =
    c.number-number.ensures ∙ ap (λ (v : LayeredVersion). v.number) c.version.ensures.layers in
    subst
    (λ (n : ℕ). OnOk c.mark.result (c.mark.new.self ≡ with_mark (record { generation = c.args.generation; number = n }) c.args.images.now))
    number c.mark.ensures.ok
