use Rattle.std.proofs.Common.{Ok, sym, ap, ◌∙◌}
use Rattle.forms.specs.Purchases.{layered}
use Rattle.forms.specs.Refusals.{told}
use Rattle.forms.proofs.Layers.{layer_counts}
use Rattle.forms.proofs.purchase.PurchaseSource.read.Goals as goal

pub returns-in-Ok-Finite-clause-counts : goal.returns-in-Ok-Finite-clause-counts
returns-in-Ok-Finite-clause-counts g c =
    let p = c.args.self.now in
    let below = g.S.Source.reads p.source c.args.bits in
    λ l m e q. layer_counts p.factor below (g.met.S.Source.sound p.source c.args.bits) l m e (ap (layered p.factor) (sym c.read.ensures.value) ∙ ap (λ r. layered p.factor (told r)) c.in-Ok-Finite.is ∙ ap (λ r. layered p.factor (Ok r)) c.in-Ok-Finite.field-0-is ∙ sym c.raise_load.ensures ∙ q)
