use Rattle.forms.proofs.Grained.{rounded_above, rounded_level, rounded_below}
use Rattle.std.proofs.Common.{sym, ◌∙◌, arith}
use Rattle.forms.proofs.round.nearest.Goals as goal

pub returns-then-rounds_up : goal.returns-then-rounds_up
returns-then-rounds_up c =
    rounded_above c.args.whole c.args.removed_bits c.args.tie c.requires.room c.requires.short (sym c.rounds_up.ensures ∙ c.if-rounds_up.true)

pub returns-then-removed_bits-eq0 : goal.returns-then-removed_bits-eq0
returns-then-removed_bits-eq0 c = rounded_level c.args.whole c.args.removed_bits c.args.tie c.requires.room c.requires.short (omega arith)

pub returns-else-removed_bits-eq0 : goal.returns-else-removed_bits-eq0
returns-else-removed_bits-eq0 c =
    rounded_below c.args.whole c.args.removed_bits c.args.tie c.requires.room c.requires.short (omega arith) (sym c.rounds_up.ensures ∙ c.if-rounds_up.false)
