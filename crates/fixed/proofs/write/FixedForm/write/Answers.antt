use Rattle.std.proofs.Common.{rules}
use Rattle.forms.proofs.Writes.{asked_faithful}
use Rattle.fixed.specs.Writings.{meaning}
use Rattle.fixed.specs.Shapes.{laws_of, asked_wraps}
use Rattle.fixed.proofs.write.FixedForm.write.Goals as goal

pub returns-clause-faithful : goal.returns-clause-faithful
returns-clause-faithful c =
    let a = c.args in asked_faithful (meaning a.self.now) (laws_of a.self.now) a.negative a.e a.low a.more _ (search rules)

pub returns-clause-modulo : goal.returns-clause-modulo
returns-clause-modulo c = let a = c.args in asked_wraps a.self.now a.negative a.e a.low a.more _ (search rules)
