use Rattle.fixed.specs.Shapes.{laws_of}
use Rattle.fixed.proofs.write.FixedForm.zero.Goals as goal

pub returns-clause-nothing : goal.returns-clause-nothing
returns-clause-nothing c = rw c.zero_bits.ensures (laws_of c.args.self.now).zero_reads
