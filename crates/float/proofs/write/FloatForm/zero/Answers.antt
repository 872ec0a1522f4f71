use Rattle.float.specs.FloatLaws.{float_laws}
use Rattle.float.proofs.write.FloatForm.zero.Goals as goal

pub returns-clause-nothing : goal.returns-clause-nothing
returns-clause-nothing g c =
    let f = g.F.Format in
    rw c.sign_bit.ensures (float_laws f.WIDTH f.PREC f.lawful).zero_reads
