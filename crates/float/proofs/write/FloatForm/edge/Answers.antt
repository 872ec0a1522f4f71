use Rattle.float.specs.Readings.{reads_infinity}
use Rattle.float.proofs.write.FloatForm.edge.Goals as goal

pub returns-clause-infinite : goal.returns-clause-infinite
returns-clause-infinite g c =
    let f = g.F.Format in rw c.signed_infinity.ensures (reads_infinity f.WIDTH f.PREC f.lawful c.args.negative)
