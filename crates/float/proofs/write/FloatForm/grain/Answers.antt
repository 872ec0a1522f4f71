use Rattle.std.proofs.Common.{w32}
use Rattle.std.proofs.lemmas.Int.{to_z-of_z}
use Rattle.float.specs.FloatLaws.{float_laws}
use Rattle.float.proofs.write.FloatForm.grain.Goals as goal

pub returns-clause-coarse : goal.returns-clause-coarse
returns-clause-coarse g c =
    let f = g.F.Format in
    let e = c.args.e in
    rw (to_z-of_z w32 c.grain.result (record { sfits = c.grain.type_inv }), c.grain.ensures, to_z-of_z w32 e c.ranges.e)
    ((float_laws f.WIDTH f.PREC f.lawful).coarse e c.requires)
