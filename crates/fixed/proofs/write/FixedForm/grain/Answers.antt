use Rattle.std.proofs.Common.{◌≡◌, pos, neg_ℤ, rules, w32, to_z, of_z}
use Rattle.fixed.specs.Shapes.{laws_of}
use Rattle.fixed.proofs.write.FixedForm.grain.Goals as goal

pub returns-clause-coarse : goal.returns-clause-coarse
returns-clause-coarse c =
    let f = c.args.self.now in
    let v : to_z w32 (of_z w32 c.last_digit.result) ≡ neg_ℤ (pos f.fraction) = search rules in
    rw v ((laws_of f).coarse c.args.e c.requires)
