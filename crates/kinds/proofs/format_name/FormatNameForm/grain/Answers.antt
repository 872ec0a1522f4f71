use Rattle.std.proofs.Common.{rules}
use Rattle.kinds.specs.NameLaws.{float_coarse}
use Rattle.kinds.proofs.format_name.FormatNameForm.grain.Goals as goal

pub returns-clause-coarse : goal.returns-clause-coarse
returns-clause-coarse c = float_coarse c.args.self.now c.args.e _ c.requires (search rules)
