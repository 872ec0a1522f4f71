use Rattle.std.proofs.Common.{rules}
use Rattle.forms.proofs.Writes.{asked_faithful}
use Rattle.kinds.specs.Names.{float_meaning}
use Rattle.kinds.specs.NameLaws.{float_laws}
use Rattle.kinds.proofs.format_name.FormatNameForm.write.Goals as goal

pub returns-clause-faithful : goal.returns-clause-faithful
returns-clause-faithful c =
    asked_faithful (float_meaning c.args.self.now) (float_laws c.args.self.now) c.args.negative c.args.e c.args.low c.args.more c.float_write.result (search rules)
