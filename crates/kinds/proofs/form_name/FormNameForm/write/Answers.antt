use Rattle.std.proofs.Common.{rules}
use Rattle.forms.proofs.Writes.{asked_faithful}
use Rattle.kinds.specs.Names.{meaning_of}
use Rattle.kinds.specs.NameLaws.{laws}
use Rattle.kinds.proofs.form_name.FormNameForm.write.Goals as goal

pub returns-clause-faithful : goal.returns-clause-faithful
returns-clause-faithful c =
    asked_faithful (meaning_of c.args.self.now) (laws c.args.self.now) c.args.negative c.args.e c.args.low c.args.more c.form_write.result (search rules)
