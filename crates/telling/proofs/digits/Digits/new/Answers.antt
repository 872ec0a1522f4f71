use Rattle.telling.proofs.Expansions.{expansion}
use Rattle.telling.proofs.digits.Digits.new.Goals as goal

pub returns-clause-exact : goal.returns-clause-exact
returns-clause-exact c = expansion c.args.places c.args.rest c.requires.below
