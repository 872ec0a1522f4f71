use Rattle.lists.specs.Lines.{Agreed}
use Rattle.lists.proofs.Verdicts.{verdict_for}
use Rattle.lists.proofs.replay.verdict_of.Goals as goal

pub returns : goal.returns
returns c =
    let (altered, told) = c.unmarked-altered.result in
    verdict_for Agreed c.args.line.now told.now altered c.agrees.result c.verdict.result c.verdict.ensures c.unmarked-altered.ensures c.agrees.ensures
