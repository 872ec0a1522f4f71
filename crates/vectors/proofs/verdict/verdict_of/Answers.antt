use Rattle.lists.proofs.Verdicts.{verdict_for}
use Rattle.vectors.specs.Lines.{AgreedHere}
use Rattle.vectors.proofs.verdict.verdict_of.Goals as goal

pub returns : goal.returns
returns c =
    let (altered, told) = c.unmarked-altered.result in
    verdict_for AgreedHere c.args.line.now told.now altered c.agrees.result c.verdict.result c.verdict.ensures c.unmarked-altered.ensures c.agrees.ensures
