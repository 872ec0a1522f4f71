use Rattle.std.specs.Fn.{FnReturnsAt}
use Rattle.std.specs.Str.Lines.{lines}
use Rattle.lists.proofs.Tallied.{Leads}
use Rattle.lists.proofs.replay.replay_all.Given as goal

abbrev pub invariant-loop-index : goal.invariant-loop-index
invariant-loop-index g l = Leads (λ line verdict. FnReturnsAt g.F.Fn l.fn.verdict_of line verdict) (lines l.fn.list) l.index-iterator.iter l.tally
