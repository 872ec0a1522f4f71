use Rattle.std.proofs.Common.{rules}
use Rattle.lists.proofs.Tallied.{begins, goes, ends}
use Rattle.lists.proofs.replay.replay_all.Goals as goal

pub loop-index-init : goal.loop-index-init
loop-index-init g c = begins _ c.args.list.now c.into_iter-index-iterator.result.iter c.new-tally.result (search rules) c.new-tally.ensures

pub loop-index-preserved-in-loop-index : goal.loop-index-preserved-in-loop-index
loop-index-preserved-in-loop-index g c =
    goes _ _ _ c.next.new.self.iter _ c.loop-index.invariant c.in-Some.line c.count.new.self c.verdict_of-verdict.result c.in-Some.ensures.steps.0 (search rules) c.count.ensures

pub loop-index-preserved : goal.loop-index-preserved
loop-index-preserved g c =
    goes _ _ _ c.next.new.self.iter _ c.loop-index.invariant c.in-Some.line c.count.new.self c.verdict_of-verdict.result c.in-Some.ensures.steps.0 (search rules) c.count.ensures

pub returns : goal.returns
returns g c = ends _ _ _ c.next.new.self.iter _ c.loop-index.invariant c.in-None.ensures.steps.0
