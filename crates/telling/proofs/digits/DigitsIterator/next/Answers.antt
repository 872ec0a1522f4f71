use Rattle.std.proofs.Common.{◌^◌, ◌≤◌, arith, pow_mono}
use Rattle.telling.proofs.digits.DigitsIterator.next.Goals as goal

pub overflow_mul-tenfold : goal.overflow_mul-tenfold
overflow_mul-tenfold c = let d = c.args.self.now in let p : 2 ^ d.places ≤ 2 ^ 60 = pow_mono d.word in omega arith
