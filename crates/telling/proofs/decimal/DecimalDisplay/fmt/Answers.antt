use Rattle.std.proofs.Common.{◌≡◌, ◌/◌, ◌%◌, ◌^◌, ◌++◌, flat_map}
use Rattle.std.specs.Fmt.{decimal}
use Rattle.std.proofs.lemmas.List.{map-id}
use Rattle.std.proofs.lemmas.Grind.{put_two}
use Rattle.std.proofs.lemmas.Iterator.Consumers.{YieldsList-from_first, YieldsList-end}
use Rattle.telling.specs.Decimals.{digits, digits_left, decimal_text}
use Rattle.telling.proofs.decimal.DecimalDisplay.fmt.Goals as goal

pub returns-clause-writes : goal.returns-clause-writes
returns-clause-writes g c = λ p k.
    let d = c.args.self.now in
    let rest = digits d.places (d.size % 2 ^ d.places) in
    let items = c.loop-digit.yielded in
    let came : digits_left c.into_iter-digit-iterator.result ≡ rest = cc in
    let all = YieldsList-end (YieldsList-from_first (λ x. x) digits_left rest came) items c.loop-digit.digit-iterator c.loop-digit.yielded_by c.next.result c.next.new.self c.in-None.is c.next.ensures.steps in
    let whole = c.in_ok-write.ensures.writes p k in
    let text : (decimal (d.size / 2 ^ d.places) ++ c.point-point.result.now) ++ flat_map decimal items ≡ decimal_text d.size d.places = cc (map-id items) in
    put_two g.W.Write.write_str_gives c.args.f.now c.write.new.self c.loop-digit.f (decimal (d.size / 2 ^ d.places) ++ c.point-point.result.now) (flat_map decimal items) (decimal_text d.size d.places) whole (c.loop-digit.invariant whole.plain) text
