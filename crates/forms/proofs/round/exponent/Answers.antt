use Rattle.std.proofs.Common.{◌≡◌, pos, ◌-ℤ◌, sym, mul-pos, arith, w32, to_z, of_z}
use lib.Count.{count_leading_zeros}
use Rattle.std.proofs.lemmas.Nat.{pow_pos}
use Rattle.std.proofs.lemmas.Int.{ints}
use Rattle.forms.specs.Loads.{nat_of, weight}
use Rattle.forms.specs.Amounts.{exponent}
use Rattle.forms.proofs.Orders.{nat_of_up}
use Rattle.forms.proofs.Exponents.{within}
use Rattle.forms.proofs.Grained.{exponent_of}
use Rattle.forms.proofs.round.exponent.Goals as goal

pub returns : goal.returns
returns c =
    let l = c.args.exact.load in
    let s = c.args.exact.sound in
    let k = nat_of (pos 1074 -ℤ l.scale) in
    let (j, z, e) = exponent_of l.size k c.args.exact.some s.size_fits in
    let d : to_z w32 (of_z w32 (pos 63 -ℤ to_z w32 (count_leading_zeros 64 l.size))) ≡ pos j = omega (arith, ints) in
    let v : to_z w32 (of_z w32 (to_z w32 (of_z w32 (pos 63 -ℤ to_z w32 (count_leading_zeros 64 l.size))) -ℤ to_z w32 (of_z w32 l.scale))) ≡ exponent (weight l) = omega (arith, ints, nat_of_up) in
    record {
      value = v;
      within = within (weight l) _ (mul-pos c.args.exact.some (pow_pos k)) (sym v);
      ranged = record { low = omega (arith, ints, nat_of_up); high = omega (arith, ints, nat_of_up) };
    }
