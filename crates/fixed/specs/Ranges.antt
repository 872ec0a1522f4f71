-- Which whole numbers bits stand for: those that are not outside, each by its bits modulo 2^width.
use Rattle.std.specs.Prelude.{◌≡◌, ℕ, suc, ◌-◌, ◌%◌, ◌^◌, ◌<◌, ◌≤◌, Bool, true, false, ℤ, pos, negsuc, ◌-ℤ◌, ◌≤ℤ◌, MatchBool, nat_le}
use Rattle.std.proofs.Common.{ap, ◌∙◌, mod-eq_of_lt, arith}
use Rattle.std.specs.Int.Signed.{≤ℤ_refl}
use Rattle.std.proofs.lemmas.Nat.{pow_pos}
use Rattle.std.proofs.lemmas.Int.{ints}
use Rattle.std.proofs.lemmas.Bool.{le-leb, lt-leb, cond-true, cond-false}
use Rattle.std.proofs.lemmas.Bool.Decides.{nat_tests}
use Rattle.forms.proofs.Exponents.{twice_less}
use Rattle.fixed.specs.Fixeds.{value}
use Rattle.fixed.specs.Writings.{modulo, lowest, highest, extreme, outside, fixed_edge, Outermost}
use Rattle.fixed.specs.Residues.{modulo_lt}

-- v is neither below the least nor above the greatest
pub record Within (signed : Bool) (width : ℕ) (v : ℤ) : Type 0 where
  pub low : lowest signed width ≤ℤ v
  pub high : v ≤ℤ highest signed width

-- which is what the test says
pub within : (s : Bool) (width : ℕ) (v : ℤ) → outside s width v ≡ false → Within s width v
within s width v e = record { low = grind (arith, ints); high = grind (arith, ints) }

pub not_outside : (s : Bool) (width : ℕ) (v : ℤ) → Within s width v → outside s width v ≡ false
not_outside s width v h = grind (arith, ints)

-- the bits of 0 stand for 0
pub value_zero : (s : Bool) (width : ℕ) → value s width 0 ≡ pos 0
value_zero s width = let p = pow_pos (width - 1) in grind (arith, nat_tests)

-- every value is so
pub value_within : (s : Bool) (width bits : ℕ) → 0 < width → bits < 2 ^ width → Within s width (value s width bits)
value_within false width bits h l = record { low = omega (arith, ints); high = omega (arith, ints) }
value_within true width bits h l =
    let t = twice_less width h in
    let p = pow_pos (width - 1) in
    record { low = grind (arith, ints, nat_tests); high = grind (arith, ints, nat_tests) }

-- and every such number is the value of its bits
pub value_modulo : (s : Bool) (width : ℕ) (v : ℤ) → 0 < width → Within s width v → value s width (modulo v (2 ^ width)) ≡ v
value_modulo false width (pos n) h r = let p = pow_pos width in ap pos (mod-eq_of_lt (omega (arith, ints)))
value_modulo false width (negsuc n) h r = absurd (omega (arith, ints))
value_modulo true width (pos n) h r =
    let t = twice_less width h in
    let p = pow_pos (width - 1) in
    let l : n < 2 ^ (width - 1) = omega (arith, ints) in
    let m : n % 2 ^ width ≡ n = mod-eq_of_lt (omega arith) in
    ap (value true width) m ∙ cond-false (nat_le (2 ^ (width - 1)) n) _ _ (lt-leb _ _ l)
value_modulo true width (negsuc n) h r =
    let t = twice_less width h in
    let p = pow_pos (width - 1) in
    let l : suc n ≤ 2 ^ (width - 1) = omega (arith, ints) in
    let m : n % 2 ^ width ≡ n = mod-eq_of_lt (omega arith) in
    let e : pos (2 ^ width - suc n) -ℤ pos (2 ^ width) ≡ negsuc n = omega (arith, ints) in
    ap (λ x. value true width (2 ^ width - suc x)) m ∙ cond-true (nat_le (2 ^ (width - 1)) (2 ^ width - suc n)) _ _ (le-leb _ _ (omega arith)) ∙ e

-- the least is no greater than the greatest
ordered : (s : Bool) (width : ℕ) → lowest s width ≤ℤ highest s width
ordered true width = let p = pow_pos (width - 1) in omega (arith, ints)
ordered false width = let p = pow_pos width in omega (arith, ints)

-- both are not outside
extreme_within : (s : Bool) (width : ℕ) (negative : Bool) → Within s width (extreme s width negative)
extreme_within s width true = record { low = ≤ℤ_refl (lowest s width); high = ordered s width }
extreme_within s width false = record { low = ordered s width; high = ≤ℤ_refl (highest s width) }

-- and nothing that is not outside lies further out
extreme_last : (s : Bool) (width : ℕ) (negative : Bool) (v : ℤ) → Within s width v → MatchBool negative (extreme s width negative ≤ℤ v) (v ≤ℤ extreme s width negative)
extreme_last s width true v r = r.low
extreme_last s width false v r = r.high

-- so their bits are the outermost
pub edge_outermost : (s : Bool) (width : ℕ) (negative : Bool) → 0 < width → Outermost s width negative (fixed_edge s width negative)
edge_outermost s width negative h =
    let v = extreme s width negative in
    record {
      fits = modulo_lt v (2 ^ width) (pow_pos width);
      last = λ bits l. rw (value_modulo s width v h (extreme_within s width negative)) (extreme_last s width negative (value s width bits) (value_within s width bits h l));
    }
