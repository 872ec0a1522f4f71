-- Amounts, which are whole numbers of 2^-1074: their exponents, powers of two among them, rounding to the nearest multiple, and distance.
use Rattle.std.specs.Prelude.{ℕ, ◌+◌, ◌*◌, ◌/◌, ◌%◌, ◌^◌, ◌<◌, ◌≤◌, Bool, cond, ◌&&◌, ◌||◌, ℤ, pos, negsuc, ◌+ℤ◌, ◌-ℤ◌, ◌≤ℤ◌, ◌==◌, nat_lt, unsigned_abs}
use Rattle.std.specs.Float.Ieee.{size as digit_count}
use Rattle.forms.specs.Loads.{nat_of}

-- the exponent of an amount n other than 0, by how many binary digits n has
abbrev pub exponent : ℕ → ℤ
exponent n = pos (digit_count n) -ℤ pos 1075

-- 2^e as an amount, for an e from -1,074 up
abbrev pub unit : ℤ → ℕ
unit e = 2 ^ nat_of (e +ℤ pos 1074)

-- what the exponent is: the whole number e with 2^e ≤ n × 2^-1074 < 2^(e + 1)
pub record Within (n : ℕ) (e : ℤ) : Type 0 where
  pub at_least : unit e ≤ n
  pub below : n < 2 * unit e

-- the exponents that amounts here may have, and the grains too
pub record InRange (e : ℤ) : Type 0 where
  pub low : negsuc 1073 ≤ℤ e
  pub high : e ≤ℤ pos 1100

-- whether n over u lies nearer to the whole number above than to the one below, or as near and the one below is odd
abbrev pub rounds_up : ℕ → ℕ → Bool
rounds_up n u = nat_lt u (2 * (n % u)) || (2 * (n % u) == u && n / u % 2 == 1)

-- the whole number nearest to n over u, and of two equally near the even one
abbrev pub nearest : ℕ → ℕ → ℕ
nearest n u = n / u + cond (rounds_up n u) 1 0

-- how far apart two amounts are
abbrev pub distance : ℤ → ℤ → ℕ
distance x y = unsigned_abs (x -ℤ y)
