-- The numbers of a binary floating-point format, by its width and precision.
use Rattle.std.specs.Prelude.{ℕ, ◌+◌, ◌-◌, ◌^◌, ◌≤◌, ℤ, pos, ◌-ℤ◌}
use Rattle.std.proofs.Common.{rules}

-- EXP_MAX, the greatest exponent of a number; it is the bias of the exponent field too
abbrev pub exp_max : ℕ → ℕ → ℕ
exp_max width prec = 2 ^ (width - prec - 1) - 1

-- EXP_MIN, the least exponent of a full significand
abbrev pub exp_min : ℕ → ℕ → ℤ
exp_min width prec = pos 1 -ℤ pos (exp_max width prec)

-- the formats that there may be: the word has 64 bits, and every load is in range
pub record Lawful (width prec : ℕ) : Type 0 where
  pub some_fraction : 2 ≤ prec
  pub some_exponent : prec + 2 ≤ width
  pub one_word : width ≤ 64
  pub finest : exp_max width prec + prec ≤ 1076
  pub coarsest : exp_max width prec ≤ 999 + prec

-- the formats of this crate
pub binary16 : Lawful 16 11
binary16 = search rules

pub bfloat16 : Lawful 16 8
bfloat16 = search rules

pub binary32 : Lawful 32 24
binary32 = search rules

pub binary64 : Lawful 64 53
binary64 = search rules
