-- How a float form writes a significand, from IEEE 754 (4.3.1, rounding to nearest, ties to even): its grain, its bits, its infinities.
use Rattle.std.specs.Prelude.{ℕ, ◌+◌, ◌-◌, ◌*◌, ◌^◌, Bool, true, false, cond, ℤ, pos, ◌+ℤ◌, ◌-ℤ◌, nat_lt}
use Rattle.std.specs.Int.{int_max}
use Rattle.forms.specs.Loads.{nat_of}
use Rattle.forms.specs.Forms.{Writing, Meaning, form_of}
use Rattle.float.specs.declared.format.Format.{Ghosts as FormatOf}
use Rattle.float.specs.Formats.{exp_min}
use Rattle.float.specs.Floats.{float_reads}

-- the greater of e and EXP_MIN, less PREC, plus 1
abbrev pub float_grain : ℕ → ℕ → ℤ → ℤ
float_grain width prec e = int_max e (exp_min width prec) -ℤ pos prec +ℤ pos 1

-- the sign bit, in its place
abbrev pub sign_bit : ℕ → Bool → ℕ
sign_bit width negative = cond negative (2 ^ (width - 1)) 0

-- the bits of infinity, sign aside: an exponent field of all ones, and no trailing significand
abbrev pub infinity : ℕ → ℕ → ℕ
infinity width prec = (2 ^ (width - prec) - 1) * 2 ^ (prec - 1)

-- the bits, sign aside, of a significand whose exponent lies so far above EXP_MIN: the leading digit of a full one falls on the exponent field and
-- counts it up by 1, which is where the field starts; a significand of 2^prec, which rounding may make, counts it up by 2
abbrev pub packed : ℕ → ℕ → ℕ → ℕ
packed prec above significand = above * 2 ^ (prec - 1) + significand

-- what is written for a sign, an exponent and a significand: infinity, flagged, from where the exponent field would be all ones
abbrev pub float_writes : ℕ → ℕ → Bool → ℤ → ℕ → ℕ × Bool
float_writes width prec negative e significand =
    cond (nat_lt (packed prec (nat_of (e -ℤ exp_min width prec)) significand) (infinity width prec))
    (sign_bit width negative + packed prec (nat_of (e -ℤ exp_min width prec)) significand, false)
    (sign_bit width negative + infinity width prec, true)

-- how a format of this width and precision writes; a significand has at most prec + 1 digits, so there is no mark to look at
abbrev pub float_writing : ℕ → ℕ → Writing
float_writing width prec =
    record {
      grain = float_grain width prec;
      write = λ negative e low more. float_writes width prec negative e low;
      zero = 0;
      edge = λ negative. sign_bit width negative + infinity width prec;
    }

-- the form of this width and precision, by its meaning
abbrev pub float_form : ℕ → ℕ → Meaning
float_form width prec = form_of (float_reads width prec) (float_writing width prec)

-- the form of a format, by its meaning
abbrev pub meaning : {F : Type 0} → FormatOf F → Meaning
meaning format = float_form format.WIDTH format.PREC
