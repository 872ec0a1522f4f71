-- What the bits of a binary floating-point format stand for, from IEEE 754 (3.4, binary interchange format encodings); bfloat16 is read likewise.
-- From the highest bit down: the sign, width - prec bits of biased exponent, and prec - 1 bits of trailing significand.
use Rattle.std.specs.Prelude.{ℕ, ◌+◌, ◌-◌, ◌/◌, ◌%◌, ◌^◌, Bool, cond, ℤ, pos, ◌-ℤ◌, Ok, Err, Result, ◌==◌, nat_le, nat_lt}
use Rattle.forms.specs.declared.load.Reading.{Reading}
use Rattle.forms.specs.declared.load.Reading.TheVariants.{NoNumber, Finite}
use Rattle.forms.specs.declared.refusal.Cause.TheVariants.{BitsTooWide}
use Rattle.forms.specs.Refusals.{Refused, refused}
use Rattle.forms.specs.Loads.{signed, load_of, endless}
use Rattle.float.specs.Formats.{exp_max, exp_min}

-- the sign bit
abbrev pub sign_of : ℕ → ℕ → Bool
sign_of width bits = nat_le (2 ^ (width - 1)) bits

-- the biased exponent
abbrev pub biased_of : ℕ → ℕ → ℕ → ℕ
biased_of width prec bits = bits / 2 ^ (prec - 1) % 2 ^ (width - prec)

-- the trailing significand
abbrev pub trailing_of : ℕ → ℕ → ℕ
trailing_of prec bits = bits % 2 ^ (prec - 1)

-- a significand of prec - 1 digits after the point, times 2^exponent
abbrev pub scaled : ℕ → Bool → ℕ → ℤ → Reading
scaled prec negative significand exponent = Finite (load_of (signed negative significand) (pos (prec - 1) -ℤ exponent))

-- a number: an exponent field of 0 has no digit before the point and the least exponent, and any other has a 1 there and its own exponent
abbrev pub finite : ℕ → ℕ → Bool → ℕ → ℕ → Reading
finite width prec negative biased trailing =
    cond (biased == 0)
    (scaled prec negative trailing (exp_min width prec))
    (scaled prec negative (2 ^ (prec - 1) + trailing) (pos biased -ℤ pos (exp_max width prec)))

-- the reading of a sign, a biased exponent and a trailing significand: an exponent field of all ones is an infinity or no number
abbrev pub of_fields : ℕ → ℕ → Bool → ℕ → ℕ → Reading
of_fields width prec negative biased trailing =
    cond (biased == 2 ^ (width - prec) - 1)
    (cond (trailing == 0) (endless negative) NoNumber)
    (finite width prec negative biased trailing)

-- the reading of bits that the format has
abbrev pub float_of : ℕ → ℕ → ℕ → Reading
float_of width prec bits = of_fields width prec (sign_of width bits) (biased_of width prec bits) (trailing_of prec bits)

-- what a format of this width and precision reads
abbrev pub float_reads : ℕ → ℕ → ℕ → Result Reading Refused
float_reads width prec bits = cond (nat_lt bits (2 ^ width)) (Ok (float_of width prec bits)) (Err (refused BitsTooWide))
