-- What a line asks of conversion.
use Rattle.std.specs.Prelude.{◌≡◌, ℕ, Bool, Ok, Err, Result}
use Rattle.forms.specs.declared.direction.Direction.{Direction}
use Rattle.forms.specs.declared.load.Reading.{Reading}
use Rattle.forms.specs.declared.refusal.Cause.TheVariants.{NoNumber as for_no_number, Endless as for_endless}
use Rattle.forms.specs.Refusals.{Refused, refused}
use Rattle.forms.specs.Forms.{Meaning}
use Rattle.forms.specs.Conversions.{converted, converted_clamped}
use Rattle.lists.specs.declared.conversions.Conversion.{Conversion}
use Rattle.lists.specs.declared.conversions.Conversion.TheVariants.{NoNumber, Endless, Finite, Bits}

-- the bits of a plain answer
abbrev pub bits_of : Result (ℕ × Direction × Bool) Refused → Result ℕ Refused
bits_of (Ok a) = Ok a.0
bits_of (Err e) = Err e

-- the plain answer is as a line says
abbrev pub PlainIs : Result (ℕ × Direction × Bool) Refused → Conversion → Type 0
PlainIs r NoNumber = r ≡ Err (refused for_no_number)
PlainIs r (Endless clamped) = r ≡ Err (refused for_endless)
PlainIs r (Finite bits direction over clamped) = r ≡ Ok (bits, direction, over)
PlainIs r (Bits bits) = bits_of r ≡ Ok bits

-- the clamped answer is, of which it need say nothing
abbrev pub ClampedIs : Result ℕ Refused → Conversion → Type 0
ClampedIs r NoNumber = r ≡ Err (refused for_no_number)
ClampedIs r (Endless clamped) = r ≡ Ok clamped
ClampedIs r (Finite bits direction over clamped) = r ≡ Ok clamped
ClampedIs r (Bits bits) = Unit {0}

-- such a reading converts into a form as a line says
abbrev pub Converts : Meaning → Result Reading Refused → Conversion → Type 0
Converts f r said = PlainIs (converted f r) said × ClampedIs (converted_clamped f r) said
