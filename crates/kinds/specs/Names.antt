-- What the forms that have names mean.
use Rattle.std.specs.Prelude.{ℕ}
use Rattle.forms.specs.Forms.{Meaning}
use Rattle.fixed.specs.Writings.{meaning}
use Rattle.float.specs.Writings.{float_form}
use Rattle.kinds.specs.declared.format_name.FormatName.{FormatName}
use Rattle.kinds.specs.declared.format_name.FormatName.TheVariants.{F16, Bf16, F32, F64}
use Rattle.kinds.specs.declared.form_name.FormName.{FormName}
use Rattle.kinds.specs.declared.form_name.FormName.TheVariants.{Fixed, Float}

-- the width of a format
abbrev pub width_of : FormatName → ℕ
width_of F16 = 16
width_of Bf16 = 16
width_of F32 = 32
width_of F64 = 64

-- its precision
abbrev pub prec_of : FormatName → ℕ
prec_of F16 = 11
prec_of Bf16 = 8
prec_of F32 = 24
prec_of F64 = 53

-- what a float of a format means
abbrev pub float_meaning : FormatName → Meaning
float_meaning n = float_form (width_of n) (prec_of n)

-- what the form that is named means
abbrev pub meaning_of : FormName → Meaning
meaning_of (Fixed f) = meaning f
meaning_of (Float n) = float_meaning n
