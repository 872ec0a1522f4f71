-- What every source and every form keeps, of the ones that have names.
use Rattle.std.specs.Prelude.{◌≡◌, ℕ, ℤ}
use Rattle.std.proofs.Common.{rules, sym, subst}
use Rattle.forms.specs.Loads.{Sound}
use Rattle.forms.specs.Amounts.{InRange}
use Rattle.forms.specs.Forms.{Coarse, Laws}
use Rattle.fixed.specs.Shapes.{laws_of}
use Rattle.float.specs.Formats.{Lawful}
use Rattle.float.specs.InRange.{float_sound as sound_of_lawful}
use Rattle.float.specs.FloatLaws.{float_laws as laws_of_lawful}
use Rattle.kinds.specs.declared.format_name.FormatName.{FormatName}
use Rattle.kinds.specs.declared.format_name.FormatName.TheVariants.{F16, Bf16, F32, F64}
use Rattle.kinds.specs.declared.form_name.FormName.{FormName}
use Rattle.kinds.specs.declared.form_name.FormName.TheVariants.{Fixed, Float}
use Rattle.kinds.specs.Names.{width_of, prec_of, float_meaning, meaning_of}

-- there may be a format of each of the names
lawful_of : (n : FormatName) → Lawful (width_of n) (prec_of n)
lawful_of F16 = search rules
lawful_of Bf16 = search rules
lawful_of F32 = search rules
lawful_of F64 = search rules

pub float_sound : (n : FormatName) (bits : ℕ) → Sound ((float_meaning n).reads bits)
float_sound n bits = sound_of_lawful (width_of n) (prec_of n) bits (lawful_of n)

pub float_laws : (n : FormatName) → Laws (float_meaning n)
float_laws n = laws_of_lawful (width_of n) (prec_of n) (lawful_of n)

-- the first two laws, of a float that is named
pub float_coarse : (n : FormatName) (e g : ℤ) → InRange e → g ≡ (float_meaning n).writing.grain e → Coarse (float_meaning n).reads e g
float_coarse n e g r h = subst (Coarse (float_meaning n).reads e) (sym h) ((float_laws n).coarse e r)

pub sound : (f : FormName) (bits : ℕ) → Sound ((meaning_of f).reads bits)
sound (Fixed f) bits = search rules
sound (Float n) bits = float_sound n bits

pub laws : (f : FormName) → Laws (meaning_of f)
laws (Fixed f) = laws_of f
laws (Float n) = float_laws n
