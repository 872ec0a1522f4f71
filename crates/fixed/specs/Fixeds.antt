-- What a fixed form's bits mean, and what building one answers.
use Rattle.std.specs.Prelude.{◌≡◌, ℕ, ◌-◌, ◌^◌, Bool, false, cond, ◌&&◌, ℤ, pos, ◌-ℤ◌, Ok, Err, Result, nat_le, nat_lt}
use Rattle.forms.specs.declared.load.Reading.{Reading}
use Rattle.forms.specs.declared.load.Reading.TheVariants.{Finite}
use Rattle.forms.specs.declared.refusal.Cause.TheVariants.{UnlawfulForm, BitsTooWide}
use Rattle.forms.specs.declared.refusal.Refusal.{Refusal}
use Rattle.forms.specs.Refusals.{Refused, refused, told}
use Rattle.forms.specs.Loads.{load_of}
use Rattle.fixed.specs.declared.form.Fixed.{Fixed}
use Rattle.fixed.specs.Widths.{lawful}

-- a form is built as it was asked for, or refused because it is not lawful; that every form is lawful is part of its type
abbrev pub Built : Bool → ℕ → ℕ → Result Fixed Refusal → Type 0
Built signed width fraction (Ok f) = (f.signed ≡ signed) × (f.width ≡ width) × (f.fraction ≡ fraction)
Built signed width fraction (Err e) = (lawful width fraction ≡ false) × (told {A = Fixed} (Err e) ≡ Err (refused UnlawfulForm))

-- the whole number that bits of this width stand for: in two's complement the upper half of the patterns stands 2^width lower
abbrev pub value : Bool → ℕ → ℕ → ℤ
value signed width bits = cond (signed && nat_le (2 ^ (width - 1)) bits) (pos bits -ℤ pos (2 ^ width)) (pos bits)

-- what a form of this sign, width and fraction reads
abbrev pub fixed_reads : Bool → ℕ → ℕ → ℕ → Result Reading Refused
fixed_reads signed width fraction bits =
    cond (nat_lt bits (2 ^ width)) (Ok (Finite (load_of (value signed width bits) (pos fraction)))) (Err (refused BitsTooWide))
