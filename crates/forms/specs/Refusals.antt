-- The numbers of refusals, and what an answer tells of a refusal: its number and its depth.
use Rattle.std.specs.Prelude.{ℕ, ◌+◌, min, Ok, Err, Result}
use Rattle.forms.specs.declared.refusal.Cause.{Cause}
use Rattle.forms.specs.declared.refusal.Cause.TheVariants.{UnlawfulForm, UnlawfulFactor, BitsTooWide, NoNumber, Endless, ScaleTooLow, ColumnFull, MalformedLine, BufferTooShort}
use Rattle.forms.specs.declared.refusal.Refusal.{Refusal}

-- the number of each cause
abbrev pub number_of : Cause → ℕ
number_of UnlawfulForm = 1
number_of UnlawfulFactor = 2
number_of BitsTooWide = 3
number_of NoNumber = 4
number_of Endless = 5
number_of ScaleTooLow = 6
number_of ColumnFull = 7
number_of MalformedLine = 8
number_of BufferTooShort = 9

-- a refusal as every promise speaks of it
pub record Refused : Type 0 where
  pub number : ℕ
  pub depth : ℕ

-- the refusal of a call's own, before any layer
abbrev pub refused : Cause → Refused
refused c = record { number = number_of c; depth = 0 }

-- the same refusal one purchase layer further up; the depth stays at 65,535
abbrev pub deeper : Refused → Refused
deeper r = record { number = r.number; depth = min (r.depth + 1) 65535 }

-- an answer of the code, its refusal told by number and depth
abbrev pub told : {A : Type 0} → Result A Refusal → Result A Refused
told (Ok x) = Ok x
told (Err e) = Err (record { number = number_of e.cause; depth = e.depth })
