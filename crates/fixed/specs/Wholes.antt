-- Whole numbers by sign and size.
use Rattle.std.specs.Prelude.{ℤ}
use Rattle.forms.specs.Loads.{signed}
use Rattle.fixed.specs.declared.int_helper.Whole.{Whole}

-- the number that a sign and a size stand for
abbrev pub number : Whole → ℤ
number w = signed w.negative w.size
