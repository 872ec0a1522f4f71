-- The widths and fractions that fixed forms have.
use Rattle.std.specs.Prelude.{ℕ, Bool, ◌&&◌, ◌||◌, ◌==◌, nat_le}

-- a width of 8, 16, 32 or 64, and a fraction that is no longer
abbrev pub lawful : ℕ → ℕ → Bool
lawful width fraction = (width == 8 || (width == 16 || (width == 32 || width == 64))) && nat_le fraction width
