-- What the code keeps of an amount rounded to a grain, and how it turns what it knows of sizes to amounts.
use Rattle.std.specs.Prelude.{ℕ, ◌*◌, ◌%◌, ◌^◌, Bool, true, false, pos, nat_le}
use Rattle.forms.specs.declared.direction.Direction.{Direction}
use Rattle.forms.specs.declared.direction.Direction.TheVariants.{Below, Equal, Above}
use Rattle.forms.specs.declared.round.Grains.{Grains}
use Rattle.forms.specs.Amounts.{nearest}
use Rattle.forms.specs.Conversions.{standing}

-- of n rounded to the nearest multiple M of u: the lowest 64 binary digits of M, the mark that there are more, and how M × u stands to n
abbrev pub rounded_to : ℕ → ℕ → Grains
rounded_to u n =
    record { low = nearest n u % 2 ^ 64; more = nat_le (2 ^ 64) (nearest n u); direction = standing (pos (nearest n u * u)) (pos n) }

-- how amounts of this sign stand, where their sizes stand so: below 0 the other way round
abbrev pub turned : Bool → Direction → Direction
turned false d = d
turned true Below = Above
turned true Equal = Equal
turned true Above = Below
