-- The names of formats.
use Rattle.std.specs.Prelude.{ℕ, List, codes}
use Rattle.kinds.specs.declared.format_name.FormatName.{FormatName}
use Rattle.kinds.specs.declared.format_name.FormatName.TheVariants.{F16, Bf16, F32, F64}

abbrev pub format_word : FormatName → List ℕ
format_word F16 = codes "f16"
format_word Bf16 = codes "bf16"
format_word F32 = codes "f32"
format_word F64 = codes "f64"
