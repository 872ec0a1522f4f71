-- What is printed of a tally.
use Rattle.std.specs.Prelude.{ℕ, List, ◌++◌, codes, decimal}
use Rattle.lists.specs.declared.tally.Tally.{Tally}
use Rattle.lists.specs.Tallies.{count_text, readings_text}

-- the tally as it is printed: a line for each kind, one for what is malformed, and one for what is altered
abbrev pub rows_text : Tally → List ℕ
rows_text t = readings_text t ++ (codes "malformed: " ++ (decimal t.malformed ++ (codes "\naltered: " ++ (count_text t.altered ++ codes " refused"))))
