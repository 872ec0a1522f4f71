-- How lines are counted.
use Rattle.std.specs.Prelude.{◌≡◌, ℕ, ◌+◌, ◌-◌, ◌^◌, min, Bool, true, false, cond, List, ◌++◌, Some, None, Ok, Err, codes, decimal, Option, Result}
use Rattle.std.specs.List.{FoldsTo}
use Rattle.lists.specs.declared.tally.Count.{Count}
use Rattle.lists.specs.declared.tally.LineKind.{LineKind}
use Rattle.lists.specs.declared.tally.LineKind.TheVariants.{Kind, NegAbs, Compare, ToFloat, FromFloat, Convert}
use Rattle.lists.specs.declared.tally.Tally.{Tally}
use Rattle.lists.specs.declared.tally.Verdict.{Verdict}
use Rattle.lists.specs.declared.tally.Verdict.TheVariants.{Agrees, Differs, Refused, Accepted, Malformed}

-- what becomes of a line of a kind, by whether it is altered and whether it agrees
abbrev pub judged : Bool → LineKind → Bool → Verdict
judged false k agrees = cond agrees (Agrees k) (Differs k)
judged true k agrees = cond agrees Accepted Refused

-- what becomes of a line by whether it is altered and what was found of it
abbrev pub verdict : {E : Type 0} → Bool → Result (LineKind × Bool) E → Verdict
verdict altered (Ok found) = judged altered found.0 found.1
verdict altered (Err e) = Malformed

-- what is wrong with a line: one that stands there as it was answered should agree, and an altered one should not
abbrev pub fault_of : Verdict → Option (List ℕ)
fault_of (Agrees _) = None
fault_of (Differs _) = Some (codes "differs")
fault_of Refused = None
fault_of Accepted = Some (codes "is altered, and agrees")
fault_of Malformed = Some (codes "is malformed")

-- one more; a count stays at the greatest of 64 bits
abbrev pub one_more : ℕ → ℕ
one_more n = min (n + 1) (2 ^ 64 - 1)

-- one line more of a sort, which is as it should be or is not
abbrev pub counted : Bool → Count → Count
counted is_right c = record { lines = one_more c.lines; right = cond is_right (one_more c.right) c.right }

-- no lines
abbrev pub none : Count
none = record { lines = 0; right = 0 }

abbrev pub nothing : Tally
nothing =
    record { kind = none; neg_abs = none; compare = none; to_float = none; from_float = none; convert = none; malformed = 0; altered = none }

-- one line more of this kind, and none of another
abbrev pub with_line : LineKind → Bool → Tally → Tally
with_line Kind agrees t =
    record { kind = counted agrees t.kind; neg_abs = t.neg_abs; compare = t.compare; to_float = t.to_float; from_float = t.from_float; convert = t.convert; malformed = t.malformed; altered = t.altered }
with_line NegAbs agrees t =
    record { kind = t.kind; neg_abs = counted agrees t.neg_abs; compare = t.compare; to_float = t.to_float; from_float = t.from_float; convert = t.convert; malformed = t.malformed; altered = t.altered }
with_line Compare agrees t =
    record { kind = t.kind; neg_abs = t.neg_abs; compare = counted agrees t.compare; to_float = t.to_float; from_float = t.from_float; convert = t.convert; malformed = t.malformed; altered = t.altered }
with_line ToFloat agrees t =
    record { kind = t.kind; neg_abs = t.neg_abs; compare = t.compare; to_float = counted agrees t.to_float; from_float = t.from_float; convert = t.convert; malformed = t.malformed; altered = t.altered }
with_line FromFloat agrees t =
    record { kind = t.kind; neg_abs = t.neg_abs; compare = t.compare; to_float = t.to_float; from_float = counted agrees t.from_float; convert = t.convert; malformed = t.malformed; altered = t.altered }
with_line Convert agrees t =
    record { kind = t.kind; neg_abs = t.neg_abs; compare = t.compare; to_float = t.to_float; from_float = t.from_float; convert = counted agrees t.convert; malformed = t.malformed; altered = t.altered }

-- one altered line more, which is refused or is not
abbrev pub with_altered : Bool → Tally → Tally
with_altered refused t =
    record { kind = t.kind; neg_abs = t.neg_abs; compare = t.compare; to_float = t.to_float; from_float = t.from_float; convert = t.convert; malformed = t.malformed; altered = counted refused t.altered }

-- one line more, counted by what became of it
abbrev pub tallied : Verdict → Tally → Tally
tallied (Agrees k) t = with_line k true t
tallied (Differs k) t = with_line k false t
tallied Refused t = with_altered true t
tallied Accepted t = with_altered false t
tallied Malformed t =
    record { kind = t.kind; neg_abs = t.neg_abs; compare = t.compare; to_float = t.to_float; from_float = t.from_float; convert = t.convert; malformed = one_more t.malformed; altered = t.altered }

-- the tally of all lines, one after another, each counted by a verdict that is given on it
abbrev pub TalliedBy : (List ℕ → Verdict → Type 0) → List (List ℕ) → Tally → Type 0
TalliedBy Gives all tally = FoldsTo (λ before line after. (v : Verdict) × Gives line v × (after ≡ tallied v before)) nothing all tally

-- a count as it is printed
abbrev pub count_text : Count → List ℕ
count_text c = decimal c.lines ++ (codes " lines, " ++ decimal c.right)

-- the kinds that ask what bits are, and how they compare, as they are printed: a line for each
abbrev pub readings_text : Tally → List ℕ
readings_text t =
    codes "kind: "
    ++ (count_text t.kind
    ++ (codes " agree\nneg_abs: " ++ (count_text t.neg_abs ++ (codes " agree\ncompare: " ++ (count_text t.compare ++ codes " agree\n")))))

-- the kinds that ask for conversions likewise, then a line for what is malformed and one for what is altered
abbrev pub conversions_text : Tally → List ℕ
conversions_text t =
    codes "to_float: "
    ++ (count_text t.to_float
    ++ (codes " agree\nfrom_float: "
    ++ (count_text t.from_float
    ++ (codes " agree\nconvert: "
    ++ (count_text t.convert
    ++ (codes " agree\nmalformed: " ++ (decimal t.malformed ++ (codes "\naltered: " ++ (count_text t.altered ++ codes " refused")))))))))

-- the tally as it is printed
abbrev pub tally_text : Tally → List ℕ
tally_text t = readings_text t ++ conversions_text t
