-- A purchase layer, as a function on what the source under it reads.
use Rattle.std.specs.Prelude.{◌≡◌, ℕ, ◌^◌, cond, pos, negsuc, ◌-ℤ◌, ◌*ℤ◌, Ok, Err, Result, ◌==◌, int_lt}
use Rattle.forms.specs.declared.load.Load.{Load}
use Rattle.forms.specs.declared.load.Reading.{Reading}
use Rattle.forms.specs.declared.load.Reading.TheVariants.{NoNumber, EndlessUp, EndlessDown, Finite}
use Rattle.forms.specs.declared.purchase.Factor.{Factor}
use Rattle.forms.specs.declared.purchase.Factor.TheVariants.{Two, Four, Eight}
use Rattle.forms.specs.declared.refusal.Cause.TheVariants.{UnlawfulFactor, ScaleTooLow}
use Rattle.forms.specs.Refusals.{Refused, refused, deeper}
use Rattle.forms.specs.Loads.{worth}

-- how often a factor doubles a load
abbrev pub doublings : Factor → ℕ
doublings Two = 1
doublings Four = 2
doublings Eight = 3

-- how many times the load counts
abbrev pub times : Factor → ℕ
times f = 2 ^ doublings f

-- the factor that is the number n, and a refusal where there is none
abbrev pub factor_of : ℕ → Result Factor Refused
factor_of n =
    cond (n == 2) (Ok Two) (cond (n == 4) (Ok Four) (cond (n == 8) (Ok Eight) (Err (refused UnlawfulFactor))))

-- sign and size kept, the scale lowered
abbrev pub raised : Factor → Load → Load
raised f l = record { negative = l.negative; size = l.size; scale = l.scale -ℤ pos (doublings f) }

-- a load under the layer: 0 passes as it is, and a scale that would go below -1,000 is refused
abbrev pub raise_load : Factor → Load → Result Reading Refused
raise_load f l =
    cond (l.size == 0) (Ok (Finite l))
    (cond (int_lt (l.scale -ℤ pos (doublings f)) (negsuc 999)) (Err (refused ScaleTooLow)) (Ok (Finite (raised f l))))

-- what a layer reads where the source under it reads r
abbrev pub layered : Factor → Result Reading Refused → Result Reading Refused
layered f (Err e) = Err (deeper e)
layered f (Ok NoNumber) = Ok NoNumber
layered f (Ok EndlessUp) = Ok EndlessUp
layered f (Ok EndlessDown) = Ok EndlessDown
layered f (Ok (Finite l)) = raise_load f l

-- where below and above are both loads, the load above is worth n times the load below
abbrev pub Counts : ℕ → Result Reading Refused → Result Reading Refused → Type 0
Counts n below above =
    (l m : Load) → below ≡ Ok (Finite l) → above ≡ Ok (Finite m) → worth m ≡ pos n *ℤ worth l
