-- The verdict on a line from what is found of what it tells.
use Rattle.std.proofs.Common.{◌≡◌, ℕ, Bool, true, false, List, IfOk, Ok, Err, Result, sym, subst}
use Rattle.lists.specs.declared.claims.NoClaim.{NoClaim}
use Rattle.lists.specs.declared.tally.LineKind.{LineKind}
use Rattle.lists.specs.declared.tally.Verdict.{Verdict}
use Rattle.lists.specs.Cuts.{Marked}
use Rattle.lists.specs.Words.{Left}
use Rattle.lists.specs.Tallies.{judged, verdict}
use Rattle.lists.specs.Lines.{Found, VerdictFor}

module _ (Agreeing : LineKind → Left → Bool → Type 0) (line told : List ℕ) where
  of_judged : (altered agrees : Bool) (sort : LineKind) → Marked line altered told → Found Agreeing told sort agrees → VerdictFor Agreeing line (judged altered sort agrees)
  of_judged false true sort m f = record { told = told; marked = m; found = f }
  of_judged false false sort m f = record { told = told; marked = m; found = f }
  of_judged true true sort m f = (sort, record { told = told; marked = m; found = f })
  of_judged true false sort m f = (sort, record { told = told; marked = m; found = f })

  of_found : (altered : Bool) (found : Result (LineKind × Bool) NoClaim) → Marked line altered told → IfOk found (λ f. Found Agreeing told f.0 f.1) → VerdictFor Agreeing line (verdict altered found)
  of_found altered (Ok f) m h = of_judged altered f.1 f.0 m h
  of_found altered (Err e) m h = tt

  -- the same, of a verdict that is known to be that one
  pub verdict_for :
      (altered : Bool) (found : Result (LineKind × Bool) NoClaim) (v : Verdict) → v ≡ verdict altered found → Marked line altered told
      → IfOk found (λ f. Found Agreeing told f.0 f.1) → VerdictFor Agreeing line v
  verdict_for altered found v e m h = subst (λ x. VerdictFor Agreeing line x) (sym e) (of_found altered found m h)
