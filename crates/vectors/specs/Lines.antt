-- When a line of this list agrees.
use Rattle.std.specs.Prelude.{◌≡◌, Bool, false, Ok, Err, Decides, Result}
use Rattle.lists.specs.declared.claims.Claim.{Claim}
use Rattle.lists.specs.declared.claims.NoClaim.{NoClaim}
use Rattle.lists.specs.declared.claims.NoClaim.TheVariants.{Malformed, Unlawful}
use Rattle.lists.specs.declared.tally.LineKind.{LineKind}
use Rattle.lists.specs.declared.tally.LineKind.TheVariants.{Kind, NegAbs, Compare, ToFloat, FromFloat, Convert}
use Rattle.lists.specs.Words.{Left}
use Rattle.lists.specs.Lines.{Holds, Read}

-- the kinds of line that the list has
abbrev pub Listed : LineKind → Type 0
Listed Kind = Unit {0}
Listed NegAbs = Unit {0}
Listed Compare = Unit {0}
Listed ToFloat = ⊥
Listed FromFloat = ⊥
Listed Convert = ⊥

-- what is read of a line decides: it agrees exactly if its claim holds, and not where it names a fixed form that there is not
abbrev pub Decided : Result Claim NoClaim → Bool → Type 0
Decided (Ok claim) agrees = Decides agrees (Holds claim)
Decided (Err Malformed) agrees = ⊥
Decided (Err Unlawful) agrees = agrees ≡ false

-- what is left of a line of one of these kinds agrees or not by what is read of it
pub record AgreedHere (sort : LineKind) (left : Left) (agrees : Bool) : Type 0 where
  pub listed : Listed sort
  pub read : Result Claim NoClaim
  pub is_read : Read sort left read
  pub decided : Decided read agrees
