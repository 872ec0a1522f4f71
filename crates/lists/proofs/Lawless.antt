-- What is read of a line that names a fixed form that there is not.
use Rattle.std.proofs.Common.{◌≡◌, Ok, Err, Result}
use Rattle.std.specs.Result.{IsErrAnd}
use Rattle.lists.specs.declared.claims.Claim.{Claim}
use Rattle.lists.specs.declared.claims.NoClaim.{NoClaim}
use Rattle.lists.specs.declared.claims.NoClaim.TheVariants.{Malformed, Unlawful as unlawful}
use Rattle.lists.specs.declared.tally.LineKind.{LineKind}
use Rattle.lists.specs.Words.{Left}
use Rattle.lists.specs.Lines.{Unlawful, Read}

pub read_unlawful : (sort : LineKind) (left : Left) (r : Result Claim NoClaim) → IsErrAnd r (λ e. e ≡ unlawful) → Unlawful sort left → Read sort left r
read_unlawful sort left (Ok claim) e u = absurd e
read_unlawful sort left (Err Malformed) e u = tt
read_unlawful sort left (Err unlawful) e u = u
