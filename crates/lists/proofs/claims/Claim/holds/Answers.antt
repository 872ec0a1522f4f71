use Rattle.lists.proofs.claims.Claim.holds.Goals as goal

pub returns-in-FromFloat : goal.returns-in-FromFloat
returns-in-FromFloat c = rw c.in-FromFloat.is c.converts-in-FromFloat.ensures

pub returns-in-Convert : goal.returns-in-Convert
returns-in-Convert c = rw c.in-Convert.is c.converts-in-Convert.ensures
