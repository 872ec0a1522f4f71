use Rattle.lists.proofs.claims.fixed.Goals as goal

pub returns-in-Fixed : goal.returns-in-Fixed
returns-in-Fixed c = rw c.in-Fixed.is at c.in_ok-fixed.ensures
