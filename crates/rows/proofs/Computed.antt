-- That every row holds, by computing.
use Rattle.std.proofs.Common.{refl}
use lib.Ieee.{span, climb, size}
use Rattle.rows.specs.Rows.{Hold, table}

pub hold : Hold table
unfolding span climb size
hold =
    ((refl, refl), ((refl, refl), ((refl, refl), ((refl, refl), ((refl, refl), ((refl, refl), ((refl, refl), ((refl, refl), ((refl, refl), ((refl, refl), ((refl, refl), (refl, (refl, (refl, tt))))))))))))))
