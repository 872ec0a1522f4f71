-- A load under a purchase layer is worth its factor times the load.
use Rattle.std.proofs.Common.{◌≡◌, ℕ, zero, suc, ◌+◌, ◌*◌, ◌^◌, Bool, true, false, cond, eqb, pos, negsuc, ◌-ℤ◌, ◌*ℤ◌, neg_ℤ, Ok, Err, Result, sym, refl, ap, ◌∙◌, subst, mul_assoc, mul_comm, mul-zero, zero-mul, arith}
use lib.Signed.{lt_z}
use Rattle.std.proofs.lemmas.Nat.{pow-add}
use Rattle.std.proofs.lemmas.Int.{ints}
use Rattle.std.proofs.lemmas.Bool.{eqb-true}
use Rattle.forms.specs.declared.load.Load.{Load}
use Rattle.forms.specs.declared.load.Reading.{Reading}
use Rattle.forms.specs.declared.load.Reading.TheVariants.{Finite}
use Rattle.forms.specs.declared.purchase.Factor.{Factor}
use Rattle.forms.specs.declared.refusal.Cause.TheVariants.{ScaleTooLow}
use Rattle.forms.specs.Refusals.{Refused, refused}
use Rattle.forms.specs.Loads.{nat_of, signed, weight, worth, SoundLoad, Sound}
use Rattle.forms.specs.Purchases.{doublings, times, raised, raise_load, layered, Counts}
use Rattle.forms.proofs.Orders.{nat_of_up}

-- a product with a sign
signed_times : (b : Bool) (n w : ℕ) → signed b (n * w) ≡ pos n *ℤ signed b w
signed_times false n w = refl
signed_times true n zero = ap (λ x. neg_ℤ (pos x)) (mul-zero n) ∙ sym (ap pos (mul-zero n))
signed_times true n (suc w) = refl

-- the scale lowered by k makes k doublings
weight_raised : (f : Factor) (l : Load) → SoundLoad l → weight (raised f l) ≡ times f * weight l
weight_raised f l s =
    let e : nat_of (pos 1074 -ℤ (l.scale -ℤ pos (doublings f))) ≡ doublings f + nat_of (pos 1074 -ℤ l.scale) = omega (arith, ints, nat_of_up) in
    ap (λ x. l.size * 2 ^ x) e
    ∙ ap (λ x. l.size * x) (pow-add 2 (doublings f) (nat_of (pos 1074 -ℤ l.scale)))
    ∙ sym (mul_assoc l.size (times f) _)
    ∙ ap (λ x. x * 2 ^ nat_of (pos 1074 -ℤ l.scale)) (mul_comm l.size (times f))
    ∙ mul_assoc (times f) l.size _

worth_raised : (f : Factor) (l : Load) → SoundLoad l → worth (raised f l) ≡ pos (times f) *ℤ worth l
worth_raised f l s = ap (signed l.negative) (weight_raised f l s) ∙ signed_times l.negative (times f) (weight l)

-- a size of 0 is worth 0, under any factor
worth_zero : (n : ℕ) (l : Load) → l.size ≡ 0 → worth l ≡ pos n *ℤ worth l
worth_zero n l e =
    let w : weight l ≡ 0 = ap (λ x. x * 2 ^ nat_of (pos 1074 -ℤ l.scale)) e ∙ zero-mul _ in
    ap (signed l.negative) (w ∙ sym (mul-zero n) ∙ ap (λ x. n * x) (sym w)) ∙ signed_times l.negative n (weight l)

-- the load read is the one that the layer makes
load_counts : (f : Factor) (l m : Load) → SoundLoad l → raise_load f l ≡ Ok (Finite m) → worth m ≡ pos (times f) *ℤ worth l
load_counts f l m s = go (eqb l.size 0) (lt_z (l.scale -ℤ pos (doublings f)) (negsuc 999)) refl
  where
    go : (z t : Bool) → eqb l.size 0 ≡ z → cond z (Ok (Finite l)) (cond t (Err (refused ScaleTooLow)) (Ok (Finite (raised f l)))) ≡ Ok (Finite m) → worth m ≡ pos (times f) *ℤ worth l
    go true t e q = let p : l ≡ m = cc in ap worth (sym p) ∙ worth_zero (times f) l (eqb-true l.size 0 e)
    go false true e q = let o : ◌≡◌ {A = ℕ} 0 1 = cc in absurd (omega arith)
    go false false e q = let p : raised f l ≡ m = cc in ap worth (sym p) ∙ worth_raised f l s

pub layer_counts : (f : Factor) (r : Result Reading Refused) → Sound r → Counts (times f) r (layered f r)
layer_counts f r s l m p q =
    load_counts f l m (subst Sound p s) (ap (layered f) (sym p) ∙ q)
