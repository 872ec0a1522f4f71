-- What the code's steps answer for an amount, by its sign and size.
use Rattle.std.proofs.Common.{◌≡◌, ℕ, zero, suc, ◌*◌, ◌^◌, ◌<◌, Bool, true, false, ◌≢◌, ◌⊎◌, ℤ, pos, ◌-ℤ◌, neg_ℤ, nat_abs, Result, SFits, w32, to_z, of_z, sym, refl, ap, ◌∙◌, subst, ap₂, inl, inr, ⊎_elim, zero-mul, arith}
use Rattle.std.proofs.Math.Facts.{to_z-of_z}
use Rattle.std.proofs.lemmas.Int.{ints}
use Rattle.std.proofs.lemmas.Bool.{cases_eq, cases_order}
use Rattle.forms.specs.declared.direction.Direction.{Direction}
use Rattle.forms.specs.declared.round.Grains.{Grains}
use Rattle.forms.specs.declared.load.Load.{Load}
use Rattle.forms.specs.declared.load.Reading.{Reading}
use Rattle.forms.specs.Refusals.{Refused}
use Rattle.forms.specs.Loads.{nat_of, signed, weight, worth, SoundLoad}
use Rattle.forms.specs.Amounts.{exponent, unit, InRange}
use Rattle.forms.specs.Forms.{Meaning, grains, written, ReadsAs, Rounds}
use Rattle.forms.specs.Conversions.{standing, facing, answered, plain}
use Rattle.forms.specs.Roundings.{rounded_to, turned}
use Rattle.forms.proofs.Orders.{nat_of_up}
use Rattle.forms.proofs.Soundness.{signed_size}
use Rattle.forms.proofs.Grained.{stands_below, stands_above, stands_equal, exponent_of}

-- sizes stand as amounts above 0 do, and amounts below 0 the other way
pub turned_standing : (b : Bool) (m n : ℕ) → turned b (standing (pos m) (pos n)) ≡ standing (signed b m) (signed b n)
turned_standing false m n = refl
turned_standing true m n =
    ⊎_elim
    (λ (e : m ≡ n). ap (turned true) (stands_equal (pos m) (pos n) (ap pos e)) ∙ sym (stands_equal (neg_ℤ (pos m)) (neg_ℤ (pos n)) (ap (λ x. neg_ℤ (pos x)) e)))
    (⊎_elim
    (λ (l : m < n). ap (turned true) (stands_below (pos m) (pos n) (omega (arith, ints))) ∙ sym (stands_above (neg_ℤ (pos m)) (neg_ℤ (pos n)) (omega (arith, ints))))
    (λ l. ap (turned true) (stands_above (pos m) (pos n) (omega (arith, ints))) ∙ sym (stands_below (neg_ℤ (pos m)) (neg_ℤ (pos n)) (omega (arith, ints)))))
    (cases_order m n)

-- an answer that reads as a load is not infinite
pub facing_load : (reads : ℕ → Result Reading Refused) (bits : ℕ) (x : ℤ) (d : Direction) → ReadsAs reads bits x → d ≡ facing (reads bits) d
facing_load reads bits x d r = ap (λ z. facing z d) (sym r.1)

-- a number of 32 bits stands for what it was found to be
pub word_is : {z x : ℤ} → SFits w32 z → z ≡ x → to_z w32 (of_z w32 z) ≡ x
word_is f e = to_z-of_z f ∙ e

-- the steps: an exponent, a grain for it, and the rounding to it
module _ (f : Meaning) (b : Bool) (n : ℕ) (e g : ℤ) (r : Grains) (e_is : e ≡ exponent n) (g_is : g ≡ f.writing.grain e) (r_is : r ≡ rounded_to (unit g) n) where
  kept : r ≡ rounded_to (unit (f.writing.grain (exponent n))) n
  kept = r_is ∙ ap (λ x. rounded_to (unit x) n) (g_is ∙ ap f.writing.grain e_is)

  -- what is handed to the form's write
  pub handed : 0 < n → InRange e → Rounds f.writing e r.low r.more n
  handed h s = record { some = h; place = sym e_is; ranged = s; digits = ap (λ x. x.low) kept; mark = ap (λ x. x.more) kept }

  -- what it gives, and how that stands
  pub answered_is :
      (p : ℕ × Bool) (d : Direction) → p ≡ f.writing.write b e r.low r.more → d ≡ facing (f.reads p.0) (turned b r.direction)
      → (p.0, d, p.1) ≡ answered f b n
  answered_is p d w q =
      let m = grains f.writing n * unit (f.writing.grain (exponent n)) in
      let v : p ≡ written f.writing b n = w ∙ ap₂ (λ x y. f.writing.write b x y.low y.more) e_is kept in
      let s : d ≡ facing (f.reads p.0) (standing (signed b m) (signed b n)) =
      q ∙ ap (λ x. facing (f.reads p.0) (turned b x.direction)) kept ∙ ap (facing (f.reads p.0)) (turned_standing b m n) in
      ap (λ z. (p.0, z, p.1)) s ∙ ap (λ z. (z.0, facing (f.reads z.0) (standing (signed b m) (signed b n)), z.1)) v

-- an amount other than 0, given by its sign and size
pub plain_signed : (f : Meaning) (b : Bool) (n : ℕ) → 0 < n → answered f b n ≡ plain f (signed b n)
plain_signed f b zero h = absurd (omega arith)
plain_signed f false (suc n) h = refl
plain_signed f true (suc n) h = refl

-- ---- a load

-- a load's weight is its worth, sign aside
pub worth_size : (l : Load) → nat_abs (worth l) ≡ weight l
worth_size l = signed_size l.negative (weight l)

-- a size of 0 is worth 0
pub worth_nothing : (l : Load) → SoundLoad l → l.size ≡ 0 → worth l ≡ pos 0
worth_nothing l s e =
    let w : weight l ≡ 0 = ap (λ x. x * 2 ^ nat_of (pos 1074 -ℤ l.scale)) e ∙ zero-mul _ in
    ap₂ signed (s.zero_sign e) w

-- a load's exponent is in range
pub worth_ranged : (l : Load) → SoundLoad l → 0 < nat_abs (worth l) → InRange (exponent (nat_abs (worth l)))
worth_ranged l s h = subst (λ x. InRange (exponent x)) (sym (worth_size l)) (go (cases_eq l.size 0))
  where
    go : (l.size ≡ 0) ⊎ (l.size ≢ 0) → InRange (exponent (weight l))
    go (inl e) = absurd (let z = ap nat_abs (worth_nothing l s e) in omega arith)
    go (inr d) =
        let (j, z, e) = exponent_of l.size (nat_of (pos 1074 -ℤ l.scale)) (omega arith) s.size_fits in
        record { low = omega (arith, ints, nat_of_up); high = omega (arith, ints, nat_of_up) }
