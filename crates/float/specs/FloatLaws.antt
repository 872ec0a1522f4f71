-- The three laws of a form, for every lawful format.
use Rattle.std.specs.Prelude.{◌≡◌, ℕ, ◌+◌, ◌-◌, ◌*◌, ◌^◌, ◌<◌, ◌≤◌, max, Bool, true, false, ℤ, pos, ◌+ℤ◌, ◌-ℤ◌, ◌<ℤ◌, Ok, nat_lt, unsigned_abs, refl}
use Rattle.std.proofs.Common.{sym, ap, subst, subst₂, ◌∙◌, zero-mul, mod-eq_of_lt, arith}
use Rattle.std.proofs.lemmas.Nat.{pow_pos}
use Rattle.std.proofs.lemmas.Int.{ints, clamps}
use Rattle.std.proofs.lemmas.Bool.{true≢false, false≢true, ltb-true, ltb-false, cond_both}
use Rattle.forms.specs.Loads.{nat_of, signed, endless}
use Rattle.forms.specs.Amounts.{exponent, unit, InRange, nearest}
use Rattle.forms.specs.Forms.{form_of, grains, rounded, ReadsAs, Coarse, Faithful, Laws, Asked}
use Rattle.forms.proofs.Exponents.{twice_less, pow_up, places_ordered, within}
use Rattle.forms.proofs.Nearests.{near}
use Rattle.forms.proofs.Orders.{nat_of_up}
use Rattle.float.specs.Formats.{Lawful, exp_min}
use Rattle.float.specs.Floats.{sign_of, float_reads}
use Rattle.float.specs.Writings.{float_grain, sign_bit, infinity, packed, float_writes, float_writing}
use Rattle.float.specs.Fields.{exp_max_some, infinity_below}
use Rattle.forms.proofs.Soundness.{signed_size}
use Rattle.float.specs.Significands.{whole_at, none_below, not_longer, not_shorter, not_shown}
use Rattle.float.specs.Readings.{finest, shown, sign_kept, reads_infinity, reads_least, reads_packed}

-- ---- the grain

-- the place of the grain: prec - 1 below the exponent, or the finest
grain_place :
    (width prec : ℕ) → Lawful width prec → (e : ℤ) → InRange e
    → nat_of (float_grain width prec e +ℤ pos 1074) ≡ max (nat_of (e +ℤ pos 1074) - (prec - 1)) (finest width prec)
grain_place width prec h e r = let m = exp_max_some width prec h in omega (arith, ints, clamps, nat_of_up)

-- it lies as far above the finest place as the exponent above EXP_MIN
grain_above :
    (width prec : ℕ) → Lawful width prec → (e : ℤ) → InRange e
    → nat_of (float_grain width prec e +ℤ pos 1074) ≡ finest width prec + nat_of (e -ℤ exp_min width prec)
grain_above width prec h e r = let m = exp_max_some width prec h in omega (arith, ints, clamps, nat_of_up)

-- grains are in range
grain_ranged : (width prec : ℕ) → Lawful width prec → (e : ℤ) → InRange e → InRange (float_grain width prec e)
grain_ranged width prec h e r = let m = exp_max_some width prec h in record { low = omega (arith, ints, clamps); high = omega (arith, ints, clamps) }

-- the first two laws
grain_coarse : (width prec : ℕ) → Lawful width prec → (e : ℤ) → InRange e → Coarse (float_reads width prec) e (float_grain width prec e)
grain_coarse width prec h e r =
    let f = finest width prec in
    let i = nat_of (e +ℤ pos 1074) in
    let g = nat_of (float_grain width prec e +ℤ pos 1074) in
    let q = grain_place width prec h e r in
    record {
      whole = λ x w l.
          let d = shown width prec h x w in
          let a = d.amount in (
            d.significand * 2 ^ (f + d.above - g),
            a ∙ whole_at d.significand (prec - 1) f d.above i g q d.short (omega arith),
          );
      none_finer = λ l x w some less.
          let d = shown width prec h x w in
          let a = d.amount in
          let o = places_ordered e (float_grain width prec e) r l in
          let u : unit (float_grain width prec e) ≡ 2 ^ f = ap (λ x. 2 ^ x) (omega arith) in
          none_below d.significand f d.above (omega arith) (omega arith);
    }

-- ---- the write

-- what a float form is handed for an amount of exponent e: a significand of at most prec digits, or 2^prec, and of no fewer above EXP_MIN
pub record Handed (width prec : ℕ) (e : ℤ) (s : ℕ) : Type 0 where
  pub short : s ≤ 2 ^ prec
  pub full : exp_min width prec <ℤ e → 2 ^ (prec - 1) ≤ s
  pub word : s < 2 ^ 64

-- it is so of what an amount is rounded to
handed : (width prec n : ℕ) (e : ℤ) → Lawful width prec → 0 < n → exponent n ≡ e → InRange e → Handed width prec e (nearest n (unit (float_grain width prec e)))
handed width prec n e h z q r =
    let i = nat_of (e +ℤ pos 1074) in
    let g = nat_of (float_grain width prec e +ℤ pos 1074) in
    let s = nearest n (2 ^ g) in
    let p = grain_place width prec h e r in
    let a = grain_above width prec h e r in
    let w = within n e z q in
    let b = near n (2 ^ g) (pow_pos g) in
    let l : s ≤ 2 * 2 ^ (prec - 1) = not_longer (prec - 1) i g n s (omega arith) w.below b in
    let t = twice_less prec (omega arith) in
    let u = pow_up prec 63 (omega arith) in
    record {
      short = omega arith;
      full = λ o. not_shorter (prec - 1) i g n s (omega (arith, ints, nat_of_up)) w.at_least b;
      word = omega arith;
    }

-- what a write is asked is so handed
pub asked_handed :
    (width prec : ℕ) (e : ℤ) (low : ℕ) (more : Bool) → Lawful width prec → Asked (float_writing width prec) e low more → Handed width prec e low
asked_handed width prec e low more h q =
    let n = q.0 in
    let a = q.1 in
    let d = handed width prec n (exponent n) h a.some refl (subst (λ z. InRange z) (sym a.place) a.ranged) in
    subst₂ (Handed width prec) a.place (sym (a.digits ∙ mod-eq_of_lt d.word)) d

-- the third law, of a significand that is handed
writes_faithful :
    (width prec s : ℕ) (n : Bool) (e : ℤ) → Lawful width prec → InRange e → Handed width prec e s
    → Faithful (float_reads width prec) (signed n (s * unit (float_grain width prec e))) (float_writes width prec n e s)
writes_faithful width prec s n e h r d =
    let f = finest width prec in
    let above = nat_of (e -ℤ exp_min width prec) in
    let x = signed n (s * unit (float_grain width prec e)) in
    let short : s ≤ 2 * 2 ^ (prec - 1) = let t = twice_less prec (omega arith) in omega arith in
    let full : 0 < above → 2 ^ (prec - 1) ≤ s = λ o. d.full (omega (arith, ints, nat_of_up)) in
    let x_is : x ≡ signed n (s * 2 ^ (f + above)) = ap (λ i. signed n (s * 2 ^ i)) (grain_above width prec h e r) in
    cond_both (nat_lt (packed prec above s) (infinity width prec))
    (sign_bit width n + packed prec above s, false) (sign_bit width n + infinity width prec, true)
    (Faithful (float_reads width prec) x)
    (λ b.
    let l = reads_packed width prec above s n h short full (ltb-true (packed prec above s) (infinity width prec) b) in
    record { fits = λ _. (l.0, l.1, l.2 ∙ sym x_is); over = λ o. absurd (false≢true o) })
    (λ b.
    let o = ltb-false (packed prec above s) (infinity width prec) b in
    record {
      fits = λ o. absurd (true≢false o);
      over = λ _ w.
          let z = shown width prec h x w in
          let same : z.significand * 2 ^ (f + z.above) ≡ s * 2 ^ (f + above) = sym z.amount ∙ ap unsigned_abs x_is ∙ signed_size n (s * 2 ^ (f + above)) in
          not_shown z.significand (prec - 1) f z.above above s (2 ^ (width - prec) - 1) z.short z.low short full o same;
    })

-- what is flagged is infinity of its sign
pub writes_infinite :
    (width prec s : ℕ) (n : Bool) (e : ℤ) (r : ℕ × Bool) → Lawful width prec → r ≡ float_writes width prec n e s
    → r.1 ≡ true → float_reads width prec r.0 ≡ Ok (endless n)
writes_infinite width prec s n e r h q =
    subst (λ (x : ℕ × Bool). x.1 ≡ true → float_reads width prec x.0 ≡ Ok (endless n)) (sym q)
    (cond_both (nat_lt (packed prec (nat_of (e -ℤ exp_min width prec)) s) (infinity width prec)) _ _
    (λ (x : ℕ × Bool). x.1 ≡ true → float_reads width prec x.0 ≡ Ok (endless n))
    (λ _ o. absurd (false≢true o))
    (λ _ _. reads_infinity width prec h n))

-- whatever is written keeps its sign
pub writes_sign :
    (width prec s : ℕ) (n : Bool) (e : ℤ) (r : ℕ × Bool) → Lawful width prec → r ≡ float_writes width prec n e s
    → sign_of width r.0 ≡ n
writes_sign width prec s n e r h q =
    let above = nat_of (e -ℤ exp_min width prec) in
    let i = infinity_below width prec h in
    ap (λ (x : ℕ × Bool). sign_of width x.0) q
    ∙ cond_both (nat_lt (packed prec above s) (infinity width prec)) _ _ (λ (x : ℕ × Bool). sign_of width x.0 ≡ n)
    (λ b. let l = ltb-true (packed prec above s) (infinity width prec) b in sign_kept width n (packed prec above s) (omega arith))
    (λ _. sign_kept width n (infinity width prec) i)

-- 0 reads as 0
zero_reads : (width prec : ℕ) → Lawful width prec → ReadsAs (float_reads width prec) 0 (pos 0)
zero_reads width prec h =
    subst₂ (λ x y. ReadsAs (float_reads width prec) x (pos y)) (omega arith) (zero-mul (2 ^ (finest width prec + 0)))
    (reads_least width prec 0 false h (pow_pos (prec - 1)))

-- what every form keeps
pub float_laws : (width prec : ℕ) → Lawful width prec → Laws (form_of (float_reads width prec) (float_writing width prec))
float_laws width prec h =
    record {
      ranged = grain_ranged width prec h;
      coarse = grain_coarse width prec h;
      faithful = λ negative n z r.
          let d = handed width prec n (exponent n) h z refl r in
          subst (λ s. Faithful (float_reads width prec) (rounded (float_writing width prec) negative n) (float_writes width prec negative (exponent n) s))
          (sym (mod-eq_of_lt d.word))
          (writes_faithful width prec (grains (float_writing width prec) n) negative (exponent n) h r d);
      zero_reads = zero_reads width prec h;
    }
