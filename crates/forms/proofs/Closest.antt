-- Of a form that keeps the laws, no load that it shows is nearer to an amount than the unflagged answer, and where another is as near, M is even.
use Rattle.std.proofs.Common.{◌≡◌, ℕ, zero, suc, ◌+◌, ◌-◌, ◌*◌, ◌/◌, ◌%◌, ◌^◌, ◌<◌, ◌≤◌, Bool, true, false, ◌≢◌, ◌⊎◌, ℤ, pos, negsuc, ◌+ℤ◌, nat_abs, sym, refl, ap, ◌∙◌, subst, inl, inr, ⊎_elim, mul-le-mul_right, mod-lt, add-mul, mul-pos, one-mul, div-add-mod', zero-mul, arith}
use Rattle.std.proofs.lemmas.Nat.{pow_pos}
use Rattle.std.proofs.lemmas.Int.{ints, by_lt_z}
use Rattle.std.proofs.lemmas.Bool.{cases_lt, cases_eq, cases_order, false≢true}
use Rattle.forms.specs.Loads.{nat_of, signed}
use Rattle.forms.specs.Amounts.{exponent, unit, InRange, nearest, distance}
use Rattle.forms.specs.Forms.{Meaning, grains, rounded, ReadsAs, Shown, Laws}
use Rattle.forms.specs.Conversions.{plain, closest, Nearest, NearestAnswer}
use Rattle.forms.proofs.Orders.{nat_of_up}
use Rattle.forms.proofs.Exponents.{pow_split, pow_up, places_ordered, within}
use Rattle.forms.proofs.Nearests.{near, nearest_down, nearest_up, nearest_none, down_or_up}

-- ---- multiples

-- how far apart two sizes are
abbrev gap : ℕ → ℕ → ℕ
gap a b = (a - b) + (b - a)

-- no multiple is nearer
nearest_multiple : (n u : ℕ) → 0 < u → (k : ℕ) → gap (nearest n u * u) n ≤ gap (k * u) n
nearest_multiple n u h k =
    let m = nearest n u in
    let w = near n u h in
    let a = w.not_over in
    let b = w.not_under in
    ⊎_elim
    (λ (e : k ≡ m). let c : k * u ≡ m * u = ap (λ x. x * u) e in omega arith)
    (⊎_elim
    (λ (l : k < m). let c : (k + 1) * u ≤ m * u = mul-le-mul_right u (omega arith) in let d = add-mul k 1 u in let o = one-mul u in omega arith)
    (λ l. let c : (m + 1) * u ≤ k * u = mul-le-mul_right u (omega arith) in let d = add-mul m 1 u in let o = one-mul u in omega arith))
    (cases_order k m)

-- where k × u lies to q × u
Apart : ℕ → ℕ → ℕ → Type 0
Apart u q k = (k * u + u ≤ q * u) ⊎ (q * u + u ≤ k * u)

apart : (u q k : ℕ) → k ≢ q → Apart u q k
unfolding Apart
apart u q k d =
    ⊎_elim
    (λ e. absurd (d e))
    (⊎_elim
    (λ (l : k < q). let c : (k + 1) * u ≤ q * u = mul-le-mul_right u (omega arith) in let s = add-mul k 1 u in let o = one-mul u in inl (omega arith))
    (λ l. let c : (q + 1) * u ≤ k * u = mul-le-mul_right u (omega arith) in let s = add-mul q 1 u in let o = one-mul u in inr (omega arith)))
    (cases_order k q)

-- where another multiple is as near, the nearest is even
even_multiple : (n u : ℕ) → 0 < u → (k : ℕ) → k ≢ nearest n u → gap (k * u) n ≡ gap (nearest n u * u) n → nearest n u % 2 ≡ 0
unfolding Apart
even_multiple n u h k d f =
    let q = n / u in
    let r = n % u in
    let e : n ≡ q * u + r = sym (div-add-mod' n u) in
    let l : r < u = mod-lt n h in
    ⊎_elim
    (λ w.
    let m : nearest n u ≡ q = nearest_down n u q r e l w in
    let g : gap (k * u) n ≡ gap (q * u) n = f ∙ ap (λ x. gap (x * u) n) m in
    ⊎_elim
    (λ (t : 2 * r < u). absurd (⊎_elim (λ a. omega arith) (λ a. omega arith) (apart u q k (λ x. d (x ∙ sym m)))))
    (λ t. ap (λ x. x % 2) m ∙ t.1)
    w)
    (λ w.
    let m : nearest n u ≡ q + 1 = nearest_up n u q r e l w in
    let s : (q + 1) * u ≡ q * u + u = add-mul q 1 u ∙ ap (λ x. q * u + x) (one-mul u) in
    let g : gap (k * u) n ≡ gap ((q + 1) * u) n = f ∙ ap (λ x. gap (x * u) n) m in
    ⊎_elim
    (λ (t : u < 2 * r). absurd (⊎_elim (λ a. omega arith) (λ a. omega arith) (apart u (q + 1) k (λ x. d (x ∙ sym m)))))
    (λ t. let o = t.1 in ap (λ x. x % 2) m ∙ (let z : (q + 1) % 2 ≡ 0 = omega arith in z))
    w)
    (down_or_up u q r)

-- ---- what a form shows, signs aside

-- a load shown is a whole number of grains, or it is farther from n
Placed : ℕ → ℕ → ℕ → Type 0
Placed u n a = ((k : ℕ) × (a ≡ k * u)) ⊎ (gap (nearest n u * u) n < gap a n)

placed : (f : Meaning) → Laws f → (n : ℕ) → 0 < n → InRange (exponent n) → (y : ℤ) → Shown f.reads y → Placed (unit (f.writing.grain (exponent n))) n (nat_abs y)
unfolding Placed
placed f laws n h r y shown =
    let e = exponent n in
    let g = f.writing.grain e in
    let u = unit g in
    let c = laws.coarse e r in
    let s = laws.ranged e r in
    let w = within n e h refl in
    let a = w.at_least in
    ⊎_elim
    (λ (l : nat_abs y < unit e).
    by_lt_z e g
    -- nothing but 0 is left below 2^g
    (λ finer.
    let o = places_ordered e g r finer in
    let p : unit e ≤ u = pow_up (nat_of (e +ℤ pos 1074)) (nat_of (g +ℤ pos 1074)) (omega arith) in
    let z : nat_abs y ≡ 0 * u = ⊎_elim (λ (o : nat_abs y < 1). omega arith) (λ o. absurd (c.none_finer finer y shown o (omega arith))) (cases_lt (nat_abs y) 1) in
    inl (0, z))
    -- 2^e is a whole number of grains, and lies between the two
    (λ coarser.
    let i = nat_of (e +ℤ pos 1074) in
    let j = nat_of (g +ℤ pos 1074) in
    let o : j ≤ i = omega (arith, ints, nat_of_up) in
    let p : unit e ≡ 2 ^ (i - j) * u = pow_split i j o in
    let m = nearest_multiple n u (pow_pos j) (2 ^ (i - j)) in
    inr (omega arith)))
    (λ l. inl (c.whole y shown l))
    (cases_lt (nat_abs y) (unit e))

-- ---- distances

distance_same : (b : Bool) (p q : ℕ) → distance (signed b p) (signed b q) ≡ gap p q
distance_same false p q = omega (arith, ints)
distance_same true p q = omega (arith, ints)

-- an amount lies on the same side of 0, or across it
Sides : Bool → ℤ → ℕ → Type 0
Sides b y n = ((y ≡ signed b (nat_abs y)) × (distance y (signed b n) ≡ gap (nat_abs y) n)) ⊎ (distance y (signed b n) ≡ nat_abs y + n)

sides : (b : Bool) (y : ℤ) (n : ℕ) → Sides b y n
unfolding Sides
sides false (pos a) n = let d : distance (pos a) (pos n) ≡ gap a n = omega (arith, ints) in inl (refl, d)
sides false (negsuc a) n = inr (omega (arith, ints))
sides true (pos a) n = inr (omega (arith, ints))
sides true (negsuc a) n = let d : distance (negsuc a) (signed true n) ≡ gap (suc a) n = omega (arith, ints) in inl (refl, d)

-- ---- the law, by sign and size

module _ (f : Meaning) (laws : Laws f) (b : Bool) (n : ℕ) (h : 0 < n) (r : InRange (exponent n)) where
  -- the grain as an amount
  abbrev u : ℕ
  u = unit (f.writing.grain (exponent n))

  abbrev m : ℕ
  m = grains f.writing n

  some : 0 < u
  some = pow_pos (nat_of (f.writing.grain (exponent n) +ℤ pos 1074))

  -- rounding is no worse than 0 would be
  not_past : gap (m * u) n ≤ n
  not_past = let k = nearest_multiple n u some 0 in let z = zero-mul u in omega arith

  gap_least : (y : ℤ) → Shown f.reads y → gap (m * u) n ≤ gap (nat_abs y) n
  unfolding Placed
  gap_least y shown =
      ⊎_elim
      (λ (k : (k : ℕ) × (nat_abs y ≡ k * u)). let w = nearest_multiple n u some k.0 in let e = k.1 in omega arith)
      (λ l. omega arith)
      (placed f laws n h r y shown)

  pub no_nearer : (y : ℤ) → Shown f.reads y → distance (rounded f.writing b n) (signed b n) ≤ distance y (signed b n)
  unfolding Sides
  no_nearer y shown =
      let l = gap_least y shown in
      let d = distance_same b (m * u) n in
      ⊎_elim (λ s. let e = s.1 in omega arith) (λ s. omega arith) (sides b y n)

  -- a size as near as m grains, and not theirs, leaves m even
  gap_even : (y : ℤ) → Shown f.reads y → nat_abs y ≢ m * u → gap (nat_abs y) n ≡ gap (m * u) n → m % 2 ≡ 0
  unfolding Placed
  gap_even y shown d e =
      ⊎_elim
      (λ (k : (k : ℕ) × (nat_abs y ≡ k * u)).
      even_multiple n u some k.0 (λ x. d (k.1 ∙ ap (λ i. i * u) x)) (ap (λ i. gap i n) (sym k.1) ∙ e))
      (λ l. absurd (omega arith))
      (placed f laws n h r y shown)

  -- no grains at all are an even number of them
  none_even : m * u ≡ 0 → m % 2 ≡ 0
  none_even e =
      ⊎_elim (λ (z : m ≡ 0). ap (λ x. x % 2) z) (λ z. absurd (let p : 0 < m * u = mul-pos (omega arith) some in omega arith)) (cases_eq m 0)

  pub even : (y : ℤ) → Shown f.reads y → y ≢ rounded f.writing b n → distance y (signed b n) ≡ distance (rounded f.writing b n) (signed b n) → m % 2 ≡ 0
  unfolding Sides
  even y shown d e =
      let l = gap_least y shown in
      let s = distance_same b (m * u) n in
      let t = not_past in
      ⊎_elim
      (λ w. gap_even y shown (λ x. d (w.0 ∙ ap (signed b) x)) (sym w.1 ∙ e ∙ s))
      (λ w.
      let z : nat_abs y ≡ 0 = omega arith in
      ⊎_elim (λ (x : m * u ≡ 0). none_even x) (λ x. gap_even y shown (λ i. x (sym i ∙ z)) (omega arith)) (cases_eq (m * u) 0))
      (sides b y n)

-- ---- the law of an answer

-- an amount of 0 is written as the form's zero
nothing_nearest : (f : Meaning) → Laws f → Nearest f (pos 0) f.writing.zero
nothing_nearest f laws =
    let u = unit (f.writing.grain (exponent 0)) in
    let m : nearest 0 u ≡ 0 = nearest_none 0 u (pow_pos (nat_of (f.writing.grain (exponent 0) +ℤ pos 1074))) in
    let c : closest f (pos 0) ≡ pos 0 = ap (λ x. pos (x * u)) m ∙ ap pos (zero-mul u) in
    let d : distance (closest f (pos 0)) (pos 0) ≡ 0 = ap (λ x. distance x (pos 0)) c in
    record {
      reads_as = subst (ReadsAs f.reads f.writing.zero) (sym c) laws.zero_reads;
      no_nearer = λ y shown. omega arith;
      even = λ y shown i e. ap (λ x. x % 2) m;
    }

pub plain_nearest : (f : Meaning) → Laws f → (x : ℤ) → (0 < nat_abs x → InRange (exponent (nat_abs x))) → NearestAnswer f x (plain f x)
plain_nearest f laws (pos zero) r = record { fits = λ e. nothing_nearest f laws; over = λ e. absurd (false≢true e) }
plain_nearest f laws (pos (suc n)) r =
    let h : 0 < suc n = omega arith in
    let l = laws.faithful false (suc n) h (r h) in
    record {
      fits = λ e. record { reads_as = l.fits e; no_nearer = no_nearer f laws false (suc n) h (r h); even = even f laws false (suc n) h (r h) };
      over = l.over;
    }
plain_nearest f laws (negsuc n) r =
    let h : 0 < suc n = omega arith in
    let l = laws.faithful true (suc n) h (r h) in
    record {
      fits = λ e. record { reads_as = l.fits e; no_nearer = no_nearer f laws true (suc n) h (r h); even = even f laws true (suc n) h (r h) };
      over = l.over;
    }
