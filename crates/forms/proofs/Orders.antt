-- How the worths of two loads compare: by their signs, and by their sizes once both stand at the finer scale.
use Rattle.std.proofs.Common.{◌≡◌, ℕ, zero, suc, ◌+◌, ◌-◌, ◌*◌, ◌^◌, ◌<◌, Bool, true, false, cond, not, eqb, ℤ, pos, negsuc, ◌-ℤ◌, neg_ℤ, nat_abs, ◌≤ℤ◌, ◌<ℤ◌, sym, refl, ap, ◌∙◌, ap₂, ⊎_elim, mul_assoc, mul-lt-mul_of_pos_right, mul-pos, arith, w32, to_z, of_z}
use mathlib.Core.Bool.{beq}
use borrow.Author.Differences.{up, down}
use Rattle.std.proofs.lemmas.Nat.{pow_pos, pow-add}
use Rattle.std.proofs.lemmas.Int.{ints}
use Rattle.std.proofs.lemmas.Bool.{cases_order, both_ways, false≢true, true≢false}
use Rattle.std.proofs.lemmas.Bool.Decides.{nat_tests}
use Rattle.forms.specs.declared.load.Load.{Load}
use Rattle.forms.specs.declared.cmp.Comparison.{Comparison}
use Rattle.forms.specs.declared.cmp.Comparison.TheVariants.{Less, Equal, More}
use Rattle.forms.specs.Loads.{nat_of, signed, weight, worth, SoundLoad}
use Rattle.forms.specs.Comparisons.{ordered, mirrored, is_equal}

pub nat_of_up : (z : ℤ) → nat_of z ≡ up z - down z
nat_of_up (pos n) = omega arith
nat_of_up (negsuc n) = omega arith

pub ordered_less : (x y : ℤ) → x <ℤ y → ordered x y ≡ Less
ordered_less x y h = grind (arith, ints)

pub ordered_more : (x y : ℤ) → y <ℤ x → ordered x y ≡ More
ordered_more x y h = grind (arith, ints)

pub ordered_equal : (x y : ℤ) → x ≡ y → ordered x y ≡ Equal
ordered_equal x y h = grind (arith, ints)

-- left and right exchanged
pub ordered_mirrored : (x y : ℤ) → mirrored (ordered y x) ≡ ordered x y
ordered_mirrored x y = grind (arith, ints)

-- the right size at the left scale
abbrev pub moved : Load → Load → ℕ
moved l r = r.size * 2 ^ nat_of (l.scale -ℤ r.scale)

-- the same, the difference of the scales taken as the code takes it
pub moved_is : (l r : Load) → SoundLoad l → SoundLoad r → r.scale ≤ℤ l.scale → r.size * 2 ^ nat_abs (to_z w32 (of_z w32 (to_z w32 (of_z w32 l.scale) -ℤ to_z w32 (of_z w32 r.scale)))) ≡ moved l r
moved_is l r s t h = ap (λ x. r.size * 2 ^ x) (omega (arith, ints, nat_of_up))

-- a left load's unit
abbrev pub grid : Load → ℕ
grid l = 2 ^ nat_of (pos 1074 -ℤ l.scale)

pub weight_moved : (l r : Load) → SoundLoad l → r.scale ≤ℤ l.scale → weight r ≡ moved l r * grid l
weight_moved l r s h =
    let e : nat_of (pos 1074 -ℤ r.scale) ≡ nat_of (l.scale -ℤ r.scale) + nat_of (pos 1074 -ℤ l.scale) =
    omega (arith, ints, nat_of_up) in
    ap (λ x. r.size * 2 ^ x) e
    ∙ ap (λ x. r.size * x) (pow-add 2 (nat_of (l.scale -ℤ r.scale)) (nat_of (pos 1074 -ℤ l.scale)))
    ∙ sym (mul_assoc r.size (2 ^ nat_of (l.scale -ℤ r.scale)) (grid l))

-- a common positive unit does not matter
abbrev Unscaled : Bool → ℕ → ℕ → ℕ → Type 0
Unscaled b m n u = ordered (signed b (m * u)) (signed b (n * u)) ≡ cond b (mirrored (ordered (pos m) (pos n))) (ordered (pos m) (pos n))

pub ordered_scaled : (b : Bool) (m n u : ℕ) → 0 < u → Unscaled b m n u
ordered_scaled b m n u h = ⊎_elim (same b) (⊎_elim (less b) (more b)) (cases_order m n)
  where
    same : (b : Bool) → m ≡ n → Unscaled b m n u
    same b e =
        let s : ordered (signed b (m * u)) (signed b (n * u)) ≡ Equal = ordered_equal _ _ (ap (λ x. signed b (x * u)) e) in
        let t : ordered (pos m) (pos n) ≡ Equal = ordered_equal _ _ (ap pos e) in
        s ∙ sym (elim b as (λ b. cond b (mirrored (ordered (pos m) (pos n))) (ordered (pos m) (pos n)) ≡ Equal) [ true ↦ ap mirrored t | false ↦ t ])

    less : (b : Bool) → m < n → Unscaled b m n u
    less b l =
        let k : m * u < n * u = mul-lt-mul_of_pos_right l h in
        let t : ordered (pos m) (pos n) ≡ Less = ordered_less (pos m) (pos n) (omega (arith, ints)) in
        elim b as (λ b. Unscaled b m n u) [
          | true ↦ ordered_more (neg_ℤ (pos (m * u))) (neg_ℤ (pos (n * u))) (omega (arith, ints)) ∙ ap mirrored (sym t)
          | false ↦ ordered_less (pos (m * u)) (pos (n * u)) (omega (arith, ints)) ∙ sym t
        ]

    more : (b : Bool) → n < m → Unscaled b m n u
    more b l =
        let k : n * u < m * u = mul-lt-mul_of_pos_right l h in
        let t : ordered (pos m) (pos n) ≡ More = ordered_more (pos m) (pos n) (omega (arith, ints)) in
        elim b as (λ b. Unscaled b m n u) [
          | true ↦ ordered_less (neg_ℤ (pos (m * u))) (neg_ℤ (pos (n * u))) (omega (arith, ints)) ∙ ap mirrored (sym t)
          | false ↦ ordered_more (pos (m * u)) (pos (n * u)) (omega (arith, ints)) ∙ sym t
        ]

-- two loads of one sign, the left one no coarser
pub ordered_aligned : (l r : Load) → SoundLoad l → r.scale ≤ℤ l.scale → l.negative ≡ r.negative → ordered (worth l) (worth r) ≡ cond l.negative (mirrored (ordered (pos l.size) (pos (moved l r)))) (ordered (pos l.size) (pos (moved l r)))
ordered_aligned l r s h e =
    ap (ordered (worth l)) (ap₂ signed (sym e) (weight_moved l r s h)) ∙ ordered_scaled l.negative l.size (moved l r) (grid l) (pow_pos (nat_of (pos 1074 -ℤ l.scale)))

-- a load with a sign is not 0
pub negative_weight : (l : Load) → SoundLoad l → l.negative ≡ true → 0 < weight l
negative_weight l s e = go l.size refl
  where
    go : (n : ℕ) → l.size ≡ n → 0 < weight l
    go zero z = absurd (both_ways l.negative (s.zero_sign z) e)
    go (suc n) z = mul-pos (omega arith) (pow_pos (nat_of (pos 1074 -ℤ l.scale)))

-- two loads of different signs
pub ordered_apart : (l r : Load) → SoundLoad l → SoundLoad r → not (beq l.negative r.negative) ≡ true → ordered (worth l) (worth r) ≡ cond l.negative Less More
ordered_apart l r s t d = go l.negative r.negative refl refl d
  where
    go : (a b : Bool) → l.negative ≡ a → r.negative ≡ b → not (beq a b) ≡ true → ordered (signed a (weight l)) (signed b (weight r)) ≡ cond a Less More
    go true true e f d = absurd (false≢true d)
    go false false e f d = absurd (false≢true d)
    go true false e f d = let n = negative_weight l s e in ordered_less (neg_ℤ (pos (weight l))) (pos (weight r)) (omega (arith, ints))
    go false true e f d = let n = negative_weight r t f in ordered_more (pos (weight l)) (neg_ℤ (pos (weight r))) (omega (arith, ints))

-- whether two sizes are equal
pub equal_sizes : (m n : ℕ) → is_equal (ordered (pos m) (pos n)) ≡ eqb m n
equal_sizes m n = grind (arith, nat_tests)

-- two equal signs
pub same_sign : (a b : Bool) → not (beq a b) ≡ false → a ≡ b
same_sign true true e = refl
same_sign false false e = refl
same_sign true false e = absurd (true≢false e)
same_sign false true e = absurd (true≢false e)

-- what is equal is so on the other side of zero too
pub equal_mirrored : (b : Bool) (m n : ℕ) → is_equal (cond b (mirrored (ordered (pos m) (pos n))) (ordered (pos m) (pos n))) ≡ eqb m n
equal_mirrored false m n = equal_sizes m n
equal_mirrored true m n = grind (arith, nat_tests)

-- what the comparison of the sizes, taken as the code takes it, says of two loads of one sign
pub ordered_by_sizes : (l r : Load) (o : Comparison) → SoundLoad l → SoundLoad r → r.scale ≤ℤ l.scale → not (beq l.negative r.negative) ≡ false → o ≡ ordered (pos l.size) (pos (r.size * 2 ^ nat_abs (to_z w32 (of_z w32 (to_z w32 (of_z w32 l.scale) -ℤ to_z w32 (of_z w32 r.scale)))))) → ordered (worth l) (worth r) ≡ cond l.negative (mirrored o) o
ordered_by_sizes l r o s t h d e =
    let q : o ≡ ordered (pos l.size) (pos (moved l r)) = e ∙ ap (λ x. ordered (pos l.size) (pos x)) (moved_is l r s t h) in
    ordered_aligned l r s h (same_sign l.negative r.negative d) ∙ ap (λ x. cond l.negative (mirrored x) x) (sym q)
