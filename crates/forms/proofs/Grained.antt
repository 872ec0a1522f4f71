-- How a size is rounded to a grain.
use Rattle.std.proofs.Common.{◌≡◌, ℕ, suc, ◌+◌, ◌-◌, ◌*◌, ◌/◌, ◌%◌, ◌^◌, ◌<◌, ◌≤◌, Bool, true, false, ◌&&◌, ◌||◌, eqb, ltb, leb, ℤ, pos, ◌-ℤ◌, ◌<ℤ◌, sym, refl, ap, ◌∙◌, ap₂, inl, inr, ⊎_elim, mul-le-mul_right, mod-eq_of_lt, mul_assoc, mul_comm, add-mul, mul-lt-mul_of_pos_right, mul-pos, one-mul, div-add-mod', zero-mul, mul-one, div-le_self, arith}
use native.Mathlib.Nat.{mul-mod_left, div-div-eq-div-mul}
use lib.Count.{count_leading_zeros}
use Rattle.std.proofs.lemmas.Nat.{pow_pos, pow-add, leading_top}
use Rattle.std.proofs.lemmas.Int.{ints}
use Rattle.std.proofs.lemmas.Bool.{cases_lt, cases_eq, cases_order, eqb-true, ltb-true, ltb-false, lt-ltb, le-ltb, lt-leb, le-leb, or_cases, or_parts, and_parts, and_from, eq-eqb, both_ways}
use Rattle.forms.specs.declared.direction.Direction.{Direction}
use Rattle.forms.specs.declared.direction.Direction.TheVariants.{Below, Equal, Above}
use Rattle.forms.specs.Amounts.{exponent, nearest}
use Rattle.forms.specs.Conversions.{standing}
use Rattle.forms.specs.Roundings.{rounded_to}
use Rattle.forms.proofs.Exponents.{twice, pow_split, pow_up, exponent_at}
use Rattle.forms.proofs.Shifts.{shl_far}
use Rattle.forms.proofs.Nearests.{Down, Up, nearest_down, nearest_up, nearest_scaled, nearest_whole, nearest_none}

-- ---- how amounts stand

pub stands_below : (y x : ℤ) → y <ℤ x → standing y x ≡ Below
stands_below y x h = grind (arith, ints)

pub stands_above : (y x : ℤ) → x <ℤ y → standing y x ≡ Above
stands_above y x h = grind (arith, ints)

pub stands_equal : (y x : ℤ) → y ≡ x → standing y x ≡ Equal
stands_equal y x h = grind (arith, ints)

-- a common factor does not matter
stands_scaled : (m n k : ℕ) → 0 < k → standing (pos (m * k)) (pos (n * k)) ≡ standing (pos m) (pos n)
stands_scaled m n k h =
    ⊎_elim
    (λ (e : m ≡ n). stands_equal (pos (m * k)) (pos (n * k)) (ap (λ x. pos (x * k)) e) ∙ sym (stands_equal (pos m) (pos n) (ap pos e)))
    (⊎_elim
    (λ (l : m < n).
    let t : m * k < n * k = mul-lt-mul_of_pos_right l h in
    stands_below (pos (m * k)) (pos (n * k)) (omega (arith, ints)) ∙ sym (stands_below (pos m) (pos n) (omega (arith, ints))))
    (λ l.
    let t : n * k < m * k = mul-lt-mul_of_pos_right l h in
    stands_above (pos (m * k)) (pos (n * k)) (omega (arith, ints)) ∙ sym (stands_above (pos m) (pos n) (omega (arith, ints)))))
    (cases_order m n)

-- ---- what is kept

-- of a number of grains, whatever it is
grains_are : (u n m : ℕ) (d : Direction) → nearest n u ≡ m → standing (pos (m * u)) (pos n) ≡ d → record { low = m % 2 ^ 64; more = leb (2 ^ 64) m; direction = d } ≡ rounded_to u n
grains_are u n m d e s =
    ap (λ x. record { low = m % 2 ^ 64; more = leb (2 ^ 64) m; direction = x }) (sym s)
    ∙ ap (λ x. record { low = x % 2 ^ 64; more = leb (2 ^ 64) x; direction = standing (pos (x * u)) (pos n) }) (sym e)

-- of a number of grains within one word
grains_few : (u n m : ℕ) (d : Direction) → m < 2 ^ 64 → nearest n u ≡ m → standing (pos (m * u)) (pos n) ≡ d → record { low = m; more = false; direction = d } ≡ rounded_to u n
grains_few u n m d h e s =
    ap₂ (λ x y. record { low = x; more = y; direction = d }) (sym (mod-eq_of_lt h)) (sym (lt-leb (2 ^ 64) m h)) ∙ grains_are u n m d e s

-- a common factor falls out
pub rounded_scaled : (u n k : ℕ) → 0 < u → 0 < k → rounded_to u n ≡ rounded_to (u * k) (n * k)
rounded_scaled u n k h z =
    let m = nearest n u in
    let e : m * (u * k) ≡ m * u * k = sym (mul_assoc m u k) in
    grains_are (u * k) (n * k) m (standing (pos (m * u)) (pos n)) (nearest_scaled n u k h z)
    (ap (λ x. standing (pos x) (pos (n * k))) e ∙ stands_scaled (m * u) n k z)

-- ---- a whole number with a rest under it

-- the rest is 0
pub rounded_level : (q r h : ℕ) → q < 2 ^ 63 → r < 2 * h → r ≡ 0 → record { low = q; more = false; direction = Equal } ≡ rounded_to (2 * h) (q * (2 * h) + r)
rounded_level q r h l s z =
    grains_few (2 * h) (q * (2 * h) + r) q Equal (omega arith) (nearest_down (q * (2 * h) + r) (2 * h) q r refl s (inl (omega arith)))
    (stands_equal (pos (q * (2 * h))) (pos (q * (2 * h) + r)) (omega (arith, ints)))

-- the test by which it is rounded up
abbrev pub up_test : ℕ → ℕ → ℕ → Bool
up_test q r h = ltb h r || (eqb r h && eqb (q % 2) 1)

pub rounded_below : (q r h : ℕ) → q < 2 ^ 63 → r < 2 * h → 0 < r → up_test q r h ≡ false → record { low = q; more = false; direction = Below } ≡ rounded_to (2 * h) (q * (2 * h) + r)
rounded_below q r h l s z t =
    let p = or_parts (ltb h r) (eqb r h && eqb (q % 2) 1) t in
    let a = ltb-false h r p.0 in
    let down : Down (2 * h) q r =
    ⊎_elim
    (λ (e : r ≡ h).
    let o : q % 2 ≡ 0 =
    ⊎_elim (λ (x : q % 2 ≡ 1). absurd (both_ways (eqb r h && eqb (q % 2) 1) p.1 (and_from (eqb r h) (eqb (q % 2) 1) (eq-eqb r h e) (eq-eqb (q % 2) 1 x)))) (λ x. omega arith) (cases_eq (q % 2) 1) in
    let w : 2 * r ≡ 2 * h = omega arith in
    inr (w, o))
    (λ e. inl (omega arith))
    (cases_eq r h) in
    grains_few (2 * h) (q * (2 * h) + r) q Below (omega arith) (nearest_down (q * (2 * h) + r) (2 * h) q r refl s down)
    (stands_below (pos (q * (2 * h))) (pos (q * (2 * h) + r)) (omega (arith, ints)))

pub rounded_above : (q r h : ℕ) → q < 2 ^ 63 → r < 2 * h → up_test q r h ≡ true → record { low = q + 1; more = false; direction = Above } ≡ rounded_to (2 * h) (q * (2 * h) + r)
rounded_above q r h l s t =
    let up : Up (2 * h) q r =
    ⊎_elim
    (λ a. let b = ltb-true h r a in inl (omega arith))
    (λ a.
    let p = and_parts (eqb r h) (eqb (q % 2) 1) a in
    let b = eqb-true r h p.0 in
    let w : 2 * r ≡ 2 * h = omega arith in
    inr (w, eqb-true (q % 2) 1 p.1))
    (or_cases (ltb h r) (eqb r h && eqb (q % 2) 1) t) in
    let o : (q + 1) * (2 * h) ≡ q * (2 * h) + 2 * h = add-mul q 1 (2 * h) ∙ ap (λ x. q * (2 * h) + x) (one-mul (2 * h)) in
    grains_few (2 * h) (q * (2 * h) + r) (q + 1) Above (omega arith) (nearest_up (q * (2 * h) + r) (2 * h) q r refl s up)
    (stands_above (pos ((q + 1) * (2 * h))) (pos (q * (2 * h) + r)) (omega (arith, ints)))

-- ---- a size raised

-- grains of 1 are as many as the number
grains_whole : (n : ℕ) → record { low = n % 2 ^ 64; more = leb (2 ^ 64) n; direction = Equal } ≡ rounded_to 1 n
grains_whole n =
    let e : n * 1 ≡ n = mul-one n in
    grains_are 1 n n Equal (ap (λ x. nearest x 1) (sym e) ∙ nearest_whole n 1 (omega arith)) (stands_equal (pos (n * 1)) (pos n) (ap pos e))

-- whether a size leaves the word is told by its leading zeros
leaves_word : (size by : ℕ) → 0 < size → size < 2 ^ 64 → ltb (count_leading_zeros 64 size) by ≡ leb (2 ^ 64) (size * 2 ^ by)
leaves_word size by z l =
    let t = leading_top 64 size z l in
    let j = t.0 in
    let s = t.1 in
    ⊎_elim
    (λ (a : count_leading_zeros 64 size < by).
    let m : 2 ^ j * 2 ^ by ≤ size * 2 ^ by = mul-le-mul_right (2 ^ by) t.2 in
    let p = pow-add 2 j by in
    let w = pow_up 64 (j + by) (omega arith) in
    lt-ltb (count_leading_zeros 64 size) by a ∙ sym (le-leb (2 ^ 64) (size * 2 ^ by) (omega arith)))
    (λ a.
    let m : size * 2 ^ by < 2 ^ suc j * 2 ^ by = mul-lt-mul_of_pos_right t.3 (pow_pos by) in
    let p = pow-add 2 (suc j) by in
    let w = pow_up (suc j + by) 64 (omega arith) in
    le-ltb (count_leading_zeros 64 size) by a ∙ sym (lt-leb (2 ^ 64) (size * 2 ^ by) (omega arith)))
    (cases_lt (count_leading_zeros 64 size) by)

pub raised_few : (size by : ℕ) → 0 < size → size < 2 ^ 64 → record { low = size * 2 ^ by % 2 ^ 64; more = ltb (count_leading_zeros 64 size) by; direction = Equal } ≡ rounded_to 1 (size * 2 ^ by)
raised_few size by z l =
    ap (λ x. record { low = size * 2 ^ by % 2 ^ 64; more = x; direction = Equal }) (leaves_word size by z l) ∙ grains_whole (size * 2 ^ by)

pub raised_far : (size by : ℕ) → 0 < size → 64 ≤ by → record { low = 0; more = true; direction = Equal } ≡ rounded_to 1 (size * 2 ^ by)
raised_far size by z l =
    let e = pow_split by 64 l in
    let d : 0 ≡ size * 2 ^ by % 2 ^ 64 =
    sym (ap (λ x. size * x % 2 ^ 64) e ∙ ap (λ x. x % 2 ^ 64) (sym (mul_assoc size (2 ^ (by - 64)) (2 ^ 64))) ∙ mul-mod_left (size * 2 ^ (by - 64)) (2 ^ 64)) in
    let f : true ≡ leb (2 ^ 64) (size * 2 ^ by) = sym (le-leb (2 ^ 64) (size * 2 ^ by) (shl_far size by z l)) in
    ap₂ (λ x y. record { low = x; more = y; direction = Equal }) d f ∙ grains_whole (size * 2 ^ by)

-- ---- a size lowered

-- the place above
pub next_place : (place : ℕ) → 2 ^ (place + 1) ≡ 2 * 2 ^ place
next_place place = ap (λ x. 2 ^ x) (let o : place + 1 ≡ suc place = omega arith in o) ∙ twice place

-- half of a word, or less, has 63 digits
pub halved_below : (size place : ℕ) → size < 2 ^ 64 → size / 2 ^ place / 2 < 2 ^ 63
halved_below size place h = let l : size / 2 ^ place ≤ size = div-le_self size (2 ^ place) in omega arith

-- the whole number and the rest under it
pub parted : (size place : ℕ) → size / 2 ^ place / 2 * (2 * 2 ^ place) + size % 2 ^ (place + 1) ≡ size
parted size place =
    let d : size / 2 ^ place / 2 ≡ size / (2 * 2 ^ place) = div-div-eq-div-mul size (2 ^ place) 2 ∙ ap (λ x. size / x) (mul_comm (2 ^ place) 2) in
    ap₂ (λ x y. x * (2 * 2 ^ place) + size % y) d (next_place place) ∙ div-add-mod' size (2 * 2 ^ place)

-- ---- the places of a load and of a grain

-- a grain at or below the load's last digit
pub rounded_raised : (size K G by : ℕ) → K ≡ by + G → rounded_to 1 (size * 2 ^ by) ≡ rounded_to (2 ^ G) (size * 2 ^ K)
rounded_raised size K G by h =
    let a : size * 2 ^ by * 2 ^ G ≡ size * 2 ^ K = mul_assoc size (2 ^ by) (2 ^ G) ∙ ap (λ x. size * x) (sym (ap (λ x. 2 ^ x) h ∙ pow-add 2 by G)) in
    rounded_scaled 1 (size * 2 ^ by) (2 ^ G) (omega arith) (pow_pos G) ∙ ap₂ rounded_to (one-mul (2 ^ G)) a

-- a grain above it
pub rounded_lowered : (size K G place : ℕ) → G ≡ suc place + K → rounded_to (2 * 2 ^ place) size ≡ rounded_to (2 ^ G) (size * 2 ^ K)
rounded_lowered size K G place h =
    let a : 2 * 2 ^ place * 2 ^ K ≡ 2 ^ G = ap (λ x. x * 2 ^ K) (sym (twice place)) ∙ sym (ap (λ x. 2 ^ x) h ∙ pow-add 2 (suc place) K) in
    rounded_scaled (2 * 2 ^ place) size (2 ^ K) (let p = pow_pos place in omega arith) (pow_pos K) ∙ ap (λ x. rounded_to x (size * 2 ^ K)) a

-- a grain so far above it that not half of one is left
pub rounded_away : (size K G : ℕ) → 0 < size → size < 2 ^ 64 → 65 + K ≤ G → record { low = 0; more = false; direction = Below } ≡ rounded_to (2 ^ G) (size * 2 ^ K)
rounded_away size K G z l h =
    let n = size * 2 ^ K in
    let a : n < 2 ^ 64 * 2 ^ K = mul-lt-mul_of_pos_right l (pow_pos K) in
    let b : 2 ^ (65 + K) ≡ 2 ^ 65 * 2 ^ K = pow-add 2 65 K in
    let c = pow_up (65 + K) G h in
    let d : 2 ^ 65 * 2 ^ K ≡ 2 * (2 ^ 64 * 2 ^ K) = mul_assoc 2 (2 ^ 64) (2 ^ K) in
    let p : 0 < n = mul-pos z (pow_pos K) in
    let w : 0 * 2 ^ G ≡ 0 = zero-mul (2 ^ G) in
    grains_few (2 ^ G) n 0 Below (omega arith) (nearest_none n (2 ^ G) (omega arith)) (stands_below (pos (0 * 2 ^ G)) (pos n) (omega (arith, ints)))

-- ---- the exponent

pub exponent_of : (size K : ℕ) → 0 < size → size < 2 ^ 64 → (j : ℕ) × (count_leading_zeros 64 size + suc j ≡ 64) × (exponent (size * 2 ^ K) ≡ pos (j + K) -ℤ pos 1074)
exponent_of size K z l =
    let t = leading_top 64 size z l in
    let j = t.0 in
    let a : 2 ^ j * 2 ^ K ≤ size * 2 ^ K = mul-le-mul_right (2 ^ K) t.2 in
    let b : size * 2 ^ K < 2 ^ suc j * 2 ^ K = mul-lt-mul_of_pos_right t.3 (pow_pos K) in
    let p = pow-add 2 j K in
    let q = pow-add 2 (suc j) K in
    let v : 2 ^ suc (j + K) ≡ 2 ^ (suc j + K) = ap (λ x. 2 ^ x) (let o : suc (j + K) ≡ suc j + K = omega arith in o) in
    (j, t.1, exponent_at (size * 2 ^ K) (j + K) (omega arith) (omega arith))
