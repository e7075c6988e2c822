-- Numbers counted at the points of a fill: over points put together, how large they get, and as the code adds them up. The root's crossings are an instance.
use Rattle.std.proofs.Common.{◌≡◌, refl, sym, ap, ap₂, ◌∙◌, List, ℕ, zero, suc, ◌+◌, ◌-◌, ◌^◌, ◌≤◌, ◌<◌, Bool, true, false, cond, arith, w64}
use native.Mathlib.Nat.{zero-add, suc-add}
use borrow.Author.Tests.{ltb-true}
use lib.Dec.{ltb}
use lib.IntN.{ℤ, pos, negsuc, nat_abs, sub_ℕ, ◌+ℤ◌, +ℤ_idl, +ℤ_idr, +ℤ_assoc}
use lib.Signed.{mag}
use mir.Val.{SFits, to_z, of_z}
use mir.ValLaws.{to_z-of_z}
use Rattle.chain.specs.Crossing.{crossing}
use Rattle.plan.specs.Points.{shifted_plan}
use Rattle.plan.specs.Filling.{plan_after}
use Rattle.plan.specs.Eras.{root_chain, eras_over}

-- What is counted at the points of a fill, added up: of any number that the plan has at a point, as it stands there.
unfoldable pub counted_over : (List ℕ → ℤ) → ℕ → ℕ → List ℕ → ℤ
counted_over count w zero p = pos 0
counted_over count w (suc n) p = count p +ℤ counted_over count w n (shifted_plan w p)

-- ---- the size of a sum
abs_difference : (a b : ℕ) → nat_abs (sub_ℕ a b) ≤ a + b
abs_difference a b = go (ltb a b) refl
  where
    go : (c : Bool) → ltb a b ≡ c → nat_abs (cond c (negsuc (b - suc a)) (pos (a - b))) ≤ a + b
    go true e = omega (arith, ltb-true a b e)
    go false e = omega arith

abs_sum : (a b : ℤ) → nat_abs (a +ℤ b) ≤ nat_abs a + nat_abs b
abs_sum (pos a) (pos b) = omega arith
abs_sum (pos a) (negsuc b) = abs_difference a (suc b)
abs_sum (negsuc a) (pos b) = omega (arith, abs_difference b (suc a))
abs_sum (negsuc a) (negsuc b) = omega arith

mag_abs : (z : ℤ) → mag z ≤ nat_abs z
mag_abs (pos n) = omega arith
mag_abs (negsuc n) = omega arith

module _ (count : List ℕ → ℤ) where
  -- ---- n points and then m more
  pub counted_add : (w n m : ℕ) (p : List ℕ) → counted_over count w (n + m) p ≡ counted_over count w n p +ℤ counted_over count w m (plan_after w n p)
  unfolding counted_over plan_after
  counted_add w zero m p = rw (zero-add m) (sym (+ℤ_idl (counted_over count w m p)))
  counted_add w (suc n) m p =
      rw (suc-add n m)
      (ap (λ z. count p +ℤ z) (counted_add w n m (shifted_plan w p))
      ∙ sym (+ℤ_assoc (count p) (counted_over count w n (shifted_plan w p)) (counted_over count w m (plan_after w n (shifted_plan w p)))))

  counted_next : (w n : ℕ) (p : List ℕ) → counted_over count w (n + 1) p ≡ counted_over count w n p +ℤ count (plan_after w n p)
  unfolding counted_over
  counted_next w n p = counted_add w n 1 p ∙ ap (λ z. counted_over count w n p +ℤ z) (+ℤ_idr (count (plan_after w n p)))

  -- ---- a point adds 1 at most, or takes 1 away
  module _ (small : (p : List ℕ) → nat_abs (count p) ≤ 1) where
    pub abs_counted : (w n : ℕ) (p : List ℕ) → nat_abs (counted_over count w n p) ≤ n
    unfolding counted_over
    abs_counted w zero p = omega arith
    abs_counted w (suc n) p =
        omega (arith, abs_sum (count p) (counted_over count w n (shifted_plan w p)), small p, abs_counted w n (shifted_plan w p))

    counted_fits : (w n : ℕ) (p : List ℕ) → n < 2 ^ 63 → SFits w64 (counted_over count w n p)
    counted_fits w n p few = record { sfits = omega (arith, mag_abs (counted_over count w n p), abs_counted w n p) }

    -- What the code adds up, point after point: `to_z w64` is the number that bits are read as. It fits while there are fewer than 2^63 points.
    module _ (n : ℕ) (p : List ℕ) (bits : ℕ) (z : ℤ) (few : n + 1 < 2 ^ 63) (so_far : to_z w64 bits ≡ counted_over count 64 n p) (fits : SFits w64 z)
        (here : z ≡ count (plan_after 64 n p)) where
      next : to_z w64 bits +ℤ to_z w64 (of_z w64 z) ≡ counted_over count 64 (n + 1) p
      next = ap₂ ◌+ℤ◌ so_far (to_z-of_z w64 z fits ∙ here) ∙ sym (counted_next 64 n p)

      pub counts_on : SFits w64 (to_z w64 bits +ℤ to_z w64 (of_z w64 z))
      counts_on = rw next (counted_fits 64 (n + 1) p few)

      pub counted : to_z w64 (of_z w64 (to_z w64 bits +ℤ to_z w64 (of_z w64 z))) ≡ counted_over count 64 (n + 1) p
      counted = to_z-of_z w64 (to_z w64 bits +ℤ to_z w64 (of_z w64 z)) counts_on ∙ next

-- ---- the crossings of the root
pub eras_counted : (w n : ℕ) (p : List ℕ) → eras_over w n p ≡ counted_over (λ q. crossing w (root_chain q)) w n p
unfolding eras_over counted_over
eras_counted w zero p = refl
eras_counted w (suc n) p = ap (λ z. crossing w (root_chain p) +ℤ z) (eras_counted w n (shifted_plan w p))
