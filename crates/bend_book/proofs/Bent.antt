-- The curve of a lawful head: convex, and nowhere above the peak. Assumes nothing.
use Rattle.std.proofs.Common.{◌≡◌, ℕ, zero, suc, ◌+◌, ◌-◌, ◌*◌, ◌≤◌, true, cond, leb, List, [], ◌∷◌, ℤ, pos, ◌+ℤ◌, nat_abs, ◌≤ℤ◌, sym, ap, ◌∙◌, subst, arith}
use lib.Signed.{pos-nat_abs, yes_non_neg}
use Rattle.std.proofs.lemmas.Int.{ints}
use Rattle.std.proofs.lemmas.Bool.{and_parts, le-leb, le-ltb, eqb-true, cond-true, cond_both}
use Rattle.cost.specs.Amounts.{whole}
use Rattle.cost.specs.Convex.{Convex}
use Rattle.source.specs.Meaning.{Sound, Lawful}
use Rattle.bend_book.specs.Bends.{step_after, step_at, cost_after, cost_at, own_bends, bend_penalty}
use Rattle.bend_book.specs.Heads.{LawfulHead}
use Rattle.bend_book.specs.HeadTest.{each_fits, each_follows, orderly, head_lawful}
use Rattle.bend_book.specs.BendBook.{BendConvex, bend_curve, bend_meaning}
use Rattle.bend_book.specs.declared.bend.Bend.{Bend}
use Rattle.bend_book.specs.declared.bend.BendHead.{BendHead}
use Rattle.source.proofs.Entries.{book_lawful}
use Rattle.bend_book.proofs.Steps.{Rising, step_mono, cost_step}
use Rattle.bend_book.proofs.Exact.{le_z_true, fits_parts, orderly_met, fits_met, test_exact}

natural : (z : ℤ) → pos 0 ≤ℤ z → pos (nat_abs z) ≡ z
natural z h = pos-nat_abs z (yes_non_neg h)

rising : (a : Bend) (bs : List Bend) → each_follows a bs ≡ true → Rising a.step bs
rising a [] e = tt
rising a (b ∷ bs) e = (le_z_true _ _ (and_parts _ _ (and_parts _ _ e).0).1, rising b bs (and_parts _ _ e).1)

from_first : (b : Bend) (bs : List Bend) (u : ℕ) → b.minute ≤ u → step_at (b ∷ bs) u ≡ step_after b.step bs u
from_first b bs u h = ap (λ (s : ℤ). step_after s bs u) (cond-true (leb b.minute u) b.step (pos 0) (le-leb _ _ h))

-- over the window the step never falls
steps_rise : (first : ℕ) (bs : List Bend) → orderly first bs ≡ true → (u v : ℕ) → first ≤ u → u ≤ v → step_at bs u ≤ℤ step_at bs v
steps_rise first [] e u v h k = omega (arith, ints)
steps_rise first (b ∷ bs) e u v h k =
    let p = and_parts _ _ e in
    let m : b.minute ≡ first = eqb-true _ _ p.0 in
    let x = from_first b bs u (omega arith) in
    let y = from_first b bs v (omega arith) in
    let z = step_mono bs b.step b.step u v k (omega (arith, ints)) (rising b bs p.1) in
    subst (λ (s : ℤ). step_at (b ∷ bs) u ≤ℤ s) (sym y) (subst (λ (s : ℤ). s ≤ℤ step_after b.step bs v) (sym x) z)

step_high : (last : ℕ) (bs : List Bend) (s : ℤ) (u : ℕ) → each_fits last bs ≡ true → s ≤ℤ pos 1000 → step_after s bs u ≤ℤ pos 1000
step_high last [] s u e h = h
step_high last (b ∷ bs) s u e h =
    let p = and_parts _ _ e in
    let k : b.step ≤ℤ pos 1000 = (fits_parts last b p.0).2 in
    step_high last bs (cond (leb b.minute u) b.step s) u p.1 (cond_both (leb b.minute u) b.step s (λ (z : ℤ). z ≤ℤ pos 1000) (λ _. k) (λ _. h))

cost_high : (start last : ℕ) (bs : List Bend) (first n : ℕ) → each_fits last bs ≡ true → cost_after start bs first n ≤ℤ pos (start + 1000 * n)
cost_high start last bs first zero e = omega (arith, ints)
cost_high start last bs first (suc n) e =
    let a = cost_high start last bs first n e in
    let b = step_high last bs (pos 0) (first + n) e (omega (arith, ints)) in
    omega (arith, ints)

module _ (table : List Bend) (h : BendHead) (law : LawfulHead table h) where
  bent : (t : ℕ) → h.first ≤ t → t + 2 ≤ h.last → bend_penalty table h (t + 1) + bend_penalty table h (t + 1) ≤ bend_penalty table h t + bend_penalty table h (t + 2)
  bent t l k =
      let bs = own_bends table h in
      let e = cost_step h.start bs h.first t l in
      let two : t + 2 ≡ (t + 1) + 1 = omega arith in
      let f : cost_at h bs (t + 2) ≡ cost_at h bs (t + 1) +ℤ step_at bs (t + 1) = ap (cost_at h bs) two ∙ cost_step h.start bs h.first (t + 1) (omega arith) in
      let r = steps_rise h.first bs (orderly_met table h law) t (t + 1) l (omega arith) in
      let x = natural (cost_at h bs t) (law.above t l (omega arith)) in
      let y = natural (cost_at h bs (t + 1)) (law.above (t + 1) (omega arith) (omega arith)) in
      let z = natural (cost_at h bs (t + 2)) (law.above (t + 2) (omega arith) k) in
      omega (arith, ints)

  head_convex : Convex whole (bend_penalty table h) h.first h.last
  head_convex t l k = le-ltb (bend_penalty table h t + bend_penalty table h (t + 2)) (bend_penalty table h (t + 1) + bend_penalty table h (t + 1)) (bent t l k)

  small : (t : ℕ) → h.first ≤ t → t ≤ h.last → bend_penalty table h t ≤ 2097152
  small t l k =
      let x = natural (cost_at h (own_bends table h) t) (law.above t l k) in
      let y = cost_high h.start h.last (own_bends table h) h.first (t - h.first) (fits_met table h law) in
      omega (arith, ints, law.cheap, law.day)

  head_sound : Sound whole 2097152 (bend_curve table h)
  head_sound = record { order = law.ordered; day = law.day; convex = head_convex; small = small }

pub bend_convex : BendConvex
bend_convex table h law = head_convex table h law

pub bend_lawful : (table : List Bend) (heads : List BendHead) → Lawful whole (bend_meaning table heads)
bend_lawful table heads = book_lawful (head_lawful table) (bend_curve table) heads (λ h e. head_sound table h ((test_exact table h).0 e))
