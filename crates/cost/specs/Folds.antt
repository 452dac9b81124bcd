-- The w-fold of a whole number is its product. Assumes nothing.
use Rattle.std.specs.Prelude.{◌≡◌, ℕ, zero, suc, ◌+◌, ◌*◌, refl}
use Rattle.std.proofs.Common.{ap, ◌∙◌, arith, suc-mul}
use Rattle.cost.specs.Algebra.{Algebra, fold}
use Rattle.cost.specs.Pairs.{paired}
use Rattle.cost.specs.Amounts.{whole}

pub fold_whole : (w a : ℕ) → fold whole w a ≡ w * a
fold_whole zero a = omega arith
fold_whole (suc w) a = ap (λ n. a + n) (fold_whole w a) ∙ omega (arith, suc-mul w a)

-- The w-fold of a pair is the pair of the w-folds.
pub fold_paired : {E F : Type 0} (m : Algebra E) (n : Algebra F) (w : ℕ) (p : E × F) → fold (paired m n) w p ≡ (fold m w p.0, fold n w p.1)
fold_paired m n zero p = refl
fold_paired {E} {F} m n (suc w) p = ap (λ (q : E × F). (m.plus p.0 q.0, n.plus p.1 q.1)) (fold_paired m n w p)
