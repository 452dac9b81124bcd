-- One answer to a join.
use Rattle.std.proofs.Common.{◌≡◌, ℕ, ◌+◌, ◌≤◌, ◌||◌, ltb, List, [], ◌∷◌, length, Some, None, Ok, Err, Result, sym, ap, ◌∙◌, arith}
use Rattle.cost.specs.Algebra.{Algebra}
use Rattle.source.specs.Meaning.{Meaning}
use Rattle.timing.specs.Visits.{Visit}
use Rattle.timing.specs.Timetables.{bill}
use Rattle.timing.proofs.Theorems.{best_one}
use Rattle.timing.proofs.Firsts.{blocked_one}
use Rattle.route.specs.declared.stop.Refusal.{Refusal}
use Rattle.route.specs.declared.stop.Refusal.TheVariants.{NoTimetable}
use Rattle.route.specs.Refusals.{number}
use Rattle.route.specs.Plain.{Plain}
use Rattle.route.specs.Judged.{outside, long}
use Rattle.route.specs.Joins.{Least, joined, objection_to_join, JoinJudged, refused, blocked, accepted}
use Rattle.route.proofs.Uniqueness.{small_first, same_number, some_one}

pub least_one : {E : Type 0} (K : Algebra E) (vs : List (Visit E)) (c d : E) → Least K vs c → Least K vs d → c ≡ d
least_one K vs c d a b = sym a.cost ∙ ap (bill K vs) (best_one K vs a.minutes b.minutes a.best b.best) ∙ b.cost

module _ {E : Type 0} (K : Algebra E) (m n : Meaning E) (ps qs : List Plain) (i leg j : ℕ) where
  small : (k : ℕ) → objection_to_join (length ps) i leg (length qs) j ≡ Some k → (1 ≤ k) × (k ≤ 4)
  small k e = small_first ((ltb (length ps) i || outside j (length qs + 1), 1) ∷ (long leg, 4) ∷ []) k (omega arith, omega arith, (omega arith, omega arith, tt)) e

  pub joined_one : (r t : Result E Refusal) → JoinJudged K m ps i leg n qs j r → JoinJudged K m ps i leg n qs j t → r ≡ t
  joined_one r t (refused f e) (refused g d) =
      ap (λ (x : Refusal). Err x) (same_number f g (small (number f) e).1 (some_one (number f) (number g) (sym e ∙ d)))
  joined_one r t (refused f e) (blocked g d b) = absurd (let z : ◌≡◌ {A = ℕ} 0 1 = cc in omega arith)
  joined_one r t (refused f e) (accepted c d b) = absurd (let z : ◌≡◌ {A = ℕ} 0 1 = cc in omega arith)
  joined_one r t (blocked f e a) (refused g d) = absurd (let z : ◌≡◌ {A = ℕ} 0 1 = cc in omega arith)
  joined_one r t (blocked f e a) (blocked g d b) =
      ap (λ (x : ℕ). Err (NoTimetable x)) (some_one f g (blocked_one (joined K m ps i leg n qs j) (Some f) (Some g) a b))
  joined_one r t (blocked f e a) (accepted c d b) =
      absurd (let w = blocked_one (joined K m ps i leg n qs j) (Some f) None a (b.minutes, b.best.serves) in let z : ◌≡◌ {A = ℕ} 0 1 = cc in omega arith)
  joined_one r t (accepted c e a) (refused g d) = absurd (let z : ◌≡◌ {A = ℕ} 0 1 = cc in omega arith)
  joined_one r t (accepted c e a) (blocked g d b) =
      absurd (let w = blocked_one (joined K m ps i leg n qs j) None (Some g) (a.minutes, a.best.serves) b in let z : ◌≡◌ {A = ℕ} 0 1 = cc in omega arith)
  joined_one r t (accepted c e a) (accepted d f b) = ap (λ (x : E). Ok x) (least_one K (joined K m ps i leg n qs j) c d a b)
