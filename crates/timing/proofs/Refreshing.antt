-- One more mark written behind the others. Assumes nothing.
use Rattle.std.proofs.Common.{◌≡◌, ℕ, suc, ◌+◌, ◌<◌, ◌≢◌, List, length, get_or, take, set, sym, ap, ◌∙◌, subst, arith, length-set, length-take, length-take-le, take_all, get_or-set_other, get_or-take, get_or-set_same, take-take}
use Rattle.std.proofs.Math.Decide.{dec_le}
use Rattle.cost.specs.Algebra.{Algebra}
use Rattle.timing.specs.Visits.{Visit}
use Rattle.timing.specs.Timetables.{Feasible}
use Rattle.timing.specs.Marks.{Mark, Marks}
use Rattle.timing.specs.Reach.{reached}
use Rattle.timing.specs.Sound.{Sound}
use Rattle.timing.specs.Ready.{Ready}
use Rattle.timing.proofs.Firsts.{feasible_take}
use Rattle.timing.proofs.Neighbours.{mark_front}

module _ {E : Type 0} (K : Algebra E) (vs : List (Visit E)) (ms : List ℕ) (i : ℕ) (more : i < length vs) (room : i < length ms) (marks : Marks K (take i vs) (take i ms)) where
  pub front_length : length (take i ms) ≡ i
  front_length = length-take-le i ms (omega arith)

  pub front_ready : Sound K vs → Feasible vs → Ready K vs (take i ms)
  front_ready sound feasible =
      let n = front_length in
      record {
        sound = sound;
        more = omega arith;
        marks = subst (λ n. Marks K (take n vs) (take i ms)) (sym front_length) marks;
        feasible = feasible_take (suc (length (take i ms))) vs feasible;
      }

  pub marks_more : (m : ℕ) → Mark K vs i m → Marks K (take (i + 1) vs) (take (i + 1) (set ms i m))
  marks_more m mark = record { many = length-take (i + 1) (set ms i m) ∙ omega (arith, length-set ms i m, length-take (i + 1) vs); each = each }
    where
      each : (k : ℕ) → k < length (take (i + 1) vs) → Mark K (take (i + 1) vs) k (get_or (take (i + 1) (set ms i m)) k 0)
      each k h = elim (dec_le i k) [
        | yes p ↦
            let d : i ≡ k = omega (arith, length-take (i + 1) vs) in
            let here : get_or (take (i + 1) (set ms i m)) k 0 ≡ m = get_or-take (i + 1) (set ms i m) k 0 (omega arith) ∙ ap (λ n. get_or (set ms i m) n 0) (sym d) ∙ get_or-set_same ms i m 0 room in
            let mark' : Mark K vs k m = subst (λ n. Mark K vs n m) d mark in
            subst (Mark K (take (i + 1) vs) k) (sym here) (mark_front K vs (take (i + 1) vs) k m (sym (take-take (suc k) (i + 1) vs (omega arith))) mark')
        | no p ↦
            let apart : k ≢ i = omega arith in
            let few : k < length (take i vs) = omega (arith, length-take i vs) in
            let there : get_or (take (i + 1) (set ms i m)) k 0 ≡ get_or (take i ms) k 0 = get_or-take (i + 1) (set ms i m) k 0 (omega arith) ∙ get_or-set_other ms i k m 0 apart ∙ sym (get_or-take i ms k 0 (omega arith)) in
            subst (Mark K (take (i + 1) vs) k) (sym there) (mark_front K (take i vs) (take (i + 1) vs) k (get_or (take i ms) k 0) (take-take (suc k) i vs (omega arith) ∙ sym (take-take (suc k) (i + 1) vs (omega arith))) (marks.each k few))
      ]

  -- m is found as the mark of the next stop, which can be reached at s
  pub marks_found : Sound K vs → Feasible vs → (m s : ℕ) → s ≡ reached vs (i + 1) → (Ready K vs (take i ms) → s ≡ reached vs (length (take i ms) + 1) → Mark K vs (length (take i ms)) m) → Marks K (take (i + 1) vs) (take (i + 1) (set ms i m))
  marks_found sound feasible m s e found =
      marks_more m (subst (λ n. Mark K vs n m) front_length (found (front_ready sound feasible) (subst (λ n. s ≡ reached vs (n + 1)) (sym front_length) e)))

pub marks_all : {E : Type 0} (K : Algebra E) (vs : List (Visit E)) (ms : List ℕ) (i : ℕ) → i ≡ length vs → Marks K (take i vs) (take i ms) → Marks K vs (take (length vs) ms)
marks_all K vs ms i e marks =
    subst (λ n. Marks K vs (take n ms)) e (subst (λ ws. Marks K ws (take i ms)) (take_all i vs (omega arith)) marks)
