-- How a mark is found. Assumes nothing.
use Rattle.std.proofs.Common.{◌≡◌, ℕ, zero, suc, ◌+◌, ◌^◌, ◌<◌, ◌≤◌, Bool, true, false, cond, ltb, ◌↔◌, List, ◌∷◌, reverse, length, take, sym, refl, ap, subst, subst₂, pow-suc, arith, take_all, ltb-false, ltb-true}
use Rattle.std.proofs.Math.Decide.{dec_le}
use Rattle.std.proofs.lemmas.Bool.{both_ways}
use Rattle.cost.specs.Algebra.{Algebra, Most}
use Rattle.timing.specs.Visits.{Visit, at}
use Rattle.timing.specs.Convex.{Bends}
use Rattle.timing.specs.Best.{Best, Ends, final}
use Rattle.timing.specs.Marks.{Marks}
use Rattle.timing.specs.Moving.{back, block}
use Rattle.timing.specs.Halving.{middle, halve}
use Rattle.timing.specs.Back.{Marked}
use Rattle.timing.proofs.Forward.{bends_back}
use Rattle.timing.proofs.Theorems.{best_there, marks_marked, bends_take}
use Rattle.timing.proofs.Neighbours.{neighbours_tell, ends_are}
use Rattle.timing.proofs.Block.{block_test}
use Rattle.timing.proofs.Steps.{reverse_take}

-- what halving n times is to do
Finds : (ℕ → Bool) → ℕ → Type 0
Finds test n = (a b m : ℕ) → a ≤ m → m ≤ b → b < a + 2 ^ n → ((t : ℕ) → a ≤ t → t < b → (test t ≡ true) ↔ (m ≤ t)) → halve test n a b ≡ m

-- where the test turns at m, halving finds m
halve_finds : (test : ℕ → Bool) (n : ℕ) → Finds test n
unfolding Finds
halve_finds test zero a b m p q few tells = omega arith
halve_finds test (suc n) a b m p q few tells = go (halve_finds test n) (ltb a b) refl
  where
    half : Finds test n → (d : Bool) → test (middle a b) ≡ d → a < b → cond d (halve test n a (middle a b)) (halve test n (middle a b + 1) b) ≡ m
    half rest true e h =
        let turn : m ≤ middle a b = (tells (middle a b) (omega arith) (omega arith)).0 e in
        rest a (middle a b) m p turn (omega (arith, pow-suc 2 n)) (λ t i j. tells t i (omega arith))
    half rest false e h =
        let turn : middle a b < m = elim (dec_le m (middle a b)) [
          | yes k ↦ absurd (both_ways (test (middle a b)) e ((tells (middle a b) (omega arith) (omega arith)).1 k))
          | no k ↦ omega arith
        ] in
        rest (middle a b + 1) b m (omega arith) q (omega (arith, pow-suc 2 n)) (λ t i j. tells t (omega arith) j)

    go : Finds test n → (d : Bool) → ltb a b ≡ d → cond d (cond (test (middle a b)) (halve test n a (middle a b)) (halve test n (middle a b + 1) b)) a ≡ m
    go rest true e = half rest (test (middle a b)) refl (ltb-true a b e)
    go rest false e = let h = ltb-false a b e in omega arith

module _ {E : Type 0} (K : Algebra E) where
  pub once_risen : (vs : List (Visit E)) (t s : ℕ) (c d e f : E) → Bends K vs → Ends K vs t c → Ends K vs (t + 1) d → Ends K vs s e → Ends K vs (s + 1) f → t ≤ s → Most K c d → Most K e f
  once_risen vs t s c d e f p x y z w h k =
      let r = best_there K vs x.met.0 p x.met.1 in
      let m : final 0 r.0 ≤ t = (neighbours_tell K vs r.0 t c d p r.1 x y).0 k in
      (neighbours_tell K vs r.0 s e f p r.1 z w).1 (omega arith)

  pub halving_finds : (vs : List (Visit E)) (ts : List ℕ) (test : ℕ → Bool) (n a b : ℕ) → Bends K vs → Best K vs ts → a ≤ final 0 ts → final 0 ts ≤ b → b < a + 2 ^ n →
      ((t : ℕ) → a ≤ t → t < b → (c : E) × (d : E) × Ends K vs t c × Ends K vs (t + 1) d × ((test t ≡ true) ↔ Most K c d)) → halve test n a b ≡ final 0 ts
  unfolding Finds
  halving_finds vs ts test n a b p best h k few tells =
      halve_finds test n a b (final 0 ts) h k few (λ t i j.
      let q = tells t i j in
      let r = neighbours_tell K vs ts t q.0 q.1 p best q.2 q.3 in
      (λ x. r.0 (q.4.0 x), λ x. q.4.1 (r.1 x)))

  -- the marks of the first stops, the last first
  pub marks_back : (vs : List (Visit E)) (ms : List ℕ) → Bends K vs → Marks K (take (length ms) vs) ms → Marked K (back vs (length ms)) (back ms (length ms))
  marks_back vs ms p marks =
      let e : reverse ms ≡ back ms (length ms) = ap reverse (sym (take_all (length ms) ms (omega arith))) in
      subst (Marked K (back vs (length ms))) e (marks_marked K (take (length ms) vs) ms (bends_take K (length ms) vs p) marks)

  pub block_moving : (vs : List (Visit E)) (ms : List ℕ) (t : ℕ) (c d : E) → Bends K vs → length ms < length vs → Marks K (take (length ms) vs) ms → Ends K (take (suc (length ms)) vs) t c → Ends K (take (suc (length ms)) vs) (t + 1) d → Most K c d ↔ Most K (block K vs ms t).0 (block K vs ms t).1
  block_moving vs ms t c d p h marks x y =
      let n : ℕ = length ms in
      let v : Visit E = at K vs n in
      let e : reverse (take (suc n) vs) ≡ v ∷ back vs n = reverse_take vs n _ h in
      let bends : Bends K (v ∷ back vs n) = subst (Bends K) e (bends_back K (take (suc n) vs) (bends_take K (suc n) vs p)) in
      let k = marks_back vs ms p marks in
      let i = ends_are K (take (suc n) vs) v (back vs n) e (back ms n) bends k t c x in
      let j = ends_are K (take (suc n) vs) v (back vs n) e (back ms n) bends k (t + 1) d y in
      subst₂ (λ a b. Most K a b ↔ Most K (block K vs ms t).0 (block K vs ms t).1) i.2 j.2 (block_test K v (back vs n) (back ms n) t k i.0)
