-- What a stop asks inside and outside its window, and stops read off a table: for those who write a `Line`. Assumes nothing.
use Rattle.std.proofs.Common.{◌≡◌, ℕ, zero, suc, ◌<◌, ◌≤◌, cond, ◌&&◌, leb, List, [], ◌∷◌, map, length, get_or, Some, None, refl, ap, arith}
use native.Mathlib.Decide.{dec_le}
use Rattle.std.proofs.lemmas.Bool.{le-leb, lt-leb, and_from, and_right}
use Rattle.cost.specs.Algebra.{Algebra}
use Rattle.timing.specs.Visits.{Visit, nowhere, at, asked}

module _ {E : Type 0} (v : Visit E) (t : ℕ) where
  pub asked_inside : v.first ≤ t → t ≤ v.last → asked v t ≡ Some (v.price t)
  asked_inside h k =
      ap (λ b. cond b (Some (v.price t)) None) (and_from (leb v.first t) (leb t v.last) (le-leb v.first t h) (le-leb t v.last k))

  pub asked_before : t < v.first → asked v t ≡ None
  asked_before h = ap (λ b. cond (b && leb t v.last) (Some (v.price t)) None) (lt-leb v.first t h)

  pub asked_after : v.last < t → asked v t ≡ None
  asked_after h = ap (λ b. cond b (Some (v.price t)) None) (and_right (leb v.first t) (leb t v.last) (lt-leb t v.last h))

module _ {E : Type 0} (K : Algebra E) where
  pub asked_nowhere : (t : ℕ) → asked (nowhere K) t ≡ None
  asked_nowhere t = elim (dec_le 1 t) [ yes h ↦ asked_after (nowhere K) t (omega arith) | no h ↦ asked_before (nowhere K) t (omega arith) ]

  -- stop i of a table
  pub at_map : {S : Type 0} (visit : S → Visit E) (ss : List S) (i : ℕ) (d : S) → i < length ss → at K (map visit ss) i ≡ visit (get_or ss i d)
  at_map visit [] i d h = absurd (omega arith)
  at_map visit (s ∷ ss) zero d h = refl
  at_map visit (s ∷ ss) (suc i) d h = at_map visit ss i d (omega arith)

  -- past the end
  pub at_past : (vs : List (Visit E)) (i : ℕ) → length vs ≤ i → at K vs i ≡ nowhere K
  at_past [] i h = refl
  at_past (v ∷ vs) zero h = absurd (omega arith)
  at_past (v ∷ vs) (suc i) h = at_past vs i (omega arith)
