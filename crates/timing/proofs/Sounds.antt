-- Sound lines made of parts and of tables: for those who write a `Line`. Assumes nothing.
use Rattle.std.proofs.Common.{ℕ, zero, suc, ◌^◌, ◌≤◌, List, [], ◌∷◌, ◌++◌, map, take, drop}
use Rattle.cost.specs.Algebra.{Algebra}
use Rattle.timing.specs.Visits.{Visit}
use Rattle.cost.specs.Convex.{Convex}
use Rattle.timing.specs.Convex.{Bends}
use Rattle.timing.specs.Sound.{Small}

module _ {E : Type 0} (K : Algebra E) where
  pub bends_append : (vs ws : List (Visit E)) → Bends K vs → Bends K ws → Bends K (vs ++ ws)
  bends_append [] ws p q = q
  bends_append (v ∷ vs) ws p q = (p.0, bends_append vs ws p.1 q)

  pub small_append : (vs ws : List (Visit E)) → Small K vs → Small K ws → Small K (vs ++ ws)
  small_append [] ws p q = q
  small_append (v ∷ vs) ws p q = (p.0, small_append vs ws p.1 q)

  pub bends_drop : (i : ℕ) (vs : List (Visit E)) → Bends K vs → Bends K (drop i vs)
  bends_drop zero vs p = p
  bends_drop (suc i) [] p = tt
  bends_drop (suc i) (v ∷ vs) p = bends_drop i vs p.1

  pub small_take : (i : ℕ) (vs : List (Visit E)) → Small K vs → Small K (take i vs)
  small_take zero vs p = tt
  small_take (suc i) [] p = tt
  small_take (suc i) (v ∷ vs) p = (p.0, small_take i vs p.1)

  pub small_drop : (i : ℕ) (vs : List (Visit E)) → Small K vs → Small K (drop i vs)
  small_drop zero vs p = p
  small_drop (suc i) [] p = tt
  small_drop (suc i) (v ∷ vs) p = small_drop i vs p.1

  module _ {S : Type 0} (visit : S → Visit E) where
    pub bends_map : ((s : S) → Convex K (visit s).price (visit s).first (visit s).last) → (ss : List S) → Bends K (map visit ss)
    bends_map h [] = tt
    bends_map h (s ∷ ss) = (h s, bends_map h ss)

    pub small_map : ((s : S) (t : ℕ) → (visit s).first ≤ t → t ≤ (visit s).last → K.size ((visit s).price t) ≤ 2 ^ 40) → (ss : List S) → Small K (map visit ss)
    small_map h [] = tt
    small_map h (s ∷ ss) = (h s, small_map h ss)
