-- The stops over a lawful source are as the engine asks.
use Rattle.std.proofs.Common.{◌≡◌, ℕ, ◌+◌, ◌^◌, ◌≤◌, List, [], ◌∷◌, ◌++◌, length, Some, None, Option, refl, arith}
use Rattle.std.proofs.lemmas.List.{length-map, length-append}
use Rattle.cost.specs.Algebra.{Algebra}
use Rattle.source.specs.Meaning.{Curve, Meaning, Lawful, Sound as Kept}
use Rattle.timing.specs.Visits.{Visit}
use Rattle.cost.specs.Convex.{Convex}
use Rattle.timing.specs.Convex.{Bends}
use Rattle.timing.specs.Sound.{Small, Sound}
use Rattle.timing.proofs.Sounds.{bends_append, small_append}
use Rattle.route.specs.Plain.{Plain, visit, seen, visits}

module _ {E : Type 0} (K : Algebra E) (peak : ℕ) (high : peak ≤ 2 ^ 40) (l : ℕ) where
  bend : (o : Option (Curve E)) → ((c : Curve E) → o ≡ Some c → Kept K peak c) → Convex K (visit K o l).price (visit K o l).first (visit K o l).last
  bend None kept t a b = absurd (omega arith)
  bend (Some c) kept t a b = (kept c refl).convex t a b

  little : (o : Option (Curve E)) → ((c : Curve E) → o ≡ Some c → Kept K peak c) → (t : ℕ) → (visit K o l).first ≤ t → t ≤ (visit K o l).last → K.size ((visit K o l).price t) ≤ 2 ^ 40
  little None kept t a b = absurd (omega arith)
  little (Some c) kept t a b = let s = (kept c refl).small t a b in omega arith

module _ {E : Type 0} (K : Algebra E) (m : Meaning E) (law : Lawful K m) where
  bends_visits : (ps : List Plain) → Bends K (visits K m ps)
  bends_visits [] = tt
  bends_visits (p ∷ ps) = (bend K m.peak law.high p.leg (m.curve p.curve) (law.sound p.curve), bends_visits ps)

  small_visits : (ps : List Plain) → Small K (visits K m ps)
  small_visits [] = tt
  small_visits (p ∷ ps) = (little K m.peak law.high p.leg (m.curve p.curve) (law.sound p.curve), small_visits ps)

  pub lawful_sound : (ps : List Plain) → length ps ≤ 1024 → Sound K (visits K m ps)
  lawful_sound ps h = record { bends = bends_visits ps; small = small_visits ps; few = let n = length-map ps (seen K m) in omega arith }

-- one line after another

module _ {E : Type 0} (K : Algebra E) where
  pub sound_append : (vs ws : List (Visit E)) → Sound K vs → Sound K ws → length vs + length ws ≤ 1024 → Sound K (vs ++ ws)
  sound_append vs ws a b h = record {
    bends = bends_append K vs ws a.bends b.bends;
    small = small_append K vs ws a.small b.small;
    few = let n = length-append vs ws in omega arith;
  }
