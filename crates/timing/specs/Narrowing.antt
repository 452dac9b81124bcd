-- What the search for the next mark keeps: words for the engine's own code, which no public promise needs. Assumes nothing.
use Rattle.std.specs.Prelude.{◌≡◌, ℕ, suc, ◌+◌, ◌<◌, ◌≤◌, Bool, true, false, List, length, take}
use Rattle.cost.specs.Algebra.{Algebra}
use Rattle.timing.specs.Visits.{Visit, at}
use Rattle.timing.specs.Marks.{Mark}
use Rattle.timing.specs.Reach.{arrive}
use Rattle.timing.specs.Ready.{Ready}

-- the first stop without a mark can be served at minute t and a minute later
pub record Choice {E : Type 0} (K : Algebra E) (vs : List (Visit E)) (ms : List ℕ) (t : ℕ) : Type 0 where
  pub ready : Ready K vs ms
  pub from : arrive 0 (take (suc (length ms)) vs) ≤ t
  pub to : t < (at K vs (length ms)).last

-- the mark lies between low and high, which both can be kept
pub record Bounds {E : Type 0} (K : Algebra E) (vs : List (Visit E)) (ms : List ℕ) (low high : ℕ) : Type 0 where
  pub from : arrive 0 (take (suc (length ms)) vs) ≤ low
  pub to : high ≤ (at K vs (length ms)).last
  pub mark : (m : ℕ) → Mark K vs (length ms) m → (low ≤ m) × (m ≤ high)

unfoldable pub Between : {E : Type 0} → Algebra E → List (Visit E) → List ℕ → ℕ → ℕ → Type 0
Between K vs ms low high = Bounds K vs ms low high

-- the test r tells on which side of t the mark lies
abbrev pub Halves : {E : Type 0} → Algebra E → List (Visit E) → List ℕ → ℕ → Bool → Type 0
Halves K vs ms t r = (low high : ℕ) → Between K vs ms low high → low ≤ t → t < high → (r ≡ true → Between K vs ms low t) × (r ≡ false → Between K vs ms (t + 1) high)
