-- A refused splice leaves the stops.
use Rattle.std.proofs.Common.{◌≡◌, ℕ, List, Err, refl, arith}
use Rattle.cost.specs.Algebra.{Algebra}
use Rattle.source.specs.Meaning.{Meaning}
use Rattle.route.specs.declared.stop.Splice.{Splice}
use Rattle.route.specs.declared.stop.Refusal.{Refusal}
use Rattle.route.specs.Plain.{Plain}
use Rattle.route.specs.Judged.{Answer, Judged, refused, blocked, accepted}

module _ {E : Type 0} (K : Algebra E) (m : Meaning E) (ps : List Plain) (s : Splice) (why : Refusal) where
  stays_by : (r : Answer) (qs : List Plain) → Judged K m ps s r qs → r ≡ Err why → qs ≡ ps
  stays_by r qs (refused f e) is = refl
  stays_by r qs (blocked f e b) is = refl
  stays_by r qs (accepted e f) is = let z : ◌≡◌ {A = ℕ} 0 1 = cc in absurd (omega arith)

  pub refused_stays : (qs : List Plain) → Judged K m ps s (Err why) qs → qs ≡ ps
  refused_stays qs j = stays_by (Err why) qs j refl
