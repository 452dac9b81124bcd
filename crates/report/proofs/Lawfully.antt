-- What right marks over a lawful source give: ordinary facts, and a least cost that is not too large. Assumes nothing.
use Rattle.std.proofs.Common.{◌≡◌, ℕ, ◌^◌, ◌≤◌, List, [], ◌∷◌, length, Some, None, Option, refl, ap, ⊎_elim, arith}
use Rattle.std.proofs.lemmas.List.{length-map}
use Rattle.std.proofs.lemmas.Bool.{cases_lt}
use Rattle.cost.specs.Algebra.{Algebra}
use Rattle.source.specs.Meaning.{Curve, Meaning, Lawful}
use Rattle.timing.specs.Timetables.{Fits}
use Rattle.timing.specs.Sound.{Sound}
use Rattle.timing.proofs.Theorems.{marks_best}
use Rattle.timing.proofs.Timings.{bill_size}
use Rattle.route.specs.declared.stop.Stop.{Stop}
use Rattle.route.specs.Plain.{visit, seen}
use Rattle.route.specs.Table.{plain, plains, marks, line, Marked}
use Rattle.route.specs.Calls.{timed, all_facts, route_facts}
use Rattle.route.specs.Joins.{Least}
use Rattle.route.proofs.Soundness.{lawful_sound}
use Rattle.report.specs.Bounds.{Ordinary}

module _ {E : Type 0} (K : Algebra E) (m : Meaning E) (law : Lawful K m) where
  -- a curve that is served is one of 0 to 63, and its minute one of the day
  served : (k l t : ℕ) (o : Option (Curve E)) → m.curve k ≡ o → (visit K o l).first ≤ t → t ≤ (visit K o l).last → (k ≤ 63) × (t ≤ 1440)
  served k l t None e a b = absurd (omega arith)
  served k l t (Some c) e a b = (
    ⊎_elim (λ h. omega arith) (λ h. let f = law.few k h in let z : ◌≡◌ {A = ℕ} 0 1 = cc in absurd (omega arith)) (cases_lt k 64),
    omega (arith, (law.sound k c e).day),
  )

  ordinary_all : (p : ℕ) (ss : List Stop) (ts : List ℕ) → Fits p (line K m ss) ts → Ordinary (all_facts ss ts)
  ordinary_all p [] ts f = tt
  ordinary_all p (s ∷ ss) [] f = tt
  ordinary_all p (s ∷ ss) (t ∷ ts) f =
      let here = served s.curve s.leg t (m.curve s.curve) refl f.0 f.1 in
      (here.0, here.1, ordinary_all t ss ts f.3)

  module _ (ss : List Stop) (few : length ss ≤ 64) where
    plain_few : length (plains ss) ≤ 64
    plain_few = omega (arith, length-map ss plain)

    sound : Sound K (line K m ss)
    sound = lawful_sound K m law (plains ss) (omega (arith, plain_few))

    pub route_ordinary : Marked K m ss → Ordinary (route_facts K m ss)
    route_ordinary marked = ordinary_all 0 ss (timed K m ss) (marks_best K (line K m ss) (marks ss) sound.bends marked).serves

    pub least_small : (c : E) → Least K (line K m ss) c → K.size c ≤ 2 ^ 50
    least_small c l =
        let small = bill_size K 0 (line K m ss) l.minutes sound.small l.best.serves in
        let many : length (line K m ss) ≤ 64 = omega (arith, length-map (plains ss) (seen K m), plain_few) in
        omega (arith, ap K.size l.cost)
