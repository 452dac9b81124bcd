-- How a splice and a join are answered, from their examinations and their timetables.
use Rattle.std.proofs.Common.{◌≡◌, ℕ, List, length, Some, None, Ok, Err, sym, subst}
use Rattle.std.specs.Prelude.{OnOk}
use Rattle.std.proofs.lemmas.List.{length-map}
use Rattle.cost.specs.Algebra.{Algebra}
use Rattle.source.specs.Meaning.{Meaning}
use Rattle.route.specs.declared.stop.Stop.{Stop}
use Rattle.route.specs.declared.stop.Refusal.{Refusal}
use Rattle.route.specs.declared.stop.Refusal.TheVariants.{Place, Full, Curve, Leg, NoTimetable}
use Rattle.route.specs.declared.stop.Splice.{Splice}
use Rattle.route.specs.Refusals.{number}
use Rattle.route.specs.Plain.{Plain, spliced, visits}
use Rattle.route.specs.Table.{plain, plains}
use Rattle.route.specs.Judged.{Answer, objection, Judged, refused, blocked, accepted}
use Rattle.route.specs.Steps.{HasPlace, Served}
use Rattle.route.specs.Calls.{left}
use Rattle.route.proofs.Objections.{has_place}

module _ {E : Type 0} (K : Algebra E) (m : Meaning E) (ss : List Stop) (s : Splice) where
  -- what the judge tells
  abbrev pub Told : Answer → Type 0
  Told r = Judged K m (plains ss) s r (left r s (plains ss)) × OnOk r (HasPlace (length ss) s)

  pub judged_refused : (a : Answer) (r : Refusal) → a ≡ Err r → Some (number r) ≡ objection m (plains ss) s → Told a
  judged_refused a r e o = subst Told (sym e) (refused r (sym o), tt)

  served_so : (r : Answer) → None ≡ objection m (plains ss) s → Served (visits K m (spliced s (plains ss))) r → Told r
  served_so (Ok x) o t = (accepted (sym o) t, subst (λ (n : ℕ). HasPlace n s) (length-map ss plain) (has_place m (plains ss) s (sym o)))
  served_so (Err Place) o t = absurd t
  served_so (Err Full) o t = absurd t
  served_so (Err Curve) o t = absurd t
  served_so (Err Leg) o t = absurd t
  served_so (Err (NoTimetable f)) o t = (blocked f (sym o) t, tt)

  -- where the code has drafted the stops qs over a source of meaning n
  pub judged_served : (r : Answer) (n : Meaning E) (qs : List Plain) → None ≡ objection m (plains ss) s → n ≡ m → qs ≡ spliced s (plains ss) → Served (visits K n qs) r → Told r
  judged_served r n qs o e f t = served_so r o (subst (λ (ps : List Plain). Served (visits K m ps) r) f (subst (λ (x : Meaning E). Served (visits K x qs) r) e t))
