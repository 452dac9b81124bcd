-- Joined stops: their least cost, and their line.
use Rattle.std.proofs.Common.{◌≡◌, ℕ, ◌+◌, ◌-◌, ◌≤◌, List, [], ◌∷◌, ◌++◌, length, take, drop, Some, None, Ok, Err, Option, Result, refl, sym, ap, ◌∙◌, subst, arith}
use Rattle.std.proofs.lemmas.List.{length-map, length-append, length-take, length-drop}
use Rattle.cost.specs.Algebra.{Algebra}
use Rattle.source.specs.Meaning.{Meaning, Lawful}
use Rattle.timing.specs.Visits.{Visit}
use Rattle.timing.specs.Timetables.{Timetable, Feasible, bill}
use Rattle.timing.specs.Marks.{Marks}
use Rattle.timing.specs.Minutes.{minutes}
use Rattle.timing.specs.Sound.{Sound}
use Rattle.route.specs.declared.stop.Stop.{Stop}
use Rattle.route.specs.declared.stop.Refusal.{Refusal}
use Rattle.route.specs.declared.stop.Refusal.TheVariants.{Place, Full, Curve, Leg, NoTimetable}
use Rattle.route.specs.Plain.{Plain, releg, seen, visits}
use Rattle.route.specs.Table.{plain, plains}
use Rattle.route.specs.Kept.{Kept}
use Rattle.route.specs.Refusals.{number}
use Rattle.route.specs.Steps.{Served}
use Rattle.route.specs.Joins.{Least, joined, objection_to_join, JoinJudged, exactly, refused, blocked, accepted}
use Rattle.route.proofs.Soundness.{lawful_sound, sound_append}
use Rattle.route.proofs.Readings.{minutes_take, least_by}

pub no_marks : {E : Type 0} (K : Algebra E) → Marks K [] []
no_marks K = record { many = refl; each = λ i h. absurd (omega arith) }

pub length_releg : (l : ℕ) (ps : List Plain) → length (releg l ps) ≡ length ps
length_releg l [] = refl
length_releg l (p ∷ ps) = refl

-- what marks of the joined stops give is the least cost, where they have a timetable
module _ {E : Type 0} (K : Algebra E) (m n : Meaning E) (ps qs : List Plain) where
  abbrev both : List (Visit E)
  both = visits K m ps ++ visits K n qs

  pub joined_least : Lawful K m → Lawful K n → length ps + length qs ≤ 128 → (new : List ℕ) (x : E)
      → (Sound K both → Feasible both → length both ≤ 128 → Marks K both (take (length both) new))
      → (Sound K both → Timetable both (minutes both new) → x ≡ bill K both (minutes both new))
      → Feasible both → Least K both x
  joined_least lm ln few new x found billed feasible =
      let a = length-map ps (seen K m) in
      let b = length-map qs (seen K n) in
      let c = length-append (visits K m ps) (visits K n qs) in
      let sound = sound_append K (visits K m ps) (visits K n qs) (lawful_sound K m lm ps (omega arith)) (lawful_sound K n ln qs (omega arith)) (omega arith) in
      least_by K both (take (length both) new) new x sound (found sound feasible (omega arith)) (minutes_take both new) billed

-- the joined stops of two routes are as the engine asks
module _ {E : Type 0} (K : Algebra E) (m n : Meaning E) (ss ts : List Stop) (i leg j : ℕ) (a : Kept K m ss) (b : Kept K n ts) where
  abbrev front : List Plain
  front = take i (plains ss)

  abbrev back : List Plain
  back = releg leg (drop (j - 1) (plains ts))

  front_few : length front ≤ 64
  front_few = omega (arith, a.few, length-take i (plains ss), length-map ss plain)

  back_few : length back ≤ 64
  back_few = omega (arith, b.few, length_releg leg (drop (j - 1) (plains ts)), length-drop (j - 1) (plains ts), length-map ts plain)

  pub joined_sound : Sound K (joined K m (plains ss) i leg n (plains ts) j)
  joined_sound =
      let f = length-map front (seen K m) in
      let g = length-map back (seen K n) in
      sound_append K (visits K m front) (visits K n back) (lawful_sound K m a.lawful front (omega (arith, front_few))) (lawful_sound K n b.lawful back (omega (arith, back_few))) (omega (arith, f, g, front_few, back_few))

-- how a join is answered, where the code counts k and l stops and has drafted the stops vs
module _ {V E : Type 0} (exact : V → E) (K : Algebra E) (m n : Meaning E) (ps qs : List Plain) (i leg j k l : ℕ) (e : k ≡ length ps) (f : l ≡ length qs) where
  abbrev pub Says : Result V Refusal → Type 0
  Says a = JoinJudged K m ps i leg n qs j (exactly exact a)

  same : (o : Option ℕ) → o ≡ objection_to_join k i leg l j → objection_to_join (length ps) i leg (length qs) j ≡ o
  same o t = sym (t ∙ ap (λ (x : ℕ). objection_to_join x i leg l j) e ∙ ap (λ (x : ℕ). objection_to_join (length ps) i leg x j) f)

  pub join_refused : (a : Result V Refusal) (r : Refusal) → a ≡ Err r → Some (number r) ≡ objection_to_join k i leg l j → Says a
  join_refused a r b o = subst Says (sym b) (refused r (same (Some (number r)) o))

  stopped : (r : Refusal) → objection_to_join (length ps) i leg (length qs) j ≡ None → Served (joined K m ps i leg n qs j) (Err r) → Says (Err r)
  stopped Place o t = absurd t
  stopped Full o t = absurd t
  stopped Curve o t = absurd t
  stopped Leg o t = absurd t
  stopped (NoTimetable x) o t = blocked x o t

  pub join_blocked : (a : Result V Refusal) (r : Refusal) (vs : List (Visit E)) → a ≡ Err r → None ≡ objection_to_join k i leg l j → vs ≡ joined K m ps i leg n qs j → Served vs (Err r) → Says a
  join_blocked a r vs b o h t = subst Says (sym b) (stopped r (same None o) (subst (λ (ws : List (Visit E)). Served ws (Err r)) h t))

  pub join_accepted : (c : V) (vs : List (Visit E)) → None ≡ objection_to_join k i leg l j → vs ≡ joined K m ps i leg n qs j → Least K vs (exact c) → Says (Ok c)
  join_accepted c vs o h t = accepted (exact c) (same None o) (subst (λ (ws : List (Visit E)). Least K ws (exact c)) h t)
