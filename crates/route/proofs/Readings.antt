-- Minutes and costs read from marks.
use Rattle.std.proofs.Common.{◌≡◌, ℕ, ◌≤◌, List, [], ◌∷◌, length, get_or, take, sym, refl, ap, ◌∙◌, subst, arith}
use Rattle.std.proofs.lemmas.List.{length-map}
use Rattle.cost.specs.Algebra.{Algebra}
use Rattle.source.specs.Meaning.{Meaning, Lawful}
use Rattle.timing.specs.Visits.{Visit}
use Rattle.timing.specs.Timetables.{Timetable, bill}
use Rattle.timing.specs.Best.{Best}
use Rattle.timing.specs.Marks.{Marks}
use Rattle.timing.specs.Minutes.{held, minutes}
use Rattle.timing.specs.Sound.{Sound}
use Rattle.timing.proofs.Theorems.{marks_best}
use Rattle.route.specs.declared.stop.Stop.{Stop}
use Rattle.route.specs.Plain.{seen}
use Rattle.route.specs.Table.{plain, plains, marks, line, Marked}
use Rattle.route.specs.Over.{Over}
use Rattle.route.specs.Kept.{Kept}
use Rattle.route.specs.Calls.{timed}
use Rattle.route.specs.Joins.{Least}
use Rattle.route.proofs.Soundness.{lawful_sound}

-- marks past the last stop do not matter
pub minutes_take : {E : Type 0} (vs : List (Visit E)) (ms : List ℕ) → minutes vs (take (length vs) ms) ≡ minutes vs ms
minutes_take [] ms = refl
minutes_take (v ∷ vs) [] = refl
minutes_take (v ∷ vs) (t ∷ ms) = ap (λ (ts : List ℕ). held t vs ts ∷ ts) (minutes_take vs ms)

-- the best timetable that marks give costs what is billed
pub least_by : {E : Type 0} (K : Algebra E) (vs : List (Visit E)) (ms old : List ℕ) (x : E) → Sound K vs → Marks K vs ms → minutes vs ms ≡ minutes vs old → (Sound K vs → Timetable vs (minutes vs old) → x ≡ bill K vs (minutes vs old)) → Least K vs x
least_by K vs ms old x sound right same billed =
    let best = subst (Best K vs) same (marks_best K vs ms sound.bends right) in
    record { minutes = minutes vs old; best = best; cost = sym (billed sound best.serves) }

-- the minutes that right marks give are those of the best timetable
pub marked_best : {E : Type 0} (K : Algebra E) (m : Meaning E) (ss : List Stop) → Lawful K m → length ss ≤ 64 → Marked K m ss → Best K (line K m ss) (timed K m ss)
marked_best K m ss law few right =
    let n = length-map ss plain in
    marks_best K (line K m ss) (marks ss) (lawful_sound K m law (plains ss) (omega arith)).bends right

-- the minutes that a route tells are those of its best timetable
best_kept : {E : Type 0} (K : Algebra E) (m : Meaning E) (ss : List Stop) → Kept K m ss → Best K (line K m ss) (timed K m ss)
best_kept K m ss k = marked_best K m ss k.lawful k.few k.marked

-- the same of a route as it is seen
pub kept_best : {X E : Type 0} (K : Algebra E) (M : X → Meaning E) (x : X) (ss : List Stop) (v : Over X Stop) → Kept K (M x) ss → record { source = x; stops = ss } ≡ v → Best K (line K (M v.source) v.stops) (timed K (M v.source) v.stops)
kept_best K M x ss v k e = subst (λ v. Best K (line K (M v.source) v.stops) (timed K (M v.source) v.stops)) e (best_kept K (M x) ss k)

module _ {E : Type 0} (K : Algebra E) (m : Meaning E) (ss : List Stop) (old : List ℕ) (loaded : take (length ss) old ≡ marks ss) where
  pub loaded_minutes : minutes (line K m ss) old ≡ timed K m ss
  loaded_minutes =
      let n : length (line K m ss) ≡ length ss = length-map (plains ss) (seen K m) ∙ length-map ss plain in
      sym (minutes_take (line K m ss) old) ∙ ap (λ (k : ℕ). minutes (line K m ss) (take k old)) n ∙ ap (minutes (line K m ss)) loaded

  -- one minute, read from the line vs of a draft
  pub loaded_minute : (vs : List (Visit E)) (i t : ℕ) → vs ≡ line K m ss → t ≡ get_or (minutes vs old) i 0 → t ≡ get_or (timed K m ss) i 0
  loaded_minute vs i t e r = r ∙ ap (λ (ws : List (Visit E)). get_or (minutes ws old) i 0) e ∙ ap (λ (ts : List ℕ). get_or ts i 0) loaded_minutes

  pub loaded_least : Lawful K m → length ss ≤ 64 → (x : E) → (Sound K (line K m ss) → Timetable (line K m ss) (minutes (line K m ss) old) → x ≡ bill K (line K m ss) (minutes (line K m ss) old)) → Marked K m ss → Least K (line K m ss) x
  loaded_least law few x billed right =
      let n = length-map ss plain in
      least_by K (line K m ss) (marks ss) old x (lawful_sound K m law (plains ss) (omega arith)) right (sym loaded_minutes) billed
