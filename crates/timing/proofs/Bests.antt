-- Best timetables read from the last stop back, and the marks. Every list here has the last stop first. Assumes nothing.
use Rattle.std.proofs.Common.{◌≡◌, ℕ, ◌+◌, ◌-◌, ◌<◌, ◌≤◌, min, max, List, [], ◌∷◌, sym, refl, ap, subst, inl, inr, arith}
use Rattle.cost.specs.Algebra.{Algebra, Less, Most}
use Rattle.timing.specs.Visits.{Visit}
use Rattle.timing.specs.Convex.{Bends}
use Rattle.timing.specs.Timetables.{bill}
use Rattle.timing.proofs.Costs.{split, most_trans, plus_most_left}
use Rattle.timing.specs.Back.{Lowest, Within, Early, reach, Open, fill, ending, Marked, top, BackBy, BestBack}
use Rattle.timing.proofs.Curves.{earliest}
use Rattle.timing.proofs.Back.{early_antisym, within_mono, within_reach, fill_within, fill_least, fill_early}

pub fill_top : {E : Type 0} (vs : List (Visit E)) (ms : List ℕ) (w : ℕ) → top ms ≤ w → fill vs ms w ≡ fill vs ms (top ms)
fill_top [] ms w h = refl
fill_top (v ∷ vs) [] w h = refl
fill_top (v ∷ vs) (m ∷ ms) w h =
    let e : min m w ≡ min m m = omega arith in
    ap (λ x. x ∷ fill vs ms (x - v.leg)) e

module _ {E : Type 0} (K : Algebra E) where
  open K use {nought, plus}

  pub marked_top : (vs : List (Visit E)) (ms : List ℕ) → Marked K vs ms → reach vs ≤ top ms
  marked_top [] ms k = omega arith
  marked_top (v ∷ vs) [] k = absurd k
  marked_top (v ∷ vs) (m ∷ ms) k = k.0.from

  -- bounded: the fill up to u is best up to u
  pub fill_best_by : (u : ℕ) (vs : List (Visit E)) (ms : List ℕ) → Bends K vs → Marked K vs ms → reach vs ≤ u → BackBy K u vs (fill vs ms u)
  fill_best_by u vs ms p k h = record {
    serves = fill_within K u vs ms k h;
    least = λ us w. fill_least K u vs ms us p k w;
    early = λ us w c. fill_early K u vs ms us p k w c;
  }

  -- whole: the fill from the last mark is best
  pub fill_best : (vs : List (Visit E)) (ms : List ℕ) → Bends K vs → Marked K vs ms → BestBack K vs (fill vs ms (top ms))
  fill_best vs ms p k = record {
    serves = (top ms, fill_within K (top ms) vs ms k (marked_top vs ms k));
    least = λ u us w. least u us w;
    early = λ u us w c. early u us w c;
  }
    where
      wide : (u : ℕ) → fill vs ms (max u (top ms)) ≡ fill vs ms (top ms)
      wide u = fill_top vs ms (max u (top ms)) (omega arith)

      least : (u : ℕ) (us : List ℕ) → Within u vs us → Most K (bill K vs (fill vs ms (top ms))) (bill K vs us)
      least u us w =
          subst (λ x. Most K (bill K vs x) (bill K vs us)) (wide u) (fill_least K (max u (top ms)) vs ms us p k (within_mono u (max u (top ms)) vs us (omega arith) w))

      early : (u : ℕ) (us : List ℕ) → Within u vs us → Most K (bill K vs us) (bill K vs (fill vs ms (top ms))) → Early (fill vs ms (top ms)) us
      early u us w c =
          let x = max u (top ms) in
          subst (λ x. Early x us) (wide u) (fill_early K x vs ms us p k (within_mono u x vs us (omega arith) w) (subst (λ x. Most K (bill K vs us) (bill K vs x)) (sym (wide u)) c))

  pub best_unique : (vs : List (Visit E)) (ts us : List ℕ) → BestBack K vs ts → BestBack K vs us → ts ≡ us
  best_unique vs ts us p q =
      early_antisym ts us
      (p.early q.serves.0 us q.serves.1 (q.least p.serves.0 ts p.serves.1))
      (q.early p.serves.0 ts p.serves.1 (p.least q.serves.0 us q.serves.1))

  -- the last minute of a best timetable is the mark
  pub best_mark : (v : Visit E) (vs : List (Visit E)) (ms : List ℕ) (t : ℕ) (ts : List ℕ) → Bends K (v ∷ vs) → Marked K vs ms → BestBack K (v ∷ vs) (t ∷ ts) → Lowest K (ending K v vs ms) (reach (v ∷ vs)) v.last t
  best_mark v vs ms t ts p k best = record { from = from; to = fits.1; least = least; before = before }
    where
      f : ℕ → E
      f = ending K v vs ms

      fits : Within best.serves.0 (v ∷ vs) (t ∷ ts)
      fits = best.serves.1

      from : reach (v ∷ vs) ≤ t
      from =
          let r : reach vs ≤ t - v.leg = within_reach (t - v.leg) vs ts fits.4 in
          let j = fits in
          omega arith

      ours : Most K (f t) (bill K (v ∷ vs) (t ∷ ts))
      ours = plus_most_left K (v.price t) (fill_least K (t - v.leg) vs ms ts p.1 k fits.4)

      other : (s : ℕ) → reach (v ∷ vs) ≤ s → s ≤ v.last → Within s (v ∷ vs) (s ∷ fill vs ms (s - v.leg))
      other s a b = (omega arith, b, omega arith, omega arith, fill_within K (s - v.leg) vs ms k (omega arith))

      least : (s : ℕ) → reach (v ∷ vs) ≤ s → s ≤ v.last → Most K (f t) (f s)
      least s a b = most_trans K ours (best.least s (s ∷ fill vs ms (s - v.leg)) (other s a b))

      before : (s : ℕ) → reach (v ∷ vs) ≤ s → s < t → Less K (f t) (f s)
      before s a b = elim (split K (f t) (f s)) [
        | inl h ↦ h
        | inr h ↦
            let e = (best.early s (s ∷ fill vs ms (s - v.leg)) (other s a (omega (arith, fits.1))) (most_trans K h ours)).0 in
            absurd (omega arith)
      ]

  -- marks exist where every stop can be reached
  pub marks_exist : (vs : List (Visit E)) → Open vs → (ms : List ℕ) × Marked K vs ms
  marks_exist [] h = ([], tt)
  marks_exist (v ∷ vs) h = go (marks_exist vs h.1)
    where
      go : ((ms : List ℕ) × Marked K vs ms) → (ms : List ℕ) × Marked K (v ∷ vs) ms
      go r =
          let a : ℕ = reach (v ∷ vs) in
          let e : a + (v.last - a) ≡ v.last = omega arith in
          let low = earliest K (ending K v vs r.0) a (v.last - a) in
          (low.0 ∷ r.0, (subst (λ b. Lowest K (ending K v vs r.0) a b low.0) e low.1, r.1))
