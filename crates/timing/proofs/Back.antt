-- Timetables read from the last stop back. Every list here has the last stop first. Assumes nothing.
use Rattle.std.proofs.Common.{◌≡◌, ℕ, ◌+◌, ◌-◌, ◌≤◌, min, List, [], ◌∷◌, refl, ap₂, arith}
use Rattle.cost.specs.Algebra.{Algebra, Most}
use Rattle.timing.specs.Visits.{Visit}
use Rattle.cost.specs.Convex.{Convex}
use Rattle.timing.specs.Convex.{Bends}
use Rattle.timing.specs.Timetables.{bill}
use Rattle.timing.proofs.Costs.{most_refl, most_trans, plus_most_left, cancel_left, sum_bends}
use Rattle.timing.specs.Back.{Within, Early, reach, Open, fill, cost, ending, Marked}
use Rattle.timing.proofs.Curves.{cap_least, cap_early, cap_bends}

pub early_refl : (ts : List ℕ) → Early ts ts
early_refl [] = tt
early_refl (t ∷ ts) = (omega arith, early_refl ts)

pub early_trans : (ts us ws : List ℕ) → Early ts us → Early us ws → Early ts ws
early_trans [] [] [] h k = tt
early_trans [] [] (w ∷ ws) h k = k
early_trans [] (u ∷ us) ws h k = absurd h
early_trans (t ∷ ts) [] ws h k = absurd h
early_trans (t ∷ ts) (u ∷ us) [] h k = k
early_trans (t ∷ ts) (u ∷ us) (w ∷ ws) h k = (omega arith, early_trans ts us ws h.1 k.1)

pub early_antisym : (ts us : List ℕ) → Early ts us → Early us ts → ts ≡ us
early_antisym [] [] h k = refl
early_antisym [] (u ∷ us) h k = absurd h
early_antisym (t ∷ ts) [] h k = absurd h
early_antisym (t ∷ ts) (u ∷ us) h k = ap₂ ◌∷◌ (omega arith) (early_antisym ts us h.1 k.1)

module _ {E : Type 0} where
  pub within_mono : (u w : ℕ) (vs : List (Visit E)) (ts : List ℕ) → u ≤ w → Within u vs ts → Within w vs ts
  within_mono u w [] [] h k = tt
  within_mono u w [] (t ∷ ts) h k = k
  within_mono u w (v ∷ vs) [] h k = k
  within_mono u w (v ∷ vs) (t ∷ ts) h k = (k.0, k.1, omega arith, k.3, k.4)

  pub within_reach : (u : ℕ) (vs : List (Visit E)) (ts : List ℕ) → Within u vs ts → reach vs ≤ u
  within_reach u [] [] k = omega arith
  within_reach u [] (t ∷ ts) k = absurd k
  within_reach u (v ∷ vs) [] k = absurd k
  within_reach u (v ∷ vs) (t ∷ ts) k =
      let h : reach vs ≤ t - v.leg = within_reach (t - v.leg) vs ts k.4 in
      omega arith

  pub within_open : (u : ℕ) (vs : List (Visit E)) (ts : List ℕ) → Within u vs ts → Open vs
  within_open u [] [] k = tt
  within_open u [] (t ∷ ts) k = absurd k
  within_open u (v ∷ vs) [] k = absurd k
  within_open u (v ∷ vs) (t ∷ ts) k =
      let h : reach vs ≤ t - v.leg = within_reach (t - v.leg) vs ts k.4 in
      (omega arith, within_open (t - v.leg) vs ts k.4)

  pub fill_mono : (u w : ℕ) (vs : List (Visit E)) (ms : List ℕ) → u ≤ w → Early (fill vs ms u) (fill vs ms w)
  fill_mono u w [] ms h = tt
  fill_mono u w (v ∷ vs) [] h = tt
  fill_mono u w (v ∷ vs) (m ∷ ms) h = (omega arith, fill_mono (min m u - v.leg) (min m w - v.leg) vs ms (omega arith))

module _ {E : Type 0} (K : Algebra E) where
  open K use {nought, plus}

  pub marked_open : (vs : List (Visit E)) (ms : List ℕ) → Marked K vs ms → Open vs
  marked_open [] [] k = tt
  marked_open [] (m ∷ ms) k = absurd k
  marked_open (v ∷ vs) [] k = absurd k
  marked_open (v ∷ vs) (m ∷ ms) k =
      let p : reach (v ∷ vs) ≤ m = k.0.from in
      let q : m ≤ v.last = k.0.to in
      (omega arith, marked_open vs ms k.1)

  -- the filled timetable serves the stops
  pub fill_within : (u : ℕ) (vs : List (Visit E)) (ms : List ℕ) → Marked K vs ms → reach vs ≤ u → Within u vs (fill vs ms u)
  fill_within u [] [] k h = tt
  fill_within u [] (m ∷ ms) k h = absurd k
  fill_within u (v ∷ vs) [] k h = absurd k
  fill_within u (v ∷ vs) (m ∷ ms) k h =
      let p : reach (v ∷ vs) ≤ m = k.0.from in
      let q : m ≤ v.last = k.0.to in
      (omega arith, omega arith, omega arith, omega arith, fill_within (min m u - v.leg) vs ms k.1 (omega arith))

  ending_bends : (v : Visit E) (vs : List (Visit E)) (ms : List ℕ) → Convex K v.price v.first v.last → Convex K (cost K vs ms) (reach vs) v.last → Convex K (ending K v vs ms) (reach (v ∷ vs)) v.last
  ending_bends v vs ms p q t h k =
      let c = cost K vs ms in
      let s : ℕ = t - v.leg in
      let e : t + 1 - v.leg ≡ s + 1 = omega arith in
      let d : t + 2 - v.leg ≡ s + 2 = omega arith in
      sum_bends K (p t (omega arith) k) (rw (e, d) (q s (omega arith) (omega arith)))

  cost_bends : (b : ℕ) (vs : List (Visit E)) (ms : List ℕ) → Bends K vs → Marked K vs ms → Convex K (cost K vs ms) (reach vs) b
  cost_bends b [] [] p k t h j = most_refl K _
  cost_bends b [] (m ∷ ms) p k t h j = absurd k
  cost_bends b (v ∷ vs) [] p k t h j = absurd k
  cost_bends b (v ∷ vs) (m ∷ ms) p k t h j =
      cap_bends K (ending K v vs ms) (reach (v ∷ vs)) v.last (ending_bends v vs ms p.0 (cost_bends v.last vs ms p.1 k.1)) m k.0 b t h j

  -- the least cost by the last minute is convex
  pub ending_convex : (v : Visit E) (vs : List (Visit E)) (ms : List ℕ) → Bends K (v ∷ vs) → Marked K vs ms → Convex K (ending K v vs ms) (reach (v ∷ vs)) v.last
  ending_convex v vs ms p k = ending_bends v vs ms p.0 (cost_bends v.last vs ms p.1 k)

  -- nothing within the bound is cheaper
  pub fill_least : (u : ℕ) (vs : List (Visit E)) (ms ts : List ℕ) → Bends K vs → Marked K vs ms → Within u vs ts → Most K (cost K vs ms u) (bill K vs ts)
  fill_least u [] ms ts p k h = most_refl K _
  fill_least u (v ∷ vs) [] ts p k h = absurd k
  fill_least u (v ∷ vs) (m ∷ ms) [] p k h = absurd h
  fill_least u (v ∷ vs) (m ∷ ms) (t ∷ ts) p k h =
      let r : reach vs ≤ t - v.leg = within_reach (t - v.leg) vs ts h.4 in
      most_trans K
      (cap_least K (ending K v vs ms) (reach (v ∷ vs)) v.last (ending_convex v vs ms p k.1) m k.0 u t (omega arith) h.1 h.2)
      (plus_most_left K (v.price t) (fill_least (t - v.leg) vs ms ts p.1 k.1 h.4))

  -- nothing within the bound as cheap is earlier anywhere
  pub fill_early : (u : ℕ) (vs : List (Visit E)) (ms ts : List ℕ) → Bends K vs → Marked K vs ms → Within u vs ts → Most K (bill K vs ts) (cost K vs ms u) → Early (fill vs ms u) ts
  fill_early u [] ms [] p k h c = tt
  fill_early u [] ms (t ∷ ts) p k h c = absurd h
  fill_early u (v ∷ vs) [] ts p k h c = absurd k
  fill_early u (v ∷ vs) (m ∷ ms) [] p k h c = absurd h
  fill_early u (v ∷ vs) (m ∷ ms) (t ∷ ts) p k h c =
      let s : ℕ = t - v.leg in
      let r : reach vs ≤ s = within_reach s vs ts h.4 in
      let f = ending K v vs ms in
      let bends = ending_convex v vs ms p k.1 in
      let low = cap_least K f (reach (v ∷ vs)) v.last bends m k.0 u t (omega arith) h.1 h.2 in
      let rest = fill_least s vs ms ts p.1 k.1 h.4 in
      let here : min m u ≤ t = cap_early K f (reach (v ∷ vs)) v.last bends m k.0 u t (omega arith) (most_trans K (plus_most_left K (v.price t) rest) c) in
      let tail = fill_early s vs ms ts p.1 k.1 h.4 (cancel_left K (most_trans K c low)) in
      (here, early_trans (fill vs ms (min m u - v.leg)) (fill vs ms s) ts (fill_mono (min m u - v.leg) s vs ms (omega arith)) tail)
