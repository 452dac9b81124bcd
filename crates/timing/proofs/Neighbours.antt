-- Which minute of the last stop is best is told by comparing neighbours; which stop cannot be reached, by its soonest minute. Assumes nothing.
use Rattle.std.proofs.Common.{◌≡◌, ℕ, zero, suc, ◌+◌, ◌-◌, ◌<◌, ◌≤◌, max, ◌↔◌, List, [], ◌∷◌, reverse, length, get_or, take, sym, refl, ap, ◌∙◌, subst, subst₂, arith}
use Rattle.std.proofs.Math.Decide.{dec_le}
use Rattle.std.proofs.lemmas.List.{reverse-reverse}
use Rattle.cost.specs.Algebra.{Algebra, Most}
use Rattle.timing.specs.Visits.{Visit}
use Rattle.timing.specs.Convex.{Bends}
use Rattle.timing.specs.Timetables.{Timetable, bill}
use Rattle.timing.specs.Best.{Best, Ends, final}
use Rattle.timing.specs.Marks.{Mark}
use Rattle.timing.specs.Reach.{Reaches, arrive}
use Rattle.timing.proofs.Costs.{never, most_eq, most_trans, antisym, plus_most_left}
use Rattle.timing.proofs.Curves.{flat_stays, falls}
use Rattle.timing.specs.Back.{Lowest, Within, reach, Open, fill, ending, Marked, top, BestBack}
use Rattle.timing.proofs.Back.{within_open, within_reach, fill_within, fill_least, ending_convex}
use Rattle.timing.proofs.Bests.{best_mark, marks_exist}
use Rattle.timing.proofs.Forward.{top_final, feasible_back, back_feasible, bends_back, bill_back}
use Rattle.timing.proofs.Theorems.{best_back}

module _ {E : Type 0} (K : Algebra E) where
  open K use {nought, plus}

  module _ (vs : List (Visit E)) (v : Visit E) (ws : List (Visit E)) (e : reverse vs ≡ v ∷ ws) (ms : List ℕ) (p : Bends K (v ∷ ws)) (k : Marked K ws ms) where
    -- a timetable, the last stop first
    turned : (ts : List ℕ) → Timetable vs ts → Within (final 0 ts) (v ∷ ws) (reverse ts)
    turned ts h = subst (λ x. Within (final 0 ts) x (reverse ts)) e (feasible_back vs ts h)

    turned_bill : (ts : List ℕ) → Timetable vs ts → bill K (v ∷ ws) (reverse ts) ≡ bill K vs ts
    turned_bill ts h = ap (λ x. bill K x (reverse ts)) (sym e) ∙ bill_back K vs ts h

    inside : (t : ℕ) (ss : List ℕ) → top ss ≡ t → Within t (v ∷ ws) ss → (reach (v ∷ ws) ≤ t) × (t ≤ v.last) × Most K (ending K v ws ms t) (bill K (v ∷ ws) ss)
    inside t [] d h = absurd h
    inside t (s ∷ ss) d h =
        let r : reach ws ≤ s - v.leg = within_reach (s - v.leg) ws ss h.4 in
        (omega arith, omega arith, subst (λ x. Most K (ending K v ws ms x) (bill K (v ∷ ws) (s ∷ ss))) d (plus_most_left K (v.price s) (fill_least K (s - v.leg) ws ms ss p.1 k h.4)))

    pub ends_are : (t : ℕ) (c : E) → Ends K vs t c → (reach (v ∷ ws) ≤ t) × (t ≤ v.last) × (ending K v ws ms t ≡ c)
    ends_are t c ends =
        let ts : List ℕ = ends.met.0 in
        let h : Timetable vs ts = ends.met.1 in
        let w : Within t (v ∷ ws) (reverse ts) = subst (λ x. Within x (v ∷ ws) (reverse ts)) ends.met.2 (turned ts h) in
        let i = inside t (reverse ts) (top_final ts [] ∙ ends.met.2) w in
        let low : Most K (ending K v ws ms t) c = most_trans K i.2 (most_eq K (turned_bill ts h ∙ ends.met.3)) in
        let ss : List ℕ = t ∷ fill ws ms (t - v.leg) in
        let a : reach (v ∷ ws) ≤ t = i.0 in
        let b : t ≤ v.last = i.1 in
        let w' : Within t (v ∷ ws) ss = (omega arith, b, omega arith, omega arith, fill_within K (t - v.leg) ws ms k (omega arith)) in
        let us : List ℕ = reverse ss in
        let back : reverse us ≡ ss = reverse-reverse ss in
        let h' : Timetable vs us = back_feasible t vs us (subst₂ (Within t) (sym e) (sym back) w') in
        let high : Most K c (bill K vs us) = ends.least us h' (sym (top_final us []) ∙ ap top back) in
        (a, b, antisym K low (most_trans K high (most_eq K (sym (turned_bill us h') ∙ ap (bill K (v ∷ ws)) back))))

    tells : (m t : ℕ) (c d : E) → Lowest K (ending K v ws ms) (reach (v ∷ ws)) v.last m → Ends K vs t c → Ends K vs (t + 1) d → Most K c d ↔ (m ≤ t)
    tells m t c d low x y =
        let f = ending K v ws ms in
        let bends = ending_convex K v ws ms p k in
        let i = ends_are t c x in
        let j = ends_are (t + 1) d y in
        let from : reach (v ∷ ws) ≤ m = low.from in
        let a : reach (v ∷ ws) ≤ t = i.0 in
        let b : t + 1 ≤ v.last = j.1 in (
          (λ h. elim (dec_le m t) [
            | yes q ↦ q
            | no q ↦ absurd (never K (subst₂ (Most K) (sym i.2) (sym j.2) h) (falls K f (reach (v ∷ ws)) v.last bends m low t a (omega arith)))
          ]),
          (λ q. subst₂ (Most K) i.2 j.2 (flat_stays K f (reach (v ∷ ws)) v.last bends (t - m) m t (omega arith) from b (low.least (m + 1) (omega arith) (omega arith)))),
        )

  lowest_of : (v : Visit E) (ws : List (Visit E)) (ms ts : List ℕ) → Bends K (v ∷ ws) → Marked K ws ms → BestBack K (v ∷ ws) ts → Lowest K (ending K v ws ms) (reach (v ∷ ws)) v.last (top ts)
  lowest_of v ws ms [] p k best = absurd best.serves.1
  lowest_of v ws ms (t ∷ ts) p k best = best_mark K v ws ms t ts p k best

  -- the least cost that ends at t is at most the one that ends at t + 1 exactly if the best timetable ends at t or before
  pub neighbours_tell : (vs : List (Visit E)) (ts : List ℕ) (t : ℕ) (c d : E) → Bends K vs → Best K vs ts → Ends K vs t c → Ends K vs (t + 1) d → Most K c d ↔ (final 0 ts ≤ t)
  neighbours_tell vs ts t c d p best x y = go (reverse vs) refl
    where
      go : (ws : List (Visit E)) → reverse vs ≡ ws → Most K c d ↔ (final 0 ts ≤ t)
      go [] e =
          let us = y.met.0 in
          let h : Within {E = E} (final 0 us) [] (reverse us) = subst (λ z. Within {E = E} (final 0 us) z (reverse us)) e (feasible_back vs us y.met.1) in
          absurd (none (reverse us) h (top_final us [] ∙ y.met.2))
        where
          none : (ss : List ℕ) → Within {E = E} (final 0 y.met.0) [] ss → top ss ≡ t + 1 → ⊥
          none [] h q = omega arith
          none (s ∷ ss) h q = h
      go (v ∷ ws) e =
          let bends : Bends K (v ∷ ws) = subst (Bends K) e (bends_back K vs p) in
          let back : BestBack K (v ∷ ws) (reverse ts) = subst (λ z. BestBack K z (reverse ts)) e (best_back K vs ts best) in
          let open-all : Open (v ∷ ws) = within_open back.serves.0 (v ∷ ws) (reverse ts) back.serves.1 in
          let r = marks_exist K ws open-all.1 in
          let low = lowest_of v ws r.0 (reverse ts) bends r.1 back in
          let e' : top (reverse ts) ≡ final 0 ts = top_final ts [] in
          subst (λ m. Most K c d ↔ (m ≤ t)) e' (tells vs v ws e r.0 bends r.1 (top (reverse ts)) t c d low x y)

  -- a mark is a matter of the stops up to it
  pub mark_front : (vs ws : List (Visit E)) (i t : ℕ) → take (suc i) vs ≡ take (suc i) ws → Mark K vs i t → Mark K ws i t
  mark_front vs ws i t e m = (m.0, subst (λ z. Best K z m.0) e m.1, m.2)

module _ {E : Type 0} where
  pub arrive_step : (p j : ℕ) (vs : List (Visit E)) (d : Visit E) → j < length vs → arrive p (take (suc j) vs) ≡ max (get_or vs j d).first (arrive p (take j vs) + (get_or vs j d).leg)
  arrive_step p j [] d h = absurd (omega arith)
  arrive_step p zero (v ∷ vs) d h = refl
  arrive_step p (suc j) (v ∷ vs) d h = arrive_step (max v.first (p + v.leg)) j vs d (omega arith)

  pub reaches_step : (p j : ℕ) (vs : List (Visit E)) (d : Visit E) → j < length vs → Reaches p (take (suc j) vs) ↔ (Reaches p (take j vs) × (max (get_or vs j d).first (arrive p (take j vs) + (get_or vs j d).leg) ≤ (get_or vs j d).last))
  reaches_step p j [] d h = absurd (omega arith)
  reaches_step p zero (v ∷ vs) d h = (λ r. (tt, r.0), λ r. (r.1, tt))
  reaches_step p (suc j) (v ∷ vs) d h =
      let rest = reaches_step (max v.first (p + v.leg)) j vs d (omega arith) in
      (λ r. let q = rest.0 r.1 in ((r.0, q.0), q.1), λ r. (r.0.0, rest.1 (r.0.1, r.1)))
