-- The theorems on routes in the order of service. Assumes nothing.
use Rattle.std.proofs.Common.{◌≡◌, ℕ, zero, suc, ◌+◌, ◌<◌, ◌≤◌, min, max, ◌↔◌, List, [], ◌∷◌, reverse, length, get_or, take, sym, refl, ap, ◌∙◌, subst, subst₂, arith, length-take, get_or-take, take-take}
use mathlib.Core.List.{reverse_aux}
use Rattle.std.proofs.Math.Decide.{dec_le}
use Rattle.std.proofs.lemmas.List.{length-reverse}
use Rattle.std.proofs.lemmas.List.{reverse-reverse, get_or_past}
use Rattle.cost.specs.Algebra.{Algebra, Most}
use Rattle.timing.specs.Visits.{Visit}
use Rattle.timing.specs.Convex.{Bends}
use Rattle.timing.specs.Timetables.{Fits, Timetable, Feasible, bill}
use Rattle.timing.specs.Best.{Best, BestBy, final}
use Rattle.timing.specs.Marks.{Mark, Marks}
use Rattle.timing.specs.Reach.{Reaches}
use Rattle.timing.specs.Minutes.{minutes, cap, latest}
use Rattle.timing.proofs.Costs.{most_eq, antisym}
use Rattle.timing.specs.Back.{Lowest, Within, Early, reach, fill, ending, Marked, top, BackBy, BestBack}
use Rattle.timing.proofs.Back.{within_mono, within_open, within_reach, early_antisym}
use Rattle.timing.proofs.Bests.{fill_best, fill_best_by, best_unique, best_mark, marks_exist}
use Rattle.timing.proofs.Forward.{early_at, at_early, early_reverse, early_unreverse, top_final, final_at, reversed, fits_length, top_within, feasible_back, back_feasible, latest_fill, bends_back, bill_back, best_forward}

module _ {E : Type 0} where
  -- who is served as soon as can be is served
  soonest : ℕ → List (Visit E) → List ℕ
  soonest p [] = []
  soonest p (v ∷ vs) = max v.first (p + v.leg) ∷ soonest (max v.first (p + v.leg)) vs

  soonest_fits : (p : ℕ) (vs : List (Visit E)) → Reaches p vs → Fits p vs (soonest p vs)
  unfolding soonest
  soonest_fits p [] h = tt
  soonest_fits p (v ∷ vs) h = (omega arith, h.0, omega arith, soonest_fits (max v.first (p + v.leg)) vs h.1)

  fits_reaches : (p q : ℕ) (vs : List (Visit E)) (ts : List ℕ) → p ≤ q → Fits q vs ts → Reaches p vs
  fits_reaches p q [] ts e h = tt
  fits_reaches p q (v ∷ vs) [] e h = absurd h
  fits_reaches p q (v ∷ vs) (t ∷ ts) e h = (omega arith, fits_reaches (max v.first (p + v.leg)) t vs ts (omega arith) h.3)

  -- a timetable exists exactly where every stop can be reached
  pub feasible_reaches : (vs : List (Visit E)) → Feasible vs ↔ Reaches 0 vs
  feasible_reaches vs = (λ r. fits_reaches 0 0 vs r.0 (omega arith) r.1, λ h. (soonest 0 vs, soonest_fits 0 vs h))

  -- a bound that the last mark keeps is none
  latest_minutes : (p u : ℕ) (vs : List (Visit E)) (ms : List ℕ) → length ms ≡ length vs → final p ms ≤ u → latest vs ms u ≡ minutes vs ms
  latest_minutes p u [] ms e h = refl
  latest_minutes p u (v ∷ vs) [] e h = refl
  latest_minutes p u (v ∷ []) (m ∷ []) e h = ap (λ n. n ∷ []) (omega arith)
  latest_minutes p u (v ∷ []) (m ∷ n ∷ ms) e h = absurd (omega arith)
  latest_minutes p u (v ∷ w ∷ vs) (m ∷ []) e h = absurd (omega arith)
  latest_minutes p u (v ∷ w ∷ vs) (m ∷ n ∷ ms) e h = ap (λ ts. min m (cap (w ∷ vs) ts u) ∷ ts) (latest_minutes m u (w ∷ vs) (n ∷ ms) (omega arith) h)

module _ {E : Type 0} (K : Algebra E) where
  open K use {nought, plus}

  pub best_back : (vs : List (Visit E)) (ts : List ℕ) → Best K vs ts → BestBack K (reverse vs) (reverse ts)
  best_back vs ts best = record {
    serves = (final 0 ts, feasible_back vs ts best.serves);
    least = λ u. reversed (λ us. Within u (reverse vs) us → Most K (bill K (reverse vs) (reverse ts)) (bill K (reverse vs) us)) (least u);
    early = λ u. reversed (λ us. Within u (reverse vs) us → Most K (bill K (reverse vs) us) (bill K (reverse vs) (reverse ts)) → Early (reverse ts) us) (early u);
  }
    where
      bills : (us : List ℕ) → Timetable vs us → bill K (reverse vs) (reverse us) ≡ bill K vs us
      bills us h = bill_back K vs us h

      least : (u : ℕ) (us : List ℕ) → Within u (reverse vs) (reverse us) → Most K (bill K (reverse vs) (reverse ts)) (bill K (reverse vs) (reverse us))
      least u us w =
          let h = back_feasible u vs us w in
          subst₂ (Most K) (sym (bills ts best.serves)) (sym (bills us h)) (best.least us h)

      early : (u : ℕ) (us : List ℕ) → Within u (reverse vs) (reverse us) → Most K (bill K (reverse vs) (reverse us)) (bill K (reverse vs) (reverse ts)) → Early (reverse ts) (reverse us)
      early u us w c =
          let h = back_feasible u vs us w in
          let e = antisym K (subst₂ (Most K) (bills us h) (bills ts best.serves) c) (best.least us h) in
          early_reverse ts us (at_early ts us (fits_length 0 vs ts best.serves ∙ sym (fits_length 0 vs us h)) (best.early us h e))

  best_up_to : (u : ℕ) (vs : List (Visit E)) (ts : List ℕ) → BackBy K u (reverse vs) (reverse ts) → BestBy K u vs ts
  best_up_to u vs ts best = record { serves = serves; ends = ends; least = least; early = early }
    where
      serves : Timetable vs ts
      serves = back_feasible u vs ts best.serves

      within : (us : List ℕ) → Timetable vs us → final 0 us ≤ u → Within u (reverse vs) (reverse us)
      within us h k = within_mono (final 0 us) u (reverse vs) (reverse us) k (feasible_back vs us h)

      ends : final 0 ts ≤ u
      ends = subst (λ x. x ≤ u) (top_final ts []) (top_within u (reverse vs) (reverse ts) best.serves)

      least : (us : List ℕ) → Timetable vs us → final 0 us ≤ u → Most K (bill K vs ts) (bill K vs us)
      least us h k = subst₂ (Most K) (bill_back K vs ts serves) (bill_back K vs us h) (best.least (reverse us) (within us h k))

      early : (us : List ℕ) → Timetable vs us → final 0 us ≤ u → bill K vs us ≡ bill K vs ts → (i : ℕ) → get_or ts i 0 ≤ get_or us i 0
      early us h k e = early_at ts us (early_unreverse ts us (best.early (reverse us) (within us h k) (most_eq K (bill_back K vs us h ∙ e ∙ sym (bill_back K vs ts serves)))))

  -- two best timetables are one
  pub best_one : (vs : List (Visit E)) (ts us : List ℕ) → Best K vs ts → Best K vs us → ts ≡ us
  best_one vs ts us p q =
      sym (reverse-reverse ts) ∙ ap reverse (best_unique K (reverse vs) (reverse ts) (reverse us) (best_back vs ts p) (best_back vs us q)) ∙ reverse-reverse us

  -- a best timetable's last minute marks the last stop
  pub mark_of : (v : Visit E) (vs : List (Visit E)) (ms ts : List ℕ) (t : ℕ) → Bends K (v ∷ vs) → Marked K vs ms → BestBack K (v ∷ vs) ts → top ts ≡ t → Lowest K (ending K v vs ms) (reach (v ∷ vs)) v.last t
  mark_of v vs ms [] t p k best e = absurd best.serves.1
  mark_of v vs ms (s ∷ ts) t p k best e = subst (Lowest K (ending K v vs ms) (reach (v ∷ vs)) v.last) e (best_mark K v vs ms s ts p k best)

  marked_aux : (vs ws : List (Visit E)) (ms ks : List ℕ) → length ms ≡ length vs → Bends K vs → Bends K ws → Marked K ws ks →
      ((i : ℕ) → i < length vs → (ts : List ℕ) × BestBack K (reverse_aux (take (suc i) vs) ws) ts × (top ts ≡ get_or ms i 0)) →
      Marked K (reverse_aux vs ws) (reverse_aux ms ks)
  marked_aux [] ws [] ks e p q k each = k
  marked_aux [] ws (m ∷ ms) ks e p q k each = absurd (omega arith)
  marked_aux (v ∷ vs) ws [] ks e p q k each = absurd (omega arith)
  marked_aux (v ∷ vs) ws (m ∷ ms) ks e p q k each =
      let r = each 0 (omega arith) in
      marked_aux vs (v ∷ ws) ms (m ∷ ks) (omega arith) p.1 (p.0, q) (mark_of v ws ks r.0 m (p.0, q) k r.1 r.2, k)
      (λ i h. each (suc i) (omega arith))

  pub marks_marked : (vs : List (Visit E)) (ms : List ℕ) → Bends K vs → Marks K vs ms → Marked K (reverse vs) (reverse ms)
  marks_marked vs ms p marks = marked_aux vs [] ms [] marks.many p tt tt each
    where
      each : (i : ℕ) → i < length vs → (ts : List ℕ) × BestBack K (reverse (take (suc i) vs)) ts × (top ts ≡ get_or ms i 0)
      each i h =
          let r = marks.each i h in
          let long : length r.0 ≡ suc i = omega (arith, fits_length 0 (take (suc i) vs) r.0 r.1.serves, length-take (suc i) vs) in
          (reverse r.0, best_back (take (suc i) vs) r.0 r.1, top_final r.0 [] ∙ final_at 0 i r.0 long ∙ r.2)

  marked_rest : (vs ws : List (Visit E)) (ms ks : List ℕ) → length ms ≡ length vs → Marked K (reverse_aux vs ws) (reverse_aux ms ks) → Marked K ws ks
  marked_rest [] ws [] ks e k = k
  marked_rest [] ws (m ∷ ms) ks e k = absurd (omega arith)
  marked_rest (v ∷ vs) ws [] ks e k = absurd (omega arith)
  marked_rest (v ∷ vs) ws (m ∷ ms) ks e k = (marked_rest vs (v ∷ ws) ms (m ∷ ks) (omega arith) k).1

  marked_front : (i : ℕ) (vs ws : List (Visit E)) (ms ks : List ℕ) → length ms ≡ length vs → Marked K (reverse_aux vs ws) (reverse_aux ms ks) → Marked K (reverse_aux (take i vs) ws) (reverse_aux (take i ms) ks)
  marked_front zero vs ws ms ks e k = marked_rest vs ws ms ks e k
  marked_front (suc i) [] ws [] ks e k = k
  marked_front (suc i) [] ws (m ∷ ms) ks e k = absurd (omega arith)
  marked_front (suc i) (v ∷ vs) ws [] ks e k = absurd (omega arith)
  marked_front (suc i) (v ∷ vs) ws (m ∷ ms) ks e k = marked_front i vs (v ∷ ws) ms (m ∷ ks) (omega arith) k

  marked_best : (vs : List (Visit E)) (ms : List ℕ) → length ms ≡ length vs → Bends K vs → Marked K (reverse vs) (reverse ms) → Best K vs (latest vs ms (final 0 ms))
  marked_best vs ms e p k =
      let same : fill (reverse vs) (reverse ms) (top (reverse ms)) ≡ reverse (latest vs ms (final 0 ms)) = ap (fill (reverse vs) (reverse ms)) (top_final ms []) ∙ latest_fill (final 0 ms) vs ms e in
      best_forward K vs (latest vs ms (final 0 ms)) (subst (BestBack K (reverse vs)) same (fill_best K (reverse vs) (reverse ms) (bends_back K vs p) k))

  -- a best timetable serves the last stop at its mark
  latest_final : (p u : ℕ) (vs : List (Visit E)) (ms : List ℕ) → length ms ≡ length vs → final p ms ≤ u → final p (latest vs ms u) ≡ final p ms
  latest_final p u [] [] e h = refl
  latest_final p u [] (m ∷ ms) e h = absurd (omega arith)
  latest_final p u (v ∷ vs) [] e h = absurd (omega arith)
  latest_final p u (v ∷ []) (m ∷ []) e h = omega arith
  latest_final p u (v ∷ []) (m ∷ n ∷ ms) e h = absurd (omega arith)
  latest_final p u (v ∷ w ∷ vs) (m ∷ []) e h = absurd (omega arith)
  latest_final p u (v ∷ w ∷ vs) (m ∷ n ∷ ms) e h = latest_final p u (w ∷ vs) (n ∷ ms) (omega arith) h

  pub bends_take : (i : ℕ) (vs : List (Visit E)) → Bends K vs → Bends K (take i vs)
  bends_take zero vs p = tt
  bends_take (suc i) [] p = tt
  bends_take (suc i) (v ∷ vs) p = (p.0, bends_take i vs p.1)

  pub marked_marks : (vs : List (Visit E)) (ms : List ℕ) → length ms ≡ length vs → Bends K vs → Marked K (reverse vs) (reverse ms) → Marks K vs ms
  marked_marks vs ms e p k = record { many = e; each = each }
    where
      each : (i : ℕ) → i < length vs → Mark K vs i (get_or ms i 0)
      each i h =
          let ws : List (Visit E) = take (suc i) vs in
          let ks : List ℕ = take (suc i) ms in
          let long : length ws ≡ suc i = omega (arith, length-take (suc i) vs) in
          let many : length ks ≡ suc i = omega (arith, length-take (suc i) ms) in
          let ts : List ℕ = latest ws ks (final 0 ks) in
          let best : Best K ws ts = marked_best ws ks (omega arith) (bends_take (suc i) vs p) (marked_front (suc i) vs [] ms [] e k) in
          let many-ts : length ts ≡ suc i = fits_length 0 ws ts best.serves ∙ long in
          (ts, best, sym (final_at 0 i ts many-ts) ∙ latest_final 0 (final 0 ks) ws ks (omega arith) (omega arith) ∙ final_at 0 i ks many ∙ get_or-take (suc i) ms i 0 (omega arith))

  -- the marks give the best timetable
  pub marks_best : (vs : List (Visit E)) (ms : List ℕ) → Bends K vs → Marks K vs ms → Best K vs (minutes vs ms)
  marks_best vs ms p marks =
      subst (Best K vs) (latest_minutes 0 (final 0 ms) vs ms marks.many (omega arith)) (marked_best vs ms marks.many p (marks_marked vs ms p marks))

  -- and the best one up to any minute that can be kept
  pub marks_bounded : (u : ℕ) (vs : List (Visit E)) (ms us : List ℕ) → Bends K vs → Marks K vs ms → Timetable vs us → final 0 us ≤ u → BestBy K u vs (latest vs ms u)
  marks_bounded u vs ms us p marks h k =
      let r : reach (reverse vs) ≤ u = omega (arith, within_reach (final 0 us) (reverse vs) (reverse us) (feasible_back vs us h)) in
      best_up_to u vs (latest vs ms u) (subst (BackBy K u (reverse vs)) (latest_fill u vs ms marks.many) (fill_best_by K u (reverse vs) (reverse ms) (bends_back K vs p) (marks_marked vs ms p marks) r))

  marked_length : (vs : List (Visit E)) (ms : List ℕ) → Marked K vs ms → length ms ≡ length vs
  marked_length [] [] k = refl
  marked_length [] (m ∷ ms) k = absurd k
  marked_length (v ∷ vs) [] k = absurd k
  marked_length (v ∷ vs) (m ∷ ms) k = ap suc (marked_length vs ms k.1)

  -- a route with a timetable has marks
  pub marks_there : (vs : List (Visit E)) (us : List ℕ) → Bends K vs → Timetable vs us → (ms : List ℕ) × Marks K vs ms
  marks_there vs us p h =
      let r = marks_exist K (reverse vs) (within_open (final 0 us) (reverse vs) (reverse us) (feasible_back vs us h)) in
      let ms : List ℕ = reverse r.0 in
      let many : length ms ≡ length vs = length-reverse r.0 ∙ marked_length (reverse vs) r.0 r.1 ∙ length-reverse vs in
      (ms, marked_marks vs ms many p (subst (Marked K (reverse vs)) (sym (reverse-reverse r.0)) r.1))

  -- and a best timetable
  pub best_there : (vs : List (Visit E)) (us : List ℕ) → Bends K vs → Timetable vs us → (ts : List ℕ) × Best K vs ts
  best_there vs us p h =
      let r = marks_there vs us p h in
      (minutes vs r.0, marks_best vs r.0 p r.1)

  pub mark_one : (vs : List (Visit E)) (i s t : ℕ) → Mark K vs i s → Mark K vs i t → s ≡ t
  mark_one vs i s t p q = sym p.2 ∙ ap (λ ts. get_or ts i 0) (best_one (take (suc i) vs) p.0 q.0 p.1 q.1) ∙ q.2

  -- the marks of the first n stops are the first n marks
  pub marks_take : (vs : List (Visit E)) (ms : List ℕ) (n : ℕ) → Marks K vs ms → Marks K (take n vs) (take n ms)
  marks_take vs ms n marks = record { many = length-take n ms ∙ ap (min n) marks.many ∙ sym (length-take n vs); each = each }
    where
      each : (i : ℕ) → i < length (take n vs) → Mark K (take n vs) i (get_or (take n ms) i 0)
      each i h =
          let k : (i < n) × (i < length vs) = (omega (arith, length-take n vs), omega (arith, length-take n vs)) in
          let m = marks.each i k.1 in
          (m.0, subst (λ z. Best K z m.0) (sym (take-take (suc i) n vs k.0)) m.1, m.2 ∙ sym (get_or-take n ms i 0 k.0))

  -- there is one list of marks
  pub marks_one : (vs : List (Visit E)) (ms ns : List ℕ) → Marks K vs ms → Marks K vs ns → ms ≡ ns
  marks_one vs ms ns p q = early_antisym ms ns (at_early ms ns (p.many ∙ sym q.many) (λ i. omega (arith, same i))) (at_early ns ms (q.many ∙ sym p.many) (λ i. omega (arith, same i)))
    where
      same : (i : ℕ) → get_or ms i 0 ≡ get_or ns i 0
      same i = elim (dec_le (suc i) (length vs)) [
        | yes h ↦ mark_one vs i (get_or ms i 0) (get_or ns i 0) (p.each i h) (q.each i h)
        | no h ↦ get_or_past ms i 0 (omega (arith, p.many)) ∙ sym (get_or_past ns i 0 (omega (arith, q.many)))
      ]
