-- From lists with the last stop first to lists in the order of service. Assumes nothing.
use Rattle.std.proofs.Common.{◌≡◌, ℕ, zero, suc, ◌-◌, ◌≤◌, List, [], ◌∷◌, reverse, length, get_or, sym, refl, ap, ◌∙◌, subst, subst₂, arith}
use mathlib.Core.List.{reverse_aux}
use Rattle.std.proofs.lemmas.List.{reverse-reverse}
use Rattle.cost.specs.Algebra.{Algebra, Most}
use Rattle.timing.specs.Visits.{Visit}
use Rattle.timing.specs.Convex.{Bends}
use Rattle.timing.specs.Timetables.{Fits, Timetable, bill}
use Rattle.timing.specs.Best.{Best, final}
use Rattle.timing.specs.Minutes.{cap, latest}
use Rattle.timing.proofs.Costs.{most_eq, plus_left_comm}
use Rattle.timing.specs.Back.{Within, Early, fill, top, BestBack}
use Rattle.timing.proofs.Back.{within_mono}

-- pointwise, by places
pub early_at : (ts us : List ℕ) → Early ts us → (i : ℕ) → get_or ts i 0 ≤ get_or us i 0
early_at [] [] h i = omega arith
early_at [] (u ∷ us) h i = absurd h
early_at (t ∷ ts) [] h i = absurd h
early_at (t ∷ ts) (u ∷ us) h zero = h.0
early_at (t ∷ ts) (u ∷ us) h (suc i) = early_at ts us h.1 i

pub at_early : (ts us : List ℕ) → length ts ≡ length us → ((i : ℕ) → get_or ts i 0 ≤ get_or us i 0) → Early ts us
at_early [] [] e h = tt
at_early [] (u ∷ us) e h = absurd (omega arith)
at_early (t ∷ ts) [] e h = absurd (omega arith)
at_early (t ∷ ts) (u ∷ us) e h = (h 0, at_early ts us (omega arith) (λ i. h (suc i)))

early_aux : (ts us ps qs : List ℕ) → Early ts us → Early ps qs → Early (reverse_aux ts ps) (reverse_aux us qs)
early_aux [] [] ps qs h k = k
early_aux [] (u ∷ us) ps qs h k = absurd h
early_aux (t ∷ ts) [] ps qs h k = absurd h
early_aux (t ∷ ts) (u ∷ us) ps qs h k = early_aux ts us (t ∷ ps) (u ∷ qs) h.1 (h.0, k)

pub early_reverse : (ts us : List ℕ) → Early ts us → Early (reverse ts) (reverse us)
early_reverse ts us h = early_aux ts us [] [] h tt

pub early_unreverse : (ts us : List ℕ) → Early (reverse ts) (reverse us) → Early ts us
early_unreverse ts us h = subst₂ Early (reverse-reverse ts) (reverse-reverse us) (early_reverse (reverse ts) (reverse us) h)

pub top_final : (ts ps : List ℕ) → top (reverse_aux ts ps) ≡ final (top ps) ts
top_final [] ps = refl
top_final (t ∷ ts) ps = top_final ts (t ∷ ps)

pub final_at : (p i : ℕ) (ts : List ℕ) → length ts ≡ suc i → final p ts ≡ get_or ts i 0
final_at p i [] e = absurd (omega arith)
final_at p zero (t ∷ []) e = refl
final_at p zero (t ∷ s ∷ ts) e = absurd (omega arith)
final_at p (suc i) (t ∷ ts) e = final_at t i ts (omega arith)

-- what holds of every reversed list holds of every list
pub reversed : (P : List ℕ → Type 0) → ((us : List ℕ) → P (reverse us)) → (us : List ℕ) → P us
reversed P h us = subst P (reverse-reverse us) (h (reverse us))

module _ {E : Type 0} where
  pub fits_length : (p : ℕ) (vs : List (Visit E)) (ts : List ℕ) → Fits p vs ts → length ts ≡ length vs
  fits_length p [] [] h = refl
  fits_length p [] (t ∷ ts) h = absurd h
  fits_length p (v ∷ vs) [] h = absurd h
  fits_length p (v ∷ vs) (t ∷ ts) h = ap suc (fits_length t vs ts h.3)

  to_back : (p : ℕ) (vs : List (Visit E)) (ts : List ℕ) (ws : List (Visit E)) (ss : List ℕ) → Within p ws ss → Fits p vs ts → Within (final p ts) (reverse_aux vs ws) (reverse_aux ts ss)
  to_back p [] [] ws ss h k = h
  to_back p [] (t ∷ ts) ws ss h k = absurd k
  to_back p (v ∷ vs) [] ws ss h k = absurd k
  to_back p (v ∷ vs) (t ∷ ts) ws ss h k =
      to_back t vs ts (v ∷ ws) (t ∷ ss) (k.0, k.1, omega arith, omega arith, within_mono p (t - v.leg) ws ss (omega arith) h) k.3

  pub top_within : (u : ℕ) (ws : List (Visit E)) (ss : List ℕ) → Within u ws ss → top ss ≤ u
  top_within u [] [] h = omega arith
  top_within u [] (s ∷ ss) h = absurd h
  top_within u (w ∷ ws) [] h = absurd h
  top_within u (w ∷ ws) (s ∷ ss) h = h.2

  from_back : (u : ℕ) (ws : List (Visit E)) (ss : List ℕ) (vs : List (Visit E)) (ts : List ℕ) → Within u ws ss → Fits (top ss) vs ts → Fits 0 (reverse_aux ws vs) (reverse_aux ss ts)
  from_back u [] [] vs ts h k = k
  from_back u [] (s ∷ ss) vs ts h k = absurd h
  from_back u (w ∷ ws) [] vs ts h k = absurd h
  from_back u (w ∷ ws) (s ∷ ss) vs ts h k =
      let e : top ss ≤ s - w.leg = top_within (s - w.leg) ws ss h.4 in
      from_back (s - w.leg) ws ss (w ∷ vs) (s ∷ ts) h.4 (h.0, h.1, omega arith, k)

  pub feasible_back : (vs : List (Visit E)) (ts : List ℕ) → Timetable vs ts → Within (final 0 ts) (reverse vs) (reverse ts)
  feasible_back vs ts h = to_back 0 vs ts [] [] tt h

  pub back_feasible : (u : ℕ) (vs : List (Visit E)) (ts : List ℕ) → Within u (reverse vs) (reverse ts) → Timetable vs ts
  back_feasible u vs ts h = subst₂ (Fits 0) (reverse-reverse vs) (reverse-reverse ts) (from_back u (reverse vs) (reverse ts) [] [] h tt)

  -- the two ways to fill are one
  latest_aux : (u : ℕ) (vs ws : List (Visit E)) (ms ks : List ℕ) → length ms ≡ length vs →
      fill (reverse_aux vs ws) (reverse_aux ms ks) u ≡ reverse_aux (latest vs ms u) (fill ws ks (cap vs (latest vs ms u) u))
  latest_aux u [] ws [] ks e = refl
  latest_aux u [] ws (m ∷ ms) ks e = absurd (omega arith)
  latest_aux u (v ∷ vs) ws [] ks e = absurd (omega arith)
  latest_aux u (v ∷ vs) ws (m ∷ ms) ks e = latest_aux u vs (v ∷ ws) ms (m ∷ ks) (omega arith)

  pub latest_fill : (u : ℕ) (vs : List (Visit E)) (ms : List ℕ) → length ms ≡ length vs → fill (reverse vs) (reverse ms) u ≡ reverse (latest vs ms u)
  latest_fill u vs ms e = latest_aux u vs [] ms [] e

module _ {E : Type 0} (K : Algebra E) where
  open K use {nought, plus}

  bends_aux : (vs ws : List (Visit E)) → Bends K vs → Bends K ws → Bends K (reverse_aux vs ws)
  bends_aux [] ws h k = k
  bends_aux (v ∷ vs) ws h k = bends_aux vs (v ∷ ws) h.1 (h.0, k)

  pub bends_back : (vs : List (Visit E)) → Bends K vs → Bends K (reverse vs)
  bends_back vs h = bends_aux vs [] h tt

  bill_aux : (p : ℕ) (vs : List (Visit E)) (ts : List ℕ) (ws : List (Visit E)) (ss : List ℕ) → Fits p vs ts → bill K (reverse_aux vs ws) (reverse_aux ts ss) ≡ plus (bill K vs ts) (bill K ws ss)
  bill_aux p [] [] ws ss h = sym (K.nought_plus _)
  bill_aux p [] (t ∷ ts) ws ss h = absurd h
  bill_aux p (v ∷ vs) [] ws ss h = absurd h
  bill_aux p (v ∷ vs) (t ∷ ts) ws ss h =
      bill_aux t vs ts (v ∷ ws) (t ∷ ss) h.3 ∙ plus_left_comm K _ _ _ ∙ sym (K.plus_assoc _ _ _)

  pub bill_back : (vs : List (Visit E)) (ts : List ℕ) → Timetable vs ts → bill K (reverse vs) (reverse ts) ≡ bill K vs ts
  bill_back vs ts h = bill_aux 0 vs ts [] [] h ∙ K.plus_comm _ _ ∙ K.nought_plus _

  pub best_forward : (vs : List (Visit E)) (ts : List ℕ) → BestBack K (reverse vs) (reverse ts) → Best K vs ts
  best_forward vs ts best = record { serves = serves; least = least; early = early }
    where
      serves : Timetable vs ts
      serves = back_feasible best.serves.0 vs ts best.serves.1

      least : (us : List ℕ) → Timetable vs us → Most K (bill K vs ts) (bill K vs us)
      least us h = subst₂ (Most K) (bill_back vs ts serves) (bill_back vs us h) (best.least (final 0 us) (reverse us) (feasible_back vs us h))

      early : (us : List ℕ) → Timetable vs us → bill K vs us ≡ bill K vs ts → (i : ℕ) → get_or ts i 0 ≤ get_or us i 0
      early us h e i =
          early_at ts us (early_unreverse ts us (best.early (final 0 us) (reverse us) (feasible_back vs us h) (most_eq K (bill_back vs us h ∙ e ∙ sym (bill_back vs ts serves))))) i
