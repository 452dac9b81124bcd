-- The search for the next mark. Assumes nothing.
use Rattle.std.proofs.Common.{◌≡◌, ℕ, suc, ◌+◌, ◌-◌, ◌<◌, ◌≤◌, Bool, true, false, not, ◌↔◌, List, [], ◌∷◌, reverse, length, get_or, take, sym, refl, ap, ◌∙◌, subst, add-one, arith, length-take, take-take}
use mathlib.Core.List.{reverse_aux}
use Rattle.std.proofs.lemmas.Bool.{not-true, not-false}
use Rattle.std.proofs.Math.Decide.{dec_le}
use Rattle.cost.specs.Algebra.{Algebra, Less, Most}
use Rattle.timing.specs.Visits.{Visit, nowhere, at}
use Rattle.cost.specs.Convex.{Convex}
use Rattle.timing.specs.Convex.{Bends}
use Rattle.timing.specs.Marks.{Mark}
use Rattle.timing.specs.Reach.{arrive, reached}
use Rattle.timing.specs.Moving.{back, block}
use Rattle.timing.specs.Ready.{Ready}
use Rattle.timing.specs.Narrowing.{Choice, Between, Halves}
use Rattle.timing.specs.Back.{Lowest, reach, ending, Marked, BestBack}
use Rattle.timing.proofs.Costs.{never}
use Rattle.timing.proofs.Curves.{falls, flat_stays}
use Rattle.timing.proofs.Back.{ending_convex}
use Rattle.timing.proofs.Forward.{bends_back, top_final, final_at, fits_length}
use Rattle.timing.proofs.Theorems.{feasible_reaches, best_back, mark_of, marks_there, bends_take}
use Rattle.timing.proofs.Neighbours.{reaches_step, arrive_step, mark_front}
use Rattle.timing.proofs.Block.{block_test}
use Rattle.timing.proofs.Searches.{marks_back}
use Rattle.timing.proofs.Steps.{reverse_take}

module _ {E : Type 0} where
  arrive_aux : (vs ws : List (Visit E)) → arrive (reach ws) vs ≡ reach (reverse_aux vs ws)
  arrive_aux [] ws = refl
  arrive_aux (v ∷ vs) ws = arrive_aux vs (v ∷ ws)

  -- the soonest minute of the last stop, read either way
  pub arrive_reach : (vs : List (Visit E)) → arrive 0 vs ≡ reach (reverse vs)
  arrive_reach vs = arrive_aux vs []

module _ {E : Type 0} (K : Algebra E) (vs : List (Visit E)) (ms : List ℕ) (r : Ready K vs ms) where
  next_back : back vs (suc (length ms)) ≡ at K vs (length ms) ∷ back vs (length ms)
  next_back = reverse_take vs (length ms) _ r.more

  next_bends : Bends K (at K vs (length ms) ∷ back vs (length ms))
  next_bends = subst (Bends K) next_back (bends_back K (take (suc (length ms)) vs) (bends_take K (suc (length ms)) vs r.sound.bends))

  pub next_marked : Marked K (back vs (length ms)) (back ms (length ms))
  next_marked = marks_back K vs ms r.sound.bends r.marks

  pub next_reach : arrive 0 (take (suc (length ms)) vs) ≡ reach (at K vs (length ms) ∷ back vs (length ms))
  next_reach = arrive_reach (take (suc (length ms)) vs) ∙ ap reach next_back

  pub next_inside : arrive 0 (take (suc (length ms)) vs) ≤ (at K vs (length ms)).last
  next_inside =
      let q = ((reaches_step 0 (length ms) vs (nowhere K) r.more).0 ((feasible_reaches (take (suc (length ms)) vs)).0 r.feasible)).1 in
      omega (arith, arrive_step 0 (length ms) vs (nowhere K) r.more)

  next_convex : Convex K (ending K (at K vs (length ms)) (back vs (length ms)) (back ms (length ms))) (reach (at K vs (length ms) ∷ back vs (length ms))) (at K vs (length ms)).last
  next_convex = ending_convex K (at K vs (length ms)) (back vs (length ms)) (back ms (length ms)) next_bends next_marked

  -- the mark is where the least cost by the last minute is lowest
  pub mark_lowest : (m : ℕ) → Mark K vs (length ms) m → Lowest K (ending K (at K vs (length ms)) (back vs (length ms)) (back ms (length ms))) (reach (at K vs (length ms) ∷ back vs (length ms))) (at K vs (length ms)).last m
  mark_lowest m mark =
      let n : ℕ = length ms in
      let ts : List ℕ = mark.0 in
      let best : BestBack K (at K vs n ∷ back vs n) (reverse ts) = subst (λ z. BestBack K z (reverse ts)) next_back (best_back K (take (suc n) vs) ts mark.1) in
      let more : n < length vs = r.more in
      let long : length ts ≡ suc n = omega (arith, fits_length 0 (take (suc n) vs) ts mark.1.serves, length-take (suc n) vs) in
      mark_of K (at K vs n) (back vs n) (back ms n) (reverse ts) m next_bends next_marked best (top_final ts [] ∙ final_at 0 n ts long ∙ mark.2)

  pub mark_there : (m : ℕ) × Mark K vs (length ms) m
  mark_there =
      let n : ℕ = length ms in
      let ws : List (Visit E) = take (suc n) vs in
      let all = marks_there K ws r.feasible.0 (bends_take K (suc n) vs r.sound.bends) r.feasible.1 in
      let more : n < length vs = r.more in
      let few : n < length ws = omega (arith, length-take (suc n) vs) in
      (get_or all.0 n 0, mark_front K ws vs n (get_or all.0 n 0) (take-take (suc n) (suc n) vs (omega arith)) (all.1.each n few))

  -- the test b tells on which side of t the mark lies
  abbrev Tells : ℕ → Bool → Type 0
  Tells t b = (m : ℕ) → Mark K vs (length ms) m → (b ≡ true → m ≤ t) × (b ≡ false → t < m)

  -- comparing the block at t and at t + 1 tells on which side of t the mark lies
  block_tells : (t : ℕ) → arrive 0 (take (suc (length ms)) vs) ≤ t → t < (at K vs (length ms)).last → (b : Bool) → b ≡ not (K.less (block K vs ms t).1 (block K vs ms t).0) → Tells t b
  block_tells t h k b e m mark = (λ q. below (not-true _ (sym e ∙ q)), λ q. above (not-false _ (sym e ∙ q)))
    where
      f : ℕ → E
      f = ending K (at K vs (length ms)) (back vs (length ms)) (back ms (length ms))

      low : Lowest K f (reach (at K vs (length ms) ∷ back vs (length ms))) (at K vs (length ms)).last m
      low = mark_lowest m mark

      soonest : reach (at K vs (length ms) ∷ back vs (length ms)) ≤ t
      soonest = subst (λ x. x ≤ t) next_reach h

      test : Most K (f t) (f (t + 1)) ↔ Most K (block K vs ms t).0 (block K vs ms t).1
      test = block_test K (at K vs (length ms)) (back vs (length ms)) (back ms (length ms)) t next_marked soonest

      below : Most K (block K vs ms t).0 (block K vs ms t).1 → m ≤ t
      below q = elim (dec_le m t) [
        | yes d ↦ d
        | no d ↦ absurd (never K (test.1 q) (falls K f _ _ next_convex m low t soonest (omega arith)))
      ]

      above : Less K (block K vs ms t).1 (block K vs ms t).0 → t < m
      above q = elim (dec_le m t) [
        | yes d ↦ absurd (never K (test.0 (flat_stays K f _ _ next_convex (t - m) m t (omega arith) low.from (omega arith) (low.least (m + 1) (omega (arith, low.from)) (omega arith)))) q)
        | no d ↦ omega arith
      ]

  -- with the block costing x at t and y at t + 1, the comparison narrows the bounds
  pub block_halves : (t : ℕ) (b : Bool) (x y : E) → (Choice K vs ms t → (x, y) ≡ block K vs ms t) → b ≡ not (K.less y x) → Halves K vs ms t b
  unfolding Between
  block_halves t b x y is e low high w h k =
      let choice : Choice K vs ms t = record { ready = r; from = omega (arith, w.from); to = omega (arith, w.to) } in
      let tells = block_tells t choice.from choice.to b (e ∙ ap (λ (p : E × E). not (K.less p.1 p.0)) (is choice)) in (
        λ q. record { from = w.from; to = omega (arith, w.to); mark = λ m mark. ((w.mark m mark).0, (tells m mark).0 q) },
        λ q. record { from = omega (arith, w.from); to = w.to; mark = λ m mark. let z = (tells m mark).1 q in (omega arith, (w.mark m mark).1) },
      )

  pub between_all : (low high : ℕ) → low ≡ reached vs (length ms + 1) → high ≡ (at K vs (length ms)).last → high ≤ 65535 → Between K vs ms low high
  unfolding Between
  between_all low high e d few =
      let e' : low ≡ reached vs (suc (length ms)) = e ∙ ap (reached vs) (add-one (length ms)) in
      let h = next_inside in
      record {
        from = omega arith;
        to = omega arith;
        mark = λ m mark. let l = mark_lowest m mark in (omega (arith, l.from, next_reach), omega (arith, l.to));
      }

  pub between_one : (low high : ℕ) → high ≤ low → Between K vs ms low high → Mark K vs (length ms) low
  unfolding Between
  between_one low high h b =
      let m = mark_there in
      let q = b.mark m.0 m.1 in
      subst (Mark K vs (length ms)) (omega arith) m.1
