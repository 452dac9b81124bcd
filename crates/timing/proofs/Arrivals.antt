-- The soonest minutes, one stop further. Assumes nothing.
use Rattle.std.proofs.Common.{◌≡◌, ℕ, suc, ◌+◌, ◌-◌, ◌<◌, ◌≤◌, min, max, ◌↔◌, List, length, take, Some, None, sym, ap, ◌∙◌, subst, add-one, arith, take_all}
use Rattle.std.proofs.Math.Decide.{dec_le}
use Rattle.std.proofs.lemmas.Bool.Decides.{nat_tests}
use Rattle.cost.specs.Algebra.{Algebra}
use Rattle.timing.specs.Visits.{Visit, at}
use Rattle.timing.specs.Timetables.{Timetable, Feasible}
use Rattle.timing.specs.Reach.{soon, Reaches, arrive, reached, served, BlockedAt}
use Rattle.timing.proofs.Theorems.{feasible_reaches}
use Rattle.timing.proofs.Neighbours.{arrive_step, reaches_step}

module _ {E : Type 0} (p : ℕ) (v : Visit E) where
  pub served_some : (t : ℕ) → Some t ≡ served p v → (t ≡ soon p v) × (soon p v ≤ v.last)
  served_some t e = grind (arith, nat_tests)

  pub served_none : None ≡ served p v → v.last < soon p v
  served_none e = grind (arith, nat_tests)

module _ {E : Type 0} (K : Algebra E) (vs : List (Visit E)) (i : ℕ) (h : i < length vs) where
  pub arrive_next : arrive 0 (take (i + 1) vs) ≡ soon (arrive 0 (take i vs)) (at K vs i)
  arrive_next = ap (λ n. arrive 0 (take n vs)) (add-one i) ∙ arrive_step 0 i vs _ h

  reaches_next : Reaches 0 (take (suc i) vs) ↔ (Reaches 0 (take i vs) × (soon (arrive 0 (take i vs)) (at K vs i) ≤ (at K vs i).last))
  reaches_next = reaches_step 0 i vs _ h

  pub serves_on : (p t : ℕ) → p ≡ arrive 0 (take i vs) → Reaches 0 (take i vs) → Some t ≡ served p (at K vs i) → (t ≡ arrive 0 (take (i + 1) vs)) × Reaches 0 (take (i + 1) vs)
  serves_on p t e r s =
      let q = served_some p (at K vs i) t s in
      let k : soon (arrive 0 (take i vs)) (at K vs i) ≤ (at K vs i).last = subst (λ x. soon x (at K vs i) ≤ (at K vs i).last) e q.1 in
      (q.0 ∙ ap (λ x. soon x (at K vs i)) e ∙ sym arrive_next, subst (λ n. Reaches 0 (take n vs)) (sym (add-one i)) (reaches_next.1 (r, k)))

  pub blocked_here : (p : ℕ) → p ≡ arrive 0 (take i vs) → Reaches 0 (take i vs) → None ≡ served p (at K vs i) → BlockedAt vs (i + 1)
  blocked_here p e r s =
      let late : (at K vs i).last < soon p (at K vs i) = served_none p (at K vs i) s in
      let d : i ≡ i + 1 - 1 = omega arith in
      record {
        from = omega arith;
        to = omega arith;
        before = subst (λ n. Feasible (take n vs)) d ((feasible_reaches (take i vs)).1 r);
        none = λ ts f.
            let q = (reaches_next.0 ((feasible_reaches (take (suc i) vs)).0 (ts, subst (λ n. Timetable (take n vs) ts) (add-one i) f))).1 in
            let k : soon p (at K vs i) ≤ (at K vs i).last = subst (λ x. soon x (at K vs i) ≤ (at K vs i).last) (sym e) q in
            omega arith;
      }

pub all_served : {E : Type 0} (vs : List (Visit E)) (i : ℕ) → length vs ≤ i → Reaches 0 (take i vs) → Feasible vs
all_served vs i h r = (feasible_reaches vs).1 (subst (Reaches 0) (take_all i vs h) r)

module _ {E : Type 0} (vs : List (Visit E)) where
  -- past the last stop no minute is added
  pub reached_all : (n : ℕ) → reached vs n ≡ reached vs (min n (length vs))
  reached_all n = elim (dec_le n (length vs)) [
    | yes h ↦ ap (reached vs) (omega arith)
    | no h ↦ ap (λ ws. min (arrive 0 ws) 65535) (take_all n vs (omega arith) ∙ sym (take_all (min n (length vs)) vs (omega arith)))
  ]

  pub reached_next : (K : Algebra E) (i : ℕ) → i < length vs → reached vs (i + 1) ≡ min (max (at K vs i).first (reached vs i + (at K vs i).leg)) 65535
  reached_next K i h = omega (arith, arrive_next K vs i h)
