-- The first stop up to which no timetable exists. Assumes nothing.
use Rattle.std.proofs.Common.{◌≡◌, ℕ, zero, suc, ◌+◌, ◌-◌, ◌<◌, ◌≤◌, Bool, true, false, cond, leb, List, [], ◌∷◌, length, take, Some, None, Option, sym, refl, ap, subst, arith, take-take}
use Rattle.std.proofs.Math.Decide.{dec_le}
use Rattle.std.proofs.lemmas.Bool.{leb-true, leb-false}
use Rattle.timing.specs.Visits.{Visit}
use Rattle.timing.specs.Timetables.{Fits, Feasible}
use Rattle.timing.specs.Reach.{soon, Reaches, missed, BlockedAt, Blocked}
use Rattle.timing.proofs.Theorems.{feasible_reaches}

module _ {E : Type 0} where
  fits_take : (i p : ℕ) (vs : List (Visit E)) (ts : List ℕ) → Fits p vs ts → Fits p (take i vs) (take i ts)
  fits_take zero p vs ts h = tt
  fits_take (suc i) p [] [] h = tt
  fits_take (suc i) p [] (t ∷ ts) h = absurd h
  fits_take (suc i) p (v ∷ vs) [] h = absurd h
  fits_take (suc i) p (v ∷ vs) (t ∷ ts) h = (h.0, h.1, h.2, fits_take i t vs ts h.3)

  -- who can serve all can serve the first i
  pub feasible_take : (i : ℕ) (vs : List (Visit E)) → Feasible vs → Feasible (take i vs)
  feasible_take i vs h = (take i h.0, fits_take i 0 vs h.0 h.1)

  pub feasible_less : (i j : ℕ) (vs : List (Visit E)) → i ≤ j → Feasible (take j vs) → Feasible (take i vs)
  feasible_less i j vs h k = subst Feasible (take-take i j vs h) (feasible_take i (take j vs) k)

  -- stop number f, numbered from n, is the first past its window
  First : ℕ → List (Visit E) → ℕ → ℕ → Type 0
  First p vs n f = (n ≤ f) × (f < n + length vs) × Reaches p (take (f - n) vs) × (Reaches p (take (suc (f - n)) vs) → ⊥)

  Finds : ℕ → List (Visit E) → ℕ → Option ℕ → Type 0
  Finds p vs n None = Reaches p vs
  Finds p vs n (Some f) = First p vs n f

  finds_next : (p : ℕ) (v : Visit E) (vs : List (Visit E)) (n : ℕ) (r : Option ℕ) → soon p v ≤ v.last → Finds (soon p v) vs (n + 1) r → Finds p (v ∷ vs) n r
  unfolding First Finds
  finds_next p v vs n None h k = (h, k)
  finds_next p v vs n (Some f) h k =
      let e : suc (f - (n + 1)) ≡ f - n = omega arith in (
        omega arith,
        omega arith,
        subst (λ i. Reaches p (take i (v ∷ vs))) e (h, k.2),
        (λ q. k.3 (subst (λ i. Reaches p (take (suc i) (v ∷ vs))) (sym e) q).1),
      )

  finds_missed : (p : ℕ) (vs : List (Visit E)) (n : ℕ) → Finds p vs n (missed p vs n)
  unfolding First Finds
  finds_missed p [] n = tt
  finds_missed p (v ∷ vs) n = go (leb (soon p v) v.last) refl (finds_missed (soon p v) vs (n + 1))
    where
      go : (b : Bool) → leb (soon p v) v.last ≡ b → Finds (soon p v) vs (n + 1) (missed (soon p v) vs (n + 1)) → Finds p (v ∷ vs) n (cond b (missed (soon p v) vs (n + 1)) (Some n))
      go true e rest = finds_next p v vs n (missed (soon p v) vs (n + 1)) (leb-true (soon p v) v.last e) rest
      go false e rest =
          let z : 0 ≡ n - n = omega arith in
          let late : v.last < soon p v = leb-false (soon p v) v.last e in (
            omega arith,
            omega arith,
            subst (λ i. Reaches p (take i (v ∷ vs))) z tt,
            (λ q. let r : soon p v ≤ v.last = (subst (λ i. Reaches p (take (suc i) (v ∷ vs))) (sym z) q).0 in omega arith),
          )

  finds_blocked : (vs : List (Visit E)) (r : Option ℕ) → Finds 0 vs 1 r → Blocked vs r
  unfolding First Finds
  finds_blocked vs None h = (feasible_reaches vs).1 h
  finds_blocked vs (Some f) h =
      let e : suc (f - 1) ≡ f = omega arith in
      record {
        from = h.0;
        to = omega arith;
        before = (feasible_reaches (take (f - 1) vs)).1 h.2;
        none = λ ts k. h.3 ((feasible_reaches (take (suc (f - 1)) vs)).0 (subst (λ i. Feasible (take i vs)) (sym e) (ts, k)));
      }

  pub missed_blocked : (vs : List (Visit E)) → Blocked vs (missed 0 vs 1)
  missed_blocked vs = finds_blocked vs (missed 0 vs 1) (finds_missed 0 vs 1)

  apart : (vs : List (Visit E)) (f g : ℕ) → BlockedAt vs f → BlockedAt vs g → f < g → ⊥
  apart vs f g p q h =
      let r = feasible_less f (g - 1) vs (omega arith) q.before in
      p.none r.0 r.1

  pub blocked_one : (vs : List (Visit E)) (r s : Option ℕ) → Blocked vs r → Blocked vs s → r ≡ s
  blocked_one vs None None p q = refl
  blocked_one vs None (Some g) p q = let r = feasible_take g vs p in absurd (q.none r.0 r.1)
  blocked_one vs (Some f) None p q = let r = feasible_take f vs q in absurd (p.none r.0 r.1)
  blocked_one vs (Some f) (Some g) p q = elim (dec_le f g) [
    | yes h ↦ elim (dec_le g f) [ yes k ↦ ap Some (omega arith) | no k ↦ absurd (apart vs f g p q (omega arith)) ]
    | no h ↦ absurd (apart vs g f q p (omega arith))
  ]
