-- The minutes that marks give, and their bill, one stop at a time. Assumes nothing.
use Rattle.std.proofs.Common.{◌≡◌, ℕ, zero, suc, ◌+◌, ◌-◌, ◌*◌, ◌^◌, ◌<◌, ◌≤◌, min, List, [], ◌∷◌, length, get_or, drop, sym, refl, ap, ◌∙◌, subst, add-one, arith}
use Rattle.std.proofs.lemmas.List.{drop_all, get_or_past}
use Rattle.std.proofs.Math.Numerals.{unary_clauses}
use Rattle.cost.specs.Algebra.{Algebra}
use Rattle.timing.specs.Visits.{Visit, at}
use Rattle.timing.specs.Timetables.{Fits, bill}
use Rattle.timing.specs.Minutes.{minutes}
use Rattle.timing.specs.Sound.{Small}
use Rattle.timing.specs.Charges.{Served, charged}
use Rattle.timing.proofs.Forward.{fits_length}

-- p is what stop i costs at minute t, if it can be served then
abbrev pub Priced : {E : Type 0} → Algebra E → List (Visit E) → ℕ → ℕ → E → Type 0
Priced K vs i t p = (at K vs i).first ≤ t → t ≤ (at K vs i).last → p ≡ (at K vs i).price t

-- the sums of costs that are not too large are exact
abbrev pub IsExact : {E : Type 0} → Algebra E → (E → E → E) → Type 0
IsExact K sum = (a b : _) → K.size a + K.size b ≤ 2 ^ 50 → sum a b ≡ K.plus a b

module _ {E : Type 0} where
  pub minutes_length : (vs : List (Visit E)) (ms : List ℕ) → length (minutes vs ms) ≡ min (length vs) (length ms)
  minutes_length [] ms = omega arith
  minutes_length (v ∷ vs) [] = omega arith
  minutes_length (v ∷ vs) (m ∷ ms) = omega (arith, minutes_length vs ms)

  pub minutes_past : (vs : List (Visit E)) (ms : List ℕ) (k : ℕ) → min (length vs) (length ms) ≤ k → get_or (minutes vs ms) k 0 ≡ 0
  minutes_past vs ms k h = get_or_past (minutes vs ms) k 0 (omega (arith, minutes_length vs ms))

  -- the last stop that has a mark is served then
  pub minutes_last : (vs : List (Visit E)) (ms : List ℕ) (j : ℕ) → j < length vs → j < length ms → min (length vs) (length ms) ≤ suc j → get_or (minutes vs ms) j 0 ≡ get_or ms j 0
  minutes_last [] ms j p q h = absurd (omega arith)
  minutes_last (v ∷ vs) [] j p q h = absurd (omega arith)
  minutes_last (v ∷ []) (m ∷ ms) zero p q h = refl
  minutes_last (v ∷ w ∷ vs) (m ∷ []) zero p q h = refl
  minutes_last (v ∷ w ∷ vs) (m ∷ n ∷ ms) zero p q h = absurd (omega arith)
  minutes_last (v ∷ vs) (m ∷ ms) (suc j) p q h = minutes_last vs ms j (omega arith) (omega arith) (omega arith)

  pub minutes_step : (K : Algebra E) (vs : List (Visit E)) (ms : List ℕ) (j : ℕ) → j + 1 < min (length vs) (length ms) → get_or (minutes vs ms) j 0 ≡ min (get_or ms j 0) (get_or (minutes vs ms) (j + 1) 0 - (at K vs (j + 1)).leg)
  minutes_step K [] ms j h = absurd (omega arith)
  minutes_step K (v ∷ vs) [] j h = absurd (omega arith)
  minutes_step K (v ∷ []) (m ∷ ms) zero h = absurd (omega arith)
  minutes_step K (v ∷ w ∷ vs) (m ∷ []) zero h = absurd (omega arith)
  minutes_step K (v ∷ w ∷ vs) (m ∷ n ∷ ms) zero h = refl
  minutes_step K (v ∷ vs) (m ∷ ms) (suc j) h = simp unary_clauses (simp unary_clauses at (minutes_step K vs ms j (omega arith)))

module _ {E : Type 0} (K : Algebra E) where
  pub fits_at : (p : ℕ) (vs : List (Visit E)) (ts : List ℕ) (j : ℕ) → Fits p vs ts → j < length vs → ((at K vs j).first ≤ get_or ts j 0) × (get_or ts j 0 ≤ (at K vs j).last)
  fits_at p [] ts j f h = absurd (omega arith)
  fits_at p (v ∷ vs) [] j f h = absurd f
  fits_at p (v ∷ vs) (t ∷ ts) zero f h = (f.0, f.1)
  fits_at p (v ∷ vs) (t ∷ ts) (suc j) f h = fits_at t vs ts j f.3 (omega arith)

  pub bill_step : (p : ℕ) (vs : List (Visit E)) (ts : List ℕ) (j : ℕ) → Fits p vs ts → j < length vs → bill K (drop j vs) (drop j ts) ≡ K.plus ((at K vs j).price (get_or ts j 0)) (bill K (drop (suc j) vs) (drop (suc j) ts))
  bill_step p [] ts j f h = absurd (omega arith)
  bill_step p (v ∷ vs) [] j f h = absurd f
  bill_step p (v ∷ vs) (t ∷ ts) zero f h = refl
  bill_step p (v ∷ vs) (t ∷ ts) (suc j) f h = bill_step t vs ts j f.3 (omega arith)

  pub small_at : (vs : List (Visit E)) (j t : ℕ) → Small K vs → (at K vs j).first ≤ t → t ≤ (at K vs j).last → K.size ((at K vs j).price t) ≤ 2 ^ 40
  small_at [] j t s h k = absurd (omega arith)
  small_at (v ∷ vs) zero t s h k = s.0 t h k
  small_at (v ∷ vs) (suc j) t s h k = small_at vs j t s.1 h k

  pub priced_small : (vs : List (Visit E)) (j t : ℕ) (p : E) → Small K vs → (at K vs j).first ≤ t → t ≤ (at K vs j).last → Priced K vs j t p → K.size p ≤ 2 ^ 40
  priced_small vs j t p s h k pp = rw (pp h k) (small_at vs j t s h k)

  pub bill_size : (p : ℕ) (vs : List (Visit E)) (ts : List ℕ) → Small K vs → Fits p vs ts → K.size (bill K vs ts) ≤ length vs * 2 ^ 40
  bill_size p [] ts s f = omega (arith, K.size_nought)
  bill_size p (v ∷ vs) [] s f = absurd f
  bill_size p (v ∷ vs) (t ∷ ts) s f =
      omega (arith, K.size_plus (v.price t) (bill K vs ts), bill_size t vs ts s.1 f.3, s.0 t f.0 f.1)

  rest_size : (p : ℕ) (vs : List (Visit E)) (ts : List ℕ) (j : ℕ) → Small K vs → Fits p vs ts → K.size (bill K (drop j vs) (drop j ts)) ≤ (length vs - j) * 2 ^ 40
  rest_size p vs ts zero s f = omega (arith, bill_size p vs ts s f)
  rest_size p [] ts (suc j) s f = omega (arith, K.size_nought)
  rest_size p (v ∷ vs) [] (suc j) s f = absurd f
  rest_size p (v ∷ vs) (t ∷ ts) (suc j) s f = omega (arith, rest_size t vs ts j s.1 f.3)

  pub bill_past : (vs : List (Visit E)) (ts : List ℕ) (j : ℕ) → length vs ≤ j → bill K (drop j vs) ts ≡ K.nought
  bill_past [] ts zero h = refl
  bill_past [] ts (suc j) h = refl
  bill_past (v ∷ vs) ts zero h = absurd (omega arith)
  bill_past (v ∷ vs) ts (suc j) h = bill_past vs ts j (omega arith)

  module _ (vs : List (Visit E)) (ms : List ℕ) (s : Served K vs ms) where
    served_length : length vs ≤ length ms
    served_length = omega (arith, minutes_length vs ms, fits_length 0 vs (minutes vs ms) s.timetable)

    pub charged_none : (j : ℕ) → j ≡ min (length vs) (length ms) → charged K vs ms j ≡ K.nought
    charged_none j e = ap (λ ws. bill K ws (drop j (minutes vs ms))) (drop_all j vs (omega (arith, served_length)))

    module _ (j t : ℕ) (h : j < length vs) (e : t ≡ get_or (minutes vs ms) j 0) where
      inside : ((at K vs j).first ≤ t) × (t ≤ (at K vs j).last)
      inside = subst (λ x. ((at K vs j).first ≤ x) × (x ≤ (at K vs j).last)) (sym e) (fits_at 0 vs (minutes vs ms) j s.timetable h)

      step : K.plus ((at K vs j).price t) (charged K vs ms (j + 1)) ≡ charged K vs ms j
      step = rw (add-one, e) (sym (bill_step 0 vs (minutes vs ms) j s.timetable h))

      -- the sum is exact
      small : K.size ((at K vs j).price t) + K.size (charged K vs ms (j + 1)) ≤ 2 ^ 50
      small =
          omega (arith, s.sound.few, small_at vs j t s.sound.small inside.0 inside.1, rest_size 0 vs (minutes vs ms) (j + 1) s.sound.small s.timetable)

      -- what stop j costs, added to what those after it cost
      pub charged_more : (sum : E → E → E) → IsExact K sum → (p total : E) → Priced K vs j t p → total ≡ charged K vs ms (j + 1) → sum p total ≡ charged K vs ms j
      charged_more sum exact p total pp et =
          let ep = pp inside.0 inside.1 in
          rw (ep, et) (exact ((at K vs j).price t) (charged K vs ms (j + 1)) small ∙ step)
