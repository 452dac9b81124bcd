-- Steps that never fall over bends, never fall over minutes. Assumes nothing.
use Rattle.std.proofs.Common.{◌≡◌, ℕ, zero, suc, ◌+◌, ◌-◌, ◌<◌, ◌≤◌, Bool, true, false, cond, leb, List, [], ◌∷◌, Some, IfSome, slice_get, ℤ, ◌+ℤ◌, ◌≤ℤ◌, sym, refl, ap, ◌∙◌, add-one, arith}
use Rattle.std.specs.Int.{int_min}
use Rattle.std.proofs.lemmas.Int.{ints}
use Rattle.std.proofs.lemmas.Bool.{leb-true, le-leb, lt-leb, cond-true, cond-false}
use Rattle.bend_book.specs.Bends.{step_after, step_at, cost_after, lowest_after}
use Rattle.bend_book.specs.declared.bend.Bend.{Bend}

abbrev pub Rising : ℤ → List Bend → Type 0
Rising s [] = Unit {0}
Rising s (b ∷ bs) = (s ≤ℤ b.step) × Rising b.step bs

weaker : (bs : List Bend) (s t : ℤ) → s ≤ℤ t → Rising t bs → Rising s bs
weaker [] s t h r = tt
weaker (b ∷ bs) s t h r = (omega (arith, ints, r.0), r.1)

at_mono : (bs : List Bend) (s t x : ℤ) (u v : ℕ) (p q : Bool)
    → ((s t : ℤ) → s ≤ℤ t → Rising t bs → step_after s bs u ≤ℤ step_after t bs v)
    → s ≤ℤ t → t ≤ℤ x → Rising x bs → (p ≡ true → q ≡ true) → step_after (cond p x s) bs u ≤ℤ step_after (cond q x t) bs v
at_mono bs s t x u v true true go h k r i = go x x (omega (arith, ints)) r
at_mono bs s t x u v false true go h k r i = go s x (omega (arith, ints)) r
at_mono bs s t x u v false false go h k r i = go s t h (weaker bs t x k r)
at_mono bs s t x u v true false go h k r i = let z : ◌≡◌ {A = ℕ} 0 1 = (let e = i refl in cc) in absurd (omega arith)

pub step_mono : (bs : List Bend) (s t : ℤ) (u v : ℕ) → u ≤ v → s ≤ℤ t → Rising t bs → step_after s bs u ≤ℤ step_after t bs v
step_mono [] s t u v l h r = h
step_mono (b ∷ bs) s t u v l h r =
    at_mono bs s t b.step u v (leb b.minute u) (leb b.minute v) (λ s t h r. step_mono bs s t u v l h r) h r.0 r.1 (λ e. le-leb _ _ (omega (arith, leb-true _ _ e)))

-- bends that all come later leave the step
pub unmoved : (bs : List Bend) (s : ℤ) (u : ℕ) → ((k : ℕ) → IfSome (slice_get bs k) (λ b. u < b.minute)) → step_after s bs u ≡ s
unmoved [] s u f = refl
unmoved (b ∷ bs) s u f = ap (λ (z : ℤ). step_after z bs u) (cond-false (leb b.minute u) b.step s (lt-leb _ _ (f 0))) ∙ unmoved bs s u (λ k. f (suc k))

-- the last bend that does not come later gives its own step
pub moved : (bs : List Bend) (s : ℤ) (u i : ℕ) (b : Bend) → slice_get bs i ≡ Some b → b.minute ≤ u → ((k : ℕ) → i < k → IfSome (slice_get bs k) (λ c. u < c.minute)) → step_after s bs u ≡ b.step
moved [] s u i b e h f = cc
moved (a ∷ bs) s u zero b e h f =
    let same : a ≡ b = cc in
    ap (λ (z : ℤ). step_after z bs u) (cond-true (leb a.minute u) a.step s (le-leb _ _ (omega (arith, ap (λ (c : Bend). c.minute) same)))) ∙ unmoved bs a.step u (λ k. f (suc k) (omega arith)) ∙ ap (λ (c : Bend). c.step) same
moved (a ∷ bs) s u (suc i) b e h f = moved bs (cond (leb a.minute u) a.step s) u i b e h (λ k l. f (suc k) (omega arith))

-- one minute more
pub cost_next : (start : ℕ) (bs : List Bend) (first n : ℕ) → cost_after start bs first (n + 1) ≡ cost_after start bs first n +ℤ step_at bs (first + n)
cost_next start bs first n = ap (cost_after start bs first) (add-one n)

pub cost_step : (start : ℕ) (bs : List Bend) (first u : ℕ) → first ≤ u → cost_after start bs first ((u + 1) - first) ≡ cost_after start bs first (u - first) +ℤ step_at bs u
cost_step start bs first u h =
    let e : (u + 1) - first ≡ (u - first) + 1 = omega arith in
    let f : first + (u - first) ≡ u = omega arith in
    ap (cost_after start bs first) e ∙ cost_next start bs first (u - first) ∙ ap (λ (v : ℕ). cost_after start bs first (u - first) +ℤ step_at bs v) f

pub lowest_step : (start : ℕ) (bs : List Bend) (first u : ℕ) → first ≤ u
    → lowest_after start bs first ((u + 1) - first) ≡ int_min (lowest_after start bs first (u - first)) (cost_after start bs first ((u + 1) - first))
lowest_step start bs first u h =
    let e : (u + 1) - first ≡ suc (u - first) = omega arith in
    ap (lowest_after start bs first) e ∙ ap (λ (n : ℕ). int_min (lowest_after start bs first (u - first)) (cost_after start bs first n)) (sym e)
