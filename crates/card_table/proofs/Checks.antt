-- Tests that a computation can make of stops and marks written out, and what they show.
use Rattle.std.proofs.Common.{◌≡◌, ℕ, ◌+◌, ◌-◌, Bool, true, false, not, ◌&&◌, ◌||◌, eqb, leb, List, [], ◌∷◌, reverse, length, Some, None, Ok, Err, subst, inl, inr, ⊎_elim, arith}
use Rattle.std.proofs.lemmas.Bool.{and_parts, or_cases, leb-true, eqb-true, not-true}
use Rattle.cost.specs.Algebra.{Algebra}
use Rattle.source.specs.Meaning.{Meaning}
use Rattle.timing.specs.Visits.{Visit}
use Rattle.timing.specs.Convex.{Bends}
use Rattle.timing.specs.Back.{reach, ending, Lowest, Marked}
use Rattle.timing.specs.Marks.{Marks}
use Rattle.timing.specs.Reach.{missed, Blocked}
use Rattle.timing.proofs.Curves.{lowest_local}
use Rattle.timing.proofs.Back.{ending_convex}
use Rattle.timing.proofs.Theorems.{marked_marks}
use Rattle.timing.proofs.Firsts.{missed_blocked}
use Rattle.route.specs.declared.stop.Splice.{Splice}
use Rattle.route.specs.declared.stop.Refusal.TheVariants.{NoTimetable}
use Rattle.route.specs.Plain.{Plain, spliced, visits}
use Rattle.route.specs.Judged.{objection, Judged, blocked, accepted}

module _ {E : Type 0} (K : Algebra E) where
  -- the mark lies in what is left of the window, costs less than a minute before and no more than a minute later
  abbrev pub mark_fits : Visit E → List (Visit E) → List ℕ → ℕ → Bool
  mark_fits v vs ms m =
      leb (reach (v ∷ vs)) m
      && (leb m v.last
      && ((eqb m (reach (v ∷ vs)) || K.less (ending K v vs ms m) (ending K v vs ms (m - 1)))
      && (eqb m v.last || not (K.less (ending K v vs ms (m + 1)) (ending K v vs ms m)))))

  -- of stops with the last one first
  abbrev pub marks_fit : List (Visit E) → List ℕ → Bool
  marks_fit [] [] = true
  marks_fit [] (m ∷ ms) = false
  marks_fit (v ∷ vs) [] = false
  marks_fit (v ∷ vs) (m ∷ ms) = mark_fits v vs ms m && marks_fit vs ms

  lowest : (v : Visit E) (vs : List (Visit E)) (ms : List ℕ) (m : ℕ) → Bends K (v ∷ vs) → Marked K vs ms → mark_fits v vs ms m ≡ true → Lowest K (ending K v vs ms) (reach (v ∷ vs)) v.last m
  lowest v vs ms m p k e =
      let a = and_parts _ _ e in
      let b = and_parts _ _ a.1 in
      let c = and_parts _ _ b.1 in
      lowest_local K (ending K v vs ms) (reach (v ∷ vs)) v.last (ending_convex K v vs ms p k) m (leb-true _ _ a.0) (leb-true _ _ b.0)
      (⊎_elim (λ x. inl (eqb-true _ _ x)) (λ x. inr x) (or_cases _ _ c.0))
      (⊎_elim (λ x. inl (eqb-true _ _ x)) (λ x. inr (not-true _ x)) (or_cases _ _ c.1))

  fit_marked : (vs : List (Visit E)) (ms : List ℕ) → Bends K vs → marks_fit vs ms ≡ true → Marked K vs ms
  fit_marked [] [] p e = tt
  fit_marked [] (m ∷ ms) p e = absurd (let z : ◌≡◌ {A = ℕ} 0 1 = cc in omega arith)
  fit_marked (v ∷ vs) [] p e = absurd (let z : ◌≡◌ {A = ℕ} 0 1 = cc in omega arith)
  fit_marked (v ∷ vs) (m ∷ ms) p e =
      let a = and_parts _ _ e in
      let k = fit_marked vs ms p.1 a.1 in
      (lowest v vs ms m p k a.0, k)

  pub marks_from : (vs : List (Visit E)) (ms : List ℕ) → length ms ≡ length vs → Bends K vs → Bends K (reverse vs) → marks_fit (reverse vs) (reverse ms) ≡ true → Marks K vs ms
  marks_from vs ms n p q e = marked_marks K vs ms n p (fit_marked (reverse vs) (reverse ms) q e)

  module _ (m : Meaning E) where
    -- no examination speaks against it, and no stop is missed
    pub accepts : (ps : List Plain) (s : Splice) → objection m ps s ≡ None → missed 0 (visits K m (spliced s ps)) 1 ≡ None → Judged K m ps s (Ok tt) (spliced s ps)
    accepts ps s e f = accepted e (subst (Blocked (visits K m (spliced s ps))) f (missed_blocked (visits K m (spliced s ps))))

    pub blocks : (ps : List Plain) (s : Splice) (n : ℕ) → objection m ps s ≡ None → missed 0 (visits K m (spliced s ps)) 1 ≡ Some n → Judged K m ps s (Err (NoTimetable n)) ps
    blocks ps s n e f = blocked n e (subst (Blocked (visits K m (spliced s ps))) f (missed_blocked (visits K m (spliced s ps))))
