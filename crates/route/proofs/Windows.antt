-- Answers depend on windows and legs alone: over two sources with the same windows, of whatever cost kinds, a splice is answered alike.
use Rattle.std.proofs.Common.{◌≡◌, ℕ, ◌+◌, ◌-◌, ◌≤◌, not, ◌||◌, leb, List, [], ◌∷◌, length, take, is_some, Some, None, Option, sym, refl, ap, ◌∙◌, subst, arith}
use Rattle.std.proofs.lemmas.List.{length-map, take-map}
use Rattle.cost.specs.Algebra.{Algebra}
use Rattle.source.specs.Meaning.{Curve, Meaning, span_of}
use Rattle.timing.specs.Visits.{Visit}
use Rattle.timing.specs.Timetables.{Fits, Timetable, Feasible}
use Rattle.timing.specs.Reach.{BlockedAt}
use Rattle.route.specs.declared.stop.Splice.{Splice}
use Rattle.route.specs.declared.stop.Splice.TheVariants.{Insert, Remove, Change}
use Rattle.route.specs.Refusals.{first_of}
use Rattle.route.specs.Plain.{Plain, spliced, visit, seen, visits}
use Rattle.route.specs.Judged.{Answer, outside, long, objection, Judged, refused, blocked, accepted}

-- two sources have the same windows
abbrev pub SameWindows : {E F : Type 0} → Meaning E → Meaning F → Type 0
SameWindows m n = (k : ℕ) → span_of (m.curve k) ≡ span_of (n.curve k)

visit_same : {E F : Type 0} (K : Algebra E) (L : Algebra F) (o : Option (Curve E)) (p : Option (Curve F)) (l : ℕ) → span_of o ≡ span_of p
    → ((visit K o l).first ≡ (visit L p l).first) × ((visit K o l).last ≡ (visit L p l).last) × ((visit K o l).leg ≡ (visit L p l).leg)
visit_same K L None None l e = (refl, refl, refl)
visit_same K L None (Some d) l e = let z : ◌≡◌ {A = ℕ} 0 1 = cc in absurd (omega arith)
visit_same K L (Some c) None l e = let z : ◌≡◌ {A = ℕ} 0 1 = cc in absurd (omega arith)
visit_same K L (Some c) (Some d) l e =
    let w : ◌≡◌ {A = ℕ × ℕ} (c.first, c.last) (d.first, d.last) = cc in
    (ap (λ (x : ℕ × ℕ). x.0) w, ap (λ (x : ℕ × ℕ). x.1) w, refl)

module _ {E F : Type 0} (K : Algebra E) (L : Algebra F) (m : Meaning E) (n : Meaning F) (same : SameWindows m n) where
  fits_same : (p : ℕ) (ps : List Plain) (ts : List ℕ) → Fits p (visits K m ps) ts → Fits p (visits L n ps) ts
  fits_same p [] [] f = f
  fits_same p [] (t ∷ ts) f = f
  fits_same p (s ∷ ps) [] f = f
  fits_same p (s ∷ ps) (t ∷ ts) f =
      let w = visit_same K L (m.curve s.curve) (n.curve s.curve) s.leg (same s.curve) in (
        subst (λ x. x ≤ t) w.0 f.0,
        subst (λ x. t ≤ x) w.1 f.1,
        subst (λ x. p + x ≤ t) w.2 f.2,
        fits_same t ps ts f.3,
      )

  feasible_same : (ps : List Plain) → Feasible (visits K m ps) → Feasible (visits L n ps)
  feasible_same ps f = (f.0, fits_same 0 ps f.0 f.1)

  objection_same : (ps : List Plain) (s : Splice) → objection n ps s ≡ objection m ps s
  objection_same ps (Insert p k a b) =
      ap (λ (o : Option (ℕ × ℕ)). first_of ((outside p (length ps + 1), 1) ∷ (leb 64 (length ps), 2) ∷ (not (is_some o), 3) ∷ (long a || long b, 4) ∷ [])) (sym (same k))
  objection_same ps (Remove p l) = refl
  objection_same ps (Change p k) = ap (λ (o : Option (ℕ × ℕ)). first_of ((outside p (length ps), 1) ∷ (not (is_some o), 3) ∷ [])) (sym (same k))

module _ {E F : Type 0} (K : Algebra E) (L : Algebra F) (m : Meaning E) (n : Meaning F) (same : SameWindows m n) where
  blocked_same : (ps : List Plain) (f : ℕ) → BlockedAt (visits K m ps) f → BlockedAt (visits L n ps) f
  blocked_same ps f b =
      let a = length-map ps (seen K m) in
      let c = length-map ps (seen L n) in
      record {
        from = b.from;
        to = omega (arith, b.to);
        before = subst Feasible (sym (take-map (seen L n) (f - 1) ps))
            (feasible_same K L m n same (take (f - 1) ps) (subst Feasible (take-map (seen K m) (f - 1) ps) b.before));
        none = λ ts t.
            b.none ts (subst (λ (vs : List (Visit E)). Timetable vs ts) (sym (take-map (seen K m) f ps))
            (fits_same L K n m (λ k. sym (same k)) 0 (take f ps) ts (subst (λ (vs : List (Visit F)). Timetable vs ts) (take-map (seen L n) f ps) t)));
      }

  pub judged_same : (ps : List Plain) (s : Splice) (r : Answer) (qs : List Plain) → Judged K m ps s r qs → Judged L n ps s r qs
  judged_same ps s r qs (refused f e) = refused f (objection_same K L m n same ps s ∙ e)
  judged_same ps s r qs (blocked f e b) = blocked f (objection_same K L m n same ps s ∙ e) (blocked_same (spliced s ps) f b)
  judged_same ps s r qs (accepted e f) = accepted (objection_same K L m n same ps s ∙ e) (feasible_same K L m n same (spliced s ps) f)
