-- An accepted splice, from its alteration to its marks.
use Rattle.std.proofs.Common.{◌≡◌, ℕ, ◌-◌, ◌<◌, ◌≤◌, List, ◌++◌, length, get_or, take, None, Ok, Err, sym, refl, ap, ◌∙◌, subst, arith}
use Rattle.std.proofs.lemmas.List.{length-map, length-append, length-take, length-take-le, get_or-take, take-map, take_at, take-take, ext_get_or}
use Rattle.cost.specs.Algebra.{Algebra}
use Rattle.source.specs.Meaning.{Meaning, Lawful}
use Rattle.timing.specs.Visits.{Visit}
use Rattle.timing.specs.Timetables.{Feasible}
use Rattle.timing.specs.Marks.{Marks}
use Rattle.timing.specs.Sound.{Sound}
use Rattle.timing.proofs.Theorems.{marks_take}
use Rattle.route.specs.declared.stop.Stop.{Stop}
use Rattle.route.specs.declared.stop.Splice.{Splice}
use Rattle.route.specs.declared.stop.Splice.TheVariants.{Insert, Remove, Change}
use Rattle.route.specs.Plain.{Plain, place, spliced, seen, visits}
use Rattle.route.specs.Table.{plain, plains, marks, line, Short}
use Rattle.route.specs.Kept.{Kept}
use Rattle.route.specs.Judged.{Answer, objection, Judged, refused, blocked, accepted}
use Rattle.route.specs.Calls.{Altered, Refreshed, Spliced, remarked}
use Rattle.route.proofs.Objections.{has_place}
use Rattle.route.proofs.Legs.{short_spliced}
use Rattle.route.proofs.Remarks.{plains_remarked, marks_remarked}
use Rattle.route.proofs.Soundness.{lawful_sound}

-- the place of a splice that nothing speaks against

front_at : (ps ys : List Plain) (i : ℕ) → i ≤ length ps → (take i (take i ps ++ ys) ≡ take i ps) × (i ≤ length (take i ps ++ ys))
front_at ps ys i h =
    let n : length (take i ps) ≡ i = length-take-le i ps h in
    let a = length-append (take i ps) ys in
    (take_at (take i ps) ys i n, omega arith)

pub front_spliced : {E : Type 0} (m : Meaning E) (ps : List Plain) (s : Splice) → objection m ps s ≡ None → (take (place s - 1) (spliced s ps) ≡ take (place s - 1) ps) × (place s - 1 ≤ length (spliced s ps))
front_spliced m ps (Insert p k a b) e = let h = has_place m ps (Insert p k a b) e in front_at ps _ (p - 1) (omega (arith, h.1))
front_spliced m ps (Remove p l) e = let h = has_place m ps (Remove p l) e in front_at ps _ (p - 1) (omega (arith, h.1))
front_spliced m ps (Change p k) e = let h = has_place m ps (Change p k) e in front_at ps _ (p - 1) (omega (arith, h.1))

-- what an acceptance says

abbrev pub WhenOk : Answer → Type 0 → Type 0
WhenOk (Ok x) P = P
WhenOk (Err r) P = Unit {0}

module _ {E : Type 0} (K : Algebra E) (m : Meaning E) where
  pub judged_ok : (ps qs : List Plain) (s : Splice) (r : Answer) → Judged K m ps s r qs → WhenOk r ((objection m ps s ≡ None) × Feasible (visits K m (spliced s ps)) × (qs ≡ spliced s ps))
  judged_ok ps qs s r (refused f e) = tt
  judged_ok ps qs s r (blocked f e b) = tt
  judged_ok ps qs s r (accepted e f) = (e, f, refl)

  -- the marks found anew
  pub refreshed : Lawful K m → (us ts : List Stop) (old new : List ℕ) (i : ℕ) → length us ≤ 64 → length old ≡ 64 → length new ≡ 64 → take (length us) old ≡ marks us → ts ≡ remarked us new → ((k : ℕ) → k < i → get_or new k 0 ≡ get_or old k 0)
      → (Sound K (line K m us) → Feasible (line K m us) → i ≤ length (line K m us) → length (line K m us) ≤ length old → Marks K (take i (line K m us)) (take i old) → Marks K (line K m us) (take (length (line K m us)) new))
      → Refreshed K m i us ts
  refreshed law us ts old new i few long long2 loaded stored before found =
      let n = length us in
      let p = length-map us plain in
      let v = length-map (plains us) (seen K m) in
      let same : plains ts ≡ plains us = ap plains stored ∙ plains_remarked us new in
      let read : marks ts ≡ take n new = ap marks stored ∙ marks_remarked us new (omega arith) in
      let fa = length-take i (take n new) in
      let fb = length-take i (take n old) in
      let fc = length-take n new in
      let fd = length-take n old in
      record {
        stops = same;
        front = ap (take i) read
            ∙ ext_get_or 0 (take i (take n new)) (take i (take n old)) (omega arith) (λ k h.
            let a : k < i = omega arith in
            let b : k < n = omega arith in
            get_or-take i (take n new) k 0 a ∙ get_or-take n new k 0 b ∙ before k a ∙ sym (get_or-take i (take n old) k 0 a ∙ get_or-take n old k 0 b))
            ∙ ap (take i) loaded;
        marked = λ feasible within right.
            let w : i ≤ n = within in
            let start : take i (marks us) ≡ take i old = ap (take i) (sym loaded) ∙ take-take i n old w in
            let done = found (lawful_sound K m law (plains us) (omega arith)) feasible (omega arith) (omega arith) (subst (Marks K (take i (line K m us))) start right) in
            let all : length (line K m us) ≡ n = omega arith in
            let here : Marks K (line K m us) (marks ts) = subst (Marks K (line K m us)) (ap (λ (j : ℕ). take j new) all ∙ sym read) done in
            subst (λ (l : List Plain). Marks K (visits K m l) (marks ts)) (sym same) here;
      }

  -- the splice as a whole
  pub settled : (ss us ts : List Stop) (s : Splice) → Judged K m (plains ss) s (Ok tt) (spliced s (plains ss)) → Altered ss s us → Refreshed K m (place s - 1) us ts → Spliced K m ss s (Ok tt) ts
  settled ss us ts s j a r =
      let ps = plains ss in
      let i = place s - 1 in
      let ok = judged_ok ps (spliced s ps) s (Ok tt) j in
      let f = front_spliced m ps s ok.0 in
      let p = length-map us plain in
      let long : length (plains us) ≡ length (spliced s ps) = ap length a.stops in
      let lines : take i (line K m us) ≡ take i (line K m ss) =
      take-map (seen K m) i (plains us) ∙ ap (λ (l : List Plain). visits K m (take i l)) a.stops ∙ ap (visits K m) f.0 ∙ sym (take-map (seen K m) i ps) in
      record {
        judged = subst (Judged K m ps s (Ok tt)) (sym (r.stops ∙ a.stops)) j;
        marked = λ right.
            let front = marks_take K (line K m ss) (marks ss) i right in
            let here : Marks K (take i (line K m us)) (take i (marks us)) = subst (Marks K (take i (line K m us))) (sym a.front) (subst (λ (vs : List (Visit E)). Marks K vs (take i (marks ss))) (sym lines) front) in
            r.marked (subst (λ (l : List Plain). Feasible (visits K m l)) (sym a.stops) ok.1) (omega (arith, f.1, long, p)) here;
        front = r.front ∙ a.front;
        stays = λ e. absurd (let z : ◌≡◌ {A = ℕ} 0 1 = cc in omega arith);
      }

  pub kept_on : (ss ts : List Stop) (s : Splice) → Lawful K m → length ts ≤ 64 → Kept K m ss → Spliced K m ss s (Ok tt) ts → Kept K m ts
  kept_on ss ts s law few k x =
      let ok = judged_ok (plains ss) (plains ts) s (Ok tt) x.judged in
      record { few = few; lawful = law; marked = x.marked k.marked; legs = subst Short (sym ok.2) (short_spliced m (plains ss) s ok.0 k.legs) }

  -- a refused splice
  pub stayed : (ss : List Stop) (s : Splice) (r : Answer) → Judged K m (plains ss) s r (plains ss) → Spliced K m ss s r ss
  stayed ss s r j = record { judged = j; marked = λ right. right; front = refl; stays = λ e. refl }
