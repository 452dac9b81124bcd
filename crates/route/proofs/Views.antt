-- A draft, place by place, and what its stops are to the timing.
use Rattle.std.proofs.Common.{◌≡◌, ℕ, zero, suc, ◌+◌, ◌<◌, Bool, true, false, cond, ◌&&◌, leb, List, [], ◌∷◌, ◌++◌, map, length, get_or, Some, None, Option, sym, refl, ap, ◌∙◌, arith}
use borrow.Author.Tests.{lt-leb}
use Rattle.std.specs.Prelude.{MatchOption}
use Rattle.std.specs.Option.{option_map}
use Rattle.std.specs.List.{slice_get}
use Rattle.cost.specs.Algebra.{Algebra}
use Rattle.source.specs.Meaning.{Curve, Meaning, span_of, price_of}
use Rattle.timing.specs.Visits.{Visit, at, span, asked}
use Rattle.route.specs.declared.stop.Stop.{Stop}
use Rattle.route.specs.Plain.{Plain, visit, visits}
use Rattle.route.specs.Table.{plain, plains}
use Rattle.route.specs.Drafts.{behind, seen_at}

pub nth_left : {A : Type 0} (xs ys : List A) (i : ℕ) → i < length xs → slice_get (xs ++ ys) i ≡ slice_get xs i
nth_left [] ys i h = absurd (omega arith)
nth_left (x ∷ xs) ys zero h = refl
nth_left (x ∷ xs) ys (suc i) h = nth_left xs ys i (omega arith)

pub nth_right : {A : Type 0} (xs ys : List A) (i j : ℕ) → i ≡ length xs + j → slice_get (xs ++ ys) i ≡ slice_get ys j
nth_right [] ys i j e = let z : i ≡ j = omega arith in ap (slice_get ys) z
nth_right (x ∷ xs) ys zero j e = absurd (omega arith)
nth_right (x ∷ xs) ys (suc i) j e = nth_right xs ys i j (omega arith)

pub nth_map : {A B : Type 0} (f : A → B) (xs : List A) (i : ℕ) (d : A) → i < length xs → slice_get (map f xs) i ≡ Some (f (get_or xs i d))
nth_map f [] i d h = absurd (omega arith)
nth_map f (x ∷ xs) zero d h = refl
nth_map f (x ∷ xs) (suc i) d h = nth_map f xs i d (omega arith)

-- a stop behind that keeps its leg
pub behind_rest : (o : Option ℕ) (ss : List Stop) (j : ℕ) (s : Stop) → (j ≡ 0 → o ≡ None) → j < length ss → s ≡ get_or ss j s → Some (plain s) ≡ slice_get (behind o (plains ss)) j
behind_rest o ss zero s n h e = ap (λ (x : Stop). Some (plain x)) e ∙ sym (nth_map plain ss 0 s h) ∙ ap (λ (q : Option ℕ). slice_get (behind q (plains ss)) 0) (sym (n refl))
behind_rest None ss (suc j) s n h e = ap (λ (x : Stop). Some (plain x)) e ∙ sym (nth_map plain ss (suc j) s h)
behind_rest (Some l) [] (suc j) s n h e = absurd (omega arith)
behind_rest (Some l) (t ∷ ss) (suc j) s n h e = ap (λ (x : Stop). Some (plain x)) e ∙ sym (nth_map plain ss j s (omega arith))

-- a stop as the timing sees it

and_false : (b : Bool) → (b && false) ≡ false
and_false true = refl
and_false false = refl

module _ {E : Type 0} (K : Algebra E) where
  pub leg_visit : (o : Option (Curve E)) (l : ℕ) → (visit K o l).leg ≡ l
  leg_visit None l = refl
  leg_visit (Some c) l = refl

  pub span_visit : (o : Option (Curve E)) (l : ℕ) → span (span_of o) ≡ ((visit K o l).first, (visit K o l).last)
  span_visit None l = refl
  span_visit (Some c) l = refl

  apart : (t : ℕ) → (leb 1 t && leb t 0) ≡ false
  apart zero = refl
  apart (suc t) = ap (λ (b : Bool). leb 1 (suc t) && b) (lt-leb (suc t) 0 (omega arith)) ∙ and_false (leb 1 (suc t))

  never : (v : ℕ → E) (l t : ℕ) → None ≡ asked (record { first = 1; last = 0; leg = l; price = v }) t
  never v l t = ap (λ (b : Bool). cond b (Some (v t)) None) (sym (apart t))

  pub price_visit : (o : Option (Curve E)) (l t : ℕ) → price_of o t ≡ asked (visit K o l) t
  price_visit None l t = never (λ _. K.nought) l t
  price_visit (Some c) l t = refl

-- a place in a line
module _ {E : Type 0} (K : Algebra E) (m : Meaning E) (ps : List Plain) (i : ℕ) where
  abbrev here : Visit E
  here = at K (visits K m ps) i

  pub at_visits : (qs : List Plain) (k : ℕ) → at K (visits K m qs) k ≡ seen_at K m (slice_get qs k)
  at_visits [] k = refl
  at_visits (q ∷ qs) zero = refl
  at_visits (q ∷ qs) (suc k) = at_visits qs k

  -- the stop that the place holds
  pub at_place : (o : Option Plain) → o ≡ slice_get ps i → seen_at K m o ≡ here
  at_place o e = sym (at_visits ps i ∙ ap (seen_at K m) (sym e))

  leg_seen : (o : Option Stop) (r : ℕ) → MatchOption o (r ≡ 0) (λ s. r ≡ s.leg) → r ≡ (seen_at K m (option_map plain o)).leg
  leg_seen None r e = e
  leg_seen (Some s) r e = e ∙ sym (leg_visit K (m.curve s.curve) s.leg)

  -- the leg of the stop, or 0 where there is none
  pub leg_there : (o : Option Stop) (r : ℕ) → MatchOption o (r ≡ 0) (λ s. r ≡ s.leg) → option_map plain o ≡ slice_get ps i → r ≡ here.leg
  leg_there o r a e = leg_seen o r a ∙ ap (λ (v : Visit E). v.leg) (at_place (option_map plain o) e)

  -- the window of the stop, and none where there is no stop
  pub window_there : (s : Stop) (n : Meaning E) (w : Option (ℕ × ℕ)) → w ≡ span_of (n.curve s.curve) → n ≡ m → Some (plain s) ≡ slice_get ps i → span w ≡ (here.first, here.last)
  window_there s n w a f e =
      ap span (a ∙ ap (λ (x : Meaning E). span_of (x.curve s.curve)) f) ∙ span_visit K (m.curve s.curve) s.leg ∙ ap (λ (v : Visit E). (v.first, v.last)) (at_place (Some (plain s)) e)

  pub window_nowhere : (w : Option (ℕ × ℕ)) → w ≡ None → None ≡ slice_get ps i → span w ≡ (here.first, here.last)
  window_nowhere w a e = ap span a ∙ ap (λ (v : Visit E). (v.first, v.last)) (at_place None e)

  -- the cost of the stop, and none where there is no stop
  pub cost_there : (s : Stop) (n : Meaning E) (t : ℕ) (p : Option E) → p ≡ price_of (n.curve s.curve) t → n ≡ m → Some (plain s) ≡ slice_get ps i → p ≡ asked here t
  cost_there s n t p a f e =
      a ∙ ap (λ (x : Meaning E). price_of (x.curve s.curve) t) f ∙ price_visit K (m.curve s.curve) s.leg t ∙ ap (λ (v : Visit E). asked v t) (at_place (Some (plain s)) e)

  pub cost_nowhere : (t : ℕ) (p : Option E) → p ≡ None → None ≡ slice_get ps i → p ≡ asked here t
  cost_nowhere t p a e = a ∙ never K (λ _. K.nought) 0 t ∙ ap (λ (v : Visit E). asked v t) (at_place None e)
