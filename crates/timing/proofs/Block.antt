-- Comparing the minutes u and u + 1 of the last stop: only the stops whose minutes move count. Every list here has the last stop first. Assumes nothing.
use Rattle.std.proofs.Common.{◌≡◌, ℕ, ◌+◌, ◌-◌, ◌<◌, ◌≤◌, min, Bool, true, false, cond, leb, ◌⊎◌, ◌↔◌, List, [], ◌∷◌, sym, refl, ap, ◌∙◌, subst, subst₂, arith}
use Rattle.std.proofs.lemmas.Bool.{leb-true, leb-false}
use Rattle.cost.specs.Algebra.{Algebra, Less, Most}
use Rattle.timing.specs.Visits.{Visit}
use Rattle.timing.specs.Convex.{Bends}
use Rattle.timing.proofs.Costs.{cancel, plus_most}
use Rattle.timing.proofs.Curves.{lowest_local}
use Rattle.timing.proofs.Back.{ending_convex}
use Rattle.timing.specs.Back.{reach, cost, ending, Marked, Cheaper}
use Rattle.timing.specs.Moving.{walk}

module _ {E : Type 0} (K : Algebra E) where
  open K use {nought, plus}

  -- the stop's mark is later than u: it moves
  pub block_moves : (v : Visit E) (vs : List (Visit E)) (m u : ℕ) (ms : List ℕ) (x y : E) → v.leg ≤ u → u < m →
      Cheaper K (v ∷ vs) (m ∷ ms) u x y ↔ Cheaper K vs ms (u - v.leg) (plus x (v.price u)) (plus y (v.price (u + 1)))
  block_moves v vs m u ms x y h k = (λ c. subst₂ (Most K) here next c, λ c. subst₂ (Most K) (sym here) (sym next) c)
    where
      a : min m u ≡ u
      a = omega arith

      b : min m (u + 1) ≡ u + 1
      b = omega arith

      c : u + 1 - v.leg ≡ u - v.leg + 1
      c = omega arith

      here : plus x (cost K (v ∷ vs) (m ∷ ms) u) ≡ plus (plus x (v.price u)) (cost K vs ms (u - v.leg))
      here = ap (λ t. plus x (ending K v vs ms t)) a ∙ sym (K.plus_assoc _ _ _)

      next : plus y (cost K (v ∷ vs) (m ∷ ms) (u + 1)) ≡ plus (plus y (v.price (u + 1))) (cost K vs ms (u - v.leg + 1))
      next = ap (λ t. plus y (ending K v vs ms t)) b ∙ sym (K.plus_assoc _ _ _) ∙ ap (λ t. plus (plus y (v.price (u + 1))) (cost K vs ms t)) c

  charged : (x y z w : E) → z ≡ w → Most K (plus x z) (plus y w) ↔ Most K x y
  charged x y z w e =
      (λ c. cancel K {c = w} (subst (λ q. Most K (plus x q) (plus y w)) e c), λ c. subst (λ q. Most K (plus x q) (plus y w)) (sym e) (plus_most K w c))

  -- the stop's mark is u or earlier: it and all before it stay
  pub block_stays : (v : Visit E) (vs : List (Visit E)) (m u : ℕ) (ms : List ℕ) (x y : E) → m ≤ u → Cheaper K (v ∷ vs) (m ∷ ms) u x y ↔ Most K x y
  block_stays v vs m u ms x y h =
      let e : min m u ≡ min m (u + 1) = omega arith in
      charged x y (cost K (v ∷ vs) (m ∷ ms) u) (cost K (v ∷ vs) (m ∷ ms) (u + 1)) (ap (ending K v vs ms) e)

  -- no stop is left
  pub block_ends : (ms : List ℕ) (u : ℕ) (x y : E) → Cheaper K [] ms u x y ↔ Most K x y
  block_ends ms u x y = charged x y nought nought refl

  -- the walk decides
  pub walk_tells : (vs : List (Visit E)) (ms : List ℕ) (u : ℕ) (x y : E) → Marked K vs ms → reach vs ≤ u → Cheaper K vs ms u x y ↔ Most K (walk K vs ms u x y).0 (walk K vs ms u x y).1
  walk_tells [] ms u x y k h = block_ends ms u x y
  walk_tells (v ∷ vs) [] u x y k h = absurd k
  walk_tells (v ∷ vs) (m ∷ ms) u x y k h = go (walk_tells vs ms (u - v.leg) (plus x (v.price u)) (plus y (v.price (u + 1))) k.1 (omega arith)) (leb m u) refl
    where
      a : E
      a = plus x (v.price u)

      b : E
      b = plus y (v.price (u + 1))

      out : Bool → E × E
      out d = cond d (x, y) (walk K vs ms (u - v.leg) a b)

      go : (Cheaper K vs ms (u - v.leg) a b ↔ Most K (walk K vs ms (u - v.leg) a b).0 (walk K vs ms (u - v.leg) a b).1) → (d : Bool) → leb m u ≡ d → Cheaper K (v ∷ vs) (m ∷ ms) u x y ↔ Most K (out d).0 (out d).1
      go rest true e = block_stays v vs m u ms x y (leb-true m u e)
      go rest false e =
          let move = block_moves v vs m u ms x y (omega arith) (leb-false m u e) in
          (λ c. rest.0 (move.0 c), λ c. move.1 (rest.1 c))

  -- the cost of serving v last at t against t + 1
  pub ending_test : (v : Visit E) (vs : List (Visit E)) (ms : List ℕ) (t : ℕ) → v.leg ≤ t → Cheaper K vs ms (t - v.leg) (v.price t) (v.price (t + 1)) ↔ Most K (ending K v vs ms t) (ending K v vs ms (t + 1))
  ending_test v vs ms t h =
      let e : t - v.leg + 1 ≡ t + 1 - v.leg = omega arith in
      let P : ℕ → Type 0 = λ s. Most K (ending K v vs ms t) (plus (v.price (t + 1)) (cost K vs ms s)) in
      (subst P e, subst P (sym e))

  -- the mark, found by two comparisons
  pub mark_found : (v : Visit E) (vs : List (Visit E)) (ms : List ℕ) (m : ℕ) → Bends K (v ∷ vs) → Marked K vs ms → reach (v ∷ vs) ≤ m → m ≤ v.last →
      (m ≡ reach (v ∷ vs)) ⊎ Less K (ending K v vs ms m) (ending K v vs ms (m - 1)) → (m ≡ v.last) ⊎ Most K (ending K v vs ms m) (ending K v vs ms (m + 1)) → Marked K (v ∷ vs) (m ∷ ms)
  mark_found v vs ms m p k h j fell stop = (lowest_local K (ending K v vs ms) (reach (v ∷ vs)) v.last (ending_convex K v vs ms p k) m h j fell stop, k)

  pub block_test : (v : Visit E) (vs : List (Visit E)) (ms : List ℕ) (t : ℕ) → Marked K vs ms → reach (v ∷ vs) ≤ t →
      Most K (ending K v vs ms t) (ending K v vs ms (t + 1)) ↔ Most K (walk K vs ms (t - v.leg) (v.price t) (v.price (t + 1))).0 (walk K vs ms (t - v.leg) (v.price t) (v.price (t + 1))).1
  block_test v vs ms t k h =
      let a = ending_test v vs ms t (omega arith) in
      let b = walk_tells vs ms (t - v.leg) (v.price t) (v.price (t + 1)) k (omega arith) in
      (λ c. b.0 (a.1 c), λ c. a.0 (b.1 c))
