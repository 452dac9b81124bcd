-- Convex rows of costs over the minutes a to b, and their earliest lowest place. Assumes nothing.
use Rattle.std.proofs.Common.{◌≡◌, ℕ, zero, suc, ◌+◌, ◌-◌, ◌<◌, ◌≤◌, min, ◌⊎◌, refl, ap, subst, inl, inr, arith}
use Rattle.std.proofs.Math.Decide.{dec_le}
use Rattle.cost.specs.Algebra.{Algebra, Less, Most}
use Rattle.cost.specs.Convex.{Convex}
use Rattle.timing.specs.Back.{Lowest}
use Rattle.timing.proofs.Costs.{never, most_eq, most_less, split, less_most_less, most_less_less, most_trans, plus_mono, flat_on}

module _ {E : Type 0} (K : Algebra E) (f : ℕ → E) where
  open K use {nought, plus}

  -- there is an earliest lowest place
  pub earliest : (a n : ℕ) → (m : ℕ) × Lowest K f a (a + n) m
  earliest a zero = (
    a,
    record {
      from = omega arith;
      to = omega arith;
      least = λ t h k. most_eq K (ap f (omega arith));
      before = λ t h k. absurd (omega arith);
    },
  )
  earliest a (suc n) = go (earliest a n)
    where
      go : ((m : ℕ) × Lowest K f a (a + n) m) → (m : ℕ) × Lowest K f a (a + suc n) m
      go r =
          let m = r.0 in
          let l = r.1 in
          elim (split K (f (a + suc n)) (f m)) [
            | inl h ↦ (
              a + suc n,
              record {
                from = omega arith;
                to = omega arith;
                least = λ t p q. elim (dec_le t (a + n)) [
                  | yes s ↦ most_trans K (most_less K h) (l.least t p s)
                  | no s ↦ most_eq K (ap f (omega arith))
                ];
                before = λ t p q. less_most_less K h (l.least t p (omega arith));
              },
            )
            | inr h ↦ (
              m,
              record {
                from = l.from;
                to = omega arith;
                least = λ t p q. elim (dec_le t (a + n)) [
                  | yes s ↦ l.least t p s
                  | no s ↦ most_trans K h (most_eq K (ap f (omega arith)))
                ];
                before = l.before;
              },
            )
          ]

  module _ (a b : ℕ) (bends : Convex K f a b) where
    bend : (t s r : ℕ) → s ≡ t + 1 → r ≡ t + 2 → a ≤ t → r ≤ b → Most K (plus (f s) (f s)) (plus (f t) (f r))
    bend t s r e d h k = rw (e, d) (bends t h (omega arith))

    -- once f does not fall, it does not fall again
    pub flat_stays : (n t s : ℕ) → s ≡ t + n → a ≤ t → s + 1 ≤ b → Most K (f t) (f (t + 1)) → Most K (f s) (f (s + 1))
    flat_stays zero t s e h k flat =
        let d : t ≡ s = omega arith in
        rw d at flat
    flat_stays (suc n) t s e h k flat =
        flat_stays n (t + 1) s (omega arith) (omega arith) k (flat_on K (bend t (t + 1) (t + 1 + 1) refl (omega arith) h (omega arith)) flat)

    pub no_lower : (n t s : ℕ) → s ≡ t + n → a ≤ t → s ≤ b → Most K (f t) (f (t + 1)) → Most K (f t) (f s)
    no_lower zero t s e h k flat = most_eq K (ap f (omega arith))
    no_lower (suc n) t s e h k flat =
        let d : t + n + 1 ≡ s = omega arith in
        let next : Most K (f (t + n)) (f s) = rw (← d) (flat_stays n t (t + n) refl h (omega arith) flat) in
        most_trans K (no_lower n t (t + n) refl h (omega arith) flat) next

    -- the test of a search: f falls up to m, and m is the end or f does not fall from there
    pub lowest_here : (m : ℕ) → a ≤ m → m ≤ b → ((t : ℕ) → a ≤ t → t < m → Less K (f (t + 1)) (f t)) → (m ≡ b) ⊎ Most K (f m) (f (m + 1)) → Lowest K f a b m
    lowest_here m h k falls stop = record { from = h; to = k; least = least; before = before }
      where
        down : (n t : ℕ) → a ≤ t → t + n ≡ m → Most K (f m) (f t)
        down zero t p q = most_eq K (ap f (omega arith))
        down (suc n) t p q = most_trans K (down n (t + 1) (omega arith) (omega arith)) (most_less K (falls t p (omega arith)))

        before : (t : ℕ) → a ≤ t → t < m → Less K (f m) (f t)
        before t p q = most_less_less K (down (m - (t + 1)) (t + 1) (omega arith) (omega arith)) (falls t p q)

        least : (t : ℕ) → a ≤ t → t ≤ b → Most K (f m) (f t)
        least t p q = elim (dec_le t m) [
          | yes s ↦ down (m - t) t p (omega arith)
          | no s ↦ elim stop [
            | inl e ↦ absurd (omega arith)
            | inr flat ↦ no_lower (t - m) m t (omega arith) h q flat
          ]
        ]

    -- where f falls, it has fallen all along
    pub fall_before : (t s : ℕ) → a ≤ t → t ≤ s → s + 1 ≤ b → Less K (f (s + 1)) (f s) → Less K (f (t + 1)) (f t)
    fall_before t s h k j less = elim (split K (f (t + 1)) (f t)) [
      | inl l ↦ l
      | inr flat ↦ absurd (never K (flat_stays (s - t) t s (omega arith) h j flat) less)
    ]

    -- so two comparisons tell the earliest lowest place
    pub lowest_local : (m : ℕ) → a ≤ m → m ≤ b → (m ≡ a) ⊎ Less K (f m) (f (m - 1)) → (m ≡ b) ⊎ Most K (f m) (f (m + 1)) → Lowest K f a b m
    lowest_local m h k fell stop = lowest_here m h k (λ t p q. go t p q fell) stop
      where
        go : (t : ℕ) → a ≤ t → t < m → (m ≡ a) ⊎ Less K (f m) (f (m - 1)) → Less K (f (t + 1)) (f t)
        go t p q (inl e) = absurd (omega arith)
        go t p q (inr less) =
            let e : m ≡ m - 1 + 1 = omega arith in
            let less' : Less K (f (m - 1 + 1)) (f (m - 1)) = subst (λ x. Less K (f x) (f (m - 1))) e less in
            fall_before t (m - 1) p (omega arith) (omega arith) less'

    module _ (m : ℕ) (low : Lowest K f a b m) where
      pub falls : (t : ℕ) → a ≤ t → t < m → Less K (f (t + 1)) (f t)
      falls t h k = elim (split K (f (t + 1)) (f t)) [
        | inl j ↦ j
        | inr flat ↦ absurd (never K (no_lower (m - t) t m (omega arith) h low.to flat) (low.before t h k))
      ]

      pub stops : (m ≡ b) ⊎ Most K (f m) (f (m + 1))
      stops = elim (dec_le (m + 1) b) [
        | yes h ↦ inr (low.least (m + 1) (omega arith) h)
        | no h ↦ inl (omega arith)
      ]

      falls_down : (n t s : ℕ) → a ≤ t → s ≡ t + n → s ≤ m → Most K (f s) (f t)
      falls_down zero t s p q r = most_eq K (ap f (omega arith))
      falls_down (suc n) t s p q r = most_trans K (falls_down n (t + 1) s (omega arith) (omega arith) r) (most_less K (falls t p (omega arith)))

      pub falls_to : (t s : ℕ) → a ≤ t → t < s → s ≤ m → Less K (f s) (f t)
      falls_to t s p q r = most_less_less K (falls_down (s - (t + 1)) (t + 1) s (omega arith) (omega arith) r) (falls t p (omega arith))

      -- the lowest of f up to a bound u
      pub cap_least : (u t : ℕ) → a ≤ t → t ≤ b → t ≤ u → Most K (f (min m u)) (f t)
      cap_least u t p q r = elim (dec_le m u) [
        | yes h ↦ most_trans K (most_eq K (ap f (omega arith))) (low.least t p q)
        | no h ↦ most_trans K (most_eq K (ap f (omega arith))) (falls_down (u - t) t u p (omega arith) (omega arith))
      ]

      pub cap_early : (u t : ℕ) → a ≤ t → Most K (f t) (f (min m u)) → min m u ≤ t
      cap_early u t p h = elim (dec_le (min m u) t) [
        | yes k ↦ k
        | no k ↦ absurd (never K h (falls_to t (min m u) p (omega arith) (omega arith)))
      ]

      pub cap_bends : (c : ℕ) → Convex K (λ u. f (min m u)) a c
      cap_bends c u p q = elim (dec_le (u + 2) m) [
        | yes h ↦ bend (min m u) (min m (u + 1)) (min m (u + 2)) (omega arith) (omega arith) (omega arith) (omega arith)
        | no h ↦ plus_mono K (cap_least (u + 1) (min m u) (omega arith) (omega arith) (omega arith)) (most_eq K (ap f (omega arith)))
      ]
