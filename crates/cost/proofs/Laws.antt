-- What the laws of a cost kind give. Assumes nothing.
use Rattle.std.proofs.Common.{◌≡◌, ℕ, zero, suc, ◌*◌, ◌≤◌, true, false, sym, ap, ◌∙◌, subst, ⊎_elim, suc-mul, arith}
use Rattle.std.proofs.lemmas.Bool.{cases_Bool, both_ways}
use Rattle.cost.specs.Algebra.{Algebra, fold}

module _ {E : Type 0} (a : Algebra E) where
  -- of two costs the other is not less
  pub not_back : (x y : E) → a.less x y ≡ true → a.less y x ≡ false
  not_back x y h = ⊎_elim (λ k. absurd (both_ways _ (a.strict x) (a.trans x y x h k))) (λ k. k) (cases_Bool (a.less y x))

  -- `a.less y x ≡ false` says that x is at most y
  pub most_trans : (x y z : E) → a.less y x ≡ false → a.less z y ≡ false → a.less z x ≡ false
  most_trans x y z h k =
      ⊎_elim
      (λ t.
      ⊎_elim
      (λ u. absurd (both_ways _ k (a.trans z x y t u)))
      (λ u. absurd (both_ways _ k (subst (λ (v : E). a.less z v ≡ true) (a.total x y u h) t)))
      (cases_Bool (a.less x y)))
      (λ t. t)
      (cases_Bool (a.less z x))

  pub most_plus : (x y c : E) → a.less y x ≡ false → a.less (a.plus y c) (a.plus x c) ≡ false
  most_plus x y c h =
      ⊎_elim
      (λ t. not_back (a.plus x c) (a.plus y c) (a.shift x y c t))
      (λ t. subst (λ (v : E). a.less (a.plus v c) (a.plus x c) ≡ false) (a.total x y t h) (a.strict (a.plus x c)))
      (cases_Bool (a.less x y))

  pub most_both : (x y u v : E) → a.less y x ≡ false → a.less v u ≡ false → a.less (a.plus y v) (a.plus x u) ≡ false
  most_both x y u v h k =
      most_trans (a.plus x u) (a.plus y u) (a.plus y v) (most_plus x y u h)
      (subst (λ (p : E). a.less p (a.plus y u) ≡ false) (a.plus_comm v y) (subst (λ (p : E). a.less (a.plus v y) p ≡ false) (a.plus_comm u y) (most_plus u v y k)))

  pub regroup : (x y u v : E) → a.plus (a.plus x y) (a.plus u v) ≡ a.plus (a.plus x u) (a.plus y v)
  regroup x y u v =
      a.plus_assoc x y (a.plus u v) ∙ ap (a.plus x) (sym (a.plus_assoc y u v) ∙ ap (λ (p : E). a.plus p v) (a.plus_comm y u) ∙ a.plus_assoc u y v) ∙ sym (a.plus_assoc x u (a.plus y v))

  pub fold_plus : (w : ℕ) (x y : E) → fold a w (a.plus x y) ≡ a.plus (fold a w x) (fold a w y)
  fold_plus zero x y = sym (a.nought_plus a.nought)
  fold_plus (suc w) x y = ap (a.plus (a.plus x y)) (fold_plus w x y) ∙ regroup x y (fold a w x) (fold a w y)

  pub fold_most : (w : ℕ) (x y : E) → a.less y x ≡ false → a.less (fold a w y) (fold a w x) ≡ false
  fold_most zero x y h = a.strict a.nought
  fold_most (suc w) x y h = most_both x y (fold a w x) (fold a w y) h (fold_most w x y h)

  pub size_fold : (w : ℕ) (x : E) → a.size (fold a w x) ≤ w * a.size x
  size_fold zero x = omega (arith, a.size_nought)
  size_fold (suc w) x = omega (arith, a.size_plus x (fold a w x), size_fold w x, suc-mul w (a.size x))
