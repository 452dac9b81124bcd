-- Pairs of two kinds: part by part, the first part first in the order. Assumes nothing.
use Rattle.std.specs.Prelude.{◌≡◌, ℕ, ◌+◌, ◌≤◌, max, Bool, true, false, ◌⊎◌, refl}
use Rattle.std.proofs.Common.{ap, sym, subst, ◌∙◌, inl, inr, ⊎_elim, arith}
use Rattle.cost.specs.Algebra.{Algebra}

-- first parts decide, and second parts where neither first part is less
abbrev pub lex : Bool → Bool → Bool → Bool
lex true y z = true
lex false true z = false
lex false false z = z

pub lex_none : (x y z : Bool) → x ≡ false → z ≡ false → lex x y z ≡ false
lex_none true y z h k = h
lex_none false true z h k = refl
lex_none false false z h k = k

pub lex_first : (x y z : Bool) → x ≡ true → lex x y z ≡ true
lex_first true y z h = refl
lex_first false true z h = h
lex_first false false z h = cc

pub lex_second : (x y z : Bool) → x ≡ false → y ≡ false → z ≡ true → lex x y z ≡ true
lex_second true y z h k l = refl
lex_second false true z h k l = sym k
lex_second false false z h k l = l

pub lex_true : (x y z : Bool) → lex x y z ≡ true → (x ≡ true) ⊎ ((x ≡ false) × (y ≡ false) × (z ≡ true))
lex_true true y z h = inl refl
lex_true false true z h = inl h
lex_true false false z h = inr (refl, refl, h)

pub lex_not_first : (x y z : Bool) → lex x y z ≡ false → x ≡ false
lex_not_first true y z h = h
lex_not_first false y z h = refl

pub lex_not_second : (x y z : Bool) → x ≡ false → y ≡ false → lex x y z ≡ false → z ≡ false
lex_not_second true y z h k l = cc
lex_not_second false true z h k l = cc
lex_not_second false false z h k l = l

module _ {E F : Type 0} (m : Algebra E) (n : Algebra F) where
  abbrev pub pair_plus : E × F → E × F → E × F
  pair_plus p q = (m.plus p.0 q.0, n.plus p.1 q.1)

  abbrev pub pair_less : E × F → E × F → Bool
  pair_less p q = lex (m.less p.0 q.0) (m.less q.0 p.0) (n.less p.1 q.1)

  abbrev pub pair_size : E × F → ℕ
  pair_size p = max (m.size p.0) (n.size p.1)

  pub by_first : (p q : E × F) → m.less p.0 q.0 ≡ true → pair_less p q ≡ true
  by_first p q h = lex_first _ _ _ h

  pub by_second : (p q : E × F) → p.0 ≡ q.0 → n.less p.1 q.1 ≡ true → pair_less p q ≡ true
  by_second p q e h =
      lex_second _ _ _ (subst (λ (x : E). m.less p.0 x ≡ false) e (m.strict p.0)) (subst (λ (x : E). m.less x p.0 ≡ false) e (m.strict p.0)) h

  pub cases_less : (p q : E × F) → pair_less p q ≡ true → (m.less p.0 q.0 ≡ true) ⊎ ((p.0 ≡ q.0) × (n.less p.1 q.1 ≡ true))
  cases_less p q h = ⊎_elim inl (λ k. inr (m.total p.0 q.0 k.0 k.1, k.2)) (lex_true _ _ _ h)

  pub pair_total : (p q : E × F) → pair_less p q ≡ false → pair_less q p ≡ false → p ≡ q
  pair_total p q h k =
      let x = lex_not_first _ _ _ h in
      let y = lex_not_first _ _ _ k in
      let e = m.total p.0 q.0 x y in
      let f = n.total p.1 q.1 (lex_not_second _ _ _ x y h) (lex_not_second _ _ _ y x k) in
      ap (λ (a : E). (a, p.1)) e ∙ ap (λ (b : F). (q.0, b)) f

  pub pair_trans : (p q r : E × F) → pair_less p q ≡ true → pair_less q r ≡ true → pair_less p r ≡ true
  pair_trans p q r h k =
      ⊎_elim
      (λ x. ⊎_elim (λ y. by_first p r (m.trans p.0 q.0 r.0 x y)) (λ y. by_first p r (subst (λ (z : E). m.less p.0 z ≡ true) y.0 x)) (cases_less q r k))
      (λ x.
      ⊎_elim
      (λ y. by_first p r (subst (λ (z : E). m.less z r.0 ≡ true) (sym x.0) y))
      (λ y. by_second p r (x.0 ∙ y.0) (n.trans p.1 q.1 r.1 x.1 y.1))
      (cases_less q r k))
      (cases_less p q h)

  pub pair_shift : (p q r : E × F) → pair_less p q ≡ true → pair_less (pair_plus p r) (pair_plus q r) ≡ true
  pair_shift p q r h =
      ⊎_elim
      (λ x. by_first (pair_plus p r) (pair_plus q r) (m.shift p.0 q.0 r.0 x))
      (λ x. by_second (pair_plus p r) (pair_plus q r) (ap (λ (a : E). m.plus a r.0) x.0) (n.shift p.1 q.1 r.1 x.1))
      (cases_less p q h)

  pub pair_comm : (p q : E × F) → pair_plus p q ≡ pair_plus q p
  pair_comm p q = ap (λ (a : E). (a, n.plus p.1 q.1)) (m.plus_comm p.0 q.0) ∙ ap (λ (b : F). (m.plus q.0 p.0, b)) (n.plus_comm p.1 q.1)

  pub pair_assoc : (p q r : E × F) → pair_plus (pair_plus p q) r ≡ pair_plus p (pair_plus q r)
  pair_assoc p q r =
      ap (λ (a : E). (a, n.plus (n.plus p.1 q.1) r.1)) (m.plus_assoc p.0 q.0 r.0)
      ∙ ap (λ (b : F). (m.plus p.0 (m.plus q.0 r.0), b)) (n.plus_assoc p.1 q.1 r.1)

  pub pair_nought_plus : (p : E × F) → pair_plus (m.nought, n.nought) p ≡ p
  pair_nought_plus p = ap (λ (a : E). (a, n.plus n.nought p.1)) (m.nought_plus p.0) ∙ ap (λ (b : F). (p.0, b)) (n.nought_plus p.1)

  pub pair_strict : (p : E × F) → pair_less p p ≡ false
  pair_strict p = lex_none _ _ _ (m.strict p.0) (n.strict p.1)

  pub pair_size_nought : pair_size (m.nought, n.nought) ≡ 0
  pair_size_nought = omega (arith, m.size_nought, n.size_nought)

  pub pair_size_plus : (p q : E × F) → pair_size (pair_plus p q) ≤ pair_size p + pair_size q
  pair_size_plus p q = omega (arith, m.size_plus p.0 q.0, n.size_plus p.1 q.1)

  abbrev pub paired : Algebra (E × F)
  paired = record {
    nought = (m.nought, n.nought);
    plus = pair_plus;
    less = pair_less;
    size = pair_size;
    plus_comm = pair_comm;
    plus_assoc = pair_assoc;
    nought_plus = pair_nought_plus;
    strict = pair_strict;
    total = pair_total;
    trans = pair_trans;
    shift = pair_shift;
    size_nought = pair_size_nought;
    size_plus = pair_size_plus;
  }
