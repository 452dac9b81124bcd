-- Order reasoning over any lawful kind of costs. Assumes nothing.
use Rattle.std.proofs.Common.{◌≡◌, ◌⊎◌, sym, ap, ◌∙◌, subst, subst₂, inl, inr}
use Rattle.std.proofs.lemmas.Bool.{cases_Bool, both_ways}
use Rattle.cost.specs.Algebra.{Algebra, Less, Most}
use Rattle.cost.proofs.Laws as laws

module _ {E : Type 0} (K : Algebra E) where
  open K use {nought, plus}

  -- at most and less the other way exclude each other
  pub never : {a b : E} → Most K a b → Less K b a → ⊥
  never {a} {b} p q = both_ways (K.less b a) p q

  pub most_refl : (a : E) → Most K a a
  most_refl a = K.strict a

  pub most_eq : {a b : E} → a ≡ b → Most K a b
  most_eq {a} {b} e = subst (λ x. Most K a x) e (K.strict a)

  pub most_less : {a b : E} → Less K a b → Most K a b
  most_less {a} {b} h = laws.not_back K a b h

  -- one or the other
  pub split : (a b : E) → Less K a b ⊎ Most K b a
  split a b = cases_Bool (K.less a b)

  pub antisym : {a b : E} → Most K a b → Most K b a → a ≡ b
  antisym {a} {b} p q = K.total a b q p

  pub less_most_less : {a b c : E} → Less K a b → Most K b c → Less K a c
  less_most_less {a} {b} {c} h k = elim (split b c) [
    | inl j ↦ K.trans a b c h j
    | inr j ↦ subst (Less K a) (antisym k j) h
  ]

  pub most_less_less : {a b c : E} → Most K a b → Less K b c → Less K a c
  most_less_less {a} {b} {c} h k = elim (split a b) [
    | inl j ↦ K.trans a b c j k
    | inr j ↦ subst (λ x. Less K x c) (antisym j h) k
  ]

  pub most_trans : {a b c : E} → Most K a b → Most K b c → Most K a c
  most_trans {a} {b} {c} h k = laws.most_trans K a b c h k

  pub plus_most : {a b : E} (c : E) → Most K a b → Most K (plus a c) (plus b c)
  plus_most {a} {b} c h = laws.most_plus K a b c h

  pub plus_mono : {a b c d : E} → Most K a b → Most K c d → Most K (plus a c) (plus b d)
  plus_mono {a} {b} {c} {d} h k = laws.most_both K a b c d h k

  pub plus_most_left : {a b : E} (c : E) → Most K a b → Most K (plus c a) (plus c b)
  plus_most_left {a} {b} c h = plus_mono (most_refl c) h

  pub cancel : {a b c : E} → Most K (plus a c) (plus b c) → Most K a b
  cancel {a} {b} {c} h = elim (split b a) [ inl j ↦ absurd (never h (K.shift b a c j)) | inr j ↦ j ]

  pub cancel_left : {a b c : E} → Most K (plus c a) (plus c b) → Most K a b
  cancel_left {a} {b} {c} h = cancel {c = c} (subst₂ (Most K) (K.plus_comm c a) (K.plus_comm c b) h)

  pub plus_left_comm : (a b c : E) → plus a (plus b c) ≡ plus b (plus a c)
  plus_left_comm a b c = sym (K.plus_assoc a b c) ∙ ap (λ x. plus x c) (K.plus_comm a b) ∙ K.plus_assoc b a c

  -- once a convex row does not fall, it does not fall again
  pub flat_on : {a b c : E} → Most K (plus b b) (plus a c) → Most K a b → Most K b c
  flat_on {a} {b} {c} bend h = cancel_left (most_trans bend (plus_most c h))

  pub sum_bends : {a b c p q r : E} → Most K (plus b b) (plus a c) → Most K (plus q q) (plus p r) → Most K (plus (plus b q) (plus b q)) (plus (plus a p) (plus c r))
  sum_bends {a} {b} {c} {p} {q} {r} h k = subst₂ (Most K) (sym (laws.regroup K b q b q)) (sym (laws.regroup K a p c r)) (plus_mono h k)
