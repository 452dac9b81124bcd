-- The best minute among those looked through, minute by minute. Assumes nothing.
use Rattle.std.proofs.Common.{◌≡◌, ℕ, ◌+◌, ◌<◌, ◌≤◌, Bool, true, false, cond, leb, Some, None, Option, sym, refl, ap, ◌∙◌, subst, ⊎_elim, arith}
use Rattle.std.proofs.lemmas.Bool.{cases_Bool, cases_lt, and_parts, leb-true, le-leb, and_from, cond-true}
use Rattle.cost.specs.Algebra.{Algebra, Less, Most}
use Rattle.cost.proofs.Laws.{not_back}
use Rattle.source.specs.Meaning.{Curve, Sound, span_of, price_of, holds}
use Rattle.source.specs.Cheapest.{CheapestOf, better}
use Rattle.source.proofs.Entries.{none_some, some_same, cond_some}

module _ {E : Type 0} (K : Algebra E) (o : Option (Curve E)) where
  -- m costs x, nothing from a to before b costs less, and nothing from a to before m costs as little
  pub record Leads (a b m : ℕ) (x : E) : Type 0 where
    pub cost : price_of o m ≡ Some x
    pub least : (t : ℕ) (y : E) → a ≤ t → t < b → price_of o t ≡ Some y → Most K x y
    pub earliest : (t : ℕ) (y : E) → a ≤ t → t < m → price_of o t ≡ Some y → Less K x y

  abbrev pub Found : ℕ → ℕ → Option (ℕ × E) → Type 0
  Found a b None = (t : ℕ) → a ≤ t → t < b → price_of o t ≡ None
  Found a b (Some p) = Leads a b p.0 p.1

  less_most : (x y z : E) → Less K x y → Most K y z → Less K x z
  less_most x y z h k =
      ⊎_elim (λ t. K.trans x y z h t) (λ t. subst (λ (v : E). Less K x v) (K.total y z t k) h) (cases_Bool (K.less y z))

  -- a minute is below b, or is b
  below_or : (P : ℕ → Type 0) (b t : ℕ) → t < b + 1 → (t < b → P t) → P b → P t
  below_or P b t h f p = ⊎_elim f (λ k. subst P (let e : b ≡ t = omega arith in e) p) (cases_lt t b)

  some_is : {X : Type 0} (v : Option X) (x y : X) → v ≡ Some x → v ≡ Some y → x ≡ y
  some_is v x y e f = cc

  none_is : {X : Type 0} (v : Option X) (y : X) (P : Type 0) → v ≡ None → v ≡ Some y → P
  none_is v y P e f = none_some y P (sym e ∙ f)

  pub found_none : (a b : ℕ) → b ≤ a → Found a b None
  found_none a b h t l k = absurd (omega arith)

  first_found : (a b : ℕ) (x : E) → price_of o b ≡ Some x → Found a b None → Leads a (b + 1) b x
  first_found a b x e f = record {
    cost = e;
    least = λ t y h l p.
        below_or (λ (s : ℕ). price_of o s ≡ Some y → Most K x y) b t l (λ k q. none_is (price_of o t) y (Most K x y) (f t h k) q)
        (λ q. subst (λ (v : E). Most K x v) (some_is (price_of o b) x y e q) (K.strict x)) p;
    earliest = λ t y h l p. none_is (price_of o t) y (Less K x y) (f t h l) p;
  }

  kept : (a b m : ℕ) (x z : E) → price_of o b ≡ Some x → K.less x z ≡ false → Leads a b m z → Leads a (b + 1) m z
  kept a b m x z e n f = record {
    cost = f.cost;
    least = λ t y h l p.
        below_or (λ (s : ℕ). price_of o s ≡ Some y → Most K z y) b t l (λ k q. f.least t y h k q)
        (λ q. subst (λ (v : E). Most K z v) (some_is (price_of o b) x y e q) n) p;
    earliest = f.earliest;
  }

  taken : (a b m : ℕ) (x z : E) → price_of o b ≡ Some x → K.less x z ≡ true → Leads a b m z → Leads a (b + 1) b x
  taken a b m x z e n f = record {
    cost = e;
    least = λ t y h l p.
        below_or (λ (s : ℕ). price_of o s ≡ Some y → Most K x y) b t l (λ k q. not_back K x y (less_most x z y n (f.least t y h k p)))
        (λ q. subst (λ (v : E). Most K x v) (some_is (price_of o b) x y e q) (K.strict x)) p;
    earliest = λ t y h l p. less_most x z y n (f.least t y h l p);
  }

  chosen : (a b m : ℕ) (x z : E) (t : Bool) → price_of o b ≡ Some x → K.less x z ≡ t → Leads a b m z → Found a (b + 1) (cond t (Some (b, x)) (Some (m, z)))
  chosen a b m x z true e n f = taken a b m x z e n f
  chosen a b m x z false e n f = kept a b m x z e n f

  none_more : (a b t : ℕ) → price_of o b ≡ None → Found a b None → a ≤ t → t < b + 1 → price_of o t ≡ None
  none_more a b t e f h l = below_or (λ (s : ℕ). price_of o s ≡ None) b t l (λ k. f t h k) e

  -- one more minute
  pub found_more : (a b : ℕ) (r : Option (ℕ × E)) (v : Option E) → v ≡ price_of o b → Found a b r → Found a (b + 1) (better K r b v)
  found_more a b None None e f = λ t h l. none_more a b t (sym e) f h l
  found_more a b (Some p) None e f = record {
    cost = f.cost;
    least = λ t y h l q.
        below_or (λ (s : ℕ). price_of o s ≡ Some y → Most K p.1 y) b t l (λ k v. f.least t y h k v) (λ v. none_is (price_of o b) y (Most K p.1 y) (sym e) v) q;
    earliest = f.earliest;
  }
  found_more a b None (Some x) e f = first_found a b x (sym e) f
  found_more a b (Some p) (Some x) e f = chosen a b p.0 x p.1 (K.less x p.1) (sym e) refl f

-- a minute with a cost lies in the window
within : {E : Type 0} (o : Option (Curve E)) (a l t : ℕ) (y : E) → span_of o ≡ Some (a, l) → price_of o t ≡ Some y → (a ≤ t) × (t ≤ l)
within None a l t y e p = none_some y _ p
within (Some c) a l t y e p =
    let k = cond_some (holds c t) (c.cost t) y p in
    let q = and_parts (leb c.first t) (leb t c.last) k.0 in
    let s = some_same (c.first, c.last) (a, l) e in
    let f : c.first ≡ a = ap (λ (z : ℕ × ℕ). z.0) s in
    let g : c.last ≡ l = ap (λ (z : ℕ × ℕ). z.1) s in
    (omega (arith, leb-true _ _ q.0), omega (arith, leb-true _ _ q.1))

-- the first minute of an open curve has a cost
begins : {E : Type 0} (K : Algebra E) (p : ℕ) (o : Option (Curve E)) (a l : ℕ)
    → ((c : Curve E) → o ≡ Some c → Sound K p c) → span_of o ≡ Some (a, l) → (a ≤ l) × ((x : E) × (price_of o a ≡ Some x))
begins K p None a l h e = none_some (a, l) _ e
begins K p (Some c) a l h e =
    let s = some_same (c.first, c.last) (a, l) e in
    let f : c.first ≡ a = ap (λ (z : ℕ × ℕ). z.0) s in
    let g : c.last ≡ l = ap (λ (z : ℕ × ℕ). z.1) s in
    let d : a ≤ l = omega (arith, (h c refl).order) in
    (d, (c.cost a, cond-true (holds c a) (Some (c.cost a)) None (and_from (leb c.first a) (leb a c.last) (le-leb _ _ (omega arith)) (le-leb _ _ (omega arith)))))

-- the whole window looked through
pub found_all : {E : Type 0} (K : Algebra E) (p : ℕ) (o : Option (Curve E)) (a l b : ℕ) (r : Option (ℕ × E))
    → ((c : Curve E) → o ≡ Some c → Sound K p c) → span_of o ≡ Some (a, l) → l < b → Found K o a b r → CheapestOf K o r
found_all K p o a l b None h e n f =
    let s = begins K p o a l h e in
    none_is K o (price_of o a) s.1.0 (span_of o ≡ None) (f a (omega arith) (omega (arith, s.0))) s.1.1
found_all K p o a l b (Some q) h e n f = record {
  cost = f.cost;
  least = λ t y v. let w = within o a l t y e v in f.least t y w.0 (omega (arith, w.1)) v;
  earliest = λ t y v m. let w = within o a l t y e v in f.earliest t y w.0 m v;
}
