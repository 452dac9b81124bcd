-- The test of a head against the conditions on it. Assumes nothing.
use Rattle.std.proofs.Common.{◌≡◌, ℕ, zero, suc, ◌+◌, ◌-◌, ◌<◌, ◌≤◌, Bool, true, false, ◌&&◌, leb, eqb, List, [], ◌∷◌, length, drop, ℤ, pos, negsuc, ◌≤ℤ◌, sym, refl, ap, ◌∙◌, subst, ⊎_elim, add-one, arith, length-drop, length-take, get_or-drop, get_or-take}
use lib.Signed.{le_z}
use Rattle.std.specs.List.{IsAllAdjacentAnswer}
use Rattle.std.proofs.lemmas.Int.{ints, clamps}
use Rattle.std.proofs.lemmas.Bool.{and_parts, and_from, leb-true, le-leb, ltb-true, lt-ltb, eqb-true, eq-eqb, cases_lt}
use Rattle.bend_book.specs.Bends.{cost_after, lowest_after, own_bends}
use Rattle.bend_book.specs.Heads.{bend_at, own_bend, LawfulHead}
use Rattle.bend_book.specs.HeadTest.{head_limits, bend_fits, each_fits, follows, each_follows, orderly, own_lawful, head_lawful, TestExact}
use Rattle.bend_book.specs.declared.bend.Bend.{Bend}
use Rattle.bend_book.specs.declared.bend.BendHead.{BendHead}

and_true : (x y : Bool) → true ≡ x → (x && y) ≡ y
and_true true y e = refl
and_true false y e = cc

abbrev none : Bend
none = record { minute = 0; step = pos 0 }

pub le_z_true : (a b : ℤ) → le_z a b ≡ true → a ≤ℤ b
le_z_true a b e = grind (arith, ints)

pub le_le_z : (a b : ℤ) → a ≤ℤ b → le_z a b ≡ true
le_le_z a b h = grind (arith, ints)

pub fits_parts : (last : ℕ) (b : Bend) → bend_fits last b ≡ true → (b.minute ≤ last) × (negsuc 999 ≤ℤ b.step) × (b.step ≤ℤ pos 1000)
fits_parts last b e =
    let p = and_parts (leb b.minute last) (le_z (negsuc 999) b.step && le_z b.step (pos 1000)) e in
    let q = and_parts (le_z (negsuc 999) b.step) (le_z b.step (pos 1000)) p.1 in
    (leb-true _ _ p.0, le_z_true _ _ q.0, le_z_true _ _ q.1)

-- each bend
pub fits_each : (last : ℕ) (bs : List Bend) → each_fits last bs ≡ true → (i : ℕ) → i < length bs → bend_fits last (bend_at bs i) ≡ true
fits_each last [] e i h = absurd (omega arith)
fits_each last (b ∷ bs) e zero h = (and_parts _ _ e).0
fits_each last (b ∷ bs) e (suc i) h = fits_each last bs (and_parts _ _ e).1 i (omega arith)

fits_from : (last : ℕ) (bs : List Bend) → ((i : ℕ) → i < length bs → bend_fits last (bend_at bs i) ≡ true) → each_fits last bs ≡ true
fits_from last [] f = refl
fits_from last (b ∷ bs) f = and_from _ _ (f 0 (omega arith)) (fits_from last bs (λ i h. f (suc i) (omega arith)))

follows_each : (a : Bend) (bs : List Bend) → each_follows a bs ≡ true → (i : ℕ) → i < length bs → follows (bend_at (a ∷ bs) i) (bend_at bs i) ≡ true
follows_each a [] e i h = absurd (omega arith)
follows_each a (b ∷ bs) e zero h = (and_parts _ _ e).0
follows_each a (b ∷ bs) e (suc i) h = follows_each b bs (and_parts _ _ e).1 i (omega arith)

follows_from : (a : Bend) (bs : List Bend) → ((i : ℕ) → i < length bs → follows (bend_at (a ∷ bs) i) (bend_at bs i) ≡ true) → each_follows a bs ≡ true
follows_from a [] f = refl
follows_from a (b ∷ bs) f = and_from _ _ (f 0 (omega arith)) (follows_from b bs (λ i h. f (suc i) (omega arith)))

refuted : (r : Bool) → (r ≡ true → ⊥) → false ≡ r
refuted true f = absurd (f refl)
refuted false f = refl

-- the answer of the library on each two neighbours is the test of the bends behind the first
neighbours : (b : Bend) (bs : List Bend) (r : Bool) → IsAllAdjacentAnswer (λ x y v. v ≡ follows x y) (b ∷ bs) r → r ≡ each_follows b bs
neighbours b bs true h =
    sym (follows_from b bs (λ i l.
    let e : i + 1 ≡ suc i = add-one i in
    subst (λ (k : ℕ). follows (bend_at (b ∷ bs) i) (bend_at (b ∷ bs) k) ≡ true) e (sym (h i none (omega arith)))))
neighbours b bs false (k, l, f) =
    refuted _ (λ e.
    let s : k + 1 ≡ suc k = add-one k in
    let no : false ≡ follows (bend_at (b ∷ bs) k) (bend_at bs k) = subst (λ (m : ℕ). false ≡ follows (bend_at (b ∷ bs) k) (bend_at (b ∷ bs) m)) s (f none) in
    let yes = follows_each b bs e k (omega arith) in
    let both : false ≡ true = no ∙ yes in
    cc)

pub orderly_told : (first : ℕ) (bs : List Bend) (r : Bool) → 0 < length bs → eqb (bend_at bs 0).minute first ≡ true → IsAllAdjacentAnswer (λ x y v. v ≡ follows x y) bs r → r ≡ orderly first bs
orderly_told first [] r l e h = absurd (omega arith)
orderly_told first (b ∷ bs) r l e h = neighbours b bs r h ∙ sym (and_true _ _ (sym e))

orderly_first : (first : ℕ) (bs : List Bend) → orderly first bs ≡ true → 0 < length bs → (bend_at bs 0).minute ≡ first
orderly_first first [] e h = absurd (omega arith)
orderly_first first (b ∷ bs) e h = eqb-true _ _ (and_parts _ _ e).0

orderly_each : (first : ℕ) (bs : List Bend) → orderly first bs ≡ true → (i : ℕ) → suc i < length bs → follows (bend_at bs i) (bend_at bs (suc i)) ≡ true
orderly_each first [] e i h = absurd (omega arith)
orderly_each first (b ∷ bs) e i h = follows_each b bs (and_parts _ _ e).1 i (omega arith)

orderly_when : (first : ℕ) (bs : List Bend) → (0 < length bs → (bend_at bs 0).minute ≡ first) → ((i : ℕ) → suc i < length bs → follows (bend_at bs i) (bend_at bs (suc i)) ≡ true) → orderly first bs ≡ true
orderly_when first [] f g = refl
orderly_when first (b ∷ bs) f g = and_from _ _ (eq-eqb _ _ (f (omega arith))) (follows_from b bs (λ i h. g i (omega arith)))

-- the least cost against each cost
module _ (start : ℕ) (bs : List Bend) (first : ℕ) where
  pub low_each : (n : ℕ) → pos 0 ≤ℤ lowest_after start bs first n → (k : ℕ) → k ≤ n → pos 0 ≤ℤ cost_after start bs first k
  low_each zero h k l = let e : 0 ≡ k = omega arith in subst (λ (m : ℕ). pos 0 ≤ℤ cost_after start bs first m) e h
  low_each (suc n) h k l =
      ⊎_elim
      (λ m. let g : pos 0 ≤ℤ lowest_after start bs first n = omega (arith, ints, clamps) in low_each n g k (omega arith))
      (λ m. let g : pos 0 ≤ℤ cost_after start bs first (suc n) = omega (arith, ints, clamps) in let e : suc n ≡ k = omega arith in subst (λ (j : ℕ). pos 0 ≤ℤ cost_after start bs first j) e g)
      (cases_lt k (suc n))

  low_from : (n : ℕ) → ((k : ℕ) → k ≤ n → pos 0 ≤ℤ cost_after start bs first k) → pos 0 ≤ℤ lowest_after start bs first n
  low_from zero f = f 0 (omega arith)
  low_from (suc n) f =
      let a = low_from n (λ k h. f k (omega arith)) in
      let b : pos 0 ≤ℤ cost_after start bs first (suc n) = f (suc n) (omega arith) in
      omega (arith, ints, clamps)

-- bend i of the head is entry i of its own bends
own_read : (table : List Bend) (h : BendHead) (i : ℕ) → i < h.count → bend_at (own_bends table h) i ≡ own_bend table h i
own_read table h i l = get_or-take h.count (drop h.from table) i _ l ∙ get_or-drop h.from table i _

module _ (table : List Bend) (h : BendHead) (limits : head_limits h ≡ true) (own : own_lawful h (own_bends table h) ≡ true) where
  own_length : length (own_bends table h) ≡ h.count
  own_length = eqb-true _ _ (and_parts _ _ own).0

  rest : (orderly h.first (own_bends table h) ≡ true) × ((each_fits h.last (own_bends table h) && le_z (pos 0) (lowest_after h.start (own_bends table h) h.first (h.last - h.first))) ≡ true)
  rest = and_parts _ _ (and_parts _ _ own).1

  pair_follows : (i : ℕ) → i + 1 < h.count → follows (own_bend table h i) (own_bend table h (i + 1)) ≡ true
  pair_follows i l =
      let k : i < h.count = omega arith in
      let e = orderly_each h.first (own_bends table h) rest.0 i (omega (arith, own_length)) in
      let p = own_read table h i k in
      let q = ap (bend_at (own_bends table h)) (sym (add-one i)) in
      let r = own_read table h (i + 1) l in
      subst (λ (b : Bend). follows b (own_bend table h (i + 1)) ≡ true) p (subst (λ (b : Bend). follows (bend_at (own_bends table h) i) b ≡ true) (q ∙ r) e)

  one_fits : (i : ℕ) → i < h.count → bend_fits h.last (own_bend table h i) ≡ true
  one_fits i l =
      subst (λ (b : Bend). bend_fits h.last b ≡ true) (own_read table h i l) (fits_each h.last (own_bends table h) (and_parts _ _ rest.1).0 i (omega (arith, own_length)))

  limit_0 : (leb h.first h.last ≡ true) × ((leb h.last 1440 && (leb h.start 500000 && leb h.count 16)) ≡ true)
  limit_0 = and_parts _ _ limits

  limit_1 : (leb h.last 1440 ≡ true) × ((leb h.start 500000 && leb h.count 16) ≡ true)
  limit_1 = and_parts _ _ limit_0.1

  limit_2 : (leb h.start 500000 ≡ true) × (leb h.count 16 ≡ true)
  limit_2 = and_parts _ _ limit_1.1

  exists_each : (i : ℕ) → i < h.count → h.from + i < length table
  exists_each i l = omega (arith, own_length, length-take h.count (drop h.from table), length-drop h.from table)

  met : LawfulHead table h
  met = record {
    ordered = leb-true _ _ limit_0.0;
    day = leb-true _ _ limit_1.0;
    cheap = leb-true _ _ limit_2.0;
    few = leb-true _ _ limit_2.1;
    exist = exists_each;
    begins = λ l. ap (λ (b : Bend). b.minute) (sym (own_read table h 0 l)) ∙ orderly_first h.first (own_bends table h) rest.0 (omega (arith, own_length));
    rise = λ i l. ltb-true _ _ (and_parts _ _ (pair_follows i l)).0;
    within = λ i l. (fits_parts h.last (own_bend table h i) (one_fits i l)).0;
    low = λ i l. (fits_parts h.last (own_bend table h i) (one_fits i l)).1;
    high = λ i l. (fits_parts h.last (own_bend table h i) (one_fits i l)).2;
    climb = λ i l. le_z_true _ _ (and_parts _ _ (pair_follows i l)).1;
    above = λ t l k. low_each h.start (own_bends table h) h.first (h.last - h.first) (le_z_true _ _ (and_parts _ _ rest.1).1) (t - h.first) (omega arith);
  }

module _ (table : List Bend) (h : BendHead) (law : LawfulHead table h) where
  all_there : length (own_bends table h) ≡ h.count
  all_there =
      ⊎_elim
      (λ z. omega (arith, length-take h.count (drop h.from table)))
      (λ z. omega (arith, law.exist (h.count - 1) (omega arith), length-take h.count (drop h.from table), length-drop h.from table))
      (cases_lt h.count 1)

  met_follows : (i : ℕ) → suc i < length (own_bends table h) → follows (bend_at (own_bends table h) i) (bend_at (own_bends table h) (suc i)) ≡ true
  met_follows i l =
      let k : i < h.count = omega (arith, all_there) in
      let m : i + 1 < h.count = omega (arith, all_there) in
      let p = own_read table h i k in
      let q = ap (bend_at (own_bends table h)) (sym (add-one i)) ∙ own_read table h (i + 1) m in
      let e = and_from _ _ (lt-ltb _ _ (law.rise i m)) (le_le_z _ _ (law.climb i m)) in
      subst (λ (b : Bend). follows (bend_at (own_bends table h) i) b ≡ true) (sym q) (subst (λ (b : Bend). follows b (own_bend table h (i + 1)) ≡ true) (sym p) e)

  met_fits : (i : ℕ) → i < length (own_bends table h) → bend_fits h.last (bend_at (own_bends table h) i) ≡ true
  met_fits i l =
      let k : i < h.count = omega (arith, all_there) in
      let e = and_from _ _ (le-leb _ _ (law.within i k)) (and_from _ _ (le_le_z _ _ (law.low i k)) (le_le_z _ _ (law.high i k))) in
      subst (λ (b : Bend). bend_fits h.last b ≡ true) (sym (own_read table h i k)) e

  met_first : 0 < length (own_bends table h) → (bend_at (own_bends table h) 0).minute ≡ h.first
  met_first l = let k : 0 < h.count = omega (arith, all_there) in ap (λ (b : Bend). b.minute) (own_read table h 0 k) ∙ law.begins k

  met_above : (k : ℕ) → k ≤ h.last - h.first → pos 0 ≤ℤ cost_after h.start (own_bends table h) h.first k
  met_above k l =
      let e : (h.first + k) - h.first ≡ k = omega arith in
      let g = law.above (h.first + k) (omega arith) (omega (arith, law.ordered)) in
      subst (λ (n : ℕ). pos 0 ≤ℤ cost_after h.start (own_bends table h) h.first n) e g

  pub orderly_met : orderly h.first (own_bends table h) ≡ true
  orderly_met = orderly_when h.first (own_bends table h) met_first met_follows

  pub fits_met : each_fits h.last (own_bends table h) ≡ true
  fits_met = fits_from h.last (own_bends table h) met_fits

  tested : head_lawful table h ≡ true
  tested =
      and_from _ _ (and_from _ _ (le-leb _ _ law.ordered) (and_from _ _ (le-leb _ _ law.day) (and_from _ _ (le-leb _ _ law.cheap) (le-leb _ _ law.few))))
      (and_from _ _ (eq-eqb _ _ all_there)
      (and_from _ _ orderly_met
      (and_from _ _ fits_met
      (le_le_z _ _ (low_from h.start (own_bends table h) h.first (h.last - h.first) met_above)))))

pub test_exact : TestExact
test_exact table h = (λ e. met table h (and_parts _ _ e).0 (and_parts _ _ e).1, λ law. tested table h law)
