-- What the examinations leave when none of them speaks against a splice, and which numbers they give.
use Rattle.std.proofs.Common.{◌≡◌, ℕ, ◌+◌, ◌≤◌, Bool, true, false, cond, ◌||◌, ltb, leb, List, length, Some, None, Option, sym, refl, arith}
use borrow.Author.Tests.{false-leb, false-ltb}
use Rattle.source.specs.Meaning.{Meaning}
use Rattle.route.specs.declared.stop.Splice.{Splice}
use Rattle.route.specs.declared.stop.Splice.TheVariants.{Insert, Remove, Change}
use Rattle.route.specs.Plain.{Plain}
use Rattle.route.specs.Judged.{outside, objection}
use Rattle.route.specs.Joins.{objection_to_join}
use Rattle.route.specs.Steps.{HasPlace}

pub passed : (b : Bool) (n : ℕ) (o : Option ℕ) → cond b (Some n) o ≡ None → (b ≡ false) × (o ≡ None)
passed true n o e = absurd (let z : ◌≡◌ {A = ℕ} 0 1 = cc in omega arith)
passed false n o e = (refl, e)

pub both_false : (a b : Bool) → (a || b) ≡ false → (false ≡ a) × (false ≡ b)
both_false true b e = absurd (let z : ◌≡◌ {A = ℕ} 0 1 = cc in omega arith)
both_false false b e = (refl, sym e)

pub within : (p n : ℕ) → outside p n ≡ false → (1 ≤ p) × (p ≤ n)
within p n e = let h = both_false (ltb p 1) (ltb n p) e in let a = false-ltb p 1 h.0 in let b = false-ltb n p h.1 in (omega arith, omega arith)

-- a splice that nothing speaks against has its place
pub has_place : {E : Type 0} (m : Meaning E) (ps : List Plain) (s : Splice) → objection m ps s ≡ None → HasPlace (length ps) s
has_place m ps (Insert p k a b) e =
    let h = passed _ 1 _ e in
    let w = within p (length ps + 1) h.0 in
    (w.0, w.1, false-leb 64 (length ps) (sym (passed (leb 64 (length ps)) 2 _ h.1).0))
has_place m ps (Remove p l) e = within p (length ps) (passed _ 1 _ e).0
has_place m ps (Change p k) e = within p (length ps) (passed _ 1 _ e).0

-- a join that nothing speaks against has its places
pub join_free : (front i leg back j : ℕ) → objection_to_join front i leg back j ≡ None → (i ≤ front) × (1 ≤ j) × (j ≤ back + 1)
join_free front i leg back j e =
    let h = both_false (ltb front i) (outside j (back + 1)) (passed _ 1 _ e).0 in
    let w = within j (back + 1) (sym h.1) in
    (false-ltb front i h.0, w.0, w.1)
