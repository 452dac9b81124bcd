-- Every card of the table holds.
use Rattle.std.proofs.Common.{◌≡◌, ℕ, ◌≤◌, Bool, true, false, ◌&&◌, List, [], ◌∷◌, map, reverse, length, Some, None, Ok, Err, Option, sym, refl, subst, arith}
use Rattle.std.proofs.lemmas.Bool.{and_parts}
use Rattle.cost.specs.Algebra.{Algebra}
use Rattle.cost.specs.Amounts.{whole}
use Rattle.cost.specs.Pairs.{paired}
use Rattle.source.specs.Meaning.{Meaning, Lawful}
use Rattle.source.specs.Due.{due_meaning}
use Rattle.source.proofs.Rows.{due_lawful}
use Rattle.source.proofs.Layered.{pairing_lawful}
use Rattle.timing.specs.Convex.{Bends}
use Rattle.timing.specs.Best.{Best}
use Rattle.timing.specs.Marks.{Marks}
use Rattle.timing.specs.Reach.{missed}
use Rattle.timing.specs.Timetables.{bill}
use Rattle.timing.specs.Minutes.{minutes}
use Rattle.timing.proofs.Theorems.{marks_best}
use Rattle.route.specs.declared.stop.Facts.{Facts}
use Rattle.route.specs.declared.stop.Splice.{Splice}
use Rattle.route.specs.declared.stop.Splice.TheVariants.{Insert, Remove}
use Rattle.route.specs.declared.stop.Refusal.TheVariants.{NoTimetable}
use Rattle.route.specs.Plain.{Plain, spliced, visits}
use Rattle.route.specs.Judged.{Answer, objection, Runs}
use Rattle.route.specs.Joins.{JoinJudged, accepted}
use Rattle.route.specs.Guarantee.{Read, told, told_mark, told_minute}
use Rattle.route.proofs.Soundness.{lawful_sound}
use Rattle.card_table.specs.Cards.{rows, late_row, money, promise, CardsHold}
use Rattle.card_table.proofs.Checks.{marks_fit, marks_from, accepts, blocks}

-- what is told of all stops, read after a run, is right where the tests say so
module _ {E : Type 0} (K : Algebra E) (m : Meaning E) (law : Lawful K m) (ss : List Splice) (rs : List Answer) (fs : List Facts) (c : E) where
  pub reads : Runs K m [] ss rs (map told fs) → length (map told fs) ≤ 1024 → length (map told_mark fs) ≡ length (visits K m (map told fs))
      → (qs : List Plain) → length qs ≤ 1024 → visits K m qs ≡ reverse (visits K m (map told fs))
      → marks_fit K (reverse (visits K m (map told fs))) (reverse (map told_mark fs)) ≡ true
      → map told_minute fs ≡ minutes (visits K m (map told fs)) (map told_mark fs)
      → bill K (visits K m (map told fs)) (map told_minute fs) ≡ c
      → Read K m ss rs (length fs) fs c
  reads run few many qs small back fit served paid =
      let vs = visits K m (map told fs) in
      let p : Bends K vs = (lawful_sound K m law (map told fs) few).bends in
      let q : Bends K (reverse vs) = subst (Bends K) back (lawful_sound K m law qs small).bends in
      let marks : Marks K vs (map told_mark fs) = marks_from K vs (map told_mark fs) many p q fit in
      record {
        runs = run;
        count = refl;
        marked = marks;
        best = subst (Best K vs) (sym served) (marks_best K vs (map told_mark fs) p marks);
        least = paid;
        served = served;
      }

law_money : Lawful whole money
law_money = due_lawful rows

law_promise : Lawful (paired whole whole) promise
law_promise = pairing_lawful whole whole (due_meaning (map late_row rows)) money (due_lawful (map late_row rows)) law_money

none : Option ℕ → Bool
none None = true
none (Some n) = false

is_none : (o : Option ℕ) → none o ≡ true → o ≡ None
unfolding none
is_none None e = refl
is_none (Some n) e = absurd (let z : ◌≡◌ {A = ℕ} 0 1 = cc in omega arith)

module _ {E : Type 0} (K : Algebra E) (m : Meaning E) where
  -- the stops after splices that are all accepted
  abbrev after : List Splice → List Plain → List Plain
  after [] ps = ps
  after (s ∷ ss) ps = after ss (spliced s ps)

  abbrev yes_each : List Splice → List Answer
  yes_each [] = []
  yes_each (s ∷ ss) = Ok tt ∷ yes_each ss

  -- nothing speaks against any of them, and no stop is missed
  abbrev all_fit : List Splice → List Plain → Bool
  all_fit [] ps = true
  all_fit (s ∷ ss) ps = none (objection m ps s) && (none (missed 0 (visits K m (spliced s ps)) 1) && all_fit ss (spliced s ps))

  all_accepted : (ss : List Splice) (ps : List Plain) → all_fit ss ps ≡ true → Runs K m ps ss (yes_each ss) (after ss ps)
  all_accepted [] ps e = refl
  all_accepted (s ∷ ss) ps e =
      let a = and_parts _ _ e in
      let b = and_parts _ _ a.1 in
      (spliced s ps, accepts K m ps s (is_none _ a.0) (is_none _ b.0), all_accepted ss (spliced s ps) b.1)

abbrev stop : ℕ → ℕ → ℕ → ℕ → Facts
stop curve leg mark minute = record { curve = curve; leg = leg; mark = mark; minute = minute }

abbrev plain : ℕ → ℕ → Plain
plain k l = record { curve = k; leg = l }

abbrev one : List Splice
one = Insert 1 0 0 0 ∷ []

abbrev two : List Splice
two = Insert 1 0 0 0 ∷ Insert 2 1 10 0 ∷ []

abbrev three : List Splice
three = Insert 1 0 0 0 ∷ Insert 2 1 10 0 ∷ Insert 1 2 0 6 ∷ []

abbrev four : List Splice
four = Insert 1 0 0 0 ∷ Insert 2 1 10 0 ∷ Insert 1 2 0 6 ∷ Remove 2 20 ∷ []

abbrev within : List Splice
within = Insert 1 2 0 0 ∷ Insert 2 2 20 0 ∷ []

abbrev beyond : List Splice
beyond = Insert 1 2 0 0 ∷ Insert 2 2 21 0 ∷ []

abbrev dear : List Splice
dear = Insert 1 3 0 0 ∷ Insert 2 1 10 0 ∷ []

card_none : Read whole money [] [] 0 [] 0
unfolding none
card_none = reads whole money law_money [] [] [] 0 (all_accepted whole money [] [] refl) (omega arith) refl [] (omega arith) refl refl refl refl

card_one : Read whole money one (Ok tt ∷ []) 1 (stop 0 0 600 600 ∷ []) 0
unfolding none
card_one = reads whole money law_money one (Ok tt ∷ []) (stop 0 0 600 600 ∷ []) 0 (all_accepted whole money one [] refl) (omega arith) refl (plain 0 0 ∷ []) (omega arith) refl refl refl refl

card_two : Read whole money two (Ok tt ∷ Ok tt ∷ []) 2 (stop 0 0 600 595 ∷ stop 1 10 605 605 ∷ []) 5
unfolding none
card_two =
    reads whole money law_money two (Ok tt ∷ Ok tt ∷ []) (stop 0 0 600 595 ∷ stop 1 10 605 605 ∷ []) 5
    (all_accepted whole money two [] refl) (omega arith) refl (plain 1 10 ∷ plain 0 0 ∷ []) (omega arith) refl refl refl refl

card_three : Read whole money three (Ok tt ∷ Ok tt ∷ Ok tt ∷ []) 3 (stop 2 0 590 590 ∷ stop 0 6 600 596 ∷ stop 1 10 606 606 ∷ []) 6
unfolding none
card_three =
    reads whole money law_money three (Ok tt ∷ Ok tt ∷ Ok tt ∷ []) (stop 2 0 590 590 ∷ stop 0 6 600 596 ∷ stop 1 10 606 606 ∷ []) 6
    (all_accepted whole money three [] refl) (omega arith) refl (plain 1 10 ∷ plain 0 6 ∷ plain 2 0 ∷ []) (omega arith) refl refl refl refl

card_four : Read whole money four (Ok tt ∷ Ok tt ∷ Ok tt ∷ Ok tt ∷ []) 2 (stop 2 0 590 590 ∷ stop 1 20 610 610 ∷ []) 10
unfolding none
card_four =
    reads whole money law_money four (Ok tt ∷ Ok tt ∷ Ok tt ∷ Ok tt ∷ []) (stop 2 0 590 590 ∷ stop 1 20 610 610 ∷ []) 10
    (all_accepted whole money four [] refl) (omega arith) refl (plain 1 20 ∷ plain 2 0 ∷ []) (omega arith) refl refl refl refl

card_within : Read whole money within (Ok tt ∷ Ok tt ∷ []) 2 (stop 2 0 590 590 ∷ stop 2 20 610 610 ∷ []) 0
unfolding none
card_within =
    reads whole money law_money within (Ok tt ∷ Ok tt ∷ []) (stop 2 0 590 590 ∷ stop 2 20 610 610 ∷ []) 0
    (all_accepted whole money within [] refl) (omega arith) refl (plain 2 20 ∷ plain 2 0 ∷ []) (omega arith) refl refl refl refl

card_beyond : Read whole money beyond (Ok tt ∷ Err (NoTimetable 2) ∷ []) 1 (stop 2 0 590 590 ∷ []) 0
card_beyond =
    reads whole money law_money beyond (Ok tt ∷ Err (NoTimetable 2) ∷ []) (stop 2 0 590 590 ∷ []) 0
    (plain 2 0 ∷ [], accepts whole money [] (Insert 1 2 0 0) refl refl, (plain 2 0 ∷ [], blocks whole money (plain 2 0 ∷ []) (Insert 2 2 21 0) 2 refl refl, refl))
    (omega arith) refl (plain 2 0 ∷ []) (omega arith) refl refl refl refl

card_dear : Read whole money dear (Ok tt ∷ Ok tt ∷ []) 2 (stop 3 0 600 600 ∷ stop 1 10 610 610 ∷ []) 10
unfolding none
card_dear =
    reads whole money law_money dear (Ok tt ∷ Ok tt ∷ []) (stop 3 0 600 600 ∷ stop 1 10 610 610 ∷ []) 10
    (all_accepted whole money dear [] refl) (omega arith) refl (plain 1 10 ∷ plain 3 0 ∷ []) (omega arith) refl refl refl refl

card_promise : Read (paired whole whole) promise dear (Ok tt ∷ Ok tt ∷ []) 2 (stop 3 0 600 595 ∷ stop 1 10 605 605 ∷ []) (0, 25)
unfolding none
card_promise =
    reads (paired whole whole) promise law_promise dear (Ok tt ∷ Ok tt ∷ []) (stop 3 0 600 595 ∷ stop 1 10 605 605 ∷ []) (0, 25)
    (all_accepted (paired whole whole) promise dear [] refl) (omega arith) refl (plain 1 10 ∷ plain 3 0 ∷ []) (omega arith) refl refl refl refl

-- joined, the two stops are those of the second card
join_two_four : JoinJudged whole money (plain 0 0 ∷ plain 1 10 ∷ []) 1 10 money (plain 2 0 ∷ plain 1 20 ∷ []) 2 (Ok 5)
join_two_four = accepted 5 refl (record { minutes = 595 ∷ 605 ∷ []; best = card_two.best; cost = refl })

pub cards_hold : CardsHold
unfolding none
cards_hold = (
  card_none,
  (
    card_one,
    (
      card_two,
      (
        card_three,
        (
          card_four,
          (
            card_within,
            (
              card_beyond,
              (
                (Ok tt ∷ Ok tt ∷ [], plain 0 0 ∷ plain 1 10 ∷ [], Ok tt ∷ Ok tt ∷ Ok tt ∷ Ok tt ∷ [], plain 2 0 ∷ plain 1 20 ∷ [], card_two.runs, card_four.runs, join_two_four),
                (
                  card_dear,
                  (
                    card_promise,
                    (
                      refl,
                      (
                        refl,
                        (refl, tt),
                      ),
                    ),
                  ),
                ),
              ),
            ),
          ),
        ),
      ),
    ),
  ),
)
