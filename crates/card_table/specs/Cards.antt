-- The cards: worked examples, in one table, and what it is for all of it to hold. Assumes nothing.
use Rattle.std.specs.Prelude.{◌≡◌, ℕ, List, [], ◌∷◌, map, length, pos, negsuc, Some, Ok, Err}
use Rattle.cost.specs.Amounts.{whole}
use Rattle.cost.specs.Pairs.{paired}
use Rattle.source.specs.declared.due.DueRow.{DueRow}
use Rattle.bend_book.specs.declared.bend.Bend.{Bend}
use Rattle.bend_book.specs.declared.bend.BendHead.{BendHead}
use Rattle.source.specs.Meaning.{Meaning, price_of}
use Rattle.source.specs.Due.{due_meaning}
use Rattle.bend_book.specs.BendBook.{bend_meaning}
use Rattle.source.specs.Layers.{pairing}
use Rattle.route.specs.declared.stop.Facts.{Facts}
use Rattle.route.specs.declared.stop.Splice.{Splice}
use Rattle.route.specs.declared.stop.Splice.TheVariants.{Insert, Remove}
use Rattle.route.specs.declared.stop.Refusal.TheVariants.{NoTimetable}
use Rattle.route.specs.Plain.{Plain}
use Rattle.route.specs.Judged.{Answer, Runs}
use Rattle.route.specs.Joins.{JoinJudged}
use Rattle.route.specs.Guarantee.{Read}

abbrev row : ℕ → ℕ → ℕ → ℕ → ℕ → DueRow
row first last due early late = record { first = first; last = last; due = due; early = early; late = late }

-- the due rows of all cards
abbrev pub rows : List DueRow
rows = row 0 1440 600 1 3 ∷ row 0 1440 605 2 2 ∷ row 590 610 600 0 0 ∷ row 0 1440 600 5 3 ∷ []

-- the same row by minutes late: a minute before the due one costs nothing, each after it 1
abbrev pub late_row : DueRow → DueRow
late_row r = record { first = r.first; last = r.last; due = r.due; early = 0; late = 1 }

-- what the rows cost in money
abbrev pub money : Meaning ℕ
money = due_meaning rows

-- minutes late first, then money
abbrev pub promise : Meaning (ℕ × ℕ)
promise = pairing (due_meaning (map late_row rows)) money

-- one curve by bends: 20 at minute 100, then 5 less each minute, from 104 on the same, from 106 on 3 more each minute, to 110
abbrev pub heads : List BendHead
heads = record { first = 100; last = 110; start = 20; from = 0; count = 3 } ∷ []

abbrev bend_down : Bend
bend_down = record { minute = 100; step = negsuc 4 }

abbrev bend_flat : Bend
bend_flat = record { minute = 104; step = pos 0 }

abbrev bend_up : Bend
bend_up = record { minute = 106; step = pos 3 }

abbrev pub bends : List Bend
bends = bend_down ∷ bend_flat ∷ bend_up ∷ []

pub data Card : Type 0 where
  -- splices on an empty route over the rows by money: how they are answered, the facts of all stops then, and the least cost
  by_money : List Splice → List Answer → List Facts → ℕ → Card
  -- the same by promise
  by_promise : List Splice → List Answer → List Facts → ℕ × ℕ → Card
  -- two lists of splices, each on an empty route by money; the first route's first i stops joined by a leg to the second's from place j on; the least cost
  join_money : List Splice → List Splice → ℕ → ℕ → ℕ → ℕ → Card
  -- the cost of the curve by bends at a minute
  by_bends : ℕ → ℕ → Card

abbrev pub Holds : Card → Type 0
Holds (by_money ss rs fs c) = Read whole money ss rs (length fs) fs c
Holds (by_promise ss rs fs c) = Read (paired whole whole) promise ss rs (length fs) fs c
Holds (join_money ss ts i leg j c) =
    (rs : List Answer) × (ps : List Plain) × (us : List Answer) × (qs : List Plain) × Runs whole money [] ss rs ps × Runs whole money [] ts us qs × JoinJudged whole money ps i leg money qs j (Ok c)
Holds (by_bends t c) = price_of ((bend_meaning bends heads).curve 0) t ≡ Some c

abbrev accepted : Answer
accepted = Ok tt

abbrev stop : ℕ → ℕ → ℕ → ℕ → Facts
stop curve leg mark minute = record { curve = curve; leg = leg; mark = mark; minute = minute }

abbrev one_stop : List Splice
one_stop = Insert 1 0 0 0 ∷ []

abbrev two_stops : List Splice
two_stops = Insert 1 0 0 0 ∷ Insert 2 1 10 0 ∷ []

abbrev three_stops : List Splice
three_stops = Insert 1 0 0 0 ∷ Insert 2 1 10 0 ∷ Insert 1 2 0 6 ∷ []

abbrev one_removed : List Splice
one_removed = Insert 1 0 0 0 ∷ Insert 2 1 10 0 ∷ Insert 1 2 0 6 ∷ Remove 2 20 ∷ []

abbrev pub table : List Card
table =
    by_money [] [] [] 0
    ∷ by_money one_stop (accepted ∷ []) (stop 0 0 600 600 ∷ []) 0
    ∷ by_money two_stops (accepted ∷ accepted ∷ []) (stop 0 0 600 595 ∷ stop 1 10 605 605 ∷ []) 5
    ∷ by_money three_stops (accepted ∷ accepted ∷ accepted ∷ []) (stop 2 0 590 590 ∷ stop 0 6 600 596 ∷ stop 1 10 606 606 ∷ []) 6
    ∷ by_money one_removed (accepted ∷ accepted ∷ accepted ∷ accepted ∷ []) (stop 2 0 590 590 ∷ stop 1 20 610 610 ∷ []) 10
    ∷ by_money (Insert 1 2 0 0 ∷ Insert 2 2 20 0 ∷ []) (accepted ∷ accepted ∷ []) (stop 2 0 590 590 ∷ stop 2 20 610 610 ∷ []) 0
    ∷ by_money (Insert 1 2 0 0 ∷ Insert 2 2 21 0 ∷ []) (accepted ∷ Err (NoTimetable 2) ∷ []) (stop 2 0 590 590 ∷ []) 0
    ∷ join_money two_stops one_removed 1 10 2 5
    ∷ by_money (Insert 1 3 0 0 ∷ Insert 2 1 10 0 ∷ []) (accepted ∷ accepted ∷ []) (stop 3 0 600 600 ∷ stop 1 10 610 610 ∷ []) 10
    ∷ by_promise (Insert 1 3 0 0 ∷ Insert 2 1 10 0 ∷ []) (accepted ∷ accepted ∷ []) (stop 3 0 600 595 ∷ stop 1 10 605 605 ∷ []) (0, 25)
    ∷ by_bends 103 5
    ∷ by_bends 104 0
    ∷ by_bends 110 12
    ∷ []

abbrev pub Each : List Card → Type 0
Each [] = Unit {0}
Each (c ∷ cs) = Holds c × Each cs

-- theorem: every card of the table holds
abbrev pub CardsHold : Type 0
CardsHold = Each table
