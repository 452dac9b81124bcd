-- The statements of the theory, each of its lemmas. Assumes nothing.
use Rattle.cost.specs.Algebra.{Algebra}
use Rattle.timing.specs.Statements.{Existence, OneBest, FromMarks, FrontAlone, Search}
use Rattle.timing.proofs.Firsts.{missed_blocked, blocked_one}
use Rattle.timing.proofs.Neighbours.{mark_front, neighbours_tell}
use Rattle.timing.proofs.Searches.{once_risen, halving_finds, block_moving}
use Rattle.timing.proofs.Theorems.{feasible_reaches, best_there, best_one, marks_there, mark_one, marks_one, marks_take, marks_best, marks_bounded}

pub existence : {E : Type 0} → Existence E
existence = record { exists = feasible_reaches; first = missed_blocked; one = blocked_one }

module _ {E : Type 0} (K : Algebra E) where
  pub one_best : OneBest K
  one_best = record {
    there = λ vs p h. best_there K vs h.0 p h.1;
    one = best_one K;
    marked = λ vs p h. marks_there K vs h.0 p h.1;
    mark_one = mark_one K;
    marks_one = marks_one K;
  }

  pub from_marks : FromMarks K
  from_marks = record { best = marks_best K; bounded = marks_bounded K }

  pub front_alone : FrontAlone K
  front_alone = record { mark = mark_front K; marks = marks_take K }

  pub found : Search K
  found = record { tells = neighbours_tell K; once = once_risen K; halves = halving_finds K; moves = block_moving K }
