-- Stops with a due minute: so much for each minute early, so much for each minute late. Assumes nothing.
use Rattle.std.specs.Prelude.{ℕ, ◌-◌, ◌*◌, cond, nat_lt}
use Rattle.timing.specs.Visits.{Visit}
use Rattle.timing_tests.specs.declared.due.Due.{Due}

abbrev pub money : Due → ℕ → ℕ
money s t = cond (nat_lt t s.due) (s.early * (s.due - t)) (s.late * (t - s.due))

-- minutes late first, then money
abbrev pub promise : Due → ℕ → ℕ × ℕ
promise s t = (t - s.due, money s t)

abbrev pub visit : {E : Type 0} → (Due → ℕ → E) → Due → Visit E
visit price s = record { first = s.first; last = s.last; leg = s.leg; price = price s }
