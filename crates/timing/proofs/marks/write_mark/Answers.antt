use Rattle.timing.proofs.Refreshing.{marks_found}
use Rattle.timing.proofs.marks.write_mark.Goals as goal

pub returns-clause-marked : goal.returns-clause-marked
returns-clause-marked g c sound feasible more e marks =
    marks_found _ _ _ _ more c.requires marks sound feasible _ _ e c.mark_from.ensures
