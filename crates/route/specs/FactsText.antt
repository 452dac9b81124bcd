-- The facts of a stop as they are printed. Assumes nothing.
use Rattle.std.specs.Prelude.{ℕ, List, ◌++◌, codes, decimal}
use Rattle.route.specs.declared.stop.Facts.{Facts}

abbrev pub facts_text : Facts → List ℕ
facts_text f = codes "curve " ++ (decimal f.curve ++ (codes " leg " ++ (decimal f.leg ++ (codes " mark " ++ (decimal f.mark ++ (codes " minute " ++ decimal f.minute))))))
