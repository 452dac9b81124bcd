use Rattle.source.specs.Cheapest.{exactly}
use Rattle.source.proofs.Scan.{Found}
use Rattle.source.proofs.cheapest.scan.Given as goal

abbrev pub invariant-loop-minute : goal.invariant-loop-minute
invariant-loop-minute g l =
    Found g.S.Kind.Cost.algebra ((g.S.Source.meaning l.source).curve l.curve) l.first l.minute (exactly g.S.Kind.Cost.exact l.best)
