use Rattle.std.proofs.Common.{ap}
use Rattle.source.specs.Layers.{bears}
use Rattle.source.proofs.Layered.{weighted_lawful}
use Rattle.source.proofs.weight.Weight.stands.Goals as goal

pub returns : goal.returns
returns g c =
    let m = g.S.Source.meaning c.args.self.now.source in
    record {
      value = ap bears c.peak-below.ensures.value;
      below = c.peak-below.ensures.lawful;
      lawful = weighted_lawful g.S.Kind.Cost.algebra c.args.self.now.table.entries m c.peak-below.ensures.lawful;
    }
