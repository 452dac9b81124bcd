use Rattle.std.proofs.Common.{ℕ, ◌+◌, ◌<◌, Option, sym, subst, arith}
use Rattle.std.specs.Option.{option_map}
use Rattle.source.specs.Cheapest.{exactly}
use Rattle.source.proofs.Scan.{Found, found_more, found_all}
use Rattle.source.proofs.cheapest.scan.Goals as goal

pub loop-minute-preserved : goal.loop-minute-preserved
loop-minute-preserved g c =
    let K = g.S.Kind.Cost.algebra in
    let exact = g.S.Kind.Cost.exact in
    let o = (g.S.Source.meaning c.args.source.now).curve c.args.curve in
    let a = c.args.first in
    let b = c.loop-minute.minute in
    let r = exactly exact c.loop-minute.best in
    let v = option_map exact c.cost.result in
    subst (λ (q : Option (ℕ × g.row.S-Exact.Denot)). Found K o a (b + 1) q) (sym c.cheaper-best.ensures) (found_more K o a b r v c.cost.ensures c.loop-minute.invariant)

pub returns-2 : goal.returns-2
returns-2 g c =
    let K = g.S.Kind.Cost.algebra in
    let exact = g.S.Kind.Cost.exact in
    let m = g.S.Source.meaning c.args.source.now in
    let o = m.curve c.args.curve in
    let a = c.args.first in
    let b = c.loop-minute.minute in
    let l = c.args.last in
    let r = exactly exact c.loop-minute.best in
    let v = option_map exact c.cost.result in
    let past : l < b + 1 = omega arith in
    let f = subst (λ (q : Option (ℕ × g.row.S-Exact.Denot)). Found K o a (b + 1) q) (sym c.cheaper-best.ensures) (found_more K o a b r v c.cost.ensures c.loop-minute.invariant) in
    found_all K m.peak o a l (b + 1) (exactly exact c.cheaper-best.result) (c.peak.ensures.lawful.sound c.args.curve) c.requires past f
