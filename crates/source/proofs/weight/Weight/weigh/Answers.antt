use Rattle.std.proofs.Common.{◌≡◌, ◌*◌, ◌^◌, ◌≤◌, leb, Some, sym, ap, ◌∙◌, mul-le-mul, arith}
use Rattle.std.proofs.lemmas.Bool.{leb-true}
use Rattle.std.specs.Option.{option_map}
use Rattle.source.specs.Meaning.{price_of}
use Rattle.source.specs.Layers.{weight_of}
use Rattle.source.proofs.Layered.{weighted_price, weight_low, lawful_small}
use Rattle.source.proofs.weight.Weight.weigh.Goals as goal

pub returns : goal.returns
returns g c =
    let a = g.S.Kind.Cost.algebra in
    let s = c.args.self.now in
    let m = g.S.Source.meaning s.source in
    let k = c.args.curve in
    let x = g.S.Kind.Cost.exact c.in_ok-cost.cost in
    let v = c.weight.result in
    let told : Some x ≡ price_of (m.curve k) c.args.minute = ap (option_map g.S.Kind.Cost.exact) (sym c.in_ok-cost.was) ∙ c.requires in
    let stands = c.if-not-stands.ensures.value in
    let low : v ≤ 100 = omega (arith, weight_low s.table.entries k, c.weight.ensures) in
    let high : 100 * m.peak ≤ 2 ^ 40 = leb-true _ _ (sym stands) in
    let small = lawful_small a m c.stands.ensures.below k c.args.minute x (sym told) in
    let fits : v * a.size x ≤ 2 ^ 50 = omega (arith, mul-le-mul {n₁ = v} {m₁ = a.size x} {n₂ = 100} {m₂ = m.peak} low small) in
    weighted_price a (leb (100 * m.peak) (2 ^ 40)) v (weight_of s.table.entries k) (m.curve k) c.args.minute x (g.S.Kind.Cost.exact c.times.result) stands c.weight.ensures told (c.times.ensures ∙ g.met.S.Kind.Cost.multiplied v x low fits)
