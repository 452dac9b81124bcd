use Rattle.route.proofs.Uniqueness.{judged_one, runs_one, read_one}
use Rattle.route.proofs.JoinsOne.{joined_one}
use Rattle.route.proofs.theory.answer_is_one.Goals as goal

pub returns : goal.returns
returns g c =
    let K = g.C.Cost.algebra in
    record { judged = judged_one K; runs = runs_one K; read = read_one K; joined = joined_one K }
