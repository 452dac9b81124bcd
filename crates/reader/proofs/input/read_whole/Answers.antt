use Rattle.reader.proofs.Whole.{whole_front}
use Rattle.reader.proofs.input.read_whole.Goals as goal

pub returns-clause-front : goal.returns-clause-front
returns-clause-front g c = whole_front _ _ _ 4097 c.in_ok-read_most.ensures.within c.in_ok-read_most.ensures.bytes c.in_ok-read_most.ensures.all
