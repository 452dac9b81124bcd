use Rattle.std.proofs.Common.{vec_items}
use Rattle.bend_book.proofs.Bent.{bend_lawful}
use Rattle.bend_book.proofs.bend.BendBook.highest.Goals as goal

pub returns-clause-lawful : goal.returns-clause-lawful
returns-clause-lawful c = bend_lawful (vec_items c.args.self.now.bends) (vec_items c.args.self.now.heads)
