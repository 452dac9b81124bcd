use Rattle.std.proofs.Common.{vec_items, refl}
use Rattle.source.proofs.Rows.{due_lawful}
use Rattle.source.proofs.due.DueBook.highest.Goals as goal

pub returns : goal.returns
returns c = record { value = refl; lawful = due_lawful (vec_items c.args.self.now.rows) }
