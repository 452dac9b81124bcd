-- When a report is refused, and the number of the refusal. Assumes nothing.
use Rattle.std.specs.Prelude.{ℕ, cond, Ok, Err, Result, nat_le}
use Rattle.report.specs.declared.refusal.ReportRefusal.{ReportRefusal}
use Rattle.report.specs.declared.refusal.ReportRefusal.TheVariants.{BufferTooShort}

-- the number under which the refusal is told
abbrev pub number : ReportRefusal → ℕ
number BufferTooShort = 6

-- a report of n bytes for a buffer of that size: its length, or refused where it is longer
abbrev pub answer : ℕ → ℕ → Result ℕ ReportRefusal
answer n size = cond (nat_le n size) (Ok n) (Err BufferTooShort)
