-- A row's record in a strip: a map byte, then a field of two bytes, high byte first, for each bit that stands.
use Rattle.std.specs.Prelude.{ℕ, zero, suc, ◌+◌, ◌*◌, ◌/◌, ◌%◌, ◌^◌, Bool, cond, List, length, Ok, Err, Result, ◌==◌, nat_le, nat_lt, slice_index}
use Rattle.source.specs.declared.due.DueRow.{DueRow}
use Rattle.source.specs.Due.{row_lawful}
use Rattle.reader.specs.declared.faults.Cause.{Cause}
use Rattle.reader.specs.declared.faults.Cause.TheVariants.{CutOff, RowMap, Unlawful}

-- the number that two bytes make, high byte first
abbrev pub word_at : List ℕ → ℕ → ℕ
word_at bytes at = slice_index bytes at * 256 + slice_index bytes (at + 1)

-- whether a bit of a map stands; bit 0 is the least
abbrev pub stands : ℕ → ℕ → Bool
stands map bit = map / 2 ^ bit % 2 == 1

-- how many bytes the field of a bit takes
abbrev pub field_width : ℕ → ℕ → ℕ
field_width map bit = cond (stands map bit) 2 0

-- where the field of a bit begins, or would begin, in the record at a byte
abbrev pub field_place : ℕ → ℕ → ℕ → ℕ
field_place map at zero = at + 1
field_place map at (suc bit) = field_place map at bit + field_width map bit

-- the field of a bit, which begins at a byte, or what stands for it where it is absent
abbrev pub field_or : List ℕ → ℕ → ℕ → ℕ → ℕ → ℕ
field_or bytes map bit place absent = cond (stands map bit) (word_at bytes place) absent

-- the row of the record at a byte, by its map
abbrev pub row_at : List ℕ → ℕ → ℕ → DueRow
row_at bytes map at = record {
  first = field_or bytes map 0 (field_place map at 0) 0;
  last = field_or bytes map 1 (field_place map at 1) 1440;
  due = field_or bytes map 2 (field_place map at 2) 0;
  early = field_or bytes map 3 (field_place map at 3) 0;
  late = field_or bytes map 4 (field_place map at 4) 0;
}

-- where the record after this one begins
abbrev pub next_record : ℕ → ℕ → ℕ
next_record map at = field_place map at 5

-- what a row's record holds once its map is known to have no bit but those five
abbrev pub row_or : List ℕ → ℕ → ℕ → Result (DueRow × ℕ) Cause
row_or bytes map at =
    cond (nat_lt (length bytes) (next_record map at)) (Err CutOff)
    (cond (row_lawful (row_at bytes map at)) (Ok (row_at bytes map at, next_record map at)) (Err Unlawful))

-- the row of the record at a byte and where the next record begins, or what is wrong with the record
abbrev pub record_at : List ℕ → ℕ → Result (DueRow × ℕ) Cause
record_at bytes at =
    cond (nat_le (length bytes) at) (Err CutOff)
    (cond (slice_index bytes at / 32 == 0) (row_or bytes (slice_index bytes at) at) (Err RowMap))
