-- A call's record in a strip: a map byte, which says the form of the call, and then a field for each bit that stands.
use Rattle.std.specs.Prelude.{ℕ, ◌+◌, ◌/◌, Bool, true, false, cond, List, length, Some, None, Ok, Err, Option, Result, ◌==◌, nat_le, nat_lt, slice_index}
use Rattle.route.specs.declared.stop.Splice.{Splice}
use Rattle.route.specs.declared.stop.Splice.TheVariants.{Insert, Remove, Change}
use Rattle.reader.specs.declared.faults.Cause.{Cause}
use Rattle.reader.specs.declared.faults.Cause.TheVariants.{CutOff, CallMap}
use Rattle.reader.specs.declared.call.Form.{Form}
use Rattle.reader.specs.declared.call.Form.TheVariants.{Inserting, Removing, Changing}
use Rattle.reader.specs.Records.{stands, field_width, field_or}

-- the form of a call by the bits of curve, leg in, leg out and taking out
abbrev pub form_by : Bool → Bool → Bool → Bool → Option Form
form_by true leg_in leg_out false = Some Inserting
form_by false false leg_out true = Some Removing
form_by true false false true = Some Changing
form_by false leg_in leg_out false = None
form_by false true leg_out true = None
form_by true true leg_out true = None
form_by true false true true = None

-- the form of a call, if its map has one; bits 5 to 7 are clear
abbrev pub form_of : ℕ → Option Form
form_of map = cond (map / 32 == 0) (form_by (stands map 0) (stands map 1) (stands map 2) (stands map 4)) None

-- how many bytes the field of a bit takes, if it is a curve or a place
abbrev pub byte_width : ℕ → ℕ → ℕ
byte_width map bit = cond (stands map bit) 1 0

-- such a field, which begins at a byte, or what stands for it where it is absent
abbrev pub byte_or : List ℕ → ℕ → ℕ → ℕ → ℕ → ℕ
byte_or bytes map bit place absent = cond (stands map bit) (slice_index bytes place) absent

-- where the fields begin, or would begin, in the record at a byte, and where the next record does
abbrev pub curve_place : ℕ → ℕ
curve_place at = at + 1

abbrev pub leg_in_place : ℕ → ℕ → ℕ
leg_in_place map at = curve_place at + byte_width map 0

abbrev pub leg_out_place : ℕ → ℕ → ℕ
leg_out_place map at = leg_in_place map at + field_width map 1

abbrev pub place_place : ℕ → ℕ → ℕ
place_place map at = leg_out_place map at + field_width map 2

abbrev pub next_call : ℕ → ℕ → ℕ
next_call map at = place_place map at + byte_width map 3

-- the place of a call that has no field for it, where the route has n stops
abbrev pub absent_place : Form → ℕ → ℕ
absent_place Inserting n = n + 1
absent_place Removing n = n
absent_place Changing n = n

-- the splice of a form that has these fields
abbrev pub splice_of : Form → (curve leg_in leg_out place : ℕ) → Splice
splice_of Inserting curve leg_in leg_out place = Insert place curve leg_in leg_out
splice_of Removing curve leg_in leg_out place = Remove place leg_out
splice_of Changing curve leg_in leg_out place = Change place curve

-- the splice of the record at a byte, by its map and form
abbrev pub splice_at : List ℕ → ℕ → ℕ → ℕ → Form → Splice
splice_at bytes map at n form =
    splice_of form
    (byte_or bytes map 0 (curve_place at) 0)
    (field_or bytes map 1 (leg_in_place map at) 0)
    (field_or bytes map 2 (leg_out_place map at) 0)
    (byte_or bytes map 3 (place_place map at) (absent_place form n))

-- what the record holds once its form is known
abbrev pub call_by : List ℕ → ℕ → ℕ → ℕ → Option Form → Result (Splice × ℕ) Cause
call_by bytes map at n None = Err CallMap
call_by bytes map at n (Some form) =
    cond (nat_lt (length bytes) (next_call map at)) (Err CutOff) (Ok (splice_at bytes map at n form, next_call map at))

-- the splice of the record at a byte, on a route of n stops, and where the next record begins, or what is wrong with the record
abbrev pub call_at : List ℕ → ℕ → ℕ → Result (Splice × ℕ) Cause
call_at bytes at n = cond (nat_le (length bytes) at) (Err CutOff) (call_by bytes (slice_index bytes at) at n (form_of (slice_index bytes at)))
