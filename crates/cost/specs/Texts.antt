-- Texts written into a buffer that is lent. Assumes nothing.
use Rattle.std.specs.Prelude.{ℕ, ◌+◌, ◌-◌, cond, List, [], ◌∷◌, ◌++◌, length, Some, None, Option, nat_le, slice_set}

-- the buffer with the bytes of a text written over it, from the place i on
abbrev pub put : List ℕ → ℕ → List ℕ → List ℕ
put buf i [] = buf
put buf i (x ∷ xs) = put (slice_set buf i x) (i + 1) xs

-- the room that n bytes leave, if they fit
abbrev pub left : ℕ → ℕ → Option ℕ
left n room = cond (nat_le n room) (Some (room - n)) None

-- the place after n bytes written at a place of a buffer of that size, if they fit
abbrev pub after : ℕ → ℕ → ℕ → Option ℕ
after n at size = cond (nat_le (at + n) size) (Some (at + n)) None

-- the buffer with the text written over it at a place, if it fits, or else as it was
abbrev pub laid : List ℕ → ℕ → List ℕ → List ℕ
laid buf at text = cond (nat_le (at + length text) (length buf)) (put buf at text) buf

-- the first text, a space, the second text
abbrev pub spaced : List ℕ → List ℕ → List ℕ
spaced xs ys = xs ++ (32 ∷ ys)
