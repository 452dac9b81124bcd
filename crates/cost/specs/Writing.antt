-- Targets that write into a buffer that is lent. Assumes nothing.
use Rattle.std.specs.Prelude.{◌≡◌, ℕ, ◌+◌, List, [], ◌∷◌, ◌++◌, length, slice_set, refl}
use Rattle.std.proofs.Common.{ap, sym, ◌∙◌, arith, length-append, length-set}
use Rattle.cost.specs.Targets.{TargetModel}
use Rattle.cost.specs.Texts.{put}
use Rattle.cost.specs.declared.target.Writer.{Writer}

-- the bytes are written over the buffer, which is the same loan
abbrev pub wrote : Writer → List ℕ → Writer
wrote x xs = record { buf = record x.buf { now = put x.buf.now x.at xs }; at = x.at + length xs }

pub length_put : (xs buf : List ℕ) (i : ℕ) → length (put buf i xs) ≡ length buf
length_put [] buf i = refl
length_put (x ∷ xs) buf i = length_put xs (slice_set buf i x) (i + 1) ∙ simp length-set

pub put_append : (xs ys buf : List ℕ) (i : ℕ) → put buf i (xs ++ ys) ≡ put (put buf i xs) (i + length xs) ys
put_append [] ys buf i = ap (λ (n : ℕ). put buf n ys) (omega arith)
put_append (x ∷ xs) ys buf i = put_append xs ys (slice_set buf i x) (i + 1) ∙ ap (λ (n : ℕ). put (put (slice_set buf i x) (i + 1) xs) n ys) (omega arith)

pub wrote_keeps : (x : Writer) (xs : List ℕ) → length (wrote x xs).buf.now ≡ length x.buf.now
wrote_keeps x xs = length_put xs x.buf.now x.at

pub wrote_none : (x : Writer) → wrote x [] ≡ x
wrote_none x = ap (λ (n : ℕ). record { buf = x.buf; at = n }) (omega arith)

pub wrote_joins : (x : Writer) (xs ys : List ℕ) → wrote (wrote x xs) ys ≡ wrote x (xs ++ ys)
wrote_joins x xs ys =
    ap (λ (n : ℕ). record { buf = (wrote (wrote x xs) ys).buf; at = n }) (omega (arith, length-append xs ys))
    ∙ ap (λ (bytes : List ℕ). record { buf = record x.buf { now = bytes }; at = x.at + length (xs ++ ys) }) (sym (put_append xs ys x.buf.now x.at))

abbrev pub writing : TargetModel Writer
writing = record {
  at = λ w. w.at;
  size = λ w. length w.buf.now;
  after = wrote;
  ends = λ x xs. refl;
  keeps = wrote_keeps;
  stays = wrote_none;
  joins = wrote_joins;
}
