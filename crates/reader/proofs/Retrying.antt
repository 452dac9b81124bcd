-- Reads that gave nothing, and then one that counts.
use Rattle.std.proofs.Common.{◌≡◌, ℕ, List, Some, None, Ok, Err, Option, Result, take, sym, ◌∙◌, subst}
use Rattle.std.specs.Io.KnownBytes.{Keeps, Consumes, ReadConsumes}
use Rattle.std.proofs.KnownBytes.{Keeps-trans}

kept_consumes : (a b c : Option (List ℕ)) (bs : List ℕ) → Keeps a b → Consumes b c bs → Consumes a c bs
kept_consumes None b c bs k q = tt
kept_consumes (Some x) None c bs k q = absurd k
kept_consumes (Some x) (Some y) None bs k q = absurd q
kept_consumes (Some x) (Some y) (Some z) bs k q = sym k ∙ q

-- a read after some that left the input as it was
pub read_after : {E : Type 0} (a b c : Option (List ℕ)) (r : Result ℕ E) (buffer : List ℕ) → Keeps a b → ReadConsumes b c r buffer → ReadConsumes a c r buffer
read_after a b c (Ok n) buffer k read = (kept_consumes a b c (take n buffer) k read.0, read.1)
read_after a b c (Err e) buffer k read = Keeps-trans a b c k read

-- one more that left it so
pub kept_more : {E : Type 0} (a b c : Option (List ℕ)) (e : E) (r : Result ℕ E) (buffer : List ℕ) → r ≡ Err e → Keeps a b → ReadConsumes b c r buffer → Keeps a c
kept_more a b c e r buffer is k read = Keeps-trans a b c k (subst (λ s. ReadConsumes b c s buffer) is read)
