-- A bit of a map, by a shift that may be too wide.
use Rattle.std.proofs.Common.{◌≡◌, ℕ, ◌/◌, ◌%◌, ◌^◌, ◌<◌, ◌≤◌, Some, None, Option, unwrap_or, nat_eq, ap, sym, arith}
use Rattle.std.specs.Option.{SomeIff}
use Rattle.std.proofs.Math.Nat.{div-eq_of_lt, pow-le-pow_right}
use Rattle.reader.specs.Records.{stands}

none_past : (map bit : ℕ) → map < 256 → (bit < 8 → ⊥) → map / 2 ^ bit ≡ 0
none_past map bit small past =
    let far : 8 ≤ bit = omega (arith, past) in
    let wide : 2 ^ 8 ≤ 2 ^ bit = pow-le-pow_right (omega arith) far in
    div-eq_of_lt (omega (arith, wide))

pub shifted : (map bit : ℕ) (r : Option ℕ) → map < 256 → SomeIff r (bit < 8) (map / 2 ^ bit) → nat_eq (unwrap_or r 0 % 2) 1 ≡ stands map bit
shifted map bit (Some x) small is = ap (λ n. nat_eq (n % 2) 1) is.1
shifted map bit None small past = ap (λ n. nat_eq (n % 2) 1) (sym (none_past map bit small past))
