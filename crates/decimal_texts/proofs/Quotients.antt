-- A number that is multiplied and divided by powers of ten.
use Rattle.std.proofs.Common.{◌≡◌, ℕ, ◌+◌, ◌-◌, ◌*◌, ◌/◌, ◌%◌, ◌^◌, ◌<◌, ◌≤◌, Some, None, arith, refl, sym, ap, ◌∙◌}
use Rattle.std.proofs.Math.Nat.{pow-le-pow_right, one-le-pow, mod-lt}
use Rattle.std.proofs.lemmas.Nat.{div-add-mod'}
use Rattle.decimal_texts.specs.Exact.{exact_quotient}
use Rattle.decimal_texts.proofs.Shifts.{quotient_whole, quotient_left}

pub ten_some : (places : ℕ) → 0 < 10 ^ places
ten_some places = one-le-pow places 10 (omega arith)

pub small_power : (places : ℕ) → places ≤ 38 → 10 ^ places < 2 ^ 128
small_power places few =
    let ten : 0 < 10 = omega arith in
    let power : 10 ^ places ≤ 10 ^ 38 = pow-le-pow_right ten few in
    omega arith

pub none_of : (up down : ℕ) → exact_quotient 0 up down ≡ Some 0
none_of up down = quotient_whole 0 up down 0 (omega arith) ∙ ap Some (let none : 0 * 10 ^ (up - down) ≡ 0 = omega arith in none)

-- a number of 128 bits is no multiple of so much
pub too_fine : (n up down : ℕ) → 0 < n → n < 2 ^ 128 → 38 < down - up → exact_quotient n up down ≡ None
too_fine n up down some small many =
    let ten : 0 < 10 = omega arith in
    let least : 39 ≤ down - up = omega arith in
    let power : 10 ^ 39 ≤ 10 ^ (down - up) = pow-le-pow_right ten least in
    quotient_left n up down 0 n (omega arith) some (omega arith)

-- what is left of a number by a power of ten, and what is not
pub divided : (n up down : ℕ) → n % 10 ^ (down - up) ≡ 0 → exact_quotient n up down ≡ Some (n / 10 ^ (down - up) * 10 ^ (up - down))
divided n up down none = quotient_whole n up down (n / 10 ^ (down - up)) (omega (arith, div-add-mod' n (10 ^ (down - up))))

pub left_over : (n up down : ℕ) → 0 < n % 10 ^ (down - up) → exact_quotient n up down ≡ None
left_over n up down some =
    quotient_left n up down (n / 10 ^ (down - up)) (n % 10 ^ (down - up)) (sym (div-add-mod' n (10 ^ (down - up)))) some (mod-lt n (ten_some (down - up)))
