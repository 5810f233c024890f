-- Hexadecimal digits as bytes of text.
use Rattle.std.specs.Prelude.{ℕ, zero, suc, ◌+◌, ◌-◌, ◌/◌, ◌%◌, ◌^◌, Bool, cond, ◌&&◌, List, [], ◌∷◌, is_some, Some, None, Option, nat_le, nat_lt}

-- b is one of the bytes from lo to hi
abbrev pub between : ℕ → ℕ → ℕ → Bool
between lo hi b = nat_le lo b && nat_le b hi

-- the value of a digit: '0' to '9' are the bytes 48 to 57, 'A' to 'F' are 65 to 70; any other byte is no digit
abbrev pub digit_value : ℕ → Option ℕ
digit_value b = cond (between 48 57 b) (Some (b - 48)) (cond (between 65 70 b) (Some (b - 55)) None)

abbrev pub is_digit : ℕ → Bool
is_digit b = is_some (digit_value b)

abbrev pub or_zero : Option ℕ → ℕ
or_zero (Some v) = v
or_zero None = 0

-- the value of a digit, and 0 for a byte that is none
abbrev pub value : ℕ → ℕ
value b = or_zero (digit_value b)

-- the digit, always a capital, of a value below 16
abbrev pub digit_of : ℕ → ℕ
digit_of v = cond (nat_lt v 10) (48 + v) (55 + v)

-- the last n hexadecimal digits of a number, the highest first
abbrev pub hexadecimal : ℕ → ℕ → List ℕ
hexadecimal zero v = []
hexadecimal (suc n) v = digit_of (v / 16 ^ n % 16) ∷ hexadecimal n v
