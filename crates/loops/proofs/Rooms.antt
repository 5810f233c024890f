-- Room for walks and for what is written of them.
use Rattle.std.proofs.Common.{◌≡◌, ℕ, ◌+◌, ◌-◌, ◌*◌, ◌<◌, ◌≤◌, mul-le-mul_right, add-mul, one-mul, arith}

-- a graph of one layer takes no more words than one of e + 1 layers
pub one_layer : (e n k : ℕ) → (e + 1) * n ≤ k → n ≤ k
one_layer e n k le = omega (arith, add-mul e 1 n, one-mul n)

-- the words that a walk of the product is written in suffice
pub walk_room : (n size list : ℕ) → size ≡ n → n ≤ list → (n ≤ size) × (0 + size ≤ list)
walk_room n size list is fits = (omega arith, omega arith)

-- a product with a vertex has some
pub some_size : (x n size : ℕ) → x < n → size ≡ n → 0 < size
some_size x n size low is = omega arith

-- a walk of the product has so few vertices that it fits into the list
pub walk_fits : (n size count list was : ℕ) → size ≡ n → count ≤ size → n ≤ was → list ≡ was → count ≤ list
walk_fits n size count list was is few fits kept = omega arith

-- all but the last vertex fit there
pub one_less : (count list : ℕ) → count ≤ list → count - 1 ≤ list
one_less count list fits = omega arith

-- and, after `at`, into the words
pub copy_fits : (n size count at words : ℕ) → size ≡ n → count ≤ size → at + n ≤ words → at + (count - 1) ≤ words
copy_fits n size count at words is few room = omega arith

-- what lies before room is room
pub low_part : (a b c : ℕ) → a + b ≤ c → a ≤ c
low_part a b c le = omega arith

-- where the writing of a walk ends
pub walk_end : (n size count at : ℕ) → size ≡ n → 0 < count → count ≤ size →
    (at + count - 1 ≡ at + (count - 1)) × (at ≤ at + count - 1) × (at + count - 1 ≤ at + n)
walk_end n size count at is some few = (omega arith, omega arith, omega arith)

-- how much fits where one word comes before the walk
pub close_fits : (n size count at words : ℕ) → size ≡ n → 0 < count → count ≤ size → at + n ≤ words → (at < words) × (at + 1 + (count - 1) ≤ words)
close_fits n size count at words is some few room = (omega arith, omega arith)

-- where that ends
pub close_end : (n size count at : ℕ) → size ≡ n → 0 < count → count ≤ size → (at + count ≡ at + 1 + (count - 1)) × (at < at + count) × (at + count ≤ at + n)
close_end n size count at is some few = (omega arith, omega arith, omega arith)

-- how much fits where the walk is written from the first word on
pub stem_fits : (n size count words : ℕ) → size ≡ n → 0 < count → count ≤ size → n ≤ words →
    (0 + (count - 1) ≤ words) × (count - 1 ≡ 0 + (count - 1)) × (count - 1 < n)
stem_fits n size count words is some few room = (omega arith, omega arith, omega arith)

-- with j of the walks to fair sets written there is room for one more, if there is one more set
pub visit_room : (n sets at here j words was : ℕ) → at + sets * n ≤ was → words ≡ was → j < sets → here ≤ at + j * n → here + n ≤ words
visit_room n sets at here j words was room kept more long =
    let one = mul-le-mul_right {m = j + 1} {n = sets} n (omega arith) in
    omega (arith, add-mul j 1 n, one-mul n)

-- where the next of these walks ends
pub visit_long : (n at here next j : ℕ) → at ≤ here → here ≤ at + j * n → here ≤ next → next ≤ here + n → (at ≤ next) × (next ≤ at + (j + 1) * n)
visit_long n at here next j low long further few = (omega arith, omega (arith, add-mul j 1 n, one-mul n))
