-- What is put at a node's bits is found there.
use Rattle.std.proofs.Common.{◌≡◌, ℕ, zero, suc, ◌+◌, ◌-◌, ◌<◌, ◌≤◌, Bool, true, false, T, eqb, ltb, List, [], ◌∷◌, length, get_or, sym, refl, ap, ◌∙◌, subst, not-suc-le-zero, arith, ltb→lt, lt→ltb}
use Rattle.std.proofs.lemmas.Bool.{eqb-false, eqb-true, le-ltb, lt-ltb}
use Rattle.frames.specs.Frames.{Node}
use Rattle.frames.specs.Frames.Node.{truth}
use Rattle.language.specs.Properties.{Connective, Property, node_width, width}
use Rattle.logic.specs.Truth.{node_at}
use Rattle.logic.specs.Product.{mask_width, spread, start_of}

-- later nodes have later bits
pub start_mono : (f : Property) (k n : ℕ) → k ≤ n → start_of f k ≤ start_of f n
start_mono f k zero h = let e : k ≡ 0 = omega arith in subst (λ j. start_of f j ≤ 0) (sym e) (omega arith)
start_mono f k (suc n) h = go (eqb k (suc n)) refl (start_mono f k n)
  where
    go : (b : Bool) → eqb k (suc n) ≡ b → (k ≤ n → start_of f k ≤ start_of f n) → start_of f k ≤ start_of f (suc n)
    go true e ih = subst (λ j. start_of f k ≤ start_of f j) (eqb-true k (suc n) e) (omega arith)
    go false e ih =
        let other : ¬ (k ≡ suc n) = eqb-false k (suc n) e in
        let low : start_of f k ≤ start_of f n = ih (omega arith) in
        omega arith

-- one more node of `spread`, by whether b is below its first bit
abbrev pick : Property → (ℕ → ℕ → Bool) → ℕ → ℕ → Bool → Bool
pick f g n b t = elim t as (λ _. Bool) [ true ↦ spread f g n b | false ↦ g n (b - start_of f n) ]

-- bit number q of node k is g k q
pub spread_at : (f : Property) (g : ℕ → ℕ → Bool) (n k q : ℕ) → k < n → q < node_width f.connectives (node_at f k) → spread f g n (start_of f k + q) ≡ g k q
spread_at f g zero k q h w = absurd (not-suc-le-zero h)
spread_at f g (suc n) k q h w = go (eqb k n) refl (spread_at f g n k q)
  where
    go : (b : Bool) → eqb k n ≡ b → (k < n → q < node_width f.connectives (node_at f k) → spread f g n (start_of f k + q) ≡ g k q) →
        spread f g (suc n) (start_of f k + q) ≡ g k q
    go true e ih =
        let same : k ≡ n = eqb-true k n e in
        let first : spread f g (suc n) (start_of f n + q) ≡ g n q =
        ap (pick f g n (start_of f n + q)) (le-ltb (start_of f n + q) (start_of f n) (omega arith))
        ∙ ap (g n) (let z : start_of f n + q - start_of f n ≡ q = omega arith in z) in
        subst (λ j. spread f g (suc n) (start_of f j + q) ≡ g j q) (sym same) first
    go false e ih =
        let other : ¬ (k ≡ n) = eqb-false k n e in
        let lower : k < n = omega arith in
        let mono : start_of f k + node_width f.connectives (node_at f k) ≤ start_of f n = start_mono f (suc k) n lower in
        ap (pick f g n (start_of f k + q)) (lt-ltb (start_of f k + q) (start_of f n) (omega arith)) ∙ ih lower w

-- functions that agree at each bit are spread alike
pub spread_same : (f : Property) (g h : ℕ → ℕ → Bool) (n b : ℕ) →
    ((k q : ℕ) → k < n → q < node_width f.connectives (node_at f k) → g k q ≡ h k q) → b < start_of f n → spread f g n b ≡ spread f h n b
spread_same f g h zero b e w = refl
spread_same f g h (suc n) b e w = go (ltb b (start_of f n)) refl (spread_same f g h n b (λ k q lt w'. e k q (omega arith) w'))
  where
    go : (t : Bool) → ltb b (start_of f n) ≡ t → (b < start_of f n → spread f g n b ≡ spread f h n b) → spread f g (suc n) b ≡ spread f h (suc n) b
    go true t ih = ap (pick f g n b) t ∙ ih (ltb→lt b (start_of f n) (subst T (sym t) tt)) ∙ sym (ap (pick f h n b) t)
    go false t ih =
        let above : ¬ (b < start_of f n) = λ lt. subst T t (lt→ltb b (start_of f n) lt) in
        ap (pick f g n b) t ∙ e n (b - start_of f n) (omega arith) (omega arith) ∙ sym (ap (pick f h n b) t)

-- the bits of the nodes below k, counted from the last of them
abbrev sums : List Connective → List Node → ℕ → ℕ
sums cs ns zero = 0
sums cs ns (suc k) = sums cs ns k + node_width cs (get_or ns k truth)

sums_cons : (cs : List Connective) (x : Node) (ns : List Node) (k : ℕ) → sums cs (x ∷ ns) (suc k) ≡ node_width cs x + sums cs ns k
sums_cons cs x ns zero = omega arith
sums_cons cs x ns (suc k) = let ih : sums cs (x ∷ ns) (suc k) ≡ node_width cs x + sums cs ns k = sums_cons cs x ns k in omega arith

sums_width : (cs : List Connective) (ns : List Node) → sums cs ns (length ns) ≡ width cs ns
sums_width cs [] = refl
sums_width cs (x ∷ ns) = sums_cons cs x ns (length ns) ∙ ap (λ w. node_width cs x + w) (sums_width cs ns)

sums_start : (f : Property) (k : ℕ) → start_of f k ≡ sums f.connectives f.nodes k
sums_start f zero = refl
sums_start f (suc k) = ap (λ s. s + node_width f.connectives (node_at f k)) (sums_start f k)

-- a mask has as many bits as the property is wide
pub widths : (f : Property) → mask_width f ≡ width f.connectives f.nodes
widths f = sums_start f (length f.nodes) ∙ sums_width f.connectives f.nodes
