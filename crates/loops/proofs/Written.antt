-- Words that are written over: what stands before, in and past the part that was written, and one word more.
use Rattle.std.proofs.Common.{◌≡◌, ℕ, ◌+◌, ◌-◌, ◌/◌, ◌%◌, ◌<◌, ◌≤◌, List, [], ◌∷◌, ◌++◌, length, get_or, take, drop, set, sym, ap, ◌∙◌, append_assoc, add-zero, arith, length-append, length-drop}
use Rattle.std.proofs.lemmas.List.{length-take-le, length-map, take-append-drop, take_at, take-append-le, drop-drop, drop_at, drop_more, set_at, map_more, get_or-drop, length_push}
use Rattle.loops.specs.Words.{overwritten, states_from}

-- nothing is written
pub overwritten_none : (at : ℕ) (ws : List ℕ) → ws ≡ overwritten at [] ws
overwritten_none at ws = sym (rw add-zero (take-append-drop at ws))

-- there are as many words as before
pub length_overwritten : (at : ℕ) (part ws : List ℕ) → at + length part ≤ length ws → length (overwritten at part ws) ≡ length ws
length_overwritten at part ws le =
    let front = length-take-le at ws (omega arith) in
    simp (length-append, length-drop) (omega arith)

-- the part, and what stands before it
pub take_overwritten : (at : ℕ) (part ws : List ℕ) → at ≤ length ws → take (at + length part) (overwritten at part ws) ≡ take at ws ++ part
take_overwritten at part ws le =
    ap (take (at + length part)) (sym (append_assoc (take at ws) part (drop (at + length part) ws))) ∙
    take_at (take at ws ++ part) (drop (at + length part) ws) (at + length part)
    (length-append (take at ws) part ∙ ap (λ n. n + length part) (length-take-le at ws le))

-- what stands before the part is as it was
pub take_before : (n at : ℕ) (part ws : List ℕ) → n ≤ at → at ≤ length ws → take n (overwritten at part ws) ≡ take n ws
take_before n at part ws less le =
    let front = length-take-le at ws le in
    let short : n ≤ length (take at ws) = omega arith in
    take-append-le n (take at ws) (part ++ drop (at + length part) ws) short ∙ sym (take-append-le n (take at ws) (drop at ws) short) ∙ ap (take n) (take-append-drop at ws)

-- what stands past the part is as it was
pub drop_overwritten : (at : ℕ) (part ws : List ℕ) → at ≤ length ws → drop (at + length part) (overwritten at part ws) ≡ drop (at + length part) ws
drop_overwritten at part ws le =
    ap (drop (at + length part)) (sym (append_assoc (take at ws) part (drop (at + length part) ws))) ∙
    drop_at (take at ws ++ part) (drop (at + length part) ws) (at + length part)
    (length-append (take at ws) part ∙ ap (λ n. n + length part) (length-take-le at ws le))

-- and so further on
pub drop_past : (n at : ℕ) (part ws : List ℕ) → at + length part ≤ n → at ≤ length ws → drop n (overwritten at part ws) ≡ drop n ws
drop_past n at part ws less le =
    let e : n ≡ at + length part + (n - (at + length part)) = omega arith in
    ap (λ k. drop k (overwritten at part ws)) e ∙ sym (drop-drop (n - (at + length part)) (at + length part) (overwritten at part ws)) ∙
    ap (drop (n - (at + length part))) (drop_overwritten at part ws le) ∙ drop-drop (n - (at + length part)) (at + length part) ws ∙ ap (λ k. drop k ws) (sym e)

-- the first word past the part
pub getD_past_part : (at : ℕ) (part ws : List ℕ) (d : ℕ) → at ≤ length ws → get_or (overwritten at part ws) (at + length part) d ≡ get_or ws (at + length part) d
getD_past_part at part ws d le =
    ap (λ k. get_or (overwritten at part ws) k d) (sym (add-zero (at + length part))) ∙ sym (get_or-drop (at + length part) (overwritten at part ws) 0 d) ∙
    ap (λ l. get_or l 0 d) (drop_overwritten at part ws le) ∙ get_or-drop (at + length part) ws 0 d ∙ ap (λ k. get_or ws k d) (add-zero (at + length part))

-- one word more is written
pub overwritten_more : (at : ℕ) (part ws : List ℕ) (y : ℕ) → at + length part < length ws →
    set (overwritten at part ws) (at + length part) y ≡ overwritten at (part ++ y ∷ []) ws
overwritten_more at part ws y less =
    let n : ℕ = at + length part in
    let longer : n + 1 ≡ at + length (part ++ y ∷ []) = omega (arith, length_push part y) in
    let long : length (take at ws ++ part) ≡ n = length-append (take at ws) part ∙ ap (λ k. k + length part) (length-take-le at ws (omega arith)) in
    ap (λ l. set l n y) (sym (append_assoc (take at ws) part (drop n ws)) ∙ ap (λ l. (take at ws ++ part) ++ l) (drop_more ws n 0 less)) ∙
    set_at (take at ws ++ part) (get_or ws n 0) (drop (n + 1) ws) y n long ∙ append_assoc (take at ws) part (y ∷ drop (n + 1) ws) ∙
    ap (λ l. take at ws ++ l) (sym (append_assoc part (y ∷ []) (drop (n + 1) ws))) ∙ ap (λ k. take at ws ++ ((part ++ y ∷ []) ++ drop k ws)) longer

-- the state of one vertex more is written
pub states_more : (size masks at n : ℕ) (l ws : List ℕ) (i : ℕ) → i < length l → at + i < length ws → n ≡ get_or l i 0 →
    set (overwritten at (states_from size masks (take i l)) ws) (at + i) (n % size / masks) ≡ overwritten at (states_from size masks (take (i + 1) l)) ws
states_more size masks at n l ws i low less e =
    let part : List ℕ = states_from size masks (take i l) in
    let long : length part ≡ i = length-map (take i l) (λ n. n % size / masks) ∙ length-take-le i l (omega arith) in
    ap (λ k. set (overwritten at part ws) (at + k) (n % size / masks)) (sym long) ∙ overwritten_more at part ws (n % size / masks) (omega arith) ∙
    ap (λ x. overwritten at (part ++ (x % size / masks) ∷ []) ws) e ∙
    ap (λ p. overwritten at p ws) (sym (map_more (λ n. n % size / masks) l i 0 low))

-- the state of one vertex more is written in its place
pub in_place_more : (size masks at : ℕ) (now ws : List ℕ) (i : ℕ) → at ≤ i → i < length ws →
    now ≡ overwritten at (states_from size masks (take (i - at) (drop at ws))) ws →
    set now i (get_or now i 0 % size / masks) ≡ overwritten at (states_from size masks (take (i + 1 - at) (drop at ws))) ws
in_place_more size masks at now ws i le less e =
    let k : ℕ = i - at in
    let here : at + k ≡ i = omega arith in
    let next : k + 1 ≡ i + 1 - at = omega arith in
    let low : k < length (drop at ws) = simp length-drop (omega arith) in
    let part : List ℕ = states_from size masks (take k (drop at ws)) in
    let long : length part ≡ k = length-map (take k (drop at ws)) (λ n. n % size / masks) ∙ length-take-le k (drop at ws) (omega arith) in
    let read : get_or now i 0 ≡ get_or (drop at ws) k 0 =
    ap (λ l. get_or l i 0) e ∙ ap (λ j. get_or (overwritten at part ws) j 0) (sym here ∙ ap (λ j. at + j) (sym long)) ∙
    getD_past_part at part ws 0 (omega arith) ∙ ap (λ j. get_or ws (at + j) 0) long ∙ sym (get_or-drop at ws k 0) in
    ap (λ l. set l i (get_or now i 0 % size / masks)) e ∙ ap (λ j. set (overwritten at part ws) j (get_or now i 0 % size / masks)) (sym here) ∙
    states_more size masks at (get_or now i 0) (drop at ws) ws k low (omega arith) read ∙
    ap (λ j. overwritten at (states_from size masks (take j (drop at ws))) ws) next

-- in place of no vertex nothing is written
pub in_place_none : (size masks at : ℕ) (ws : List ℕ) → ws ≡ overwritten at (states_from size masks (take (at - at) (drop at ws))) ws
in_place_none size masks at ws =
    let none : 0 ≡ at - at = omega arith in
    overwritten_none at ws ∙ ap (λ k. overwritten at (states_from size masks (take k (drop at ws))) ws) none
