-- A walk that was written into a part of the words.
use Rattle.std.proofs.Common.{◌≡◌, ℕ, ◌+◌, ◌<◌, ◌≤◌, Bool, List, ◌++◌, length, take, drop, sym, ap, ◌∙◌, subst, arith, length-drop}
use borrow.Rule.Slice.PartMut.{put_mid}
use Rattle.std.proofs.lemmas.List.{length-take-le, take-append-drop, take-append-le, drop-append-le, drop-drop, drop_at}
use Rattle.std.proofs.lemmas.Slice.{take-put_mid_below}
use Rattle.graphs.specs.Paths.{Route}
use Rattle.graphs.specs.Walks.{Walk}
use Rattle.loops.specs.Words.{Routed}

-- from the place of the part on
drop_part : (at k : ℕ) (ws part : List ℕ) → at ≤ length ws → drop at (put_mid at k ws part) ≡ part ++ drop k (drop at ws)
drop_part at k ws part le = drop_at (take at ws) (part ++ drop k (drop at ws)) at (length-take-le at ws le)

-- past a front of the part, where the part is as it was
drop_within : (at k len : ℕ) (ws part : List ℕ) → at + k ≤ length ws → length part ≡ k → len ≤ k → drop len part ≡ drop len (take k (drop at ws)) →
    drop (at + len) (put_mid at k ws part) ≡ drop (at + len) ws
drop_within at k len ws part room long less same =
    let rest : k ≤ length (drop at ws) = simp length-drop (omega arith) in
    let front : length (take k (drop at ws)) ≡ k = length-take-le k (drop at ws) rest in
    sym (drop-drop len at (put_mid at k ws part)) ∙ ap (drop len) (drop_part at k ws part (omega arith)) ∙
    drop-append-le len part (drop k (drop at ws)) (omega arith) ∙ ap (λ l. l ++ drop k (drop at ws)) same ∙
    sym (drop-append-le len (take k (drop at ws)) (drop k (drop at ws)) (omega arith)) ∙ ap (drop len) (take-append-drop k (drop at ws)) ∙ drop-drop len at ws

-- a front of the part
take_within : (at k len : ℕ) (ws part : List ℕ) → at ≤ length ws → len ≤ length part → take len (drop at (put_mid at k ws part)) ≡ take len part
take_within at k len ws part le less = ap (take len) (drop_part at k ws part le) ∙ take-append-le len part (drop k (drop at ws)) less

-- a walk at the front of the part
pub routed : (edge : ℕ → ℕ → Bool) (from to at room k len : ℕ) (ws part : List ℕ) → k ≡ room → at + room ≤ length ws → length part ≡ k →
    Route edge from to (take k (drop at ws)) part len → Routed edge from to at room ws (put_mid at k ws part) len
routed edge from to at room k len ws part same fits long r =
    let within : len ≤ length part = r.within in
    let front : length (take len part) ≡ len = length-take-le len part within in
    let some : 0 < length (take len part) = r.walk.some in
    record {
      some = omega arith;
      within = omega arith;
      walk = subst (Walk edge from to) (sym (take_within at k len ws part (omega arith) within)) r.walk;
      before = take-put_mid_below at k ws part at (omega arith) (omega arith);
      rest = drop_within at k len ws part (omega arith) long (omega arith) r.rest;
    }
