-- Why the laws of clamps hold.
use Rattle.std.proofs.Common.{◌≡◌, ℕ, zero, suc, ◌+◌, ◌<◌, true, ◌&&◌, List, length, get_or, sym, subst, add-one, arith}
use lib.Bits.{bit_and}
use Rattle.std.proofs.lemmas.Bool.{and_from, and_parts, eq-eqb, eqb-true}
use Rattle.graphs.specs.Walks.{Walk}
use Rattle.kripke.specs.Models.{Kripke}
use Rattle.models.specs.Clamps.{admits, clamp}
use Rattle.models.specs.Laws.{Admitted}

module _ (mask value : ℕ) (k : Kripke) where
  admitted : (s : ℕ) → admits mask value k s ≡ true → Admitted mask value k s
  admitted s e = eqb-true (bit_and (k.label s) mask) value e

  pub edge_parts : (s t : ℕ) → (clamp mask value k).edge s t ≡ true → Admitted mask value k s × Admitted mask value k t × (k.edge s t ≡ true)
  edge_parts s t e =
      let p = and_parts (admits mask value k s) (admits mask value k t && k.edge s t) e in
      let q = and_parts (admits mask value k t) (k.edge s t) p.1 in
      (admitted s p.0, admitted t q.0, q.1)

  pub edge_made : (s t : ℕ) → Admitted mask value k s × Admitted mask value k t × (k.edge s t ≡ true) → (clamp mask value k).edge s t ≡ true
  edge_made s t h = and_from _ _ (eq-eqb (bit_and (k.label s) mask) value h.0) (and_from _ _ (eq-eqb (bit_and (k.label t) mask) value h.1) h.2)

  pub start_parts : (s : ℕ) → (clamp mask value k).start s ≡ true → Admitted mask value k s × (k.start s ≡ true)
  start_parts s e = let p = and_parts (admits mask value k s) (k.start s) e in (admitted s p.0, p.1)

  pub start_made : (s : ℕ) → Admitted mask value k s × (k.start s ≡ true) → (clamp mask value k).start s ≡ true
  start_made s h = and_from _ _ (eq-eqb (bit_and (k.label s) mask) value h.0) h.1

  pub walk_below : (from to : ℕ) (l : List ℕ) → Walk (clamp mask value k).edge from to l → Walk k.edge from to l
  walk_below from to l w = record {
    some = w.some;
    first = w.first;
    last = w.last;
    linked = λ i lt. (edge_parts (get_or l i 0) (get_or l (i + 1) 0) (w.linked i lt)).2;
  }

  pub walk_through : (from to : ℕ) (l : List ℕ) → Admitted mask value k from → Walk (clamp mask value k).edge from to l → (i : ℕ) → i < length l → Admitted mask value k (get_or l i 0)
  walk_through from to l a w zero lt = subst (λ s. Admitted mask value k s) (sym w.first) a
  walk_through from to l a w (suc i) lt =
      subst (λ j. Admitted mask value k (get_or l j 0)) (add-one i) (edge_parts (get_or l i 0) (get_or l (i + 1) 0) (w.linked i (omega arith))).1
