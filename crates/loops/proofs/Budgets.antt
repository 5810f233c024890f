-- The rounds of a node and of all nodes: what is written between two rounds, and that there is room for one more.
use Rattle.std.proofs.Common.{◌≡◌, ℕ, suc, ◌+◌, ◌-◌, ◌*◌, ◌/◌, ◌%◌, ◌^◌, ◌<◌, ◌≤◌, Bool, ◌⊎◌, List, length, take, drop, sym, refl, ap, ◌∙◌, subst, inl, inr, ⊎_elim, add-mul, arith}
use Rattle.frames.specs.Frames.{Node}
use Rattle.frames.specs.Frames.Node.{proposition, truth, negation, next, both, either, apply}
use Rattle.kripke.specs.Models.{Kripke}
use Rattle.language.specs.Properties.{Property, node_width}
use Rattle.logic.specs.Product.{mask_of, mask_width, start_of}
use Rattle.logic.specs.Truth.{node_at}
use Rattle.logic.proofs.Spread.{start_mono}
use Rattle.tableau.specs.Built.{Built, OpenLoop}
use Rattle.tableau.specs.Masked.{pending_mask}
use Rattle.tableau.specs.Numbers.{of_numbers, vertex_of, vertices}
use Rattle.tableau.specs.Rounds.{pending_node}
use Rattle.tableau.specs.Walks.{DischargedAt, Vertex}
use Rattle.tableau.proofs.Budgeting.{budget}
use Rattle.tableau.proofs.Judging.{verdicts}
use Rattle.tableau.proofs.Loops.{builds}
use Rattle.tableau.proofs.Masking.{masked}
use Rattle.loops.specs.declared.progress.Progress.{Progress}
use Rattle.loops.specs.Carrying.{PendingOf}
use Rattle.loops.specs.Rounding.{NodesDone, RoundMade, RoundReady, due_count, round_words}
use Rattle.loops.specs.Settings.{Setting}
use Rattle.loops.proofs.Bits.{mask_none, some_counted}
use Rattle.loops.proofs.Places.{later}

-- Between two rounds of node k: before its first round the words were `was`, `first` of them written. The rounds of all nodes so far and the obligations that are due
-- are together fewer than the bits up to this node, if there are bits.
pub record UnderWay (m : Kripke) (f : Property) (G : ℕ → Bool) (x k first : ℕ) (was : List ℕ) (done : Progress) (words : List ℕ) : Type 0 where
  pub fits : done.due < 2 ^ node_width f.connectives (node_at f k)
  pub applied : (done.due ≡ 0) ⊎ ((c : ℕ) × (is : List ℕ) × (node_at f k ≡ apply c is))
  pub built : Built m f G x k done.due (take done.at words)
  pub rounds : (n : ℕ) × (n + due_count f k done.due ≤ start_of f (suc k) - 1) × (done.at ≤ n * round_words m f)
  pub further : first ≤ done.at
  pub rest : drop (done.at + 1) words ≡ drop (done.at + 1) was

-- the obligations that the code finds at a vertex are those of its mask
pub pending_is : (m : Kripke) (f : Property) (M lab v k r : ℕ) → M ≡ 2 ^ mask_width f → lab ≡ m.label (v / M) → PendingOf f lab (v % M) k r → r ≡ pending_mask m f (vertex_of f v) k
pending_is m f M lab v k r em el is = is m (vertex_of f v) (ap (λ n. m.label (v / n)) (sym em) ∙ sym el) (ap (λ n. v % n) (sym em))

-- only a connective node has obligations
owes : (m : Kripke) (f : Property) (u : Vertex) (k : ℕ) → (pending_mask m f u k ≡ 0) ⊎ ((c : ℕ) × (is : List ℕ) × (node_at f k ≡ apply c is))
owes m f u k = go (node_at f k) refl
  where
    none : (y : Node) → node_at f k ≡ y → mask_of (node_width f.connectives y) (pending_node m f u k y) ≡ 0 → pending_mask m f u k ≡ 0
    none y e z = ap (λ n. mask_of (node_width f.connectives n) (pending_node m f u k n)) e ∙ z

    go : (y : Node) → node_at f k ≡ y → (pending_mask m f u k ≡ 0) ⊎ ((c : ℕ) × (is : List ℕ) × (node_at f k ≡ apply c is))
    go (proposition i) e = inl (none (proposition i) e refl)
    go (negation i) e = inl (none (negation i) e refl)
    go (next i) e = inl (none (next i) e (mask_none 1))
    go (both i j) e = inl (none (both i j) e refl)
    go (either i j) e = inl (none (either i j) e refl)
    go (apply c is) e = inr (c, is, e)
    go truth e = inl (none truth e refl)

-- before the first round
pub way_begins : (m : Kripke) (f : Property) (G : ℕ → Bool) (x k at due : ℕ) (index words : List ℕ) → Setting m f G x index → NodesDone m f G x k at words →
    due ≡ pending_mask m f (vertex_of f x) k → UnderWay m f G x k at words (record { at = at; due = due }) words
way_begins m f G x k at due index words setting before e =
    let v : Vertex = vertex_of f x in
    let (n, few, long) = before.rounds in
    let discharged : DischargedAt m f (of_numbers f G) v = ((verdicts.test m f G x setting.vertex).0 setting.tested).discharged in
    record {
      fits = subst (λ D. D < 2 ^ node_width f.connectives (node_at f k)) (sym e) (masked.fits m f v k);
      applied = ⊎_elim (λ z. inl (e ∙ z)) (λ a. inr a) (owes m f v k);
      built = subst (λ D. Built m f G x k D (take at words)) (sym e) before.built;
      rounds = (n, subst (λ D. n + due_count f k D ≤ start_of f (suc k) - 1) (sym e) (budget.node m f setting.formed (of_numbers f G) v discharged k n few), long);
      further = omega arith;
      rest = refl;
    }

module _ (m : Kripke) (f : Property) (G : ℕ → Bool) (x k first : ℕ) (was : List ℕ) (done : Progress) (words : List ℕ) (node : k < length f.nodes) (way : UnderWay m f G x k first was done words) where
  -- there is room for one more
  pub round_ready : 0 < done.due → mask_width f * mask_width f * vertices m f ≤ length words → RoundReady m f G x k done words
  round_ready some room =
      let (n, few, long) = way.rounds in
      let one = some_counted (node_width f.connectives (node_at f k)) done.due way.fits some in
      let up : start_of f (suc k) ≤ mask_width f = start_mono f (suc k) (length f.nodes) node in
      let more : (n + 1) * round_words m f ≡ n * round_words m f + 1 * round_words m f = add-mul n 1 (round_words m f) in
      let whole : done.at + round_words m f ≤ mask_width f * mask_width f * vertices m f =
      budget.room (mask_width f) (vertices m f) (n + 1) (done.at + round_words m f) (omega arith) (omega arith) in
      record {
        node = node;
        applied = ⊎_elim (λ z. absurd (omega arith)) (λ a. a) way.applied;
        fits = way.fits;
        some = some;
        built = way.built;
        room = omega arith;
      }

  -- after a round
  pub way_on : 0 < done.due → (after : List ℕ) (r : Progress) → RoundMade m f G x k done words after r → UnderWay m f G x k first was r after
  way_on some after r made =
      let (n, few, long) = way.rounds in
      let more : (n + 1) * round_words m f ≡ n * round_words m f + 1 * round_words m f = add-mul n 1 (round_words m f) in
      let fewer : due_count f k r.due < due_count f k done.due = made.fewer in
      let longer : r.at ≤ done.at + round_words m f = made.longer in
      let further : done.at ≤ r.at = made.further in
      let from_first : first ≤ done.at = way.further in
      record {
        fits = made.fits;
        applied = ⊎_elim (λ z. absurd (omega arith)) (λ a. inr a) way.applied;
        built = made.built;
        rounds = (n + 1, omega arith, omega arith);
        further = omega arith;
        rest = made.rest ∙ later (done.at + 1) (r.at + 1) words was (omega arith) way.rest;
      }

  -- after the last
  pub way_ends : done.due ≡ 0 → NodesDone m f G x (suc k) done.at words
  way_ends none =
      let (n, few, long) = way.rounds in
      record {
        built = builds.next m f G x k (take done.at words) (subst (λ D. Built m f G x k D (take done.at words)) none way.built);
        rounds = (n, omega arith, long);
      }

-- before the first node
pub nodes_begin : (m : Kripke) (f : Property) (G : ℕ → Bool) (x : ℕ) (index words : List ℕ) → Setting m f G x index → NodesDone m f G x 0 0 words
nodes_begin m f G x index words setting = record { built = builds.begins m f G x setting.tested.inside; rounds = (0, omega arith, omega arith) }

module _ (m : Kripke) (f : Property) (G : ℕ → Bool) (x n at : ℕ) (words : List ℕ) (all : n ≡ length f.nodes) (done : NodesDone m f G x n at words) where
  ended : NodesDone m f G x (length f.nodes) at words
  ended = subst (λ k. NodesDone m f G x k at words) all done

  -- after the last node
  pub nodes_end : OpenLoop m f G x x 0 (take at words)
  nodes_end = builds.all_done m f G x (pending_mask m f (vertex_of f x) (length f.nodes)) (take at words) ended.built

  pub nodes_few : at ≤ mask_width f * mask_width f * vertices m f
  nodes_few = let (r, few, long) = ended.rounds in budget.room (mask_width f) (vertices m f) r at few long
