-- A round by lists: the walk that was found, the states that are written over it, and what is then built.
use Rattle.std.proofs.Common.{◌≡◌, ℕ, suc, ◌+◌, ◌-◌, ◌*◌, ◌%◌, ◌^◌, ◌<◌, ◌≤◌, Bool, false, T, Option, MatchOption, IsSome, List, ◌++◌, length, take, drop, sym, ap, ◌∙◌, subst, ap₂, subst₂, arith}
use mathlib.Core.List.{map-map}
use Rattle.std.proofs.lemmas.Bool.{some_since}
use Rattle.std.proofs.lemmas.List.{length-drop, length-take-le, take-take}
use Rattle.frames.specs.Frames.Node.{apply}
use Rattle.graphs.specs.Walks.{Reaches, Walk}
use Rattle.kripke.specs.Models.{Kripke}
use Rattle.masks.specs.Masks.{bit}
use Rattle.language.specs.Properties.{Property, connective_at, node_width, width}
use Rattle.logic.specs.Product.{mask_width, some_below, start_of}
use Rattle.logic.specs.Truth.{node_at}
use Rattle.logic.proofs.Spread.{start_mono, widths}
use Rattle.obligations.proofs.Coming.{from_is, from_low}
use Rattle.obligations.proofs.Obliging.{few_numbers}
use Rattle.properties.specs.declared.property.Property.{Property as Stored}
use Rattle.properties.specs.Meaning.{meaning}
use Rattle.properties.proofs.Verdicts.{length_nodes}
use Rattle.tableau.specs.Built.{BuildRounded, Built, states_on}
use Rattle.tableau.specs.Masked.{carried_along}
use Rattle.tableau.specs.Numbers.{layered, left_on, obligation_edge, vertex_of, vertices}
use Rattle.tableau.specs.Rounds.{count, lowest}
use Rattle.tableau.specs.Walks.{Vertex}
use Rattle.tableau.proofs.Loops.{builds}
use Rattle.loops.specs.declared.progress.Progress.{Progress}
use Rattle.loops.specs.Carrying.{vertices_from}
use Rattle.loops.specs.Rounding.{RoundMade, RoundReady, round_words}
use Rattle.loops.specs.Settings.{Setting}
use Rattle.loops.specs.Words.{Routed, overwritten, states_from}
use Rattle.loops.proofs.Bits.{lowest_bit, some_bit}
use Rattle.loops.proofs.Written.{drop_past, take_overwritten}

-- a search of a mask that is not 0 finds a bit
pub some_due : (M w n : ℕ) (o : Option ℕ) (Q : ℕ → Type 0) → w ≡ n → M < 2 ^ n → 0 < M → MatchOption o (some_below w (bit M) ≡ false) Q → IsSome o
some_due M w n o Q e fits some met =
    some_since o _ Q met (λ none. subst T none (some_bit w M (subst (λ i. M < 2 ^ i) (sym e) fits) some))

-- a node of the property is one of the rows
pub counted : (p : Stored) (k : ℕ) → k < length (meaning p).nodes → k < p.rows.count
counted p k lt = subst (λ n. k < n) (length_nodes p.rows) lt

-- the states at the numbers of a walk but the last
pub states_are : (m : Kripke) (f : Property) (size masks : ℕ) (l : List ℕ) → size ≡ vertices m f → masks ≡ 2 ^ mask_width f →
    states_from size masks (take (length l - 1) l) ≡ states_on m f l
states_are m f size masks l es em =
    ap₂ (λ n a. states_from n a (take (length l - 1) l)) es em
    ∙ sym (map-map (λ (v : Vertex). v.state) (λ n. vertex_of f (n % vertices m f)) (take (length l - 1) l))

module _ (m : Kripke) (f : Property) (G : ℕ → Bool) (x k : ℕ) (index : List ℕ) (done : Progress) (was : List ℕ) (setting : Setting m f G x index) (ready : RoundReady m f G x k done was)
    (q w : ℕ) (wide : w ≡ node_width f.connectives (node_at f k)) (first : q ≡ lowest w (bit done.due)) where
  found : (q < w) × T (bit done.due q)
  found =
      subst (λ n. (n < w) × T (bit done.due n)) (sym first)
      (lowest_bit w done.due (subst (λ n. done.due < 2 ^ n) (sym wide) ready.fits) ready.some)

  pub state_low : q < w
  state_low = found.0

  -- q is due
  is_due : T (bit done.due q)
  is_due = found.1

  -- the bit of the obligation is one of the property's
  pub bit_low : start_of f k + q < mask_width f
  bit_low =
      let low = state_low in
      let up : start_of f (suc k) ≤ mask_width f = start_mono f (suc k) (length f.nodes) ready.node in
      omega arith

  -- the number from which the walk sets out
  pub sets_out : (start size : ℕ) → start ≡ start_of f k → size ≡ vertices m f → x + (start + q + 1) * size ≡ layered m f x (suc (start_of f k + q))
  sets_out start size es en = from_is m f x (start + q) size en ∙ ap (λ s. layered m f x (suc (s + q))) es

  pub walk_there : (start size : ℕ) → start ≡ start_of f k → size ≡ vertices m f → Reaches (obligation_edge m f G) (x + (start + q + 1) * size) x
  walk_there start size es en =
      let (c, is, e) = ready.applied in
      subst (λ n. Reaches (obligation_edge m f G) n x) (sym (sets_out start size es en))
      (setting.tested.walks k c is e q (ready.built.progress.obligations c is e q is_due))

  pub out_low : (start size : ℕ) → start ≡ start_of f k → size ≡ vertices m f → x + (start + q + 1) * size < (mask_width f + 1) * vertices m f
  out_low start size es en =
      let low = bit_low in
      let vertex : x < vertices m f = setting.vertex in
      subst (λ n. x + (start + q + 1) * n < (mask_width f + 1) * vertices m f) (sym en) (from_low x (start + q) (mask_width f) (vertices m f) vertex (omega arith))

  -- these numbers are few
  pub out_few : (start size : ℕ) → start ≡ start_of f k → size ≡ vertices m f → x + (start + q + 1) * size ≤ 16777216
  out_few start size es en =
      let low = out_low start size es en in
      let narrow : width f.connectives f.nodes ≤ 12 = setting.formed.narrow in
      let bits = widths f in
      let few = few_numbers (mask_width f + 1) (vertices m f) (omega arith) setting.few in
      omega arith

  -- what a round makes: words has the walk, and in `after` its states are written over it
  module _ (start size masks n len : ℕ) (words after : List ℕ) (es : start ≡ start_of f k) (en : size ≡ vertices m f) (em : masks ≡ 2 ^ mask_width f) (er : n ≡ round_words m f)
      (kept : length words ≡ length was) (routed : Routed (obligation_edge m f G) (x + (start + q + 1) * size) x done.at n was words len)
      (due one : ℕ) (eo : one ≡ 2 ^ q)
      (carried : (c : ℕ) (is : List ℕ) → node_at f k ≡ apply c is →
      due ≡ carried_along m f k c is (vertices_from m f (take (done.at + len - 1 - done.at) (drop done.at words))) (done.due - one))
      (written : after ≡ overwritten done.at (states_from size masks (take (done.at + len - 1 - done.at) (drop done.at words))) words) where
    abbrev at : ℕ
    at = done.at

    -- the walk
    abbrev l : List ℕ
    l = take len (drop at words)

    room : at + len ≤ length words
    room =
        let all : at + round_words m f ≤ length was = ready.room in
        let in-room : len ≤ n = routed.within in
        omega arith

    long : length l ≡ len
    long = let r = room in length-take-le len (drop at words) (let s = length-drop at words in omega arith)

    -- the walk without its last number
    left : take (at + len - 1 - at) (drop at words) ≡ take (length l - 1) l
    left =
        let some : 0 < len = routed.some in
        let e = long in
        let s : at + len - 1 - at ≡ length l - 1 = omega arith in
        ap (λ i. take i (drop at words)) s ∙ sym (take-take (length l - 1) len (drop at words) (omega arith))

    part : states_from size masks (take (at + len - 1 - at) (drop at words)) ≡ states_on m f l
    part = ap (states_from size masks) left ∙ states_are m f size masks l en em

    is_after : after ≡ overwritten at (states_on m f l) words
    is_after = written ∙ ap (λ p. overwritten at p words) part

    size_part : length (states_on m f l) ≡ len - 1
    size_part = builds.sizes m f l ∙ ap (λ i. i - 1) long

    front : take (at + len - 1) after ≡ take at was ++ states_on m f l
    front =
        let some : 0 < len = routed.some in
        let r = room in
        let s : at + len - 1 ≡ at + (len - 1) = omega arith in
        ap₂ take s is_after ∙ ap (λ i. take (at + i) (overwritten at (states_on m f l) words)) (sym size_part) ∙ take_overwritten at (states_on m f l) words (omega arith) ∙ ap (λ p. p ++ states_on m f l) routed.before

    back : drop (at + len - 1 + 1) after ≡ drop (at + len - 1 + 1) was
    back =
        let some : 0 < len = routed.some in
        let r = room in
        let e = size_part in
        let s : at + len - 1 + 1 ≡ at + len = omega arith in
        ap₂ drop s is_after ∙ drop_past (at + len) at (states_on m f l) words (omega arith) (omega arith) ∙ routed.rest ∙ ap (λ i. drop i was) (sym s)

    pub round_made : RoundMade m f G x k done was after (record { at = at + len - 1; due = due })
    round_made =
        let (c, is, e) = ready.applied in
        let walk : Walk (obligation_edge m f G) (layered m f x (suc (start_of f k + q))) x l =
        subst (λ i. Walk (obligation_edge m f G) i x l) (sets_out start size es en) routed.walk in
        let states : node_width f.connectives (node_at f k) ≡ (connective_at f.connectives c).states = ap (node_width f.connectives) e in
        let r : BuildRounded m f G x k c is done.due q (take at was) l =
        builds.round m f G x k c is e done.due (take at was) setting.vertex (subst (λ n. done.due < 2 ^ n) states ready.fits) ready.built q is_due l walk in
        let d : due ≡ carried_along m f k c is (left_on m f l) (done.due - 2 ^ q) = carried c is e ∙ ap₂ (λ t o. carried_along m f k c is (vertices_from m f t) (done.due - o)) left eo in
        let some : 0 < len = routed.some in
        let in-room : len ≤ n = routed.within in
        record {
          fits = subst₂ (λ i D. D < 2 ^ i) (sym states) (sym d) r.fits;
          fewer = subst₂ (λ i D. count i (bit D) < count i (bit done.due)) (sym states) (sym d) r.fewer;
          built = subst₂ (λ D p. Built m f G x k D p) (sym d) (sym front) r.built;
          further = omega arith;
          longer = omega arith;
          rest = back;
        }
