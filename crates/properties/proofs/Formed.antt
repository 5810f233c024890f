-- A stored property is well formed, so its canonical text reads back.
use Rattle.std.proofs.Common.{◌≡◌, ℕ, zero, suc, ◌<◌, ◌≤◌, true, ◌&&◌, leb, List, [], ◌∷◌, map, length, take, ◌∙◌, arith}
use Rattle.std.proofs.lemmas.List.{length-map, length-take-le}
use Rattle.std.proofs.lemmas.Bool.{and_parts, leb-true, ltb-true}
use Rattle.language.specs.Properties.{WellFormed, all_fit, connective_at, nodes_fit}
use Rattle.properties.specs.declared.property.Property.{Property as Stored}
use Rattle.properties.specs.declared.rows.Connective.{Connective as ConnectiveRow}
use Rattle.properties.specs.Meaning.{meaning}
use Rattle.properties.specs.Views.{connective_of, node_of}

-- the rows go only from states and to states that they have, on their letters
moves_fit : (rows : List ConnectiveRow) (c q a r : ℕ) → (connective_at (map connective_of rows) c).may q a r ≡ true → (q < (connective_at (map connective_of rows) c).states) × (a < (connective_at (map connective_of rows) c).letters) × (r < (connective_at (map connective_of rows) c).states)
moves_fit [] c q a r h = let z : ◌≡◌ {A = ℕ} 0 1 = cc in absurd (omega arith)
moves_fit (x ∷ rows) zero q a r h =
    let e = and_parts _ _ h in
    let f = and_parts _ _ e.1 in
    let g = and_parts _ _ f.1 in
    (ltb-true q x.states e.0, ltb-true a x.letters f.0, ltb-true r x.states g.0)
moves_fit (x ∷ rows) (suc c) q a r h = moves_fit rows c q a r h

pub formed : (p : Stored) → WellFormed (meaning p)
formed p =
    let s = p.rows in
    let few : s.used ≤ 4 = s.few_connectives in
    let short : s.count ≤ 32 = s.few_nodes in
    let connectives : length (meaning p).connectives ≡ s.used = length-map (take s.used s.connectives) connective_of ∙ length-take-le s.used s.connectives (omega (arith, s.four)) in
    let nodes : length (meaning p).nodes ≡ s.count = length-map (take s.count s.nodes) node_of ∙ length-take-le s.count s.nodes (omega (arith, s.many)) in
    let f : (all_fit (meaning p).connectives ≡ true) × ((leb 1 s.count && nodes_fit (meaning p).connectives 0 (meaning p).nodes) ≡ true) = and_parts _ _ p.fit in
    let g : (leb 1 s.count ≡ true) × (nodes_fit (meaning p).connectives 0 (meaning p).nodes ≡ true) = and_parts _ _ f.1 in
    let some = leb-true 1 s.count g.0 in
    record {
      few_connectives = omega arith;
      connectives_fit = f.0;
      moves_fit = moves_fit (take s.used s.connectives);
      rooted = omega arith;
      few_nodes = omega arith;
      operands_lower = g.1;
      narrow = omega (arith, s.wide, s.narrow);
    }
