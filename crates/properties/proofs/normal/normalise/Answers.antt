use Rattle.std.proofs.Common.{ℕ, List, ap, ◌∙◌}
use Rattle.frames.specs.Areas.{filled, told}
use Rattle.properties.specs.Normal.{shown}
use Rattle.properties.proofs.normal.normalise.Goals as goal

pub returns-in-Err : goal.returns-in-Err
returns-in-Err c =
    let e = ap shown c.in-Err.ensures.spells in
    record {
      answer = c.show-in-Err.ensures.answer ∙ ap (λ (t : List ℕ). told t c.args.area.now) e;
      area = c.show-in-Err.ensures.area ∙ ap (λ (t : List ℕ). filled t c.args.area.now) e;
    }
