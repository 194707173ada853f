-- The map that is drawn is the table's, and so is the first lamp.
use Rattle.std.proofs.Common.{ap, ◌∙◌}
use Rattle.lamps.specs.declared.Lamps.{Lamps}
use Rattle.lamps.specs.Lamps.{lowest_in}
use Rattle.lines.specs.Panel.{drawing}
use Rattle.lines.proofs.Joined.{said}
use Rattle.panel.specs.Drawn.{panel}
use Rattle.panel.proofs.drawn.Goals as goal

pub returns-clause-text : goal.returns-clause-text
unfolding panel
returns-clause-text c =
    let map = c.map-map in
    let first = ap (drawing map.result.words map.result.lit) c.lowest-first.ensures.lamp in
    let both = first ∙ ap (λ (m : Lamps). drawing m.words m.lit (lowest_in m.words)) map.ensures.reading in
    said both c.draw.ensures.text
