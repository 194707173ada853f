-- What the check says, and where it says nothing the lamps.
use Rattle.std.proofs.Common.{sym, ap, ◌∙◌}
use Rattle.octets.proofs.Tests.{if_eq, if_ne}
use Rattle.rules.specs.declared.verdict.Check.{Check}
use Rattle.rules.proofs.Check.{check-most}
use Rattle.lamps.specs.Lamps.{dark_map, lamp_map}
use Rattle.lamps.proofs.map.Goals as goal

pub returns-then-check-ne-DONE : goal.returns-then-check-ne-DONE
unfolding lamp_map
returns-then-check-ne-DONE c =
    let check = c.check-check.ensures.reading in
    record { reading = if_ne _ _ _ 0 (λ e. c.if-check-ne-DONE.true (ap (λ (k : Check). k.number) check ∙ e)) (c.dark.ensures ∙ ap dark_map check) }

pub lit_map-requires : goal.lit_map-requires
lit_map-requires c = check-most _ (sym (ap (λ (k : Check). k.number) c.check-check.ensures.reading) ∙ c.if-check-ne-DONE.false)

pub returns : goal.returns
unfolding lamp_map
returns c = record { reading = if_eq _ _ _ 0 (sym (ap (λ (k : Check). k.number) c.check-check.ensures.reading) ∙ c.if-check-ne-DONE.false) c.lit_map.ensures }
