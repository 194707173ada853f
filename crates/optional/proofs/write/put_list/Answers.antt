-- What was written so far and what the parameters that still come are written as are the whole part.
use Rattle.std.proofs.Common.{ap}
use Rattle.optional.proofs.Putting.{begins, turn, comes, last_fits, ends}
use Rattle.optional.proofs.write.put_list.Goals as goal

pub loop-entry-init : goal.loop-entry-init
loop-entry-init c = (tt, tt, begins _ _ c.requires _ (ap (λ e. e.0.now) c.into_iter-entry-iterator.ensures.into_iter_gives))

pub unwrap-requires : goal.unwrap-requires
unwrap-requires c = comes _ _ _ _ _ _ c.loop-entry.invariant.2 c.in-Some.entry c.in-Some.ensures.steps

pub put_entry-to-requires : goal.put_entry-to-requires
put_entry-to-requires c =
    let t = turn _ _ c.requires _ _ _ _ c.loop-entry.invariant.2 c.in-Some.entry c.unwrap.result c.unwrap.ensures c.in-Some.ensures.steps in
    record { is_sound = t.sounds; fits = t.fits }

pub loop-entry-preserved : goal.loop-entry-preserved
loop-entry-preserved c =
    let t = turn _ _ c.requires _ _ _ _ c.loop-entry.invariant.2 c.in-Some.entry c.unwrap.result c.unwrap.ensures c.in-Some.ensures.steps in
    (tt, tt, t.again _ _ c.put_entry-to.ensures.buffer c.put_entry-to.ensures.end)

pub bounds-buffer-to : goal.bounds-buffer-to
bounds-buffer-to c = last_fits _ _ c.requires _ _ _ c.loop-entry.invariant.2 c.in-None.ensures.steps.0

pub returns : goal.returns
returns c = ends _ _ c.requires _ _ _ c.loop-entry.invariant.2 c.in-None.ensures.steps.0
