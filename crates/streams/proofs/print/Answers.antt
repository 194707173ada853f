-- What was put there fits.
use Rattle.std.proofs.Common.{refl, arith, sym}
use Rattle.std.proofs.Math.Seq.{length-take-le}
use Rattle.streams.proofs.print.Goals as goal

pub slice_bounds-write-end : goal.slice_bounds-write-end
slice_bounds-write-end g c =
    let fits = c.requires.fits c.text-n.result c.text-n.new.arg2 (record { shown = _; shows = refl; left = _; met = c.text-n.ensures; leaves = refl }) in
    omega (arith, fits, c.text-n.auto.arg2)

pub slice_bounds-write-end-2 : goal.slice_bounds-write-end-2
slice_bounds-write-end-2 g c =
    sym (length-take-le c.text-n.result c.text-n.new.arg2 (slice_bounds-write-end g c))
