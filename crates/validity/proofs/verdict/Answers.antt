-- The code of the verdict gives it back.
use Rattle.validity.proofs.Codes.{decoded-back}
use Rattle.validity.proofs.verdict.Goals as goal

pub returns : goal.returns
returns c = decoded-back c.coded.ensures c.decoded.ensures
