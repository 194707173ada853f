-- Where an act leaves one part of a circuit, writing the other part is writing the circuit.
use Rattle.std.proofs.Common.{inl, inr, rules}
use Rattle.effect.proofs.Parts.{holder_stays, reservation_stays}
use Rattle.effect.proofs.act.Goals as goal

pub returns-in-Reserve : goal.returns-in-Reserve
returns-in-Reserve c =
    let a = c.args in
    holder_stays a.t.now a.i a.e (λ k. search rules) c.requires.1 c.requires.2 a.a (search rules) c.made-c.ensures (inl c.in-Reserve.is) c.store_reservation.ensures

pub returns-in-Release : goal.returns-in-Release
returns-in-Release c =
    let a = c.args in
    reservation_stays a.t.now a.i a.e (λ k. search rules) c.requires.1 c.requires.2 a.a (search rules) c.made-c.ensures (inl c.in-Release.is) c.store_holder.ensures

pub returns-in-Cancel : goal.returns-in-Cancel
returns-in-Cancel c =
    let a = c.args in
    holder_stays a.t.now a.i a.e (λ k. search rules) c.requires.1 c.requires.2 a.a (search rules) c.made-c.ensures (inr c.in-Cancel.is) c.store_reservation-in-Cancel.ensures

pub returns-in-Answered : goal.returns-in-Answered
returns-in-Answered c =
    let a = c.args in
    reservation_stays a.t.now a.i a.e (λ k. search rules) c.requires.1 c.requires.2 a.a (search rules) c.made-c.ensures (inr c.in-Answered.is) c.store_holder-in-Answered.ensures
