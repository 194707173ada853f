-- The survey decides; where it allows it, the list is written.
use Rattle.std.proofs.Common.{◌≡◌, ◌∙◌, false, length, rules}
use Rattle.optional.specs.List.{whole}
use Rattle.optional.specs.Survey.{Says, judged}
use Rattle.optional.proofs.Judged.{short, refuses, writes}
use Rattle.optional.proofs.write.write.Goals as goal

pub returns-in_err-survey-clause-buffer : goal.returns-in_err-survey-clause-buffer
returns-in_err-survey-clause-buffer c =
    let cut : whole c.args.list.now ≡ false = search rules in
    (short _ _ cut).buffer

pub returns-in_err-judged-clause-buffer : goal.returns-in_err-judged-clause-buffer
returns-in_err-judged-clause-buffer c =
    let says : Says c.args.list.now c.in_ok-survey.survey = search rules in
    (refuses _ _ _ says _ c.in_err-judged.ensures).buffer

pub put_list-requires : goal.put_list-requires
put_list-requires c =
    let says : Says c.args.list.now c.in_ok-survey.survey = search rules in
    let allowed : 0 ≡ judged c.in_ok-survey.survey (length c.args.buffer.now) = search rules in
    (writes _ _ _ says allowed).writable

pub returns : goal.returns
returns c =
    let says : Says c.args.list.now c.in_ok-survey.survey = search rules in
    let allowed : 0 ≡ judged c.in_ok-survey.survey (length c.args.buffer.now) = search rules in
    let goes = writes _ _ _ says allowed in
    record { result = goes.result; buffer = c.put_list.ensures ∙ goes.buffer }
