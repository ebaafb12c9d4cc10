-- What is left of the proof of `laws::same_lists`.
use Rattle.std.proofs.Common.{ap}
use Rattle.psy_base.specs.declared.ways.Ways.{Ways}
use Rattle.psy_gen.proofs.ways.Lists.{paths_in, sends_of}
use Rattle.psy_gen.proofs.laws.same_lists.Goals as goal

pub returns-clause-all_but_sends : goal.returns-clause-all_but_sends
returns-clause-all_but_sends c unit code ways coded same text are =
    let mixed : Ways = record { nexts = coded.nexts; looks = coded.looks; sends = ways.sends; delays = coded.delays } in
    let own = paths_in unit code same coded are in
    let is = c.one_list.ensures.text unit ways mixed text
    (record {
      nexts = own.nexts;
      looks = own.looks;
      sends = text.sends;
      delays = own.delays;
    }) in
    record { nexts = ap (λ (w : Ways). w.nexts) is; looks = ap (λ (w : Ways). w.looks) is; delays = ap (λ (w : Ways). w.delays) is }

pub returns-clause-all : goal.returns-clause-all
returns-clause-all c unit code ways coded of_text silent same text are =
    let own = paths_in unit code same coded are in
    c.one_list.ensures.text unit ways coded text (record {
      nexts = own.nexts;
      looks = own.looks;
      sends = sends_of unit code same coded are
          (λ number agent from to stream got. c.sends.ensures.some unit number agent from to stream (of_text, got)) silent;
      delays = own.delays;
    })
