use Rattle.std.proofs.Common.{[], ◌∷◌, inl, inr, refl}
use Rattle.pump_link.specs.Ports.{Connected, BackToPorts}
use Rattle.pump_link.proofs.Grown.{Grows-then}
use Rattle.dispatch.proofs.Sent.{sent_caused}
use Rattle.dispatch.proofs.send.send_over.Goals as goal

pub returns-in-Err-clause-sends : goal.returns-in-Err-clause-sends
returns-in-Err-clause-sends g c = inl (refl, c.in-Err.ensures.did, refl)

pub returns-clause-sends : goal.returns-clause-sends
returns-clause-sends g c =
    let (sending, sends, gave, sent, printed) = c.send_with-end.ensures.sends in
    inr (
      c.send_with-end.result,
      c.end_of_sender.ensures,
      record {
        came = c.in-Ok.link;
        back = c.send_with-end.new.link;
        over = Grows-then _ _ _ (Connected c.args.row.now.low_port c.in-Ok.link ∷ []) (BackToPorts c.send_with-end.new.link ∷ []) c.in-Ok.ensures.did c.back.ensures.did;
        sending = sending;
        sends = sends;
        gave = gave;
        sent = sent;
        printed = printed;
      },
    )

pub returns-clause-cause : goal.returns-clause-cause
returns-clause-cause g c =
    let s = c.send_with-end.ensures.sends in
    sent_caused c.args.row.now _ _ _ _ _ (λ rose. rose) (λ rose. rose) s.0 c.send_with-end.result _ c.end_of_sender.ensures s.1
