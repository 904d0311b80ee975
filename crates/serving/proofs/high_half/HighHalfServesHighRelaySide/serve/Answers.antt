use Rattle.std.proofs.Common.{sym}
use Rattle.serving.proofs.high_half.HighHalfServesHighRelaySide.serve.Goals as goal

pub returns : goal.returns
returns g c =
    let e = c.high_rounds-self.ensures in
    let r = e.rounds in
    record {
      opened = c.in-Some.door;
      shut = c.high_rounds-self.new.door;
      had = sym c.in-Some.ensures.value;
      has_none = c.in-Some.ensures.after;
      did = c.shut.ensures.did;
      ran = record {
        stays = r.0;
        so = r.1;
        ends = r.2;
        did = r.3;
        gave = r.4;
        port = e.port;
        links = r.5;
        moments = r.6;
        still = (e.shape, e.place);
        takes = r.7;
        device = e.device;
        store =
            λ sound.
            let now = e.ready (e.up sound) in
            record { up = now.up; ready = now.ready; count = now.count };
        counts = e.counts;
      };
    }
