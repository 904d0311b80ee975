use Rattle.std.proofs.Common.{[]}
use Rattle.relay_threads.proofs.LowReplays.{stays_lawful, stays_connected}
use Rattle.relay_threads.proofs.Replaying.{replays, stops_at_last}
use Rattle.relay_threads.proofs.Scripting.{record_reads}
use Rattle.relay_threads.specs.LowStays.{stayed}
use Rattle.serving.proofs.laws.served_records_replay.Goals as goal

pub returns : goal.returns
returns g c opens row o stays lawful are made readable levels =
    let takes = stays_lawful row o stays are in
    let connected = stays_connected row o stays are made in
    record {
      lines = record_reads row o (stayed [] stays) readable;
      whole = replays opens row o lawful (stayed [] stays) made levels takes connected;
      stopped = stops_at_last opens row o lawful (stayed [] stays) made levels takes connected;
    }
