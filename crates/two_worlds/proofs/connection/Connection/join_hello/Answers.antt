use Rattle.std.proofs.Common.{ap, [], ◌∷◌}
use Rattle.pump_frame.specs.declared.frame.Frame.{Frame}
use Rattle.pump_core.specs.History.{Came}
use Rattle.script_reader.specs.Steps.{coming}
use Rattle.two_worlds.specs.Connections.{reading_of}
use Rattle.two_worlds.proofs.connection.Connection.join_hello.Goals as goal

pub returns : goal.returns
returns c =
    let e = c.hello.ensures in
    let r = reading_of c.args.self.now in (
      coming (Came c.hello.result ∷ []) r,
      ap (λ (f : Frame). coming (Came f ∷ []) r) (λ i. record { kind = e.kind i; session = e.session i; number = e.number i; payload = e.payload i }),
      c.join_frame.ensures,
    )
