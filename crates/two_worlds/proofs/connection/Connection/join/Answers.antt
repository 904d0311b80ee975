use Rattle.std.proofs.Common.{refl, sym, ap, subst, true, [], ◌∷◌}
use Rattle.pump_core.specs.History.{Came}
use Rattle.script_reader.specs.Steps.{coming, data_frame}
use Rattle.script_reader.specs.Heads.{arriving_with}
use Rattle.script_reader.specs.declared.line.Arriving.{Arriving}
use Rattle.two_worlds.specs.Connections.{Connected, Joins, reading_of}
use Rattle.two_worlds.proofs.Arriving.Joining.{joins_nothing}
use Rattle.two_worlds.proofs.connection.Connection.join.Goals as goal

pub returns-in-Nothing : goal.returns-in-Nothing
returns-in-Nothing c =
    let i = c.self.inside in
    subst (λ (t : Connected). Joins t t c.args.session (arriving_with c.args.bytes.now c.args.arriving.now) true) c.self.view_is
    (joins_nothing i.waits i.is_broken i.reader.value c.args.session (arriving_with c.args.bytes.now c.args.arriving.now) c.len-waiting.result (ap (arriving_with c.args.bytes.now) c.in-Nothing.is) c.len-waiting.ensures.value c.len-waiting.ensures.fits)

pub returns-in-Hello : goal.returns-in-Hello
returns-in-Hello c =
    subst (λ (t : Arriving). Joins c.args.self.now c.join_hello.new.self c.args.session t c.join_hello.result) (sym (ap (arriving_with c.args.bytes.now) c.in-Hello.is)) c.join_hello.ensures

pub returns-in-Data : goal.returns-in-Data
returns-in-Data c =
    subst (λ (t : Arriving). Joins c.args.self.now c.join_data.new.self c.args.session t c.join_data.result) (sym (ap (arriving_with c.args.bytes.now) c.in-Data.is))
    (coming (Came (data_frame c.args.session c.in-Data.number c.args.bytes.now) ∷ []) (reading_of c.args.self.now), refl, c.join_data.ensures)
