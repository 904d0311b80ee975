use Rattle.std.proofs.Common.{List, [], ◌∷◌, refl, sym, subst, append-nil, ◌∙◌}
use Rattle.pump_frame.specs.declared.reader.Fed.TheVariants as fed
use Rattle.pump_core.specs.History.{Arrival, Came, Bad}
use Rattle.two_worlds.specs.Private.Arrivals.{Gathers}
use Rattle.two_worlds.specs.declared.connection.Waiting.TheVariants as waiting
use Rattle.two_worlds.proofs.Arriving.RawBytes.{feeds_more, feeds_whole, feeds_bad, feeds_still, gathers_more}
use Rattle.two_worlds.proofs.connection.read_byte.Goals as goal

pub returns-in-More-clause-gathers : goal.returns-in-More-clause-gathers
returns-in-More-clause-gathers c = λ before added g. (
  [],
  feeds_more c.args.reader.now c.args.byte c.feed_into.new.self fed.More refl c.in-More.ensures.answer,
  subst (λ (l : List Arrival). Gathers before l c.args.waits.now c.args.count) (sym (append-nil added)) g,
)

pub returns-then-was_stopped-clause-gathers : goal.returns-then-was_stopped-clause-gathers
returns-then-was_stopped-clause-gathers c = λ before added g. (
  [],
  feeds_still c.args.reader.now c.args.byte c.feed_into.new.self (fed.Bad c.in-Bad.at) c.in-Bad.at refl (sym c.is_stopped-was_stopped.ensures.value ∙ c.if-was_stopped.true) c.in-Bad.ensures.answer,
  subst (λ (l : List Arrival). Gathers before l c.args.waits.now c.args.count) (sym (append-nil added)) g,
)

pub returns-in-Whole-clause-gathers : goal.returns-in-Whole-clause-gathers
returns-in-Whole-clause-gathers c =
    let came = c.feed_into.new.into in
    λ before added g. (
      Came came ∷ [],
      feeds_whole c.args.reader.now c.args.byte c.feed_into.new.self (fed.Whole came) came refl c.in-Whole.ensures.answer,
      gathers_more before added c.args.waits.now _ c.args.count (waiting.Frame came) g c.hold.ensures,
    )

pub returns-else-was_stopped-clause-gathers : goal.returns-else-was_stopped-clause-gathers
returns-else-was_stopped-clause-gathers c = λ before added g. (
  Bad ∷ [],
  feeds_bad c.args.reader.now c.args.byte c.feed_into.new.self (fed.Bad c.in-Bad.at) c.in-Bad.at refl (sym c.is_stopped-was_stopped.ensures.value ∙ c.if-was_stopped.false) c.in-Bad.ensures.answer,
  gathers_more before added c.args.waits.now _ c.args.count waiting.Bad g c.hold-in-Bad.ensures,
)
