use Rattle.std.proofs.Common.{ℕ, List, ◌++◌, ap, ◌∙◌, subst, sym}
use Rattle.std.specs.Io.KnownBytes.{Appends}
use Rattle.high_receiver.proofs.Walk.{on_err}
use Rattle.pump_link.specs.Causes.{AppendsPrefix}
use Rattle.pump_wrapper.specs.HeldBack.{Held, held_in}
use Rattle.pump_wrapper.proofs.Parted.{parted, prefix_of_more, held_on}
use Rattle.pump_wrapper.proofs.room.Room.put.Goals as goal

pub returns-in_err-flush-clause-err : goal.returns-in_err-flush-clause-err
returns-in_err-flush-clause-err g c =
    let piece = c.args.piece.now in
    let prefix = c.split_at.result.0.now in
    let rest = c.split_at.result.1.now in
    let is = parted c.min-fitting.result prefix rest piece c.split_at.ensures.front c.split_at.ensures.back in
    let filled = c.push.ensures in
    let wrote = subst (λ (bs : List ℕ). AppendsPrefix (g.O.Sink.written c.args.out.now) (g.O.Sink.written c.flush.new.out) bs) filled c.in_err-flush.ensures.err in
    on_err c.from_residual.result (prefix_of_more _ _ (held_in c.args.self.now) prefix rest piece is wrote)

pub returns-in_ok-flush-clause-ok : goal.returns-in_ok-flush-clause-ok
returns-in_ok-flush-clause-ok g c before bytes was =
    let piece = c.args.piece.now in
    let prefix = c.split_at.result.0.now in
    let rest = c.split_at.result.1.now in
    let is = parted c.min-fitting.result prefix rest piece c.split_at.ensures.front c.split_at.ensures.back in
    let filled = c.push.ensures in
    let wrote = subst (λ (bs : List ℕ). Appends (g.O.Sink.written c.args.out.now) (g.O.Sink.written c.flush.new.out) bs) filled c.in_ok-flush.ensures.ok in
    let more = c.push-then-not-is_empty.ensures in
    let held = more ∙ ap (λ (bs : List ℕ). bs ++ rest) c.in_ok-flush.ensures.empty in
    subst (λ (bs : List ℕ). Held before (g.O.Sink.written c.flush.new.out) bs (bytes ++ piece)) (sym held)
    (held_on before _ _ (held_in c.args.self.now) prefix rest piece bytes is was wrote)
