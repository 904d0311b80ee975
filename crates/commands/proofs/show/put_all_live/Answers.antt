use Rattle.std.proofs.Common.{◌≡◌, ◌+◌, ◌++◌, take, ap, ◌∙◌, add-one, append_assoc}
use Rattle.script_reader.specs.Transcript.{event_line, text}
use Rattle.script_reader.specs.declared.event.Event.TheVariants.{Live}
use Rattle.commands.specs.Showing.{live_messages}
use Rattle.commands.proofs.Shown.{live_more}
use Rattle.commands.proofs.show.put_all_live.Goals as goal

pub loop-index-preserved : goal.loop-index-preserved
loop-index-preserved c =
    let s = c.args.session in
    let f = c.args.first in
    let live = c.args.live.now in
    let i = c.loop-index.index in
    let m = c.index-live-index.result in
    let before = text (live_messages s f (take i live)) in
    let line = event_line (Live s (f + i) m) in
    let more : before ++ line ≡ text (live_messages s f (take (i + 1) live)) = rw add-one (live_more s f live i m c.loop-index-test.true c.index-live-index.is) in
    rw (← more) (c.in_ok-put_line.ensures ∙ ap (λ t. t ++ line) c.loop-index.invariant ∙ append_assoc c.args.into.now.items before line)
