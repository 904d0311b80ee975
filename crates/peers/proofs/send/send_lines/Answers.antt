use Rattle.std.proofs.Common.{◌≡◌, ◌≤◌, ◌<◌, ◌∙◌, ◌+◌, min, length, [], refl, inl, inr, arith}
use Rattle.std.proofs.KnownBytes.{Appends-nil}
use Rattle.pump_link.proofs.Grown.{Draws-nil, Grows-nil}
use Rattle.peers.proofs.Awaited.{rose_earlier}
use Rattle.peers.specs.Outputs.{all_counts}
use Rattle.peers.proofs.SendingLines.{consumes_start, comes_some, read_ahead, done_ends, read_ends, script_ends, skip, acked, message_ends, message_earlier}
use Rattle.peers.proofs.send.send_lines.Goals as goal

pub lines-init : goal.lines-init
lines-init g c = record {
  so_far = record { turns = []; count = refl; are = tt; used = omega arith; gave = Draws-nil _; did_send = Grows-nil _; read = consumes_start _ _ c.new-script_lines.ensures; did_print = Appends-nil _ };
  link_later = omega arith;
  source_later = omega arith;
  out_later = omega arith;
  kind = refl;
  session = refl;
}

pub returns-in-Bad : goal.returns-in-Bad
returns-in-Bad g c = record { lines = script_ends _ _ _ _ _ _ _ _ _ _ _ _ _ c.lines.invariant.so_far _ (omega (arith, c.lines.auto.number-fits)) (read_ahead _ _ _ c.next.ensures.taken c.next.ensures.ahead) (all_counts 0 0 0 0 0 0) _ c.saturating_add.ensures (inl c.in-Bad.ensures.next); out_later = c.lines.invariant.out_later }

pub returns-in-End : goal.returns-in-End
returns-in-End g c = record { lines = done_ends _ _ _ _ _ _ _ _ _ _ _ _ _ c.lines.invariant.so_far _ (omega (arith, c.lines.auto.number-fits)) (read_ahead _ _ _ c.next.ensures.taken c.next.ensures.ahead) (all_counts 0 0 0 0 0 0) c.in-End.ensures.next; out_later = c.lines.invariant.out_later }

pub returns-in-Failed : goal.returns-in-Failed
returns-in-Failed g c =
    let was = c.lines.invariant in
    record { lines = read_ends _ _ _ _ _ _ _ _ _ _ _ _ _ was.so_far _ (omega (arith, c.lines.auto.number-fits)) (read_ahead _ _ _ c.next.ensures.taken c.next.ensures.ahead) (all_counts 0 0 0 0 (g.I.Source.faults c.args.script.now) (g.I.Source.faults c.next.new.script)) (rose_earlier _ _ _ was.source_later (c.in-Failed.ensures.failed refl)); out_later = was.out_later }

pub returns-then-number : goal.returns-then-number
returns-then-number g c =
    let was = c.lines.invariant in
    let p = c.in-Payload.ensures.next in
    let line : 4294967295 ≡ min (c.lines.number + 1) 4294967295 = omega (arith, c.if-number.true) in
    record { lines = script_ends _ _ _ _ _ _ _ _ _ _ _ _ _ was.so_far _ (omega (arith, c.lines.auto.number-fits)) (read_ahead _ _ _ c.next.ensures.taken c.next.ensures.ahead) (all_counts 0 0 0 0 0 0) _ line (inr (c.if-number.true, comes_some _ _ p.0 p.2)); out_later = was.out_later }

pub returns-in-Some : goal.returns-in-Some
returns-in-Some g c =
    let was = c.lines.invariant in
    let p = c.in-Payload.ensures.next in
    let s = c.in-Some.ensures.line in
    let number_is = c.from.ensures ∙ was.so_far.count in
    let few : c.lines.number < 4294967295 = omega (arith, c.if-number.false, c.lines.auto.number-fits) in
    let low : c.args.first ≤ length was.so_far.turns = omega (arith, c.if-frame-first.false, number_is) in
    record {
      lines = message_ends _ _ _ _ _ _ _ _ _ _ _ _ _ was.so_far _ (omega (arith, c.lines.auto.number-fits)) (read_ahead _ _ _ c.next.ensures.taken c.next.ensures.ahead) c.next.new.payload p.0 _ _
          (λ i. record { kind = was.kind i; session = was.session i; number = number_is i; payload = c.next.new.payload }) low few p.1 p.2 _ _ _ _ s.0 s.2 s.3 s.4 s.5 s.6 _ c.in-Some.end
          (message_earlier _ s.0 _ _ _ _ _ _ 0 0 (g.I.Source.faults c.args.script.now) (g.I.Source.faults c.next.new.script) c.in-Some.end was.link_later was.out_later s.1);
      out_later = omega (arith, was.out_later, c.send_message.ensures.out_later);
    }

pub lines-preserved-then-frame-first : goal.lines-preserved-then-frame-first
lines-preserved-then-frame-first g c =
    let was = c.lines.invariant in
    let p = c.in-Payload.ensures.next in
    let number_is = c.from.ensures ∙ was.so_far.count in
    let below : length was.so_far.turns < c.args.first = omega (arith, c.if-frame-first.true, number_is) in
    record {
      so_far = skip _ _ _ _ _ _ _ _ _ _ _ _ _ was.so_far _ (omega (arith, c.lines.auto.number-fits)) (read_ahead _ _ _ c.next.ensures.taken c.next.ensures.ahead) c.next.new.payload p.0 _ below p.1 p.2;
      link_later = was.link_later;
      source_later = omega (arith, was.source_later, c.next.ensures.later);
      out_later = was.out_later;
      kind = was.kind;
      session = was.session;
    }

pub lines-preserved : goal.lines-preserved
lines-preserved g c =
    let was = c.lines.invariant in
    let p = c.in-Payload.ensures.next in
    let s = c.in_default.ensures.line in
    let number_is = c.from.ensures ∙ was.so_far.count in
    let few : c.lines.number < 4294967295 = omega (arith, c.if-number.false, c.lines.auto.number-fits) in
    let low : c.args.first ≤ length was.so_far.turns = omega (arith, c.if-frame-first.false, number_is) in
    record {
      so_far = acked _ _ _ _ _ _ _ _ _ _ _ _ _ was.so_far _ (omega (arith, c.lines.auto.number-fits)) (read_ahead _ _ _ c.next.ensures.taken c.next.ensures.ahead) c.next.new.payload p.0 _ _
          (λ i. record { kind = was.kind i; session = was.session i; number = number_is i; payload = c.next.new.payload }) low few p.1 p.2 _ _ _ _ s.0 s.2 s.3 s.4 s.5 s.6 (record { link = 0; now_link = 0; out = 0; now_out = 0; other = 0; now_other = 0 }) s.1;
      link_later = omega (arith, was.link_later, c.send_message.ensures.later);
      source_later = omega (arith, was.source_later, c.next.ensures.later);
      out_later = omega (arith, was.out_later, c.send_message.ensures.out_later);
      kind = was.kind;
      session = was.session;
    }
