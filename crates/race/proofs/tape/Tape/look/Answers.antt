use Rattle.std.proofs.Common.{rules, ◌≡◌, ℕ, List, [], ◌++◌, Bool, true, false, refl, sym, ap, ◌∙◌, subst, append-nil}
use Rattle.std.specs.Prelude.{if◌then◌else◌, IfSome}
use Rattle.pump_frame.specs.declared.row.SessionRow.{SessionRow}
use Rattle.script_reader.specs.Generated.{generated_row}
use Rattle.relay_threads.specs.Records.{is_recorded}
use Rattle.relay_threads.specs.RecordLines.{look_text, line_of, made_by, IsReplyFrame}
use Rattle.script_reader.specs.Grammar.{IsLine}
use Rattle.script_reader.specs.Lawful.{IsLawfulLine}
use Rattle.script_reader.specs.Spelling.{line_spelling}
use Rattle.race.specs.Race.{look_lines}
use Rattle.race.specs.Tape.{held_of, Keeps}
use Rattle.race.proofs.Replayable.{line_lawful}
use Rattle.race.proofs.Tapes.{keeps_more}
use Rattle.race.proofs.tape.Tape.look.Goals as goal

pub returns-clause-prints : goal.returns-clause-prints
returns-clause-prints g c = λ before e start first earlier k.
    let tape = c.make_room.new.self in
    let m = made_by generated_row c.args.made.now in
    let shown : c.is_recorded.result ≡ true = search rules in
    let is : is_recorded before m ≡ true = sym (c.is_recorded.ensures generated_row before e) ∙ shown in
    keeps_more tape (record tape { held = c.append_look.new.into; body = c.append_look.new.body }) start (g.O.Sink.written c.make_room.new.out) first (g.O.Sink.faults c.make_room.new.out) earlier (look_lines before m)
    (c.append_look.ensures.text ∙ ap (λ (row : SessionRow). held_of tape ++ look_text row (made_by row c.args.made.now)) (c.make_room.ensures.row ∙ c.requires.row) ∙ ap (λ (b : Bool). held_of tape ++ (if b then look_text generated_row m else [])) (sym is))
    refl (c.make_room.ensures.stays start first earlier k)

pub returns-then-not-is_recorded-clause-prints : goal.returns-then-not-is_recorded-clause-prints
returns-then-not-is_recorded-clause-prints g c = λ before e start first earlier k.
    let m = made_by generated_row c.args.made.now in
    let hidden : c.is_recorded.result ≡ false = search rules in
    let is : is_recorded before m ≡ false = sym (c.is_recorded.ensures generated_row before e) ∙ hidden in
    subst (λ (z : List ℕ). Keeps c.args.self.now start (g.O.Sink.written c.args.out.now) first (g.O.Sink.faults c.args.out.now) z)
    (sym (append-nil earlier) ∙ ap (λ (b : Bool). earlier ++ (if b then look_text generated_row m else [])) (sym is)) k

pub returns-clause-reads : goal.returns-clause-reads
returns-clause-reads g c = λ before e is.
    let at : c.make_room.new.self.row ≡ generated_row = c.make_room.ensures.row ∙ c.requires.row in
    let reads = subst (λ (row : SessionRow). IsLawfulLine (line_of row (made_by row c.args.made.now)) → IsLine (line_of row (made_by row c.args.made.now)) (line_spelling (line_of row (made_by row c.args.made.now)))) at c.append_look.ensures.reads in
    record {
      line = reads (line_lawful (made_by generated_row c.args.made.now) c.requires.plain);
      reply = subst (λ (row : SessionRow). IfSome (made_by row c.args.made.now).reply IsReplyFrame) at c.append_look.ensures.told;
    }

pub returns-then-not-is_recorded-clause-reads : goal.returns-then-not-is_recorded-clause-reads
returns-then-not-is_recorded-clause-reads g c = λ before e is.
    let hidden : c.is_recorded.result ≡ false = search rules in
    let no = sym is ∙ sym (c.is_recorded.ensures generated_row before e) ∙ hidden in
    absurd (cc)
