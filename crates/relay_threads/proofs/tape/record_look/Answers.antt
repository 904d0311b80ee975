use Rattle.std.proofs.Common.{rules, arith, ◌≡◌, ℕ, List, [], ◌++◌, Bool, true, false, sym, ap, ◌∙◌, subst, le_refl}
use Rattle.std.specs.Prelude.{if◌then◌else◌}
use Rattle.std.specs.Io.KnownBytes.{Appends}
use Rattle.pump_link.proofs.Known.{Appends-none}
use Rattle.relay_threads.specs.Reaching.{Reaches}
use Rattle.relay_threads.specs.Records.{is_recorded}
use Rattle.relay_threads.specs.RecordLines.{look_text, made_by}
use Rattle.relay_threads.specs.LowServes.{text_after}
use Rattle.relay_threads.proofs.Reaching.{reaches_all, reaches_written}
use Rattle.relay_threads.proofs.ReadingBack.{line_lawful, looks_full, looks_full_is, unrecorded}
use Rattle.relay_threads.proofs.tape.record_look.Goals as goal

pub returns-then-not-is_recorded-clause-text : goal.returns-then-not-is_recorded-clause-text
returns-then-not-is_recorded-clause-text g c = λ before e.
    let O = g.O.Sink in
    let row = c.args.row.now in
    let m = made_by row c.args.made.now in
    let hidden : c.is_recorded.result ≡ false = search rules in
    let is : is_recorded before m ≡ false = sym (c.is_recorded.ensures row before e) ∙ hidden in
    subst (λ (b : Bool). Reaches (Appends (O.written c.args.tape.now) (O.written c.args.tape.now)) (O.faults c.args.tape.now) (O.faults c.args.tape.now) true (if b then look_text row m else [])) (sym is)
    (reaches_all _ _ _ [] (le_refl _) (Appends-none _))

pub returns-then-not-is_recorded-clause-reads : goal.returns-then-not-is_recorded-clause-reads
returns-then-not-is_recorded-clause-reads g c = λ lawful moment bounds before.
    let row = c.args.row.now in
    let m = made_by row c.args.made.now in
    let full = c.args.was_full in
    let hidden : c.is_recorded.result ≡ false = search rules in
    unrecorded row m full (sym (c.is_recorded.ensures row (looks_full full) (looks_full_is full)) ∙ hidden) (omega arith) moment (omega arith) before

pub returns-clause-reads : goal.returns-clause-reads
returns-clause-reads g c = λ lawful moment bounds before is.
    let row = c.args.row.now in
    record { line = c.append_look.ensures.reads (line_lawful row (made_by row c.args.made.now) lawful moment bounds); reply = c.append_look.ensures.told }

pub returns-clause-text : goal.returns-clause-text
returns-clause-text g c = λ before e.
    let O = g.O.Sink in
    let row = c.args.row.now in
    let m = made_by row c.args.made.now in
    let shown : c.is_recorded.result ≡ true = search rules in
    let is : is_recorded before m ≡ true = sym (c.is_recorded.ensures row before e) ∙ shown in
    let text : c.as_slice.result.now ≡ text_after row before m =
    c.as_slice.ensures.value ∙ c.append_look.ensures.text ∙ ap (λ (z : List ℕ). z ++ look_text row m) c.clear.ensures ∙ ap (λ (b : Bool). if b then look_text row m else []) (sym is) in
    let written = reaches_written c.write_all.result (O.written c.args.tape.now) (O.written c.write_all.new.out) (O.faults c.args.tape.now) (O.faults c.write_all.new.out) c.as_slice.result.now c.write_all.ensures.ok c.write_all.ensures.err c.write_all.ensures.cause in
    subst (λ (t : Bool × List ℕ). Reaches (Appends (O.written c.args.tape.now) (O.written c.write_all.new.out)) (O.faults c.args.tape.now) (O.faults c.write_all.new.out) t.0 t.1) (λ i. (sym c.is_ok.ensures.value i, text i)) written
