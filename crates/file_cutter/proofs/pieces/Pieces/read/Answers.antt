use Rattle.std.proofs.Common.{◌≡◌, ℕ, ◌+◌, ◌-◌, ◌^◌, min, ◌<◌, ◌≤◌, List, ◌∷◌, length, take, replicate, refl, sym, ◌∙◌, ap, arith}
use Rattle.std.proofs.lemmas.List.{length-take-le, length-replicate}
use Rattle.file_cutter.specs.declared.pieces.Cut.TheVariants.{Failed, TooLong}
use Rattle.file_cutter.specs.declared.pieces.Pieces.{Pieces}
use Rattle.file_cutter.specs.declared.pieces.Stage.{Stage}
use Rattle.file_cutter.specs.declared.pieces.Stage.TheVariants.{Reading, Ended, Stopped}
use Rattle.file_cutter.proofs.Cuts.{gives_none, gives_last, gives_full, counts_none, counts_last, counts_full, no_bytes}
use Rattle.file_cutter.proofs.Unseen.{gives_unseen, counts_unseen}
use Rattle.file_cutter.proofs.Rooms.{behind_zero}
use Rattle.file_cutter.proofs.pieces.Pieces.read.Goals as goal
use Rattle.file_cutter.proofs.pieces.Pieces.read.Goals.{then-count-most, else-count-most}

-- how much of a room of 1023 bytes was lent
lent : (room zeros : List ℕ) (most : ℕ) → length room ≡ length (take (most + 1 - 1) zeros) → most ≤ length zeros → length room ≡ most
lent room zeros most is le = is ∙ length-take-le (most + 1 - 1) zeros (omega (arith, le)) ∙ omega arith

-- .. and how much came before a fault
fewer : (bytes zeros : List ℕ) (most : ℕ) → length bytes < length (take (most + 1 - 1) zeros) → most ≤ length zeros → length bytes < most
fewer bytes zeros most part le =
    let room = length-take-le (most + 1 - 1) zeros (omega (arith, le)) in
    omega (arith, part, room)

-- the stages differ
reading_goes_on : (stage : Stage) → stage ≡ Reading → stage ≡ Stopped → ⊥
reading_goes_on stage is stopped = let no = sym is ∙ stopped in cc

ended_goes_on : (stage : Stage) → stage ≡ Ended → stage ≡ Stopped → ⊥
ended_goes_on stage is stopped = let no = sym is ∙ stopped in cc

pub returns-then-self-eq-LIMIT : goal.returns-then-self-eq-LIMIT
returns-then-self-eq-LIMIT g c =
    let old = c.args.self.now in
    let count = c.in-Ok.count in
    let piece = take count c.fill.new.room in
    let size : length piece ≡ count = length-take-le count c.fill.new.room c.in-Ok.ensures.most in
    let full = c.if-self-eq-LIMIT.true in
    let now : Pieces = record old { bytes = old.bytes + count; stage = Stopped } in
    record {
      gives = gives_unseen old now (g.I.Source.left c.args.file.now) (g.I.Source.left c.fill.new.file) c.args.into.now TooLong (λ before after. tt);
      counts = counts_unseen old now (g.I.Source.left c.args.file.now) (g.I.Source.left c.fill.new.file) TooLong (λ left rest. tt);
      takes = (
        piece,
        c.in-Ok.ensures.bytes,
        record {
          given = λ is. absurd (cc);
          some = λ is. absurd (cc);
          none = λ is. absurd (cc);
          long = λ is. omega (arith, size, full);
          short = λ other. absurd (other refl);
          counted = λ other. omega (arith, size);
        },
      );
      fits = λ is. absurd (cc);
      may = λ is. absurd (cc);
      same = refl;
      failed = λ is. absurd (cc);
      later = c.in-Ok.ensures.cause.later;
    }

pub returns-then-count-eq0 : goal.returns-then-count-eq0
returns-then-count-eq0 g c =
    let old = c.args.self.now in
    let count = c.in-Ok.count in
    let piece = take count c.fill.new.room in
    let most : c.min-most.result ≡ min old.size (2 ^ 48 - old.bytes) = c.min-most.ensures in
    let zeros : List ℕ = replicate 1023 0 in
    let room = lent c.fill.new.room zeros c.min-most.result c.fill.auto.room (omega (arith, most, c.requires.may.greatest, length-replicate {A = ℕ} 1023 0)) in
    let none = c.if-count-eq0.true in
    let left = c.in-Ok.ensures.bytes in
    let end = c.in-Ok.ensures.end (omega (arith, none, room, most, c.requires.may.few, c.requires.may.least)) in
    let empty : length piece ≡ 0 = length-take-le count c.fill.new.room c.in-Ok.ensures.most ∙ none in
    let now : Pieces = record old { bytes = old.bytes + count; stage = Stopped } in
    record {
      gives = gives_none old now (g.I.Source.left c.args.file.now) (g.I.Source.left c.fill.new.file) piece c.args.into.now c.requires.reading left empty end;
      counts = counts_none old now (g.I.Source.left c.args.file.now) (g.I.Source.left c.fill.new.file) piece c.requires.reading (omega (arith, none)) left empty end;
      takes = (
        piece,
        left,
        record {
          given = λ is. absurd (cc);
          some = λ is. absurd (cc);
          none = λ is. no_bytes piece empty;
          long = λ is. absurd (cc);
          short = λ other. omega (arith, empty, c.requires.may.few);
          counted = λ other. omega (arith, empty, none);
        },
      );
      fits = λ is. absurd (cc);
      may = λ is. absurd (cc);
      same = refl;
      failed = λ is. absurd (cc);
      later = c.in-Ok.ensures.cause.later;
    }

pub returns : goal.returns
returns g c =
    let old = c.args.self.now in
    let now = c.if-count-most.self in
    let count = c.in-Ok.count in
    let piece = take count c.fill.new.room in
    let most : c.min-most.result ≡ min old.size (2 ^ 48 - old.bytes) = c.min-most.ensures in
    let zeros : List ℕ = replicate 1023 0 in
    let room = lent c.fill.new.room zeros c.min-most.result c.fill.auto.room (omega (arith, most, c.requires.may.greatest, length-replicate {A = ℕ} 1023 0)) in
    let size : length piece ≡ count = length-take-le count c.fill.new.room c.in-Ok.ensures.most in
    let message : c.set.new.self ≡ 0 ∷ piece = c.set.ensures.value ∙ behind_zero c.fill.new.room _ count c.in-Ok.ensures.most in
    let any = c.if-count-eq0.false in
    let few = c.if-self-eq-LIMIT.false in
    let short : old.bytes + count < 2 ^ 48 = omega (arith, room, most, c.in-Ok.ensures.most, few, c.requires.may.few) in
    let same : now.size ≡ old.size = elim c.if-count-most.branch [ then-count-most w ↦ ap (λ s. s.size) w.self-is | else-count-most w ↦ ap (λ s. s.size) w.self-is ] in
    let bytes : now.bytes ≡ old.bytes + length piece = elim c.if-count-most.branch [
      | then-count-most w ↦ ap (λ s. s.bytes) w.self-is ∙ ap (λ k. old.bytes + k) (sym size)
      | else-count-most w ↦ ap (λ s. s.bytes) w.self-is ∙ ap (λ k. old.bytes + k) (sym size)
    ] in
    let goes_on : now.stage ≡ Stopped → ⊥ = elim c.if-count-most.branch [
      | then-count-most w ↦ λ stopped. ended_goes_on now.stage (ap (λ s. s.stage) w.self-is) stopped
      | else-count-most w ↦ λ stopped. reading_goes_on now.stage (ap (λ s. s.stage) w.self-is ∙ c.requires.reading) stopped
    ] in
    record {
      gives = elim c.if-count-most.branch [
        | then-count-most w ↦
            gives_last old now _ _ piece c.set.new.self c.requires.reading (ap (λ s. s.stage) w.self-is) c.in-Ok.ensures.bytes (c.in-Ok.ensures.end (omega (arith, room, w.if-count-most.true)))
            (omega (arith, size, any)) (omega (arith, size, room, most, c.in-Ok.ensures.most)) message
        | else-count-most w ↦
            gives_full old now _ _ piece c.set.new.self c.requires.reading (ap (λ s. s.stage) w.self-is ∙ c.requires.reading) same c.in-Ok.ensures.bytes
            (omega (arith, size, any)) (omega (arith, size, room, most, c.in-Ok.ensures.most, w.if-count-most.false, few, c.requires.may.few)) message
      ];
      counts = elim c.if-count-most.branch [
        | then-count-most w ↦ counts_last old now _ _ piece c.requires.reading (ap (λ s. s.stage) w.self-is) bytes c.in-Ok.ensures.bytes (c.in-Ok.ensures.end (omega (arith, room, w.if-count-most.true)))
        | else-count-most w ↦ counts_full old now _ _ piece c.requires.reading (ap (λ s. s.stage) w.self-is ∙ c.requires.reading) bytes c.in-Ok.ensures.bytes
      ];
      takes = (
        piece,
        c.in-Ok.ensures.bytes,
        record {
          given = λ is. message;
          some = λ is. omega (arith, size, any);
          none = λ is. absurd (cc);
          long = λ is. absurd (cc);
          short = λ other. omega (arith, size, short);
          counted = λ other. bytes;
        },
      );
      fits = λ is. omega (arith, ap length message, size, room, most, c.in-Ok.ensures.most);
      may = λ is. record {
        may = goes_on;
        least = omega (arith, same, c.requires.may.least);
        greatest = omega (arith, same, c.requires.may.greatest);
        few = omega (arith, bytes, size, short);
      };
      same = ap (λ k. k + 1) same;
      failed = λ is. absurd (cc);
      later = c.in-Ok.ensures.cause.later;
    }

pub returns-in_default : goal.returns-in_default
returns-in_default g c =
    let old = c.args.self.now in
    let now : Pieces = record old { stage = Stopped } in
    let part = c.in_default.ensures.part in
    let most : c.min-most.result ≡ min old.size (2 ^ 48 - old.bytes) = c.min-most.ensures in
    let zeros : List ℕ = replicate 1023 0 in
    let came = fewer part.0 zeros c.min-most.result part.2 (omega (arith, most, c.requires.may.greatest, length-replicate {A = ℕ} 1023 0)) in
    record {
      gives = gives_unseen old now (g.I.Source.left c.args.file.now) (g.I.Source.left c.fill.new.file) c.args.into.now Failed (λ before after. tt);
      counts = counts_unseen old now (g.I.Source.left c.args.file.now) (g.I.Source.left c.fill.new.file) Failed (λ left rest. tt);
      takes = (
        part.0,
        part.1,
        record {
          given = λ is. absurd (cc);
          some = λ is. absurd (cc);
          none = λ is. absurd (cc);
          long = λ is. absurd (cc);
          short = λ other. omega (arith, came, most, c.requires.may.few);
          counted = λ other. absurd (other refl);
        },
      );
      fits = λ is. absurd (cc);
      may = λ is. absurd (cc);
      same = refl;
      failed = λ is. c.in_default.ensures.cause.failed;
      later = c.in_default.ensures.cause.later;
    }
