use Rattle.std.proofs.Common.{◌≡◌, ℕ, ◌<◌, ◌≤◌, ◌^◌, [], ◌∷◌, ◌++◌, length, Ok, Err, refl, sym, ap, ◌∙◌, subst, arith, append-nil}
use Rattle.std.proofs.KnownBytes.{Consumes-nil, Consumes-trans}
use Rattle.disk_model.specs.declared.name.Role.TheVariants as roles
use Rattle.script_reader.specs.Openings.{first_past}
use Rattle.two_worlds.specs.Pumps.{disk_at, row_of}
use Rattle.pump_wrapper.specs.Sending.{pause}
use Rattle.pump_wrapper.specs.Wraps.{all_taken}
use Rattle.pump_wrapper.proofs.Compared.{none_passed, one_passed, none_counted, one_counted, takes_on, gave_few, gave_all, total_is}
use Rattle.pump_wrapper.proofs.Going.{rose_before}
use Rattle.pump_wrapper.proofs.Joining.{keeps_then}
use Rattle.pump_wrapper.proofs.Sent.{Sending, are_first, sending_part, sending_none, greeting_goes, greeting_keeps, message_keeps, sending_more, sends_go, sending_few, sending_all, moment_of}
use Rattle.pump_wrapper.proofs.sending.send_rest.Goals as goal

pub loop-number-init : goal.loop-number-init
loop-number-init g c =
    let m = g.D.Disk.told in
    let row = row_of c.args.pump.now in
    let e = c.in-Ok.ensures in
    let start = c.args.cutter.now in
    let left = g.I.Source.left c.args.file.now in
    record {
      up = e.up;
      row = e.goes.row;
      may = c.requires.may;
      message = c.requires.message;
      from = omega arith;
      taken = ([], Consumes-nil left, omega arith);
      same = none_counted start left;
      reads = omega arith;
      counts = e.goes.later;
      sending = λ told messages lawful can stands.
          let count : c.counts-first.result.0 ≡ length messages =
          ap (λ (x : ℕ × ℕ × ℕ). x.0) (c.counts-first.ensures.stands (first_past row (all_taken messages)) stands) ∙ ap length (append-nil messages) in
          subst (λ (n : ℕ). Sending m c.greet.new.pump row messages start start left left n) (sym count)
          (sending_none m row messages c.args.pump.now c.greet.new.pump start left lawful can stands refl told e.goes);
      keeps = λ told messages lawful can stands all begins. greeting_keeps m row messages c.args.pump.now c.greet.new.pump (Ok tt) all lawful can stands refl told
          (begins [] (are_first [] c.args.cutter.now c.args.cutter.now (g.I.Source.left c.args.file.now) (g.I.Source.left c.args.file.now) [] (Consumes-nil (g.I.Source.left c.args.file.now)) (none_passed c.args.cutter.now (g.I.Source.left c.args.file.now)))) e.goes;
    }

pub loop-number-preserved : goal.loop-number-preserved
loop-number-preserved g c =
    let m = g.D.Disk.told in
    let row = row_of c.args.pump.now in
    let kept = c.loop-number.invariant in
    let e = c.in-Message.ensures in
    let s = c.in-Ok-send.ensures in
    record {
      up = s.up;
      row = s.goes.row ∙ kept.row;
      may = e.may refl;
      message = e.same ∙ kept.message;
      from = (let from = kept.from in omega (arith, from));
      taken = takes_on c.args.cutter.now c.loop-number.cutter c.next.new.self (g.I.Source.left c.args.file.now) (g.I.Source.left c.loop-number.file) (g.I.Source.left c.next.new.file) kept.taken.0 e.takes.0 _ kept.taken.1 kept.taken.2 e.takes.1 e.takes.2 (λ e. cc);
      same = one_counted c.args.cutter.now c.loop-number.cutter c.next.new.self (g.I.Source.left c.args.file.now) (g.I.Source.left c.loop-number.file) (g.I.Source.left c.next.new.file) kept.taken.0 kept.taken.1 kept.same e.counts;
      reads = (let before = kept.reads in let after = e.later in omega (arith, before, after));
      counts = λ role. (let one = kept.counts role in let other = s.goes.later role in omega (arith, one, other));
      sending = λ told messages lawful can stands.
          let sending = kept.sending told messages lawful can stands in
          let first : c.counts-first.result.0 ≡ length messages =
          ap (λ (x : ℕ × ℕ × ℕ). x.0) (c.counts-first.ensures.stands (first_past row (all_taken messages)) stands) ∙ ap length (append-nil messages) in
          let pauses : c.pause-pause.result ≡ pause row = c.pause-pause.ensures.value ∙ ap pause c.row.ensures in
          let small : pause row < 2 ^ 32 = (let short = c.pause-pause.ensures.short in omega (arith, short, pauses)) in
          let few : c.loop-number.number ≤ 2 ^ 24 = (let test = c.loop-number-test.true in omega (arith, test)) in
          let fits : length c.next.new.into ≤ row.message = (let short = e.fits refl in let size = kept.message in omega (arith, short, size)) in
          sending_more m row messages c.loop-number.pump c.send.new.pump c.args.cutter.now c.loop-number.cutter c.next.new.self (g.I.Source.left c.args.file.now) (g.I.Source.left c.loop-number.file) (g.I.Source.left c.next.new.file) c.loop-number.number _ sending
          (moment_of c.loop-number.number _ _ _ _ _ sending.count first pauses) few small c.next.new.into fits kept.row told kept.taken.0 kept.taken.1 e.gives s.goes;
      keeps = λ told messages lawful can stands all begins.
          let sending = kept.sending told messages lawful can stands in
          let first : c.counts-first.result.0 ≡ length messages =
          ap (λ (x : ℕ × ℕ × ℕ). x.0) (c.counts-first.ensures.stands (first_past row (all_taken messages)) stands) ∙ ap length (append-nil messages) in
          let pauses : c.pause-pause.result ≡ pause row = c.pause-pause.ensures.value ∙ ap pause c.row.ensures in
          let small : pause row < 2 ^ 32 = (let short = c.pause-pause.ensures.short in omega (arith, short, pauses)) in
          let few : c.loop-number.number ≤ 2 ^ 24 = (let test = c.loop-number-test.true in omega (arith, test)) in
          let fits : length c.next.new.into ≤ row.message = (let short = e.fits refl in let size = kept.message in omega (arith, short, size)) in
          let more = sending.more ++ c.next.new.into ∷ [] in
          let cut = one_passed sending.more more c.next.new.into c.args.cutter.now c.loop-number.cutter c.next.new.self (g.I.Source.left c.args.file.now) (g.I.Source.left c.loop-number.file) (g.I.Source.left c.next.new.file)
          kept.taken.0 kept.taken.1 sending.cut e.gives refl in
          let taken = Consumes-trans _ _ _ _ _ kept.taken.1 e.takes.1 in
          let to = begins more (are_first more c.args.cutter.now c.next.new.self (g.I.Source.left c.args.file.now) (g.I.Source.left c.next.new.file) _ taken cut) in
          keeps_then m row all (disk_at roles.Recv c.args.pump.now) (disk_at roles.Recv c.loop-number.pump) (disk_at roles.Recv c.send.new.pump) (kept.keeps told messages lawful can stands all begins)
          (message_keeps m row messages c.loop-number.pump c.send.new.pump c.args.cutter.now c.loop-number.cutter c.next.new.self (g.I.Source.left c.args.file.now) (g.I.Source.left c.loop-number.file) (g.I.Source.left c.next.new.file) c.loop-number.number _ sending
          (moment_of c.loop-number.number _ _ _ _ _ sending.count first pauses) few small c.next.new.into fits (Ok tt) all kept.row told to s.goes);
    }

pub returns-in-Err : goal.returns-in-Err
returns-in-Err g c = record {
  sends = λ told messages lawful can stands. (
    [],
    are_first [] c.args.cutter.now c.args.cutter.now (g.I.Source.left c.args.file.now) (g.I.Source.left c.args.file.now) [] (Consumes-nil (g.I.Source.left c.args.file.now)) (none_passed c.args.cutter.now (g.I.Source.left c.args.file.now)),
    greeting_goes g.D.Disk.told (row_of c.args.pump.now) messages c.args.pump.now c.greet.new.pump c.in-Err.stop lawful can stands refl told c.in-Err.ensures.goes,
  );
  keeps = λ told messages lawful can stands all begins. greeting_keeps g.D.Disk.told (row_of c.args.pump.now) messages c.args.pump.now c.greet.new.pump (Err c.in-Err.stop) all lawful can stands refl told
      (begins [] (are_first [] c.args.cutter.now c.args.cutter.now (g.I.Source.left c.args.file.now) (g.I.Source.left c.args.file.now) [] (Consumes-nil (g.I.Source.left c.args.file.now)) (none_passed c.args.cutter.now (g.I.Source.left c.args.file.now)))) c.in-Err.ensures.goes;
  total = tt;
  gave = (let few = c.requires.may.few in ([], Consumes-nil (g.I.Source.left c.args.file.now), (λ e. absurd (cc)), λ e. omega (arith, few)));
  read = λ e. cc;
  counts = c.in-Err.ensures.goes.later;
  cause = c.in-Err.ensures.goes.rose;
  row = c.in-Err.ensures.goes.row;
  failed = tt;
}

pub returns-in-Done : goal.returns-in-Done
returns-in-Done g c = record {
  sends = λ told messages lawful can stands.
      let kept = c.loop-number.invariant in
      let sending = kept.sending told messages lawful can stands in
      let e = c.in-Done.ensures in
      sending_all g.D.Disk.told (row_of c.args.pump.now) messages c.loop-number.pump c.args.cutter.now c.loop-number.cutter c.next.new.self (g.I.Source.left c.args.file.now) (g.I.Source.left c.loop-number.file) (g.I.Source.left c.next.new.file) c.loop-number.number _ _ _ sending kept.taken.1 e.takes.1 e.gives;
  keeps = c.loop-number.invariant.keeps;
  total = let kept = c.loop-number.invariant in
      total_is c.args.cutter.now c.loop-number.cutter c.next.new.self (g.I.Source.left c.args.file.now) (g.I.Source.left c.loop-number.file) (g.I.Source.left c.next.new.file) kept.taken.0 c.in-Done.ensures.takes.0 kept.taken.1 c.in-Done.ensures.takes.1 kept.same c.in-Done.ensures.counts;
  gave = let kept = c.loop-number.invariant in
      let t = c.in-Done.ensures.takes in
      gave_few c.args.cutter.now c.loop-number.cutter c.next.new.self (g.I.Source.left c.args.file.now) (g.I.Source.left c.loop-number.file) (g.I.Source.left c.next.new.file) kept.taken.0 t.0 _ kept.taken.1 kept.taken.2 t.1 t.2 (λ e. cc);
  read = λ e. cc;
  counts = c.loop-number.invariant.counts;
  cause = tt;
  row = c.loop-number.invariant.row;
  failed = tt;
}

pub returns-in-Failed : goal.returns-in-Failed
returns-in-Failed g c = record {
  sends = λ told messages lawful can stands.
      let kept = c.loop-number.invariant in
      sending_part g.D.Disk.told (row_of c.args.pump.now) messages c.loop-number.pump c.args.cutter.now c.loop-number.cutter _ _ c.loop-number.number kept.taken.0 (kept.sending told messages lawful can stands) kept.taken.1;
  keeps = c.loop-number.invariant.keeps;
  total = tt;
  gave = let kept = c.loop-number.invariant in
      let t = c.in-Failed.ensures.takes in
      gave_few c.args.cutter.now c.loop-number.cutter c.next.new.self (g.I.Source.left c.args.file.now) (g.I.Source.left c.loop-number.file) (g.I.Source.left c.next.new.file) kept.taken.0 t.0 _ kept.taken.1 kept.taken.2 t.1 t.2 (λ e. cc);
  read = λ e. (let rose = c.in-Failed.ensures.failed refl in let before = c.loop-number.invariant.reads in omega (arith, rose, before));
  counts = c.loop-number.invariant.counts;
  cause = tt;
  row = c.loop-number.invariant.row;
  failed = tt;
}

pub returns-in-TooLong : goal.returns-in-TooLong
returns-in-TooLong g c = record {
  sends = λ told messages lawful can stands.
      let kept = c.loop-number.invariant in
      sending_part g.D.Disk.told (row_of c.args.pump.now) messages c.loop-number.pump c.args.cutter.now c.loop-number.cutter _ _ c.loop-number.number kept.taken.0 (kept.sending told messages lawful can stands) kept.taken.1;
  keeps = c.loop-number.invariant.keeps;
  total = tt;
  gave = let kept = c.loop-number.invariant in
      let t = c.in-TooLong.ensures.takes in
      gave_all c.args.cutter.now c.loop-number.cutter c.next.new.self (g.I.Source.left c.args.file.now) (g.I.Source.left c.loop-number.file) (g.I.Source.left c.next.new.file) kept.taken.0 t.0 _ kept.taken.1 kept.taken.2 t.1 t.2 refl;
  read = λ e. cc;
  counts = c.loop-number.invariant.counts;
  cause = tt;
  row = c.loop-number.invariant.row;
  failed = tt;
}

pub returns-in-Err-send : goal.returns-in-Err-send
returns-in-Err-send g c = record {
  sends = λ told messages lawful can stands.
      let m = g.D.Disk.told in
      let row = row_of c.args.pump.now in
      let kept = c.loop-number.invariant in
      let sending = kept.sending told messages lawful can stands in
      let e = c.in-Message.ensures in
      let first : c.counts-first.result.0 ≡ length messages =
      ap (λ (x : ℕ × ℕ × ℕ). x.0) (c.counts-first.ensures.stands (first_past row (all_taken messages)) stands) ∙ ap length (append-nil messages) in
      let pauses : c.pause-pause.result ≡ pause row = c.pause-pause.ensures.value ∙ ap pause c.row.ensures in
      let small : pause row < 2 ^ 32 = (let short = c.pause-pause.ensures.short in omega (arith, short, pauses)) in
      let few : c.loop-number.number ≤ 2 ^ 24 = (let test = c.loop-number-test.true in omega (arith, test)) in
      let fits : length c.next.new.into ≤ row.message = (let short = e.fits refl in let size = kept.message in omega (arith, short, size)) in
      let cut = one_passed sending.more (sending.more ++ c.next.new.into ∷ []) c.next.new.into c.args.cutter.now c.loop-number.cutter c.next.new.self (g.I.Source.left c.args.file.now) (g.I.Source.left c.loop-number.file) (g.I.Source.left c.next.new.file)
      kept.taken.0 kept.taken.1 sending.cut e.gives refl in
      let all = Consumes-trans _ _ _ _ _ kept.taken.1 e.takes.1 in (
        sending.more ++ c.next.new.into ∷ [],
        are_first (sending.more ++ c.next.new.into ∷ []) c.args.cutter.now c.next.new.self (g.I.Source.left c.args.file.now) (g.I.Source.left c.next.new.file) _ all cut,
        sends_go m row messages c.loop-number.pump c.send.new.pump c.args.cutter.now c.loop-number.cutter c.next.new.self (g.I.Source.left c.args.file.now) (g.I.Source.left c.loop-number.file) (g.I.Source.left c.next.new.file) c.loop-number.number _ sending
            (moment_of c.loop-number.number _ _ _ _ _ sending.count first pauses) few small c.next.new.into fits c.in-Err-send.stop kept.row told c.in-Err-send.ensures.goes,
      );
  keeps = λ told messages lawful can stands all begins.
      let m = g.D.Disk.told in
      let row = row_of c.args.pump.now in
      let kept = c.loop-number.invariant in
      let e = c.in-Message.ensures in
      let sending = kept.sending told messages lawful can stands in
      let first : c.counts-first.result.0 ≡ length messages =
      ap (λ (x : ℕ × ℕ × ℕ). x.0) (c.counts-first.ensures.stands (first_past row (all_taken messages)) stands) ∙ ap length (append-nil messages) in
      let pauses : c.pause-pause.result ≡ pause row = c.pause-pause.ensures.value ∙ ap pause c.row.ensures in
      let small : pause row < 2 ^ 32 = (let short = c.pause-pause.ensures.short in omega (arith, short, pauses)) in
      let few : c.loop-number.number ≤ 2 ^ 24 = (let test = c.loop-number-test.true in omega (arith, test)) in
      let fits : length c.next.new.into ≤ row.message = (let short = e.fits refl in let size = kept.message in omega (arith, short, size)) in
      let more = sending.more ++ c.next.new.into ∷ [] in
      let cut = one_passed sending.more more c.next.new.into c.args.cutter.now c.loop-number.cutter c.next.new.self (g.I.Source.left c.args.file.now) (g.I.Source.left c.loop-number.file) (g.I.Source.left c.next.new.file)
      kept.taken.0 kept.taken.1 sending.cut e.gives refl in
      let taken = Consumes-trans _ _ _ _ _ kept.taken.1 e.takes.1 in
      let to = begins more (are_first more c.args.cutter.now c.next.new.self (g.I.Source.left c.args.file.now) (g.I.Source.left c.next.new.file) _ taken cut) in
      keeps_then m row all (disk_at roles.Recv c.args.pump.now) (disk_at roles.Recv c.loop-number.pump) (disk_at roles.Recv c.send.new.pump) (kept.keeps told messages lawful can stands all begins)
      (message_keeps m row messages c.loop-number.pump c.send.new.pump c.args.cutter.now c.loop-number.cutter c.next.new.self (g.I.Source.left c.args.file.now) (g.I.Source.left c.loop-number.file) (g.I.Source.left c.next.new.file) c.loop-number.number _ sending
      (moment_of c.loop-number.number _ _ _ _ _ sending.count first pauses) few small c.next.new.into fits (Err c.in-Err-send.stop) all kept.row told to c.in-Err-send.ensures.goes);
  total = tt;
  gave = let kept = c.loop-number.invariant in
      let t = c.in-Message.ensures.takes in
      gave_few c.args.cutter.now c.loop-number.cutter c.next.new.self (g.I.Source.left c.args.file.now) (g.I.Source.left c.loop-number.file) (g.I.Source.left c.next.new.file) kept.taken.0 t.0 _ kept.taken.1 kept.taken.2 t.1 t.2 (λ e. cc);
  read = λ e. cc;
  counts = λ role. (let one = c.loop-number.invariant.counts role in let other = c.in-Err-send.ensures.goes.later role in omega (arith, one, other));
  cause = rose_before g.D.Disk.told c.args.pump.now c.loop-number.pump c.send.new.pump c.in-Err-send.stop c.loop-number.invariant.counts c.in-Err-send.ensures.goes.rose;
  row = c.in-Err-send.ensures.goes.row ∙ c.loop-number.invariant.row;
  failed = tt;
}

pub returns : goal.returns
returns g c = record {
  sends = λ told messages lawful can stands.
      let kept = c.loop-number.invariant in
      let test = c.loop-number-test.false in
      let few = sending_few g.D.Disk.told (row_of c.args.pump.now) messages c.loop-number.pump c.args.cutter.now c.loop-number.cutter _ _ c.loop-number.number (kept.sending told messages lawful can stands) in
      absurd (omega (arith, few, test));
  keeps = c.loop-number.invariant.keeps;
  total = tt;
  gave = let kept = c.loop-number.invariant in
      let few = kept.may.few in
      let count = kept.taken.2 in
      (kept.taken.0, kept.taken.1, (λ e. absurd (cc)), λ e. omega (arith, few, count));
  read = λ e. cc;
  counts = c.loop-number.invariant.counts;
  cause = tt;
  row = c.loop-number.invariant.row;
  failed = tt;
}
