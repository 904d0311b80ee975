-- Each return tells the case of its command, which is the one that the words are.
use Rattle.std.proofs.Common.{rules, inl, inr, refl, sym, subst}
use Rattle.command_line.specs.declared.command.Command.TheVariants as commands
use Rattle.command_line.proofs.Asked.{asks}
use Rattle.dispatch.specs.Commands.{is_batch}
use Rattle.dispatch.proofs.Asked.{asks_none, asks_other, elsewhere_one, is_not, of_asked}
use Rattle.dispatch.proofs.Caused.{batch_cause, end_causes, session_no_folder, unwrap_no_folder, wrap_no_folder, chain_causes, exercise_not, audit_not, compare_not, end_in, unwrap_in, wrap_in, replay_in, told_in, exercise_in, audit_in, compare_in}
use Rattle.dispatch.proofs.Unmoved.{cause_unmoved, ends_unmoved}
use Rattle.pump_link.proofs.Known.{Appends-none}
use Rattle.script_replay.specs.Shelves.{AllAreBack}
use Rattle.dispatch.proofs.batch_commands.batch.Goals as goal

pub returns-in-Format : goal.returns-in-Format
returns-in-Format g c =
    let call = commands.Format c.in-Format.table c.in-Format.session in
    let a = asks _ _ c.in-Ok.asked call c.as_slice.ensures.value c.in-Ok.ensures.found c.in-Ok.ensures.command c.in-Format.is in
    let e = c.format_session.ensures in
    let k = end_causes _ _ _ _ _ c.format_session.result c.status.result c.status.ensures e.cause (session_no_folder c.format_session.result e.cause.only) (λ role rose. rose) in
    record {
      untouched = λ none. absurd (none call refl a.are);
      words = λ none. absurd (none call refl a.are);
      unasked = λ none. refl;
      back = e.back;
      cause = of_asked _ is_batch _ call a (batch_cause _ _ _ _ _ k);
      unwritten = k.write;
      ends = of_asked _ is_batch _ call a (λ told tells. (c.format_session.result, sym c.status.ensures, e.ends told tells));
      status = end_in _ c.format_session.result c.status.ensures e.cause.only;
    }

pub returns-in-Show : goal.returns-in-Show
returns-in-Show g c =
    let call = commands.Show c.in-Show.table c.in-Show.session in
    let a = asks _ _ c.in-Ok.asked call c.as_slice.ensures.value c.in-Ok.ensures.found c.in-Ok.ensures.command c.in-Show.is in
    let e = c.show_session.ensures in
    let k = end_causes _ _ _ _ _ c.show_session.result c.status-in-Show.result c.status-in-Show.ensures e.cause (session_no_folder c.show_session.result e.cause.only) (λ role rose. rose) in
    record {
      untouched = λ none. absurd (none call refl a.are);
      words = λ none. absurd (none call refl a.are);
      unasked = λ none. refl;
      back = e.back;
      cause = of_asked _ is_batch _ call a (batch_cause _ _ _ _ _ k);
      unwritten = k.write;
      ends = of_asked _ is_batch _ call a (λ told tells. (c.show_session.result, sym c.status-in-Show.ensures, e.ends told tells));
      status = end_in _ c.show_session.result c.status-in-Show.ensures e.cause.only;
    }

pub returns-in-Messages : goal.returns-in-Messages
returns-in-Messages g c =
    let call = commands.Messages c.in-Messages.table c.in-Messages.session c.in-Messages.from in
    let a = asks _ _ c.in-Ok.asked call c.as_slice.ensures.value c.in-Ok.ensures.found c.in-Ok.ensures.command c.in-Messages.is in
    let e = c.print_messages.ensures in
    let k = end_causes _ _ _ _ _ c.print_messages.result c.status-in-Messages.result c.status-in-Messages.ensures e.cause (session_no_folder c.print_messages.result e.cause.only) (λ role rose. rose) in
    record {
      untouched = λ none. absurd (none call refl a.are);
      words = λ none. absurd (none call refl a.are);
      unasked = λ none. refl;
      back = λ tells. subst (AllAreBack (g.S.Shelf.told.disk c.args.shelf.now)) (sym e.disks) (λ name out. out);
      cause = of_asked _ is_batch _ call a (batch_cause _ _ _ _ _ k);
      unwritten = k.write;
      ends = of_asked _ is_batch _ call a (e.disks, λ told. (c.print_messages.result, sym c.status-in-Messages.ensures, e.ends told));
      status = end_in _ c.print_messages.result c.status-in-Messages.ensures e.cause.only;
    }

pub returns-in-Status : goal.returns-in-Status
returns-in-Status g c =
    let call = commands.Status c.in-Status.table c.in-Status.session in
    let a = asks _ _ c.in-Ok.asked call c.as_slice.ensures.value c.in-Ok.ensures.found c.in-Ok.ensures.command c.in-Status.is in
    let e = c.tell_status.ensures in
    let k = end_causes _ _ _ _ _ c.tell_status.result c.status-in-Status.result c.status-in-Status.ensures e.cause (session_no_folder c.tell_status.result e.cause.only) (λ role rose. rose) in
    record {
      untouched = λ none. absurd (none call refl a.are);
      words = λ none. absurd (none call refl a.are);
      unasked = λ none. refl;
      back = λ tells. subst (AllAreBack (g.S.Shelf.told.disk c.args.shelf.now)) (sym e.disks) (λ name out. out);
      cause = of_asked _ is_batch _ call a (batch_cause _ _ _ _ _ k);
      unwritten = k.write;
      ends = of_asked _ is_batch _ call a (e.disks, λ told. (c.tell_status.result, sym c.status-in-Status.ensures, e.ends told));
      status = end_in _ c.tell_status.result c.status-in-Status.ensures e.cause.only;
    }

pub returns-in-Migrate : goal.returns-in-Migrate
returns-in-Migrate g c =
    let call = commands.Migrate c.in-Migrate.table c.in-Migrate.session c.in-Migrate.new_table c.in-Migrate.new_session in
    let a = asks _ _ c.in-Ok.asked call c.as_slice.ensures.value c.in-Ok.ensures.found c.in-Ok.ensures.command c.in-Migrate.is in
    let e = c.migrate_session.ensures in
    let k = end_causes _ _ _ _ _ c.migrate_session.result c.status-in-Migrate.result c.status-in-Migrate.ensures e.cause (session_no_folder c.migrate_session.result e.cause.only) (λ role rose. rose) in
    record {
      untouched = λ none. absurd (none call refl a.are);
      words = λ none. absurd (none call refl a.are);
      unasked = λ none. refl;
      back = e.back;
      cause = of_asked _ is_batch _ call a (batch_cause _ _ _ _ _ k);
      unwritten = k.write;
      ends = of_asked _ is_batch _ call a (λ told tells. (c.migrate_session.result, sym c.status-in-Migrate.ensures, e.ends told tells));
      status = end_in _ c.migrate_session.result c.status-in-Migrate.ensures e.cause.only;
    }

pub returns-in-Unwrap : goal.returns-in-Unwrap
returns-in-Unwrap g c =
    let call = commands.Unwrap c.in-Unwrap.table c.in-Unwrap.session in
    let a = asks _ _ c.in-Ok.asked call c.as_slice.ensures.value c.in-Ok.ensures.found c.in-Ok.ensures.command c.in-Unwrap.is in
    let e = c.unwrap_session.ensures in
    let k = end_causes _ _ _ _ _ c.unwrap_session.result c.status-in-Unwrap.result c.status-in-Unwrap.ensures e.cause (unwrap_no_folder c.unwrap_session.result e.cause.only) (λ role fails. fails.1) in
    record {
      untouched = λ none. absurd (none call refl a.are);
      words = λ none. absurd (none call refl a.are);
      unasked = λ none. refl;
      back = e.back;
      cause = of_asked _ is_batch _ call a (batch_cause _ _ _ _ _ k);
      unwritten = k.write;
      ends = of_asked _ is_batch _ call a (λ told tells. (c.unwrap_session.result, sym c.status-in-Unwrap.ensures, e.unwraps told tells));
      status = unwrap_in _ c.unwrap_session.result c.status-in-Unwrap.ensures e.cause.only;
    }

pub returns-in-Wrap : goal.returns-in-Wrap
returns-in-Wrap g c =
    let call = commands.Wrap c.in-Wrap.table c.in-Wrap.session in
    let a = asks _ _ c.in-Ok.asked call c.as_slice.ensures.value c.in-Ok.ensures.found c.in-Ok.ensures.command c.in-Wrap.is in
    let e = c.wrap_session.ensures in
    let k = end_causes _ _ _ _ _ c.wrap_session.result c.status-in-Wrap.result c.status-in-Wrap.ensures e.cause (wrap_no_folder c.wrap_session.result e.cause.only) (λ role fails. fails.0) in
    record {
      untouched = λ none. absurd (none call refl a.are);
      words = λ none. absurd (none call refl a.are);
      unasked = λ none. absurd (none call refl a.are);
      back = e.back;
      cause = of_asked _ is_batch _ call a (batch_cause _ _ _ _ _ k);
      unwritten = k.write;
      ends = of_asked _ is_batch _ call a (λ told tells. (c.wrap_session.result, sym c.status-in-Wrap.ensures, e.ends told tells));
      status = wrap_in _ c.wrap_session.result c.status-in-Wrap.ensures e.cause.only;
    }

pub returns-in-Chain : goal.returns-in-Chain
returns-in-Chain g c =
    let call = commands.Chain in
    let a = asks _ _ c.in-Ok.asked call c.as_slice.ensures.value c.in-Ok.ensures.found c.in-Ok.ensures.command c.in-Chain.is in
    let e = c.replay_chain.ensures in
    let s = c.status-in-Chain.ensures in
    let k = chain_causes _ _ _ _ c.replay_chain.result c.status-in-Chain.result s.is e.memory e.words e.device e.read e.write in
    record {
      untouched = λ none. absurd (none call refl a.are);
      words = λ none. absurd (none call refl a.are);
      unasked = λ none. absurd (none call refl a.are);
      back = e.back;
      cause = of_asked _ is_batch _ call a (batch_cause _ _ _ _ _ k);
      unwritten = k.write;
      ends = of_asked _ is_batch _ call a (λ told tells. inl (c.replay_chain.result, sym s.is, e.ends told tells));
      status = replay_in _ s.range;
    }

pub returns-in-Exercise : goal.returns-in-Exercise
returns-in-Exercise g c =
    let call = commands.Exercise c.in-Exercise.seed c.in-Exercise.count in
    let a = asks _ _ c.in-Ok.asked call c.as_slice.ensures.value c.in-Ok.ensures.found c.in-Ok.ensures.command c.in-Exercise.is in
    let e = c.run_exercise.ensures in
    record {
      untouched = λ none. absurd (none call refl a.are);
      words = λ none. absurd (none call refl a.are);
      unasked = λ none. refl;
      back = λ tells name out. out;
      cause = of_asked _ is_batch _ call a (record { memory = λ one. tt; words = exercise_not _ 2 e.status refl refl refl; read = λ three. absurd (exercise_not _ 3 e.status refl refl refl three); disk = λ seven. absurd (exercise_not _ 7 e.status refl refl refl seven) });
      unwritten = e.cause;
      ends = of_asked _ is_batch _ call a (refl, e.ends);
      status = exercise_in _ e.status;
    }

pub returns-in-Audit : goal.returns-in-Audit
returns-in-Audit g c =
    let call = commands.Audit in
    let a = asks _ _ c.in-Ok.asked call c.as_slice.ensures.value c.in-Ok.ensures.found c.in-Ok.ensures.command c.in-Audit.is in
    let e = c.audit_script.ensures in
    record {
      untouched = λ none. absurd (none call refl a.are);
      words = λ none. absurd (none call refl a.are);
      unasked = λ none. absurd (none call refl a.are);
      back = λ tells name out. out;
      cause = of_asked _ is_batch _ call a (record { memory = e.memory; words = audit_not _ 2 e.status refl refl refl refl refl; read = e.read; disk = λ seven. absurd (audit_not _ 7 e.status refl refl refl refl refl seven) });
      unwritten = e.unwritten;
      ends = of_asked _ is_batch _ call a (refl, e.ends);
      status = audit_in _ e.status;
    }

pub returns-in-Compare : goal.returns-in-Compare
returns-in-Compare g c =
    let call = commands.Compare in
    let a = asks _ _ c.in-Ok.asked call c.as_slice.ensures.value c.in-Ok.ensures.found c.in-Ok.ensures.command c.in-Compare.is in
    let e = c.compare_script.ensures in
    record {
      untouched = λ none. absurd (none call refl a.are);
      words = λ none. absurd (none call refl a.are);
      unasked = λ none. absurd (none call refl a.are);
      back = λ tells name out. out;
      cause = of_asked _ is_batch _ call a (record { memory = e.memory; words = compare_not _ 2 e.status refl refl refl refl refl refl; read = e.read; disk = λ seven. absurd (compare_not _ 7 e.status refl refl refl refl refl refl seven) });
      unwritten = e.unwritten;
      ends = of_asked _ is_batch _ call a (refl, e.ends);
      status = compare_in _ e.status;
    }

pub returns : goal.returns
returns g c =
    let call = commands.Replay in
    let a = asks _ _ c.in-Ok.asked call c.as_slice.ensures.value c.in-Ok.ensures.found c.in-Ok.ensures.command c.in-Replay.is in
    let e = c.replay.ensures in
    record {
      untouched = λ none. absurd (none call refl a.are);
      words = λ none. absurd (none call refl a.are);
      unasked = λ none. absurd (none call refl a.are);
      back = e.back;
      cause = of_asked _ is_batch _ call a (record { memory = e.memory; words = e.words; read = e.read; disk = e.device });
      unwritten = e.write;
      ends = of_asked _ is_batch _ call a e.ends;
      status = replay_in _ e.status;
    }

pub returns-in-Err-NoCommand : goal.returns-in-Err-NoCommand
returns-in-Err-NoCommand g c =
    let none = asks_none is_batch _ _ c.as_slice.ensures.value (rw c.in-Err-NoCommand.field-0-is at c.in-Err-NoCommand.ensures.command) in
    let told = c.refuse_words.ensures.told in
    record {
      untouched = λ words. (refl, refl);
      words = λ words. inl told;
      unasked = λ words. refl;
      back = λ tells name out. out;
      cause = λ d batch words. absurd (none d batch words);
      unwritten = c.refuse_words.ensures.cause;
      ends = λ d batch words. absurd (none d batch words);
      status = told_in _ _ _ told;
    }

pub returns-in-Race : goal.returns-in-Race
returns-in-Race g c =
    let a = asks _ _ c.in-Ok.asked c.in-Ok.asked c.as_slice.ensures.value c.in-Ok.ensures.found c.in-Ok.ensures.command refl in
    let none = asks_other is_batch _ c.in-Ok.asked (elsewhere_one c.in-Ok.asked c.in-Race.is) a in
    let told = c.refuse_words-in-Race.ensures.told in
    record {
      untouched = λ words. (refl, refl);
      words = λ words. inl told;
      unasked = λ words. refl;
      back = λ tells name out. out;
      cause = λ d batch words. absurd (none d batch words);
      unwritten = c.refuse_words-in-Race.ensures.cause;
      ends = λ d batch words. absurd (none d batch words);
      status = told_in _ _ _ told;
    }

pub returns-in-Err-Memory : goal.returns-in-Err-Memory
returns-in-Err-Memory g c = record {
  untouched = λ words. (refl, refl);
  words = λ words. inr (refl, Appends-none (g.O.Sink.written c.args.out.now));
  unasked = λ words. refl;
  back = λ tells name out. out;
  cause = λ d batch words. cause_unmoved g.S.Shelf.told g.S.Disk.Disk.told c.args.shelf.now (g.I.Source.left c.args.script.now) (g.I.Source.faults c.args.script.now) (g.O.Sink.written c.args.out.now) (Appends-none (g.O.Sink.written c.args.out.now)) d;
  unwritten = λ four. absurd (is_not 1 4 1 refl refl four);
  ends = λ d batch words. ends_unmoved g.S.Shelf.told g.S.Disk.Disk.told c.args.shelf.now (g.I.Source.left c.args.script.now) (g.I.Source.faults c.args.script.now) (g.O.Sink.written c.args.out.now) (Appends-none (g.O.Sink.written c.args.out.now)) d;
  status = inl (search rules);
}
