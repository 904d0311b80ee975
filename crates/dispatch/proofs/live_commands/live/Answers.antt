-- Each return tells the case of its command, which is the one that the words are.
use Rattle.std.proofs.Common.{ℕ, List, inl, inr, refl, subst}
use Rattle.command_line.specs.declared.command.Command.TheVariants as commands
use Rattle.disk_model.specs.Shelf.{IsOut}
use Rattle.script_replay.specs.Shelves.{Places}
use Rattle.command_line.proofs.Asked.{asks}
use Rattle.pump_link.proofs.Known.{Appends-none}
use Rattle.serving.specs.Doors.{doors, links}
use Rattle.dispatch.specs.Commands.{is_live}
use Rattle.dispatch.specs.Racing.{EndsRace, IsRecordOf}
use Rattle.dispatch.specs.Servings.{source}
use Rattle.dispatch.proofs.Asked.{asks_none, asks_other, is_not, not_live, of_asked}
use Rattle.dispatch.proofs.Caused.{told_not, exercise_not, race_memory}
use Rattle.dispatch.proofs.LiveUnmoved.{live_ends_unmoved, nothing_used}
use Rattle.dispatch.proofs.live_commands.live.Goals as goal

pub returns-in-Race : goal.returns-in-Race
returns-in-Race g c =
    let call = commands.Race c.in-Race.seed c.in-Race.count c.in-Race.times in
    let a = asks _ _ c.in-Ok.asked call c.as_slice.ensures.value c.in-Ok.ensures.found c.in-Ok.ensures.command c.in-Race.is in
    let e = c.run_race.ensures in
    record {
      words = λ none. absurd (none call refl a.are);
      unused = record { shelf = λ none. refl; low_ports = λ none. e.ports; high_ports = λ none. refl; script = λ none. refl; keys = λ none. refl; high_clock = λ none. refl; low_clock = λ none. absurd (none call refl a.are) };
      back = λ told name out. out;
      cause = record {
        memory = race_memory _ _ _ _ e.ends;
        words = λ two. absurd (exercise_not _ 2 e.status refl refl refl two);
        read = λ three. absurd (exercise_not _ 3 e.status refl refl refl three);
        unwritten = e.cause;
        device = λ seven. absurd (exercise_not _ 7 e.status refl refl refl seven);
        link = λ nine. absurd (exercise_not _ 9 e.status refl refl refl nine);
      };
      ends = of_asked _ is_live _ call a (subst (λ (times : List ℕ). EndsRace (IsRecordOf c.in-Race.seed c.in-Race.count times (g.K.Clock.reads c.args.low.now.clock) (g.K.Clock.reads c.run_race.new.low.clock)) (g.O.Sink.written c.args.out.now) (g.O.Sink.written c.run_race.new.out) c.run_race.result) c.as_slice-in-Race.ensures.value e.ends);
    }

pub returns-in-Serve : goal.returns-in-Serve
returns-in-Serve g c =
    let call = commands.Serve c.in-Serve.table c.in-Serve.session c.in-Serve.looks in
    let a = asks _ _ c.in-Ok.asked call c.as_slice.ensures.value c.in-Ok.ensures.found c.in-Ok.ensures.command c.in-Serve.is in
    let e = c.serve_table.ensures in
    record {
      words = λ none. absurd (none call refl a.are);
      unused = record { shelf = λ none. absurd (none call refl a.are); low_ports = λ none. absurd (none call refl a.are); high_ports = λ none. absurd (none call refl a.are); script = λ none. refl; keys = λ none. absurd (none call refl a.are); high_clock = λ none. absurd (none call refl a.are); low_clock = λ none. absurd (none call refl a.are) };
      back = e.back;
      cause = record {
        memory = e.cause.memory;
        words = λ two. absurd (e.cause.words two);
        read = λ three. elim (e.cause.read three) [ inl shelf ↦ inl shelf | inr keys ↦ inr (inr keys) ];
        unwritten = e.cause.unwritten;
        device = e.cause.device;
        link = e.cause.link;
      };
      ends = of_asked _ is_live _ call a e.ends;
    }

pub returns-in-Receive : goal.returns-in-Receive
returns-in-Receive g c =
    let call = commands.Receive c.in-Receive.table c.in-Receive.session c.in-Receive.looks in
    let a = asks _ _ c.in-Ok.asked call c.as_slice.ensures.value c.in-Ok.ensures.found c.in-Ok.ensures.command c.in-Receive.is in
    let e = c.receive_session.ensures in
    record {
      words = λ none. absurd (none call refl a.are);
      unused = record { shelf = λ none. absurd (none call refl a.are); low_ports = λ none. refl; high_ports = λ none. absurd (none call refl a.are); script = λ none. refl; keys = λ none. refl; high_clock = λ none. refl; low_clock = λ none. refl };
      back = e.back;
      cause = record {
        memory = e.cause.memory;
        words = λ two. absurd (e.cause.words two);
        read = λ three. inl (e.cause.read three);
        unwritten = e.cause.unwritten;
        device = e.cause.device;
        link = λ nine. inr (e.cause.link nine);
      };
      ends = of_asked _ is_live _ call a e.ends;
    }

pub returns-in-Send : goal.returns-in-Send
returns-in-Send g c =
    let call = commands.Send c.in-Send.table c.in-Send.session c.in-Send.looks in
    let a = asks _ _ c.in-Ok.asked call c.as_slice.ensures.value c.in-Ok.ensures.found c.in-Ok.ensures.command c.in-Send.is in
    let e = c.send_session.ensures in
    record {
      words = λ none. absurd (none call refl a.are);
      unused = record { shelf = λ none. absurd (none call refl a.are); low_ports = λ none. absurd (none call refl a.are); high_ports = λ none. refl; script = λ none. absurd (none call refl a.are); keys = λ none. refl; high_clock = λ none. refl; low_clock = λ none. refl };
      back = λ told name out. subst (λ (places : Places). IsOut (places name)) e.disks out;
      cause = record {
        memory = e.cause.memory;
        words = λ two. absurd (e.cause.words two);
        read = λ three. elim (e.cause.read three) [ inl shelf ↦ inl shelf | inr script ↦ inr (inl script) ];
        unwritten = e.cause.unwritten;
        device = λ seven. absurd (e.cause.device seven).1;
        link = λ nine. inl (e.cause.link nine);
      };
      ends = of_asked _ is_live _ call a e.ends;
    }

pub returns-in-Append : goal.returns-in-Append
returns-in-Append g c =
    let call = commands.Append c.in-Append.table c.in-Append.session c.in-Append.looks in
    let a = asks _ _ c.in-Ok.asked call c.as_slice.ensures.value c.in-Ok.ensures.found c.in-Ok.ensures.command c.in-Append.is in
    let e = c.append_session.ensures in
    record {
      words = λ none. absurd (none call refl a.are);
      unused = record { shelf = λ none. absurd (none call refl a.are); low_ports = λ none. absurd (none call refl a.are); high_ports = λ none. refl; script = λ none. absurd (none call refl a.are); keys = λ none. refl; high_clock = λ none. refl; low_clock = λ none. refl };
      back = λ told name out. subst (λ (places : Places). IsOut (places name)) e.disks out;
      cause = record {
        memory = e.cause.memory;
        words = λ two. absurd (e.cause.words two);
        read = λ three. elim (e.cause.read three) [ inl shelf ↦ inl shelf | inr script ↦ inr (inl script) ];
        unwritten = e.cause.unwritten;
        device = λ seven. absurd (e.cause.device seven).1;
        link = λ nine. absurd (e.cause.link nine);
      };
      ends = of_asked _ is_live _ call a e.ends;
    }

pub returns-in_default : goal.returns-in_default
returns-in_default g c =
    let a = asks _ _ c.in-Ok.asked c.in-Ok.asked c.as_slice.ensures.value c.in-Ok.ensures.found c.in-Ok.ensures.command refl in
    let is = c.in_default in
    let none = asks_other is_live _ c.in-Ok.asked (not_live c.in-Ok.asked is.not-Race is.not-Serve is.not-Receive is.not-Send is.not-Append) a in
    let told = c.refuse_words-in_default.ensures.told in
    record {
      words = λ words. inl told;
      unused = nothing_used _ _ _ _ _ _;
      back = λ tells name out. out;
      cause = record {
        memory = λ one. absurd (told_not _ _ _ 1 told refl refl one);
        words = λ two. none;
        read = λ three. absurd (told_not _ _ _ 3 told refl refl three);
        unwritten = c.refuse_words-in_default.ensures.cause;
        device = λ seven. absurd (told_not _ _ _ 7 told refl refl seven);
        link = λ nine. absurd (told_not _ _ _ 9 told refl refl nine);
      };
      ends = λ d live words. absurd (none d live words);
    }

pub returns-in-Err-NoCommand : goal.returns-in-Err-NoCommand
returns-in-Err-NoCommand g c =
    let none = asks_none is_live _ _ c.as_slice.ensures.value (rw c.in-Err-NoCommand.field-0-is at c.in-Err-NoCommand.ensures.command) in
    let told = c.refuse_words.ensures.told in
    record {
      words = λ words. inl told;
      unused = nothing_used _ _ _ _ _ _;
      back = λ tells name out. out;
      cause = record {
        memory = λ one. absurd (told_not _ _ _ 1 told refl refl one);
        words = λ two. none;
        read = λ three. absurd (told_not _ _ _ 3 told refl refl three);
        unwritten = c.refuse_words.ensures.cause;
        device = λ seven. absurd (told_not _ _ _ 7 told refl refl seven);
        link = λ nine. absurd (told_not _ _ _ 9 told refl refl nine);
      };
      ends = λ d live words. absurd (none d live words);
    }

pub returns-in-Err-Memory : goal.returns-in-Err-Memory
returns-in-Err-Memory g c = let nothing = Appends-none (g.O.Sink.written c.args.out.now) in record {
  words = λ words. inr (refl, nothing);
  unused = nothing_used _ _ _ _ _ _;
  back = λ tells name out. out;
  cause = record {
    memory = λ one. nothing;
    words = λ two. absurd (is_not 1 2 1 refl refl two);
    read = λ three. absurd (is_not 1 3 1 refl refl three);
    unwritten = λ four. absurd (is_not 1 4 1 refl refl four);
    device = λ seven. absurd (is_not 1 7 1 refl refl seven);
    link = λ nine. absurd (is_not 1 9 1 refl refl nine);
  };
  ends = λ d live words. live_ends_unmoved (doors g.P.Door.Door.port g.P.Door.Door.did g.P.Door.Door.gives (links g.P.Link.Link.gives g.P.Link.Link.sent g.P.Link.Link.faults)) (g.P.Ports.did c.args.low.now.ports) (g.P.Ports.did c.args.high.now.ports) (g.P.Ports.faults c.args.low.now.ports) (g.P.Ports.faults c.args.high.now.ports) (g.K.Clock.reads c.args.low.now.clock) (g.K.Clock.reads c.args.high.now.clock)
      g.S.Shelf.told g.S.Disk.Disk.told c.args.shelf.now (source g.Q.Source.left g.Q.Source.faults c.args.keys.now c.args.keys.now) (source g.I.Source.left g.I.Source.faults c.args.script.now c.args.script.now) (g.O.Sink.written c.args.out.now) (g.O.Sink.faults c.args.out.now) nothing d;
}
