use Rattle.std.proofs.Common.{rules, ℕ, List, inl, refl, sym}
use Rattle.pump_link.proofs.Grown.{Grows-nil}
use Rattle.command_line.specs.declared.command.Command.TheVariants as commands
use Rattle.command_ends.specs.declared.command_end.CommandEnd.TheVariants as ends
use Rattle.command_line.proofs.Asked.{asks}
use Rattle.peers.specs.Appending.{link_tells}
use Rattle.transfer.specs.Collecting.{CollectComes}
use Rattle.transfer.specs.Dropping.{DropComes}
use Rattle.command_ends.specs.CommandEnds.{EndsLive}
use Rattle.transfer.proofs.Asked.{asks_none, not_transfer, drop_asked, collect_asked, never_both}
use Rattle.transfer.proofs.transferring.transfer.Goals as goal

pub returns-in-Err-NoCommand-clause-drop : goal.returns-in-Err-NoCommand-clause-drop
returns-in-Err-NoCommand-clause-drop g c = λ table folder session looks words.
    elim (asks_none _ _ c.as_slice.ensures.value (rw c.in-Err-NoCommand.field-0-is at c.in-Err-NoCommand.ensures.command) (commands.DropFiles table session looks folder) words) [ ]

pub returns-in-Err-NoCommand-clause-collect : goal.returns-in-Err-NoCommand-clause-collect
returns-in-Err-NoCommand-clause-collect g c = λ table folder session looks words.
    elim (asks_none _ _ c.as_slice.ensures.value (rw c.in-Err-NoCommand.field-0-is at c.in-Err-NoCommand.ensures.command) (commands.CollectFiles table session looks folder) words) [ ]

pub returns-in-Err-Memory-clause-drop : goal.returns-in-Err-Memory-clause-drop
returns-in-Err-Memory-clause-drop g c = λ table folder session looks words told. record {
  end = ends.Memory;
  mid = g.O.Sink.written c.args.out.now;
  mid_faults = g.O.Sink.faults c.args.out.now;
  comes = inl ((tt, λ e. absurd (cc)), Grows-nil _, Grows-nil _, refl);
  last = inl (refl, search rules);
  later = search rules;
}

pub returns-in-Err-Memory-clause-collect : goal.returns-in-Err-Memory-clause-collect
returns-in-Err-Memory-clause-collect g c = λ table folder session looks words told. record {
  end = ends.Memory;
  mid = g.O.Sink.written c.args.out.now;
  mid_faults = g.O.Sink.faults c.args.out.now;
  comes = inl ((tt, λ e. absurd (cc)), Grows-nil _, Grows-nil _, refl);
  last = inl (refl, search rules);
  later = search rules;
}

pub returns-in-DropFiles-clause-drop : goal.returns-in-DropFiles-clause-drop
returns-in-DropFiles-clause-drop g c = λ table folder session looks words told.
    let is = c.in-DropFiles in
    let a = asks _ _ c.in-Ok.asked (commands.DropFiles is.table is.session is.looks is.folder) c.as_slice.ensures.value c.in-Ok.ensures.found c.in-Ok.ensures.command is.is in
    let n = c.drop_files.new in
    let e = c.new-errand.ensures in
    drop_asked (λ (t : List ℕ) (s l : ℕ) (f : List ℕ). EndsLive (DropComes (link_tells g.P.Link.Link.gives g.P.Link.Link.sent g.P.Link.Link.faults) g.F.Outbox.Outbox.told g.F.Outbox.File.Source.left g.F.Outbox.File.Source.faults l (g.P.Ports.did c.args.ports.now) (g.P.Ports.did n.ports) (g.O.Sink.written c.args.out.now) (g.O.Sink.faults c.args.out.now) (g.F.Folders.did c.args.folders.now) (g.F.Folders.did n.folders) f (g.S.Shelf.told.file c.args.shelf.now t) (g.S.Shelf.told.faults c.args.shelf.now) (g.S.Shelf.told.faults n.shelf) s) (g.O.Sink.written n.out) (g.O.Sink.faults n.out) s c.drop_files.result)
    _ table _ folder _ session _ looks (commands.DropFiles is.table is.session is.looks is.folder) (c.drop_files.ensures.ends told) (λ i. commands.DropFiles (sym e.table i) (sym e.session i) (sym e.looks i) (sym e.folder i)) (a.only (commands.DropFiles table session looks folder) words)

pub returns-in-DropFiles-clause-collect : goal.returns-in-DropFiles-clause-collect
returns-in-DropFiles-clause-collect g c = λ table folder session looks words.
    let is = c.in-DropFiles in
    let a = asks _ _ c.in-Ok.asked (commands.DropFiles is.table is.session is.looks is.folder) c.as_slice.ensures.value c.in-Ok.ensures.found c.in-Ok.ensures.command is.is in
    elim (never_both _ _ _ _ _ _ _ _ (a.only (commands.CollectFiles table session looks folder) words)) [ ]

pub returns-in-CollectFiles-clause-collect : goal.returns-in-CollectFiles-clause-collect
returns-in-CollectFiles-clause-collect g c = λ table folder session looks words told.
    let is = c.in-CollectFiles in
    let a = asks _ _ c.in-Ok.asked (commands.CollectFiles is.table is.session is.looks is.folder) c.as_slice.ensures.value c.in-Ok.ensures.found c.in-Ok.ensures.command is.is in
    let n = c.collect_files.new in
    let e = c.new-errand-in-CollectFiles.ensures in
    collect_asked (λ (t : List ℕ) (s l : ℕ) (f : List ℕ). EndsLive (CollectComes (link_tells g.P.Link.Link.gives g.P.Link.Link.sent g.P.Link.Link.faults) g.F.Inbox.Inbox.told g.F.Inbox.Disk.Disk.told l (g.P.Ports.did c.args.ports.now) (g.P.Ports.did n.ports) (g.O.Sink.written c.args.out.now) (g.O.Sink.faults c.args.out.now) (g.F.Folders.did c.args.folders.now) (g.F.Folders.did n.folders) f (g.S.Shelf.told.file c.args.shelf.now t) (g.S.Shelf.told.faults c.args.shelf.now) (g.S.Shelf.told.faults n.shelf) s) (g.O.Sink.written n.out) (g.O.Sink.faults n.out) s c.collect_files.result)
    _ table _ folder _ session _ looks (commands.CollectFiles is.table is.session is.looks is.folder) (c.collect_files.ensures.ends told) (λ i. commands.CollectFiles (sym e.table i) (sym e.session i) (sym e.looks i) (sym e.folder i)) (a.only (commands.CollectFiles table session looks folder) words)

pub returns-in-CollectFiles-clause-drop : goal.returns-in-CollectFiles-clause-drop
returns-in-CollectFiles-clause-drop g c = λ table folder session looks words.
    let is = c.in-CollectFiles in
    let a = asks _ _ c.in-Ok.asked (commands.CollectFiles is.table is.session is.looks is.folder) c.as_slice.ensures.value c.in-Ok.ensures.found c.in-Ok.ensures.command is.is in
    elim (never_both _ _ _ _ _ _ _ _ (sym (a.only (commands.DropFiles table session looks folder) words))) [ ]

pub returns-in_default : goal.returns-in_default
returns-in_default g c =
    let a = asks _ _ c.in-Ok.asked c.in-Ok.asked c.as_slice.ensures.value c.in-Ok.ensures.found c.in-Ok.ensures.command refl in
    let none = not_transfer c.in-Ok.asked c.in_default.not-DropFiles c.in_default.not-CollectFiles in
    let told = c.refuse_words-in_default.ensures.told in
    record {
      untouched = λ words. (refl, refl, refl);
      words = λ words. inl told;
      disks = refl;
      cause = search rules;
      drop = λ table folder session looks words. elim (none (commands.DropFiles table session looks folder) refl (a.only (commands.DropFiles table session looks folder) words)) [ ];
      collect = λ table folder session looks words. elim (none (commands.CollectFiles table session looks folder) refl (a.only (commands.CollectFiles table session looks folder) words)) [ ];
    }
