use Rattle.std.proofs.Common.{◌≡◌, ℕ, false, [], ◌∷◌, Some, refl, sym, ap, ◌∙◌, subst}
use Rattle.std.specs.Prelude.{IfOk, IfErr}
use Rattle.std.proofs.lemmas.Option.{same_Some}
use Rattle.script_reader.specs.declared.line.Line.{Line}
use Rattle.script_reader.specs.Heads.{line_with}
use Rattle.script_reader.specs.Sessions.{session_in, begins_session}
use Rattle.script_replay.specs.Applied.{BeginsNoSession, IsBegunBy}
use Rattle.script_replay.specs.Runners.{Begins, StartsFresh}
use Rattle.script_replay.specs.Told.{IsMadeBy}
use Rattle.script_replay.proofs.Opened.{if_err}
use Rattle.script_replay.proofs.applying.begin.Goals as goal

pub returns-in-None-first_bad-clause-begins : goal.returns-in-None-first_bad-clause-begins
returns-in-None-first_bad-clause-begins g c = λ told tells.
    subst (λ (l : Line). Begins g.S.Disk.Disk.told (g.S.Shelf.told.disk c.args.shelf.now) (g.S.Shelf.told.disk c.args.shelf.now) l c.begin_alone.result) (sym (ap (line_with c.args.body.now) c.in-LowSession.is)) (c.begin_alone.ensures.begins (g.S.Shelf.told.disk c.args.shelf.now))

pub returns-in-None-clause-fresh : goal.returns-in-None-clause-fresh
returns-in-None-clause-fresh g c = λ told tells number named.
    let is : session_in (line_with c.args.body.now c.args.line.now) ≡ Some c.in-Session.row.id = ap (λ l. session_in (line_with c.args.body.now l)) c.in-Session.is in
    subst (λ (n : ℕ). StartsFresh g.S.Disk.Disk.told (g.S.Shelf.told.disk c.args.shelf.now) (g.S.Shelf.told.disk c.begin_whole.new.shelf) n c.begin_whole.result) (same_Some c.in-Session.row.id number (sym is ∙ named)) (c.begin_whole.ensures.fresh told tells)

pub returns-in-None-first_bad-clause-fresh : goal.returns-in-None-first_bad-clause-fresh
returns-in-None-first_bad-clause-fresh g c = λ told tells number named.
    let is : session_in (line_with c.args.body.now c.args.line.now) ≡ Some c.in-LowSession.row.id = ap (λ l. session_in (line_with c.args.body.now l)) c.in-LowSession.is in
    let at = g.S.Shelf.told.disk c.args.shelf.now in
    subst (λ (n : ℕ). StartsFresh g.S.Disk.Disk.told at at n c.begin_alone.result) (same_Some c.in-LowSession.row.id number (sym is ∙ named)) (c.begin_alone.ensures.fresh at)

pub returns-in-None-clause-made : goal.returns-in-None-clause-made
returns-in-None-clause-made g c = c.begin_whole.ensures.made (line_with c.args.body.now c.args.line.now ∷ [])

pub returns-in-None-first_bad-clause-made : goal.returns-in-None-first_bad-clause-made
returns-in-None-first_bad-clause-made g c =
    subst (λ (l : Line). IfOk c.begin_alone.result (λ session. IsMadeBy g.S.Disk.Disk.told false (Some session) (l ∷ []))) (sym (ap (line_with c.args.body.now) c.in-LowSession.is)) c.begin_alone.ensures.made

pub returns-in-None-clause-begun : goal.returns-in-None-clause-begun
returns-in-None-clause-begun g c =
    subst (λ (l : Line). IfOk c.begin_whole.result (λ session. IsBegunBy g.S.Disk.Disk.told (g.S.Shelf.told.disk c.args.shelf.now) (g.S.Shelf.told.disk c.begin_whole.new.shelf) l session)) (sym (ap (line_with c.args.body.now) c.in-Session.is)) c.begin_whole.ensures.begun

pub returns-in-None-clause-unbegun : goal.returns-in-None-clause-unbegun
returns-in-None-clause-unbegun g c =
    subst (λ (l : Line). IfErr c.begin_whole.result (λ outcome. BeginsNoSession g.S.Shelf.told g.S.Disk.Disk.told c.args.shelf.now c.begin_whole.new.shelf l outcome)) (sym (ap (line_with c.args.body.now) c.in-Session.is)) c.begin_whole.ensures.unbegun

pub returns-in-None-first_bad-clause-begun : goal.returns-in-None-first_bad-clause-begun
returns-in-None-first_bad-clause-begun g c =
    let at = g.S.Shelf.told.disk c.args.shelf.now in
    subst (λ (l : Line). IfOk c.begin_alone.result (λ session. IsBegunBy g.S.Disk.Disk.told at at l session)) (sym (ap (line_with c.args.body.now) c.in-LowSession.is)) (c.begin_alone.ensures.begun at)

pub returns-in-None-first_bad-clause-unbegun : goal.returns-in-None-first_bad-clause-unbegun
returns-in-None-first_bad-clause-unbegun g c =
    if_err c.begin_alone.result _ _ c.begin_alone.ensures.memory (λ outcome is.
    subst (BeginsNoSession g.S.Shelf.told g.S.Disk.Disk.told c.args.shelf.now c.args.shelf.now (line_with c.args.body.now c.args.line.now)) (sym is)
    (record { back = λ told name out. out; stops = tt; unprinted = tt; memory = λ e. ap (λ l. begins_session (line_with c.args.body.now l)) c.in-LowSession.is; refused = λ e. refl; device = λ number role h. absurd h }))
