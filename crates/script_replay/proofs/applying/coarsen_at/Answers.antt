use Rattle.std.proofs.Common.{◌≡◌, ◌<◌, length, false, Some, refl, sym, ap, ◌∙◌, subst, arith}
use Rattle.std.proofs.lemmas.Option.{same_Some}
use Rattle.script_reader.specs.Heads.{line_with}
use Rattle.script_replay.specs.Outputs.{held_of}
use Rattle.script_replay.specs.Sessions.{is_coarse}
use Rattle.script_replay.specs.declared.outcome.LineOutcome.TheVariants.{Applied}
use Rattle.script_replay.proofs.Coarse.{coarse_line}
use Rattle.script_replay.proofs.Fresh.{put_fresh}
use Rattle.script_replay.proofs.Given.{refused_goes}
use Rattle.script_replay.proofs.Listed.{at_slice, set_here, order_item, within_so}
use Rattle.script_replay.proofs.Told.{coarse_made}
use Rattle.script_replay.proofs.Turns.{same_id, id_x, there_own, is_put, up_there, lends_last, up_last, rise_last, coarse_does, refused_begun, refused_coarse, begin_turn, hands_of}
use Rattle.script_replay.proofs.applying.coarsen_at.Goals as goal

pub returns-then-begins_session-clause-goes : goal.returns-then-begins_session-clause-goes
returns-then-begins_session-clause-goes g c = λ shelf written.
    let line = (line_with c.args.body.now c.args.line.now) in
    let first = c.args.replaying.now.sessions in
    let comes = c.requires.comes in
    let n = comes.number in
    let low : c.args.place < length first.begun.items = within_so n c.args.place first.begun.items comes.placed.1 in
    refused_goes g.S.Shelf.told g.S.Disk.Disk.told line c.args.replaying.now written c.requires.order shelf
    (λ t stand. refused_begun g.S.Disk.Disk.told t line n c.args.place first comes.named (c.begins_session.ensures c.args.body.now ∙ c.if-begins_session.true) comes.placed stand)

pub index-requires : goal.index-requires
index-requires g c =
    let low = within_so c.requires.comes.number c.args.place c.args.replaying.now.sessions.begun.items c.requires.comes.placed.1 in
    let len = c.args.replaying.now.sessions.begun.ok.0 in
    omega (arith, low, len)

pub returns-then-is_coarse-clause-goes : goal.returns-then-is_coarse-clause-goes
returns-then-is_coarse-clause-goes g c = λ shelf written.
    let line = (line_with c.args.body.now c.args.line.now) in
    let first = c.args.replaying.now.sessions in
    let comes = c.requires.comes in
    let n = comes.number in
    let low : c.args.place < length first.begun.items = within_so n c.args.place first.begun.items comes.placed.1 in
    let at = at_slice first.begun.items c.args.place c.index.result.now low c.index.ensures in
    let coarse = coarse_line line c.requires.first (c.begins_session.ensures c.args.body.now ∙ c.if-begins_session.false) in
    refused_goes g.S.Shelf.told g.S.Disk.Disk.told line c.args.replaying.now written c.requires.order shelf
    (λ t stand. refused_coarse g.S.Disk.Disk.told t line n c.args.place first c.index.result.now coarse.0 coarse.1 (sym c.is_coarse.ensures ∙ c.if-is_coarse.true) at comes.named comes.placed stand)

pub index_mut-requires : goal.index_mut-requires
index_mut-requires g c =
    let low = within_so c.requires.comes.number c.args.place c.args.replaying.now.sessions.begun.items c.requires.comes.placed.1 in
    let len = c.args.replaying.now.sessions.begun.ok.0 in
    omega (arith, low, len)

pub note_applied-requires : goal.note_applied-requires
note_applied-requires g c =
    let low = within_so c.requires.comes.number c.args.place c.args.replaying.now.sessions.begun.items c.requires.comes.placed.1 in
    let len = c.args.replaying.now.sessions.begun.ok.0 in
    omega (arith, low, len)

pub returns-clause-goes : goal.returns-clause-goes
returns-clause-goes g c = λ shelf written.
    let line = (line_with c.args.body.now c.args.line.now) in
    let first = c.args.replaying.now.sessions in
    let comes = c.requires.comes in
    let n = comes.number in
    let low : c.args.place < length first.begun.items = within_so n c.args.place first.begun.items comes.placed.1 in
    let x = c.index_mut.result.now in
    let t = c.make_coarse.new.self in
    let last = c.note_applied.new.self in
    let at = at_slice first.begun.items c.args.place x low c.index_mut.ensures.value in
    let seen = at_slice first.begun.items c.args.place c.index.result.now low c.index.ensures in
    let items = ap (λ v. v.items) c.note_applied.ensures.begun ∙ is_put g.S.Disk.Disk.told line n c.args.place comes.named x t c.make_coarse.ensures.with first comes.placed at c.requires.order.rise in
    let own = there_own g.S.Disk.Disk.told line n c.args.place comes.named x t c.make_coarse.ensures.with first comes.placed at c.requires.order.rise in
    let coarse = coarse_line line c.requires.first (c.begins_session.ensures c.args.body.now ∙ c.if-begins_session.false) in
    let plain = subst (λ y. is_coarse y ≡ false) (same_Some c.index.result.now x (sym seen ∙ at)) (sym c.is_coarse.ensures ∙ c.if-is_coarse.false) in
    let now = g.S.Shelf.told.disk shelf in
    let way = comes.first c.requires.first in
    record {
      order = order_item first last c.args.place t c.note_applied.ensures.begun c.requires.order (rise_last g.S.Disk.Disk.told line n c.args.place comes.named x t c.make_coarse.ensures.with first comes.placed at c.requires.order.rise last items);
      does = λ told tells before lends script stand.
          begin_turn g.S.Disk.Disk.told before now script line last (held_of c.args.replaying.now.output) written Applied
          (coarse_does g.S.Disk.Disk.told line n c.args.place comes.named x t c.make_coarse.ensures.with first comes.placed at c.requires.order.rise last items coarse.0 coarse.1 plain c.make_coarse.ensures.stands
          (λ s stands. c.note_applied.ensures.moment t s (set_here first.begun.items c.args.place t low) stands) (c.note_applied.ensures.under_way c.args.body.now)
          before now lends script stand (comes.in_turn script stand));
      fresh = λ told tells before fresh off.
          put_fresh g.S.Disk.Disk.told before now first.begun.items last.begun.items x t (same_id g.S.Disk.Disk.told x t c.make_coarse.ensures.with) own items (λ number. c.make_coarse.ensures.fresh before now number) fresh;
      hands = λ before lends. hands_of g.S.Shelf.told.tells g.S.Disk.Disk.told before now last.begun.items (lends_last g.S.Disk.Disk.told line n c.args.place comes.named x t c.make_coarse.ensures.with first comes.placed at c.requires.order.rise last items before now lends);
      ready = λ e before lends. (
        lends_last g.S.Disk.Disk.told line n c.args.place comes.named x t c.make_coarse.ensures.with first comes.placed at c.requires.order.rise last items before now lends,
        up_last g.S.Disk.Disk.told line n c.args.place comes.named x t c.make_coarse.ensures.with first comes.placed at c.requires.order.rise last items (c.make_coarse.ensures.up (up_there n c.args.place x first.begun.items comes.placed at c.requires.up)) c.requires.up,
      );
      quiet = record { waits = λ e. absurd (cc (sym e ∙ way)); quiet = λ e off. (refl, refl); memory = λ e. cc };
      stops = tt;
      device = λ number role h. absurd h;
      told = coarse_made g.S.Disk.Disk.told first last x t line coarse.0 coarse.1 plain c.make_coarse.ensures.with c.make_coarse.ensures.stands own items (comes.named ∙ ap Some (sym (id_x g.S.Disk.Disk.told line n c.args.place comes.named x t c.make_coarse.ensures.with first comes.placed at c.requires.order.rise))) way;
    }
