use Rattle.std.proofs.Common.{◌≡◌, ℕ, ◌≤◌, length, false, None, Some, refl, sym, ap, ◌∙◌, subst, arith, max}
use Rattle.std.specs.Prelude.{◌||◌, not}
use Rattle.std.proofs.lemmas.Option.{same_Some}
use Rattle.script_reader.specs.Heads.{line_with}
use Rattle.script_reader.specs.Sessions.{session_in, stands_first, moment_of}
use Rattle.script_replay.specs.Runners.{IsOfBeginning}
use Rattle.script_replay.specs.Sessions.{id_of, found_at, IsPlaced}
use Rattle.script_replay.specs.Outputs.{held_of}
use Rattle.script_replay.specs.declared.outcome.LineOutcome.TheVariants.{Applied}
use Rattle.script_replay.proofs.Fresh.{begun_fresh, after_unbegun}
use Rattle.script_replay.proofs.Listed.{insert_here}
use Rattle.script_replay.proofs.Numbered.{place_least}
use Rattle.script_replay.proofs.Told.{begun_made, unbegun_made}
use Rattle.script_replay.proofs.Turns.{hands_of, hands_none, not_begun, lends_begun, up_begun, rise_begun, begun_does, none_of, put_is, begin_turn, fails_from}
use Rattle.script_replay.proofs.applying.begin_session.Goals as goal

pub insert-requires-clause-place : goal.insert-requires-clause-place
insert-requires-clause-place g c =
    let comes = c.requires.comes in
    let least = place_least comes.number c.args.replaying.now.sessions.begun.items in
    let at = comes.placed.0 in
    let len = c.args.replaying.now.sessions.begun.ok.0 in
    omega (arith, least, at, len)

pub insert-requires-clause-room : goal.insert-requires-clause-room
insert-requires-clause-room g c =
    let fewer = (c.requires.comes.begins c.in-Ok.ensures.begun.first).1 in
    let room = c.requires.order.room in
    let len = c.args.replaying.now.sessions.begun.ok.0 in
    omega (arith, fewer, room, len)

pub returns-in-Ok : goal.returns-in-Ok
returns-in-Ok g c =
    let s = c.in-Ok.session in
    let named = c.in-Ok.ensures.begun.id in
    let comes = c.requires.comes in
    let same : comes.number ≡ id_of s = same_Some comes.number (id_of s) (sym comes.named ∙ named) in
    let placed = subst (λ (n : ℕ). IsPlaced n c.args.place c.args.replaying.now.sessions.begun.items false) same comes.placed in
    let returned = c.in-Ok.ensures.others (id_of s) named in
    let items = ap (λ v. v.items) c.note_applied.ensures.begun ∙ c.insert.ensures.items in
    let first = comes.begins c.in-Ok.ensures.begun.first in
    let least = place_least comes.number c.args.replaying.now.sessions.begun.items in
    let at = comes.placed.0 in
    let len = c.args.replaying.now.sessions.begun.ok.0 in
    let long = c.note_applied.new.self.begun.ok.0 in
    let more = ap (λ v. v.len) c.note_applied.ensures.begun ∙ c.insert.ensures.len in
    let fewer = first.1 in
    let within : c.args.place ≤ length c.args.replaying.now.sessions.begun.items = omega (arith, least, at) in
    record {
      goes = λ written. record {
        order = record {
          rise = rise_begun g.S.Disk.Disk.told (line_with c.args.body.now c.args.line.now) (id_of s) c.args.place named c.args.replaying.now.sessions placed c.requires.order.rise (g.S.Shelf.told.disk c.args.shelf.now) (g.S.Shelf.told.disk c.args.shelf.now) (g.S.Shelf.told.disk c.begin.new.shelf) returned s c.note_applied.new.self named items c.in-Ok.ensures.begun.lends;
          few = omega (arith, long, more, fewer, len);
          room = let a = c.requires.order.room in let b = c.insert.ensures.room in subst (λ v. 16 ≤ v.cap) (sym c.note_applied.ensures.begun) (omega (arith, a, b));
        };
        does = λ told tells before lends t stand.
            begin_turn g.S.Disk.Disk.told before (g.S.Shelf.told.disk c.begin.new.shelf) t (line_with c.args.body.now c.args.line.now) c.note_applied.new.self (held_of c.args.replaying.now.output) written Applied
            (begun_does g.S.Disk.Disk.told (line_with c.args.body.now c.args.line.now) (id_of s) c.args.place named c.args.replaying.now.sessions placed c.requires.order.rise before (g.S.Shelf.told.disk c.args.shelf.now) (g.S.Shelf.told.disk c.begin.new.shelf) returned s c.note_applied.new.self named items c.in-Ok.ensures.begun.lends lends t stand (comes.in_turn t stand) (c.in-Ok.ensures.begins told tells)
            (λ r stands. c.note_applied.ensures.moment s r (rw c.insert.ensures.items (insert_here c.args.replaying.now.sessions.begun.items c.args.place s within)) stands ∙ ap (λ m. max m (moment_of r)) c.insert.ensures.moment)
            (c.note_applied.ensures.under_way c.args.body.now ∙ ap (λ b. b || not (stands_first (line_with c.args.body.now c.args.line.now))) c.insert.ensures.under_way));
        fresh = λ told tells before fresh way.
            begun_fresh g.S.Disk.Disk.told before (g.S.Shelf.told.disk c.args.shelf.now) (g.S.Shelf.told.disk c.begin.new.shelf) (id_of s) c.args.replaying.now.sessions.begun.items
            (none_of (id_of s) c.args.place c.args.replaying.now.sessions.begun.items placed c.requires.order.rise) returned fresh s refl c.note_applied.new.self.begun.items
            (put_is g.S.Disk.Disk.told (line_with c.args.body.now c.args.line.now) (id_of s) c.args.place named c.args.replaying.now.sessions placed c.requires.order.rise (g.S.Shelf.told.disk c.args.shelf.now) (g.S.Shelf.told.disk c.args.shelf.now) (g.S.Shelf.told.disk c.begin.new.shelf) returned s c.note_applied.new.self named items c.in-Ok.ensures.begun.lends)
            (c.in-Ok.ensures.fresh told tells (id_of s) named);
        hands = λ before lends. hands_of g.S.Shelf.told.tells g.S.Disk.Disk.told before (g.S.Shelf.told.disk c.begin.new.shelf) c.note_applied.new.self.begun.items
            (lends_begun g.S.Disk.Disk.told (line_with c.args.body.now c.args.line.now) (id_of s) c.args.place named c.args.replaying.now.sessions placed c.requires.order.rise before (g.S.Shelf.told.disk c.args.shelf.now) (g.S.Shelf.told.disk c.begin.new.shelf) returned s c.note_applied.new.self named items c.in-Ok.ensures.begun.lends lends);
        ready = λ e before lends. (
          lends_begun g.S.Disk.Disk.told (line_with c.args.body.now c.args.line.now) (id_of s) c.args.place named c.args.replaying.now.sessions placed c.requires.order.rise before (g.S.Shelf.told.disk c.args.shelf.now) (g.S.Shelf.told.disk c.begin.new.shelf) returned s c.note_applied.new.self named items c.in-Ok.ensures.begun.lends lends,
          up_begun g.S.Disk.Disk.told (line_with c.args.body.now c.args.line.now) (id_of s) c.args.place named c.args.replaying.now.sessions placed c.requires.order.rise before (g.S.Shelf.told.disk c.args.shelf.now) (g.S.Shelf.told.disk c.begin.new.shelf) returned s c.note_applied.new.self named items c.in-Ok.ensures.begun.lends c.in-Ok.ensures.begun.up c.requires.up,
        );
        quiet = record { waits = λ e. let f = first.0 in cc (sym e ∙ f); quiet = λ e off. (refl, refl); memory = λ e. cc };
        stops = tt;
        device = λ number role h. absurd h;
        told =
            begun_made g.S.Disk.Disk.told c.args.replaying.now.sessions c.note_applied.new.self s (line_with c.args.body.now c.args.line.now)
            (put_is g.S.Disk.Disk.told (line_with c.args.body.now c.args.line.now) (id_of s) c.args.place named c.args.replaying.now.sessions placed c.requires.order.rise (g.S.Shelf.told.disk c.args.shelf.now) (g.S.Shelf.told.disk c.args.shelf.now) (g.S.Shelf.told.disk c.begin.new.shelf) returned s c.note_applied.new.self named items c.in-Ok.ensures.begun.lends)
            named (λ still. first.0) (none_of (id_of s) c.args.place c.args.replaying.now.sessions.begun.items placed c.requires.order.rise) c.in-Ok.ensures.made;
      };
      written = λ e. cc;
      disks_later = c.begin.ensures.later;
    }

pub returns-in-Err : goal.returns-in-Err
returns-in-Err g c =
    let comes = c.requires.comes in
    let n = comes.number in
    let named = comes.named in
    let placed = comes.placed in
    let returned = c.in-Err.ensures.others n named in
    let absent : (number : ℕ) → session_in (line_with c.args.body.now c.args.line.now) ≡ Some number → found_at number c.args.replaying.now.sessions.begun.items ≡ None = λ number is.
    let same : n ≡ number = same_Some n number (sym named ∙ is) in
    subst (λ (k : ℕ). found_at k c.args.replaying.now.sessions.begun.items ≡ None) same (none_of n c.args.place c.args.replaying.now.sessions.begun.items placed c.requires.order.rise) in
    record {
      goes = λ written. record {
        order = c.requires.order;
        does = λ told tells before lends t stand.
            begin_turn g.S.Disk.Disk.told before (g.S.Shelf.told.disk c.begin.new.shelf) t (line_with c.args.body.now c.args.line.now) c.args.replaying.now.sessions (held_of c.args.replaying.now.output) written c.in-Err.outcome
            (not_begun g.S.Disk.Disk.told (line_with c.args.body.now c.args.line.now) n c.args.place named c.args.replaying.now.sessions placed c.requires.order.rise before (g.S.Shelf.told.disk c.args.shelf.now) (g.S.Shelf.told.disk c.begin.new.shelf) returned lends t stand (comes.in_turn t stand) c.in-Err.outcome (c.in-Err.ensures.begins told tells) c.in-Err.ensures.unbegun.refused);
        fresh = λ told tells before fresh.
            after_unbegun g.S.Disk.Disk.told before (g.S.Shelf.told.disk c.args.shelf.now) (g.S.Shelf.told.disk c.begin.new.shelf) n c.args.replaying.now.sessions.begun.items
            (none_of n c.args.place c.args.replaying.now.sessions.begun.items placed c.requires.order.rise) returned fresh c.args.replaying.now.sessions refl c.in-Err.outcome (λ e. absurd (subst IsOfBeginning e c.in-Err.ensures.unbegun.unprinted))
            (c.in-Err.ensures.fresh told tells n named);
        hands = λ before lends. hands_none g.S.Disk.Disk.told (line_with c.args.body.now c.args.line.now) n c.args.place named c.args.replaying.now.sessions placed c.requires.order.rise before (g.S.Shelf.told.disk c.args.shelf.now) (g.S.Shelf.told.disk c.begin.new.shelf) returned lends g.S.Shelf.told.tells c.in-Err.ensures.unbegun.back;
        ready = λ e. absurd (subst IsOfBeginning e c.in-Err.ensures.unbegun.unprinted);
        quiet = record { waits = λ e. e; quiet = λ e off. (refl, refl); memory = λ e. ((comes.begins (c.in-Err.ensures.unbegun.memory e)).0, refl, refl) };
        stops = c.in-Err.ensures.unbegun.stops;
        device = λ number role h before lends.
            let fails = c.in-Err.ensures.unbegun.device number role h in
            let none = absent number fails.0 in
            fails_from g.S.Shelf.told g.S.Disk.Disk.told before c.args.shelf.now c.begin.new.shelf c.args.replaying.now.sessions.begun.items c.args.replaying.now.sessions.begun.items number role none none lends fails.1;
        told = λ lines all. unbegun_made g.S.Disk.Disk.told c.args.replaying.now.sessions lines (line_with c.args.body.now c.args.line.now) c.in-Err.outcome (λ e. absurd (subst IsOfBeginning e c.in-Err.ensures.unbegun.unprinted))
            (λ number role h. absent number (c.in-Err.ensures.unbegun.device number role h).0);
      };
      written = λ e. absurd (subst IsOfBeginning e c.in-Err.ensures.unbegun.unprinted);
      disks_later = c.begin.ensures.later;
    }
