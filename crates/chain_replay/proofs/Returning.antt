-- The disks of a chain are back on the shelf.
use Rattle.std.proofs.Common.{◌≡◌, inl, inr, ℕ, ◌≤◌, true, List, length, Some, ◌&&◌, sym, ap, subst}
use Rattle.std.specs.List.{AllByRecursion}
use Rattle.disk_model.specs.Disk.{Meaning}
use Rattle.disk_model.specs.declared.disk.Disk.{Ghosts}
use Rattle.disk_model.specs.declared.name.Role.TheVariants as roles
use Rattle.pump_chain.specs.Chained.{Chained}
use Rattle.pump_chain.specs.Standing.{IsLinked, TellPrefixes, ChainStandsOrFails}
use Rattle.pump_chain.specs.declared.chain.Chain.{Chain}
use Rattle.pump_chain.proofs.Crashing.{pump_lawful}
use Rattle.pump_chain.proofs.Prefixes.{prefix_then, kept_prefix, kept_most}
use Rattle.pump_core.specs.Events.{with_kept}
use Rattle.pump_core.specs.Lawful.{IsLawful}
use Rattle.pump_core.specs.Replies.{Sent}
use Rattle.pump_core.specs.World.{World}
use Rattle.pump_frame.specs.declared.row.SessionRow.{SessionRow}
use Rattle.recovery.specs.declared.trio.Trio.{Trio}
use Rattle.script_reader.specs.Openings.{Openings}
use Rattle.script_reader.specs.Past.{Past}
use Rattle.script_reader.specs.declared.event.Event.{Event}
use Rattle.script_reader.specs.Readouts.{low_lines}
use Rattle.script_reader.specs.Scripts.{Running, Whole}
use Rattle.script_reader.specs.Sessions.{events_of}
use Rattle.script_replay.specs.Shelves.{Places, reading_in, reading_at, OfDisks, HasFound, AcknowledgedOutlive}
use Rattle.world_laws.specs.Disks.{StandForLeft}
use Rattle.world_laws.specs.Laws.{KeepMessages, AckOutlives}
use Rattle.two_worlds.specs.Pumps.{StandsOrFails}
use Rattle.two_worlds.specs.declared.pump.Pump.{Pump}
use Rattle.two_worlds.proofs.Disks.Crashes.{low_later, prefix_length}
use Rattle.world_laws.proofs.Runs.Outliving.{keeps_messages, run_keeps}
use Rattle.chain_replay.specs.Opened.{LeavesOthers, KeepsChain, AcknowledgedOutliveBoth}
use Rattle.chain_replay.specs.Private.{AreBackAt, AreLeftAt, AreOf, IsSoundTimed, lent}

-- what is read of the disks of one session
pub left_so : {D : Type 0} (m : Meaning D) (after : Places) (id : ℕ) (t : Trio D) (row : SessionRow) (s : Running) → AreBackAt m after id t → row ≡ s.row
    → StandForLeft row s.past.world (m.reading t.low) (m.reading t.high) (m.reading t.recv) → AreLeftAt after id s
left_so m after id t row s back is h =
    rw (ap reading_in (back roles.Low), ap reading_in (back roles.High), ap reading_in (back roles.Recv)) (subst (λ (r : SessionRow). StandForLeft r s.past.world (m.reading t.low) (m.reading t.high) (m.reading t.recv)) is h)

-- .. and of both tells four lists of which each is a prefix of the next, with every removed message at its receiver
tell_prefixes : (one two : SessionRow) (w v : World) (low high recv next_low next_high next_recv : List ℕ) → StandForLeft one w low high recv → StandForLeft two v next_low next_high next_recv → IsLinked w v
    → (f : TellPrefixes one two low high recv next_low next_high next_recv)
    × (f.tell.removed ≤ length f.received) × (f.next_tell.removed ≤ length f.next_received)
tell_prefixes one two w v low high recv next_low next_high next_recv (a, b, c, s) (x, y, z, t) linked =
    let prefix = s.lawful.delivered.prefix in
    let next_prefix = t.lawful.delivered.prefix in (
      record {
        accepted = with_kept a w.storing w.accepted;
        received = with_kept (c && w.taking) w.packet w.received;
        next_accepted = with_kept x v.storing v.accepted;
        next_received = with_kept (z && v.taking) v.packet v.received;
        tell = record {
          recv_is = s.recv_is;
          low_is = low_later one _ _ (with_kept a w.storing w.accepted) low s.lawful.delivered.removed (prefix_length _ prefix.0 _ prefix.1) s.low_is;
          removed = _;
          high_is = s.high_is;
        };
        next_tell = record {
          recv_is = t.recv_is;
          low_is = low_later two _ _ (with_kept x v.storing v.accepted) next_low t.lawful.delivered.removed (prefix_length _ next_prefix.0 _ next_prefix.1) t.low_is;
          removed = _;
          high_is = t.high_is;
        };
        next_taken = next_prefix;
        sent_on = prefix_then _ (with_kept true v.storing v.accepted) _ (kept_most x v.storing v.accepted)
            (prefix_then _ w.received _ linked (kept_prefix (c && w.taking) w.packet w.received));
        taken = prefix;
      },
      s.lawful.delivered.removed,
      t.lawful.delivered.removed,
    )

-- what a pump has come to is lawful
came_lawfully : {D : Type 0} {g : Ghosts D} (m : Meaning D) (p : Pump D g) (q : Past) → StandsOrFails m p q → IsLawful q.world
came_lawfully m p q (inl stands) = pump_lawful m p q stands
came_lawfully m p q (inr (role, faults, failed)) = failed.1.lawful

-- the messages of a world, and those that were acknowledged
abbrev Kept : SessionRow → World → List ℕ → List ℕ → List ℕ → List Sent → Type 0
Kept row w low high recv replies = (kept : KeepMessages row w low high recv) × AllByRecursion (λ (x : Sent). AckOutlives row w.accepted kept.received low high x.reply) replies

acks_outlive : (after : Places) (s : Running) (printed : List Event) → OfDisks after s.row.id (StandForLeft s.row s.past.world) → IsSoundTimed s printed → AcknowledgedOutlive after (Some (Whole s)) printed
acks_outlive after s printed stand ((steps, t, line), sound) =
    let low = reading_at after s.row.id roles.Low in
    let high = reading_at after s.row.id roles.High in
    let recv = reading_at after s.row.id roles.Recv in
    let world : t.world ≡ s.past.world = line.world in
    let kept = subst (λ (w : World). Kept s.row w low high recv (low_lines printed)) world
    (run_keeps s.row steps t s.past.history (low_lines printed) low high recv line.run sound.replies (subst (λ (w : World). StandForLeft s.row w low high recv) (sym world) stand)) in
    (kept.0.received, kept.0.recv_is, kept.1)

module _ {D : Type 0} {g : Ghosts D} (m : Meaning D) (start chain : Chain D g) (before after : Places) (o : Openings) (one two : SessionRow) (first_found : HasFound before one (o one.id)) (second_found : HasFound before two (o two.id))
    (left : (c : Chained) → ChainStandsOrFails m chain c → AreLeftAt after one.id c.first × AreLeftAt after two.id c.second) (others : LeavesOthers before after one.id two.id) where
  keeps_chain : (c : Chained) → ChainStandsOrFails m chain c → AreOf one two c → KeepsChain before after o one two c
  keeps_chain c stands are =
      let l = left c stands in
      let first = subst (λ (i : ℕ). OfDisks after i (StandForLeft c.first.row c.first.past.world)) (sym are.0) l.0 in
      let second = subst (λ (i : ℕ). OfDisks after i (StandForLeft c.second.row c.second.past.world)) (sym are.1) l.1 in
      record {
        first_found = first_found;
        second_found = second_found;
        first_holds = first;
        second_holds = second;
        first_keeps = keeps_messages c.first.row c.first.past.world _ _ _ (came_lawfully m chain.first c.first.past stands.first) first;
        second_keeps = keeps_messages c.second.row c.second.past.world _ _ _ (came_lawfully m chain.second c.second.past stands.second) second;
        prefixes = tell_prefixes c.first.row c.second.row c.first.past.world c.second.past.world _ _ _ _ _ _ first second stands.linked;
        others = others;
      }

  pub keeps_so : (p : Openings) (row other : SessionRow) (c : Chained) → (lent m start chain o one two).keeps p row other c → KeepsChain before after p row other c
  keeps_so p row other c (is, is_one, is_two, stands, are) =
      subst (λ q. KeepsChain before after q row other c) (sym is)
      (subst (λ r. KeepsChain before after o r other c) (sym is_one)
      (subst (λ r. KeepsChain before after o one r c) (sym is_two) (keeps_chain c stands are)))

  pub outlives_so : (row other : SessionRow) (c : Chained) (printed : List Event) → (lent m start chain o one two).outlives row other c printed → AcknowledgedOutliveBoth after c printed
  outlives_so row other c printed (is_one, is_two, stands, are, sound) =
      let l = left c stands in (
        acks_outlive after c.first (events_of c.first.row.id printed) (subst (λ (i : ℕ). OfDisks after i (StandForLeft c.first.row c.first.past.world)) (sym are.0) l.0) sound.0,
        acks_outlive after c.second (events_of c.second.row.id printed) (subst (λ (i : ℕ). OfDisks after i (StandForLeft c.second.row c.second.past.world)) (sym are.1) l.1) sound.1,
      )
