-- Parts that have just been opened stand for the session that begins on what was found, or for the one
-- that begins again.
use Rattle.std.proofs.Common.{◌≡◌, ℕ, ◌≤◌, false, List, [], length, drop, Some, None, refl, sym, ap, ◌∙◌, subst, arith}
use Rattle.std.specs.List.{All}
use Rattle.std.proofs.lemmas.List.{drop_all}
use Rattle.circular_buffer.specs.Buffer.{keep_last}
use Rattle.disk_model.specs.Disk.{Meaning}
use Rattle.pump_frame.specs.declared.row.SessionRow.{SessionRow}
use Rattle.stable_buffer.specs.Low.{low_disk}
use Rattle.stable_buffer.specs.High.{high_disk}
use Rattle.stable_buffer.specs.Stands.{LowStands, HighStands}
use Rattle.stable_buffer.specs.Log.{RecvStands}
use Rattle.high_receiver.specs.Receiving.{recv_disk}
use Rattle.pump_core.specs.declared.event.Event.TheVariants.{Crash}
use Rattle.pump_core.specs.History.{first_life, reopened}
use Rattle.pump_core.specs.Events.{Opened, pump_crashed}
use Rattle.pump_core.specs.World as worlds
use Rattle.pump_core.specs.World.{World, last_taken}
use Rattle.pump_core.proofs.Laws.{begins_lawful, stays_lawful}
use Rattle.script_reader.specs.Past.{Past}
use Rattle.script_reader.specs.Openings.{Found, accepted_in, first_past, restarted}
use Rattle.script_reader.proofs.Opened.{row_capacity}
use Rattle.two_worlds.specs.declared.pump.parts.Parts.{Parts}
use Rattle.two_worlds.specs.Openings.{StandForFound}
use Rattle.two_worlds.specs.Standing.{Stands}
use Rattle.two_worlds.specs.Private.Opened.{AreOpened}
use Rattle.world_laws.proofs.Answered.{last_answered}
use Rattle.two_worlds.proofs.Opening.Opened.{OpensIn, stand}
use Rattle.two_worlds.proofs.Opening.Ready.{low_reading, high_reading, recv_reading}

module _ {D : Type 0} (m : Meaning D) (told : m.tells) (c : Parts D) where
  -- ---- a session that begins ----

  module _ (f : Found) (n : AreOpened m c first_life) (start : c.moment ≡ 0) (sent : c.sent.items ≡ []) (returned : c.returned.items ≡ [])
      (s : StandForFound c.row f (m.reading (low_disk c.low_store)) (m.reading (high_disk c.high_store)) (m.reading (recv_disk c.receiver))) where
    -- the world that opens, but for the hands
    abbrev bare : World
    bare = record (worlds.empty c.row.capacity) { accepted = accepted_in f; removed = f.removed; received = f.received; returned = last_taken f.received }

    in_found : OpensIn m c bare (length (last_taken f.received))
    in_found = record {
      lawful = let wide = row_capacity c.row n.row in begins_lawful _ (Opened c.row.capacity f.removed f.received f.later wide.0 wide.1 s.can_open.agree);
      capacity = refl;
      packet = refl;
      taking = refl;
      fits = s.can_open.short;
      answered = last_answered f.received;
      low_is = s.low_is;
      high_is = s.high_is;
      recv_is = s.recv_is;
      sent = sent;
      returned = (omega arith, returned ∙ sym (ap (keep_last 64) (drop_all (length (last_taken f.received)) (last_taken f.received) (omega arith))));
    }

    pub begins : Stands m c (first_past c.row f)
    begins = subst (λ (k : ℕ). Stands m c (record (first_past c.row f) { moment = k })) start (stand m told c first_life bare (length (last_taken f.received)) n in_found)

  -- ---- a session that begins again ----

  -- both processes are opened again: the receiver and the packets are as they were, and the disks read
  -- as they did
  module _ (old : Parts D) (p : Past) (s : Stands m old p) (n : AreOpened m c (reopened p.history)) (same_row : old.row ≡ c.row)
      (same_sent : c.sent.items ≡ old.sent.items) (same_returned : c.returned.items ≡ old.returned.items)
      (same_low : m.reading (low_disk c.low_store) ≡ m.reading (low_disk old.low_store))
      (same_high : m.reading (high_disk c.high_store) ≡ m.reading (high_disk old.high_store))
      (same_recv : m.reading (recv_disk c.receiver) ≡ m.reading (recv_disk old.receiver)) where
    -- the world that opens again, but for the hands
    abbrev again : World
    again = p.world

    in_world : OpensIn m c again p.returned_before
    in_world =
        let w = s.world in
        let rest = s.sound.rest in record {
          lawful = stays_lawful p.world (Crash (Some (false, false)) None) _ s.sound.lawful refl;
          capacity = w.capacity ∙ ap (λ (r : SessionRow). r.capacity) same_row;
          packet = rest.packet;
          taking = rest.taking;
          fits = subst (λ (r : SessionRow). All (λ x. length x ≤ r.message) p.world.accepted) same_row s.sound.fits;
          answered = s.sound.answered;
          low_is = subst (λ (t : SessionRow × List ℕ). LowStands t.0 (length p.world.accepted) p.world.removed (drop p.world.removed p.world.accepted) t.1) (λ i. (same_row i, sym same_low i))
              (low_reading old.row p.world _ rest.storing (s.disks.low_disk.reading told));
          high_is = subst (λ (t : SessionRow × List ℕ). HighStands t.0 p.world.removed t.1) (λ i. (same_row i, sym same_high i))
              (high_reading old.row p.world _ rest.removing (s.disks.high_disk.reading told));
          recv_is = subst (λ (t : SessionRow × List ℕ). RecvStands t.0 p.world.received t.1) (λ i. (same_row i, sym same_recv i))
              (recv_reading old.row p.world _ rest.packet (s.disks.recv_disk.reading told));
          sent = same_sent ∙ w.sent;
          returned = (w.returned.0, same_returned ∙ w.returned.1);
        }

    pub begins_again : Stands m c (restarted p (pump_crashed p.world (Some (false, false))) c.moment)
    begins_again = stand m told c (reopened p.history) again p.returned_before n in_world
