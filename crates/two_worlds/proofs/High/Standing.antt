-- After a high look the parts stand for what it led to.
use Rattle.std.proofs.Common.{◌≡◌, ℕ, ◌^◌, ◌≤◌, Bool, false, List, ◌∷◌, length, map, Option, Some, None, refl, sym, ap, ◌∙◌, subst, arith}
use Rattle.std.specs.Prelude.{if◌then◌else◌}
use Rattle.std.specs.List.{All}
use Rattle.circular_buffer.specs.Buffer.{Buffer}
use Rattle.disk_model.specs.Disk.{Meaning}
use Rattle.pump_frame.specs.declared.payload.Payload.{Payload}
use Rattle.pump_frame.specs.declared.frame.Item.{Item}
use Rattle.stable_buffer.specs.Low.{low_disk}
use Rattle.stable_buffer.specs.High.{IsHighReady, high_disk, high_count}
use Rattle.stable_buffer.specs.declared.high.HighStore.{HighStore}
use Rattle.high_receiver.specs.Receiving.{recv_disk}
use Rattle.pump_core.specs.World.{World}
use Rattle.pump_core.specs.Lawful.{IsLawful}
use Rattle.passage.specs.declared.plain.PlainEnds.{PlainEnds}
use Rattle.passage.specs.Plain.{shape_of, held_in}
use Rattle.high_process.specs.States as high
use Rattle.high_process.specs.Past as high_past
use Rattle.high_process.specs.Looks.{StandsFor as HighStandsFor}
use Rattle.high_process.specs.declared.process.HighProcess.{HighProcess}
use Rattle.script_reader.specs.declared.event.Event.{Event}
use Rattle.script_reader.specs.Past.{Past}
use Rattle.script_reader.specs.Highs.{IsSending}
use Rattle.world_laws.specs.Answered.{HasAnswered}
use Rattle.two_worlds.specs.Standing.{Kept, HoldsWorld, Stands, kept_of, number_of}
use Rattle.world_laws.specs.Timelines.{IsAtRest}
use Rattle.world_laws.specs.Disks.{DisksFit}
use Rattle.two_worlds.specs.Private.HighLooks.{sent_line, packets_after}
use Rattle.two_worlds.specs.declared.pump.parts.Parts.{Parts}
use Rattle.two_worlds.proofs.High.Fetching.{FetchedBy}
use Rattle.two_worlds.proofs.High.Sendings.{Second, past_of, second}

packets_capacity : (o : Option ℕ) (hand : Option Item) (packets : Buffer Item) → (packets_after o hand packets).capacity ≡ packets.capacity
packets_capacity None hand packets = refl
packets_capacity (Some n) None packets = refl
packets_capacity (Some n) (Some x) packets = refl

module _ {D : Type 0} (m : Meaning D) (c : Parts D) (moment : ℕ) (q : HighProcess) (store : HighStore D) (ends : PlainEnds) (sent : Option ℕ) where
  -- the parts after the look
  abbrev pub looked_parts : Parts D
  looked_parts = record c { high = q; high_store = store; ends = ends; sent = packets_after sent (high.hand_of q) c.sent; moment = moment }

module _ {D : Type 0} (m : Meaning D) (c : Parts D) (p : Past) (stands : Stands m c p) (moment : ℕ) (order : c.moment ≤ moment)
    (q : HighProcess) (store : HighStore D) (ends : PlainEnds) (attaches : Bool) (sent : Option ℕ)
    (ready : IsHighReady m store) (count : high_count store ≡ high.removed_of q) (up : high.is_down q ≡ false) (between : high.IsBetweenLooks q)
    (row : high.row_of q ≡ high.row_of c.high) (shape : shape_of ends ≡ shape_of c.ends)
    (removed : ℕ) (hand : Option Item) (w : World) (times : List ℕ)
    (kept : HoldsWorld (record (kept_of p.returned_before c) { removed = removed; high_hand = hand }) w) (rest : IsAtRest w) (lawful : IsLawful w)
    (fits : All (λ (x : Payload). length x ≤ c.row.message) w.accepted) (few_sends : length p.sends ≤ length w.sent) (answered : HasAnswered w)
    (disks : DisksFit m c.row (low_disk c.low_store) (high_disk store) (recv_disk c.receiver) w) where
  -- what the first part left
  abbrev mid : Past
  mid = record p { world = w; times = times }

  abbrev k : Kept
  k = record (kept_of p.returned_before c) { removed = removed; high_hand = hand }

  abbrev past : high_past.ProcessPast
  past = past_of k mid times (high.last_of c.high)

  abbrev parts : Parts D
  parts = looked_parts m c moment q store ends sent

  -- what the whole look leads to
  pub record Ended : Type 0 where
    pub end : Past
    pub printed : List Event
    pub is_sending : IsSending c.row attaches mid moment end printed
    pub printed_is : printed ≡ sent_line c.row.id moment sent
    pub removed_is : end.world.removed ≡ w.removed
    pub stand : Stands m parts end

  module _ (got : Option Item) (b : Bool) (b_is : b ≡ high_past.is_sent c.row.resend attaches (high_past.taken_up past got) moment)
      (fetched : FetchedBy ends q stands.ends.low times (held_in c.ends) (high_past.wants past) got)
      (now : Option Item) (s : Second c.row attaches mid moment k c.sent now (held_in ends) b)
      (stood : HighStandsFor q (record past { hand = now; sends = (if b then record { number = removed; moment = moment } ∷ past.sends else past.sends); moment = moment }))
      (sent_is : sent ≡ (if b then Some removed else None)) where
    abbrev kept_by : Option Item → ℕ → Option ℕ → Kept
    kept_by h r o = record (kept_of p.returned_before c) { high_hand = h; removed = r; held = held_in ends; sent = (packets_after o h c.sent).items }

    kept_same : kept_by now removed (if b then Some removed else None) ≡ kept_of p.returned_before parts
    kept_same = λ i. kept_by (sym stood.holds.hand i) (sym stood.holds.removed i) (sym sent_is i)

    abbrev end : Past
    end = record mid { world = record w { high_hand = number_of now; held = map (λ (x : Item). x.number) (held_in ends); sent = s.end.world.sent }; sends = s.end.sends; moment = moment }

    same : s.end ≡ end
    same = s.same

    concludes : Ended
    concludes = record {
      end = s.end;
      printed = s.printed;
      is_sending = s.is_sending;
      printed_is = s.printed_is ∙ ap (sent_line c.row.id moment) (sym sent_is);
      removed_is = ap (λ (e : Past). e.world.removed) same;
      stand = subst (λ (e : Past). Stands m parts e) (sym same) (record {
        row = stands.row;
        arrivals = record {
          waits = stands.arrivals.waits;
          broken = stands.arrivals.broken;
          reading = stands.arrivals.reading;
          few = stands.arrivals.few;
        };
        world = subst (λ (t : Kept × World). HoldsWorld t.0 t.1) (λ i. (kept_same i, (same i).world)) s.holds;
        sound = record {
          rest = subst (λ (e : Past). IsAtRest e.world) same s.rest;
          lawful = subst (λ (e : Past). IsLawful e.world) same s.lawful;
          fits = fits;
          sends = subst (λ (e : Past). length e.sends ≤ length e.world.sent) same (s.few few_sends);
          answered = answered;
        };
        moment = refl;
        low_ready = record {
          history = stands.low_ready.history;
          store = stands.low_ready.store;
          up = stands.low_ready.up;
          between = stands.low_ready.between;
          row = stands.low_ready.row;
          last = omega (arith, stands.low_ready.last, order);
        };
        high_ready = record {
          past = record {
            asking = stood.asking;
            holds = record {
              removed = refl;
              hand = refl;
              count = stood.holds.count;
              sends = subst (λ l. Rattle.high_process.specs.Looks.HoldsSends (high.removed_of q) (high.state_of q).sent l) (sym s.sends) stood.holds.sends;
            };
            last = refl;
          };
          store = ready;
          count = count;
          up = up;
          between = between;
          row = row ∙ stands.high_ready.row;
          last = omega (arith, stood.last);
        };
        recv_ready = record { ready = stands.recv_ready.ready; row = stands.recv_ready.row; size = stands.recv_ready.size };
        ends = record {
          low = stands.ends.low;
          high = fetched.high;
          stand = fetched.stand;
          shape = shape ∙ stands.ends.shape;
          times = fetched.times_are;
          low_fits = stands.ends.low_fits;
          high_fits = fetched.fits;
        };
        packets = record { sent = packets_capacity sent (high.hand_of q) c.sent ∙ stands.packets.sent; returned = stands.packets.returned; taken = stands.packets.taken };
        disks = record { low_disk = disks.low_disk; high_disk = disks.high_disk; recv_disk = disks.recv_disk };
      });
    }

  few : k.accepted ≤ 2 ^ 48
  few = c.low.in_range

  pub ended : (got : Option Item)
      → FetchedBy ends q stands.ends.low times (held_in c.ends) (high_past.wants past) got
      → HighStandsFor q (high_past.finished c.row.resend attaches (high_past.taken_up past got) moment)
      → sent ≡ high_past.sent_in c.row.resend attaches (high_past.taken_up past got) moment
      → Ended
  ended None fetched stood sent_is =
      concludes None (high_past.is_sent c.row.resend attaches (high_past.taken_up past None) moment) refl fetched hand
      (second c.row attaches mid moment k c.sent times (high.last_of c.high) kept rest lawful stands.packets.sent few None (held_in ends) fetched.fetched) stood sent_is
  ended (Some x) fetched stood sent_is =
      concludes (Some x) (high_past.is_sent c.row.resend attaches (high_past.taken_up past (Some x)) moment) refl fetched (Some (record { number = removed; payload = x.payload }))
      (second c.row attaches mid moment k c.sent times (high.last_of c.high) kept rest lawful stands.packets.sent few (Some x) (held_in ends) fetched.fetched) stood sent_is
