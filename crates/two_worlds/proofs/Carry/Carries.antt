-- What a DATA that comes to the receiver leads to, by what the receiver answered.
use Rattle.std.proofs.Common.{◌≡◌, ◌⊎◌, inl, inr, ⊎_elim, ℕ, ◌+◌, ◌-◌, ◌≤◌, ◌<◌, Bool, true, false, not, ◌||◌, cond, List, [], ◌∷◌, ◌++◌, length, None, Some, Result, Ok, Err, refl, sym, ap, ◌∙◌, subst, arith, nat_lt}
use Rattle.std.specs.Prelude.{slice_get, All}
use Rattle.std.proofs.lemmas.Bool.Decides.{nat_tests}
use Rattle.circular_buffer.specs.Buffer.{Buffer, buffer, keep_last}
use Rattle.disk_model.specs.Disk.{Meaning}
use Rattle.disk_model.specs.declared.name.Role.TheVariants as roles
use Rattle.disk_model.proofs.Run.{each_settled, each_after}
use Rattle.pump_frame.specs.declared.row.SessionRow.{SessionRow}
use Rattle.pump_frame.specs.declared.frame.Item.{Item}
use Rattle.pump_frame.specs.declared.payload.Payload.{Payload}
use Rattle.pump_core.specs.declared.event.Event.TheVariants.{CarryData, TakeBegin, TakeEnd}
use Rattle.pump_core.specs.World.{World}
use Rattle.pump_core.specs.Lawful.{IsLawful}
use Rattle.pump_core.specs.Events.{Happens}
use Rattle.stable_buffer.specs.Log.{RecvStands}
use Rattle.stable_buffer.specs.Low.{low_disk}
use Rattle.stable_buffer.specs.High.{high_disk}
use Rattle.high_receiver.specs.Steps.{MayTake}
use Rattle.high_receiver.specs.Receiving.{IsRecvReady, Stores, recv_count, recv_end, recv_row, recv_size, recv_disk, recv_is_open}
use Rattle.high_receiver.specs.declared.receiver.Receiver.{Receiver}
use Rattle.high_receiver.specs.declared.values.Taken.{Taken}
use Rattle.high_receiver.specs.declared.values.Taken.TheVariants as answers
use Rattle.high_receiver.specs.declared.values.TakeFault.{TakeFault}
use Rattle.high_receiver.specs.declared.values.TakeFault.TheVariants as faults
use Rattle.script_reader.specs.declared.event.Event.{Event}
use Rattle.script_reader.specs.declared.event.Event.TheVariants.{Took, Again}
use Rattle.script_reader.specs.Past.{Past}
use Rattle.pump_core.specs.HighLooks.{Perhaps}
use Rattle.script_reader.specs.Highs.{place, overfills, receiver_size, printed_carry, IsCarried, IsOverfull}
use Rattle.script_reader.specs.Breaks.{IsUntaken}
use Rattle.two_worlds.specs.declared.pump.parts.Parts.{Parts}
use Rattle.two_worlds.specs.Private.Carrying.{printed_taken}
use Rattle.world_laws.specs.Disks.{DisksFit, HighFits, RecvFits}
use Rattle.two_worlds.specs.Doing.{LeavesOn, LowFitsAfter, PartsFail, PartsLeaveFit}
use Rattle.two_worlds.specs.Standing.{kept_of, HoldsWorld, Stands, is_down, disk_at}
use Rattle.world_laws.specs.Timelines.{IsAtRest}
use Rattle.two_worlds.proofs.Disks.Images.{low_alone, high_alone, all_alone}
use Rattle.two_worlds.proofs.Disks.Leaving.{leaves_by_step}
use Rattle.two_worlds.proofs.Disks.LeavesWorld.{fits_row}
use Rattle.two_worlds.proofs.Carry.Answered.{AnsweredWith, in_store, full, took as took_by, repeated}
use Rattle.two_worlds.proofs.Carry.Carried as led
use Rattle.two_worlds.proofs.Opening.Ready.{recv_reading}
use Rattle.world_laws.specs.Answered.{HasAnswered}
use Rattle.world_laws.proofs.Answered.{twice, event_goes, perhaps_goes}

-- the numbers that are kept, and one more
abbrev pub Returns : Buffer ℕ → ℕ → Buffer ℕ → Type 0
Returns old n new = (new.items ≡ keep_last 64 (old.items ++ n ∷ [])) × (new.capacity ≡ old.capacity)

pub returned : (old new : Buffer ℕ) (n : ℕ) → old.capacity ≡ 64 → new ≡ buffer (keep_last old.capacity (old.items ++ n ∷ [])) old.capacity → Returns old n new
returned old new n capacity is =
    (ap (λ (b : Buffer ℕ). b.items) is ∙ ap (λ (k : ℕ). keep_last k (old.items ++ n ∷ [])) capacity, ap (λ (b : Buffer ℕ). b.capacity) is)

-- the carry led to this
abbrev pub Leads : {D : Type 0} → Meaning D → Parts D → Past → ℕ → List Event → List Event → Parts D → Type 0
Leads m c p back out now d = (q : Past) × (printed : List Event) × IsCarried c.row p back q printed × (now ≡ out ++ printed) × Stands m d q × PartsLeaveFit m c d p q

module _ {D : Type 0} (m : Meaning D) (c : Parts D) (p : Past) (back : ℕ) (packet : Item) (stands : Stands m c p) (less : back < length c.sent.items)
    (at : cond (nat_lt back (length c.sent.items)) (slice_get c.sent.items (length c.sent.items - back - 1)) None ≡ Some packet) (new : Receiver D) where
  abbrev E : ℕ
  E = recv_end c.receiver

  -- the receiver has answered what it took
  answered_then : (v u : World) → Happens p.world (CarryData (place p.world.sent back)) v → Perhaps v TakeBegin (TakeEnd ∷ []) u → HasAnswered u
  answered_then v u carries takes =
      (twice p.world v u (event_goes p.world (CarryData (place p.world.sent back)) v carries) (perhaps_goes v TakeBegin (TakeEnd ∷ []) u takes)).answered stands.sound.answered

  -- the parts stand for the world that this leads to
  stands_on : (returned : Buffer ℕ) (u : World) → returned.capacity ≡ c.returned.capacity
      → HoldsWorld (record (kept_of p.returned_before c) { returned = returned.items; received = recv_count new; end = recv_end new }) u
      → IsAtRest u → IsLawful u → HasAnswered u → u.accepted ≡ p.world.accepted → u.sent ≡ p.world.sent
      → IsRecvReady m new → recv_row new ≡ c.row → recv_size new ≡ receiver_size
      → DisksFit m c.row (low_disk c.low_store) (high_disk c.high_store) (recv_disk new) u
      → Stands m (record c { receiver = new; returned = returned }) (record p { world = u })
  stands_on returned u capacity holds rest lawful answered accepted sent ready row size disks = record {
    row = stands.row;
    arrivals = record {
      waits = stands.arrivals.waits;
      broken = stands.arrivals.broken;
      reading = stands.arrivals.reading;
      few = stands.arrivals.few;
    };
    world = holds;
    sound = record {
      rest = rest;
      lawful = lawful;
      fits = subst (All (λ (x : Payload). length x ≤ c.row.message)) (sym accepted) stands.sound.fits;
      sends = subst (λ (l : List Item). length p.sends ≤ length l) (sym sent) stands.sound.sends;
      answered = answered;
    };
    moment = stands.moment;
    low_ready = record { history = stands.low_ready.history; store = stands.low_ready.store; up = stands.low_ready.up; between = stands.low_ready.between; row = stands.low_ready.row; last = stands.low_ready.last };
    high_ready = record { past = stands.high_ready.past; store = stands.high_ready.store; count = stands.high_ready.count; up = stands.high_ready.up; between = stands.high_ready.between; row = stands.high_ready.row; last = stands.high_ready.last };
    recv_ready = record { ready = ready; row = row; size = size };
    ends = record { low = stands.ends.low; high = stands.ends.high; stand = stands.ends.stand; shape = stands.ends.shape; times = stands.ends.times; low_fits = stands.ends.low_fits; high_fits = stands.ends.high_fits };
    packets = record { sent = stands.packets.sent; returned = capacity ∙ stands.packets.returned; taken = stands.packets.taken };
    disks = disks;
  }

  leads : (returned : Buffer ℕ) (v u : World) (taken : Taken) (out : List Event)
      → overfills p.world packet ≡ false → Happens p.world (CarryData (place p.world.sent back)) v → Perhaps v TakeBegin (TakeEnd ∷ []) u
      → printed_taken c.row.id packet.number taken ≡ printed_carry c.row.id p.world packet
      → Stands m (record c { receiver = new; returned = returned }) (record p { world = u })
      → PartsLeaveFit m c (record c { receiver = new; returned = returned }) p (record p { world = u })
      → Leads m c p back out (out ++ printed_taken c.row.id packet.number taken ∷ []) (record c { receiver = new; returned = returned })
  leads returned v u taken out fits carries takes prints standing leave = (
    record p { world = u },
    printed_carry c.row.id p.world packet ∷ [],
    record { packet = packet; at = led.at_world m c p back packet stands less at; fits = fits; carried = v; carries = carries; takes = takes; rest = refl; printed_is = refl },
    ap (λ (e : Event). out ++ e ∷ []) prints,
    standing,
    leave,
  )

  prints_by : (b : Bool) (taken : Taken) → nat_lt packet.number (length p.world.received) ≡ b
      → printed_taken c.row.id packet.number taken ≡ cond b (Again c.row.id packet.number) (Took c.row.id packet.number)
      → printed_taken c.row.id packet.number taken ≡ printed_carry c.row.id p.world packet
  prints_by b taken test e = e ∙ sym (ap (λ (b : Bool). cond b (Again c.row.id packet.number) (Took c.row.id packet.number)) test)

  -- a message that the receiver had
  leads_again : (returned : Buffer ℕ) (out : List Event) → Returns c.returned packet.number returned
      → AnsweredWith m packet.payload packet.number (recv_count c.receiver) E (recv_size c.receiver) c.receiver new (Ok answers.Repeat)
      → Leads m c p back out (out ++ printed_taken c.row.id packet.number answers.Repeat ∷ []) (record c { receiver = new; returned = returned })
  leads_again returned out is answered =
      let a = repeated m packet.payload packet.number (recv_count c.receiver) E (recv_size c.receiver) c.receiver new answered in
      let u = led.again m c p back packet stands less at in
      let test : nat_lt packet.number (length p.world.received) ≡ true = (let lt = a.0 in let r = stands.world.received in grind (arith, nat_tests)) in
      let disks : DisksFit m c.row (low_disk c.low_store) (high_disk c.high_store) (recv_disk c.receiver) u =
      record { low_disk = stands.disks.low_disk; high_disk = stands.disks.high_disk; recv_disk = stands.disks.recv_disk } in
      leads returned u u answers.Repeat out (led.no_overfill_again m c p back packet stands less at a.0) (led.carries_again m c p back packet stands less at a.0)
      (led.takes_nothing m c p back packet stands less at) (prints_by true answers.Repeat test refl)
      (stands_on returned u is.1 (subst (λ (r : Receiver D). HoldsWorld (record (kept_of p.returned_before c) { returned = returned.items; received = recv_count r; end = recv_end r }) u) (sym a.1) (led.holds_again m c p back packet stands less at returned.items is.0))
      (led.rest_again m c p back packet stands less at) (led.lawful_again m c p back packet stands less at a.0)
      (answered_then u u (led.carries_again m c p back packet stands less at a.0) (led.takes_nothing m c p back packet stands less at)) refl refl
      (subst (λ (r : Receiver D). IsRecvReady m r) (sym a.1) stands.recv_ready.ready) (ap (λ (r : Receiver D). recv_row r) a.1 ∙ stands.recv_ready.row) (ap (λ (r : Receiver D). recv_size r) a.1 ∙ stands.recv_ready.size)
      (subst (λ (r : Receiver D). DisksFit m c.row (low_disk c.low_store) (high_disk c.high_store) (recv_disk r) u) (sym a.1) disks))
      (all_alone m c p stands (record c { receiver = new; returned = returned }) (record p { world = u }) refl refl (ap (λ (r : Receiver D). recv_disk r) a.1))

  abbrev row_is : recv_row c.receiver ≡ c.row
  row_is = stands.recv_ready.row

  was : (disk : List ℕ) → RecvFits c.row p.world disk → RecvStands (recv_row c.receiver) p.world.received disk
  was disk fit = subst (λ (r : SessionRow). RecvStands r p.world.received disk) (sym row_is) (recv_reading c.row p.world disk stands.sound.rest.packet fit)

  -- a crash at any moment of a taking leaves the messages from before, or this one too
  taking_fits : (d : Parts D) (q : Past) (result : Result Taken TakeFault) → Stores m packet.payload c.receiver new result
      → disk_at roles.Low d ≡ disk_at roles.Low c → disk_at roles.High d ≡ disk_at roles.High c → disk_at roles.Recv d ≡ recv_disk new
      → ((x : List ℕ) → RecvStands c.row (p.world.received ++ packet.payload ∷ []) x → RecvFits c.row q.world x) → PartsLeaveFit m c d p q
  taking_fits d q result s low high recv more = record {
    low = low_alone m c p stands (LowFitsAfter c.row p q) (disk_at roles.Low d) low;
    high = high_alone m c p stands (HighFits c.row q.world) (disk_at roles.High d) high;
    recv = subst (λ (e : D). LeavesOn m (recv_disk c.receiver) e (λ x. RecvFits c.row p.world x ⊎ RecvFits c.row q.world x)) (sym recv)
        (leaves_by_step m (RecvFits c.row p.world) (λ x. RecvFits c.row p.world x ⊎ RecvFits c.row q.world x) (MayTake (recv_row c.receiver) packet.payload) (recv_disk c.receiver) (recv_disk new) stands.disks.recv_disk
        (λ old x fit may. ⊎_elim
        (λ stays. inl (inl (subst (λ (r : SessionRow). RecvStands r p.world.received x) row_is stays)))
        (λ one. inr (more x (subst (λ (r : SessionRow). RecvStands r (p.world.received ++ packet.payload ∷ []) x) row_is one)))
        (may.either p.world.received (was old fit)))
        s.moves);
  }

  -- the receiver's next message
  leads_taken : (returned : Buffer ℕ) (out : List Event) → Returns c.returned packet.number returned → recv_row new ≡ recv_row c.receiver → recv_size new ≡ recv_size c.receiver
      → AnsweredWith m packet.payload packet.number (recv_count c.receiver) E (recv_size c.receiver) c.receiver new (Ok answers.Took)
      → Leads m c p back out (out ++ printed_taken c.row.id packet.number answers.Took ∷ []) (record c { receiver = new; returned = returned })
  leads_taken returned out is same_row same_size answered =
      let a = took_by m packet.payload packet.number (recv_count c.receiver) E (recv_size c.receiver) c.receiver new answered in
      let s = a.2 in
      let u = led.taken m c p back packet stands less at in
      let test : nat_lt packet.number (length p.world.received) ≡ false = (let e = a.0 in let r = stands.world.received in grind (arith, nat_tests)) in
      let fits : E + 2 + length packet.payload ≤ receiver_size = subst (λ (n : ℕ). E + 2 + length packet.payload ≤ n) stands.recv_ready.size a.1 in
      let disks : DisksFit m c.row (low_disk c.low_store) (high_disk c.high_store) (recv_disk new) u =
      record {
        low_disk = stands.disks.low_disk;
        high_disk = stands.disks.high_disk;
        recv_disk = each_settled m (RecvFits c.row u) (recv_disk new) s.ready.settled (λ told.
            inl (subst (λ (r : SessionRow). RecvStands r (p.world.received ++ packet.payload ∷ []) (m.reading (recv_disk new))) row_is
            ((s.taken told).more p.world.received (was (m.reading (recv_disk c.receiver)) (stands.disks.recv_disk.reading told)))));
      } in
      leads returned (led.waits m c p back packet stands less at) u answers.Took out (led.no_overfill_next m c p back packet stands less at a.0 fits) (led.carries_next m c p back packet stands less at a.0)
      (led.takes_next m c p back packet stands less at) (prints_by false answers.Took test refl)
      (stands_on returned u is.1 (led.holds_taken m c p back packet stands less at returned.items (recv_count new) (recv_end new) a.0 is.0 s.count s.end)
      (led.rest_taken m c p back packet stands less at) (led.lawful_taken m c p back packet stands less at a.0)
      (answered_then (led.waits m c p back packet stands less at) u (led.carries_next m c p back packet stands less at a.0) (led.takes_next m c p back packet stands less at)) refl refl s.ready (same_row ∙ row_is) (same_size ∙ stands.recv_ready.size) disks)
      (taking_fits (record c { receiver = new; returned = returned }) (record p { world = u }) (Ok answers.Took) s refl refl refl (λ x is. inl is))

  pub leads_by : (taken : Taken) (returned : Buffer ℕ) (out : List Event) → Returns c.returned packet.number returned → recv_row new ≡ recv_row c.receiver → recv_size new ≡ recv_size c.receiver
      → AnsweredWith m packet.payload packet.number (recv_count c.receiver) E (recv_size c.receiver) c.receiver new (Ok taken)
      → Leads m c p back out (out ++ printed_taken c.row.id packet.number taken ∷ []) (record c { receiver = new; returned = returned })
  leads_by answers.Took returned out is same_row same_size answered = leads_taken returned out is same_row same_size answered
  leads_by answers.Repeat returned out is same_row same_size answered = leads_again returned out is answered

  -- the receiver's device failed
  fails_down : recv_is_open new ≡ false → is_down (record c { receiver = new }) ≡ true
  fails_down closed =
      (λ i. stands.low_ready.up i || stands.high_ready.up i || not (closed i))

  pub breaks : (count : ℕ) → AnsweredWith m packet.payload packet.number (recv_count c.receiver) E (recv_size c.receiver) c.receiver new (Err (faults.Device count))
      → (q : Past) × IsUntaken p back q × PartsFail m (record c { receiver = new }) q roles.Recv count × PartsLeaveFit m c (record c { receiver = new }) p q
  breaks count answered =
      let a = in_store m packet.payload packet.number (recv_count c.receiver) E (recv_size c.receiver) c.receiver new count answered in
      let s = a.2 in
      let u = led.taking m c p back packet stands less at in
      let device = s.device in
      let fits : E + 2 + length packet.payload ≤ receiver_size = subst (λ (n : ℕ). E + 2 + length packet.payload ≤ n) stands.recv_ready.size a.1 in (
        record p { world = u },
        record { packet = packet; at = led.at_world m c p back packet stands less at; fits = led.no_overfill_next m c p back packet stands less at a.0 fits; begins = led.runs_to_taking m c p back packet stands less at a.0; rest = refl },
        (
          fails_down s.closed,
          record {
            counted = cc;
            lawful = led.lawful_taking m c p back packet stands less at a.0;
            fits = record {
              capacity = stands.world.capacity;
              count = (fits_row m c p stands).count;
              end = omega (arith, fits, led.log_end_push p.world.received packet.payload, stands.world.end);
            };
            disks = record {
              low_disk = stands.disks.low_disk;
              high_disk = stands.disks.high_disk;
              recv_disk = each_after m (RecvFits c.row p.world) (RecvFits c.row u) (MayTake (recv_row c.receiver) packet.payload) (recv_disk c.receiver) (recv_disk new) stands.disks.recv_disk
                  (λ old now fit may. ⊎_elim
                  (λ stays. inl (subst (λ (r : SessionRow). RecvStands r p.world.received now) row_is stays))
                  (λ more. inr (packet.payload, refl, refl, subst (λ (r : SessionRow). RecvStands r (p.world.received ++ packet.payload ∷ []) now) row_is more))
                  (may.either p.world.received (was old fit)))
                  s.moves;
            };
          },
        ),
        taking_fits (record c { receiver = new }) (record p { world = u }) (Err (faults.Device count)) s refl refl refl (λ x is. inr (packet.payload, refl, refl, is)),
      )

  -- the message does not fit
  pub overfull : (end size_of_message size : ℕ) → AnsweredWith m packet.payload packet.number (recv_count c.receiver) E (recv_size c.receiver) c.receiver new (Err (faults.LogFull end size_of_message size))
      → IsOverfull p.world back end size_of_message size × Stands m (record c { receiver = new }) p × PartsLeaveFit m c (record c { receiver = new }) p p
  overfull end k size answered =
      let a = full m packet.payload packet.number (recv_count c.receiver) E (recv_size c.receiver) c.receiver new end k size answered in
      let over : receiver_size < E + 2 + length packet.payload = subst (λ (n : ℕ). n < E + 2 + length packet.payload) stands.recv_ready.size a.over in (
        record {
          packet = packet;
          at = led.at_world m c p back packet stands less at;
          over = led.overfill m c p back packet stands less at a.next over;
          end_is = a.end_is ∙ sym stands.world.end;
          length_is = a.length_is;
          size_is = a.size_is ∙ stands.recv_ready.size;
        },
        subst (λ (r : Receiver D). Stands m (record c { receiver = r }) p) (sym a.same) stands,
        all_alone m c p stands (record c { receiver = new }) p refl refl (ap (λ (r : Receiver D). recv_disk r) a.same),
      )
