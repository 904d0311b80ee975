-- What the disks of a pump over which a file was sent stand for.
use Rattle.std.proofs.Common.{◌≡◌, ◌⊎◌, inl, inr, ℕ, ◌≤◌, ◌<◌, ◌^◌, true, false, List, [], ◌++◌, length, Option, Some, None, Result, Ok, Err, refl, sym, ap, ◌∙◌, subst, arith, append-nil}
use Rattle.std.specs.Prelude.{IfErr}
use Rattle.std.proofs.KnownBytes.{Consumes-nil}
use Rattle.disk_model.specs.Disk.{Meaning}
use Rattle.disk_model.specs.declared.name.Role.{Role}
use Rattle.disk_model.specs.declared.name.Role.TheVariants as roles
use Rattle.pump_frame.specs.Counts.{Rose}
use Rattle.pump_frame.specs.declared.payload.Payload.{Payload}
use Rattle.pump_frame.specs.declared.row.SessionRow.{SessionRow}
use Rattle.pump_core.specs.Events.{with_kept}
use Rattle.recovery.specs.Moves.{disk_of}
use Rattle.recovery.specs.declared.trio.Trio.{Trio}
use Rattle.script_reader.specs.Openings.{accepted_in}
use Rattle.script_reader.specs.Past.{Past}
use Rattle.two_worlds.specs.declared.applied.Stop.{Stop}
use Rattle.two_worlds.specs.declared.applied.Stop.TheVariants as stops
use Rattle.two_worlds.specs.declared.pump.Pump.{Pump}
use Rattle.world_laws.specs.Disks.{LeaveWorld}
use Rattle.two_worlds.specs.Pumps.{StandsFor, StandsOrFails, disk_at}
use Rattle.pump_wrapper.specs.Comparing.{Begins}
use Rattle.pump_wrapper.specs.Cutting.{Gave, to_come}
use Rattle.pump_wrapper.specs.Halting.{Halts, HaltsBy}
use Rattle.pump_wrapper.specs.Sending.{RoseBy}
use Rattle.pump_wrapper.specs.Wraps.{AreFirst, AreToCome, HasAll, HasPassed, IsSent, Passes, SendCause, Sends, all_taken, end_of_sending, is_long_in, is_too_long}
use Rattle.pump_wrapper.specs.Crashes.{LeavesPrefix}
use Rattle.pump_wrapper.specs.WrapEnds.{BeginFile, Continues, Ends, EndsAt, EndsOn, HasDiskCause, IsEarly, IsStopped, LeavesPrefixBy, RefusesDisks}
use Rattle.pump_wrapper.specs.declared.cutter.Cutter.{Cutter}
use Rattle.pump_wrapper.specs.declared.file_sender.WrapEnd.{WrapEnd}
use Rattle.pump_wrapper.specs.declared.file_sender.WrapEnd.TheVariants as ends
use Rattle.pump_wrapper.proofs.Prefixes.{begins_same, begins_more, begins_then, begins_both, begins_file, kept_none}
use Rattle.pump_wrapper.proofs.Going.{rose_later}
use Rattle.pump_wrapper.proofs.Holding.{stand_for_all, state_sound}
use Rattle.pump_wrapper.proofs.Leaving.{FoundAgain, found_again, found_between, no_room_now, leaves_prefix, prefix_wider}

-- ---- causes ----

module _ {D : Type 0} {g : _} (m : Meaning D) (old new : Trio D) (s t : Pump D g) (before : (role : Role) → m.count (disk_of old role) ≤ m.count (disk_at role s)) (disks : (role : Role) → disk_of new role ≡ disk_at role t) where
  pub stop_cause : (stop : Stop) → RoseBy m s t stop → HasDiskCause m old new (ends.Stopped stop)
  stop_cause stops.Line h = tt
  stop_cause (stops.Device role faults) h = (
    h.0 ∙ ap m.count (sym (disks role)),
    subst (λ (d : D). Rose (m.count (disk_of old role)) (m.count d)) (sym (disks role)) (rose_later _ _ _ (before role) h.1),
  )
  stop_cause (stops.Full end length size) h = tt
  stop_cause (stops.Disk role why) h = tt

  pub sent_cause : (bytes : ℕ) (sent : Result ℕ WrapEnd) → IfErr sent (SendCause m s t) → HasDiskCause m old new (end_of_sending bytes sent)
  sent_cause bytes (Ok count) h = tt
  sent_cause bytes (Err (ends.Stopped stop)) h = stop_cause stop h
  sent_cause bytes (Err ends.Read) h = tt
  sent_cause bytes (Err ends.TooLong) h = tt
  sent_cause bytes (Err ends.Memory) h = absurd h
  sent_cause bytes (Err (ends.Done b n)) h = absurd h
  sent_cause bytes (Err (ends.Differs n)) h = absurd h
  sent_cause bytes (Err (ends.Refused role why)) h = absurd h

pub read_sent : (bytes : ℕ) (sent : Result ℕ WrapEnd) → end_of_sending bytes sent ≡ ends.Read → sent ≡ Err ends.Read
read_sent bytes (Ok count) e = absurd (cc)
read_sent bytes (Err end) e = ap (λ (x : WrapEnd). Err x) e

pub long_sent : (bytes : ℕ) (sent : Result ℕ WrapEnd) → is_too_long (end_of_sending bytes sent) ≡ is_long_in sent
long_sent bytes (Ok count) = refl
long_sent bytes (Err end) = refl

-- ---- what the disks stand for ----

module _ {D : Type 0} (m : Meaning D) (row : SessionRow) (disks : Trio D) where
  -- the pump is empty
  pub emptied_ends : (whole : Option (List ℕ)) (first messages : List Payload) (end : WrapEnd) → HasAll m row messages disks → Begins first messages → (messages ≡ first) ⊎ BeginFile row whole messages
      → EndsAt row whole first (all_taken messages) end → EndsOn m row whole first end disks
  emptied_ends whole first messages end has from sent at =
      let same : accepted_in (all_taken messages) ≡ messages = append-nil messages in
      record {
        now = all_taken messages;
        stand = stand_for_all m row messages disks has;
        grows = begins_then first messages _ from (begins_same messages _ same);
        sent = elim sent [ inl e ↦ inl (same ∙ e) | inr begins ↦ inr (subst (BeginFile row whole) (sym same) begins) ];
        ends = at;
      }

  module _ {g : _} (t : Pump D g) (leave : (q : Past) → StandsOrFails m t q → LeaveWorld m row q.world disks.low disks.high disks.recv) (first most : List Payload) (stop : Stop) (h : Halts m t first most stop) where
    abbrev leaves : LeaveWorld m row h.past.world disks.low disks.high disks.recv
    leaves = leave h.past h.stands

    stop_is : (told : m.tells) (f : FoundAgain row h.past.world (m.reading disks.low) (m.reading disks.high) (m.reading disks.recv)) (x : Stop) → HaltsBy m t h.past x → IsStopped f.now x
    stop_is told f stops.Line by = absurd by
    stop_is told f (stops.Device role faults) by = tt
    stop_is told f (stops.Full end length size) (stands, room) =
        let sound = state_sound m t.state h.past stands in
        no_room_now row h.past.world _ _ _ f end length size sound.lawful sound.rest room
    stop_is told f (stops.Disk role why) by = absurd by

    pub halts_end : (whole : Option (List ℕ)) → (most ≡ first) ⊎ BeginFile row whole most → m.tells → EndsOn m row whole first (ends.Stopped stop) disks
    halts_end whole sent told =
        let f = found_again row h.past.world _ _ _ (leaves.readings told) in
        let (from, to) = found_between first most f.kept h.past.world.storing h.past.world.accepted (accepted_in f.now) f.accepted_is h.between.from h.between.to in
        record {
          now = f.now;
          stand = f.stand;
          grows = from;
          sent = elim sent [ inl e ↦ inl (begins_both first (accepted_in f.now) from (subst (Begins (accepted_in f.now)) e to)) | inr begins ↦ inr (begins_file row whole (accepted_in f.now) most to begins) ];
          ends = stop_is told f stop h.by;
        }

    pub halts_prefix : (all : List Payload) → Begins most all → m.tells_images → LeavesPrefix m row all disks.recv
    halts_prefix all begins told = leaves_prefix m row h.past.world disks.low disks.high disks.recv all leaves (begins_then _ most all h.between.to begins) told

  -- a pump that is empty leaves just its messages
  pub passed_prefix : {g : _} (t : Pump D g) → ((q : Past) → StandsOrFails m t q → LeaveWorld m row q.world disks.low disks.high disks.recv) → (messages all : List Payload) → Passes m t messages → Begins messages all → m.tells_images
      → LeavesPrefix m row all disks.recv
  passed_prefix t leave messages all (q, stands, passed) begins told =
      let rest = (state_sound m t.state q stands).rest in
      let is : with_kept true q.world.storing q.world.accepted ≡ messages = kept_none true q.world.storing q.world.accepted rest.storing ∙ passed.accepted in
      leaves_prefix m row q.world disks.low disks.high disks.recv all (leave q (inl stands)) (begins_then _ messages all (begins_same _ messages (sym is)) begins) told

-- all that were to come are the first ones
pub first_of_all : (cutter : Cutter) (left : Option (List ℕ)) (more : List Payload) → AreToCome cutter left more → AreFirst cutter left more
first_of_all cutter None more h = tt
first_of_all cutter (Some left) more h = begins_same more (to_come cutter left) h

module _ {D : Type 0} {g : _} (m : Meaning D) (row : SessionRow) (disks : Trio D) (t : Pump D g) (messages : List Payload) (cutter : Cutter) (left : Option (List ℕ)) (bytes : ℕ)
    (all_in : (all : List Payload) (q : Past) → StandsFor m t q → HasPassed all q.world → HasAll m row all disks)
    (leave : (q : Past) → StandsOrFails m t q → LeaveWorld m row q.world disks.low disks.high disks.recv) where
  part_ends : (whole : Option (List ℕ)) (end : WrapEnd) → Continues row whole messages cutter left → (more : List Payload) → AreFirst cutter left more → Passes m t (messages ++ more)
      → EndsAt row whole messages (all_taken (messages ++ more)) end → EndsOn m row whole messages end disks
  part_ends whole end continues more first (q, stands, passed) at =
      emptied_ends m row disks whole messages (messages ++ more) end (all_in (messages ++ more) q stands passed) (begins_more messages more) (inr (continues more first)) at

  pub sent_ends : (whole : Option (List ℕ)) (sent : Result ℕ WrapEnd) → Sends m t row messages cutter left sent → m.tells → Continues row whole messages cutter left → EndsOn m row whole messages (end_of_sending bytes sent) disks
  sent_ends whole (Ok count) (more, q, led, stands, passed, is, come) told continues =
      part_ends whole (ends.Done bytes count) continues more (first_of_all cutter left more come) (q, stands, passed) (record { later = refl; removed = refl })
  sent_ends whole (Err (ends.Stopped stop)) (more, first, h) told continues = halts_end m row disks t leave messages (messages ++ more) stop h whole (inr (continues more first)) told
  sent_ends whole (Err ends.Read) (more, first, passes) told continues = part_ends whole ends.Read continues more first passes (record { later = refl; removed = refl })
  sent_ends whole (Err ends.TooLong) (more, first, passes) told continues = part_ends whole ends.TooLong continues more first passes (record { later = refl; removed = refl })
  sent_ends whole (Err ends.Memory) h told continues = absurd h
  sent_ends whole (Err (ends.Done b n)) h told continues = absurd h
  sent_ends whole (Err (ends.Differs n)) h told continues = absurd h
  sent_ends whole (Err (ends.Refused role why)) h told continues = absurd h

  pub sent_prefix : (all : List Payload) (sent : Result ℕ WrapEnd) → Sends m t row messages cutter left sent → m.tells_images → ((more : List Payload) → AreFirst cutter left more → Begins (messages ++ more) all) → LeavesPrefix m row all disks.recv
  sent_prefix all (Ok count) (more, q, led, stands, passed, is, come) told continues = passed_prefix m row disks t leave (messages ++ more) all (q, stands, passed) (continues more (first_of_all cutter left more come)) told
  sent_prefix all (Err (ends.Stopped stop)) (more, first, h) told continues = halts_prefix m row disks t leave messages (messages ++ more) stop h all (continues more first) told
  sent_prefix all (Err ends.Read) (more, first, passes) told continues = passed_prefix m row disks t leave (messages ++ more) all passes (continues more first) told
  sent_prefix all (Err ends.TooLong) (more, first, passes) told continues = passed_prefix m row disks t leave (messages ++ more) all passes (continues more first) told
  sent_prefix all (Err ends.Memory) h told continues = absurd h
  sent_prefix all (Err (ends.Done b n)) h told continues = absurd h
  sent_prefix all (Err (ends.Differs n)) h told continues = absurd h
  sent_prefix all (Err (ends.Refused role why)) h told continues = absurd h

-- ---- an early end ----

pub early_sent : {D : Type 0} (m : Meaning D) (row : SessionRow) (messages : List Payload) (cutter : Cutter) (left : Option (List ℕ)) (end : WrapEnd) (disks : Trio D) → IsEarly end → IsSent m row messages cutter left end disks
early_sent m row messages cutter left ends.Memory disks h = tt
early_sent m row messages cutter left (ends.Refused role why) disks h = tt
early_sent m row messages cutter left (ends.Stopped stop) disks h = tt
early_sent m row messages cutter left (ends.Done b n) disks h = absurd h
early_sent m row messages cutter left ends.Read disks h = absurd h
early_sent m row messages cutter left ends.TooLong disks h = absurd h
early_sent m row messages cutter left (ends.Differs n) disks h = absurd h

pub early_short : (end : WrapEnd) → IsEarly end → is_too_long end ≡ false
early_short ends.Memory h = refl
early_short (ends.Refused role why) h = refl
early_short (ends.Stopped stop) h = refl
early_short (ends.Done b n) h = absurd h
early_short ends.Read h = absurd h
early_short ends.TooLong h = absurd h
early_short (ends.Differs n) h = absurd h

pub none_gave : (before : ℕ) (left : Option (List ℕ)) (end : WrapEnd) → before < 2 ^ 48 → IsEarly end → Gave before left left (is_too_long end)
none_gave before left end few early = ([], Consumes-nil left, (λ e. (let short = early_short end early in absurd (cc))), λ e. omega (arith, few))

pub early_read : (end : WrapEnd) → IsEarly end → end ≡ ends.Read → ⊥
early_read end early e = subst IsEarly e early

-- disks that hold all messages are not empty
pub all_end : {D : Type 0} (m : Meaning D) (row : SessionRow) (messages : List Payload) (whole : Option (List ℕ)) (old new : Trio D) (end : WrapEnd) → HasAll m row messages old → Ends m row whole whole (accepted_in (all_taken messages)) old end new
    → EndsOn m row whole messages end new
all_end m row messages whole old new end has (inr on) = subst (λ (l : List Payload). EndsOn m row whole l end new) (append-nil messages) on
all_end m row messages whole old new end has (inl fails) = by fails.role fails.empty
  where
    by : (role : Role) → m.reading (disk_of old role) ≡ [] → EndsOn m row whole messages end new
    by roles.Low none = absurd (let size = has.hold.low_is.size in omega (arith, ap length none, size))
    by roles.High none = absurd (let size = has.hold.high_is.size in omega (arith, ap length none, size))
    by roles.Recv none = absurd (let from = has.hold.recv_is.from in let within = has.hold.recv_is.within in omega (arith, ap length none, from, within))

-- the disks that a session ended on are not refused
pub refuses_never : {D : Type 0} (m : Meaning D) (row : SessionRow) (whole : Option (List ℕ)) (old new disks : Trio D) (end : WrapEnd) → (m.tells → (accepted : List Payload) × EndsOn m row whole accepted end disks) → RefusesDisks m row old end new
refuses_never m row whole old new disks (ends.Refused role why) on = λ told other. (let e = (on told).1.ends.0 in absurd (cc))
refuses_never m row whole old new disks (ends.Done b n) on = tt
refuses_never m row whole old new disks ends.Memory on = tt
refuses_never m row whole old new disks ends.Read on = tt
refuses_never m row whole old new disks ends.TooLong on = tt
refuses_never m row whole old new disks (ends.Differs n) on = tt
refuses_never m row whole old new disks (ends.Stopped stop) on = tt

-- images of disks that hold all messages
pub prefix_again : {D : Type 0} (m : Meaning D) (row : SessionRow) (messages all : List Payload) (old new : Trio D) (end : WrapEnd) → LeavesPrefix m row messages old.recv → Begins messages all
    → (Begins (accepted_in (all_taken messages)) all → LeavesPrefixBy m row old end new all) → LeavesPrefix m row all new.recv
prefix_again m row messages all old new end prefix begins next =
    next (begins_then _ messages all (begins_same _ messages (sym (append-nil messages))) begins) (λ is. prefix_wider m row messages all old.recv begins prefix)
