-- A low look whose device failed.
use Rattle.std.proofs.Common.{◌≡◌, ℕ, ◌+◌, ◌≤◌, Bool, true, false, List, [], ◌∷◌, ◌++◌, length, drop, Some, None, refl, sym, ap, ◌∙◌, subst, arith, ◌<◌, ◌^◌, nat_lt, length-append}
use Rattle.std.specs.Prelude.{if◌then◌else◌, ◌||◌, ◌&&◌, ◌==◌}
use Rattle.std.proofs.lemmas.Bool.{and_parts, ltb-true}
use Rattle.pump_frame.specs.declared.frame.Frame.{Frame}
use Rattle.std.specs.List.{AllByRecursion}
use Rattle.disk_model.specs.Disk.{Meaning, Each}
use Rattle.disk_model.specs.declared.name.Role.TheVariants as roles
use Rattle.pump_frame.specs.declared.payload.Payload.{Payload}
use Rattle.pump_frame.specs.declared.row.SessionRow.{SessionRow}
use Rattle.stable_buffer.specs.Low.{low_row, low_disk}
use Rattle.pump_core.specs.declared.feedback.Feedback.TheVariants.{Quiet}
use Rattle.pump_core.specs.declared.event.Event.TheVariants.{StoreBegin}
use Rattle.pump_core.specs.Phases.{Idle, Passing}
use Rattle.pump_core.specs.History.{Arrival, Look, Opening, looked}
use Rattle.pump_core.specs.History.{Came}
use Rattle.pump_core.specs.Exchanges.{Waiting, Over, Part, Holding, Release, Empty, Leaving, Answer, Repeated, Offering, Dropped, Delivery, Loss, is_finished, is_left, is_fit, is_next, IsFrame, AreParts, count_after, greeted_after, IsCut}
use Rattle.pump_core.specs.Replies.{refusal}
use Rattle.pump_core.specs.Standing.{State, phase_after, StandsAt}
use Rattle.pump_core.specs.World.{World}
use Rattle.pump_core.specs.Events.{Happens}
use Rattle.pump_core.proofs.Bounded.{place}
use Rattle.pump_core.proofs.Laws.{stays_lawful}
use Rattle.low_process.specs.declared.values.LowLook.{LowLook}
use Rattle.low_process.specs.Looks.{row_of, state_of, last_of, is_down, look_of}
use Rattle.low_process.specs.Storing.{StoreStep, message_in}
use Rattle.script_reader.specs.declared.event.Event.TheVariants.{Low}
use Rattle.script_reader.specs.Past.{Past}
use Rattle.script_reader.specs.Lows.{printed_store, printed_feedback}
use Rattle.script_reader.specs.Breaks.{IsLostLook}
use Rattle.two_worlds.specs.declared.pump.parts.Parts.{Parts}
use Rattle.world_laws.specs.Disks.{LowFits}
use Rattle.two_worlds.specs.Doing.{PartsFail, PartsLeaveFit}
use Rattle.two_worlds.specs.Printing.{printed_reply, look_prints}
use Rattle.two_worlds.specs.Standing.{number_of, Stands}
use Rattle.two_worlds.proofs.Disks.Images.{lost_fits}
use Rattle.two_worlds.proofs.Low.Disks.{low_failed}
use Rattle.two_worlds.proofs.Disks.LeavesWorld.{fits_row}
use Rattle.two_worlds.proofs.Low.Looked.{Looked}
use Rattle.two_worlds.proofs.Low.Stepping.{Stepped, stepped}
use Rattle.script_reader.proofs.Hearing.{quiet_is}
use Rattle.two_worlds.proofs.Low.Wants.{Taking, taking, hand_is_empty, is_idle_now, comes_next, Refuses, refuses}

abbrev AllFinished : List Part → Type 0
AllFinished before = AllByRecursion (λ part. is_finished part ≡ true) before

not_left : (b : Bool) → (if b then Passing None else Idle) ≡ Idle → b ≡ false
not_left true e = absurd (cc)
not_left false e = refl

-- at the end of an idle process's parts a new one may begin, which is no release
idle_parts : (row : SessionRow) (o : Opening) (before : List Part) → AreParts row o before → phase_after row o before ≡ Idle → AllFinished before × (is_left o before ≡ false)
idle_parts row o [] h e = (tt, not_left o.is_held e)
idle_parts row o (Holding newest older ∷ before) h e = absurd (cc)
idle_parts row o (Release looks last ∷ before) h e = ((refl, h.2), refl)
idle_parts row o (Empty x ∷ before) h e = ((refl, h.2), refl)
idle_parts row o (Leaving x ∷ before) h e = ((refl, h.2), refl)
idle_parts row o (Answer x ∷ before) h e = ((refl, h.2), refl)
idle_parts row o (Repeated first (Waiting quiet) ∷ before) h e = absurd (cc)
idle_parts row o (Repeated first (Over quiet last) ∷ before) h e = ((refl, h.2), refl)
idle_parts row o (Offering first full ∷ before) h e = absurd (cc)
idle_parts row o (Dropped first full gone ∷ before) h e = absurd (cc)
idle_parts row o (Delivery first full passing (Waiting quiet) ∷ before) h e = absurd (cc)
idle_parts row o (Delivery first full passing (Over quiet last) ∷ before) h e = ((refl, h.2), refl)
idle_parts row o (Loss first rest ∷ before) h e = absurd (cc)

-- the next message has a number below 2^48
small_next : (row : SessionRow) (n : ℕ) (greeted : Bool) (f : Frame) → is_next row n greeted f ≡ true → n < 2 ^ 48
small_next row n greeted f e = ltb-true n (2 ^ 48) (and_parts (is_fit row greeted f && f.number == n) (nat_lt n (2 ^ 48)) e).1

module _ {D : Type 0} (m : Meaning D) (c d : Parts D) (p : Past) (moment word : ℕ) (a : Arrival) (l : LowLook) (did : Looked m c d moment word a true l) (stands : Stands m c p) (order : c.moment ≤ moment)
    (message : Payload) (is : message_in c.low a ≡ Some message) where
  abbrev row : SessionRow
  row = row_of c.low

  abbrev s : State
  s = state_of c.low

  abbrev at : StandsAt row s (last_of c.low) p.history
  at = stands.low_ready.history.stands

  row_is : row ≡ c.row
  row_is = stands.low_ready.row

  t : Taking c.low a message
  t = taking c.low a message is

  later : last_of c.low ≤ moment
  later = let h = stands.low_ready.last in omega (arith, h, order)

  step : Stepped row s d.low (look_of moment word (Came t.frame) true l.feedback) l
  step = subst (λ (u : Arrival). Stepped row s d.low (look_of moment word u true l.feedback) l) t.comes
      (stepped c.low d.low p.history (look_of moment word a true l.feedback) l stands.low_ready.history did.step.looks did.row did.last later)

  says : Refuses row c.low moment word t.frame l.feedback
  says = refuses c.low a message t moment word l.feedback step.fits

  -- the look as it is in the history
  abbrev x : Look
  x = look_of moment word a true Quiet

  prints : look_prints c.row.id moment l ≡ Low c.row.id moment (refusal c.row 5 0) ∷ []
  prints =
      (λ i. printed_store c.row.id moment ((step.stored ∙ says.stored) i) ++ (printed_feedback c.row.id moment (quiet_is l.feedback says.quiet i) ++ printed_reply c.row.id moment ((step.reply ∙ says.reply) i)))
      ∙ ap (λ (r : SessionRow). Low c.row.id moment (refusal r 5 0) ∷ []) row_is

  next : is_next row (count_after p.history.life.opening at.parts) (greeted_after row at.parts) t.frame ≡ true
  next = subst (λ (u : State). is_next row u.next u.greeted t.frame ≡ true) at.state (comes_next c.low a message t)

  idle : phase_after row p.history.life.opening at.parts ≡ Idle
  idle = sym (ap (λ (u : State). u.phase) at.state) ∙ is_idle_now c.low a message t

  cut_with : IsCut row (looked p.history x).life (Loss x [] ∷ at.parts)
  cut_with =
      let after = idle_parts row p.history.life.opening at.parts at.cut.are_parts idle in
      record {
        are_parts = (
          record {
            part = (record { next = subst (IsFrame (is_next row (count_after p.history.life.opening at.parts) (greeted_after row at.parts))) (sym t.comes) next; outcome = refl; quiet = refl }, tt);
            release = sym after.1;
          },
          at.cut.are_parts,
          after.0,
        );
        looks = ap (λ looks. x ∷ looks) at.cut.looks;
      }

  abbrev world_then : World
  world_then = record p.world { storing = Some t.frame.payload }

  begins : Happens p.world (StoreBegin t.frame.payload) world_then
  begins = (stands.sound.rest.storing, stands.world.low_hand ∙ ap number_of (hand_is_empty c.low a message t), refl)

  abbrev lost_past : Past
  lost_past = record p { history = looked p.history x; waits = drop 1 p.waits; world = world_then; moment = moment }

  is_lost : IsLostLook c.row p x lost_past (look_prints c.row.id moment l)
  is_lost = record {
    frame = t.frame;
    comes = t.comes;
    fault = refl;
    quiet = refl;
    before = at.parts;
    cut_with = subst (λ (r : SessionRow). IsCut r (looked p.history x).life (Loss x [] ∷ at.parts)) row_is cut_with;
    begins = begins;
    rest = refl;
    printed_is = prints;
  }

  store_row_is : low_row c.low_store ≡ c.row
  store_row_is = stands.low_ready.store.row ∙ row_is

  free : length p.world.accepted + 1 ≤ p.world.removed + (low_row c.low_store).capacity
  free =
      let b = stands.sound.lawful.bounded in
      let low : p.world.low_hand ≡ None = stands.world.low_hand ∙ ap number_of (hand_is_empty c.low a message t) in
      let has = (place p.world b low).place in
      let same : (low_row c.low_store).capacity ≡ c.row.capacity = ap (λ (r : SessionRow). r.capacity) store_row_is in
      omega (arith, has, b.size, b.within.below, stands.world.capacity, same)

  low_fits : Each m (LowFits c.row world_then) (low_disk d.low_store)
  low_fits = subst (λ (u : SessionRow × Payload). Each m (LowFits u.0 (record p.world { storing = Some u.1 })) (low_disk d.low_store)) (λ i. (store_row_is i, t.is_message i))
      (low_failed m c.low_store d.low_store p.world stands.sound.rest.storing message free
      (subst (λ o. StoreStep m o c.low_store d.low_store true) is did.step.keeps)
      (subst (λ (r : SessionRow). Each m (LowFits r p.world) (low_disk c.low_store)) (sym store_row_is) stands.disks.low_disk))

  down : is_down d.low ≡ true
  down = did.step.falls ∙ ap (λ (b : Bool). b || true) stands.low_ready.up

  abbrev d' : Parts D
  d' = record c { low = d.low; low_store = d.low_store; ends = d.ends; connection = d.connection; moment = moment }

  fails_then : PartsFail m d' lost_past roles.Low (m.count (low_disk d.low_store))
  fails_then = (
    rw down refl,
    record {
      counted = refl;
      lawful = stays_lawful p.world (StoreBegin t.frame.payload) world_then stands.sound.lawful begins;
      fits = record {
        capacity = stands.world.capacity;
        count =
            let few = small_next row s.next s.greeted t.frame (comes_next c.low a message t) in
            omega (arith, few, stands.world.accepted, length-append p.world.accepted (t.frame.payload ∷ []));
        end = (fits_row m c p stands).end;
      };
      disks = record { low_disk = low_fits; high_disk = stands.disks.high_disk; recv_disk = stands.disks.recv_disk };
    },
  )

  pub look_loses : (q : Past) × IsLostLook c.row p (look_of moment word a true Quiet) q (look_prints c.row.id moment l) × PartsFail m d q roles.Low (m.count (low_disk d.low_store)) × PartsLeaveFit m c d p q
  look_loses = (lost_past, is_lost, subst (λ (u : Parts D). PartsFail m u lost_past roles.Low (m.count (low_disk d.low_store))) (sym did.rest) fails_then, lost_fits m c d p moment word a true l did stands lost_past message t.frame.payload is t.is_message refl)
