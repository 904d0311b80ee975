-- A whole high look, by what comes back.
use Rattle.std.proofs.Common.{◌≡◌, inl, ℕ, ◌+◌, ◌≤◌, Bool, true, false, List, [], ◌∷◌, ◌++◌, length, Option, Some, None, refl, sym, ap, ◌∙◌, subst, arith, append-nil, length-append}
use Rattle.std.specs.Prelude.{option_to_list}
use Rattle.disk_model.specs.Disk.{Meaning}
use Rattle.pump_frame.specs.declared.frame.Frame.{Frame}
use Rattle.pump_frame.specs.declared.row.SessionRow.{SessionRow}
use Rattle.stable_buffer.specs.Low.{low_disk}
use Rattle.stable_buffer.specs.High.{IsHighReady, high_disk, high_count}
use Rattle.stable_buffer.specs.declared.high.HighStore.{HighStore}
use Rattle.high_receiver.specs.Receiving.{recv_disk}
use Rattle.pump_core.specs.declared.event.Event.TheVariants.{ReturnTaken, RemoveBegin, RemoveEnd}
use Rattle.pump_core.specs.World.{World}
use Rattle.pump_core.specs.Passage.{Low, High}
use Rattle.pump_core.proofs.Laws.{runs_lawfully}
use Rattle.passage.specs.declared.plain.PlainEnds.{PlainEnds}
use Rattle.passage.specs.Plain.{shape_of, held_in, StandsFor as EndsStand}
use Rattle.high_process.specs.States as high
use Rattle.high_process.specs.Past as high_past
use Rattle.high_process.specs.Ends.{TakesUp, told_time, StandsFitting}
use Rattle.high_process.specs.Looks.{StandsFor as HighStandsFor, Looked}
use Rattle.high_process.specs.Tasks.{attaches_in}
use Rattle.high_process.specs.Storing.{Removing, Fares}
use Rattle.high_process.specs.declared.process.HighProcess.{HighProcess}
use Rattle.high_process.specs.declared.values.HighLook.{HighLook}
use Rattle.high_process.specs.declared.values.Task.{Task}
use Rattle.high_process.specs.declared.values.Task.TheVariants.{Refuse, Remove, Keep}
use Rattle.script_reader.specs.declared.event.Event.{Event}
use Rattle.pump_core.specs.HighLooks.{Returns}
use Rattle.script_reader.specs.Past.{Past}
use Rattle.script_reader.specs.Highs.{IsWholeLook, IsReturnBy, is_ahead}
use Rattle.two_worlds.specs.Standing.{HoldsWorld, Stands, kept_of, high_past_of}
use Rattle.two_worlds.specs.Working.{Works}
use Rattle.world_laws.specs.Timelines.{IsAtRest}
use Rattle.stable_buffer.specs.Stands.{HighStands}
use Rattle.world_laws.specs.Disks.{HighFits, RecvFits, DisksFit}
use Rattle.two_worlds.specs.Doing.{LowFitsAfter, PartsLeaveFit}
use Rattle.two_worlds.specs.Private.HighLooks.{ComesBack, LeadsWith, most_lines, removed_line, sent_line, printed_look}
use Rattle.two_worlds.specs.declared.pump.parts.Parts.{Parts}
use Rattle.two_worlds.proofs.Disks.Images.{low_alone, recv_alone, all_alone, high_leaves}
use Rattle.two_worlds.proofs.High.Removals.{Asks, TakesHand, without_first, with_due, asks, attaches_is, keeps, removes, removal, time_in}
use Rattle.two_worlds.proofs.High.Fetching.{FetchedBy, fetched_by}
use Rattle.two_worlds.proofs.High.Disks.{went, removed_disks}
use Rattle.two_worlds.proofs.High.Standing.{looked_parts, ended}

-- the lines of a look are few
removed_length : (session m : ℕ) (o time : Option ℕ) → length (removed_line session m o time) ≤ 1
removed_length session m None time = omega arith
removed_length session m (Some n) time = omega arith

sent_length : (session m : ℕ) (o : Option ℕ) → length (sent_line session m o) ≤ 1
sent_length session m None = omega arith
sent_length session m (Some n) = omega arith

no_line : (session m : ℕ) (o time : Option ℕ) → o ≡ None → length (removed_line session m o time) ≤ 0
no_line session m None time e = omega arith
no_line session m (Some n) time e = absurd (cc)

few_lines : (session m : ℕ) (frame : Option Frame) (look : HighLook) → (frame ≡ None → look.removed ≡ None) → length (printed_look session m look) ≤ most_lines frame
few_lines session m None look none =
    let a = no_line session m look.removed look.published (none refl) in
    let b = sent_length session m look.sent in
    omega (arith, a, b, length-append (removed_line session m look.removed look.published) (sent_line session m look.sent))
few_lines session m (Some f) look none =
    let a = removed_length session m look.removed look.published in
    let b = sent_length session m look.sent in
    omega (arith, a, b, length-append (removed_line session m look.removed look.published) (sent_line session m look.sent))

none_asked : {D : Type 0} (c : Parts D) (frame : Option Frame) → frame ≡ None → high.task_at c.high frame ≡ Keep
none_asked c None e = refl
none_asked c (Some f) e = absurd (cc)

pub lines_by : {D : Type 0} {m : Meaning D} (c : Parts D) (w : Works m c) (q : HighProcess) (ends : PlainEnds) (moment : ℕ) (frame : Option Frame) (look : HighLook)
    → ((l : Low) (h : High) (t : high_past.ProcessPast) → StandsFitting (EndsStand c.ends) c.high l h → HighStandsFor c.high t
    → Looked (shape_of c.ends) true (StandsFitting (EndsStand ends) q) l h c.high q t moment (high.task_at c.high frame) (high.attaches_at c.high frame) look)
    → length (printed_look c.row.id moment look) ≤ most_lines frame
lines_by c w q ends moment frame look looked =
    let seen = looked w.ends.low w.ends.high w.past (w.ends.stand, w.ends.high_fits) w.high_ready.past in
    few_lines c.row.id moment frame look (λ e. ap (λ (l : HighLook). l.removed) seen.is ∙ ap (λ (t : Task). high_past.removed_in t w.past) (none_asked c frame e))

-- it is no TAKEN that is ahead
abbrev IsFine : World → Option ℕ → Type 0
IsFine w None = Unit {0}
IsFine w (Some k) = is_ahead w k ≡ false

leads_fine : (row : SessionRow) (attaches : Bool) (p : Past) (m : ℕ) (back : Option ℕ) (q : Past) (printed : List Event) → IsFine p.world back → IsWholeLook row attaches p m back q printed → LeadsWith row m attaches back p q printed
leads_fine row attaches p m None q printed fine leads = leads
leads_fine row attaches p m (Some k) q printed fine leads = subst (λ (b : Bool). IsReturnBy b row attaches p m k q printed) (sym fine) leads

module _ {D : Type 0} (m : Meaning D) (c : Parts D) (p : Past) (stands : Stands m c p) (moment : ℕ) (order : c.moment ≤ moment)
    (q : HighProcess) (store : HighStore D) (ends : PlainEnds) (attaches : Bool) where
  -- what a look leads to that printed this
  pub record Leads (back : Option ℕ) (look : HighLook) : Type 0 where
    pub end : Past
    pub printed : List Event
    pub leads : LeadsWith c.row moment attaches back p end printed
    pub printed_is : printed ≡ printed_look c.row.id moment look
    pub stand : Stands m (looked_parts m c moment q store ends look.sent) end
    pub fits : PartsLeaveFit m c (looked_parts m c moment q store ends look.sent) p end

  -- .. in the words of a part of a line
  pub led : (back : Option ℕ) (look : HighLook) → Leads back look → (out now : List Event) → now ≡ out ++ printed_look c.row.id moment look
      → (d : Parts D) → d ≡ looked_parts m c moment q store ends look.sent
      → (end : Past) × (printed : List Event) × LeadsWith c.row moment attaches back p end printed × (now ≡ out ++ printed) × Stands m d end × PartsLeaveFit m c d p end
  led back look l out now told d is =
      (l.end, l.printed, l.leads, told ∙ ap (λ (more : List Event). out ++ more) (sym l.printed_is), subst (λ (e : Parts D). Stands m e l.end) (sym is) l.stand, subst (λ (e : Parts D). PartsLeaveFit m c e p l.end) (sym is) l.fits)

  abbrev past : high_past.ProcessPast
  past = high_past_of c p

  -- what was seen of the process and the end, from the past after the first part on
  abbrev Seen : ℕ → Bool → Option ℕ → Option ℕ → high_past.ProcessPast → Type 0
  Seen resend with_receiver time sent u =
      (got : _) × TakesUp (shape_of c.ends) true (StandsFitting (EndsStand ends) q) stands.ends.low (told_time time stands.ends.high) (high_past.wants u) u.removed got
      × HighStandsFor q (high_past.finished resend with_receiver (high_past.taken_up u got) moment)
      × (sent ≡ high_past.sent_in resend with_receiver (high_past.taken_up u got) moment)

  module _ (look : HighLook) (ready : IsHighReady m store) (count : high_count store ≡ high.removed_of q) (up : high.is_down q ≡ false) (between : high.IsBetweenLooks q)
      (row : high.row_of q ≡ high.row_of c.high) (shape : shape_of ends ≡ shape_of c.ends) where
    -- nothing is removed
    looks_keeping : (back : Option ℕ) → Returns p.world back p.world → IsFine p.world back → store ≡ c.high_store → look.removed ≡ None → look.published ≡ None
        → Seen c.row.resend attaches None look.sent past → Leads back look
    looks_keeping back returns fine same removed published (got, takes, stood, sent) =
        let fetched = fetched_by (shape_of c.ends) c.ends ends q stands.ends.low stands.ends.high None (high_past.wants past) past.removed got stands.ends.stand takes in
        let times : stands.ends.high.times ++ [] ≡ p.times = append-nil stands.ends.high.times ∙ stands.ends.times in
        let disks : DisksFit m c.row (low_disk c.low_store) (high_disk store) (recv_disk c.receiver) p.world =
        subst (λ (s : HighStore D). DisksFit m c.row (low_disk c.low_store) (high_disk s) (recv_disk c.receiver) p.world) (sym same) stands.disks in
        let e = ended m c p stands moment order q store ends attaches look.sent ready count up between row shape past.removed past.hand p.world p.times stands.world stands.sound.rest stands.sound.lawful stands.sound.fits stands.sound.sends stands.sound.answered disks
        got (subst (λ (l : List ℕ). FetchedBy ends q stands.ends.low l (held_in c.ends) (high_past.wants past) got) times fetched) stood sent in
        record {
          end = e.end;
          printed = e.printed;
          leads = leads_fine c.row attaches p moment back e.end e.printed fine (p, [], e.printed, keeps m c p stands moment back returns, e.is_sending, refl);
          printed_is = e.printed_is ∙ sym (ap (λ (t : Option ℕ × Option ℕ). removed_line c.row.id moment t.0 t.1 ++ sent_line c.row.id moment look.sent) (λ i. (removed i, published i)));
          stand = e.stand;
          fits = all_alone m c p stands (looked_parts m c moment q store ends look.sent) e.end refl (ap high_disk same) refl;
        }

    -- the message in the hand is removed
    module _ (k : ℕ) (takes_hand : TakesHand c p k) where
      abbrev u : World
      u = without_first p.world

      abbrev time : Option ℕ
      time = time_in m c p stands moment

      kept : HoldsWorld (record (kept_of p.returned_before c) { removed = past.removed + 1; high_hand = None }) u
      kept = record {
        capacity = stands.world.capacity;
        low_hand = stands.world.low_hand;
        low_payload = stands.world.low_payload;
        held = stands.world.held;
        held_payloads = stands.world.held_payloads;
        high_hand = refl;
        high_payload = tt;
        removed = ap (λ x. x + 1) stands.world.removed;
        accepted = stands.world.accepted;
        received = stands.world.received;
        end = stands.world.end;
        sent = stands.world.sent;
        returned = stands.world.returned;
      }

      at_rest : IsAtRest u
      at_rest = record { storing = stands.sound.rest.storing; due = refl; removing = refl; packet = stands.sound.rest.packet; taking = stands.sound.rest.taking }

      abbrev next : high_past.ProcessPast
      next = record past { removed = past.removed + 1; hand = None; times = p.times ++ option_to_list time }

      next_is : high_past.begun Remove past moment ≡ next
      next_is = refl

      looks_removing : is_ahead p.world k ≡ false → Removing m c.high_store store (went look) → look.removed ≡ Some past.removed → look.published ≡ time
          → Seen c.row.resend attaches time look.sent (high_past.begun Remove past moment) → Leads (Some k) look
      looks_removing fine removing removed published seen =
          let (got, takes, stood, sent) = subst (Seen c.row.resend attaches time look.sent) next_is seen in
          let fetched = fetched_by (shape_of c.ends) c.ends ends q stands.ends.low stands.ends.high time (high_past.wants next) next.removed got stands.ends.stand takes in
          let times : stands.ends.high.times ++ option_to_list time ≡ p.times ++ option_to_list time = ap (λ (l : List ℕ). l ++ option_to_list time) stands.ends.times in
          let lawful = runs_lawfully p.world (ReturnTaken k ∷ RemoveBegin ∷ RemoveEnd ∷ []) u stands.sound.lawful (with_due p.world, takes_hand.returns, removal m c p stands) in
          let disks = removed_disks m c p stands store look k takes_hand ready removing in
          let e = ended m c p stands moment order q store ends attaches look.sent ready count up between row shape next.removed None u next.times kept at_rest lawful stands.sound.fits stands.sound.sends stands.sound.answered disks
          got (subst (λ (l : List ℕ). FetchedBy ends q stands.ends.low l (held_in c.ends) (high_past.wants next) got) times fetched) stood sent in
          let first = removed_line c.row.id moment (Some past.removed) time in
          record {
            end = e.end;
            printed = first ++ e.printed;
            leads = leads_fine c.row attaches p moment (Some k) e.end (first ++ e.printed) fine
                (record p { world = u; times = next.times }, first, e.printed, removes m c p stands moment k takes_hand, e.is_sending, refl);
            printed_is = ap (λ (l : List Event). first ++ l) e.printed_is ∙ sym (ap (λ (t : Option ℕ × Option ℕ). removed_line c.row.id moment t.0 t.1 ++ sent_line c.row.id moment look.sent) (λ i. (removed i, published i)));
            stand = e.stand;
            fits = record {
              low = low_alone m c p stands (LowFitsAfter c.row p e.end) (low_disk c.low_store) refl;
              high = high_leaves m c p stands (HighFits c.row e.end.world) store removing.moves (λ x is. inl (subst (λ n. HighStands c.row n x) (sym e.removed_is) is));
              recv = recv_alone m c p stands (RecvFits c.row e.end.world) (recv_disk c.receiver) refl;
            };
          }

    abbrev LookedBy : Task → Bool → ℕ → Type 0
    LookedBy task with_receiver resend =
        (look.removed ≡ high_past.removed_in task past) × (look.published ≡ high_past.published_in task past moment)
        × Seen resend with_receiver (high_past.published_in task past moment) look.sent (high_past.begun task past moment)

    by_task : (task : Task) (back : Option ℕ) → Asks c p back task → Fares m task c.high q c.high_store store (went look) → LookedBy task attaches c.row.resend → Leads back look
    by_task Keep None asked fares (a, b, seen) = looks_keeping None refl tt fares.1 a b seen
    by_task Keep (Some k) asked fares (a, b, seen) = looks_keeping (Some k) asked.0 asked.1 fares.1 a b seen
    by_task Remove None asked fares seen = absurd asked
    by_task Remove (Some k) asked fares (a, b, seen) = looks_removing k asked.0 asked.1 fares.0 a b seen
    by_task (Refuse e) back asked fares seen = let no = fares.0 in absurd (cc)

    pub looks : (frame : Option Frame) (back : Option ℕ) → ComesBack c.row.id p.world attaches frame back
        → Fares m (high.task_at c.high frame) c.high q c.high_store store (went look)
        → Looked (shape_of c.ends) true (StandsFitting (EndsStand ends) q) stands.ends.low stands.ends.high c.high q past moment (high.task_at c.high frame) (high.attaches_at c.high frame) look
        → Leads back look
    looks frame back comes fares looked =
        let same : high.attaches_at c.high frame ≡ attaches =
        ap (λ (r : SessionRow). attaches_in r.id frame) stands.high_ready.row ∙ attaches_is c.row.id p.world attaches frame back comes in
        let resend : (high.row_of c.high).resend ≡ c.row.resend = ap (λ (r : SessionRow). r.resend) stands.high_ready.row in
        let task = high.task_at c.high frame in
        let seen : LookedBy task (high.attaches_at c.high frame) (high.row_of c.high).resend =
        (ap (λ (l : HighLook). l.removed) looked.is, ap (λ (l : HighLook). l.published) looked.is, (looked.got, looked.ends, looked.stands, ap (λ (l : HighLook). l.sent) looked.is)) in
        by_task task back (asks m c p stands attaches frame back comes) fares (subst (λ (t : Bool × ℕ). LookedBy task t.0 t.1) (λ i. (same i, resend i)) seen)
