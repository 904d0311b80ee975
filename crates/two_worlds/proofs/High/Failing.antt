-- A high look in which the high disk fails, or a TAKEN is refused.
use Rattle.std.proofs.Common.{◌≡◌, inr, ℕ, ◌≤◌, Bool, true, false, [], ◌∷◌, Option, Some, None, Result, Err, refl, sym, ap, ◌∙◌, subst, arith}
use Rattle.std.specs.Prelude.{◌||◌, not}
use Rattle.disk_model.specs.Disk.{Meaning}
use Rattle.disk_model.specs.declared.name.Role.TheVariants as roles
use Rattle.pump_frame.specs.declared.frame.Frame.{Frame}
use Rattle.stable_buffer.specs.Low.{low_disk}
use Rattle.stable_buffer.specs.High.{high_disk}
use Rattle.stable_buffer.specs.declared.high.HighStore.{HighStore}
use Rattle.high_receiver.specs.Receiving.{recv_disk, recv_is_open}
use Rattle.pump_core.specs.declared.event.Event.TheVariants.{ReturnTaken, RemoveBegin}
use Rattle.pump_core.proofs.Laws.{runs_lawfully}
use Rattle.passage.specs.declared.plain.PlainEnds.{PlainEnds}
use Rattle.low_process.specs.Looks as low
use Rattle.high_process.specs.States as high
use Rattle.high_process.specs.Storing.{Fares}
use Rattle.high_process.specs.declared.process.HighProcess.{HighProcess}
use Rattle.high_process.specs.declared.values.HighFault.{HighFault}
use Rattle.high_process.specs.declared.values.HighFault.TheVariants.{Ahead, Behind, Device}
use Rattle.high_process.specs.declared.values.HighLook.{HighLook}
use Rattle.high_process.specs.declared.values.Task.{Task}
use Rattle.high_process.specs.declared.values.Task.TheVariants.{Refuse, Remove, Keep}
use Rattle.script_reader.specs.Past.{Past}
use Rattle.script_reader.specs.Highs.{IsReturnBy}
use Rattle.two_worlds.specs.Standing.{Stands}
use Rattle.world_laws.specs.Disks.{HighFits, RecvFits}
use Rattle.two_worlds.specs.Doing.{LowFitsAfter, PartsFail, PartsLeaveFit}
use Rattle.two_worlds.specs.Private.HighLooks.{ComesBack, LeadsWith, BreaksWith}
use Rattle.two_worlds.specs.declared.pump.parts.Parts.{Parts}
use Rattle.two_worlds.proofs.Disks.Images.{low_alone, recv_alone, all_alone, high_leaves}
use Rattle.two_worlds.proofs.Disks.LeavesWorld.{fits_row}
use Rattle.two_worlds.proofs.High.Removals.{Asks, TakesHand, with_due, with_begun, asks}
use Rattle.two_worlds.proofs.High.Disks.{failed, broken_disks}

-- the parts after a look that has no end
abbrev pub broken_parts : {D : Type 0} → Parts D → ℕ → HighProcess → HighStore D → PlainEnds → Parts D
broken_parts c moment q store ends = record c { high = q; high_store = store; ends = ends; moment = moment }

same_count : (a b : ℕ) → Device a ≡ Device b → a ≡ b
same_count a b e = cc

or_true : (a b : Bool) → ((a || true) || b) ≡ true
or_true true b = refl
or_true false b = refl

module _ {D : Type 0} (m : Meaning D) (c : Parts D) (p : Past) (stands : Stands m c p) (moment : ℕ) (order : c.moment ≤ moment)
    (q : HighProcess) (store : HighStore D) (ends : PlainEnds) (attaches : Bool) where
  -- what a look leads to in which the high disk fails
  pub record Broken (back : Option ℕ) (faults : ℕ) : Type 0 where
    pub end : Past
    pub breaks : BreaksWith moment back roles.High p end []
    pub fails : PartsFail m (broken_parts c moment q store ends) end roles.High faults
    pub fits : PartsLeaveFit m c (broken_parts c moment q store ends) p end

  breaks_removing : (k faults : ℕ) → TakesHand c p k → Fares m Remove c.high q c.high_store store (failed (Device faults)) → Broken (Some k) faults
  breaks_removing k faults takes fares = record {
    end = record p { world = with_begun p.world; moment = moment };
    breaks = (
      refl,
      record { answered = with_due p.world; returns = takes.returns; begins = (refl, stands.sound.rest.removing, refl); rest = refl },
      refl,
    );
    fails = (
      ap (λ (b : Bool). (low.is_down c.low || b) || not (recv_is_open c.receiver)) fares.1 ∙ or_true (low.is_down c.low) (not (recv_is_open c.receiver)),
      record {
        counted = same_count faults (m.count (high_disk store)) fares.0.fault;
        lawful = runs_lawfully p.world (ReturnTaken k ∷ RemoveBegin ∷ []) (with_begun p.world) stands.sound.lawful
            (with_due p.world, takes.returns, (with_begun p.world, (refl, stands.sound.rest.removing, refl), refl));
        fits = (let f = fits_row m c p stands in record { capacity = f.capacity; count = f.count; end = f.end });
        disks = broken_disks m c p stands store (Device faults) fares.0;
      },
    );
    fits = record {
      low = low_alone m c p stands (LowFitsAfter c.row p (record p { world = with_begun p.world; moment = moment })) (low_disk c.low_store) refl;
      high = high_leaves m c p stands (HighFits c.row (with_begun p.world)) store fares.0.moves (λ x is. inr (refl, is));
      recv = recv_alone m c p stands (RecvFits c.row (with_begun p.world)) (recv_disk c.receiver) refl;
    };
  }

  breaks_by : (task : Task) (back : Option ℕ) (faults : ℕ) → Asks c p back task → Fares m task c.high q c.high_store store (failed (Device faults)) → Broken back faults
  breaks_by Keep back faults asked fares = absurd fares.0
  breaks_by Remove None faults asked fares = absurd asked
  breaks_by Remove (Some k) faults asked fares = breaks_removing k faults asked.0 fares
  breaks_by (Refuse e) None faults asked fares = absurd asked
  breaks_by (Refuse (Ahead n next)) (Some k) faults asked fares = let no = fares.0 in absurd (cc)
  breaks_by (Refuse (Behind n next)) (Some k) faults asked fares = absurd asked
  breaks_by (Refuse (Device n)) (Some k) faults asked fares = absurd asked

  pub breaks : (frame : Option Frame) (back : Option ℕ) (faults : ℕ) → ComesBack c.row.id p.world attaches frame back
      → Fares m (high.task_at c.high frame) c.high q c.high_store store (failed (Device faults)) → Broken back faults
  breaks frame back faults comes fares = breaks_by (high.task_at c.high frame) back faults (asks m c p stands attaches frame back comes) fares

  -- ---- a TAKEN that is refused ----

  -- what a look leads to that does nothing
  pub record Refused (back : Option ℕ) : Type 0 where
    pub end : Past
    pub leads : LeadsWith c.row moment attaches back p end []
    pub stand : Stands m (broken_parts c moment q store ends) end
    pub fits : PartsLeaveFit m c (broken_parts c moment q store ends) p end

  waits : Stands m (record c { moment = moment }) (record p { moment = moment })
  waits = record {
    row = stands.row;
    arrivals = record {
      waits = stands.arrivals.waits;
      broken = stands.arrivals.broken;
      reading = stands.arrivals.reading;
      few = stands.arrivals.few;
    };
    world = stands.world;
    sound = record { rest = stands.sound.rest; lawful = stands.sound.lawful; fits = stands.sound.fits; sends = stands.sound.sends; answered = stands.sound.answered };
    moment = refl;
    low_ready = record {
      history = stands.low_ready.history;
      store = stands.low_ready.store;
      up = stands.low_ready.up;
      between = stands.low_ready.between;
      row = stands.low_ready.row;
      last = omega (arith, stands.low_ready.last, order);
    };
    high_ready = record {
      past = stands.high_ready.past;
      store = stands.high_ready.store;
      count = stands.high_ready.count;
      up = stands.high_ready.up;
      between = stands.high_ready.between;
      row = stands.high_ready.row;
      last = omega (arith, stands.high_ready.last, order);
    };
    recv_ready = record { ready = stands.recv_ready.ready; row = stands.recv_ready.row; size = stands.recv_ready.size };
    ends = record {
      low = stands.ends.low;
      high = stands.ends.high;
      stand = stands.ends.stand;
      shape = stands.ends.shape;
      times = stands.ends.times;
      low_fits = stands.ends.low_fits;
      high_fits = stands.ends.high_fits;
    };
    packets = record { sent = stands.packets.sent; returned = stands.packets.returned; taken = stands.packets.taken };
    disks = stands.disks;
  }

  refused_by : (task : Task) (back : Option ℕ) (n next : ℕ) → Asks c p back task → Fares m task c.high q c.high_store store (failed (Ahead n next)) → ends ≡ c.ends → Refused back
  refused_by Keep back n next asked fares same = absurd fares.0
  refused_by Remove back n next asked fares same = let no = fares.0.fault in absurd (cc)
  refused_by (Refuse e) None n next asked fares same = absurd asked
  refused_by (Refuse (Ahead k e)) (Some back) n next asked fares same = record {
    end = record p { moment = moment };
    leads = subst (λ (b : Bool). IsReturnBy b c.row attaches p moment back (record p { moment = moment }) []) (sym asked) (refl, refl);
    stand = subst (λ (d : Parts D). Stands m d (record p { moment = moment })) (λ i. record c { high = sym fares.1 i; high_store = sym fares.2 i; ends = sym same i; moment = moment }) waits;
    fits = all_alone m c p stands (broken_parts c moment q store ends) (record p { moment = moment }) refl (ap high_disk fares.2) refl;
  }
  refused_by (Refuse (Behind k e)) (Some back) n next asked fares same = absurd asked
  refused_by (Refuse (Device k)) (Some back) n next asked fares same = absurd asked

  pub refused : (frame : Option Frame) (back : Option ℕ) (n next : ℕ) → ComesBack c.row.id p.world attaches frame back
      → Fares m (high.task_at c.high frame) c.high q c.high_store store (failed (Ahead n next)) → ends ≡ c.ends → Refused back
  refused frame back n next comes fares same = refused_by (high.task_at c.high frame) back n next (asks m c p stands attaches frame back comes) fares same

  behind_by : (task : Task) (back : Option ℕ) (n removed : ℕ) → Asks c p back task → Fares m task c.high q c.high_store store (failed (Behind n removed)) → ⊥
  behind_by Keep back n removed asked fares = fares.0
  behind_by Remove back n removed asked fares = let no = fares.0.fault in absurd (cc)
  behind_by (Refuse e) None n removed asked fares = asked
  behind_by (Refuse (Ahead k e)) (Some back) n removed asked fares = let no = fares.0 in absurd (cc)
  behind_by (Refuse (Behind k e)) (Some back) n removed asked fares = asked
  behind_by (Refuse (Device k)) (Some back) n removed asked fares = asked

  -- no TAKEN is behind, nor does a receiver attach with fewer messages than were removed
  pub never_behind : (frame : Option Frame) (back : Option ℕ) (n removed : ℕ) → ComesBack c.row.id p.world attaches frame back
      → Fares m (high.task_at c.high frame) c.high q c.high_store store (failed (Behind n removed)) → ⊥
  never_behind frame back n removed comes fares = behind_by (high.task_at c.high frame) back n removed (asks m c p stands attaches frame back comes) fares

-- what becomes of the store, by the fault that was answered
pub fared : {D : Type 0} (m : Meaning D) (task : Task) (p q : HighProcess) (old new : HighStore D) (result : Result HighLook HighFault) (e : HighFault)
    → result ≡ Err e → Fares m task p q old new result → Fares m task p q old new (failed e)
fared m task p q old new result e is fares = subst (λ r. Fares m task p q old new r) is fares
