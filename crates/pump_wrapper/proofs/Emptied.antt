-- The disks of a pump that was opened and emptied.
use Rattle.std.proofs.Common.{◌≡◌, inl, inr, ℕ, ◌≤◌, false, List, Ok, Err, refl, sym, subst, arith}
use Rattle.disk_model.specs.Disk.{Meaning}
use Rattle.disk_model.specs.declared.name.Role.{Role}
use Rattle.disk_model.specs.declared.name.Role.TheVariants as roles
use Rattle.pump_frame.specs.declared.payload.Payload.{Payload}
use Rattle.pump_frame.specs.declared.row.SessionRow.{SessionRow}
use Rattle.recovery.specs.Moves.{disk_of}
use Rattle.recovery.specs.declared.trio.Trio.{Trio}
use Rattle.script_reader.specs.Openings.{Found, accepted_in}
use Rattle.script_reader.specs.Past.{Past}
use Rattle.two_worlds.specs.declared.applied.Stop.{Stop}
use Rattle.two_worlds.specs.declared.pump.Pump.{Pump}
use Rattle.world_laws.specs.Disks.{LeaveWorld}
use Rattle.two_worlds.specs.Openings.{IsLeft}
use Rattle.two_worlds.specs.Pumps.{StandsFor, StandsOrFails, disk_at}
use Rattle.pump_wrapper.specs.Comparing.{Begins}
use Rattle.pump_wrapper.specs.Crashes.{KeepsPrefix}
use Rattle.pump_wrapper.specs.Sending.{RoseBy}
use Rattle.pump_wrapper.specs.Wraps.{Drains, HasAll, HasPassed}
use Rattle.pump_wrapper.specs.WrapEnds.{CountOn, Empties, EndsEarly, KeepsPrefixOf, Stand}
use Rattle.pump_wrapper.specs.declared.file_sender.WrapEnd.TheVariants as ends
use Rattle.pump_wrapper.proofs.Ending.{stop_cause, halts_end, halts_prefix, passed_prefix}
use Rattle.pump_wrapper.proofs.Prefixes.{begins_same}
use Rattle.pump_wrapper.proofs.Joining.{keeps_then, left_keeps}

pub each_disk : {D : Type 0} {g : _} (t : Pump D g) (low high recv : D) → low ≡ disk_at roles.Low t → high ≡ disk_at roles.High t → recv ≡ disk_at roles.Recv t
    → (role : Role) → disk_of (record { low = low; high = high; recv = recv }) role ≡ disk_at role t
each_disk t low high recv a b c roles.Low = a
each_disk t low high recv a b c roles.High = b
each_disk t low high recv a b c roles.Recv = c

-- a pump s was opened over the old disks, and came to t, whose disks are these
module _ {D : Type 0} {g : _} (m : Meaning D) (row : SessionRow) (old new : Trio D) (s t : Pump D g)
    (opened : m.tells → (f : Found) × Stand m row old f)
    (before : (role : Role) → m.count (disk_of old role) ≤ m.count (disk_at role s))
    (counts : (role : Role) → m.count (disk_at role s) ≤ m.count (disk_at role t))
    (disks : (role : Role) → disk_of new role ≡ disk_at role t)
    (all_in : m.tells → (messages : List (List ℕ)) (q : Past) → StandsFor m t q → HasPassed messages q.world → HasAll m row messages new)
    (leave : (q : Past) → StandsOrFails m t q → LeaveWorld m row q.world new.low new.high new.recv)
    (left : IsLeft m row roles.Recv old.recv (disk_at roles.Recv s) false)
    (drained : m.tells → (f : Found) → Stand m row old f → (all : List Payload) → Begins (accepted_in f) all → KeepsPrefix m row all (disk_at roles.Recv s) (disk_at roles.Recv t)) where
  counted : CountOn m old new
  counted role = subst (λ (d : D). m.count (disk_of old role) ≤ m.count d) (sym (disks role)) (let one = before role in let other = counts role in omega (arith, one, other))

  kept : m.tells_images → (f : Found) → Stand m row old f → (all : List Payload) → Begins (accepted_in f) all → KeepsPrefixOf m row all old.recv new.recv
  kept told f stand all begins some prefix =
      let tells = m.images_tell told in
      keeps_then m row all old.recv (disk_at roles.Recv s) new.recv (left_keeps m row all old.recv (disk_at roles.Recv s) false left tells some (λ told. prefix))
      (subst (λ (d : D). KeepsPrefix m row all (disk_at roles.Recv s) d) (sym (disks roles.Recv)) (drained tells f stand all begins))

  pub empties : (m.tells → (f : Found) → Stand m row old f → Drains m t row f (Ok tt)) → Empties m row old new
  empties drains = record {
    counts = counted;
    opened = opened;
    emptied = λ told f stand. (let (q, led, stands, passed) = drains told f stand in all_in told (accepted_in f) q stands passed);
    images = λ told f stand.
        let (q, led, stands, passed) = drains (m.images_tell told) f stand in
        passed_prefix m row new t leave (accepted_in f) (accepted_in f) (q, stands, passed) (begins_same _ _ refl) told;
    keeps = kept;
  }

  pub stops_early : (stop : Stop) → RoseBy m s t stop → (m.tells → (f : Found) → Stand m row old f → Drains m t row f (Err stop)) → EndsEarly m row old (ends.Stopped stop) new
  stops_early stop rose drains = record {
    early = tt;
    cause = stop_cause m old new s t before disks stop rose;
    refused = tt;
    opened = λ told. inr (opened told);
    ends = λ told left f stand. inr (halts_end m row new t leave (accepted_in f) (accepted_in f) stop (drains told f stand) left (inl refl) told);
    images = λ told f stand all begins was. halts_prefix m row new t leave (accepted_in f) (accepted_in f) stop (drains (m.images_tell told) f stand) all begins told;
    keeps = kept;
  }
