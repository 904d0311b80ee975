-- What the disks of a pump hold that is emptied.
use Rattle.std.proofs.Common.{◌≡◌, ℕ, ◌+◌, ◌^◌, ◌<◌, ◌≤◌, Bool, true, false, List, [], ◌∷◌, ◌++◌, length, drop, Option, Some, None, refl, sym, ap, ◌∙◌, subst, arith, append-nil, length-append}
use Rattle.std.specs.Prelude.{◌&&◌, if◌then◌else◌}
use Rattle.std.specs.List.{All}
use Rattle.disk_model.specs.Disk.{Meaning}
use Rattle.pump_frame.specs.declared.payload.Payload.{Payload}
use Rattle.pump_frame.specs.declared.row.SessionRow.{SessionRow}
use Rattle.pump_core.specs.Events.{with_kept}
use Rattle.pump_core.specs.Lawful.{IsPrefixOf}
use Rattle.pump_core.specs.World.{World}
use Rattle.recovery.specs.declared.trio.Trio.{Trio}
use Rattle.script_reader.specs.Highs.{log_end, receiver_size}
use Rattle.script_reader.specs.Openings.{CanOpen}
use Rattle.script_reader.specs.Past.{Past}
use Rattle.stable_buffer.specs.Log.{RecvStands}
use Rattle.stable_buffer.specs.Stands.{LowStands, HighStands}
use Rattle.two_worlds.specs.declared.pump.Pump.{Pump}
use Rattle.two_worlds.specs.declared.pump.state.PumpState.{PumpState}
use Rattle.two_worlds.specs.declared.pump.state.PumpState.TheVariants.{Open, Shut}
use Rattle.world_laws.specs.Disks.{crashed, StandFor, StandForLeft, LeaveWorld}
use Rattle.two_worlds.specs.Openings.{DisksStandFor, readied}
use Rattle.disk_model.specs.declared.name.Role.{Role}
use Rattle.disk_model.specs.declared.name.Role.TheVariants as roles
use Rattle.two_worlds.specs.Pumps.{StandsFor, row_of}
use Rattle.two_worlds.specs.Standing.{IsSound}
use Rattle.two_worlds.specs.States.{disks_in, StandsIn}
use Rattle.pump_wrapper.specs.Wraps.{HasPassed, HoldAll, HasAll, all_taken}

-- ---- a world at rest after a crash ----

kept_none : (b : Bool) (o : Option Payload) (ps : List Payload) → o ≡ None → with_kept b o ps ≡ ps
kept_none true None ps e = refl
kept_none true (Some p) ps e = absurd (cc e)
kept_none false o ps e = refl

and_no : (b c : Bool) → c ≡ false → (b && c) ≡ false
and_no true c e = e
and_no false c e = refl

kept_not : (b : Bool) (o : Option Payload) (ps : List Payload) → b ≡ false → with_kept b o ps ≡ ps
kept_not false o ps e = refl
kept_not true o ps e = absurd (cc e)

same_removed : (b : Bool) (n : ℕ) → b ≡ false → (if b then n + 1 else n) ≡ n
same_removed false n e = refl
same_removed true n e = absurd (cc e)

whole_prefix : (xs ys : List Payload) → IsPrefixOf xs ys → length ys ≤ length xs → xs ≡ ys
whole_prefix xs ys ([], e) le = sym (append-nil xs) ∙ e
whole_prefix xs ys (x ∷ rest, e) le = absurd (omega (arith, le, length-append xs (x ∷ rest), ap length e))

drop_whole : (xs : List Payload) → drop (length xs) xs ≡ []
drop_whole [] = refl
drop_whole (x ∷ xs) = drop_whole xs

-- three readings that stand for a world in which all is passed hold just its messages
holds_all : (row : SessionRow) (w : World) (messages : List Payload) (low high recv : List ℕ) → w.accepted ≡ messages → w.removed ≡ length messages → w.received ≡ messages
    → StandFor row w low high recv → HoldAll row messages low high recv
holds_all row w messages low high recv accepted removed received s = record {
  low_is = subst (λ (x : List Payload). LowStands row (length messages) (length messages) x low) (drop_whole messages)
      (subst (λ (n : ℕ). LowStands row (length messages) n (drop n messages) low) removed (subst (λ (x : List Payload). LowStands row (length x) w.removed (drop w.removed x) low) accepted s.low_is));
  high_is = subst (λ (n : ℕ). HighStands row n high) removed s.high_is;
  recv_is = subst (λ (x : List Payload). RecvStands row x recv) received s.recv_is;
}

can_open : (row : SessionRow) (messages : List Payload) → length messages ≤ 2 ^ 48 → log_end messages ≤ receiver_size → All (λ (x : Payload). length x ≤ row.message) messages → CanOpen row (all_taken messages)
can_open row messages count end short =
    let same : length (messages ++ []) ≡ length messages = ap length (append-nil messages) in
    record {
      agree = record { taken = omega arith; fits = omega (arith, same) };
      count = omega (arith, same, count);
      end = end;
      short = subst (All (λ (x : Payload). length x ≤ row.message)) (sym (append-nil messages)) short;
    }

left_all : {D : Type 0} (m : Meaning D) (row : SessionRow) (p : Past) (messages : List Payload) (low high recv : D) → IsSound row p → HasPassed messages p.world → m.tells
    → StandForLeft row p.world (m.reading low) (m.reading high) (m.reading recv) → HasAll m row messages (record { low = low; high = high; recv = recv })
left_all m row p messages low high recv sound passed told (a, b, c, s) =
    let w = p.world in
    let rest = sound.rest in
    let delivered = sound.lawful.delivered in
    let size : length w.accepted ≡ length messages = ap length passed.accepted in
    let accepted : (crashed w a b c).accepted ≡ messages = kept_none a w.storing w.accepted rest.storing ∙ passed.accepted in
    let removed : (crashed w a b c).removed ≡ length messages = same_removed (b && w.removing) w.removed (and_no b w.removing rest.removing) ∙ passed.removed in
    let all : w.received ≡ w.accepted = whole_prefix w.received w.accepted delivered.prefix (let has = delivered.removed in let is = passed.removed in omega (arith, has, is, size)) in
    let received : (crashed w a b c).received ≡ messages = kept_not (c && w.taking) w.packet w.received (and_no c w.taking rest.taking) ∙ all ∙ passed.accepted in
    record {
      can_open = can_open row messages (let count = s.count in omega (arith, ap length accepted, count)) (subst (λ (x : List Payload). log_end x ≤ receiver_size) received s.end)
          (subst (All (λ (x : Payload). length x ≤ row.message)) passed.accepted sound.fits);
      hold = holds_all row (crashed w a b c) messages _ _ _ accepted removed received s;
    }

pub state_sound : {D : Type 0} (m : Meaning D) (s : PumpState D) (p : Past) → StandsIn m s p → IsSound (disks_in s).row p
state_sound m (Open c) p s = s.sound
state_sound m (Shut d) p s = absurd s

-- the disks of a pump that is emptied
pub closed_all : {D : Type 0} {g : _} (m : Meaning D) (t : Pump D g) (q : Past) (messages : List Payload) (low high recv : D) → StandsFor m t q → HasPassed messages q.world → m.tells
    → LeaveWorld m (row_of t) q.world low high recv → HasAll m (row_of t) messages (record { low = low; high = high; recv = recv })
closed_all m t q messages low high recv stands passed told left = left_all m (row_of t) q messages low high recv (state_sound m t.state q stands) passed told (left.readings told)

-- ---- an opening over them ----

ready : (row : SessionRow) (role : Role) (bytes : List ℕ) → 0 < length bytes → readied row role bytes ≡ bytes
ready row role [] some = absurd (omega (arith, some))
ready row role (b ∷ bs) some = refl

-- the disks stand for these messages, all taken
pub stand_for_all : {D : Type 0} (m : Meaning D) (row : SessionRow) (messages : List Payload) (disks : Trio D) → HasAll m row messages disks
    → DisksStandFor m row disks.low disks.high disks.recv (all_taken messages)
stand_for_all m row messages disks h =
    let low = h.hold.low_is in
    let high = h.hold.high_is in
    let recv = h.hold.recv_is in
    let same : messages ++ [] ≡ messages = append-nil messages in
    let low_ready : readied row roles.Low (m.reading disks.low) ≡ m.reading disks.low = ready row roles.Low _ (let size = low.size in omega (arith, size)) in
    let high_ready : readied row roles.High (m.reading disks.high) ≡ m.reading disks.high = ready row roles.High _ (let size = high.size in omega (arith, size)) in
    let recv_ready : readied row roles.Recv (m.reading disks.recv) ≡ m.reading disks.recv = ready row roles.Recv _ (let from = recv.from in let within = recv.within in omega (arith, from, within)) in
    let none : drop (length messages) (messages ++ []) ≡ [] = ap (drop (length messages)) same ∙ drop_whole messages in
    record {
      can_open = h.can_open;
      low_is = subst (λ (bytes : List ℕ). LowStands row (length (messages ++ [])) (length messages) (drop (length messages) (messages ++ [])) bytes) (sym low_ready)
          (subst (λ (x : List Payload). LowStands row (length (messages ++ [])) (length messages) x (m.reading disks.low)) (sym none)
          (subst (λ (n : ℕ). LowStands row n (length messages) [] (m.reading disks.low)) (sym (ap length same)) low));
      high_is = subst (HighStands row (length messages)) (sym high_ready) high;
      recv_is = subst (RecvStands row messages) (sym recv_ready) recv;
    }
