-- What the disks of a pump stand for once it is closed.
use Rattle.std.proofs.Common.{◌≡◌, ℕ, ◌+◌, ◌-◌, ◌≤◌, ◌<◌, Bool, true, List, [], ◌∷◌, ◌++◌, length, drop, slice_get, get_or, Option, None, refl, sym, ap, ◌∙◌, subst, arith}
use Rattle.std.specs.Prelude.{◌≢◌, ◌&&◌, suc}
use Rattle.std.specs.List.{All}
use Rattle.std.proofs.Math.Seq.{drop-append_seam}
use Rattle.std.proofs.lemmas.List.{drop-drop}
use Rattle.std.proofs.lemmas.List.Elements.{All-nil, All-cons, All-append, All-drop}
use Rattle.disk_model.specs.Disk.{Meaning}
use Rattle.disk_model.specs.declared.name.Role.TheVariants as roles
use Rattle.pump_frame.specs.declared.payload.Payload.{Payload}
use Rattle.pump_frame.specs.declared.row.SessionRow.{SessionRow}
use Rattle.pump_core.specs.Events.{with_kept}
use Rattle.pump_core.specs.Lawful.{IsPrefixOf, IsLawful}
use Rattle.pump_core.specs.World.{World}
use Rattle.script_reader.specs.Highs.{log_end}
use Rattle.script_reader.specs.Openings.{Found, accepted_in}
use Rattle.stable_buffer.specs.Log.{RecvStands, Records, log_of}
use Rattle.stable_buffer.specs.Stands.{LowStands, HighStands, InSlot}
use Rattle.world_laws.specs.Disks.{crashed, StandFor, StandForLeft, LeaveWorld}
use Rattle.two_worlds.specs.Openings.{StandForFound, readied}
use Rattle.world_laws.specs.Timelines.{IsAtRest}
use Rattle.pump_wrapper.specs.Comparing.{Begins}
use Rattle.pump_wrapper.specs.Halting.{found_of, HasNoRoom}
use Rattle.pump_wrapper.specs.Crashes.{LeavesPrefix}
use Rattle.pump_wrapper.proofs.Prefixes.{begins_same, begins_then, prefix_begins, kept_begins, kept_most, kept_none}

-- all that a world accepted is found
pub accepted_found : (w : World) → IsPrefixOf w.received w.accepted → accepted_in (found_of w) ≡ w.accepted
accepted_found w (rest, e) =
    let behind : drop (length w.received) w.accepted ≡ rest = ap (drop (length w.received)) (sym e) ∙ drop-append_seam w.received rest in
    ap (λ (l : List Payload). w.received ++ l) behind ∙ e

-- ---- messages on disks are short ----

slots_short : (row : SessionRow) (n : ℕ) (ms : List (List ℕ)) (disk : List ℕ) → ((i : ℕ) → i < length ms → InSlot row (n + i) (get_or ms i []) disk) → All (λ m. length m ≤ row.message) ms
slots_short row n [] disk slots = All-nil (λ m. length m ≤ row.message)
slots_short row n (m ∷ ms) disk slots = All-cons (λ m. length m ≤ row.message) m ms (slots 0 (omega arith)).fits
    (slots_short row (n + 1) ms disk (λ i lt. let e : n + suc i ≡ n + 1 + i = omega arith in subst (λ k. InSlot row k (get_or ms i []) disk) e (slots (suc i) (omega (arith, lt)))))

records_short : (most : ℕ) (ms : List (List ℕ)) (bytes : List ℕ) → Records most ms bytes → All (λ m. length m ≤ most) ms
records_short most [] bytes fill = All-nil (λ m. length m ≤ most)
records_short most (m ∷ ms) bytes (fits, is, small, same, rest) = All-cons (λ m. length m ≤ most) m ms small (records_short most ms (drop (2 + length m) bytes) rest)

-- ---- what is found ----

pub ready : (row : SessionRow) (role : _) (bytes : List ℕ) → 0 < length bytes → readied row role bytes ≡ bytes
ready row role [] some = absurd (omega (arith, some))
ready row role (b ∷ bs) some = refl

pub low_some : (row : SessionRow) (E b : ℕ) (ms : List (List ℕ)) (disk : List ℕ) → LowStands row E b ms disk → 0 < length disk
low_some row E b ms disk s = let size = s.size in omega (arith, size)

pub high_some : (row : SessionRow) (b : ℕ) (disk : List ℕ) → HighStands row b disk → 0 < length disk
high_some row b disk s = let size = s.size in omega (arith, size)

pub recv_some : (row : SessionRow) (ms : List (List ℕ)) (disk : List ℕ) → RecvStands row ms disk → 0 < length disk
recv_some row ms disk s = let from = s.from in let within = s.within in omega (arith, from, within)

pub holds_some : (row : SessionRow) (ms : List (List ℕ)) (disk : List ℕ) → RecvStands row ms disk → disk ≢ []
holds_some row ms disk s none = (let some = recv_some row ms disk s in omega (arith, some, ap length none))

-- three readings that stand for a world stand for what is found of it
stand_found : (row : SessionRow) (w : World) (low high recv : List ℕ) → StandFor row w low high recv → StandForFound row (found_of w) (readied row roles.Low low) (readied row roles.High high) (readied row roles.Recv recv)
stand_found row w low high recv s =
    let R = length w.received in
    let all = accepted_found w s.lawful.delivered.prefix in
    let above : w.removed ≤ R = s.lawful.delivered.removed in
    let within = s.lawful.bounded.within.above in
    let rest : drop (R - w.removed) (drop w.removed w.accepted) ≡ drop R w.accepted =
    drop-drop (R - w.removed) w.removed w.accepted ∙ (let e : w.removed + (R - w.removed) ≡ R = omega (arith, above) in ap (λ k. drop k w.accepted) e) in
    let short : All (λ m. length m ≤ row.message) (w.received ++ drop R w.accepted) =
    All-append (λ m. length m ≤ row.message) w.received (drop R w.accepted) (records_short row.message w.received (log_of s.recv_is.end recv) s.recv_is.records)
    (subst (All (λ m. length m ≤ row.message)) rest (All-drop (λ m. length m ≤ row.message) (R - w.removed) (drop w.removed w.accepted) (slots_short row w.removed (drop w.removed w.accepted) low s.low_is.slots))) in
    record {
      can_open = record {
        agree = record { taken = above; fits = omega (arith, ap length all, within, s.capacity) };
        count = omega (arith, ap length all, s.count);
        end = s.end;
        short = short;
      };
      low_is = subst (LowStands row (length (accepted_in (found_of w))) w.removed (drop w.removed (accepted_in (found_of w)))) (sym (ready row roles.Low low (low_some row _ _ _ low s.low_is)))
          (subst (λ (l : List Payload). LowStands row (length l) w.removed (drop w.removed l) low) (sym all) s.low_is);
      high_is = subst (HighStands row w.removed) (sym (ready row roles.High high (high_some row w.removed high s.high_is))) s.high_is;
      recv_is = subst (RecvStands row w.received) (sym (ready row roles.Recv recv (recv_some row w.received recv s.recv_is))) s.recv_is;
    }

-- what is found where a crash leaves of a world these readings
pub record FoundAgain (row : SessionRow) (w : World) (low high recv : List ℕ) : Type 0 where
  pub now : Found
  pub stand : StandForFound row now (readied row roles.Low low) (readied row roles.High high) (readied row roles.Recv recv)
  pub kept : Bool
  pub accepted_is : accepted_in now ≡ with_kept kept w.storing w.accepted
  pub received_is : w.packet ≡ None → now.received ≡ w.received

pub found_again : (row : SessionRow) (w : World) (low high recv : List ℕ) → StandForLeft row w low high recv → FoundAgain row w low high recv
found_again row w low high recv (a, b, c, s) = record {
  now = found_of (crashed w a b c);
  stand = stand_found row (crashed w a b c) low high recv s;
  kept = a;
  accepted_is = accepted_found (crashed w a b c) s.lawful.delivered.prefix;
  received_is = λ none. kept_none (c && w.taking) w.packet w.received none;
}

-- .. between the two lists between which the world's is
pub found_between : (first most : List Payload) (kept : Bool) (o : Option Payload) (accepted now : List Payload) → now ≡ with_kept kept o accepted → Begins first accepted → Begins (with_kept true o accepted) most
    → Begins first now × Begins now most
found_between first most kept o accepted now is from to = (
  begins_then first accepted now from (begins_then accepted (with_kept kept o accepted) now (kept_begins kept o accepted) (begins_same _ now is)),
  begins_then now (with_kept kept o accepted) most (begins_same now _ (sym is)) (begins_then _ (with_kept true o accepted) most (kept_most kept o accepted) to),
)

-- room that a world at rest lacks is lacking still
pub no_room_now : (row : SessionRow) (w : World) (low high recv : List ℕ) (f : FoundAgain row w low high recv) (end k size : ℕ) → IsLawful w → IsAtRest w → HasNoRoom (found_of w) end k size → HasNoRoom f.now end k size
no_room_now row w low high recv f end k size lawful rest h =
    let received = f.received_is rest.packet in
    let accepted : accepted_in f.now ≡ accepted_in (found_of w) = f.accepted_is ∙ kept_none f.kept w.storing w.accepted rest.storing ∙ sym (accepted_found w lawful.delivered.prefix) in
    record {
      message = h.message;
      next = (λ i. slice_get (accepted i) (length (received i))) ∙ h.next;
      end_is = h.end_is ∙ ap log_end (sym received);
      length_is = h.length_is;
      size_is = h.size_is;
      over = h.over;
    }

-- ---- what a crash leaves ----

pub leaves_prefix : {D : Type 0} (m : Meaning D) (row : SessionRow) (w : World) (low high recv : D) (all : List Payload) → LeaveWorld m row w low high recv → Begins (with_kept true w.storing w.accepted) all → m.tells_images
    → LeavesPrefix m row all recv
leaves_prefix m row w low high recv all leaves to told image is =
    let (a, b, c, s) = leaves.crashes told (m.reading low) (m.reading high) image (m.reads_image told low) (m.reads_image told high) is in
    let v = crashed w a b c in (
      v.received,
      s.recv_is,
      begins_then v.received v.accepted all (prefix_begins v.received v.accepted s.lawful.delivered.prefix) (begins_then v.accepted _ all (kept_most a w.storing w.accepted) to),
    )

-- a prefix of fewer messages is one of more
pub prefix_wider : {D : Type 0} (m : Meaning D) (row : SessionRow) (some all : List Payload) (recv : D) → Begins some all → LeavesPrefix m row some recv → LeavesPrefix m row all recv
prefix_wider m row some all recv more prefix image is = let (messages, stands, begins) = prefix image is in (messages, stands, begins_then messages some all begins more)
