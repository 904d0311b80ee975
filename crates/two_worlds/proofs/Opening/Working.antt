-- Parts that stand for something work.
use Rattle.std.proofs.Common.{◌-◌, ◌≤◌, List, [], ◌∷◌, length, Option, Some, None, sym, subst, arith}
use Rattle.std.specs.Prelude.{All}
use Rattle.std.specs.List.{AllByRecursion}
use Rattle.std.proofs.lemmas.Option.{slice_get_within}
use Rattle.std.proofs.lemmas.List.Elements.{All-cons, All-nil, All-drop}
use Rattle.disk_model.specs.Disk.{Meaning}
use Rattle.pump_frame.specs.declared.frame.Item.{Item}
use Rattle.pump_frame.specs.declared.payload.Payload.{Payload}
use Rattle.pump_frame.specs.declared.row.SessionRow.{SessionRow}
use Rattle.pump_core.specs.Lawful.{IsMessage}
use Rattle.pump_core.proofs.Lists.{All-at, All-map}
use Rattle.passage.specs.Plain.{held_in}
use Rattle.script_reader.specs.Past.{Past}
use Rattle.two_worlds.specs.declared.pump.parts.Parts.{Parts}
use Rattle.two_worlds.specs.Standing.{Stands, IsAccepted, IsAcceptedHand, high_past_of}
use Rattle.two_worlds.specs.Working.{Works, IsShort, IsShortHand, IsPacket}

abbrev pub AreShort : SessionRow → List Payload → Type 0
AreShort row accepted = All (λ (x : Payload). length x ≤ row.message) accepted

short_hand : (row : SessionRow) (accepted : List Payload) (hand : Option Item) → AreShort row accepted → IsAcceptedHand accepted hand → IsShortHand row hand
short_hand row accepted None short h = tt
short_hand row accepted (Some x) short h = All-at (λ (x : Payload). length x ≤ row.message) accepted x.number x.payload short h

short_items : (row : SessionRow) (accepted : List Payload) (items : List Item) → AreShort row accepted → AllByRecursion (IsAccepted accepted) items → All (IsShort row) items
short_items row accepted [] short h = All-nil (IsShort row)
short_items row accepted (x ∷ xs) short h =
    All-cons (IsShort row) x xs (All-at (λ (x : Payload). length x ≤ row.message) accepted x.number x.payload short h.0) (short_items row accepted xs short h.1)

module _ {D : Type 0} (m : Meaning D) (c : Parts D) where
  packets : (p : Past) → Stands m c p → All (IsPacket c.row) c.sent.items
  packets p s =
      let each : All (IsPacket c.row) p.world.sent =
      All-map (IsMessage p.world.removed p.world.accepted) (IsPacket c.row) p.world.sent
      (λ x is. (
        All-at (λ (y : Payload). length y ≤ c.row.message) p.world.accepted x.number x.payload s.sound.fits is.payload,
        (let within = slice_get_within p.world.accepted x.number x.payload is.payload in
            let store = s.low_ready.store in
            omega (arith, within, s.world.accepted, store.count, store.ready.count)),
      )) s.sound.lawful.bounded.sent in
      subst (All (IsPacket c.row)) (sym s.world.sent) (All-drop (IsPacket c.row) (length p.world.sent - 64) p.world.sent each)

  pub works_of : (p : Past) → Stands m c p → Works m c
  works_of p s = record {
    row = s.row;
    history = p.history;
    past = high_past_of c p;
    times = p.times;
    low_ready = s.low_ready;
    high_ready = s.high_ready;
    recv_ready = s.recv_ready;
    ends = s.ends;
    packets = s.packets;
    short = record {
      low_hand = short_hand c.row p.world.accepted _ s.sound.fits s.world.low_payload;
      held = short_items c.row p.world.accepted (held_in c.ends) s.sound.fits s.world.held_payloads;
      high_hand = short_hand c.row p.world.accepted _ s.sound.fits s.world.high_payload;
      sent = packets p s;
    };
  }
