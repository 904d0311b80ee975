-- The steps of a sending put together.
use Rattle.std.proofs.Common.{◌≡◌, inl, ℕ, ◌+◌, ◌<◌, ◌^◌, Bool, true, false, List, ◌++◌, length, take, Option, Some, None, Result, Ok, Err, refl, sym, ap, ◌∙◌, subst, arith, append_assoc, append-nil, length-append}
use Rattle.std.specs.Prelude.{OnOk, IfErr}
use Rattle.std.specs.Io.KnownBytes.{Consumes}
use Rattle.std.proofs.KnownBytes.{Consumes-trans}
use Rattle.disk_model.specs.Disk.{Meaning, Moves, Same}
use Rattle.pump_frame.specs.Rows.{IsLawfulRow}
use Rattle.pump_frame.specs.declared.payload.Payload.{Payload}
use Rattle.pump_frame.specs.declared.row.SessionRow.{SessionRow}
use Rattle.recovery.specs.Calls.{is_device}
use Rattle.recovery.specs.Refusals.{refused_receiver}
use Rattle.recovery.specs.declared.trio.Trio.{Trio}
use Rattle.recovery.proofs.Accepts.{recv_none}
use Rattle.recovery.proofs.Rows.{row_capacity, row_message}
use Rattle.script_reader.specs.Highs.{receiver_size}
use Rattle.stable_buffer.specs.Log.{RecvStands}
use Rattle.two_worlds.proofs.Opening.Opened.{received_end}
use Rattle.pump_wrapper.specs.Comparing.{Begins, Compares, FirstDiffer}
use Rattle.pump_wrapper.specs.Cutting.{Gave, cut_bytes, to_come}
use Rattle.pump_wrapper.specs.Wrapped.{wrapped}
use Rattle.pump_wrapper.specs.Wraps.{HasAll, all_taken}
use Rattle.pump_wrapper.specs.Crashes.{LeavesPrefix}
use Rattle.pump_wrapper.specs.WrapEnds.{ComparesNot, Continues, DifferAt, EndsAt, EndsOn, TakesSoFar}
use Rattle.pump_wrapper.specs.declared.cutter.Cutter.{Cutter}
use Rattle.pump_wrapper.specs.declared.file_sender.WrapEnd.{WrapEnd}
use Rattle.pump_wrapper.specs.declared.file_sender.WrapEnd.TheVariants as ends
use Rattle.pump_wrapper.proofs.Ending.{emptied_ends}
use Rattle.pump_wrapper.proofs.Prefixes.{begins_same}

-- ---- an answer that is known ----

pub at_ok : {P : Type 0} (r : Result (Unit {0}) WrapEnd) → r ≡ Ok tt → OnOk r P → P
at_ok {P} r is h = subst (λ (x : Result (Unit {0}) WrapEnd). OnOk x P) is h

pub at_err : (P : WrapEnd → Type 0) (r : Result (Unit {0}) WrapEnd) (end : WrapEnd) → r ≡ Err end → IfErr r P → P end
at_err P r end is h = subst (λ (x : Result (Unit {0}) WrapEnd). IfErr x P) is h

-- ---- a receiver's disk that was read ----

module _ {D : Type 0} (m : Meaning D) (row : SessionRow) (low high old recv : D) (same : Moves m Same old recv) where
  abbrev old_disks : Trio D
  old_disks = record { low = low; high = high; recv = old }

  abbrev disks : Trio D
  disks = record { low = low; high = high; recv = recv }

  pub has_still : (messages : List Payload) → m.tells → HasAll m row messages old_disks → HasAll m row messages disks
  has_still messages told has = record {
    can_open = has.can_open;
    hold = record { low_is = has.hold.low_is; high_is = has.hold.high_is; recv_is = subst (RecvStands row messages) (sym (same.reads told)) has.hold.recv_is };
  }

  pub prefix_still : (all : List Payload) → m.tells_images → LeavesPrefix m row all old → LeavesPrefix m row all recv
  prefix_still all told prefix image is =
      let (d, before, step) = same.now told image is in
      let (messages, stands, begins) = prefix d before in
      (messages, subst (RecvStands row messages) (sym step) stands, begins)

  -- ---- a comparison that failed ----

  never_refused : (messages : List Payload) → row.id < 2 ^ 32 → IsLawfulRow row → HasAll m row messages old_disks → refused_receiver row receiver_size (m.reading old) ≡ None
  never_refused messages small lawful has =
      let stands = has.hold.recv_is in
      let end = received_end row messages (m.reading old) stands in
      let most = (row_capacity row lawful).1 in
      recv_none row (record { session = small; capacity = omega (arith, most); message = row_message row lawful }) receiver_size messages (m.reading old)
      (let count = has.can_open.count in omega (arith, count, ap length (append-nil messages))) (let room = has.can_open.end in omega (arith, end, room)) stands

  module _ (messages : List Payload) (start : Cutter) (left : Option (List ℕ)) (small : row.id < 2 ^ 32) (lawful : IsLawfulRow row) (first : (file : List ℕ) → to_come start file ≡ wrapped row.message file) (has : HasAll m row messages old_disks) where
    differ : (left : Option (List ℕ)) (n : ℕ) → FirstDiffer messages start left n → DifferAt row left messages n
    differ None n h = tt
    differ (Some file) n h = subst (λ (all : List Payload). (n < length messages) × Begins (take n messages) all × (Begins (take (n + 1) messages) all → ⊥)) (first file) h

    ended : (told : m.tells) (end : WrapEnd) → EndsAt row left messages (all_taken messages) end → EndsOn m row left messages end disks
    ended told end at = emptied_ends m row disks left messages messages end (has_still messages told has) (begins_same messages messages refl) (inl refl) at

    pub not_ends : m.tells → (end : WrapEnd) → ComparesNot m row old recv start left end → EndsOn m row left messages end disks
    not_ends told ends.Read h = ended told ends.Read (record { later = refl; removed = refl })
    not_ends told ends.TooLong h = ended told ends.TooLong (record { later = refl; removed = refl })
    not_ends told (ends.Differs n) h = ended told (ends.Differs n) (record { later = refl; removed = refl }, append-nil messages, differ left n (h told messages has.hold.recv_is))
    not_ends told (ends.Refused role why) (at, device, other) = by (is_device why) refl
      where
        by : (b : Bool) → is_device why ≡ b → EndsOn m row left messages (ends.Refused role why) disks
        by true e = ended told (ends.Refused role why) (e, append-nil messages)
        by false e = absurd (let some = other e told in let none = never_refused messages small lawful has in cc)
    not_ends told (ends.Done bytes count) h = absurd h
    not_ends told ends.Memory h = absurd h
    not_ends told (ends.Stopped stop) h = absurd h

-- ---- further messages ----

pub continues : (row : SessionRow) (messages : List Payload) (start new : Cutter) (left rest : Option (List ℕ)) (taken : List ℕ) → Consumes left rest taken → ((file : List ℕ) → to_come start file ≡ wrapped row.message file)
    → Compares messages start new left rest (Ok tt) → Continues row left messages new rest
continues row messages start new None rest taken c first compares more h = tt
continues row messages start new (Some l) None taken c first compares more h = absurd c
continues row messages start new (Some l) (Some r) taken c first compares more (z, e) =
    (z, sym (first l) ∙ compares ∙ ap (λ (ms : List Payload). messages ++ ms) e ∙ sym (append_assoc messages more z))

pub gave_then : (start new : Cutter) (left rest last : Option (List ℕ)) (is_long : Bool) → cut_bytes start ≡ 0 → TakesSoFar start new left rest (Ok tt) → Gave (cut_bytes new) rest last is_long → Gave 0 left last is_long
gave_then start new left rest last is_long none (one, c, long, short, counted) (other, d, all, few) =
    let size : length (one ++ other) ≡ length one + length other = length-append one other in
    let count = counted refl in (
      one ++ other,
      Consumes-trans _ _ _ _ _ c d,
      (λ e. (let a = all e in omega (arith, a, count, none, size))),
      λ e. (let a = few e in omega (arith, a, count, none, size)),
    )
