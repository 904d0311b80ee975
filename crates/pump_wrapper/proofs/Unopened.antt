-- What a pump that was not opened leaves.
use Rattle.std.proofs.Common.{◌≡◌, ◌⊎◌, inl, inr, ℕ, ◌≤◌, ◌<◌, Bool, true, false, List, [], length, Option, Some, None, refl, sym, ap, ◌∙◌, subst, arith}
use Rattle.std.specs.Prelude.{◌&&◌, IfSome}
use Rattle.disk_model.specs.Disk.{Meaning}
use Rattle.disk_model.specs.declared.name.Role.{Role}
use Rattle.disk_model.specs.declared.name.Role.TheVariants as roles
use Rattle.pump_frame.specs.Counts.{Rose}
use Rattle.pump_frame.specs.declared.payload.Payload.{Payload}
use Rattle.pump_frame.specs.declared.row.SessionRow.{SessionRow}
use Rattle.recovery.specs.Calls.{is_device}
use Rattle.recovery.specs.Moves.{disk_of}
use Rattle.recovery.specs.declared.trio.Trio.{Trio}
use Rattle.recovery.specs.declared.why.Why.{Why}
use Rattle.recovery.specs.declared.why.Why.TheVariants as whys
use Rattle.script_reader.specs.Openings.{Found, accepted_in}
use Rattle.stable_buffer.specs.Format.{new_bytes}
use Rattle.stable_buffer.specs.Log.{RecvStands}
use Rattle.two_worlds.specs.Openings.{ComeBack, IsLeft, LeavesDisk, StandForFound, disk_back, readied}
use Rattle.two_worlds.specs.Rooms.{is_role}
use Rattle.two_worlds.proofs.Disks.Leaving.{leaves_alone}
use Rattle.pump_wrapper.specs.Wraps.{end_of_opening}
use Rattle.pump_wrapper.specs.Crashes.{HasPrefix, LeavesPrefix}
use Rattle.pump_wrapper.specs.WrapEnds.{Ends, EndsEarly, EndsOn, FailsFormat, HasDiskCause, RefusesDisks, Stand}
use Rattle.pump_wrapper.specs.declared.file_sender.WrapEnd.TheVariants as ends
use Rattle.pump_wrapper.proofs.Prefixes.{begins_same}
use Rattle.pump_wrapper.proofs.Going.{served_later, served_rose}
use Rattle.pump_wrapper.proofs.Joining.{left_keeps}
use Rattle.pump_wrapper.proofs.Leaving.{ready, low_some, high_some, recv_some}

both_roles : (a b : Role) → is_role a b ≡ true → a ≡ b
both_roles roles.Low roles.Low e = refl
both_roles roles.High roles.High e = refl
both_roles roles.Recv roles.Recv e = refl
both_roles roles.Low roles.High e = absurd (cc)
both_roles roles.Low roles.Recv e = absurd (cc)
both_roles roles.High roles.Low e = absurd (cc)
both_roles roles.High roles.Recv e = absurd (cc)
both_roles roles.Recv roles.Low e = absurd (cc)
both_roles roles.Recv roles.High e = absurd (cc)

right_true : (a b : Bool) → (a && b) ≡ true → b ≡ true
right_true true b e = e
right_true false b e = absurd (cc)

left_false : (a b : Bool) → a ≡ false → (a && b) ≡ false
left_false false b e = refl
left_false true b e = absurd (cc)

right_false : (a b : Bool) → b ≡ false → (a && b) ≡ false
right_false true b e = e
right_false false b e = refl

two_roles : (a b : Role) → (a ≡ b → ⊥) → is_role a b ≡ false
two_roles roles.Low roles.Low differ = absurd (differ refl)
two_roles roles.Low roles.High differ = refl
two_roles roles.Low roles.Recv differ = refl
two_roles roles.High roles.Low differ = refl
two_roles roles.High roles.High differ = absurd (differ refl)
two_roles roles.High roles.Recv differ = refl
two_roles roles.Recv roles.Low differ = refl
two_roles roles.Recv roles.High differ = refl
two_roles roles.Recv roles.Recv differ = absurd (differ refl)

module _ {D : Type 0} (m : Meaning D) (row : SessionRow) where
  -- a disk that stood for something once it was formatted does so still, or it was empty and its own call failed
  still : (role : Role) (old new : D) (b : Bool) → IsLeft m row role old new b → m.tells → 0 < length (readied row role (m.reading old))
      → (readied row role (m.reading new) ≡ readied row role (m.reading old)) ⊎ ((m.reading old ≡ []) × (b ≡ true))
  still role old new b (inl moves) told some = inl (ap (readied row role) (moves.reads told))
  still role old new true (inr made) told some = inr ((made told).0, refl)
  still role old new false (inr made) told some =
      let (none, now) = made told in
      let was : readied row role (m.reading old) ≡ new_bytes row role 0 = ap (readied row role) none in
      let is : m.reading new ≡ new_bytes row role 0 = now refl in
      inl (ap (readied row role) is ∙ ready row role (new_bytes row role 0) (subst (λ (l : List ℕ). 0 < length l) was some) ∙ sym was)

  -- an image of a receiver's disk that is as it was
  image_still : (all : List Payload) (old new : D) (b : Bool) → IsLeft m row roles.Recv old new b → m.tells_images → LeavesPrefix m row all old → LeavesPrefix m row all new
  image_still all old new b (inl moves) told prefix image is =
      let (d, was, same) = moves.now told image is in
      let (messages, stands, begins) = prefix d was in
      (messages, subst (RecvStands row messages) (sym same) stands, begins)
  image_still all old new b (inr made) told prefix image is =
      let none = (made (m.images_tell told)).0 in
      let (messages, stands, begins) = prefix (m.reading old) (m.reads_image told old) in
      let some = recv_some row messages (m.reading old) stands in
      absurd (omega (arith, some, ap length none))

  module _ (old : Trio D) (role : Role) (low high recv : D) where
    abbrev new : Trio D
    new = record { low = low; high = high; recv = recv }

    abbrev Back : Option Why → Type 0
    Back why = ComeBack m row old.low old.high old.recv (record { role = role; why = why; low = low; high = high; recv = recv })

    counts_rose : (why : Why) → Back (Some why) → is_device why ≡ true → Rose (m.count (disk_of old role)) (m.count (disk_of new role))
    counts_rose why c dev = by role refl
      where
        by : (r : Role) → role ≡ r → Rose (m.count (disk_of old role)) (m.count (disk_of new role))
        by roles.Low e = rw (e) (served_rose m _ _ _ (rw (e, dev) at c.low_disk.serves))
        by roles.High e = rw (e) (served_rose m _ _ _ (rw (e, dev) at c.high_disk.serves))
        by roles.Recv e = rw (e) (served_rose m _ _ _ (rw (e, dev) at c.recv_disk.serves))

    cause : (why : Why) → Back (Some why) → HasDiskCause m old new (ends.Refused role why)
    cause (whys.Device faults) c = (by role refl, counts_rose (whys.Device faults) c refl)
      where
        by : (r : Role) → role ≡ r → faults ≡ m.count (disk_of new role)
        by roles.Low e = rw (e) (let same = rw (e) at (c.counted refl) in cc)
        by roles.High e = rw (e) (let same = rw (e) at (c.counted refl) in cc)
        by roles.Recv e = rw (e) (let same = rw (e) at (c.counted refl) in cc)
    cause (whys.NotABuffer size bytes) c = tt
    cause (whys.WrongShape field found wanted) c = tt
    cause (whys.BadRegister first second) c = tt
    cause (whys.Mismatch removed accepted) c = tt
    cause (whys.BadSlot number length) c = tt
    cause (whys.Apart count bound) c = tt
    cause (whys.Differs number) c = tt
    cause (whys.NotEmpty size) c = tt
    cause (whys.Small held capacity) c = tt
    cause (whys.TooLong number length) c = tt

    refused : (why : Why) → Back (Some why) → RefusesDisks m row old (ends.Refused role why) new
    refused why c told other = record { first = c.refused other told; left = left }
      where
        left : (r : Role) → IsLeft m row r (disk_of old r) (disk_of new r) false
        left roles.Low = subst (IsLeft m row roles.Low old.low low) (left_false (is_device why) (is_role roles.Low role) other) c.low_disk.left
        left roles.High = subst (IsLeft m row roles.High old.high high) (left_false (is_device why) (is_role roles.High role) other) c.high_disk.left
        left roles.Recv = subst (IsLeft m row roles.Recv old.recv recv) (left_false (is_device why) (is_role roles.Recv role) other) c.recv_disk.left

    -- a disk of another role than the failed one's
    other_left : (why : Why) → Back (Some why) → (r : Role) → (r ≡ role → ⊥) → IsLeft m row r (disk_of old r) (disk_of new r) false
    other_left why c roles.Low differ = subst (IsLeft m row roles.Low old.low low) (right_false (is_device why) (is_role roles.Low role) (two_roles roles.Low role differ)) c.low_disk.left
    other_left why c roles.High differ = subst (IsLeft m row roles.High old.high high) (right_false (is_device why) (is_role roles.High role) (two_roles roles.High role differ)) c.high_disk.left
    other_left why c roles.Recv differ = subst (IsLeft m row roles.Recv old.recv recv) (right_false (is_device why) (is_role roles.Recv role) (two_roles roles.Recv role differ)) c.recv_disk.left

    -- the empty disk of this role failed
    fails : (why : Why) (left : Option (List ℕ)) (r : Role) → Back (Some why) → is_device why ≡ true → m.reading (disk_of old r) ≡ [] → (is_device why && is_role r role) ≡ true → FailsFormat m row left left old (ends.Refused role why) new
    fails why left r c dev none e =
        let same : r ≡ role = both_roles r role (right_true (is_device why) (is_role r role) e) in
        record {
          role = role;
          faults = m.count (disk_back role (record { role = role; why = Some why; low = low; high = high; recv = recv }));
          end_is = ap (ends.Refused role) (c.counted dev);
          empty = subst (λ (x : Role). m.reading (disk_of old x) ≡ []) same none;
          unread = refl;
          others = other_left why c;
        }

    stands : (why : Why) (left : Option (List ℕ)) (f : Found) → Back (Some why) → is_device why ≡ true → m.tells → Stand m row old f → Ends m row left left (accepted_in f) old (ends.Refused role why) new
    stands why left f c dev told stand =
        let same_low = still roles.Low old.low low _ c.low_disk.left told (low_some row _ _ _ _ stand.low_is) in
        let same_high = still roles.High old.high high _ c.high_disk.left told (high_some row _ _ stand.high_is) in
        let same_recv = still roles.Recv old.recv recv _ c.recv_disk.left told (recv_some row _ _ stand.recv_is) in
        elim same_low [
          | inr x ↦ inl (fails why left roles.Low c dev x.0 x.1)
          | inl a ↦ elim same_high [
            | inr x ↦ inl (fails why left roles.High c dev x.0 x.1)
            | inl b ↦ elim same_recv [
              | inr x ↦ inl (fails why left roles.Recv c dev x.0 x.1)
              | inl d ↦ inr (record {
                now = f;
                stand = subst (λ (l : List ℕ). StandForFound row f l (readied row roles.High (m.reading high)) (readied row roles.Recv (m.reading recv))) (sym a)
                    (subst (λ (l : List ℕ). StandForFound row f (readied row roles.Low (m.reading old.low)) l (readied row roles.Recv (m.reading recv))) (sym b)
                    (subst (λ (l : List ℕ). StandForFound row f (readied row roles.Low (m.reading old.low)) (readied row roles.High (m.reading old.high)) l) (sym d) stand));
                grows = begins_same (accepted_in f) (accepted_in f) refl;
                sent = inl refl;
                ends = (dev, refl);
              })
            ]
          ]
        ]

    -- the disks as they were
    as_before : (left : Option (List ℕ)) (f : Found) → low ≡ old.low → high ≡ old.high → recv ≡ old.recv → Stand m row old f → EndsOn m row left (accepted_in f) ends.Memory new
    as_before left f a b d stand = record {
      now = f;
      stand = subst (λ (x : D). Stand m row (record { low = x; high = high; recv = recv }) f) (sym a)
          (subst (λ (x : D). Stand m row (record { low = old.low; high = x; recv = recv }) f) (sym b)
          (subst (λ (x : D). Stand m row (record { low = old.low; high = old.high; recv = x }) f) (sym d) stand));
      grows = begins_same (accepted_in f) (accepted_in f) refl;
      sent = inl refl;
      ends = refl;
    }

    pub unopened : (why : Option Why) → Back why → (m.tells → (f : Found) → Stand m row old f → IfSome why (λ w. is_device w ≡ true)) → EndsEarly m row old (end_of_opening role why) new
    unopened None c stops =
        let (is, a, b, d) = c.memory refl in
        record {
          early = tt;
          cause = tt;
          refused = tt;
          opened = λ told. inl tt;
          ends = λ told left f stand. inr (as_before left f a b d stand);
          images = λ told f stand all begins before. subst (LeavesPrefix m row all) (sym d) (before tt);
          keeps = λ told f stand all begins some prefix. leaves_alone m (HasPrefix row all) old.recv recv d;
        }
    unopened (Some why) c stops = record {
      early = tt;
      cause = cause why c;
      refused = refused why c;
      opened = λ told. inl tt;
      ends = λ told left f stand. stands why left f c (stops told f stand) told stand;
      images = λ told f stand all begins before. image_still all old.recv recv _ c.recv_disk.left told (before tt);
      keeps = λ told f stand all begins some prefix. left_keeps m row all old.recv recv _ c.recv_disk.left (m.images_tell told) some (λ told. prefix);
    }

-- no count fell in an opening
pub counts_opened : {D : Type 0} (m : Meaning D) (row : SessionRow) (old : Trio D) (now : Role → D) → LeavesDisk m row roles.Low old.low (now roles.Low) false → LeavesDisk m row roles.High old.high (now roles.High) false
    → LeavesDisk m row roles.Recv old.recv (now roles.Recv) false → (role : Role) → m.count (disk_of old role) ≤ m.count (now role)
counts_opened m row old now a b c roles.Low = served_later m _ _ _ _ a.serves
counts_opened m row old now a b c roles.High = served_later m _ _ _ _ b.serves
counts_opened m row old now a b c roles.Recv = served_later m _ _ _ _ c.serves
