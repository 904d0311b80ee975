-- How the comparison of two pumps ends, and what it leaves of their disks.
use Rattle.std.proofs.Common.{◌≡◌, ◌⊎◌, inl, inr, ⊎_elim, ℕ, ◌≤◌, Bool, true, false, List, length, Option, Some, None, Result, Ok, Err, IfOk, IfErr, refl, sym, ap, ◌∙◌, subst, arith}
use Rattle.disk_model.specs.Disk.{Meaning, Moves, Same}
use Rattle.disk_model.specs.declared.name.Role.{Role}
use Rattle.disk_model.specs.declared.name.Role.TheVariants as roles
use Rattle.disk_model.proofs.Run.{started, goes_on_same}
use Rattle.pump_core.specs.Lawful.{IsPrefixOf}
use Rattle.pump_frame.specs.declared.payload.Payload.{Payload}
use Rattle.pump_frame.specs.declared.row.SessionRow.{SessionRow}
use Rattle.recovery.specs.Calls.{is_device}
use Rattle.recovery.specs.declared.trio.Trio.{Trio}
use Rattle.recovery.specs.declared.why.Why.{Why}
use Rattle.recovery.specs.declared.why.Why.TheVariants.{Device}
use Rattle.script_reader.specs.Highs.{receiver_size}
use Rattle.script_reader.specs.Openings.{Found, accepted_in}
use Rattle.stable_buffer.specs.Stands.{low_size}
use Rattle.two_worlds.specs.declared.not_open.NotOpen.{NotOpen}
use Rattle.two_worlds.specs.declared.pump.Pump.{Pump}
use Rattle.world_laws.specs.Disks.{CrashesOpen}
use Rattle.two_worlds.specs.Openings.{ComeBack, LeavesDisk}
use Rattle.two_worlds.specs.Pumps.{disk_at, row_of}
use Rattle.two_worlds.specs.Reads.{ReadsAlone, ReadsOn, FailsReading}
use Rattle.two_worlds.specs.Rooms.{Serves, is_role}
use Rattle.two_worlds.proofs.Disks.Together.{serves_then}
use Rattle.two_worlds.proofs.Opening.Comparing.{goes_on, free_still, never_fails}
use Rattle.two_worlds.proofs.Opening.Refusing.{none_fails}
use Rattle.pump_chain.specs.Compared.{IsUnlike, EndsReading, IsRead, AreRead}
use Rattle.pump_chain.specs.Comparing.{Agree, IsUnlinked}
use Rattle.pump_chain.specs.Opening.{trio_of, trio_back, StandFor, HaveRoom, disk_in, is_failed, AreLeft, HandsBack, IsUnopened, IsApart, IsExcused, cause_of, is_by_device}
use Rattle.pump_chain.specs.declared.not_chained.ChainWhy.{ChainWhy}
use Rattle.pump_chain.specs.declared.not_chained.ChainWhy.TheVariants as reasons
use Rattle.pump_chain.specs.declared.six.Six.{Six}
use Rattle.pump_chain.proofs.Comparing.{differ_first, prefix_alike, prefix_short}

-- ---- roles ----

same_role : (a b : Role) → (a ≡ b) ⊎ ((is_role a b ≡ false) × (is_role b a ≡ false))
same_role roles.Low roles.Low = inl refl
same_role roles.Low roles.High = inr (refl, refl)
same_role roles.Low roles.Recv = inr (refl, refl)
same_role roles.High roles.Low = inr (refl, refl)
same_role roles.High roles.High = inl refl
same_role roles.High roles.Recv = inr (refl, refl)
same_role roles.Recv roles.Low = inr (refl, refl)
same_role roles.Recv roles.High = inr (refl, refl)
same_role roles.Recv roles.Recv = inl refl

is_itself : (role : Role) → is_role role role ≡ true
is_itself roles.Low = refl
is_itself roles.High = refl
is_itself roles.Recv = refl

-- where a disk failed nothing is said of the messages
pub pump_unlike : (from session : ℕ) (role : Role) (failed : Why) (accepted received : List Payload) (why : ChainWhy) → why ≡ reasons.Pump session role failed → IsUnlike from accepted received why
pump_unlike from session role failed accepted received why e = subst (IsUnlike from accepted received) (sym e) tt

-- ---- reads ----

module _ {D : Type 0} (m : Meaning D) where
  read_by : {g : _} (s t : Pump D g) (role : Role) (is_fault : Bool) (failed : Option Role) → ReadsAlone m role s.state t.state is_fault → is_failed role failed ≡ is_fault
      → ((other : Role) → is_role other role ≡ false → is_failed other failed ≡ false) → IsRead m s t failed
  read_by s t role is_fault failed r here there = record {
    row = r.row;
    same = λ other. ⊎_elim (λ (e : role ≡ other). subst (λ (x : Role). Moves m Same (disk_at x s) (disk_at x t)) e r.same)
        (λ (ne : (is_role role other ≡ false) × (is_role other role ≡ false)).
        subst (λ (d : D). Moves m Same (disk_at other s) d) (sym (r.others other ne.0)) (started m Same (λ c. refl) (disk_at other s))) (same_role role other);
    serves = λ other. ⊎_elim
        (λ (e : role ≡ other). subst (λ (x : Role). Serves m 0 (disk_at x s) (disk_at x t) (is_failed x failed)) e (subst (λ (b : Bool). Serves m 0 (disk_at role s) (disk_at role t) b) (sym here) r.serves))
        (λ (ne : (is_role role other ≡ false) × (is_role other role ≡ false)). inl (r.others other ne.0, there other ne.1)) (same_role role other);
  }

  pub read_on : {g : _} (s t : Pump D g) (role : Role) → ReadsOn m role s t → IsRead m s t None
  read_on s t role r = read_by s t role false None r.alone refl (λ other ne. refl)

  read_failing : {g : _} (s t : Pump D g) (role : Role) → FailsReading m role s t → IsRead m s t (Some role)
  read_failing s t role r = read_by s t role true (Some role) r.alone (is_itself role) (λ other ne. ne)

  pub unread : {g : _} (s : Pump D g) → IsRead m s s None
  unread s = record { row = refl; same = λ role. started m Same (λ c. refl) (disk_at role s); serves = λ role. inl (refl, refl) }

  pub read_then : {g : _} (s t u : Pump D g) (failed : Option Role) → IsRead m s t None → IsRead m t u failed → IsRead m s u failed
  read_then s t u failed a b = record {
    row = b.row ∙ a.row;
    same = λ role. goes_on_same m Same (disk_at role s) (disk_at role t) (disk_at role u) (a.same role) (b.same role);
    serves = λ role. serves_then m 0 (disk_at role s) (disk_at role t) (disk_at role u) (is_failed role failed) (a.serves role) (b.serves role);
  }

  pub read_both : {g : _} (s t u : Pump D g) (role other : Role) → ReadsOn m role s t → ReadsOn m other t u → IsRead m s u None
  read_both s t u role other a b = read_then s t u None (read_on s t role a) (read_on t u other b)

  -- ---- why the comparison ends ----

  module _ {g : _} (other : Role) (role_is : (other ≡ roles.Low) ⊎ (other ≡ roles.Recv)) (first mid last second between final : Pump D g) (one : IsRead m first mid None) (two : IsRead m second between None) where
    pub ends_then : (why : ChainWhy) → EndsReading m other mid last between final why → AreRead m first last second final why
    ends_then reasons.Memory e = absurd e
    ends_then (reasons.Pump session role why) (inl (number, at, fails, reads, is)) = inl (
      number ∙ ap (λ (r : SessionRow). r.id) one.row,
      at,
      subst (λ (x : Role). IsRead m first last (Some x)) (sym at) (read_then first mid last (Some roles.Recv) one (read_failing mid last roles.Recv fails)),
      read_then second between final None two (read_on between final other reads),
      is ∙ ap (λ (x : Role). Device (m.count (disk_at x last))) (sym at),
    )
    ends_then (reasons.Pump session role why) (inr (number, at, reads, fails, is)) = inr (
      number ∙ ap (λ (r : SessionRow). r.id) two.row,
      subst (λ (x : Role). (x ≡ roles.Low) ⊎ (x ≡ roles.Recv)) (sym at) role_is,
      read_then first mid last None one (read_on mid last roles.Recv reads),
      subst (λ (x : Role). IsRead m second final (Some x)) (sym at) (read_then second between final (Some other) two (read_failing between final other fails)),
      is ∙ ap (λ (x : Role). Device (m.count (disk_at x final))) (sym at),
    )
    ends_then (reasons.Link count bound) e = absurd e
    ends_then (reasons.Unlike number) (reads, others) = (read_then first mid last None one (read_on mid last roles.Recv reads), read_then second between final None two (read_on between final other others))

  -- a disk failed, of the first pump or of the second
  module _ {g : _} (other : Role) (first last second final : Pump D g) (row : SessionRow) (faults : ℕ) (why : ChainWhy) where
    pub first_fails : why ≡ reasons.Pump row.id roles.Recv (Device faults) → row ≡ row_of last → FailsReading m roles.Recv first last → ReadsOn m other second final → faults ≡ m.count (disk_at roles.Recv last)
        → EndsReading m other first last second final why
    first_fails e row_is fails reads counted =
        subst (EndsReading m other first last second final) (sym e) (inl (ap (λ (r : SessionRow). r.id) (row_is ∙ fails.alone.row), refl, fails, reads, ap (λ (n : ℕ). Device n) counted))

    pub second_fails : why ≡ reasons.Pump row.id other (Device faults) → row ≡ row_of final → ReadsOn m roles.Recv first last → FailsReading m other second final → faults ≡ m.count (disk_at other final)
        → EndsReading m other first last second final why
    second_fails e row_is reads fails counted =
        subst (EndsReading m other first last second final) (sym e) (inr (ap (λ (r : SessionRow). r.id) (row_is ∙ fails.alone.row), refl, reads, fails, ap (λ (n : ℕ). Device n) counted))

  -- what differs from a number on makes the lists unlinked, where those before it are alike
  pub unlinked_by : {g : _} (other : Role) (first last second final : Pump D g) (from : ℕ) (accepted received : List Payload) → length accepted ≤ length received → Agree 0 from accepted received
      → (why : ChainWhy) → EndsReading m other first last second final why → IsUnlike from accepted received why → is_by_device why ≡ false → IsUnlinked accepted received why
  unlinked_by other first last second final from accepted received few agree reasons.Memory e unlike none = absurd e
  unlinked_by other first last second final from accepted received few agree (reasons.Pump session role why) (inl (number, at, fails, reads, is)) unlike none = (let device = ap is_device is in absurd (cc))
  unlinked_by other first last second final from accepted received few agree (reasons.Pump session role why) (inr (number, at, reads, fails, is)) unlike none = (let device = ap is_device is in absurd (cc))
  unlinked_by other first last second final from accepted received few agree (reasons.Link count bound) e unlike none = absurd e
  unlinked_by other first last second final from accepted received few agree (reasons.Unlike number) e unlike none = (few, differ_first from number accepted received agree unlike)

  -- ---- disks that come back ----

  pub left_then : {g : _} (row : SessionRow) (old : Trio D) (s t : Pump D g) (failed : Option Role) → AreLeft m row old (trio_of s) None → IsRead m s t failed → AreLeft m row old (trio_of t) failed
  left_then row old s t failed a r = record {
    low = goes_on m row roles.Low old.low (disk_at roles.Low s) (disk_at roles.Low t) (is_failed roles.Low failed) a.low (r.serves roles.Low) (r.same roles.Low);
    high = goes_on m row roles.High old.high (disk_at roles.High s) (disk_at roles.High t) (is_failed roles.High failed) a.high (r.serves roles.High) (r.same roles.High);
    recv = goes_on m row roles.Recv old.recv (disk_at roles.Recv s) (disk_at roles.Recv t) (is_failed roles.Recv failed) a.recv (r.serves roles.Recv) (r.same roles.Recv);
  }

  -- a pump was opened on these disks, then read, and closed
  pub record Closes {g : _} (row : SessionRow) (old : Trio D) (s t : Pump D g) : Type 0 where
    pub found : m.tells → (f : Found) × StandFor m row old f
    pub left : AreLeft m row old (trio_of s) None
    pub row_is : row_of s ≡ row
    pub row_still : row_of t ≡ row
    pub crashes : CrashesOpen m (row_of t) (disk_at roles.Low t) (disk_at roles.High t) (disk_at roles.Recv t)

  pub hands_back : {g : _} (row : SessionRow) (old : Trio D) (s t : Pump D g) (failed : Option Role) → Closes row old s t → IsRead m s t failed → HandsBack m row old (trio_of t) failed
  hands_back row old s t failed c r = record {
    found = c.found;
    left = left_then row old s t failed c.left r;
    crashes = subst (λ (x : SessionRow). CrashesOpen m x (disk_at roles.Low t) (disk_at roles.High t) (disk_at roles.Recv t)) c.row_still c.crashes;
  }

  -- a pump is not opened, by the cause that its opening gives
  pub unopened_by : (row : SessionRow) (old : Trio D) (e : NotOpen D) → ComeBack m row old.low old.high old.recv e → (why : Option Why) → e.why ≡ why
      → IsUnopened m row old (record { low = e.low; high = e.high; recv = e.recv }) (cause_of row.id e.role why)
  unopened_by row old e back None is = (let same = back.memory is in λ i. record { low = same.1 i; high = same.2 i; recv = same.3 i })
  unopened_by row old e back (Some why) is =
      (refl, subst (λ (x : NotOpen D). ComeBack m row old.low old.high old.recv x) (λ i. record { role = e.role; why = is i; low = e.low; high = e.high; recv = e.recv }) back)

  pub unopened_if : {g : _} (row : SessionRow) (old : Trio D) (r : Result (Pump D g) (NotOpen D)) → IfErr r (λ e. ComeBack m row old.low old.high old.recv e)
      → IfErr r (λ e. IsUnopened m row old (trio_back e) (cause_of row.id e.role e.why))
  unopened_if row old (Ok s) back = tt
  unopened_if row old (Err e) back = unopened_by row old e back e.why refl

  -- .. and these are its disks and the cause
  pub not_opened : (row : SessionRow) (old new back : Trio D) (why cause : ChainWhy) → new ≡ back → why ≡ cause → IsUnopened m row old back cause → IsUnopened m row old new why
  not_opened row old new back why cause same is un = subst (λ (x : Trio D × ChainWhy). IsUnopened m row old x.0 x.1) (λ i. (sym same i, sym is i)) un

  -- a pump is opened, and leaves its disks
  pub left_if : {g : _} (row : SessionRow) (old : Trio D) (r : Result (Pump D g) (NotOpen D)) → IfOk r (λ s. LeavesDisk m row roles.Low old.low (disk_at roles.Low s) false)
      → IfOk r (λ s. LeavesDisk m row roles.High old.high (disk_at roles.High s) false) → IfOk r (λ s. LeavesDisk m row roles.Recv old.recv (disk_at roles.Recv s) false)
      → IfOk r (λ s. AreLeft m row old (trio_of s) None)
  left_if row old (Ok s) low high recv = record { low = low; high = high; recv = recv }
  left_if row old (Err e) low high recv = tt

  -- a pump was opened on these disks, and closed
  pub closed_back : {g : _} (row : SessionRow) (old new : Trio D) (s : Pump D g) → new ≡ trio_of s → (m.tells → (f : Found) × StandFor m row old f) → AreLeft m row old (trio_of s) None → row_of s ≡ row
      → CrashesOpen m (row_of s) new.low new.high new.recv → HandsBack m row old new None
  closed_back row old new s e found left row_is crashes = record {
    found = found;
    left = subst (λ (x : Trio D). AreLeft m row old x None) (sym e) left;
    crashes = subst (λ (r : SessionRow). CrashesOpen m r new.low new.high new.recv) row_is crashes;
  }

  -- a comparison keeps the rows
  pub rows_by : {g : _} (first last second final : Pump D g) (why : ChainWhy) → AreRead m first last second final why → (row_of last ≡ row_of first) × (row_of final ≡ row_of second)
  rows_by first last second final reasons.Memory e = absurd e
  rows_by first last second final (reasons.Pump session role why) (inl (number, at, x, y, is)) = (x.row, y.row)
  rows_by first last second final (reasons.Pump session role why) (inr (number, at, x, y, is)) = (x.row, y.row)
  rows_by first last second final (reasons.Link count bound) (x, y) = (x.row, y.row)
  rows_by first last second final (reasons.Unlike number) (x, y) = (x.row, y.row)

  disk_is : {g : _} (role : Role) (t : Pump D g) → disk_at role t ≡ disk_in role (trio_of t)
  disk_is roles.Low t = refl
  disk_is roles.High t = refl
  disk_is roles.Recv t = refl

  module _ {g : _} (one two : SessionRow) (old : Six D) (first last second final : Pump D g) (a : Closes one old.first first last) (b : Closes two old.second second final) where
    abbrev Unlinked : ChainWhy → Type 0
    Unlinked why = m.tells → (f h : Found) → StandFor m one old.first f → StandFor m two old.second h → is_by_device why ≡ false → IsUnlinked (accepted_in h) f.received why

    pub apart_by : (why : ChainWhy) → AreRead m first last second final why → Unlinked why → IsApart m one two old (record { first = trio_of last; second = trio_of final }) why
    apart_by reasons.Memory e unlinked = absurd e
    apart_by (reasons.Pump session role why) (inl (number, at, x, y, is)) unlinked = inl (
      number ∙ ap (λ (r : SessionRow). r.id) a.row_is,
      at,
      (hands_back one old.first first last (Some role) a x, hands_back two old.second second final None b y),
      is ∙ ap (λ (d : D). Device (m.count d)) (disk_is role last),
    )
    apart_by (reasons.Pump session role why) (inr (number, at, x, y, is)) unlinked = inr (
      number ∙ ap (λ (r : SessionRow). r.id) b.row_is,
      at,
      (hands_back one old.first first last None a x, hands_back two old.second second final (Some role) b y),
      is ∙ ap (λ (d : D). Device (m.count d)) (disk_is role final),
    )
    apart_by (reasons.Link count bound) (x, y) unlinked = (
      (hands_back one old.first first last None a x, hands_back two old.second second final None b y),
      λ told f h F H. unlinked told f h F H refl,
    )
    apart_by (reasons.Unlike number) (x, y) unlinked = (
      (hands_back one old.first first last None a x, hands_back two old.second second final None b y),
      λ told f h F H. unlinked told f h F H refl,
    )

  -- ---- what can't be ----

  not_so : (b : Bool) → (b ≡ true → ⊥) → b ≡ false
  not_so true h = absurd (h refl)
  not_so false h = refl

  -- where no disk is armed and each has room, no opening fails by a device
  pub never_unopened : m.tells_plan → (row : SessionRow) (old new : Trio D) → HaveRoom m row old → (why : ChainWhy) → IsUnopened m row old new why → is_by_device why ≡ false
  never_unopened plan row old new room reasons.Memory u = refl
  never_unopened plan row old new room (reasons.Pump session role why) (number, back) = not_so (is_device why) (λ (device : is_device why ≡ true).
      let none = none_fails m plan row old.low old.high old.recv (record { role = role; why = Some why; low = new.low; high = new.high; recv = new.recv }) room back device in absurd (cc))
  never_unopened plan row old new room (reasons.Link count bound) u = absurd u
  never_unopened plan row old new room (reasons.Unlike number) u = absurd u

  -- nor does a read
  module _ {g : _} (plan : m.tells_plan) (row : SessionRow) (s t : Pump D g) (room : HaveRoom m row (trio_of s)) where
    pub room_read : IsRead m s t None → HaveRoom m row (trio_of t)
    room_read r = record {
      low_free = free_still m 0 (low_size row) (disk_at roles.Low s) (disk_at roles.Low t) plan (r.serves roles.Low) room.low_free;
      high_free = free_still m 0 80 (disk_at roles.High s) (disk_at roles.High t) plan (r.serves roles.High) room.high_free;
      recv_free = free_still m 0 receiver_size (disk_at roles.Recv s) (disk_at roles.Recv t) plan (r.serves roles.Recv) room.recv_free;
    }

    never_read : (role : Role) → IsRead m s t (Some role) → ⊥
    never_read roles.Low r = let e = never_fails m 0 (low_size row) (disk_at roles.Low s) (disk_at roles.Low t) true plan (omega arith) (r.serves roles.Low) room.low_free in absurd (cc)
    never_read roles.High r = let e = never_fails m 0 80 (disk_at roles.High s) (disk_at roles.High t) true plan (omega arith) (r.serves roles.High) room.high_free in absurd (cc)
    never_read roles.Recv r = let e = never_fails m 0 receiver_size (disk_at roles.Recv s) (disk_at roles.Recv t) true plan (omega arith) (r.serves roles.Recv) room.recv_free in absurd (cc)

  pub never_apart : {g : _} → m.tells_plan → (one two : SessionRow) (first last second final : Pump D g) → HaveRoom m one (trio_of first) → HaveRoom m two (trio_of second)
      → (why : ChainWhy) → AreRead m first last second final why → is_by_device why ≡ false
  never_apart plan one two first last second final room room' reasons.Memory e = absurd e
  never_apart plan one two first last second final room room' (reasons.Pump session role why) (inl (number, at, x, y, is)) = absurd (never_read plan one first last room role x)
  never_apart plan one two first last second final room room' (reasons.Pump session role why) (inr (number, at, x, y, is)) = absurd (never_read plan two second final room' role y)
  never_apart plan one two first last second final room room' (reasons.Link count bound) e = refl
  never_apart plan one two first last second final room room' (reasons.Unlike number) e = refl

  -- where the lists are linked, only a device ends the comparison
  pub excused_by : {g : _} (first last second final : Pump D g) (accepted received : List Payload) → IsPrefixOf accepted received
      → (why : ChainWhy) → AreRead m first last second final why → (is_by_device why ≡ false → IsUnlinked accepted received why) → IsExcused why
  excused_by first last second final accepted received prefix reasons.Memory e u = tt
  excused_by first last second final accepted received prefix (reasons.Pump session role why) (inl (number, at, x, y, is)) u = ap is_device is
  excused_by first last second final accepted received prefix (reasons.Pump session role why) (inr (number, at, x, y, is)) u = ap is_device is
  excused_by first last second final accepted received prefix (reasons.Link count bound) e u =
      let (have, has, over) = u refl in
      let short = prefix_short accepted received prefix in
      absurd (omega (arith, have, has, over, short))
  excused_by first last second final accepted received prefix (reasons.Unlike number) e u = prefix_alike accepted received number prefix (u refl).1
