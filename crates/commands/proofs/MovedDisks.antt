-- What a move says of its disks, said of disks that were taken off a shelf.
use Rattle.std.proofs.Common.{◌≡◌, ℕ, Bool, true, false, List, [], ◌∷◌, drop, length, None, Result, Ok, Err, IfOk, IfErr, inl, inr, refl, sym, ap, ◌∙◌, subst}
use Rattle.disk_model.specs.Disk.{Meaning, Moves, Same}
use Rattle.disk_model.specs.declared.name.Role.{Role}
use Rattle.disk_model.specs.declared.name.Role.TheVariants as roles
use Rattle.pump_frame.specs.Rows.{IsLawfulRow}
use Rattle.pump_frame.specs.declared.row.SessionRow.{SessionRow}
use Rattle.recovery.specs.Calls.{is_device}
use Rattle.recovery.specs.Moves.{StandFor, AreFound, AreWritten, AreWrittenInTurn, IsMoveRefused, IsKept, Counted, is_blamed, first_full, low_bytes, high_bytes}
use Rattle.recovery.specs.declared.trio.MoveFault.{MoveFault}
use Rattle.recovery.specs.declared.trio.Trio.{Trio}
use Rattle.recovery.specs.declared.why.Why.{Why}
use Rattle.stable_buffer.specs.Format.{receiver_size}
use Rattle.script_reader.specs.Openings.{Found, accepted_in}
use Rattle.two_worlds.specs.Openings.{StandForFound}
use Rattle.two_worlds.proofs.Opening.Surveying.{same_messages}
use Rattle.commands.specs.Migrating.{AreInTurn, MovesTo, StopsMove, FailsAt, counted}
use Rattle.commands.specs.TakenDisks.{CountOn, ReadOn, SpareOn}
use Rattle.commands.specs.declared.migrate.Counts.{Counts}
use Rattle.commands.proofs.MovedFound.{found, stands, new_stands, accepted}

-- ---- what was moved ----

module _ {D : Type 0} (d : Meaning D) (row new_row : SessionRow) where
  -- three disks stood for these messages, three were empty, and those stand for them now
  abbrev Given : Trio D → Trio D → Trio D → (ℕ × ℕ × ℕ) → Type 0
  Given old new now n = (live : List (List ℕ)) × (received : List (List ℕ))
      × AreFound row receiver_size n.0 n.1 live received (d.reading old.low) (d.reading old.high) (d.reading old.recv)
      × (length received ≡ n.2)
      × (first_full (d.reading new.low) (d.reading new.high) (d.reading new.recv) ≡ None)
      × StandFor new_row n.0 n.1 live received (d.reading now.low) (d.reading now.high) (d.reading now.recv)
      × AreWritten new_row n.0 n.1 n.2 live (d.reading old.recv) (d.reading now.low) (d.reading now.high) (d.reading now.recv)

  moved : (lawful : IsLawfulRow row) (new_lawful : IsLawfulRow new_row) (old new now : Trio D) (accepted_count removed_count received_count : ℕ)
      → Given old new now (accepted_count, removed_count, received_count)
      → MovesTo d row new_row old new now (record { accepted = accepted_count; removed = removed_count; received = received_count })
  moved lawful new_lawful old new now e b r (live, received, a, count, none, s, written) = record {
    found = found row new_row lawful new_lawful e b live received _ _ _ _ _ _ a s;
    stand = stands row new_row lawful new_lawful e b live received _ _ _ _ _ _ a s;
    empty = none;
    moved = new_stands row new_row lawful new_lawful e b live received _ _ _ _ _ _ a s;
    counted = (accepted row new_row lawful new_lawful e b live received _ _ _ _ _ _ a s, refl, sym count);
    written =
        let all = accepted row new_row lawful new_lawful e b live received _ _ _ _ _ _ a s in
        let f = found row new_row lawful new_lawful e b live received _ _ _ _ _ _ a s in
        let low = (stands row new_row lawful new_lawful e b live received _ _ _ _ _ _ a s).low_is in
        let same : drop b (accepted_in f) ≡ live = same_messages row lawful e b live (d.reading old.low) a.stand.low_stands b (drop b (accepted_in f)) refl (low.count ∙ sym all) low.slots in
        subst (λ (x : ℕ × ℕ × List (List ℕ)). AreWritten new_row x.0 b x.1 x.2 (d.reading old.recv) (d.reading now.low) (d.reading now.high) (d.reading now.recv))
        (λ i. (all i, sym count i, sym same i)) written;
  }

  pub moved_ok : (lawful : IsLawfulRow row) (new_lawful : IsLawfulRow new_row) (old new now : Trio D) (end : Result (ℕ × ℕ × ℕ) MoveFault) (r : Result Counts MoveFault)
      → r ≡ counted end → IfOk end (λ n. d.tells → Given old new now n) → IfOk r (λ counts. d.tells → MovesTo d row new_row old new now counts)
  moved_ok lawful new_lawful old new now (Err fault) r same h = subst (λ (x : Result Counts MoveFault). IfOk x (λ counts. d.tells → MovesTo d row new_row old new now counts)) (sym same) tt
  moved_ok lawful new_lawful old new now (Ok n) r same h =
      subst (λ (x : Result Counts MoveFault). IfOk x (λ counts. d.tells → MovesTo d row new_row old new now counts)) (sym same)
      (λ tells. moved lawful new_lawful old new now n.0 n.1 n.2 (h tells))

-- ---- what stopped it ----

module _ {D : Type 0} (d : Meaning D) (old old_now new new_now : Trio D) where
  -- each disk's count, and why it rose
  pub record AreCounted (end : Result (ℕ × ℕ × ℕ) MoveFault) : Type 0 where
    pub low : Counted d old.low old_now.low (is_blamed false roles.Low end)
    pub high : Counted d old.high old_now.high (is_blamed false roles.High end)
    pub recv : Counted d old.recv old_now.recv (is_blamed false roles.Recv end)
    pub new_low : Counted d new.low new_now.low (is_blamed true roles.Low end)
    pub new_high : Counted d new.high new_now.high (is_blamed true roles.High end)
    pub new_recv : Counted d new.recv new_now.recv (is_blamed true roles.Recv end)

  fails_so : (is_new : Bool) (role : Role) (why : Why) → AreCounted (Err (record { new = is_new; role = role; why = why })) → is_device why ≡ true → FailsAt d is_new role old old_now new new_now
  fails_so false roles.Low why c e = c.low.rose e
  fails_so false roles.High why c e = c.high.rose e
  fails_so false roles.Recv why c e = c.recv.rose e
  fails_so true roles.Low why c e = c.new_low.rose e
  fails_so true roles.High why c e = c.new_high.rose e
  fails_so true roles.Recv why c e = c.new_recv.rose e

  module _ (row new_row : SessionRow) where
    -- the new disks are written in turn, whatever the old ones stand for
    abbrev pub Turns : Result (ℕ × ℕ × ℕ) MoveFault → Type 0
    Turns end = (E B : ℕ) (live received : List (List ℕ)) → StandFor row E B live received (d.reading old.low) (d.reading old.high) (d.reading old.recv)
        → AreWrittenInTurn d (low_bytes new_row E B live) (high_bytes new_row B) new new_now end

    in_turn : (fault : MoveFault) → Turns (Err fault) → d.tells → (f : Found) → StandForFound row f (d.reading old.low) (d.reading old.high) (d.reading old.recv)
        → AreInTurn new_row f fault.role (d.reading new.low) (d.reading new.high) (d.reading new.recv) (d.reading new_now.low) (d.reading new_now.high) (d.reading new_now.recv)
    in_turn fault turns tells f s =
        let t = turns (length (accepted_in f)) f.removed (drop f.removed (accepted_in f)) f.received (record { low_stands = s.low_is; high_stands = s.high_is; recv_stands = s.recv_is }) in
        record {
          at_low = λ is. let m = t.at_low is in (m.0.reads tells, m.1.reads tells);
          at_high = λ is. let m = t.at_high is in m.reads tells;
          high = elim (t.high tells) [ inl same ↦ inl (same.reads tells) | inr whole ↦ inr whole ];
          recv = elim (t.recv tells) [ inl same ↦ inl (same.reads tells) | inr whole ↦ inr whole ];
        }

    -- refused for this cause, by what the disks read
    abbrev Refused : MoveFault → Type 0
    Refused fault = IsMoveRefused row new_row receiver_size (d.reading old.low) (d.reading old.high) (d.reading old.recv) (d.reading new.low) (d.reading new.high) (d.reading new.recv) fault

    pub stopped : (end : Result (ℕ × ℕ × ℕ) MoveFault) (r : Result Counts MoveFault) → r ≡ counted end → AreCounted end
        → IfErr end (λ fault. is_device fault.why ≡ false → d.tells → Refused fault) → (d.tells → (fault : MoveFault) → Refused fault → ReadOn d new new_now)
        → Turns end → IfErr r (StopsMove d row new_row old old_now new new_now)
    stopped (Ok n) r same c refused unwritten turns = subst (λ (x : Result Counts MoveFault). IfErr x (StopsMove d row new_row old old_now new new_now)) (sym same) tt
    stopped (Err fault) r same c refused unwritten turns = subst (λ (x : Result Counts MoveFault). IfErr x (StopsMove d row new_row old old_now new new_now)) (sym same) (record {
      failed = fails_so fault.new fault.role fault.why c;
      turn = in_turn fault turns;
      unwritten = λ e tells. unwritten tells fault (refused e tells) tells;
      refused = refused;
    })

-- ---- a new disk that was not empty ----

low_full : (low high recv : List ℕ) → (low ≡ [] → ⊥) → first_full low high recv ≡ None → ⊥
low_full [] high recv some none = some refl
low_full (b ∷ low) high recv some none = cc

high_full : (low high recv : List ℕ) → (high ≡ [] → ⊥) → first_full low high recv ≡ None → ⊥
high_full (b ∷ low) high recv some none = cc
high_full [] [] recv some none = some refl
high_full [] (b ∷ high) recv some none = cc

recv_full : (low high recv : List ℕ) → (recv ≡ [] → ⊥) → first_full low high recv ≡ None → ⊥
recv_full (b ∷ low) high recv some none = cc
recv_full [] (b ∷ high) recv some none = cc
recv_full [] [] [] some none = some refl
recv_full [] [] (b ∷ recv) some none = cc

pub spared_so : {D : Type 0} (d : Meaning D) (new new_now : Trio D)
    → (d.tells → (first_full (d.reading new.low) (d.reading new.high) (d.reading new.recv) ≡ None → ⊥) → ReadOn d new new_now) → SpareOn d new new_now
spared_so d new new_now full tells = (
  λ some. (full tells (low_full _ _ _ some) tells).0,
  λ some. (full tells (high_full _ _ _ some) tells).1,
  λ some. (full tells (recv_full _ _ _ some) tells).2,
)

-- ---- what is said of a move ----

pub record Says {D : Type 0} (d : Meaning D) (row new_row : SessionRow) (old new old_now new_now : Trio D) (end : Result (ℕ × ℕ × ℕ) MoveFault) : Type 0 where
  pub refused : IfErr end (λ f. is_device f.why ≡ false → d.tells → IsMoveRefused row new_row receiver_size (d.reading old.low) (d.reading old.high) (d.reading old.recv)
      (d.reading new.low) (d.reading new.high) (d.reading new.recv) f)
  pub low : IsKept d old.low old_now.low (is_blamed false roles.Low end)
  pub high : IsKept d old.high old_now.high (is_blamed false roles.High end)
  pub recv : IsKept d old.recv old_now.recv (is_blamed false roles.Recv end)
  pub new_low : Counted d new.low new_now.low (is_blamed true roles.Low end)
  pub new_high : Counted d new.high new_now.high (is_blamed true roles.High end)
  pub new_recv : Counted d new.recv new_now.recv (is_blamed true roles.Recv end)
  pub unwritten : d.tells → (f : MoveFault) → IsMoveRefused row new_row receiver_size (d.reading old.low) (d.reading old.high) (d.reading old.recv)
      (d.reading new.low) (d.reading new.high) (d.reading new.recv) f
      → Moves d Same new.low new_now.low × Moves d Same new.high new_now.high × Moves d Same new.recv new_now.recv
  pub turn : (E B : ℕ) (live received : List (List ℕ)) → StandFor row E B live received (d.reading old.low) (d.reading old.high) (d.reading old.recv)
      → AreWrittenInTurn d (low_bytes new_row E B live) (high_bytes new_row B) new new_now end
  pub full : d.tells → (first_full (d.reading new.low) (d.reading new.high) (d.reading new.recv) ≡ None → ⊥)
      → Moves d Same new.low new_now.low × Moves d Same new.high new_now.high × Moves d Same new.recv new_now.recv

module _ {D : Type 0} (d : Meaning D) (row new_row : SessionRow) (old new old_now new_now : Trio D) (end : Result (ℕ × ℕ × ℕ) MoveFault) (says : Says d row new_row old new old_now new_now end) where
  pub read : ReadOn d old old_now
  read tells = (says.low.moves.reads tells, says.high.moves.reads tells, says.recv.moves.reads tells)

  pub spared : SpareOn d new new_now
  spared = spared_so d new new_now (λ tells some told. let m = says.full tells some in (m.0.reads told, m.1.reads told, m.2.reads told))

  pub counts : CountOn d old old_now
  counts = (says.low.counted.counts, says.high.counted.counts, says.recv.counted.counts)

  pub new_counts : CountOn d new new_now
  new_counts = (says.new_low.counts, says.new_high.counts, says.new_recv.counts)

  pub stops : (r : Result Counts MoveFault) → r ≡ counted end → IfErr r (StopsMove d row new_row old old_now new new_now)
  stops r same = stopped d old old_now new new_now row new_row end r same
      (record { low = says.low.counted; high = says.high.counted; recv = says.recv.counted; new_low = says.new_low; new_high = says.new_high; new_recv = says.new_recv })
      says.refused (λ tells fault refused told. let m = says.unwritten tells fault refused in (m.0.reads told, m.1.reads told, m.2.reads told)) says.turn
