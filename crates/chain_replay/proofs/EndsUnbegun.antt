-- No chain has begun: what that says of the disks, and how the replay ends.
use Rattle.std.proofs.Common.{◌≡◌, ℕ, ◌^◌, ◌<◌, ◌≤◌, List, [], Option, None, Some, inl, inr, refl, sym, ◌∙◌, subst}
use Rattle.std.specs.Io.KnownBytes.{Appends}
use Rattle.disk_model.specs.Disk.{Meaning}
use Rattle.disk_model.specs.Shelf.{Holdings}
use Rattle.disk_model.specs.declared.name.Role.{Role}
use Rattle.pump_chain.specs.Opening.{disk_in, ComeBackFor}
use Rattle.pump_chain.specs.declared.not_chained.ChainWhy.{ChainWhy}
use Rattle.pump_chain.specs.declared.six.Six.{Six}
use Rattle.pump_frame.specs.Counts.{Rose}
use Rattle.pump_frame.specs.declared.row.SessionRow.{SessionRow}
use Rattle.recovery.specs.declared.trio.Trio.{Trio}
use Rattle.script_reader.specs.declared.fault.Fault.{Fault}
use Rattle.script_reader.specs.declared.fault.Fault.TheVariants as faults
use Rattle.script_reader.specs.Lines.{LineReading}
use Rattle.script_reader.specs.Openings.{Openings}
use Rattle.script_reader.specs.Transcript.{fault_line}
use Rattle.script_replay.specs.Failing.{FailsAt, IsNotGiven}
use Rattle.script_replay.specs.Runners.{IsLineFault}
use Rattle.script_replay.specs.Shelves.{AllAreBack, ReadsAlike}
use Rattle.script_replay.specs.declared.ended.Ended.{Ended}
use Rattle.script_replay.specs.declared.ended.Ended.TheVariants as ended
use Rattle.script_replay.proofs.Stops.{closed_not, line_fault}
use Rattle.chain_replay.specs.Ends.{EndsChain}
use Rattle.chain_replay.specs.Faults.{chain_fault}
use Rattle.chain_replay.specs.Opened.{Shelved, shelved, LeavesOthers, AreReadied, NotChained}
use Rattle.chain_replay.specs.Private.{AllRiseAt, AreBackAt, AreOutAt, AreReadAt, ClosesUnbegun, IsDevice, IsOfLine, IsUntaken, ReadsRow}
use Rattle.chain_replay.specs.Scripts.{OnePump, MayFollow}
use Rattle.chain_replay.proofs.Failed.{device_rose, rose_back, came_back}
use Rattle.chain_replay.proofs.Joining.{not_chained, not_taken, named_more, all_back, of_line, alike_readied, readied}
use Rattle.chain_replay.proofs.Taking.{home_by, others_more}
use Rattle.chain_replay.proofs.Whole.{no_pumps, no_memory, stopped_same}

-- no chain of two rows has begun, for this fault or for want of memory
pub record IsUnjoined {S D : Type 0} (h : Holdings S) (m : Meaning D) (old new : S) (one two : SessionRow) (fault : Option Fault) : Type 0 where
  pub back : h.tells → AllAreBack (h.disk old) (h.disk new)
  pub not : h.tells → m.tells → (f : Fault) → fault ≡ Some f → NotChained (h.disk old) (h.disk new) (FailsAt h m old new) one two f
  pub readies : h.tells → m.tells → fault ≡ None → AreReadied (h.disk old) (h.disk new) one two
  pub line : IsOfLine fault
  pub device : (f : Fault) → fault ≡ Some f → IsDevice f → Rose (h.disk_faults old) (h.disk_faults new)

module _ {S D : Type 0} (h : Holdings S) (m : Meaning D) (before after : S) (one two : SessionRow) where
  abbrev kept : Shelved
  kept = shelved (h.disk before) (h.disk after) (FailsAt h m before after)

  module _ (old new : Option (List ℕ)) (rose risen : ℕ) (result : Ended) where
    pub ends : (fault : Option Fault) → IsUnjoined h m before after one two fault → ClosesUnbegun old new rose risen fault result → (o : Openings) (all left : Option (List ℕ)) (was now : ℕ) (reading : LineReading) → MayFollow one two
        → ReadsRow o all left reading (OnePump one) two → reading.number < 2 ^ 32 → h.tells → m.tells → EndsChain kept all left old new was now result
    ends None u c o all left was now reading follows r few told tells =
        subst (EndsChain kept all left old new was now) (sym c.0) (no_memory kept o all left old new was now reading one two follows (u.readies told tells refl) r few c.1)
    ends (Some fault) u c o all left was now reading follows r few told tells =
        no_pumps kept o all left old new was now reading one two fault result rose risen follows (u.not told tells fault refl) r few c

    pub writes_nothing : (fault : Option Fault) → ClosesUnbegun old new rose risen fault result → result ≡ ended.Memory → Appends old new []
    writes_nothing None c e = c.1
    writes_nothing (Some fault) c e = elim c [ inl is ↦ cc (sym is.0 ∙ e) | inr is ↦ cc (sym is.0 ∙ e) ]

    -- .. with no fault but that of a line
    pub not_stopped : (fault : Option Fault) → IsOfLine fault → ClosesUnbegun old new rose risen fault result → (other : Fault) → (IsLineFault other → ⊥) → result ≡ ended.Stopped other → ⊥
    not_stopped None line c other none e = cc (sym c.0 ∙ e)
    not_stopped (Some fault) line c other none e = closed_not old new rose risen (fault_line fault) fault other result c (line_fault fault other line none) e

    pub rose_by_device : (fault : Option Fault) → IsUnjoined h m before after one two fault → ClosesUnbegun old new rose risen fault result → (session : ℕ) (role : Role) → result ≡ ended.Stopped (faults.Device session role)
        → Rose (h.disk_faults before) (h.disk_faults after)
    rose_by_device None u c session role e = cc (sym c.0 ∙ e)
    rose_by_device (Some fault) u c session role e =
        u.device fault refl (subst IsDevice (sym (stopped_same old new rose risen (fault_line fault) fault (faults.Device session role) result c e)) tt)

    pub write_rose : (fault : Option Fault) → ClosesUnbegun old new rose risen fault result → result ≡ ended.Write → Rose rose risen
    write_rose None c e = cc (sym c.0 ∙ e)
    write_rose (Some fault) c e = elim c [ inl is ↦ cc (sym is.0 ∙ e) | inr is ↦ is.2 ]

  -- ---- what is so ----

  -- a disk could not be taken
  pub not_given : (fault : Option Fault) → (h.tells → ReadsAlike (h.disk before) (h.disk after) × AllAreBack (h.disk before) (h.disk after)) → LeavesOthers (h.disk before) (h.disk after) one.id two.id → IsUntaken (IsNotGiven h (h.disk before)) one.id two.id fault
      → ((f : Fault) → fault ≡ Some f → Rose (h.disk_faults before) (h.disk_faults after)) → IsUnjoined h m before after one two fault
  not_given fault alike others of cause = record {
    back = λ told. (alike told).1;
    not = λ told tells f is.
        let named = subst (λ e. IsUntaken (IsNotGiven h (h.disk before)) one.id two.id e) is of in
        not_taken (h.disk before) (h.disk after) (FailsAt h m before after) one two f
        (named_more (IsNotGiven h (h.disk before)) (FailsAt h m before after) _ _ f (λ role n. (cause f is, inl n)) (λ role n. (cause f is, inl n)) named) (alike told).0 others;
    readies = λ told tells none. alike_readied (h.disk before) (h.disk after) one two (alike told).0 others;
    line = of_line (IsNotGiven h (h.disk before)) one.id two.id fault of;
    device = λ f is device. cause f is;
  }

  -- the disks that were lent came back
  module _ (lent : S) (old new : Six D) (later : h.disk_faults before ≤ h.disk_faults lent) (first_read : h.tells → AreReadAt m (h.disk before) one.id old.first) (second_read : h.tells → AreReadAt m (h.disk before) two.id old.second)
      (first_out : AreOutAt m (h.disk lent) one.id old.first) (second_out : AreOutAt m (h.disk lent) two.id old.second) (lent_others : LeavesOthers (h.disk before) (h.disk lent) one.id two.id)
      (first_back : h.tells → AreBackAt m (h.disk after) one.id new.first) (second_back : h.tells → AreBackAt m (h.disk after) two.id new.second)
      (first_rises : AllRiseAt m (h.disk lent) one.id new.first (h.disk_faults lent) (h.disk_faults after)) (second_rises : AllRiseAt m (h.disk lent) two.id new.second (h.disk_faults lent) (h.disk_faults after))
      (back_others : LeavesOthers (h.disk lent) (h.disk after) one.id two.id) where
    others : LeavesOthers (h.disk before) (h.disk after) one.id two.id
    others = others_more (h.disk before) (h.disk lent) (h.disk after) one.id two.id lent_others back_others

    fails : (session : ℕ) (t u : Trio D) → AreOutAt m (h.disk lent) session t → AllRiseAt m (h.disk lent) session u (h.disk_faults lent) (h.disk_faults after) → (h.tells → AreBackAt m (h.disk after) session u)
        → (role : Role) → Rose (m.count (disk_in role t)) (m.count (disk_in role u)) → FailsAt h m before after session role
    fails session t u out rises back role rose = (
      rose_back m (h.disk lent) session t u (h.disk_faults before) (h.disk_faults lent) (h.disk_faults after) later out rises (role, rose),
      inr (came_back h m lent (h.disk after) session t u out back role rose),
    )

    pub not_joined : (why : ChainWhy) (fault : Option Fault) → fault ≡ chain_fault two.id why → IsOfLine fault → ComeBackFor m one two old new why → IsUnjoined h m before after one two fault
    not_joined why fault of line come = record {
      back = λ told. all_back (h.disk before) (h.disk after) one.id two.id others (home_by m (h.disk after) one.id new.first (first_back told)) (home_by m (h.disk after) two.id new.second (second_back told));
      not = λ told tells f is.
          not_chained m tells (h.disk before) (h.disk after) (FailsAt h m before after) one two old new f
          (fails one.id old.first new.first first_out first_rises first_back) (fails two.id old.second new.second second_out second_rises second_back)
          (first_read told) (second_read told) (first_back told) (second_back told) why come (sym of ∙ is) others;
      readies = λ told tells none. readied m tells (h.disk before) (h.disk after) one two old new (first_read told) (second_read told) (first_back told) (second_back told) why come (sym of ∙ none) others;
      line = line;
      device = λ f is device. elim (device_rose m one two old new f device why come (sym of ∙ is)) [
        | inl failed ↦ rose_back m (h.disk lent) one.id old.first new.first (h.disk_faults before) (h.disk_faults lent) (h.disk_faults after) later first_out first_rises failed
        | inr failed ↦ rose_back m (h.disk lent) two.id old.second new.second (h.disk_faults before) (h.disk_faults lent) (h.disk_faults after) later second_out second_rises failed
      ];
    }
