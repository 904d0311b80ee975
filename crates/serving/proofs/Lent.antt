-- What becomes of a door that a side opened, and of what was lent with it.
use Rattle.std.proofs.Common.{◌≡◌, ℕ, List, [], ◌∷◌, Option, Some, None, IfSome, sym, subst}
use Rattle.std.proofs.lemmas.Option.{same_Some}
use Rattle.disk_model.specs.Disk.{Meaning}
use Rattle.pump_link.specs.Ports.{PortsStep, Listened, ShutDoor}
use Rattle.pump_link.specs.Tells.{Grows}
use Rattle.pump_link.proofs.Grown.{Grows-then}
use Rattle.relay_side.specs.Sides.{ports, side}
use Rattle.relay_side.specs.declared.side.RelaySide.{RelaySide}
use Rattle.relay_threads.specs.declared.rounds_end.RoundsEnd.{RoundsEnd}
use Rattle.serving.specs.Doors.{DoorsTell, IsOpenedAndShut, OpensAndShuts}
use Rattle.serving.specs.HighRuns.{HighDone, HighLent}
use Rattle.serving.specs.LowRuns.{LowDone, LowLent}
use Rattle.serving.specs.PassageEnds.{EndTells}
use Rattle.serving.specs.declared.high_half.HighParts.{HighParts}
use Rattle.serving.specs.declared.low_half.LowParts.{LowParts}

-- The side was `old`, and it is `now` when the works are done. Its ports were `mid` once the door was open, and they are `last`
-- at the end.
module _ {P K R L : Type 0} (did : P → List (PortsStep L R) → Type 0) (faults : P → ℕ) (old now : RelaySide P K) (mid last : P) (port : ℕ) (door : R) (now_door : Option R)
    (listened : Grows (did old.ports) (did mid) (Listened port door ∷ [])) where
  -- no work was done, and the door was shut then
  pub shut_unused : now_door ≡ Some door → now.ports ≡ mid → IfSome now_door (λ d. Grows (did now.ports) (did last) (ShutDoor d ∷ [])) → OpensAndShuts (ports did faults old.ports last) port
  shut_unused has same shuts = (
    door,
    Grows-then _ _ _ (Listened port door ∷ []) (ShutDoor door ∷ []) listened (subst (λ (x : Option R × P). IfSome x.0 (λ d. Grows (did x.1) (did last) (ShutDoor d ∷ []))) (λ i. (has i, same i)) shuts),
  )

  -- a work shut it, and then there was none to shut
  shut_by : (opened shut : R) → door ≡ opened → now_door ≡ None → (now_door ≡ None → last ≡ now.ports) → Grows (did mid) (did now.ports) (ShutDoor shut ∷ []) → IsOpenedAndShut (ports did faults old.ports last) port opened shut
  shut_by opened shut is none left shuts =
      subst (λ (x : P × R). Grows (did old.ports) (did x.0) (Listened port x.1 ∷ ShutDoor shut ∷ [])) (λ i. (sym (left none) i, is i))
      (Grows-then _ _ _ (Listened port door ∷ []) (ShutDoor shut ∷ []) listened shuts)

  module _ {S : Type 0} (t : DoorsTell R L) (m : Meaning S) (reads : K → List ℕ → Type 0) (rounds : ℕ) (end : RoundsEnd) (is_port : t.port door port) (fresh : t.did door []) (left : now_door ≡ None → last ≡ now.ports) where
    pub low_lent : {W E Place : Type 0} (gives : W → List ℕ → Type 0) (e : EndTells E Place) (written now_written : Option (List ℕ)) (tape_faults now_tape_faults : ℕ) (v w : LowParts W S E)
        → LowDone t m gives e (side did faults reads (record { ports = mid; clock = old.clock }) now) written now_written tape_faults now_tape_faults rounds (Some door) now_door v w end
        → LowLent t m gives e (side did faults reads old (record { ports = last; clock = now.clock })) written now_written tape_faults now_tape_faults port rounds v w end
    low_lent gives e written now_written tape_faults now_tape_faults v w done =
        let is = same_Some door done.opened done.had in
        record {
          opened = done.opened;
          shut = done.shut;
          fresh = subst (λ (d : R). t.did d []) is fresh;
          is_port = subst (λ (d : R). t.port d port) is is_port;
          in_call = shut_by done.opened done.shut is done.has_none left done.did;
          ran = done.ran;
        }

    pub high_lent : {H Place : Type 0} (e : EndTells H Place) (v w : HighParts S H) → HighDone t m e (side did faults reads (record { ports = mid; clock = old.clock }) now) rounds (Some door) now_door v w end
        → HighLent t m e (side did faults reads old (record { ports = last; clock = now.clock })) port rounds v w end
    high_lent e v w done =
        let is = same_Some door done.opened done.had in
        record {
          opened = done.opened;
          shut = done.shut;
          fresh = subst (λ (d : R). t.did d []) is fresh;
          is_port = subst (λ (d : R). t.port d port) is is_port;
          in_call = shut_by done.opened done.shut is done.has_none left done.did;
          ran = done.ran;
        }
