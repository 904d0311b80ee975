-- A `done` line, and its parts.
use Rattle.std.proofs.Common.{◌≡◌, ℕ, ◌+◌, ◌-◌, ◌<◌, true, false, List, [], ◌++◌, length, Option, None, Some, Result, Ok, Err, refl, sym, ap, ◌∙◌, subst, arith, append-nil, append_assoc, length-drop}
use Rattle.std.specs.Prelude.{is_some}
use Rattle.circular_buffer.specs.Buffer.{keep_last}
use Rattle.disk_model.specs.Disk.{Meaning}
use Rattle.disk_model.specs.declared.name.Role.{Role}
use Rattle.disk_model.specs.declared.name.Role.TheVariants as roles
use Rattle.pump_frame.specs.declared.frame.Item.{Item}
use Rattle.pump_frame.specs.declared.row.SessionRow.{SessionRow}
use Rattle.high_process.specs.States as high
use Rattle.script_reader.specs.declared.event.Event.{Event}
use Rattle.script_reader.specs.declared.line.Line.TheVariants as lines
use Rattle.script_reader.specs.Past.{Past}
use Rattle.script_reader.specs.Highs.{IsHighLook, IsCarried, IsReturn, IsOverfull, place}
use Rattle.script_reader.specs.Steps.{IsCarriedBack}
use Rattle.script_reader.specs.Breaks.{IsUntaken, IsUnremoved, BreaksOff}
use Rattle.two_worlds.specs.declared.applied.Stop.{Stop}
use Rattle.two_worlds.specs.declared.applied.Stop.TheVariants.{Line, Device, Full, Disk}
use Rattle.two_worlds.specs.declared.pump.parts.Parts.{Parts}
use Rattle.two_worlds.specs.Doing.{Does, PartsLeaveFit, LeavesAlone, NeverBreaks, NeverOverfills}
use Rattle.two_worlds.specs.Standing.{Stands, number_of}
use Rattle.two_worlds.specs.Private.LineSteps.{IsOverfullSent, Runs}
use Rattle.two_worlds.proofs.Disks.Images.{Reads, stands_reads, fails_reads, both_fit, later_fits}
use Rattle.two_worlds.proofs.High.HandFull.{sent_after}

-- ---- the hand ----

some_number : (hand : Option Item) (o : Option ℕ) → o ≡ number_of hand → is_some hand ≡ true → (n : ℕ) × (o ≡ Some n)
some_number None o e some = absurd (cc)
some_number (Some x) o e some = (x.number, e)

no_number : (hand : Option Item) (o : Option ℕ) → o ≡ number_of hand → is_some hand ≡ false → o ≡ None
no_number None o e none = e
no_number (Some x) o e none = absurd (cc)

module _ {D : Type 0} (m : Meaning D) (e : Parts D) (q : Past) (s : Stands m e q) where
  pub hand_is : is_some (high.hand_of e.high) ≡ true → (n : ℕ) × (q.world.high_hand ≡ Some n)
  hand_is some = some_number (high.hand_of e.high) q.world.high_hand s.world.high_hand some

  pub hand_empty : is_some (high.hand_of e.high) ≡ false → q.world.high_hand ≡ None
  hand_empty none = no_number (high.hand_of e.high) q.world.high_hand s.world.high_hand none

  some_kept : (xs : List Item) → 0 < length xs → 0 < length (keep_last 64 xs)
  some_kept xs some = let l = length-drop (length xs - 64) xs in omega (arith, l, some)

-- ---- the packet that was sent, and its TAKEN ----

module _ {D : Type 0} (m : Meaning D) (c d : Parts D) (moment : ℕ) (out now : List Event) where
  abbrev pub CarryDoes : Parts D → List Event → Result (Unit {0}) Stop → Type 0
  CarryDoes e mid result = Does (λ p q printed. IsCarried c.row p 0 q printed)
      (λ role p q printed. (role ≡ roles.Recv) × IsUntaken p 0 q × (printed ≡ []))
      (λ p q printed end k size. (q ≡ p) × IsOverfull p.world 0 end k size × (printed ≡ [])) m c e out mid result

  abbrev pub BackDoes : SessionRow → Parts D → List Event → Result (Unit {0}) Stop → Type 0
  BackDoes row e mid result = Does (λ p q printed. IsReturn row p moment (place p.world.returned 0) q printed)
      (λ role p q printed. (role ≡ roles.High) × IsUnremoved p moment (Some (place p.world.returned 0)) q × (printed ≡ []))
      NeverOverfills m e d mid now result

  abbrev pub CarryBackDoes : Result (Unit {0}) Stop → Type 0
  CarryBackDoes result = Does (λ p q printed. (n : ℕ) → IsCarriedBack c.row (Some n) p moment q printed) (λ role p q printed. BreaksOff c.row p moment role q printed) IsOverfullSent m c d out now result

  -- the carry ends it
  pub carry_ends : (stop : Stop) → CarryDoes d now (Err stop) → CarryBackDoes (Err stop)
  carry_ends Line carry p s = carry p s
  carry_ends (Device role faults) carry p s =
      let a = carry p s in
      (a.0, a.1, subst (λ (r : Role). BreaksOff c.row p moment r a.0 a.1) (sym a.2.0) (a.2.1, a.2.2), a.3, a.4, a.5)
  carry_ends (Full end k size) carry p s = carry p s
  carry_ends (Disk role why) carry p s = carry p s

  -- the receiver's disk alone is called until e, and the high one alone from there on
  pub record Between (e : Parts D) : Type 0 where
    pub low : LeavesAlone roles.Low c e
    pub high : LeavesAlone roles.High c e
    pub row : e.row ≡ c.row
    pub low_after : LeavesAlone roles.Low e d
    pub recv_after : LeavesAlone roles.Recv e d
    pub row_after : d.row ≡ e.row

  both : (e : Parts D) (p mid q : Past) → Between e → Stands m c p → Stands m e mid → Reads m d q → PartsLeaveFit m c e p mid → PartsLeaveFit m e d mid q → PartsLeaveFit m c d p q
  both e p mid q b s s' reads first second = both_fit m c e d p mid q s s' b.row (b.low_after ∙ b.low) b.high b.recv_after b.row_after reads first second

  -- the TAKEN comes back
  pub carry_back : (e : Parts D) (mid : List Event) (result : Result (Unit {0}) Stop) → Between e → CarryDoes e mid (Ok tt) → BackDoes c.row e mid result → CarryBackDoes result
  carry_back e mid (Ok done) between carry back p s =
      let a = carry p s in
      let b = back a.0 a.4 in
      (b.0, a.1 ++ b.1, (λ n. (a.0, a.1, b.1, a.2, b.2, refl)), b.3 ∙ ap (λ l. l ++ b.1) a.3 ∙ append_assoc out a.1 b.1, b.4, both e p a.0 b.0 between s a.4 (stands_reads m d b.0 b.4) a.5 b.5)
  carry_back e mid (Err Line) between carry back p s = (let a = carry p s in back a.0 a.4)
  carry_back e mid (Err (Device role faults)) between carry back p s =
      let a = carry p s in
      let b = back a.0 a.4 in
      let nothing : now ≡ mid = b.3 ∙ ap (λ l. mid ++ l) b.2.2 ∙ append-nil mid in
      (b.0, a.1, subst (λ (r : Role). BreaksOff c.row p moment r b.0 a.1) (sym b.2.0) (a.0, a.2, b.2.1), nothing ∙ a.3, b.4, both e p a.0 b.0 between s a.4 (fails_reads m d b.0 role faults b.4) a.5 b.5)
  carry_back e mid (Err (Full end k size)) between carry back p s = (let a = carry p s in absurd (back a.0 a.4).2)
  carry_back e mid (Err (Disk role why)) between carry back p s = (let a = carry p s in back a.0 a.4)

-- ---- the whole line ----

-- the packet and its TAKEN, by this row
abbrev pub BackFrom : {D : Type 0} → Meaning D → Parts D → ℕ → ℕ → List Event → SessionRow → Parts D → List Event → Result (Unit {0}) Stop → Type 0
BackFrom m d moment time now row e mid result = Does (λ p q printed. (n : ℕ) → IsCarriedBack row (Some n) p (moment + time) q printed)
    (λ role p q printed. BreaksOff row p (moment + time) role q printed) IsOverfullSent m e d mid now result

module _ {D : Type 0} (m : Meaning D) (c d : Parts D) (moment time : ℕ) (out now : List Event) where
  abbrev pub HighDoes : Parts D → List Event → Type 0
  HighDoes e mid = Does (λ p q printed. IsHighLook c.row p moment None q printed) NeverBreaks NeverOverfills m c e out mid (Ok tt)

  stops : (hand : Option ℕ) (p : Past) → hand ≡ None → IsCarriedBack c.row hand p (moment + time) p []
  stops None p e = (refl, refl)
  stops (Some n) p e = absurd (cc)

  goes : (hand : Option ℕ) (n : ℕ) (p q : Past) (printed : List Event) → hand ≡ Some n → IsCarriedBack c.row (Some n) p (moment + time) q printed → IsCarriedBack c.row hand p (moment + time) q printed
  goes hand n p q printed e = subst (λ (o : Option ℕ). IsCarriedBack c.row o p (moment + time) q printed) (sym e)

  -- the hand is empty
  pub done_here : HighDoes d now → is_some (high.hand_of d.high) ≡ false → Runs m c d (lines.Done c.row.id moment time) out now (Ok tt)
  done_here looks none p s =
      let a = looks p s in
      let rest = stops a.0.world.high_hand a.0 (hand_empty m d a.0 a.4 none) in
      (a.0, a.1, (a.0, a.1, [], a.2, rest, sym (append-nil a.1)), a.3, a.4, a.5)

  -- no disk is called until e, and not the low one from there on
  pub record Before (e : Parts D) : Type 0 where
    pub low : LeavesAlone roles.Low c e
    pub high : LeavesAlone roles.High c e
    pub recv : LeavesAlone roles.Recv c e
    pub row : e.row ≡ c.row
    pub low_after : LeavesAlone roles.Low e d

  later : (e : Parts D) (p mid q : Past) → Before e → Stands m c p → Stands m e mid → PartsLeaveFit m e d mid q → PartsLeaveFit m c d p q
  later e p mid q b s s' fits = later_fits m c e d p mid q s s' b.row (b.low_after ∙ b.low) b.high b.recv fits

  -- its message goes on
  pub done_on : (e : Parts D) (mid : List Event) (result : Result (Unit {0}) Stop) → Before e → HighDoes e mid → is_some (high.hand_of e.high) ≡ true
      → BackFrom m d moment time now c.row e mid result
      → Runs m c d (lines.Done c.row.id moment time) out now result
  done_on e mid (Ok done) before looks some does p s =
      let a = looks p s in
      let n = hand_is m e a.0 a.4 some in
      let b = does a.0 a.4 in
      (b.0, a.1 ++ b.1, (a.0, a.1, b.1, a.2, goes a.0.world.high_hand n.0 a.0 b.0 b.1 n.1 (b.2 n.0), refl), b.3 ∙ ap (λ l. l ++ b.1) a.3 ∙ append_assoc out a.1 b.1, b.4, later e p a.0 b.0 before s a.4 b.5)
  done_on e mid (Err Line) before looks some does p s = (let a = looks p s in absurd (does a.0 a.4))
  done_on e mid (Err (Device role faults)) before looks some does p s =
      let a = looks p s in
      let n = hand_is m e a.0 a.4 some in
      let b = does a.0 a.4 in
      (b.0, a.1 ++ b.1, (a.0, n.0, a.1, b.1, a.2, n.1, b.2, refl), b.3 ∙ ap (λ l. l ++ b.1) a.3 ∙ append_assoc out a.1 b.1, b.4, later e p a.0 b.0 before s a.4 b.5)
  done_on e mid (Err (Disk role why)) before looks some does p s = (let a = looks p s in absurd (does a.0 a.4))
  done_on e mid (Err (Full end k size)) before looks some does p s =
      let a = looks p s in
      let n = hand_is m e a.0 a.4 some in
      let b = does a.0 a.4 in
      let nothing : now ≡ mid = b.3 ∙ ap (λ l. mid ++ l) b.2.2 ∙ append-nil mid in
      let look = subst (λ (x : Past). IsHighLook c.row p moment None x a.1) (sym b.2.0) a.2 in (
        b.0,
        a.1,
        (look, (n.0, subst (λ (x : Past). x.world.high_hand ≡ Some n.0) (sym b.2.0) n.1), subst (λ (x : Past). IsOverfull x.world 0 end k size) (sym b.2.0) b.2.1),
        nothing ∙ a.3,
        b.4,
        later e p a.0 b.0 before s a.4 b.5,
      )

  -- the message was sent before it is carried
  module _ (e : Parts D) (mid : List Event) (looks : HighDoes e mid) (some : is_some (high.hand_of e.high) ≡ true) (p : Past) (s : Stands m c p) where
    pub has_packet : 0 < length e.sent.items
    has_packet =
        let a = looks p s in
        let n = hand_is m e a.0 a.4 some in
        let first = sent_after c.row p moment a.0 a.1 n.0 a.2 n.1 in
        let le = a.4.sound.sends in
        let all : 0 < length a.0.world.sent = omega (arith, first, le) in
        subst (λ (l : List Item). 0 < length l) (sym a.4.world.sent) (some_kept m e a.0 a.4 a.0.world.sent all)
