-- The disk that fails in a line of a chain is the one that its fault names.
use Rattle.std.proofs.Common.{◌≡◌, ℕ, Bool, true, false, List, inl, inr, refl}
use Rattle.std.specs.Prelude.{◌==◌, if◌then◌else◌}
use Rattle.std.proofs.lemmas.Bool.{eqb-true}
use Rattle.disk_model.specs.Disk.{Meaning}
use Rattle.disk_model.specs.declared.disk.Disk.{Ghosts}
use Rattle.disk_model.specs.declared.name.Role.{Role}
use Rattle.disk_model.specs.declared.name.Role.TheVariants as roles
use Rattle.pump_chain.specs.Chained.{Chained, Share, OfFirst, OfSecond, MakesFirst, MakesSecond, OfNone, share_by}
use Rattle.pump_chain.specs.Opening.{disk_in, trio_of}
use Rattle.pump_chain.specs.Standing.{ChainBreaks, FailsWith, broken_disk}
use Rattle.pump_chain.specs.declared.chain.Chain.{Chain}
use Rattle.pump_frame.specs.Counts.{Rose}
use Rattle.script_reader.specs.declared.event.Event.{Event}
use Rattle.script_reader.specs.declared.line.Arriving.{Arriving}
use Rattle.script_reader.specs.declared.line.Line.{Line}
use Rattle.script_reader.specs.declared.line.Line.TheVariants as lines
use Rattle.two_worlds.specs.declared.pump.Pump.{Pump}
use Rattle.two_worlds.specs.Pumps.{disk_at}
use Rattle.chain_replay.specs.Faults.{broken_in}
use Rattle.chain_replay.specs.Private.{FailsIn}

-- what holds of each share that a line may have holds of its own
chosen : (P : Share → Type 0) (b d : Bool) (x y : Share) → (b ≡ true → P x) → (d ≡ true → P y) → P OfNone → P (if b then x else if d then y else OfNone)
chosen P true d x y h k n = h refl
chosen P false true x y h k n = k refl
chosen P false false x y h k n = n

one_chosen : (P : Share → Type 0) (b : Bool) (x : Share) → (b ≡ true → P x) → P OfNone → P (if b then x else OfNone)
one_chosen P true x h n = h refl
one_chosen P false x h n = n

module _ {D : Type 0} {g : Ghosts D} (m : Meaning D) where
  in_trio : (p q : Pump D g) (role : Role) → Rose (m.count (disk_at role p)) (m.count (disk_at role q)) → Rose (m.count (disk_in role (trio_of p))) (m.count (disk_in role (trio_of q)))
  in_trio p q roles.Low rose = rose
  in_trio p q roles.High rose = rose
  in_trio p q roles.Recv rose = rose

  module _ (s t : Chain D g) (one two : ℕ) (c d : Chained) (printed : List Event) (count : ℕ) where
    -- a disk of this session fails in a line of this share, and is of this role
    abbrev Names : ℕ → Role → Share → Type 0
    Names session role share = ChainBreaks c share role d printed → FailsWith m (broken_disk share role s.first s.second) (broken_disk share role t.first t.second) count → FailsIn m one two s t session role

    first_names : (session : ℕ) (role : Role) → (session == one) ≡ true → Rose (m.count (disk_at role s.first)) (m.count (disk_at role t.first)) → FailsIn m one two s t session role
    first_names session role e rose = inl (eqb-true session one e, in_trio s.first t.first role rose)

    second_names : (session : ℕ) (role : Role) → (session == two) ≡ true → Rose (m.count (disk_at role s.second)) (m.count (disk_at role t.second)) → FailsIn m one two s t session role
    second_names session role e rose = inr (eqb-true session two e, in_trio s.second t.second role rose)

    -- a line of either session, which is no look
    either : (session : ℕ) (role : Role) (x y : Share) → ((session == one) ≡ true → Names session role x) → ((session == two) ≡ true → Names session role y) → Names session role (if session == one then x else if session == two then y else OfNone)
    either session role x y first second = chosen (Names session role) (session == one) (session == two) x y first second (λ breaks fails. absurd breaks)

    pub broken_names : (adds : Arriving) (line : Line) (role : Role) → Names (broken_in one line role) role (share_by one two adds line)
    broken_names adds lines.Skip role = λ breaks fails. absurd breaks
    broken_names adds (lines.Session row) role = λ breaks fails. absurd breaks
    broken_names adds (lines.LowSession row next held) role = λ breaks fails. absurd breaks
    broken_names adds (lines.Told session k w fault told a) role = λ breaks fails. absurd breaks
    broken_names adds (lines.Coarse session) role = either session role MakesFirst MakesSecond (λ e breaks fails. absurd breaks) (λ e breaks fails. absurd breaks)
    broken_names adds (lines.Look session k w a) role = one_chosen (Names session role) (session == one) (OfFirst (lines.Look session k w a)) (λ e breaks fails. first_names session role e fails.0) (λ breaks fails. absurd breaks)
    broken_names adds (lines.Step session k w) roles.Low = one_chosen (Names session roles.Low) (session == two) (OfSecond (lines.Look session k w adds)) (λ e breaks fails. second_names session roles.Low e fails.0) (λ breaks fails. absurd breaks)
    broken_names adds (lines.Step session k w) roles.High = one_chosen (Names session roles.High) (session == two) (OfSecond (lines.Look session k w adds)) (λ e breaks fails. second_names session roles.High e fails.0) (λ breaks fails. absurd breaks)
    broken_names adds (lines.Step session k w) roles.Recv = one_chosen (Names one roles.Recv) (session == two) (OfSecond (lines.Look session k w adds)) (λ e breaks fails. inl (refl, in_trio s.first t.first roles.Recv fails.0)) (λ breaks fails. absurd breaks)
    broken_names adds (lines.Gone session k) role = either session role (OfFirst (lines.Gone session k)) (OfSecond (lines.Gone session k)) (λ e breaks fails. first_names session role e fails.0) (λ e breaks fails. second_names session role e fails.0)
    broken_names adds (lines.High session k) role = either session role (OfFirst (lines.High session k)) (OfSecond (lines.High session k)) (λ e breaks fails. first_names session role e fails.0) (λ e breaks fails. second_names session role e fails.0)
    broken_names adds (lines.Carry session back) role = either session role (OfFirst (lines.Carry session back)) (OfSecond (lines.Carry session back)) (λ e breaks fails. first_names session role e fails.0) (λ e breaks fails. second_names session role e fails.0)
    broken_names adds (lines.Return session k back) role = either session role (OfFirst (lines.Return session k back)) (OfSecond (lines.Return session k back)) (λ e breaks fails. first_names session role e fails.0) (λ e breaks fails. second_names session role e fails.0)
    broken_names adds (lines.Done session k n) role = either session role (OfFirst (lines.Done session k n)) (OfSecond (lines.Done session k n)) (λ e breaks fails. first_names session role e fails.0) (λ e breaks fails. second_names session role e fails.0)
    broken_names adds (lines.Restart session k) role = either session role (OfFirst (lines.Restart session k)) (OfSecond (lines.Restart session k)) (λ e breaks fails. first_names session role e fails.0) (λ e breaks fails. second_names session role e fails.0)
    broken_names adds (lines.ReceiverRestart session k) role = either session role (OfFirst (lines.ReceiverRestart session k)) (OfSecond (lines.ReceiverRestart session k)) (λ e breaks fails. first_names session role e fails.0) (λ e breaks fails. second_names session role e fails.0)
