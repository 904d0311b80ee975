-- A look of the second session, before which the sender adds what it has.
use Rattle.std.proofs.Common.{◌≡◌, inl, inr, ℕ, Bool, true, false, ◌||◌, ◌&&◌, List, [], Option, Some, None, refl, sym, ap, ◌∙◌, subst}
use Rattle.std.specs.Prelude.{is_none, not, slice_get, if◌then◌else◌}
use Rattle.std.specs.List.{list_any}
use Rattle.disk_model.specs.Disk.{Meaning}
use Rattle.disk_model.specs.declared.name.Role.TheVariants as roles
use Rattle.script_reader.specs.declared.event.Event.{Event as Printed}
use Rattle.script_reader.specs.declared.event.EventHead.{EventHead}
use Rattle.script_reader.specs.declared.line.Arriving.{Arriving}
use Rattle.script_reader.specs.declared.line.Arriving.TheVariants.{Nothing, Hello}
use Rattle.script_reader.specs.declared.line.Line.{Line as ScriptLine}
use Rattle.script_reader.specs.declared.line.Line.TheVariants as lines
use Rattle.two_worlds.specs.declared.applied.Stop.{Stop}
use Rattle.two_worlds.specs.declared.applied.Stop.TheVariants.{Line, Device}
use Rattle.two_worlds.specs.declared.pump.Pump.{Pump}
use Rattle.two_worlds.specs.Printing.{lines_in}
use Rattle.two_worlds.specs.Pumps.{StandsFor, row_of, disk_at, Applies}
use Rattle.two_worlds.specs.Reads.{ReadsOn, FailsReading}
use Rattle.pump_chain.specs.declared.chain.Chain.{Chain}
use Rattle.pump_chain.specs.declared.sender.Sender.{Sender}
use Rattle.pump_chain.specs.Chained.{Chained, OfSecond, added, accepted_of, received_of, is_in_order, is_frame, is_welcome, is_reply}
use Rattle.pump_chain.specs.Private.{AddsMessage}
use Rattle.pump_chain.specs.Standing.{ChainStands, ChainStandsOrFails, AppliesBy, LeavePrefixes}
use Rattle.pump_chain.proofs.Applying.{second_applies, second_prefixes, read_prefixes}
use Rattle.pump_chain.proofs.Counting.{Goes, serves_rose}
use Rattle.pump_chain.proofs.Crashing.{Left, left_alone, left_read}
use Rattle.pump_chain.proofs.Linking.{AddsOf, IsAddedOf, message_added}

-- what the sender adds is sent on
added_either : (P : Arriving → Type 0) (b d : Bool) (x y z : Arriving) → P x → P y → P z → P (if b then x else if d then y else z)
added_either P true d x y z h i k = h
added_either P false true x y z h i k = i
added_either P false false x y z h i k = k

pub added_of : (c : Chained) → IsAddedOf (received_of c) (added c)
added_of c =
    added_either (IsAddedOf (received_of c)) c.sender.is_under_way c.sender.is_welcome Nothing _ (Hello c.second.row.low c.second.row.high) tt
    (message_added (received_of c) (accepted_of c) (slice_get (received_of c) (accepted_of c)) refl) tt

adds_of : (c : Chained) (session moment word : ℕ) → AddsOf (received_of c) (lines.Look session moment word (added c))
adds_of c session moment word = added_of c

-- the sender after a look that was made, and after one that was refused
abbrev pub looked_from : Sender → Bool → List Printed → Sender
looked_from s adds printed = record {
  is_welcome = s.is_welcome || list_any is_welcome printed;
  is_under_way = (s.is_under_way || adds) && not (list_any is_reply printed);
}

pub look_way : (was of : Sender) (adds : Bool) (a : Arriving) (heads given : List EventHead) (stop : Option Stop) (made : Bool) (new : Sender) → was ≡ of → adds ≡ is_frame a → given ≡ heads → made ≡ is_none stop
    → new ≡ (if made then looked_from was adds (lines_in given) else was) → (stop ≡ None → new ≡ looked_from of (is_frame a) (lines_in heads)) × (stop ≡ Some Line → new ≡ was)
look_way was of adds a heads given stop made new same frame print applied e = (
  (λ none. e ∙ ap (λ (b : Bool). if b then looked_from was adds (lines_in given) else was) (applied ∙ ap (λ (x : Option Stop). is_none x) none) ∙ (λ i. looked_from (same i) (frame i) (lines_in (print i)))),
  (λ refused. e ∙ ap (λ (b : Bool). if b then looked_from was adds (lines_in given) else was) (applied ∙ ap (λ (x : Option Stop). is_none x) refused)),
)

module _ {D : Type 0} {g : _} (m : Meaning D) (s : Chain D g) (c : Chained) (S : ChainStands m s c) where
  -- a chain whose first receiver was read stands for what it stood for
  pub read_stands : (u : Chain D g) → ReadsOn m roles.Recv s.first u.first → u.second ≡ s.second → u.sender ≡ s.sender → u.is_under_way ≡ s.is_under_way → ChainStands m u c
  read_stands u reads second sender way = record {
    first = reads.stands c.first.past S.first;
    first_row = reads.alone.row ∙ S.first_row;
    second = subst (λ (x : Pump D g). StandsFor m x c.second.past) (sym second) S.second;
    second_row = ap (λ (x : Pump D g). row_of x) second ∙ S.second_row;
    sender = sender ∙ S.sender;
    under_way = way ∙ S.under_way;
    linked = S.linked;
    waits = S.waits;
  }

  unread_stands : (t : Chain D g) → FailsReading m roles.Recv s.first t.first → t.second ≡ s.second → ChainStandsOrFails m t c
  unread_stands t fails second = record {
    first = inr (roles.Recv, _, (fails.alone.down, fails.fails c.first.past S.first));
    first_row = fails.alone.row ∙ S.first_row;
    second = inl (subst (λ (x : Pump D g). StandsFor m x c.second.past) (sym second) S.second);
    second_row = ap (λ (x : Pump D g). row_of x) second ∙ S.second_row;
    linked = S.linked;
  }

  -- the first receiver can't be read
  pub unread_applies : (t : Chain D g) (session moment word : ℕ) (a : Arriving) (printed : List Printed) (faults : ℕ) → is_in_order c (lines.Look session moment word a) ≡ true → AddsMessage c → printed ≡ [] → FailsReading m roles.Recv s.first t.first
      → t.second ≡ s.second → faults ≡ m.count (disk_at roles.Recv t.first) → AppliesBy m s t c (OfSecond (lines.Look session moment word a)) printed (Some (Device roles.Recv faults))
  unread_applies t session moment word a printed faults order adds none fails second count = (
    c,
    (order, inr (refl, adds, refl, none)),
    unread_stands t fails second,
    record {
      first = (left_read m s.first t.first c.first.past true S.first fails.alone).leaves;
      second = (left_alone m s.second t.second c.second.past S.second second).leaves;
    },
    (serves_rose m _ _ _ fails.alone.serves, count),
  )

  pub unread_prefixes : (t : Chain D g) → FailsReading m roles.Recv s.first t.first → t.second ≡ s.second → LeavePrefixes m s.first t.first s.second t.second
  unread_prefixes t fails second = read_prefixes m s t.first t.second c S (left_read m s.first t.first c.first.past true S.first fails.alone) second

  -- u is the chain as the look finds it
  module _ (u : Chain D g) (reads : ReadsOn m roles.Recv s.first u.first) (second : u.second ≡ s.second) (sender : u.sender ≡ s.sender) (way : u.is_under_way ≡ s.is_under_way) (given : ScriptLine) (session moment word : ℕ)
      (same : given ≡ lines.Look session moment word (added c)) (printed : List Printed) (stop : Option Stop) where
    abbrev U : ChainStands m u c
    U = read_stands u reads second sender way

    abbrev look : ScriptLine
    look = lines.Look session moment word (added c)

    pub look_applies : (t : Chain D g) → Goes m u.second t.second stop → Applies m u.second t.second given c.second.past printed stop → row_of t.second ≡ row_of u.second → t.first ≡ u.first → is_in_order c look ≡ true
        → (stop ≡ None → (t.is_under_way ≡ true) × (t.sender ≡ looked_from c.sender (is_frame (added c)) printed)) → (stop ≡ Some Line → (t.is_under_way ≡ u.is_under_way) × (t.sender ≡ u.sender))
        → AppliesBy m s t c (OfSecond look) printed stop
    look_applies t go applies row first order made refused =
        second_applies m s u t c look printed U row first (adds_of c session moment word) second
        (subst (λ (x : Pump D g). Left m s.first x c.first.past c.first.past) (sym first) (left_read m s.first u.first c.first.past false S.first reads.alone)) stop order made refused go
        (subst (λ (line : ScriptLine). Applies m u.second t.second line c.second.past printed stop) same applies)

    pub look_prefixes : (two : Pump D g) → Applies m u.second two given c.second.past printed stop → row_of two ≡ row_of u.second → LeavePrefixes m s.first u.first s.second two
    look_prefixes two applies row =
        second_prefixes m s u u.first two c look printed stop S U (left_read m s.first u.first c.first.past false S.first reads.alone) second row refl (adds_of c session moment word)
        (subst (λ (line : ScriptLine). Applies m u.second two line c.second.past printed stop) same applies)
