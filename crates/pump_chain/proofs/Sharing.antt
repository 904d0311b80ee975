-- What a line is to a chain, by whose it is.
use Rattle.std.proofs.Common.{◌≡◌, ℕ, ◌≤◌, ◌^◌, Bool, true, false, List, [], Option, Some, None, refl, sym, ap, ◌∙◌, subst, arith}
use Rattle.std.specs.Prelude.{◌==◌, if◌then◌else◌}
use Rattle.disk_model.specs.Disk.{Meaning}
use Rattle.pump_frame.specs.declared.row.SessionRow.{SessionRow}
use Rattle.script_reader.specs.declared.event.Event.{Event as Printed}
use Rattle.script_reader.specs.declared.line.Arriving.{Arriving}
use Rattle.script_reader.specs.declared.line.Arriving.TheVariants as arriving
use Rattle.script_reader.specs.declared.line.Line.{Line as ScriptLine}
use Rattle.script_reader.specs.declared.line.Line.TheVariants as lines
use Rattle.script_reader.specs.Lawful.{IsLawfulLine}
use Rattle.two_worlds.specs.declared.applied.Stop.{Stop}
use Rattle.two_worlds.specs.declared.applied.Stop.TheVariants.{Line}
use Rattle.two_worlds.specs.Pumps.{row_of}
use Rattle.pump_chain.specs.declared.chain.Chain.{Chain}
use Rattle.pump_chain.specs.declared.whose.Whose.{Whose}
use Rattle.pump_chain.specs.declared.whose.Whose.TheVariants as whose
use Rattle.pump_chain.specs.Chained.{Chained, Share, Skipped, OfFirst, OfSecond, MakesFirst, MakesSecond, OfNone, added, share, share_by}
use Rattle.pump_chain.specs.Private.{share_for, IsWhose}
use Rattle.pump_chain.specs.Standing.{ChainStands, AppliesBy, ChainApplies}
use Rattle.pump_chain.proofs.Applying.{still_both}

-- ---- the moment of a look that the sender adds to ----

abbrev look_moment : ScriptLine → ℕ
look_moment (lines.Look session m w a) = m
look_moment line = 0

abbrev share_moment : Share → ℕ
share_moment (OfSecond line) = look_moment line
share_moment share = 0

abbrev Small : Share → Type 0
Small share = share_moment share ≤ 2 ^ 62

none : 0 ≤ 2 ^ 62
none = omega arith

either : (b : Bool) (x y : Share) → Small x → Small y → Small (if b then x else y)
either true x y h k = h
either false x y h k = k

three : (b d : Bool) (x y z : Share) → Small x → Small y → Small z → Small (if b then x else if d then y else z)
three b d x y z h i k = either b x _ h (either d y z i k)

small : (first second : ℕ) (adds : Arriving) (line : ScriptLine) → IsLawfulLine line → Small (share_by first second adds line)
small first second adds lines.Skip h = none
small first second adds (lines.Session row) h = none
small first second adds (lines.LowSession row next held) h = none
small first second adds (lines.Told session m w fault told a) h = none
small first second adds (lines.Coarse session) h = three (session == first) (session == second) MakesFirst MakesSecond OfNone none none none
small first second adds (lines.Look session m w a) h = either (session == first) (OfFirst (lines.Look session m w a)) OfNone none none
small first second adds (lines.Step session m w) h = either (session == second) (OfSecond (lines.Look session m w adds)) OfNone h none
small first second adds (lines.Gone session m) h = three (session == first) (session == second) (OfFirst (lines.Gone session m)) (OfSecond (lines.Gone session m)) OfNone none none none
small first second adds (lines.High session m) h = three (session == first) (session == second) (OfFirst (lines.High session m)) (OfSecond (lines.High session m)) OfNone none none none
small first second adds (lines.Carry session back) h = three (session == first) (session == second) (OfFirst (lines.Carry session back)) (OfSecond (lines.Carry session back)) OfNone none none none
small first second adds (lines.Return session m back) h = three (session == first) (session == second) (OfFirst (lines.Return session m back)) (OfSecond (lines.Return session m back)) OfNone none none none
small first second adds (lines.Done session m t) h = three (session == first) (session == second) (OfFirst (lines.Done session m t)) (OfSecond (lines.Done session m t)) OfNone none none none
small first second adds (lines.Restart session m) h = three (session == first) (session == second) (OfFirst (lines.Restart session m)) (OfSecond (lines.Restart session m)) OfNone none none none
small first second adds (lines.ReceiverRestart session m) h = three (session == first) (session == second) (OfFirst (lines.ReceiverRestart session m)) (OfSecond (lines.ReceiverRestart session m)) OfNone none none none

pub sender_moment : (first second : ℕ) (line : ScriptLine) (who : Whose) (m w : ℕ) → IsWhose first second line who → who ≡ whose.Senders m w → IsLawfulLine line → m ≤ 2 ^ 62
sender_moment first second line who m w is e lawful =
    subst Small (is arriving.Nothing ∙ ap (share_for second arriving.Nothing line) e) (small first second arriving.Nothing line lawful)

-- ---- a line ----

module _ {D : Type 0} {g : _} (m : Meaning D) (s : Chain D g) (c : Chained) (S : ChainStands m s c) (first second : SessionRow) (is_first : first ≡ row_of s.first) (is_second : second ≡ row_of s.second) (line : ScriptLine) (who : Whose) (is : IsWhose first.id second.id line who) where
  share_is : share c line ≡ share_for (row_of s.second).id (added c) line who
  share_is =
      (λ i. share_by (sym S.first_row i).id (sym S.second_row i).id (added c) line)
      ∙ (λ i. share_by (sym is_first i).id (sym is_second i).id (added c) line)
      ∙ is (added c)
      ∙ (λ i. share_for (is_second i).id (added c) line who)

  -- what is shown of its share is so of the line
  pub by_share : (t : Chain D g) (printed : List Printed) (stop : Option Stop) (case : Whose) → who ≡ case → AppliesBy m s t c (share_for (row_of s.second).id (added c) line case) printed stop → ChainApplies m s t line c printed stop
  by_share t printed stop case e applies =
      subst (λ (x : Share). AppliesBy m s t c x printed stop) (sym (share_is ∙ ap (share_for (row_of s.second).id (added c) line) e)) applies

  pub skipped_applies : (printed : List Printed) → printed ≡ [] → AppliesBy m s s c Skipped printed None
  skipped_applies printed none = (c, (refl, none), S, still_both m s c S)

  pub none_applies : (printed : List Printed) → printed ≡ [] → AppliesBy m s s c OfNone printed (Some Line)
  none_applies printed none = (tt, none, S, still_both m s c S)
