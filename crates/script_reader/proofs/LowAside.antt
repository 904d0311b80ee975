-- A line that is not low's own leaves low's half as it is, and says nothing to Low.
use Rattle.std.proofs.Common.{◌≡◌, ℕ, ◌+◌, zero, suc, Bool, true, false, nat_lt, List, [], ◌∷◌, ◌++◌, length, Option, Some, None, refl, sym, ap, ◌∙◌}
use Rattle.std.specs.Prelude.{if◌then◌else◌}
use Rattle.pump_frame.specs.declared.row.SessionRow.{SessionRow}
use Rattle.pump_core.specs.HighLooks.{has_removed}
use Rattle.pump_core.specs.World.{World}
use Rattle.script_reader.specs.declared.line.Line.{Line}
use Rattle.script_reader.specs.declared.line.Line.TheVariants as lines
use Rattle.script_reader.specs.declared.event.Event.{Event}
use Rattle.script_reader.specs.declared.event.Event.TheVariants as prints
use Rattle.script_reader.specs.Past.{Past}
use Rattle.script_reader.specs.Highs.{printed_sending, IsRemoval, IsSending, IsWholeLook, is_ahead, IsReturnBy, IsReturn, IsAttach, IsCarried, place}
use Rattle.script_reader.specs.Restarts.{IsReceiverRestart}
use Rattle.script_reader.specs.Steps.{IsCarriedBack, IsDone, LineStep}
use Rattle.script_reader.specs.Sides.{is_lows}
use Rattle.script_reader.proofs.Telling.{said_to_low, said-append}
use Rattle.pump_frame.specs.declared.payload.Payload.{Payload}
use Rattle.script_reader.proofs.Accepting.{Leaves, returns_leave, removes_leave, takes_up_leave, sends_leave, carries_leave, takes_leave}
use Rattle.script_reader.proofs.LowAlike.{half}

of_removal : (session m n : ℕ) (time : Option ℕ) (b : Bool) → said_to_low (if b then prints.Removed session m n time ∷ [] else []) ≡ []
of_removal session m n time true = refl
of_removal session m n time false = refl

of_sending : (session m : ℕ) (o : Option ℕ) (b : Bool) → said_to_low (if b then printed_sending session m o else []) ≡ []
of_sending session m None true = refl
of_sending session m (Some n) true = refl
of_sending session m o false = refl

of_carry : (session n : ℕ) (b : Bool) → said_to_low ((if b then prints.Again session n else prints.Took session n) ∷ []) ≡ []
of_carry session n true = refl
of_carry session n false = refl

pub record Aside (p q : Past) (printed : List Event) : Type 0 where
  pub half : half p ≡ half q
  pub said : said_to_low printed ≡ []

-- the half of a session whose world alone changes, where nothing more is accepted
still : (p q : Past) → half q ≡ record (half p) { accepted = length q.world.accepted } → Leaves p.world q.world → half p ≡ half q
still p q e h = sym (e ∙ ap (λ (l : List Payload). record (half p) { accepted = length l }) h)

both : (p mid q : Past) (first second printed : List Event) → Aside p mid first → Aside mid q second → printed ≡ first ++ second → Aside p q printed
both p mid q first second printed a b e = record {
  half = a.half ∙ b.half;
  said = ap said_to_low e ∙ said-append first second ∙ ap (λ l. l ++ said_to_low second) a.said ∙ b.said;
}

removal_aside : (s : SessionRow) (p : Past) (m : ℕ) (back : Option ℕ) (q : Past) (printed : List Event) → IsRemoval s p m back q printed → Aside p q printed
removal_aside s p m back q printed r = record {
  half = still p q (ap half r.rest) (removes_leave r.look.answered q.world r.look.removes ∙ returns_leave p.world back r.look.answered r.look.returns);
  said = ap said_to_low r.printed_is ∙ of_removal s.id m r.look.answered.removed r.look.time (has_removed r.look.answered q.world);
}

sending_aside : (s : SessionRow) (attaches : Bool) (p : Past) (m : ℕ) (q : Past) (printed : List Event) → IsSending s attaches p m q printed → Aside p q printed
sending_aside s attaches p m q printed r = record {
  half = still p q (ap half r.rest) (sends_leave r.look.is_sent r.look.taken q.world r.look.sent ∙ takes_up_leave p.world r.look.taken r.look.takes_up);
  said = ap said_to_low r.printed_is ∙ of_sending s.id m r.look.taken.high_hand r.look.is_sent;
}

pub high_aside : (s : SessionRow) (attaches : Bool) (p : Past) (m : ℕ) (back : Option ℕ) (q : Past) (printed : List Event) → IsWholeLook s attaches p m back q printed → Aside p q printed
high_aside s attaches p m back q printed (mid, first, second, r, t, e) = both p mid q first second printed (removal_aside s p m back mid first r) (sending_aside s attaches mid m q second t) e

return_by_aside : (b : Bool) (s : SessionRow) (attaches : Bool) (p : Past) (m n : ℕ) (q : Past) (printed : List Event) → IsReturnBy b s attaches p m n q printed → Aside p q printed
return_by_aside true s attaches p m n q printed h = record { half = sym (ap half h.0); said = ap said_to_low h.1 }
return_by_aside false s attaches p m n q printed h = high_aside s attaches p m (Some n) q printed h

return_aside : (s : SessionRow) (p : Past) (m n : ℕ) (q : Past) (printed : List Event) → IsReturn s p m n q printed → Aside p q printed
return_aside s p m n q printed h = return_by_aside (is_ahead p.world n) s false p m n q printed h

attach_aside : (s : SessionRow) (p : Past) (m count : ℕ) (q : Past) (printed : List Event) → IsAttach s p m count q printed → Aside p q printed
attach_aside s p m zero q printed h = high_aside s true p m None q printed h
attach_aside s p m (suc n) q printed (k, at, h) = return_by_aside (is_ahead p.world k) s true p m k q printed h

carry_aside : (s : SessionRow) (p : Past) (back : ℕ) (q : Past) (printed : List Event) → IsCarried s p back q printed → Aside p q printed
carry_aside s p back q printed r = record {
  half = still p q (ap half r.rest) (takes_leave r.carried q.world r.takes ∙ carries_leave p.world (place p.world.sent back) r.carried r.carries);
  said = ap said_to_low r.printed_is ∙ of_carry s.id r.packet.number (nat_lt r.packet.number (length p.world.received));
}

goes_aside : (s : SessionRow) (hand : Option ℕ) (p : Past) (m : ℕ) (q : Past) (printed : List Event) → IsCarriedBack s hand p m q printed → Aside p q printed
goes_aside s None p m q printed (e, f) = record { half = sym (ap half e); said = ap said_to_low f }
goes_aside s (Some n) p m q printed (mid, first, second, c, h, e) =
    both p mid q first second printed (carry_aside s p 0 mid first c) (return_aside s mid m (place mid.world.returned 0) q second h) e

done_aside : (s : SessionRow) (p : Past) (m t : ℕ) (q : Past) (printed : List Event) → IsDone s p m t q printed → Aside p q printed
done_aside s p m t q printed (mid, first, second, h, g, e) =
    both p mid q first second printed (high_aside s false p m None mid first h) (goes_aside s mid.world.high_hand mid (m + t) q second g) e

receiver_aside : (s : SessionRow) (p : Past) (m : ℕ) (q : Past) (printed : List Event) → IsReceiverRestart s p m q printed → Aside p q printed
receiver_aside s p m q printed (mid, (h, is), (more, t, e)) =
    both p mid q (prints.Attach s.id m (length mid.world.received) ∷ []) more printed
    (record { half = still p mid (ap half is) (ap (λ (w : World). w.accepted) h); said = refl })
    (attach_aside s mid m (length mid.world.received) q more t) e

pub step_aside : (s : SessionRow) (p : Past) (line : Line) (q : Past) (printed : List Event) → is_lows line ≡ false → LineStep s p line q printed → Aside p q printed
step_aside s p lines.Skip q printed e h = absurd h
step_aside s p (lines.Session row) q printed e h = absurd h
step_aside s p (lines.LowSession row next held) q printed e h = absurd h
step_aside s p (lines.Coarse session) q printed e h = absurd h
step_aside s p (lines.Told session m w fault told a) q printed e h = absurd h
step_aside s p (lines.Step session m w) q printed e h = absurd h
step_aside s p (lines.Look session m w a) q printed e h = absurd (cc)
step_aside s p (lines.Gone session m) q printed e h = absurd (cc)
step_aside s p (lines.High session m) q printed e h = high_aside s false p m None q printed h
step_aside s p (lines.Carry session back) q printed e h = carry_aside s p back q printed h
step_aside s p (lines.Return session m back) q printed e h = return_aside s p m (place p.world.returned back) q printed h
step_aside s p (lines.Done session m t) q printed e h = done_aside s p m t q printed h
step_aside s p (lines.Restart session m) q printed e h = absurd (cc)
step_aside s p (lines.ReceiverRestart session m) q printed e h = receiver_aside s p m q printed h
