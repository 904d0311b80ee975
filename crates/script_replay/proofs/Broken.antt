-- Where the device of a disk cuts a line short, the `low` lines are still the replies of the low history.
use Rattle.std.proofs.Common.{◌≡◌, ℕ, ◌+◌, Bool, true, false, nat_lt, List, [], ◌∷◌, ◌++◌, drop, length, None, refl, sym, ap, ◌∙◌, subst, append_assoc, append-nil}
use Rattle.std.specs.Prelude.{if◌then◌else◌}
use Rattle.disk_model.specs.declared.name.Role.{Role}
use Rattle.disk_model.specs.declared.name.Role.TheVariants as roles
use Rattle.pump_frame.specs.declared.frame.Item.{Item}
use Rattle.pump_frame.specs.declared.row.SessionRow.{SessionRow}
use Rattle.pump_core.specs.Exchanges.{Part, Loss, IsCut}
use Rattle.pump_core.specs.History.{Look, History}
use Rattle.pump_core.specs.Replies.{Sent, LowReplies, refusal, replies_of}
use Rattle.pump_core.specs.World.{World}
use Rattle.pump_core.proofs.Cuts.{one_cut}
use Rattle.script_reader.specs.declared.event.Event.{Event}
use Rattle.script_reader.specs.declared.event.Event.TheVariants.{Took, Again}
use Rattle.script_reader.specs.declared.line.Line.{Line}
use Rattle.script_reader.specs.declared.line.Line.TheVariants as lines
use Rattle.script_reader.specs.Breaks.{Breaks, BreaksOff, IsLostLook}
use Rattle.script_reader.specs.Highs.{printed_carry}
use Rattle.script_reader.specs.Past.{Past}
use Rattle.script_reader.specs.Readouts.{low_lines}
use Rattle.script_reader.proofs.Replying.{Grows, low-append, high_aside, aside_grows}

grows_on : (s : SessionRow) (h g k : History) (xs ys printed : List Event) → Grows s h g xs → Grows s g k ys → printed ≡ xs ++ ys → Grows s h k printed
grows_on s h g k xs ys printed one two e rs r =
    subst (LowReplies s k) (append_assoc rs (low_lines xs) (low_lines ys) ∙ ap (λ (l : List Sent). rs ++ l) (sym (ap low_lines e ∙ low-append xs ys)))
    (two (rs ++ low_lines xs) (one rs r))

-- the history stays, and no reply is printed
stays : (s : SessionRow) (p q : Past) (printed : List Event) → q.history ≡ p.history → low_lines printed ≡ [] → Grows s p.history q.history printed
stays s p q printed same none rs h =
    subst (λ (t : History × List Sent). LowReplies s t.0 (rs ++ t.1)) (λ i. (sym same i, sym none i)) (subst (LowReplies s p.history) (sym (append-nil rs)) h)

-- a look whose store fails is refused, and that is the reply of its exchange
lost_grows : (s : SessionRow) (p : Past) (x : Look) (q : Past) (printed : List Event) → IsLostLook s p x q printed → Grows s p.history q.history printed
lost_grows s p x q printed h rs (older, newer, earlier, (parts, cut, newer_is), e) =
    let before_cut : IsCut s p.history.life h.before = record { are_parts = h.cut_with.are_parts.1; looks = ap (λ (l : List Look). drop 1 l) h.cut_with.looks } in
    let same : parts ≡ h.before = one_cut s p.history.life parts h.before cut before_cut in
    let reply : Sent = record { moment = x.moment; reply = refusal s 5 0 } in
    let newer_so : newer ≡ replies_of s p.history.life.opening h.before = newer_is ∙ ap (λ (ps : List Part). replies_of s p.history.life.opening ps) same in
    let all : rs ++ low_lines printed ≡ older ++ (newer ++ reply ∷ []) =
    ap (λ (l : List Event). rs ++ low_lines l) h.printed_is ∙ ap (λ (l : List Sent). l ++ reply ∷ []) e ∙ append_assoc older newer (reply ∷ []) in
    subst (λ (g : History). LowReplies s g (rs ++ low_lines printed)) (sym (ap (λ (t : Past). t.history) h.rest))
    (older, newer ++ reply ∷ [], earlier, (Loss x [] ∷ h.before, h.cut_with, ap (λ (l : List Sent). l ++ reply ∷ []) newer_so), all)

of_carry : (session n : ℕ) (b : Bool) → low_lines ((if b then Again session n else Took session n) ∷ []) ≡ []
of_carry session n true = refl
of_carry session n false = refl

pub carry_is_silent : (session : ℕ) (w : World) (d : Item) (printed : List Event) → printed ≡ printed_carry session w d ∷ [] → low_lines printed ≡ []
carry_is_silent session w d printed e = ap low_lines e ∙ of_carry session d.number (nat_lt d.number (length w.received))

off_grows : (s : SessionRow) (mid : Past) (m : ℕ) (role : Role) (q : Past) (printed : List Event) → BreaksOff s mid m role q printed → Grows s mid.history q.history printed
off_grows s mid m roles.Low q printed h = absurd h
off_grows s mid m roles.Recv q printed (untaken, e) = stays s mid q printed (ap (λ (t : Past). t.history) untaken.rest) (ap low_lines e)
off_grows s mid m roles.High q printed (far, carried, unremoved) =
    stays s mid q printed (ap (λ (t : Past). t.history) unremoved.rest ∙ ap (λ (t : Past). t.history) carried.rest)
    (carry_is_silent s.id mid.world carried.packet printed carried.printed_is)

pub breaks_grows : (s : SessionRow) (p : Past) (line : Line) (role : Role) (q : Past) (printed : List Event) → Breaks s p line role q printed → Grows s p.history q.history printed
breaks_grows s p lines.Skip role q printed h = absurd h
breaks_grows s p (lines.Session other) role q printed h = absurd h
breaks_grows s p (lines.LowSession other next held) role q printed h = absurd h
breaks_grows s p (lines.Coarse session) role q printed h = absurd h
breaks_grows s p (lines.Told session m w fault told a) role q printed h = absurd h
breaks_grows s p (lines.Step session m w) role q printed h = absurd h
breaks_grows s p (lines.Gone session m) role q printed h = absurd h
breaks_grows s p (lines.High session m) role q printed h = absurd h
breaks_grows s p (lines.Look session m w a) roles.Low q printed (c, comes, few, lost) = lost_grows s _ _ q printed lost
breaks_grows s p (lines.Look session m w a) roles.High q printed h = absurd h
breaks_grows s p (lines.Look session m w a) roles.Recv q printed h = absurd h
breaks_grows s p (lines.Carry session back) roles.Recv q printed (untaken, e) = stays s p q printed (ap (λ (t : Past). t.history) untaken.rest) (ap low_lines e)
breaks_grows s p (lines.Carry session back) roles.Low q printed h = absurd h
breaks_grows s p (lines.Carry session back) roles.High q printed h = absurd h
breaks_grows s p (lines.Return session m back) roles.High q printed (unremoved, e) = stays s p q printed (ap (λ (t : Past). t.history) unremoved.rest) (ap low_lines e)
breaks_grows s p (lines.Return session m back) roles.Low q printed h = absurd h
breaks_grows s p (lines.Return session m back) roles.Recv q printed h = absurd h
breaks_grows s p (lines.Done session m t) role q printed (mid, n, first, second, high, hand, off, e) =
    grows_on s p.history mid.history q.history first second printed (aside_grows s p mid first (high_aside s false p m None mid first high))
    (off_grows s mid (m + t) role q second off) e
breaks_grows s p (lines.Restart session m) roles.Low q printed (e, f) = stays s p q printed (ap (λ (t : Past). t.history) e) (ap low_lines f)
breaks_grows s p (lines.Restart session m) roles.High q printed (e, f) = stays s p q printed (ap (λ (t : Past). t.history) e) (ap low_lines f)
breaks_grows s p (lines.Restart session m) roles.Recv q printed h = absurd h
breaks_grows s p (lines.ReceiverRestart session m) roles.Recv q printed (e, f) = stays s p q printed (ap (λ (t : Past). t.history) e) (ap low_lines f)
breaks_grows s p (lines.ReceiverRestart session m) roles.High q printed (mid, reopened, unattached, f) =
    stays s p q printed (ap (λ (t : Past). t.history) unattached.unremoved.rest ∙ ap (λ (t : Past). t.history) reopened.1) (ap low_lines f)
breaks_grows s p (lines.ReceiverRestart session m) roles.Low q printed h = absurd h
