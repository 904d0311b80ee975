-- What a look does with the low end of the passage.
use Rattle.std.specs.Prelude.{◌≡◌, ℕ, Bool, true, false, Option, Some, None}
use Rattle.pump_frame.specs.declared.frame.Item.{Item}
use Rattle.pump_core.specs.Passage.{Shape, Low, High, ComesNext, Passes, Refuses, Reads}
use Rattle.pump_core.specs.declared.feedback.Feedback.{Feedback}
use Rattle.pump_core.specs.declared.feedback.Feedback.TheVariants.{Quiet, Full, Passed, Released, Repeat}
use Rattle.low_process.specs.declared.values.Answer.{Answer}
use Rattle.low_process.specs.declared.values.Answer.TheVariants.{Full as ToldFull, Passed as ToldPassed}
use Rattle.low_process.specs.declared.values.Answer.TheVariants.{Average as ToldAverage}
use Rattle.low_process.specs.declared.process.LowProcess.{LowProcess}
use Rattle.low_process.specs.Looks.{next_of, is_down, hand_of}

-- the number of the message in the hand, or else of the next one
abbrev pub number_offered : ℕ → Option Item → ℕ
number_offered next None = next
number_offered next (Some item) = item.number

-- unless the process is down, the message that it offers next may come next at its end
abbrev pub FitsEnd : LowProcess → Low → Type 0
FitsEnd p l = is_down p ≡ false → ComesNext l.forwarded (number_offered (next_of p) (hand_of p))

-- the end stands for this, and the process fits it
abbrev pub StandsFitting : (Low → High → Type 0) → LowProcess → Low → High → Type 0
StandsFitting stands p l h = stands l h × FitsEnd p l

-- what the end goes through where this message is offered, by the answer; the average is read
-- exactly where an acknowledgement is owed. `after` is what the end stands for at the return
abbrev pub OfferStep : Shape → Bool → (Low → High → Type 0) → Low → High → Item → Bool → Answer
    → Type 0
OfferStep s on_one_thread after l h item owed ToldFull = Refuses s on_one_thread after l h
OfferStep s on_one_thread after l h item true (ToldPassed seen) =
    Passes s on_one_thread (λ l' h'. Reads s on_one_thread after l' h' seen.count seen.average) l h item
OfferStep s on_one_thread after l h item false (ToldPassed seen) = Passes s on_one_thread after l h item
OfferStep s on_one_thread after l h item owed (ToldAverage seen) = ⊥

-- what the end goes through in a look, by the feedback: what passes is the message that was in the
-- hand, and an average is read where it passes owed, and where a message came once more
abbrev pub EndStep : Shape → Bool → (Low → High → Type 0) → Low → High → Option Item → Feedback
    → Type 0
EndStep s on_one_thread after l h hand Quiet = after l h
EndStep s on_one_thread after l h hand Full = Refuses s on_one_thread after l h
EndStep s on_one_thread after l h (Some item) (Passed seen) =
    Passes s on_one_thread (λ l' h'. Reads s on_one_thread after l' h' seen.count seen.average) l h item
EndStep s on_one_thread after l h None (Passed seen) = ⊥
EndStep s on_one_thread after l h (Some item) Released = Passes s on_one_thread after l h item
EndStep s on_one_thread after l h None Released = ⊥
EndStep s on_one_thread after l h hand (Repeat seen) = Reads s on_one_thread after l h seen.count seen.average
