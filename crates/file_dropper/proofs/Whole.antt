-- What fits, and what it gives.
use Rattle.std.proofs.Common.{◌≡◌, ◌∙◌, ℕ, ◌≤◌, ◌⊎◌, [], inl, inr, List, ◌∷◌, ◌++◌, Option, None, Some, ap, arith}
use Rattle.file_messages.specs.Files.{File, files}
use Rattle.folders.specs.Outboxes.{Dropping, Standing, Marked, files_in}
use Rattle.folders.specs.declared.mark.Stage.{Stage}
use Rattle.folders.specs.declared.mark.Stage.TheVariants as stages
use Rattle.file_dropper.specs.Leaving.{Fits, FitsMarked, FitsStage}
use Rattle.file_dropper.specs.Works.{IsLawfulWork, IsWorkOf, GoesOn, MayGoOn, StandsBehind, still_of}
use Rattle.file_dropper.specs.declared.dropper.Dropper.{Dropper}
use Rattle.file_dropper.specs.declared.work.Work.{Work}
use Rattle.file_dropper.specs.declared.work.Work.TheVariants.{Unsettled, GivingUp, Free, Sending, Ended, Failed}
use Rattle.file_dropper.proofs.Behind.{rest_fits, whole_gives}
use Rattle.file_dropper.proofs.Steps.{marked_fits, marked_sent_fits}

stage_gives : (stage : Stage) (file : File) (removed : List File) (accepted : List (List ℕ)) → FitsStage stage file removed accepted → (files accepted ≡ removed) ⊎ (files accepted ≡ removed ++ file ∷ [])
stage_gives stages.Fresh file removed accepted is = inl is
stage_gives (stages.Stopped start) file removed accepted is = inl is
stage_gives (stages.Sending start message size digest) file removed accepted is = elim is.so_far [
  | inl part ↦ inl part.0
  | inr whole ↦
      inr (whole_gives message file is.before accepted removed (omega (arith, is.room)) whole.2 (is.all ∙ ap (λ (l : List (List ℕ)). is.before ++ l) whole.0) is.between is.given).0
]

marked_gives : (marked : Option Marked) (removed : List File) (accepted : List (List ℕ)) → FitsMarked marked removed accepted → (files accepted ≡ removed) ⊎ (files accepted ≡ removed ++ files_in marked)
marked_gives None removed accepted is = inl is
marked_gives (Some marked) removed accepted is = stage_gives marked.mark.stage _ removed accepted is

pub fitting_gives : (accepted : List (List ℕ)) (s : Standing) → Fits accepted s → (files accepted ≡ s.removed) ⊎ (files accepted ≡ s.removed ++ files_in s.marked)
fitting_gives accepted s is = marked_gives s.marked s.removed accepted is

work_fits : {F : Type 0} (message number : ℕ) (left : F → Option (List ℕ)) (work : Work F) (s : Standing) (accepted : List (List ℕ)) → 138 ≤ message → IsLawfulWork message number work → IsWorkOf message work s.marked
    → GoesOn message left work s accepted → Fits accepted s
work_fits message number left Unsettled s accepted room lawful is on = absurd on
work_fits message number left (GivingUp name) s accepted room lawful is on = rest_fits name s.marked s.removed accepted is on
work_fits message number left (Free name) s accepted room lawful is on = rest_fits name s.marked s.removed accepted is on.0
work_fits message number left (Sending sender) s accepted room lawful is on = marked_fits message sender.sent s.marked s.removed accepted (still_of left sender) room is on.upto
work_fits message number left (Ended sent) s accepted room lawful is on = marked_sent_fits message sent number s.marked s.removed accepted room lawful is on
work_fits message number left (Failed reading) s accepted room lawful is on = absurd on

pub standing_fits : {O F : Type 0} (m : Dropping O) (left : F → Option (List ℕ)) (d : Dropper O F) (accepted : List (List ℕ)) → m.tells → MayGoOn m d → StandsBehind m left d accepted → Fits accepted (m.stands d.outbox)
standing_fits m left d accepted tells may stands = work_fits d.message d.number left d.work (m.stands d.outbox) accepted may.least may.work (may.marked tells) stands.work
