-- The steps of a low process's code. Private clauses and proofs alone cite this.
use Rattle.std.specs.Prelude.{◌≡◌, ℕ, Bool}
use Rattle.pump_frame.specs.declared.row.SessionRow.{SessionRow}
use Rattle.pump_core.specs.declared.feedback.Feedback.TheVariants.{Quiet}
use Rattle.pump_core.specs.History.{Arrival, Look}
use Rattle.pump_core.specs.Standing.{State}
use Rattle.pump_core.specs.Step.{FeedbackFits, after, reply_at, takes_at, stores_at}
use Rattle.low_process.specs.declared.values.Asking.TheVariants.{Nothing as AsksNothing, Forward as AsksForward}
use Rattle.low_process.specs.declared.values.Asking.TheVariants.{Average as AsksAverage}
use Rattle.low_process.specs.declared.values.LowLook.{LowLook}
use Rattle.low_process.specs.declared.values.Ask.{Ask}
use Rattle.low_process.specs.declared.values.Ask.TheVariants.{Done, Forward, Average}
use Rattle.low_process.specs.declared.process.LowProcess.{LowProcess}
use Rattle.low_process.specs.Looks.{state_of, look_of, Asks}

-- the look leads from this state to that process
pub record Stepped (row : SessionRow) (s : State) (q : LowProcess) (x : Look) (l : LowLook)
    : Type 0 where
  pub fits : FeedbackFits row s x
  pub state : state_of q ≡ after row s x
  pub reply : l.reply ≡ reply_at row s x
  pub taken : l.taken ≡ takes_at s x
  pub stored : l.stored ≡ stores_at row s x
  pub asking : q.asking ≡ AsksNothing

-- the look is such a step, or the process asks and is as before
abbrev pub StepBegins : LowProcess → LowProcess → ℕ → ℕ → Arrival → Bool → Ask → Type 0
StepBegins p q m w a d (Done l) =
    (l.feedback ≡ Quiet) × Stepped p.row (state_of p) q (look_of m w a d l.feedback) l
StepBegins p q m w a d (Forward item) =
    (q.asking ≡ AsksForward) × (state_of q ≡ state_of p) × Asks p.row (state_of p) a AsksForward
StepBegins p q m w a d Average =
    (state_of q ≡ state_of p)
    × ((n : ℕ) × (q.asking ≡ AsksAverage n) × Asks p.row (state_of p) a (AsksAverage n))
