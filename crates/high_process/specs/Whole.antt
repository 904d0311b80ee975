-- A whole look over a store and an end.
use Rattle.std.specs.Prelude.{◌≡◌, ℕ, Bool, false, Option, Result, IfSome, IfOk, IfErr, OnOk, OnErr}
use Rattle.disk_model.specs.Disk.{Meaning}
use Rattle.stable_buffer.specs.High.{IsHighReady, high_count}
use Rattle.stable_buffer.specs.declared.high.HighStore.{HighStore}
use Rattle.pump_frame.specs.declared.frame.Frame.{Frame}
use Rattle.pump_core.specs.Passage.{Shape, Low, High}
use Rattle.high_process.specs.declared.values.HighAsk.{HighAsk}
use Rattle.high_process.specs.declared.values.HighFault.{HighFault}
use Rattle.high_process.specs.declared.values.HighLook.{HighLook}
use Rattle.high_process.specs.declared.process.HighProcess.{HighProcess}
use Rattle.high_process.specs.Past.{ProcessPast}
use Rattle.high_process.specs.States.{row_of, removed_of, last_of, is_down, task_at, attaches_at, IsBetweenLooks}
use Rattle.high_process.specs.Storing.{Fares, IsAfter, LeavesCounted}
use Rattle.high_process.specs.Ends.{StandsFitting}
use Rattle.high_process.specs.Looks.{StandsFor, LookBegins, Asked, Looked}

-- What the first half of a look does with the process (p, then q) and its store.
pub record FirstHalf {D : Type 0} (m : Meaning D) (p q : HighProcess) (old new : HighStore D) (moment : ℕ)
    (frame : Option Frame) (result : Result HighAsk HighFault) : Type 0 where
  -- the frame is refused, or a message removed, or the store is not called
  pub fares : Fares m (task_at p frame) p q old new result
  pub begins : IfOk result (λ ask. LookBegins p q moment (task_at p frame) (attaches_at p frame) ask)
  pub asked : IfOk result (λ ask. Asked p q ask)
  -- a crash at any moment leaves the count of before, or one more where the receiver has the message
  pub images : LeavesCounted m p old new frame
  pub fault : IfErr result (λ x. IsAfter x p q moment)
  -- the second half may follow
  pub store : OnOk result (IsHighReady m new)
  pub count : OnOk result (high_count new ≡ removed_of q)
  pub up : OnOk result (is_down q ≡ false)
  -- .. or the next look may be made
  pub between : OnErr result (IsBetweenLooks q)
  pub last : OnOk result (last_of q ≡ moment)
  pub row : row_of q ≡ row_of p

-- What a look does with the process (p, then q), its store and its end of the passage (e, then f). The end's
-- type says its shape and place, and what it stands for.
pub record WholeLook {D H P : Type 0} (m : Meaning D) (shape_of : H → Shape) (place_of : H → P)
    (on_one_thread : Bool) (stands : H → Low → High → Type 0) (p q : HighProcess) (old new : HighStore D) (e f : H)
    (moment : ℕ) (frame : Option Frame) (result : Result HighLook HighFault) : Type 0 where
  -- the frame is refused, or a message removed, or the store is not called
  pub fares : Fares m (task_at p frame) p q old new result
  -- what the process and its end stood for, they stand for after it, with its steps
  pub looks : IfOk result (λ look. (l : Low) (h : High) (t : ProcessPast)
      → StandsFitting (stands e) p l h → StandsFor p t
      → Looked (shape_of e) on_one_thread (StandsFitting (stands f) q) l h p q t moment (task_at p frame)
      (attaches_at p frame) look)
  -- a crash at any moment leaves the count of before, or one more where the receiver has the message
  pub images : LeavesCounted m p old new frame
  pub refused : OnErr result (f ≡ e)
  pub fault : IfErr result (λ x. IsAfter x p q moment)
  pub sent : IfOk result (λ look. IfSome look.sent (λ n. n ≡ removed_of q))
  -- the next look may be made
  pub store : OnOk result (IsHighReady m new)
  pub count : OnOk result (high_count new ≡ removed_of q)
  pub up : OnOk result (is_down q ≡ false)
  pub between : IsBetweenLooks q
  pub last : OnOk result (last_of q ≡ moment)
  pub row : row_of q ≡ row_of p
  pub shape : shape_of f ≡ shape_of e
  pub place : place_of f ≡ place_of e
