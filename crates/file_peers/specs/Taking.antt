-- What becomes of one frame at High's party. Only clauses of private functions name these.
use Rattle.std.specs.Prelude.{◌≡◌, ℕ, ◌<◌, Bool, true, false, List, [], ◌∷◌, ◌++◌, length, Option, Some, None}
use Rattle.disk_model.specs.Disk.{Meaning}
use Rattle.pump_frame.specs.Counts.{Rose}
use Rattle.pump_frame.specs.declared.frame.Frame.{Frame}
use Rattle.pump_frame.specs.declared.row.SessionRow.{SessionRow}
use Rattle.folders.specs.Placing.{Placing}
use Rattle.file_collector.specs.Collecting.{HasTaken}
use Rattle.file_collector.specs.declared.collector.Collector.{Collector}
use Rattle.file_collector.specs.declared.values.Placed.{Placed}
use Rattle.pump_frame.specs.Spellings.{spelling}
use Rattle.pump_frame.specs.declared.frame.Kind.TheVariants.{Taken}
use Rattle.peers.specs.Outputs.{Counts, IsPrefix, plain_frame}
use Rattle.peers.specs.Receiving.{is_wanted}
use Rattle.file_peers.specs.declared.collect.CollectEnd.{CollectEnd}
use Rattle.file_peers.specs.declared.collect.CollectEnd.TheVariants.{Ended, Looks, Write, Folder, NameTaken, Device}
use Rattle.file_peers.specs.declared.collect.CollectEnd.TheVariants.{Ahead}
use Rattle.file_peers.specs.Collecting.{Turn, Took, IsTurn, IsCause, CountsOn, Passes, frame_in, message_in, files_in}
use Rattle.file_peers.specs.Collecting.{answer_in}
use Rattle.file_peers.specs.Collecting.{has_failed}
use Rattle.file_peers.specs.Collecting.{line_in}

-- a turn was made
pub record MakesTurn {I D : Type 0} (mi : Placing I) (md : Meaning D) (row : SessionRow) (before : List (List ℕ))
    (t : Turn) (old new : Collector I D) : Type 0 where
  pub turn : IsTurn row before t
  pub taken : HasTaken mi md new (before ++ message_in t)
  pub shown : mi.tells → md.tells
      → mi.shown new.gatherer.inbox ≡ mi.shown old.gatherer.inbox ++ files_in before t
  pub later : CountsOn mi md old new
  pub passes : Passes mi md (before ++ message_in t) old new

-- the next message was not taken, and the collector is closed
pub record Fails {I D : Type 0} (mi : Placing I) (md : Meaning D) (row : SessionRow) (before : List (List ℕ))
    (f : Frame) (old new : Collector I D) (end : CollectEnd) : Type 0 where
  pub wanted : is_wanted row f ≡ true
  pub next : f.number ≡ length before
  pub closed : new.is_open ≡ false
  pub cause : IsCause mi md before old new end
  pub passes : Passes mi md (before ++ f.payload ∷ []) old new

abbrev pub has_failed_in : Option CollectEnd → Bool
has_failed_in None = false
has_failed_in (Some end) = has_failed end

-- the bytes sent and printed for a frame
pub record Step : Type 0 where
  pub sent : List ℕ
  pub printed : List ℕ

abbrev pub IsSilent : Step → Type 0
IsSilent x = (x.sent ≡ []) × (x.printed ≡ [])

-- The next message was taken and that was printed, or it ended the call.
abbrev pub TakesNext : {I D : Type 0} → Placing I → Meaning D → SessionRow → List (List ℕ) → Frame → Collector I D
    → Collector I D → List ℕ → ℕ → ℕ → Option CollectEnd → Type 0
TakesNext mi md row before f old new printed out now_out None = (placed : Placed)
    × MakesTurn mi md row before (Took f placed) old new × (printed ≡ line_in row.id (Took f placed))
TakesNext mi md row before f old new printed out now_out (Some Write) = (placed : Placed)
    × MakesTurn mi md row before (Took f placed) old new × IsPrefix printed (line_in row.id (Took f placed))
    × Rose out now_out
TakesNext mi md row before f old new printed out now_out (Some (Folder faults)) =
    Fails mi md row before f old new (Folder faults) × (printed ≡ [])
TakesNext mi md row before f old new printed out now_out (Some (NameTaken number)) =
    Fails mi md row before f old new (NameTaken number) × (number ≡ f.number) × (printed ≡ [])
TakesNext mi md row before f old new printed out now_out (Some (Device faults)) =
    Fails mi md row before f old new (Device faults) × (printed ≡ [])
TakesNext mi md row before f old new printed out now_out (Some end) = ⊥

-- TAKEN was sent, or a prefix of it, which ended the call
abbrev pub IsAnswered : ℕ → ℕ → List ℕ → ℕ → ℕ → Option CollectEnd → Type 0
IsAnswered session number sent link now_link None = sent ≡ spelling (plain_frame Taken session number)
IsAnswered session number sent link now_link (Some Ended) = IsPrefix sent (spelling (plain_frame Taken session number))
    × Rose link now_link
IsAnswered session number sent link now_link (Some end) = ⊥

-- a frame was made a turn and answered, or it ended the call
abbrev pub TakesFrame : {I D : Type 0} → Placing I → Meaning D → SessionRow → List (List ℕ) → Frame → Collector I D
    → Collector I D → Step → Counts → Option CollectEnd → Type 0
TakesFrame mi md row before f old new x n None = (t : Turn) × (frame_in t ≡ f) × MakesTurn mi md row before t old new
    × (x.sent ≡ answer_in row.id t) × (x.printed ≡ line_in row.id t)
TakesFrame mi md row before f old new x n (Some Ended) = (t : Turn) × (frame_in t ≡ f)
    × MakesTurn mi md row before t old new
    × IsPrefix x.sent (answer_in row.id t) × (x.printed ≡ line_in row.id t) × Rose n.link n.now_link
TakesFrame mi md row before f old new x n (Some Write) = (t : Turn) × (frame_in t ≡ f)
    × MakesTurn mi md row before t old new
    × (x.sent ≡ []) × IsPrefix x.printed (line_in row.id t) × Rose n.out n.now_out
TakesFrame mi md row before f old new x n (Some (Folder faults)) =
    Fails mi md row before f old new (Folder faults) × IsSilent x
TakesFrame mi md row before f old new x n (Some (NameTaken number)) =
    Fails mi md row before f old new (NameTaken number) × (number ≡ f.number) × IsSilent x
TakesFrame mi md row before f old new x n (Some (Device faults)) =
    Fails mi md row before f old new (Device faults) × IsSilent x
TakesFrame mi md row before f old new x n (Some (Ahead number count)) = (is_wanted row f ≡ true) × (new ≡ old)
    × (length before < f.number) × (number ≡ f.number) × (count ≡ length before) × IsSilent x
TakesFrame mi md row before f old new x n (Some Looks) = ⊥
