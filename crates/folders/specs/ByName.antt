-- What a giver of folders did.
use Rattle.std.specs.Prelude.{ℕ, List, Result, Ok, Err}

-- a folder of this name was given or not, for the files of a session, or was given back
pub data FoldersStep (I : Type 0) (O : Type 0) : Type 0 where
  InboxGiven : (name : List ℕ) (session : ℕ) (inbox : I) → FoldersStep I O
  NoInbox : (name : List ℕ) (session : ℕ) → FoldersStep I O
  InboxBack : (inbox : I) → FoldersStep I O
  OutboxGiven : (name : List ℕ) (session : ℕ) (outbox : O) → FoldersStep I O
  NoOutbox : (name : List ℕ) (session : ℕ) → FoldersStep I O
  OutboxBack : (outbox : O) → FoldersStep I O

abbrev pub inbox_given : {I O E : Type 0} → List ℕ → ℕ → Result I E → FoldersStep I O
inbox_given name session (Ok inbox) = InboxGiven name session inbox
inbox_given name session (Err e) = NoInbox name session

abbrev pub outbox_given : {I O E : Type 0} → List ℕ → ℕ → Result O E → FoldersStep I O
outbox_given name session (Ok outbox) = OutboxGiven name session outbox
outbox_given name session (Err e) = NoOutbox name session
