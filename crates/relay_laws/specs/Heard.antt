-- What a receiver, or High's party of files, hears of what was sent.
use Rattle.std.specs.Prelude.{◌≡◌, true, List, Contains}
use Rattle.std.specs.List.{AllByRecursion}
use Rattle.pump_frame.specs.declared.frame.Frame.{Frame}
use Rattle.pump_frame.specs.declared.row.SessionRow.{SessionRow}
use Rattle.peers.specs.Receiving.{Turn, frame_in, is_wanted}
use Rattle.file_peers.specs.Collecting.{Turn as FileTurn, frame_in as file_frame_in}

-- each message of the session that was heard in these turns is one of those sent
abbrev pub HearsOnly : SessionRow → List Frame → List Turn → Type 0
HearsOnly row sent turns = AllByRecursion (λ t. is_wanted row (frame_in t) ≡ true → Contains sent (frame_in t)) turns

-- .. in these turns of High's party of files
abbrev pub CollectsOnly : SessionRow → List Frame → List FileTurn → Type 0
CollectsOnly row sent turns =
    AllByRecursion (λ t. is_wanted row (file_frame_in t) ≡ true → Contains sent (file_frame_in t)) turns
