-- The order of a record's lines: the opening; a line that makes the session coarse, or none; looks with
-- the comments of their replies; then all or none of the times, how many messages were taken, and the end.
use Rattle.std.specs.Prelude.{Bool, true, false, ◌&&◌, ◌==◌, if◌then◌else◌, Option, Some, None}
use Rattle.pump_audit.specs.declared.entry.Note.{Note}
use Rattle.pump_audit.specs.declared.entry.Note.TheVariants as notes
use Rattle.pump_audit.specs.declared.entry.Entry.{Entry}
use Rattle.pump_audit.specs.declared.entry.Entry.TheVariants as entries
use Rattle.pump_audit.specs.declared.form.RecordPlace.{RecordPlace}
use Rattle.pump_audit.specs.declared.form.RecordPlace.TheVariants as places
use Rattle.pump_audit.specs.declared.form.Form.{Form}

-- a look, or the comment of a reply, may stand here
abbrev pub takes_looks : RecordPlace → Bool
takes_looks places.Opening = true
takes_looks places.Looks = true
takes_looks _ = false

-- a time, or how many were taken, may stand here
abbrev pub takes_times : RecordPlace → Bool
takes_times places.Opening = true
takes_times places.Looks = true
takes_times places.Times = true
takes_times _ = false

abbrev pub is_opening : RecordPlace → Bool
is_opening places.Opening = true
is_opening _ = false

abbrev pub is_taken : RecordPlace → Bool
is_taken places.Taken = true
is_taken _ = false

-- the place behind a line that may stand where the test says
abbrev pub at_place : Form → Bool → RecordPlace → Option Form
at_place f test place = if test then Some (record { session = f.session; place = place }) else None

abbrev pub behind_note : Form → Note → Option Form
behind_note f (notes.Low session moment reply) = at_place f (takes_looks f.place) places.Looks
behind_note f (notes.Time micros) = at_place f (takes_times f.place) places.Times
behind_note f (notes.Took count) = at_place f (takes_times f.place) places.Taken
behind_note f (notes.End accepted removed) = at_place f (is_taken f.place) places.End

abbrev pub behind_line : Form → Entry → Option Form
behind_line f (entries.Opening row next is_held) = None
behind_line f (entries.Coarse session) = at_place f (session == f.session && is_opening f.place) places.Looks
behind_line f (entries.Look line) = at_place f (line.session == f.session && takes_looks f.place) places.Looks
behind_line f (entries.Comment note) = behind_note f note

-- where a record stands behind one more line; nowhere, where the line is out of its place or tells of
-- another session
abbrev pub behind : Option Form → Entry → Option Form
behind None (entries.Opening row next is_held) = Some (record { session = row.id; place = places.Opening })
behind None _ = None
behind (Some f) e = behind_line f e

abbrev pub ends_at : RecordPlace → Bool
ends_at places.Opening = true
ends_at places.Looks = true
ends_at places.Times = false
ends_at places.Taken = false
ends_at places.End = true

-- a record may end here
abbrev pub may_end : Option Form → Bool
may_end None = false
may_end (Some f) = ends_at f.place

-- it tells how it ended
abbrev pub has_end_at : RecordPlace → Bool
has_end_at places.End = true
has_end_at places.Opening = false
has_end_at places.Looks = false
has_end_at places.Times = false
has_end_at places.Taken = false
