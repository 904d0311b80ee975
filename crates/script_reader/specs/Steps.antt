-- What a line of a script does to its session, and what is printed.
use Rattle.std.specs.Prelude.{◌≡◌, ◌⊎◌, ℕ, ◌<◌, ◌≤◌, ◌+◌, ◌-◌, ◌^◌, Bool, false, ◌&&◌, ◌||◌, ◌==◌, not, nat_lt, nat_le}
use Rattle.std.specs.Prelude.{min, List, [], ◌∷◌, ◌++◌, map, length, option_to_list, Option, Some, None}
use Rattle.pump_frame.specs.Frames.{greeting}
use Rattle.pump_frame.specs.declared.frame.Frame.{Frame}
use Rattle.pump_frame.specs.declared.frame.Kind.TheVariants as kinds
use Rattle.pump_frame.specs.declared.row.SessionRow.{SessionRow}
use Rattle.pump_core.specs.declared.feedback.Feedback.{Feedback}
use Rattle.pump_core.specs.History.{Arrival, Look}
use Rattle.pump_core.specs.History.{Came, Bad, Gone}
use Rattle.pump_frame.specs.Readings.{Reading, Within, Stopped}
use Rattle.pump_frame.specs.Streams.{IsStream}
use Rattle.pump_core.specs.World.{World}
use Rattle.script_reader.specs.declared.line.Arriving.{Arriving}
use Rattle.script_reader.specs.declared.line.Arriving.TheVariants.{Nothing, Hello, Data, Raw}
use Rattle.script_reader.specs.declared.line.Line.{Line}
use Rattle.script_reader.specs.declared.line.Line.TheVariants as lines
use Rattle.script_reader.specs.declared.event.Event.{Event}
use Rattle.script_reader.specs.Past.{Past}
use Rattle.script_reader.specs.Lows.{first_of, IsLook}
use Rattle.script_reader.specs.Highs.{IsHighLook, IsReturn, IsCarried, IsOverfull, place}
use Rattle.script_reader.specs.Restarts.{IsRestart, IsReceiverRestart}

-- ---- what comes with a line ----

-- the frames that a `look` line names
abbrev pub hello_frame : ℕ → List ℕ → List ℕ → Frame
hello_frame session low high = record { kind = kinds.Hello; session = session; number = 0; payload = greeting low high }

abbrev pub data_frame : ℕ → ℕ → List ℕ → Frame
data_frame session number payload = record { kind = kinds.Data; session = session; number = number; payload = payload }

-- what comes with a line: what is added to what waits, and what the reader of the connection then
-- holds
pub record LineComing : Type 0 where
  pub added : List Arrival
  pub reading : Reading

abbrev pub coming : List Arrival → Reading → LineComing
coming added reading = record { added = added; reading = reading }

-- a stream that meets bad bytes ends with one Bad
abbrev pub bad_of : Reading → List Arrival
bad_of (Within held) = []
bad_of (Stopped at) = Bad ∷ []

abbrev pub came : List Frame → List Arrival
came frames = map (λ f. Came f) frames

-- raw bytes go on from what the reader holds: with it they are a stream of frames and its end; after bad
-- bytes no further byte is read
abbrev pub IsRead : Reading → List ℕ → LineComing → Type 0
IsRead (Within held) bytes c =
    (frames : List Frame) × IsStream (held ++ bytes) frames c.reading × (c.added ≡ came frames ++ bad_of c.reading)
IsRead (Stopped at) bytes c = c ≡ coming [] (Stopped at)

-- this comes with a `look` line of the session
abbrev pub Arrives : ℕ → Reading → Arriving → LineComing → Type 0
Arrives session r Nothing c = c ≡ coming [] r
Arrives session r (Hello low high) c = c ≡ coming (Came (hello_frame session low high) ∷ []) r
Arrives session r (Data number payload) c = c ≡ coming (Came (data_frame session number payload) ∷ []) r
Arrives session r (Raw bytes) c = IsRead r bytes.items c

-- the past with what comes added
abbrev pub joined : Past → LineComing → Past
joined p c = record p { waits = p.waits ++ c.added; reading = c.reading }

-- the past after the connection is lost: nothing waits, and a new connection begins
abbrev pub lost : Past → Past
lost p = record p { waits = []; is_broken = false; reading = Within [] }

-- ---- which lines can be applied ----

-- a high look without a TAKEN leaves a message in the high hand: one is in it, or one can be taken up
abbrev pub goes_on : World → Bool
goes_on w = nat_lt 0 (length (option_to_list w.high_hand ++ w.held))

-- so many of the packets that were sent since the session began are kept
abbrev pub kept : {X : Type 0} → ℕ → List X → ℕ
kept before packets = min 64 (length packets - before)

-- the line is one for a whole session, names this one, no moment falls, a packet that it names is kept,
-- and the return of `done` is at a moment of at most 2^62
abbrev pub is_timely : SessionRow → Past → Line → Bool
is_timely row p lines.Skip = false
is_timely row p (lines.Session other) = false
is_timely row p (lines.LowSession other next held) = false
is_timely row p (lines.Coarse session) = false
is_timely row p (lines.Told session m w fault told a) = false
is_timely row p (lines.Step session m w) = false
is_timely row p (lines.Look session m w a) = session == row.id && nat_le p.moment m
is_timely row p (lines.Gone session m) = session == row.id && nat_le p.moment m
is_timely row p (lines.High session m) = session == row.id && nat_le p.moment m
is_timely row p (lines.Carry session back) = session == row.id && nat_lt back (kept 0 p.world.sent)
is_timely row p (lines.Return session m back) =
    session == row.id && (nat_le p.moment m && nat_lt back (kept p.returned_before p.world.returned))
is_timely row p (lines.Done session m t) =
    session == row.id && (nat_le p.moment m && (not (goes_on p.world) || nat_le (m + t) (2 ^ 62)))
is_timely row p (lines.Restart session m) = session == row.id && nat_le p.moment m
is_timely row p (lines.ReceiverRestart session m) = session == row.id && nat_le p.moment m

-- with what comes with the line, more than 64 arrivals would wait
abbrev pub IsCrowded : Past → Line → Type 0
IsCrowded p (lines.Look session m w a) =
    (c : LineComing) × Arrives session p.reading a c × (64 < length (joined p c).waits)
IsCrowded p line = ⊥

-- the line can't be applied
abbrev pub IsRefusedWhole : SessionRow → Past → Line → Type 0
IsRefusedWhole row p line = (is_timely row p line ≡ false) ⊎ IsCrowded p line

-- ---- what a line does ----

-- a low look at m with the word w and this arrival
abbrev pub look_of : ℕ → ℕ → Arrival → Feedback → Look
look_of m w a f = record { moment = m; word = w; arrival = a; is_fault = false; feedback = f }

abbrev pub IsLowLook : SessionRow → Past → ℕ → ℕ → Arrival → Past → List Event → Type 0
IsLowLook row p m w a q printed = (f : Feedback) × IsLook row p (look_of m w a f) q printed

-- the look of a `look` line is offered what waits
abbrev pub IsOfferedLook : SessionRow → Past → ℕ → ℕ → Past → List Event → Type 0
IsOfferedLook row p m w q printed = IsLowLook row p m w (first_of p.is_broken p.waits) q printed

-- after the high look of `done`: a message in the hand is carried, and its TAKEN comes back at m
abbrev pub IsCarriedBack : SessionRow → Option ℕ → Past → ℕ → Past → List Event → Type 0
IsCarriedBack row None p m q printed = (q ≡ p) × (printed ≡ [])
IsCarriedBack row (Some n) p m q printed =
    (mid : Past) × (first : List Event) × (second : List Event)
    × IsCarried row p 0 mid first
    × IsReturn row mid m (place mid.world.returned 0) q second
    × (printed ≡ first ++ second)

abbrev pub IsDone : SessionRow → Past → ℕ → ℕ → Past → List Event → Type 0
IsDone row p m t q printed =
    (mid : Past) × (first : List Event) × (second : List Event)
    × IsHighLook row p m None mid first
    × IsCarriedBack row mid.world.high_hand mid (m + t) q second
    × (printed ≡ first ++ second)

-- the look of a `look` line, with which this comes: at most 64 arrivals wait before it
abbrev pub IsJoinedLook : SessionRow → Past → ℕ → ℕ → LineComing → Past → List Event → Type 0
IsJoinedLook row p m w c q printed = (length (joined p c).waits ≤ 64) × IsOfferedLook row (joined p c) m w q printed

-- the line leads from p to q, and prints this
abbrev pub LineStep : SessionRow → Past → Line → Past → List Event → Type 0
LineStep row p lines.Skip q printed = ⊥
LineStep row p (lines.Session other) q printed = ⊥
LineStep row p (lines.LowSession other next held) q printed = ⊥
LineStep row p (lines.Coarse session) q printed = ⊥
LineStep row p (lines.Told session m w fault told a) q printed = ⊥
LineStep row p (lines.Step session m w) q printed = ⊥
LineStep row p (lines.Look session m w a) q printed =
    (c : LineComing) × Arrives session p.reading a c × IsJoinedLook row p m w c q printed
LineStep row p (lines.Gone session m) q printed = IsLowLook row (lost p) m 0 Gone q printed
LineStep row p (lines.High session m) q printed = IsHighLook row p m None q printed
LineStep row p (lines.Carry session back) q printed = IsCarried row p back q printed
LineStep row p (lines.Return session m back) q printed = IsReturn row p m (place p.world.returned back) q printed
LineStep row p (lines.Done session m t) q printed = IsDone row p m t q printed
LineStep row p (lines.Restart session m) q printed = IsRestart row p m q printed
LineStep row p (lines.ReceiverRestart session m) q printed = IsReceiverRestart row p m q printed

-- the line could be applied, but a message does not fit at the receiver: it has come to q before that,
-- and printed this; the message's record would begin at `end`
abbrev pub Overfills : SessionRow → Past → Line → Past → List Event → ℕ → ℕ → ℕ → Type 0
Overfills row p (lines.Carry session back) q printed end size_of_message size =
    IsOverfull p.world back end size_of_message size × (q ≡ p) × (printed ≡ [])
Overfills row p (lines.Done session m t) q printed end size_of_message size =
    IsHighLook row p m None q printed × ((n : ℕ) × (q.world.high_hand ≡ Some n))
    × IsOverfull q.world 0 end size_of_message size
Overfills row p _ q printed end size_of_message size = ⊥
