-- What an exercise writes: the summary of a generated script, over new disks.
use Rattle.std.specs.Prelude.{◌≡◌, ◌⊎◌, ℕ, ◌+◌, List, [], ◌∷◌, ◌++◌, codes, decimal, Option, None}
use Rattle.std.specs.Io.KnownBytes.{Appends}
use Rattle.std.specs.List.{flat_map, sum_by}
use Rattle.pump_frame.specs.Delays.{delay_of}
use Rattle.pump_frame.specs.declared.frame.Kind.{Kind}
use Rattle.pump_frame.specs.declared.frame.Kind.TheVariants.{Ack}
use Rattle.pump_link.specs.Causes.{AppendsPrefix}
use Rattle.script_reader.specs.declared.event.Event.{Event}
use Rattle.script_reader.specs.declared.event.Event.TheVariants.{Full, Passed, Low, Removed}
use Rattle.script_reader.specs.declared.line.Line.{Line}
use Rattle.script_reader.specs.declared.line.Line.TheVariants.{Look}
use Rattle.script_reader.specs.Generated.{generated_row, generated}
use Rattle.script_reader.specs.Openings.{Openings, new_disks}
use Rattle.script_reader.specs.Scripts.{Begun, Leads, Ends, IsTranscript}
use Rattle.script_reader.specs.Transcript.{line_with_end}

-- ---- line by line ----

-- these lines, one after another, print these lists of events, and lead from `running` to `after`
abbrev pub LeadEach : Openings → Option Begun → List Line → List (List Event) → Option Begun → Type 0
LeadEach o running [] [] after = after ≡ running
LeadEach o running (line ∷ lines) (printed ∷ later) after = (mid : Option Begun) × Leads o running line mid printed
    × LeadEach o mid lines later after
LeadEach o running [] (printed ∷ later) after = ⊥
LeadEach o running (line ∷ lines) [] after = ⊥

-- all that was printed
abbrev pub in_all : List (List Event) → List Event
in_all printed = flat_map (λ events. events) printed

-- ---- what is counted ----

abbrev pub look_count : Line → ℕ
look_count (Look session moment word arrival) = 1
look_count _ = 0

-- the word of a look
abbrev pub look_word : Line → ℕ
look_word (Look session moment word arrival) = word
look_word _ = 0

abbrev pub ack_kind_count : Kind → ℕ
ack_kind_count Ack = 1
ack_kind_count _ = 0

abbrev pub ack_count : Event → ℕ
ack_count (Low session moment reply) = ack_kind_count reply.kind
ack_count _ = 0

abbrev pub full_count : Event → ℕ
full_count (Full session moment) = 1
full_count _ = 0

abbrev pub removal_count : Event → ℕ
removal_count (Removed session moment number time) = 1
removal_count _ = 0

-- from the moment at which a message is passed to the one at which its acknowledgement is due, in a look with this word
abbrev pub delay_in : ℕ → Event → ℕ
delay_in word (Passed session moment seen) = delay_of seen.average word generated_row.longest
delay_in word _ = 0

-- .. of all messages that these lines pass, where each prints its list of events
abbrev pub delays_in : List Line → List (List Event) → ℕ
delays_in [] printed = 0
delays_in (line ∷ lines) [] = 0
delays_in (line ∷ lines) (events ∷ later) = sum_by (delay_in (look_word line)) events + delays_in lines later

-- ---- the summary ----

abbrev pub summary_of : ℕ → ℕ → List Line → List (List Event) → List ℕ
summary_of seed count script printed = line_with_end (codes "exercise" ∷ decimal seed ∷ decimal count
    ∷ codes "looks" ∷ decimal (sum_by look_count script)
    ∷ codes "acks" ∷ decimal (sum_by ack_count (in_all printed))
    ∷ codes "full" ∷ decimal (sum_by full_count (in_all printed))
    ∷ codes "removed" ∷ decimal (sum_by removal_count (in_all printed))
    ∷ codes "delay" ∷ decimal (delays_in script printed) ∷ [])

-- these bytes are the summary of the transcript of the generated script, over new disks
pub record IsSummary (seed count : ℕ) (bytes : List ℕ) : Type 0 where
  pub printed : List (List Event)
  pub after : Option Begun
  pub each : LeadEach new_disks None (generated seed count) printed after
  pub last : List Event
  pub ends : Ends after last
  pub transcript : IsTranscript new_disks (generated seed count) (in_all printed ++ last)
  pub bytes_are : bytes ≡ summary_of seed count (generated seed count) printed

-- how an exercise ends, by its status: the summary was written, or nothing for want of memory, or a prefix of the
-- summary
abbrev pub EndsExercise : ℕ → ℕ → Option (List ℕ) → Option (List ℕ) → ℕ → Type 0
EndsExercise seed count old new status =
    ((status ≡ 0) × ((summary : List ℕ) × IsSummary seed count summary × Appends old new summary))
    ⊎ (((status ≡ 1) × Appends old new [])
    ⊎ ((status ≡ 4) × ((summary : List ℕ) × IsSummary seed count summary × AppendsPrefix old new summary)))
