-- What the two commands over records say, and what they write.
use Rattle.std.specs.Prelude.{◌≡◌, ◌⊎◌, ℕ, List, [], ◌∷◌, codes, decimal, Option}
use Rattle.std.specs.Io.KnownBytes.{Appends}
use Rattle.pump_audit.specs.Comparing.{IsCompared}
use Rattle.pump_audit.specs.Verdicts.{IsVerdict}
use Rattle.pump_audit.specs.declared.compared.Compared.{Compared}
use Rattle.pump_audit.specs.declared.compared.Compared.TheVariants.{Agree, Differ, NotRecord}
use Rattle.pump_audit.specs.declared.compared.What.{What}
use Rattle.pump_audit.specs.declared.compared.What.TheVariants as what
use Rattle.pump_audit.specs.declared.verdict.Verdict.{Verdict}
use Rattle.pump_audit.specs.declared.verdict.Verdict.TheVariants.{Yes, No}
use Rattle.pump_link.specs.Causes.{AppendsPrefix}
use Rattle.script_reader.specs.Transcript.{fault_line, line_with_end}
use Rattle.script_reader.specs.declared.fault.Fault.TheVariants as faults

-- the line and the status of a verdict
abbrev pub verdict_line : Verdict → List ℕ
verdict_line (Yes looks acks times) = line_with_end (codes "audit" ∷ codes "yes" ∷ decimal looks ∷ decimal
    acks ∷ decimal times ∷ [])
verdict_line (No line cause) = line_with_end (codes "audit" ∷ codes "no" ∷ decimal line ∷ decimal cause ∷ [])

abbrev pub verdict_status : Verdict → ℕ
verdict_status (Yes looks acks times) = 0
verdict_status (No line cause) = 15

-- the part in which two items differ, as a word
abbrev pub part_word : What → List ℕ
part_word what.Opening = codes "opening"
part_word what.Moment = codes "moment"
part_word what.Word = codes "word"
part_word what.Arrival = codes "arrival"
part_word what.Outcome = codes "outcome"
part_word what.Feedback = codes "feedback"
part_word what.Length = codes "length"

-- the line and the status of a comparison
abbrev pub compared_line : Compared → List ℕ
compared_line (Agree items) = line_with_end (codes "agree" ∷ decimal items ∷ [])
compared_line (Differ item part) = line_with_end (codes "differ" ∷ decimal item ∷ part_word part ∷ [])
compared_line (NotRecord line) = line_with_end (codes "fault" ∷ codes "script" ∷ decimal line ∷ [])

abbrev pub compared_status : Compared → ℕ
compared_status (Agree items) = 0
compared_status (Differ item part) = 16
compared_status (NotRecord line) = 5

-- What holds of the input is said, in a line and with a status; or memory was wanting, and nothing was
-- written; or the input could not be read, and that is said; or of one of these lines a prefix was written.
abbrev pub EndsSaying : {A : Type 0} → (A → Type 0) → (A → List ℕ) → (A → ℕ) → Type 0 → Option (List ℕ)
    → Option (List ℕ) → ℕ → Type 0
EndsSaying {A} Is line_of status_of Unread old new status =
    ((x : A) × Is x × (status ≡ status_of x) × Appends old new (line_of x))
    ⊎ (((status ≡ 1) × Appends old new [])
    ⊎ (((status ≡ 3) × Unread × Appends old new (fault_line faults.Read))
    ⊎ ((status ≡ 4) × (((x : A) × Is x × AppendsPrefix old new (line_of x))
    ⊎ (Unread × AppendsPrefix old new (fault_line faults.Read))))))

-- an audit of these bytes
abbrev pub EndsAudit : List ℕ → Type 0 → Option (List ℕ) → Option (List ℕ) → ℕ → Type 0
EndsAudit bytes Unread old new status = EndsSaying (IsVerdict bytes) verdict_line verdict_status Unread old new status

-- a comparison of the two records in these bytes
abbrev pub EndsComparison : List ℕ → Type 0 → Option (List ℕ) → Option (List ℕ) → ℕ → Type 0
EndsComparison bytes Unread old new status = EndsSaying (IsCompared bytes) compared_line compared_status Unread old new
    status
