-- What a generator has left, and the moments that it reaches. It serves private clauses and proofs alone.
use Rattle.std.specs.Prelude.{◌≡◌, ℕ, ◌+◌, ◌-◌, ◌*◌, ◌<◌, ◌≤◌, List, ◌∷◌, ◌++◌}
use Rattle.script_reader.specs.declared.line.Line.{Line}
use Rattle.script_reader.specs.declared.head.LineHead.{LineHead}
use Rattle.script_reader.specs.Heads.{line_with, CanHoldLine}
use Rattle.script_reader.specs.Lawful.{IsLawfulLine}
use Rattle.script_reader.specs.declared.generator.Progress.{Progress}
use Rattle.script_reader.specs.declared.generator.Turn.{Turn}
use Rattle.script_reader.specs.declared.generator.Turn.TheVariants.{Session, Hello, Offer, Pass, Take, Taken}
use Rattle.script_reader.specs.declared.generator.Turn.TheVariants.{Acknowledge, Takings}
use Rattle.script_reader.specs.Generated.{Mark, later, timed_by, takings, empty_look, early_lines, early, late_count}
use Rattle.script_reader.specs.Generated.{messages_from, first_hello, generated}

-- the messages after this one, of so many in all
abbrev pub rest_from : ℕ → ℕ → Mark → List Line
rest_from count number at = messages_from (count - (number + 1)) (number + 1) (later 1000 at)

-- the receiver takes so many before the next message
abbrev pub takings_on : ℕ → ℕ → ℕ → Mark → List Line
takings_on count number n at = takings n at ++ rest_from count number (timed_by n at)

-- what follows from the look on in which a message is acknowledged
abbrev pub acknowledge_on : ℕ → ℕ → ℕ → Mark → List Line
acknowledge_on count number word at = empty_look (later 100000 at).moment word ∷ takings_on count number
    (late_count number) (later 100000 at)

abbrev pub left_at : Turn → ℕ → ℕ → ℕ → Mark → List Line
left_at Session count number word at = generated at.draw count
left_at Hello count number word at = first_hello ∷ messages_from count 0 at
left_at Offer count number word at = messages_from (count - number) number at
left_at Pass count number word at =
    empty_look at.moment word ∷ (early_lines number word at ++ acknowledge_on count number word (early number at))
left_at Take count number word at = takings 1 at ++ empty_look (timed_by 1 at).moment word ∷ acknowledge_on count number
    word (timed_by 1 at)
left_at Taken count number word at = empty_look at.moment word ∷ acknowledge_on count number word at
left_at Acknowledge count number word at = acknowledge_on count number word at
left_at (Takings n) count number word at = takings_on count number n at

-- a message's first moment is at most this
abbrev pub moment_bound : ℕ → ℕ
moment_bound number = 1000 + 130000 * number

abbrev pub Reaches : Turn → ℕ → ℕ → Mark → Type 0
Reaches Session count number at = (number ≡ 0) × (at.moment ≡ 1000)
Reaches Hello count number at = (number ≡ 0) × (at.moment ≡ 1000)
Reaches Offer count number at = (number ≤ count) × (at.moment ≤ moment_bound number)
Reaches Pass count number at = (number < count) × (at.moment ≤ moment_bound number)
Reaches Take count number at = (number < count) × (at.moment ≤ moment_bound number)
Reaches Taken count number at = (number < count) × (at.moment ≤ moment_bound number + 4096)
Reaches Acknowledge count number at = (number < count) × (at.moment ≤ moment_bound number + 4096)
Reaches (Takings n) count number at = (number < count) × (0 < n) × (n ≤ 6)
    × (at.moment + n * 4096 ≤ moment_bound number + 128672)

abbrev pub mark_of : Progress → Mark
mark_of p = record { draw = p.draw; moment = p.moment }

-- the lines that are left
abbrev pub left_of : Progress → List Line
left_of p = left_at p.turn p.count p.message p.word (mark_of p)

abbrev pub IsOnTime : Progress → Type 0
IsOnTime p = (p.count ≤ 100000) × Reaches p.turn p.count p.message (mark_of p)

-- the next line is given, with these bytes
pub record Gives (old new : Progress) (bytes : List ℕ) (head : LineHead) : Type 0 where
  pub next : left_of old ≡ line_with bytes head ∷ left_of new
  pub lawful : IsLawfulLine (line_with bytes head)
  pub room : CanHoldLine head bytes
  pub on_time : IsOnTime new
