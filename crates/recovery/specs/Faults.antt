-- What a fault line has of a refusal.
use Rattle.std.specs.Prelude.{ℕ}
use Rattle.recovery.specs.declared.why.Why.{Why}
use Rattle.recovery.specs.declared.why.Why.TheVariants.{Device, NotABuffer, WrongShape, BadRegister, Mismatch, BadSlot}
use Rattle.recovery.specs.declared.why.Why.TheVariants.{Apart, Differs, NotEmpty, Small, TooLong}

-- a refusal's number
abbrev pub why_number : Why → ℕ
why_number (Device faults) = 1
why_number (NotABuffer size bytes) = 2
why_number (WrongShape field found wanted) = 3
why_number (BadRegister first second) = 4
why_number (Mismatch removed accepted) = 5
why_number (BadSlot number length) = 6
why_number (Apart count bound) = 7
why_number (Differs number) = 8
why_number (NotEmpty size) = 9
why_number (Small held capacity) = 10
why_number (TooLong number length) = 11

-- its two values in their order, a missing one 0; a wrong shape's are without its field
abbrev pub why_values : Why → ℕ × ℕ
why_values (Device faults) = (faults, 0)
why_values (NotABuffer size bytes) = (size, bytes)
why_values (WrongShape field found wanted) = (found, wanted)
why_values (BadRegister first second) = (first, second)
why_values (Mismatch removed accepted) = (removed, accepted)
why_values (BadSlot number length) = (number, length)
why_values (Apart count bound) = (count, bound)
why_values (Differs number) = (number, 0)
why_values (NotEmpty size) = (size, 0)
why_values (Small held capacity) = (held, capacity)
why_values (TooLong number length) = (number, length)
