-- Which frames are lawful: a form for each of the seven kinds.
use Rattle.std.specs.Prelude.{◌≡◌, ℕ, ◌^◌, ◌<◌, ◌≤◌, List, [], ◌∷◌, ◌++◌, length}
use Rattle.pump_frame.specs.Names.{IsName}
use Rattle.pump_frame.specs.declared.frame.Kind.{Kind}
use Rattle.pump_frame.specs.declared.frame.Kind.TheVariants.{Hello, Welcome, Data, Ack, Refuse, Attach, Taken}
use Rattle.pump_frame.specs.declared.frame.Frame.{Frame}

-- a HELLO's payload: the low name, a colon, the high name
abbrev pub greeting : List ℕ → List ℕ → List ℕ
greeting low high = low ++ 58 ∷ high

-- the payload of a HELLO
abbrev pub AreNames : List ℕ → Type 0
AreNames payload = (low : List ℕ) × (high : List ℕ)
    × IsName low × IsName high × (payload ≡ greeting low high)

-- the payload of a REFUSE, why a frame was not taken
abbrev pub IsCode : List ℕ → Type 0
IsCode payload = (code : ℕ) × (1 ≤ code) × (code ≤ 5) × (payload ≡ code ∷ [])

-- the number and the payload that a frame of this kind may have
abbrev pub IsForm : Kind → ℕ → List ℕ → Type 0
IsForm Hello number payload = (number ≡ 0) × AreNames payload
IsForm Welcome number payload = (number ≤ 2 ^ 48) × (payload ≡ [])
IsForm Data number payload = (number < 2 ^ 48) × (length payload ≤ 1024)
IsForm Ack number payload = (number < 2 ^ 48) × (payload ≡ [])
IsForm Refuse number payload = (number ≤ 2 ^ 48) × IsCode payload
IsForm Attach number payload = (number ≤ 2 ^ 48) × (payload ≡ [])
IsForm Taken number payload = (number < 2 ^ 48) × (payload ≡ [])

-- any session of 32 bits, and the form of the kind
pub record IsLawful (f : Frame) : Type 0 where
  pub session : f.session < 2 ^ 32
  pub form : IsForm f.kind f.number f.payload
