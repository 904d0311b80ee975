-- What comes with a line joins what waits.
use Rattle.std.proofs.Common.{◌≡◌, ℕ, ◌≤◌, ◌<◌, Bool, true, false, List, [], ◌++◌, length, refl, sym, ap, ◌∙◌, subst, append-nil}
use Rattle.std.proofs.lemmas.List.{length-map}
use Rattle.pump_frame.specs.Readings.{Reading, HasBegun}
use Rattle.pump_core.specs.History.{Arrival}
use Rattle.script_reader.specs.declared.line.Arriving.{Arriving}
use Rattle.script_reader.specs.declared.line.Arriving.TheVariants as arriving
use Rattle.script_reader.specs.Steps.{LineComing, coming, IsRead, Arrives}
use Rattle.two_worlds.specs.declared.connection.Waiting.{Waiting}
use Rattle.two_worlds.specs.Private.Arrivals.{arrival_of, arrivals_of, IsFed, Gathers}
use Rattle.two_worlds.specs.Connections.{Connected, AreLawful, JoinsRaw, Joins}
use Rattle.two_worlds.proofs.Arriving.Coming.{all-append, read_lawful}
use Rattle.two_worlds.proofs.Arriving.RawBytes.{fed_is_read, gathered, gathered_length}

-- the value of a connection with these fields
abbrev pub holding : List Waiting → Bool → Reading → Connected
holding ws broken r = record { waits = arrivals_of ws; is_broken = broken; reading = r }

pub joins_nothing : (ws : List Waiting) (broken : Bool) (r : Reading) (session : ℕ) (a : Arriving) (n : ℕ) → a ≡ arriving.Nothing → n ≡ length ws → n ≤ 64 → Joins (holding ws broken r) (holding ws broken r) session a true
joins_nothing ws broken r session a n is e few =
    let k : LineComing = coming [] r in
    let same : length (arrivals_of ws ++ []) ≡ n = ap length (append-nil (arrivals_of ws)) ∙ length-map ws arrival_of ∙ sym e in (
      k,
      subst (λ (t : Arriving). Arrives session r t k) (sym is) refl,
      (subst (λ (m : ℕ). m ≤ 64) (sym same) few, ap (λ (l : List Arrival). record { waits = l; is_broken = broken; reading = r }) (sym (append-nil (arrivals_of ws)))),
    )

-- raw bytes bring this, where `held` gathers it behind what waited
module _ (ws held : List Waiting) (broken : Bool) (r first s : Reading) (bytes : List ℕ) (added : List Arrival) (count : ℕ)
    (begun : HasBegun r) (same : first ≡ r) (fed : IsFed first bytes (coming added s)) (gathers : Gathers ws added held count) where
  is_read : IsRead r bytes (coming added s)
  is_read = fed_is_read r bytes added s begun (subst (λ (x : Reading). IsFed x bytes (coming added s)) same fed)

  pub raw_crowds : 64 < count → (cut : List Waiting) → cut ≡ ws → JoinsRaw (holding ws broken r) (holding cut broken r) bytes false
  raw_crowds many cut back = (
    coming added s,
    is_read,
    (
      subst (λ (n : ℕ). 64 < n) (sym (gathered_length ws added held count gathers)) many,
      ap (λ (l : List Waiting). holding l broken r) back,
    ),
  )

  module _ (few : count ≤ 64) where
    pub raw_lawful : AreLawful (arrivals_of ws) → AreLawful (arrivals_of held)
    raw_lawful lawful =
        subst AreLawful (sym (gathered ws added held count gathers few)) (all-append (arrivals_of ws) added lawful (read_lawful r bytes (coming added s) is_read))

    pub raw_joins : JoinsRaw (holding ws broken r) (holding held broken s) bytes true
    raw_joins = (
      coming added s,
      is_read,
      (
        subst (λ (n : ℕ). n ≤ 64) (sym (gathered_length ws added held count gathers)) few,
        ap (λ (l : List Arrival). record { waits = l; is_broken = broken; reading = s }) (gathered ws added held count gathers few),
      ),
    )
