-- What a low look does to the parts, by what it answers.
use Rattle.std.proofs.Common.{◌≡◌, ℕ, ◌≤◌, Bool, true, false, List, ◌++◌, Option, Some, None, Result, refl, sym, ap, ◌∙◌, subst}
use Rattle.std.specs.Prelude.{◌||◌}
use Rattle.disk_model.specs.Disk.{Meaning}
use Rattle.disk_model.specs.declared.name.Role.TheVariants as roles
use Rattle.pump_frame.specs.declared.payload.Payload.{Payload}
use Rattle.stable_buffer.specs.Low.{low_disk}
use Rattle.pump_core.specs.declared.feedback.Feedback.TheVariants.{Quiet}
use Rattle.pump_core.specs.History.{Arrival}
use Rattle.pump_core.specs.History.{Gone}
use Rattle.low_process.specs.declared.values.LowLook.{LowLook}
use Rattle.low_process.specs.Looks.{look_of}
use Rattle.low_process.specs.Storing.{StoreStep, wants, message_of, message_in}
use Rattle.script_reader.specs.declared.event.Event.{Event}
use Rattle.script_reader.specs.Past.{Past}
use Rattle.script_reader.specs.Lows.{first_of}
use Rattle.script_reader.specs.Steps.{IsLowLook, IsOfferedLook}
use Rattle.script_reader.specs.Breaks.{IsLost, IsLostLook}
use Rattle.two_worlds.specs.declared.applied.Stop.{Stop}
use Rattle.two_worlds.specs.declared.pump.parts.Parts.{Parts}
use Rattle.two_worlds.specs.Doing.{DoesFrom, PartsFail, PartsLeaveFit, NeverBreaks, NeverOverfills}
use Rattle.two_worlds.specs.Private.LowLooks.{stop_of}
use Rattle.two_worlds.specs.Printing.{look_prints}
use Rattle.two_worlds.specs.Standing.{Stands}
use Rattle.two_worlds.proofs.Low.Leads.{look_leads}
use Rattle.two_worlds.proofs.Low.Looked.{Looked}
use Rattle.two_worlds.proofs.Low.Lost.{look_loses}
use Rattle.two_worlds.proofs.Low.Serves.{stop_by}

-- a connection that is gone brings no message
none_gone : (b : Bool) → message_of b Gone ≡ None
none_gone true = refl
none_gone false = refl

module _ {D : Type 0} (m : Meaning D) (c d : Parts D) (moment word : ℕ) (a : Arrival) (l : LowLook) (order : c.moment ≤ moment) (out now : List Event) (prints : now ≡ out ++ look_prints c.row.id moment l) (p : Past) (stands : Stands m c p) where
  -- the process is down exactly where the device failed
  stops : (is_fault : Bool) (result : Result (Unit {0}) Stop) → Looked m c d moment word a is_fault l → result ≡ stop_of m d.low d.low_store → result ≡ stop_by is_fault (m.count (low_disk d.low_store))
  stops is_fault result did stop =
      stop ∙ ap (λ (b : Bool). stop_by b (m.count (low_disk d.low_store))) (did.step.falls ∙ ap (λ (b : Bool). b || is_fault) stands.low_ready.up)

  -- a device fails only in the store of a message
  in_store : (message : Option Payload) → message_in c.low a ≡ message → StoreStep m message c.low_store d.low_store true → (t : Payload) × (message_in c.low a ≡ Some t)
  in_store None e s = let no = s.0 in absurd (cc)
  in_store (Some t) e s = (t, e)

  offered_fine : a ≡ first_of p.is_broken p.waits → Looked m c d moment word a false l
      → (q : Past) × (printed : List Event) × IsOfferedLook c.row p moment word q printed × (now ≡ out ++ printed) × Stands m d q × PartsLeaveFit m c d p q
  offered_fine first did =
      let r = look_leads m c d p moment word a l did stands order in
      (r.0, look_prints c.row.id moment l, subst (λ (t : Arrival). IsLowLook c.row p moment word t r.0 (look_prints c.row.id moment l)) first (l.feedback, r.1), prints, r.2, r.3)

  offered_lost : a ≡ first_of p.is_broken p.waits → Looked m c d moment word a true l
      → (q : Past) × (printed : List Event) × ((roles.Low ≡ roles.Low) × IsLost c.row p moment word q printed) × (now ≡ out ++ printed) × PartsFail m d q roles.Low (m.count (low_disk d.low_store)) × PartsLeaveFit m c d p q
  offered_lost first did =
      let t = in_store (message_in c.low a) refl did.step.keeps in
      let r = look_loses m c d p moment word a l did stands order t.0 t.1 in (
        r.0,
        look_prints c.row.id moment l,
        (refl, subst (λ (u : Arrival). IsLostLook c.row p (look_of moment word u true Quiet) r.0 (look_prints c.row.id moment l)) first r.1),
        prints,
        r.2,
        r.3,
      )

  pub offered_does : (is_fault : Bool) (result : Result (Unit {0}) Stop) → a ≡ first_of p.is_broken p.waits → Looked m c d moment word a is_fault l → result ≡ stop_of m d.low d.low_store
      → DoesFrom (λ p q printed. IsOfferedLook c.row p moment word q printed) (λ role p q printed. (role ≡ roles.Low) × IsLost c.row p moment word q printed) NeverOverfills m c d out now p result
  offered_does true result first did stop =
      subst (DoesFrom (λ p q printed. IsOfferedLook c.row p moment word q printed) (λ role p q printed. (role ≡ roles.Low) × IsLost c.row p moment word q printed) NeverOverfills m c d out now p)
      (sym (stops true result did stop)) (offered_lost first did)
  offered_does false result first did stop =
      subst (DoesFrom (λ p q printed. IsOfferedLook c.row p moment word q printed) (λ role p q printed. (role ≡ roles.Low) × IsLost c.row p moment word q printed) NeverOverfills m c d out now p)
      (sym (stops false result did stop)) (offered_fine first did)

  gone_fine : a ≡ Gone → Looked m c d moment word a false l
      → (q : Past) × (printed : List Event) × IsLowLook c.row p moment word Gone q printed × (now ≡ out ++ printed) × Stands m d q × PartsLeaveFit m c d p q
  gone_fine gone did =
      let r = look_leads m c d p moment word a l did stands order in
      (r.0, look_prints c.row.id moment l, subst (λ (t : Arrival). IsLowLook c.row p moment word t r.0 (look_prints c.row.id moment l)) gone (l.feedback, r.1), prints, r.2, r.3)

  pub gone_does : (is_fault : Bool) (result : Result (Unit {0}) Stop) → a ≡ Gone → Looked m c d moment word a is_fault l → result ≡ stop_of m d.low d.low_store
      → DoesFrom (λ p q printed. IsLowLook c.row p moment word Gone q printed) NeverBreaks NeverOverfills m c d out now p result
  gone_does true result gone did stop =
      let t = in_store (message_in c.low a) refl did.step.keeps in
      let none : message_in c.low a ≡ None = ap (message_in c.low) gone ∙ none_gone (wants c.low Gone) in
      absurd (let no : None ≡ Some t.0 = sym none ∙ t.1 in cc)
  gone_does false result gone did stop =
      subst (DoesFrom (λ p q printed. IsLowLook c.row p moment word Gone q printed) NeverBreaks NeverOverfills m c d out now p) (sym (stops false result did stop)) (gone_fine gone did)
